-- What a message allows is an enabled event, and the numbers after it are those of the part after it.
use Rattle.std.proofs.Common.{ℕ, ◌≡◌, ◌+◌, ◌<◌, ◌≤◌, length, take, arith, refl, sym, subst, ◌∙◌}
use Rattle.std.specs.Prelude.{◌==◌, ◌&&◌, Bool, false}
use Rattle.std.proofs.lemmas.Bool.Decides.{nat_tests}
use mathlib.Core.Logic.{◌⊎◌, inl, inr}
use Rattle.core_lists.specs.Lists.{Has}
use Rattle.core_lists.specs.Majorities.{Majority}
use Rattle.core_lists.proofs.Fronts.{front_take, length_take, take_length}
use Rattle.cluster_consensus.specs.Facts.{World}
use Rattle.cluster_consensus.specs.Events.{NodeEvent, change}
use Rattle.cluster_consensus.specs.Events.NodeEvent.{Grants, LearnLead, LearnFollow, Confirm, Stand}
use Rattle.cluster_consensus.specs.Enabled.{Enabled, Below, IsGranted}
use Rattle.election_core.specs.Counts.{has_bit, reaches}
use Rattle.election_core.specs.Counted.{acted, counted}
use Rattle.election_core.specs.Allowed.{MayStand, MayGrant, MayLead, Takes, MayTake, MayLearn, MayHear, MayConfirm, Allows}
use Rattle.election_core.specs.Told.{IsPart, IsMessageTold, IsAcked, IsCounted, IsEventOf}
use Rattle.election_core.specs.declared.votes.NodeVote.{NodeVote}
use Rattle.election_core.specs.declared.messages.Message.{Message}
use Rattle.election_core.specs.declared.messages.Message.TheVariants.{Vote, Granted, Adopt, Ship, Ack, Durable, Ping, Pong}
use Rattle.election_core.specs.declared.messages.Action.{Action}
use Rattle.election_core.specs.declared.messages.Action.TheVariants.{Nothing, Promise, Know, Answer}
use Rattle.election_core.specs.declared.messages.Action.TheVariants as action

-- an event that the action stands for, enabled, with the numbers after both alike
pub record Happens {E : Type 0} (n : ℕ) (w : World E) (v : NodeVote) (a : Action) : Type 0 where
  pub event : NodeEvent E
  pub named : IsEventOf v a event
  pub enabled : Enabled n w v.node (w.nodes v.node) event
  pub part : IsPart (acted v a) (change v.node (w.nodes v.node) event)

pub stand_enabled : {E : Type 0} (n : ℕ) (w : World E) (v : NodeVote) (g : ℕ) → IsPart v (w.nodes v.node) → MayStand v g
    → Enabled n w v.node (w.nodes v.node) (Stand g) × IsPart (acted v (Promise g v.node)) (change v.node (w.nodes v.node) (Stand g))
stand_enabled n w v g p m =
    let a : v.promised ≡ (w.nodes v.node).promised = p.promised in
    let b : v.promised < g = m.1 in (
      (sym p.up ∙ m.0, omega arith),
      record { promised = refl; accepted = p.accepted; length = p.length; adopted = p.adopted; durable = p.durable; leading = refl; up = p.up },
    )

grant_happens : {E : Type 0} (n : ℕ) (w : World E) (v : NodeVote) (f g a l : ℕ) → IsPart v (w.nodes v.node) → IsMessageTold w (Vote f g a l) → MayGrant v g a l → Happens n w v (Promise g f)
grant_happens {E} n w v f g a l p x m = record {
  event = Grants g f;
  named = refl;
  enabled = (sym p.up ∙ m.0, (let s : v.promised ≡ (w.nodes v.node).promised = p.promised in let b : v.promised < g = m.1 in omega arith), record { it = x.it; mem = x.mem; is = (x.is.0, below m.2) });
  part = record { promised = refl; accepted = p.accepted; length = p.length; adopted = p.adopted; durable = p.durable; leading = refl; up = p.up };
}
  where
    below : Below v.accepted v.length a l → Below (w.nodes v.node).accepted (length (w.nodes v.node).log) x.it.accepted (length x.it.log)
    below (inl lt) = inl (let s : v.accepted ≡ (w.nodes v.node).accepted = p.accepted in let t : x.it.accepted ≡ a = x.is.1 in omega arith)
    below (inr e) = inr (sym p.accepted ∙ (e.0 ∙ sym x.is.1), (let s : v.length ≡ length (w.nodes v.node).log = p.length in let t : length x.it.log ≡ l = x.is.2 in let le : v.length ≤ l = e.1 in omega arith))

lead_happens : {E : Type 0} (n : ℕ) (w : World E) (v : NodeVote) (g to : ℕ) → v.nodes ≡ n → IsPart v (w.nodes v.node) → IsCounted w v → MayLead v g to → Happens n w v (action.Lead g)
lead_happens {E} n w v g to size p c m = record {
  event = NodeEvent.Lead;
  named = (m.2, refl);
  enabled = (sym p.up ∙ m.0, ((let s : v.promised ≡ (w.nodes v.node).promised = p.promised in let t : v.accepted ≡ (w.nodes v.node).accepted = p.accepted in let lt : v.accepted < v.promised = m.3 in omega arith), many));
  part = record { promised = p.promised; accepted = m.2 ∙ p.promised; length = p.length; adopted = p.length; durable = p.durable; leading = refl; up = p.up };
}
  where
    many : Majority n (IsGranted w (w.nodes v.node).promised v.node)
    many = subst (λ t. Majority t (IsGranted w (w.nodes v.node).promised v.node)) size (record {
      who = λ k. has_bit v.granted k;
      many = m.4;
      hold = λ k q le e. subst (λ t. IsGranted w t v.node k) p.promised (c.granted k e);
    })

both_true : (b c : Bool) → b ≡ c → (x y : ℕ) → x ≡ y → (b && (x == y)) ≡ c
both_true b c e x y f = grind (arith, nat_tests)

both_false : (b : Bool) (x y : ℕ) → x < y → (b && (x == y)) ≡ false
both_false b x y lt = grind (arith, nat_tests)

take_happens : {E : Type 0} (n : ℕ) (w : World E) (v : NodeVote) (f g l m : ℕ) → IsPart v (w.nodes v.node) → Has (λ x. (x.gen ≡ g) × (length x.log ≡ l)) (w.nodes f).ships → MayTake v g l m → Happens n w v (action.Take g m)
take_happens {E} n w v f g l m p x may = go may.2
  where
    acc : v.accepted ≡ (w.nodes v.node).accepted
    acc = p.accepted

    pro : (w.nodes v.node).promised ≤ g
    pro = let s : v.promised ≡ (w.nodes v.node).promised = p.promised in let b : v.promised ≤ g = may.1 in omega arith

    -- a longer log, or the same length again, of the accepted generation
    grows : v.accepted ≡ g → m ≤ l → (m ≡ length (w.nodes v.node).log + 1) ⊎ ((m ≡ length (w.nodes v.node).log) × (m ≡ l)) → Happens n w v (action.Take g m)
    grows e le shape =
        let xl : length x.it.log ≡ l = x.is.1 in
        let a = length_take m x.it.log in
        let b = take_length m x.it.log (omega arith) in
        let len : length (take m x.it.log) ≡ m = omega arith in
        let og : (w.nodes v.node).accepted ≡ g = sym acc ∙ e in
        record {
          event = NodeEvent.Grow (take m x.it.log);
          named = inl (e, take m x.it.log, refl, len);
          enabled = (sym p.up ∙ may.0, (omega arith, f, record { it = x.it; mem = x.mem; is = (x.is.0 ∙ sym og, front_take m x.it.log, sizes shape len xl) }));
          part = record { promised = sym og; accepted = sym og; length = sym len; adopted = p.adopted; durable = p.durable; leading = both_true v.leading (w.nodes v.node).leading p.leading v.accepted g e; up = p.up };
        }
      where
        sizes : (m ≡ length (w.nodes v.node).log + 1) ⊎ ((m ≡ length (w.nodes v.node).log) × (m ≡ l)) → length (take m x.it.log) ≡ m → length x.it.log ≡ l
            → (length (take m x.it.log) ≡ length (w.nodes v.node).log + 1) ⊎ ((length (take m x.it.log) ≡ length (w.nodes v.node).log) × (length (take m x.it.log) ≡ length x.it.log))
        sizes (inl h) len xl = inl (len ∙ h)
        sizes (inr h) len xl = inr (len ∙ h.0, len ∙ (h.1 ∙ sym xl))

    go : Takes v g l m → Happens n w v (action.Take g m)
    go (inl t) =
        let lt : v.accepted < g = t.0 in
        let len : length x.it.log ≡ m = x.is.1 ∙ sym t.1 in
        record {
          event = NodeEvent.Take g x.it.log;
          named = inr (x.it.log, refl, len);
          enabled = (sym p.up ∙ may.0, (pro, omega arith, (f, record { it = x.it; mem = x.mem; is = (x.is.0, refl) })));
          part = record { promised = refl; accepted = refl; length = sym len; adopted = p.adopted; durable = p.durable; leading = both_false v.leading v.accepted g lt; up = p.up };
        }
    go (inr (inl t)) =
        let a : v.length < l = t.1.0 in
        let b : m ≡ v.length + 1 = t.1.1 in
        let c : v.length ≡ length (w.nodes v.node).log = p.length in
        grows t.0 (omega arith) (inl (omega arith))
    go (inr (inr t)) =
        let a : v.length ≡ l = t.1.0 in
        let b : m ≡ l = t.1.1 in
        let c : v.length ≡ length (w.nodes v.node).log = p.length in
        grows t.0 (omega arith) (inr (omega arith, b))

learn_happens : {E : Type 0} (n : ℕ) (w : World E) (v : NodeVote) (g d : ℕ) → v.nodes ≡ n → IsPart v (w.nodes v.node) → IsCounted w v → MayLearn v g d → Happens n w v (Know d)
learn_happens {E} n w v g d size p c m = record {
  event = LearnLead d;
  named = inl refl;
  enabled = (sym p.up ∙ m.0, sym p.leading ∙ m.1, m.3, (let s : v.durable ≡ (w.nodes v.node).durable = p.durable in let b : v.durable ≤ d = m.4 in omega arith), many);
  part = record { promised = p.promised; accepted = p.accepted; length = p.length; adopted = p.adopted; durable = refl; leading = p.leading; up = p.up };
}
  where
    many : Majority n (IsAcked w (w.nodes v.node).accepted d)
    many = subst (λ t. Majority t (IsAcked w (w.nodes v.node).accepted d)) size (record {
      who = λ k. reaches v.acked d k;
      many = m.5;
      hold = λ k q le e. subst (λ t. IsAcked w t d k) p.accepted (c.acked m.1 d k m.3 e);
    })

hear_happens : {E : Type 0} (n : ℕ) (w : World E) (v : NodeVote) (f g l d : ℕ) → IsPart v (w.nodes v.node) → IsMessageTold w (Durable f g l) → MayHear v g l d → Happens n w v (Know d)
hear_happens {E} n w v f g l d p x m =
    let a : v.durable ≡ (w.nodes v.node).durable = p.durable in
    let b : v.length ≡ length (w.nodes v.node).log = p.length in
    let e : v.accepted ≡ (w.nodes v.node).accepted = p.accepted in
    let k : v.durable < d = m.2 in
    let i : d ≤ v.length = m.3 in
    let j : g ≤ v.accepted = m.4 in
    let o : d ≤ l = m.5 in
    let xg : x.it.gen ≡ g = x.is.0 in
    let xl : length x.it.log ≡ l = x.is.1 in
    record {
      event = LearnFollow d;
      named = inr refl;
      enabled = (sym p.up ∙ m.0, sym p.leading ∙ m.1, omega arith, omega arith, f, record { it = x.it; mem = x.mem; is = (omega arith, omega arith) });
      part = record { promised = p.promised; accepted = p.accepted; length = p.length; adopted = p.adopted; durable = refl; leading = p.leading; up = p.up };
    }

confirm_happens : {E : Type 0} (n : ℕ) (w : World E) (v : NodeVote) (f g t d to : ℕ) → IsPart v (w.nodes v.node) → IsMessageTold w (Ping f g t d) → MayConfirm v g → Happens n w v (Answer (Pong v.node g t) to)
confirm_happens {E} n w v f g t d to p x m = record {
  event = Confirm t g;
  named = refl;
  enabled = (sym p.up ∙ m.0, (let s : v.promised ≡ (w.nodes v.node).promised = p.promised in let b : v.promised ≤ g = m.1 in omega arith), f, record { it = x.it; mem = x.mem; is = (x.is.0, x.is.1) });
  part = record { promised = p.promised; accepted = p.accepted; length = p.length; adopted = p.adopted; durable = p.durable; leading = p.leading; up = p.up };
}

-- by the numbers in which the message is counted
pub allowed_happens : {E : Type 0} (n : ℕ) (w : World E) (v : NodeVote) (m : Message) (a : Action) → v.nodes ≡ n → IsPart v (w.nodes v.node) → IsPart (counted v m) (w.nodes (counted v m).node) → (counted v m).nodes ≡ n → IsCounted w (counted v m) → IsMessageTold w m → Allows v m a → Happens n w (counted v m) a
allowed_happens n w v (Vote f g a l) (Promise h to) size p q size' c x may = subst (λ t. Happens n w v (Promise t to)) (sym may.1) (subst (λ t. Happens n w v (Promise g t)) (sym may.2) (grant_happens n w v f g a l p x may.0))
allowed_happens n w v (Granted f g to) (action.Lead h) size p q size' c x may = subst (λ t. Happens n w (counted v (Granted f g to)) (action.Lead t)) (sym may.1) (lead_happens n w (counted v (Granted f g to)) g to size' q c may.0)
allowed_happens n w v (Adopt f g l) (action.Take h m) size p q size' c x may = subst (λ t. Happens n w v (action.Take t m)) (sym may.1) (take_happens n w v f g l m p x may.0)
allowed_happens n w v (Ship f g l) (action.Take h m) size p q size' c x may = subst (λ t. Happens n w v (action.Take t m)) (sym may.1) (take_happens n w v f g l m p x may.0)
allowed_happens n w v (Ack f g l) (Know d) size p q size' c x may = learn_happens n w (counted v (Ack f g l)) g d size' q c may
allowed_happens n w v (Durable f g l) (Know d) size p q size' c x may = hear_happens n w v f g l d p x may
allowed_happens n w v (Ping f g t d) (Answer m to) size p q size' c x may = subst (λ r. Happens n w v (Answer r to)) (sym may.1) (confirm_happens n w v f g t d to p x may.0)
allowed_happens n w v _ _ size p q size' c x may = absurd may

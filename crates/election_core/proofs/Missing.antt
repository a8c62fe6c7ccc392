-- Where a message allows nothing, what may happen may happen without it.
use Rattle.std.proofs.Common.{ℕ, ◌≡◌, ◌≢◌, ◌+◌, ◌*◌, ◌<◌, ◌≤◌, List, ◌∷◌, length, arith, refl, sym, subst, ◌∙◌}
use Rattle.std.specs.Prelude.{◌==◌, ◌&&◌, Bool, true, false, cond, zero, suc}
use Rattle.std.proofs.lemmas.Bool.Decides.{nat_tests, Decides-eqb}
use mathlib.Core.Logic.{◌⊎◌, inl, inr}
use Rattle.core_lists.specs.Lists.{Each, Has}
use Rattle.core_lists.specs.Majorities.{Majority, count}
use Rattle.core_lists.specs.Fronts.{Front}
use Rattle.core_lists.proofs.Fronts.{front_length}
use Rattle.core_lists.proofs.Majorities.{majority_weaker}
use Rattle.cluster_consensus.specs.Facts.{World, Claim}
use Rattle.cluster_consensus.specs.Events.{NodeEvent}
use Rattle.cluster_consensus.specs.Events.NodeEvent.{Admits, Boot, Down, Back, BackLead, BackTake, BackGrow, BackAppend, Stand, Grants, Grow, Append, LearnLead, LearnFollow, Asks, Probe, Confirm}
use Rattle.cluster_consensus.specs.Enabled.{Enabled, Below, IsGranted, Fit}
use Rattle.election_core.specs.Counts.{has_bit, reaches}
use Rattle.election_core.specs.Counted.{counted, counts_vote}
use Rattle.election_core.specs.Allowed.{MayTake, Allows}
use Rattle.election_core.specs.Told.{IsPart, IsAcked}
use Rattle.election_core.specs.Without.{Ships, LacksOnly, CountsAll, comes_up}
use Rattle.election_core.proofs.Keeping.{part_kept, same_nodes, vote_tests}
use Rattle.election_core.specs.declared.votes.NodeVote.{NodeVote}
use Rattle.election_core.specs.declared.messages.Message.{Message}
use Rattle.election_core.specs.declared.messages.Message.TheVariants.{Vote, Granted, Adopt, Ship, Ack, Durable, Ping, Pong}
use Rattle.election_core.specs.declared.messages.Action.{Action}
use Rattle.election_core.specs.declared.messages.Action.TheVariants.{Promise, Know, Answer}
use Rattle.election_core.specs.declared.messages.Action.TheVariants as action

-- the message allows nothing
abbrev pub Refuses : NodeVote → Message → Type 0
Refuses v m = (a : Action) → Allows v m a → ⊥

refused : (v : NodeVote) (m k : Message) (a : Action) → Refuses v m → m ≡ k → Allows v k a → ⊥
refused v m k a none e may = none a (subst (λ t. Allows v t a) (sym e) may)

count_step : (p q : Bool) (m n : ℕ) → (p ≡ true → q ≡ true) → m ≤ n → cond p 1 0 + m ≤ cond q 1 0 + n
count_step true true m n h le = omega arith
count_step true false m n h le = let e : false ≡ true = h refl in absurd (cc)
count_step false true m n h le = omega arith
count_step false false m n h le = omega arith

-- a test that takes more counts no less
count_more : (n : ℕ) (p q : ℕ → Bool) → ((k : ℕ) → 0 < k → k ≤ n → p k ≡ true → q k ≡ true) → count n p ≤ count n q
count_more zero p q h = omega arith
count_more (suc n) p q h = count_step (p (suc n)) (q (suc n)) (count n p) (count n q) (h (suc n) (omega arith) (omega arith)) (count_more n p q (λ k pos le. h k pos (omega arith)))

-- a majority is counted by each test that takes its members
many : {n : ℕ} {P : ℕ → Type 0} (a : Majority n P) (q : ℕ → Bool) → ((k : ℕ) → 0 < k → k ≤ n → P k → q k ≡ true) → n < 2 * count n q
many {n} {P} a q h =
    let m : n < 2 * count n a.who = a.many in
    let c : count n a.who ≤ count n q = count_more n a.who q (λ k pos le e. h k pos le (a.hold k pos le e)) in
    omega arith

-- a vote: granted without this message, or the message allows it
grant_without : {E : Type 0} (n : ℕ) (w u : World E) (v : NodeVote) (m : Message) (g to : ℕ) → IsPart v (w.nodes v.node) → LacksOnly m w u → Refuses v m
    → Enabled n w v.node (w.nodes v.node) (Grants g to) → Enabled n u v.node (w.nodes v.node) (Grants g to)
grant_without {E} n w u v m g to p lacks none h =
    elim ((lacks.votes to).at h.2.it h.2.mem) [
      | inl i ↦ (h.0, h.1, record { it = h.2.it; mem = i; is = h.2.is })
      | inr e ↦ absurd (refused v m (Vote to h.2.it.gen h.2.it.accepted (length h.2.it.log)) (Promise h.2.it.gen to) none e ((p.up ∙ h.0, above, below h.2.is.1), refl, refl))
    ]
  where
    above : v.promised < h.2.it.gen
    above = let s : v.promised ≡ (w.nodes v.node).promised = p.promised in let t : h.2.it.gen ≡ g = h.2.is.0 in let lt : (w.nodes v.node).promised < g = h.1 in omega arith

    below : Below (w.nodes v.node).accepted (length (w.nodes v.node).log) h.2.it.accepted (length h.2.it.log) → Below v.accepted v.length h.2.it.accepted (length h.2.it.log)
    below (inl lt) = inl (let s : v.accepted ≡ (w.nodes v.node).accepted = p.accepted in omega arith)
    below (inr e) = inr (p.accepted ∙ e.0, (let s : v.length ≡ length (w.nodes v.node).log = p.length in let le : length (w.nodes v.node).log ≤ length h.2.it.log = e.1 in omega arith))

-- the message is a vote for this node in the generation that it promised
abbrev own_grant : NodeVote → Message → Bool
own_grant v (Granted f g to) = counts_vote v g to
own_grant v _ = false

-- with such a vote counted no majority granted
never_leads : {E : Type 0} (n : ℕ) (w : World E) (v : NodeVote) (m : Message) → v.nodes ≡ n → IsPart v (w.nodes v.node) → CountsAll w (counted v m) → Refuses v m → own_grant v m ≡ true
    → Enabled n w v.node (w.nodes v.node) NodeEvent.Lead → ⊥
never_leads {E} n w v (Granted f g to) size p all none own h =
    none (action.Lead g) ((q.up ∙ h.0, t.0 ∙ sym same.0, t.1 ∙ (p.promised ∙ sym q.promised), above, reached), refl)
  where
    t : (to ≡ v.node) × (g ≡ v.promised)
    t = vote_tests to v.node g v.promised own

    same : ((counted v (Granted f g to)).node ≡ v.node) × ((counted v (Granted f g to)).nodes ≡ v.nodes)
    same = same_nodes v (Granted f g to)

    q : IsPart (counted v (Granted f g to)) (w.nodes v.node)
    q = part_kept v (Granted f g to) (w.nodes v.node) p

    above : (counted v (Granted f g to)).accepted < (counted v (Granted f g to)).promised
    above = subst (λ a. a < (counted v (Granted f g to)).promised) (sym q.accepted) (subst (λ b. (w.nodes v.node).accepted < b) (sym q.promised) h.1.0)

    granted : Majority (counted v (Granted f g to)).nodes (IsGranted w (counted v (Granted f g to)).promised (counted v (Granted f g to)).node)
    granted =
        subst (λ i. Majority (counted v (Granted f g to)).nodes (IsGranted w (counted v (Granted f g to)).promised i)) (sym same.0)
        (subst (λ b. Majority (counted v (Granted f g to)).nodes (IsGranted w b v.node)) (sym q.promised)
        (subst (λ k. Majority k (IsGranted w (w.nodes v.node).promised v.node)) (sym (same.1 ∙ size)) h.1.1))

    reached : (counted v (Granted f g to)).nodes < 2 * count (counted v (Granted f g to)).nodes (λ k. has_bit (counted v (Granted f g to)).granted k)
    reached = many granted (λ k. has_bit (counted v (Granted f g to)).granted k) all.granted
never_leads n w v (Vote f g a l) size p all none own h = absurd (cc)
never_leads n w v (Adopt f g l) size p all none own h = absurd (cc)
never_leads n w v (Ship f g l) size p all none own h = absurd (cc)
never_leads n w v (Ack f g l) size p all none own h = absurd (cc)
never_leads n w v (Durable f g l) size p all none own h = absurd (cc)
never_leads n w v (Ping f g t d) size p all none own h = absurd (cc)
never_leads n w v (Pong f g t) size p all none own h = absurd (cc)

both : (a b c d : ℕ) → a ≡ b → c ≡ d → (a == b && c == d) ≡ true
both a b c d e f = grind (arith, nat_tests)

lead_without : {E : Type 0} (n : ℕ) (w u : World E) (v : NodeVote) (m : Message) → v.nodes ≡ n → IsPart v (w.nodes v.node) → CountsAll w (counted v m) → LacksOnly m w u → Refuses v m
    → Enabled n w v.node (w.nodes v.node) NodeEvent.Lead → Enabled n u v.node (w.nodes v.node) NodeEvent.Lead
lead_without {E} n w u v m size p all lacks none h = go (own_grant v m) refl
  where
    kept : own_grant v m ≡ false → (k : ℕ) → IsGranted w (w.nodes v.node).promised v.node k → IsGranted u (w.nodes v.node).promised v.node k
    kept other k x = elim ((lacks.grants k).at x.it x.mem) [
      | inl i ↦ record { it = x.it; mem = i; is = x.is }
      | inr e ↦
          let a : counts_vote v x.it.gen x.it.to ≡ false = subst (λ t. own_grant v t ≡ false) e other in
          let b : counts_vote v x.it.gen x.it.to ≡ true = both x.it.to v.node x.it.gen v.promised x.is.1 (x.is.0 ∙ sym p.promised) in
          absurd (cc)
    ]

    go : (b : Bool) → own_grant v m ≡ b → Enabled n u v.node (w.nodes v.node) NodeEvent.Lead
    go true own = absurd (never_leads n w v m size p all none own h)
    go false other = (h.0, (h.1.0, majority_weaker (kept other) h.1.1))

-- the message allows to take that much of what it ships
ship_refused : {E : Type 0} (v : NodeVote) (m : Message) (k : ℕ) (s : Claim E) (l : ℕ) → Refuses v m → Ships m k s → MayTake v s.gen (length s.log) l → ⊥
ship_refused v m k s l none (inl e) may = refused v m (Adopt k s.gen (length s.log)) (action.Take s.gen l) none e (may, refl)
ship_refused v m k s l none (inr e) may = refused v m (Ship k s.gen (length s.log)) (action.Take s.gen l) none e (may, refl)

take_without : {E : Type 0} (n : ℕ) (w u : World E) (v : NodeVote) (m : Message) (g : ℕ) (x : List E) → IsPart v (w.nodes v.node) → LacksOnly m w u → Refuses v m
    → Enabled n w v.node (w.nodes v.node) (NodeEvent.Take g x) → Enabled n u v.node (w.nodes v.node) (NodeEvent.Take g x)
take_without {E} n w u v m g x p lacks none h = go h.1.2.1
  where
    go : Has (λ s. (s.gen ≡ g) × (s.log ≡ x)) (w.nodes h.1.2.0).ships → Enabled n u v.node (w.nodes v.node) (NodeEvent.Take g x)
    go s = elim ((lacks.ships h.1.2.0).at s.it s.mem) [
      | inl i ↦ (h.0, (h.1.0, h.1.1, (h.1.2.0, record { it = s.it; mem = i; is = s.is })))
      | inr e ↦
          let a : v.promised ≡ (w.nodes v.node).promised = p.promised in
          let b : v.accepted ≡ (w.nodes v.node).accepted = p.accepted in
          let c : s.it.gen ≡ g = s.is.0 in
          let le : (w.nodes v.node).promised ≤ g = h.1.0 in
          let lt : (w.nodes v.node).accepted < g = h.1.1 in
          absurd (ship_refused v m h.1.2.0 s.it (length s.it.log) none e (p.up ∙ h.0, omega arith, inl (omega arith, refl)))
    ]

grow_without : {E : Type 0} (n : ℕ) (w u : World E) (v : NodeVote) (m : Message) (x : List E) → IsPart v (w.nodes v.node) → LacksOnly m w u → Refuses v m
    → Enabled n w v.node (w.nodes v.node) (Grow x) → Enabled n u v.node (w.nodes v.node) (Grow x)
grow_without {E} n w u v m x p lacks none h =
    elim ((lacks.ships h.1.1).at h.1.2.it h.1.2.mem) [
      | inl i ↦ (h.0, (h.1.0, h.1.1, record { it = h.1.2.it; mem = i; is = h.1.2.is }))
      | inr e ↦ absurd (takes h.1.2.is.2 e)
    ]
  where
    below : v.promised ≤ h.1.2.it.gen
    below =
        let a : v.promised ≡ (w.nodes v.node).promised = p.promised in
        let b : h.1.2.it.gen ≡ (w.nodes v.node).accepted = h.1.2.is.0 in
        let le : (w.nodes v.node).promised ≤ (w.nodes v.node).accepted = h.1.0 in
        omega arith

    same : v.accepted ≡ h.1.2.it.gen
    same = p.accepted ∙ sym h.1.2.is.0

    takes : (length x ≡ length (w.nodes v.node).log + 1) ⊎ ((length x ≡ length (w.nodes v.node).log) × (length x ≡ length h.1.2.it.log)) → Ships m h.1.1 h.1.2.it → ⊥
    takes (inl more) e =
        let a : v.length ≡ length (w.nodes v.node).log = p.length in
        let b : length x ≤ length h.1.2.it.log = front_length h.1.2.is.1 in
        ship_refused v m h.1.1 h.1.2.it (v.length + 1) none e (p.up ∙ h.0, below, inr (inl (same, (omega arith, refl))))
    takes (inr again) e = ship_refused v m h.1.1 h.1.2.it (length h.1.2.it.log) none e (p.up ∙ h.0, below, inr (inr (same, (p.length ∙ (sym again.0 ∙ again.1), refl))))

-- the message acknowledges a length in the generation that this node accepted
abbrev own_ack : NodeVote → Message → Bool
own_ack v (Ack f g l) = g == v.accepted
own_ack v _ = false

-- with such a length counted no majority acknowledged
never_learns : {E : Type 0} (n : ℕ) (w : World E) (v : NodeVote) (m : Message) (d : ℕ) → v.nodes ≡ n → IsPart v (w.nodes v.node) → CountsAll w (counted v m) → Refuses v m → own_ack v m ≡ true
    → Enabled n w v.node (w.nodes v.node) (LearnLead d) → ⊥
never_learns {E} n w v (Ack f g l) d size p all none own h =
    none (Know d) (q.up ∙ h.0, lead, (Decides-eqb g v.accepted).0 own ∙ (p.accepted ∙ sym q.accepted), h.2, known, reached)
  where
    same : ((counted v (Ack f g l)).node ≡ v.node) × ((counted v (Ack f g l)).nodes ≡ v.nodes)
    same = same_nodes v (Ack f g l)

    q : IsPart (counted v (Ack f g l)) (w.nodes v.node)
    q = part_kept v (Ack f g l) (w.nodes v.node) p

    lead : (counted v (Ack f g l)).leading ≡ true
    lead = q.leading ∙ h.1

    known : (counted v (Ack f g l)).durable ≤ d
    known = subst (λ a. a ≤ d) (sym q.durable) h.3

    acked : Majority (counted v (Ack f g l)).nodes (IsAcked w (counted v (Ack f g l)).accepted d)
    acked =
        subst (λ b. Majority (counted v (Ack f g l)).nodes (IsAcked w b d)) (sym q.accepted)
        (subst (λ k. Majority k (IsAcked w (w.nodes v.node).accepted d)) (sym (same.1 ∙ size)) h.4)

    reached : (counted v (Ack f g l)).nodes < 2 * count (counted v (Ack f g l)).nodes (λ k. reaches (counted v (Ack f g l)).acked d k)
    reached = many acked (λ k. reaches (counted v (Ack f g l)).acked d k) (λ k pos le x. all.acked lead d k h.2 pos le x)
never_learns n w v (Vote f g a l) d size p all none own h = absurd (cc)
never_learns n w v (Granted f g to) d size p all none own h = absurd (cc)
never_learns n w v (Adopt f g l) d size p all none own h = absurd (cc)
never_learns n w v (Ship f g l) d size p all none own h = absurd (cc)
never_learns n w v (Durable f g l) d size p all none own h = absurd (cc)
never_learns n w v (Ping f g t k) d size p all none own h = absurd (cc)
never_learns n w v (Pong f g t) d size p all none own h = absurd (cc)

learn_without : {E : Type 0} (n : ℕ) (w u : World E) (v : NodeVote) (m : Message) (d : ℕ) → v.nodes ≡ n → IsPart v (w.nodes v.node) → CountsAll w (counted v m) → LacksOnly m w u → Refuses v m
    → Enabled n w v.node (w.nodes v.node) (LearnLead d) → Enabled n u v.node (w.nodes v.node) (LearnLead d)
learn_without {E} n w u v m d size p all lacks none h = go (own_ack v m) refl
  where
    kept : own_ack v m ≡ false → (k : ℕ) → IsAcked w (w.nodes v.node).accepted d k → IsAcked u (w.nodes v.node).accepted d k
    kept other k x = elim ((lacks.acks k).at x.it x.mem) [
      | inl i ↦ record { it = x.it; mem = i; is = x.is }
      | inr e ↦
          let a : (x.it.gen == v.accepted) ≡ false = subst (λ t. own_ack v t ≡ false) e other in
          let b : (x.it.gen == v.accepted) ≡ true = (Decides-eqb x.it.gen v.accepted).1 (x.is.0 ∙ sym p.accepted) in
          absurd (cc)
    ]

    go : (b : Bool) → own_ack v m ≡ b → Enabled n u v.node (w.nodes v.node) (LearnLead d)
    go true own = absurd (never_learns n w v m d size p all none own h)
    go false other = (h.0, h.1, h.2, h.3, majority_weaker (kept other) h.4)

hear_without : {E : Type 0} (n : ℕ) (w u : World E) (v : NodeVote) (m : Message) (d : ℕ) → IsPart v (w.nodes v.node) → LacksOnly m w u → Refuses v m
    → Enabled n w v.node (w.nodes v.node) (LearnFollow d) → Enabled n u v.node (w.nodes v.node) (LearnFollow d)
hear_without {E} n w u v m d p lacks none h =
    elim ((lacks.durables h.4).at h.5.it h.5.mem) [
      | inl i ↦ (h.0, h.1, h.2, h.3, h.4, record { it = h.5.it; mem = i; is = h.5.is })
      | inr e ↦
          let a : v.durable ≡ (w.nodes v.node).durable = p.durable in
          let b : v.length ≡ length (w.nodes v.node).log = p.length in
          let c : v.accepted ≡ (w.nodes v.node).accepted = p.accepted in
          let more : (w.nodes v.node).durable < d = h.2 in
          let fits : d ≤ length (w.nodes v.node).log = h.3 in
          let gen : h.5.it.gen ≤ (w.nodes v.node).accepted = h.5.is.0 in
          absurd (refused v m (Durable h.4 h.5.it.gen (length h.5.it.log)) (Know d) none e (p.up ∙ h.0, p.leading ∙ h.1, omega arith, omega arith, omega arith, h.5.is.1))
    ]

confirm_without : {E : Type 0} (n : ℕ) (w u : World E) (v : NodeVote) (m : Message) (t g : ℕ) → IsPart v (w.nodes v.node) → LacksOnly m w u → Refuses v m
    → Enabled n w v.node (w.nodes v.node) (Confirm t g) → Enabled n u v.node (w.nodes v.node) (Confirm t g)
confirm_without {E} n w u v m t g p lacks none h =
    elim ((lacks.pings h.2).at h.3.it h.3.mem) [
      | inl i ↦ (h.0, h.1, h.2, record { it = h.3.it; mem = i; is = h.3.is })
      | inr e ↦
          let a : v.promised ≡ (w.nodes v.node).promised = p.promised in
          let b : h.3.it.gen ≡ g = h.3.is.1 in
          let le : (w.nodes v.node).promised ≤ g = h.1 in
          absurd (refused v m (Ping h.2 h.3.it.gen h.3.it.ask h.3.it.durable) (Answer (Pong v.node h.3.it.gen h.3.it.ask) h.2) none e ((p.up ∙ h.0, omega arith), refl, refl))
    ]

pub enabled_without : {E : Type 0} (n : ℕ) (w u : World E) (v : NodeVote) (m : Message) (e : NodeEvent E) → v.nodes ≡ n → IsPart v (w.nodes v.node) → CountsAll w (counted v m) → LacksOnly m w u → Refuses v m → comes_up e ≡ false
    → Enabled n w v.node (w.nodes v.node) e → Enabled n u v.node (w.nodes v.node) e
enabled_without n w u v m (Admits k r a) size p all lacks none stays h = subst (λ t. Each (λ b. b.node ≢ k) t × Fit n (record { node = k; promised = r; accepted = a } ∷ t)) (sym lacks.admits) h
enabled_without n w u v m (Boot r a l) size p all lacks none stays h = absurd (cc)
enabled_without n w u v m Down size p all lacks none stays h = h
enabled_without n w u v m (Back r) size p all lacks none stays h = absurd (cc)
enabled_without n w u v m BackLead size p all lacks none stays h = absurd (cc)
enabled_without n w u v m (BackTake g l) size p all lacks none stays h = absurd (cc)
enabled_without n w u v m (BackGrow l) size p all lacks none stays h = absurd (cc)
enabled_without n w u v m (BackAppend e) size p all lacks none stays h = absurd (cc)
enabled_without n w u v m (Stand g) size p all lacks none stays h = h
enabled_without n w u v m (Grants g to) size p all lacks none stays h = grant_without n w u v m g to p lacks none h
enabled_without n w u v m NodeEvent.Lead size p all lacks none stays h = lead_without n w u v m size p all lacks none h
enabled_without n w u v m (NodeEvent.Take g l) size p all lacks none stays h = take_without n w u v m g l p lacks none h
enabled_without n w u v m (Grow l) size p all lacks none stays h = grow_without n w u v m l p lacks none h
enabled_without n w u v m (Append e) size p all lacks none stays h = h
enabled_without n w u v m (LearnLead d) size p all lacks none stays h = learn_without n w u v m d size p all lacks none h
enabled_without n w u v m (LearnFollow d) size p all lacks none stays h = hear_without n w u v m d p lacks none h
enabled_without n w u v m (Asks t) size p all lacks none stays h = subst (λ s. Each (λ x. x ≢ t) s) (sym lacks.asks) h
enabled_without n w u v m (Probe t) size p all lacks none stays h = (h.0, h.1, subst (λ s. Has (λ x. x ≡ t) s) (sym lacks.asks) h.2, h.3, h.4)
enabled_without n w u v m (Confirm t g) size p all lacks none stays h = confirm_without n w u v m t g p lacks none h

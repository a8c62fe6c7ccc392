-- What was settled stays out.
use Rattle.std.proofs.Common.{◌≡◌, ℕ, ◌<◌, ◌≤◌, ◌≢◌, List, [], ◌∷◌, ◌++◌, length, arith, refl, sym, subst, ◌∙◌, length-append}
use Rattle.std.proofs.lemmas.Bool.Decides.{Decides-eqb}
use Rattle.std.specs.Prelude.{◌==◌, zero, suc, Bool, true, false, cond, Some}
use mathlib.Core.Logic.{◌⊎◌, inl, inr}
use Rattle.cluster_consensus.proofs.Adopted.{adopted_from}
use Rattle.cluster_consensus.proofs.FactSteps.{holds, leads_log}
use Rattle.cluster_consensus.proofs.Generations.{one_leader, one_log}
use Rattle.cluster_consensus.proofs.Invariant.{Follows, Inv, Grows}
use Rattle.cluster_consensus.proofs.Kept.{always, kept, at_node, grows_row, self_row}
use Rattle.cluster_consensus.proofs.Onward.{Onward, onward_row}
use Rattle.cluster_consensus.specs.Durable.{DurableIn}
use Rattle.cluster_consensus.specs.Enabled.{Enabled}
use Rattle.cluster_consensus.specs.Events.{NodeEvent, change}
use Rattle.cluster_consensus.specs.Events.NodeEvent.{BackLead, BackTake, BackGrow, BackAppend, Lead, Take, Grow, Append}
use Rattle.cluster_consensus.specs.Facts.{Claim, Own, World}
use Rattle.cluster_consensus.specs.Histories.{happens}
use Rattle.phys_log.specs.declared.entries.CommitId.{CommitId}
use Rattle.cluster_requests.specs.KeptEntries.{KeptEntry}
use Rattle.cluster_requests.specs.KeptEntries.KeptEntry.{SetupKept, CommitKept}
use Rattle.cluster_requests.specs.Identities.{generation_of, identity_of, Lacks}
use Rattle.cluster_requests.specs.Requests.{Sent, Settled, FieldAct, Field, IsAskedFor, MayEnter, May, settled_with, does, field_after, AllMay}
use Rattle.cluster_requests.specs.Requests.FieldAct.{Core, ToSend, ToSettle, ToRepeat}
use Rattle.core_lists.proofs.Fronts.{front_refl, front_trans, front_length, front_shorter}
use Rattle.core_lists.proofs.Lasts.{front_last}
use Rattle.core_lists.proofs.Lists.{each_add, each_none}
use Rattle.core_lists.proofs.Numbers.{lt_or_eq, lt_or_le}
use Rattle.core_lists.specs.Fronts.{Front}
use Rattle.core_lists.specs.Lists.{In, Each, Has}
use Rattle.core_lists.specs.Lists.In.{here, there}

-- a commit was sent in this generation
abbrev pub IsBacked : List Sent → ℕ → KeptEntry → Type 0
IsBacked sends g (SetupKept generation schema records reached) = Unit {0}
IsBacked sends g (CommitKept generation id begin level changes records reached) = Has (λ s. (s.id ≡ id) × (s.gen ≡ g)) sends

backed_more : {s t : List Sent} (g : ℕ) (e : KeptEntry) → ((x : Sent) → In x s → In x t) → IsBacked s g e → IsBacked t g e
backed_more g (SetupKept generation schema records reached) more k = tt
backed_more g (CommitKept generation id begin level changes records reached) more k = record { it = k.it; mem = more k.it k.mem; is = k.is }

backed_at : (s : List Sent) (g h : ℕ) (e : KeptEntry) → g ≡ h → IsBacked s g e → IsBacked s h e
backed_at s g h (SetupKept generation schema records reached) q k = tt
backed_at s g h (CommitKept generation id begin level changes records reached) q k = record { it = k.it; mem = k.mem; is = (k.is.0, k.is.1 ∙ q) }

asked_backed : (s : List Sent) (i g : ℕ) (log : List KeptEntry) (e : KeptEntry) → IsAskedFor s i g log e → IsBacked s g e
asked_backed s i g log (SetupKept generation schema records reached) k = tt
asked_backed s i g log (CommitKept generation id begin level changes records reached) k = record { it = k.it; mem = k.mem; is = (k.is.0, k.is.2) }

same_some : {a b : CommitId} → Some a ≡ Some b → a ≡ b
same_some e = cc

backed_sent : (s : List Sent) (g : ℕ) (e : KeptEntry) (id : CommitId) → IsBacked s g e → identity_of e ≡ Some id → Has (λ s. (s.id ≡ id) × (s.gen ≡ g)) s
backed_sent s g (SetupKept generation schema records reached) id k q = absurd (cc)
backed_sent s g (CommitKept generation its begin level changes records reached) id k q = record { it = k.it; mem = k.mem; is = (k.is.0 ∙ same_some q, k.is.1) }

-- each entry beyond the adopted log was appended, and sent, in this generation
pub record Added (w : World KeptEntry) (sends : List Sent) (c : Claim KeptEntry) : Type 0 where
  pub by : ℕ
  pub lead : Claim KeptEntry
  pub mem : In lead (w.nodes by).leads
  pub gen : lead.gen ≡ c.gen
  pub rest : (xs : List KeptEntry) (e : KeptEntry) → Front (xs ++ e ∷ []) c.log → length lead.log ≤ length xs → (generation_of e ≡ c.gen) × IsBacked sends c.gen e

-- a part of a log that was so added
added_part : (w : World KeptEntry) (sends : List Sent) (c d : Claim KeptEntry) → Added w sends c → d.gen ≡ c.gen → Front d.log c.log → Added w sends d
added_part w sends c d a e p = record {
  by = a.by;
  lead = a.lead;
  mem = a.mem;
  gen = a.gen ∙ sym e;
  rest = λ xs x q le. (let r = a.rest xs x (front_trans q p) le in (r.0 ∙ sym e, backed_at sends c.gen d.gen x (sym e) r.1));
}

added_lead : (w : World KeptEntry) (sends : List Sent) (i : ℕ) (c : Claim KeptEntry) → In c (w.nodes i).leads → Added w sends c
added_lead w sends i c h = record { by = i; lead = c; mem = h; gen = refl; rest = λ xs e p le. (let q = front_length p in let s = length-append xs (e ∷ []) in absurd (omega arith)) }

added_append : (w : World KeptEntry) (sends : List Sent) (g : ℕ) (l : List KeptEntry) (x : KeptEntry) → Added w sends (record { gen = g; log = l }) → generation_of x ≡ g → IsBacked sends g x → Added w sends (record { gen = g; log = l ++ x ∷ [] })
added_append w sends g l x a xg sent = record { by = a.by; lead = a.lead; mem = a.mem; gen = a.gen; rest = λ xs e p le. go xs e le (front_last xs l e x p) }
  where
    go : (xs : List KeptEntry) (e : KeptEntry) → length a.lead.log ≤ length xs → Front (xs ++ e ∷ []) l ⊎ ((xs ≡ l) × (e ≡ x)) → (generation_of e ≡ g) × IsBacked sends g e
    go xs e le (inl p) = a.rest xs e p le
    go xs e le (inr q) = subst (λ t. (generation_of t ≡ g) × IsBacked sends g t) (sym q.1) (xg, sent)

-- nothing with a settled identity was accepted by who settled it, in that generation
pub record SettlePart (o : Own KeptEntry) (t : List CommitId) (z : Settled) : Type 0 where
  pub low : z.gen ≤ o.accepted
  pub led : Has (λ l. l.gen ≡ z.gen) o.leads
  pub none : Each (λ c. c.gen ≡ z.gen → Lacks z.id c.log) o.accepts
  pub kept : o.leading ≡ true → o.accepted ≡ z.gen → In z.id t

abbrev pub SettleOk : Field → Settled → Type 0
SettleOk f z = SettlePart (f.core.nodes z.by) (f.settled z.by) z

lacks_front : (id : CommitId) (a b : List KeptEntry) → Front a b → Lacks id b → Lacks id a
lacks_front id a b p l xs e q = l xs e (front_trans q p)

lacks_append : (id : CommitId) (l : List KeptEntry) (x : KeptEntry) → Lacks id l → identity_of x ≢ Some id → Lacks id (l ++ x ∷ [])
lacks_append id l x a ne xs e p = elim (front_last xs l e x p) [
  | inl q ↦ a xs e q
  | inr q ↦ subst (λ t. identity_of t ≢ Some id) (sym q.1) ne
]

added_grows : {w v : World KeptEntry} {s t : List Sent} {c : Claim KeptEntry} → Grows w v → ((x : Sent) → In x s → In x t) → Added w s c → Added v t c
added_grows {c = c} g more a = record {
  by = a.by;
  lead = a.lead;
  mem = g.leads a.by a.lead a.mem;
  gen = a.gen;
  rest = λ xs e p le. (let r = a.rest xs e p le in (r.0, backed_more c.gen e more r.1));
}

-- what is shipped, or a part of it
added_shipped : {n : ℕ} {w : World KeptEntry} (sends : List Sent) → Inv n w → ((k : ℕ) → Each (Added w sends) (w.nodes k).accepts) → (m g : ℕ) (s : Claim KeptEntry) (l : List KeptEntry) → In s (w.nodes m).ships → s.gen ≡ g → Front l s.log → Added w sends (record { gen = g; log = l })
added_shipped {n} {w} sends inv all m g s l hs sg p = added_part w sends s (record { gen = g; log = l }) ((all m).at s ((inv.local m).ships.at s hs).1) (sym sg) p

added_held : {n : ℕ} {w : World KeptEntry} (sends : List Sent) → Inv n w → ((k : ℕ) → Each (Added w sends) (w.nodes k).accepts) → (i : ℕ) → (w.nodes i).leading ≡ true → (x : KeptEntry)
    → (generation_of x ≡ (w.nodes i).accepted) × IsBacked sends (w.nodes i).accepted x → Added w sends (record { gen = (w.nodes i).accepted; log = (w.nodes i).log ++ x ∷ [] })
added_held {n} {w} sends inv all i lead x may =
    let l = leads_log inv i lead in
    let lg : l.it.gen ≡ (w.nodes i).accepted = l.is.0 in
    let c = holds inv i i l.it l.mem (omega arith) in
    let a = added_part w sends c.it (record { gen = (w.nodes i).accepted; log = (w.nodes i).log }) ((all i).at c.it c.mem) (sym c.is.0) (subst (λ t. Front t c.it.log) c.is.1 (front_refl c.it.log)) in
    added_append w sends (w.nodes i).accepted (w.nodes i).log x a may.0 may.1

added_row : {n : ℕ} (f : Field) → Inv n f.core → ((k : ℕ) → Each (Added f.core f.sends) (f.core.nodes k).accepts) → (i : ℕ) (e : NodeEvent KeptEntry) → Enabled n f.core i (f.core.nodes i) e → MayEnter f i e → (v : World KeptEntry) → Grows f.core v → v.nodes i ≡ change i (f.core.nodes i) e → Each (Added v f.sends) (change i (f.core.nodes i) e).accepts
added_row {n} f inv all i e en may v g self = go e en may self
  where
    old : Each (Added v f.sends) (f.core.nodes i).accepts
    old = record { at = λ c h. added_grows g (λ x t. t) ((all i).at c h) }

    on : (c : Claim KeptEntry) → Added f.core f.sends c → Added v f.sends c
    on c a = added_grows g (λ x t. t) a

    go : (e : NodeEvent KeptEntry) → Enabled n f.core i (f.core.nodes i) e → MayEnter f i e → v.nodes i ≡ change i (f.core.nodes i) e → Each (Added v f.sends) (change i (f.core.nodes i) e).accepts
    go BackLead en may self = let c : Claim KeptEntry = record { gen = (f.core.nodes i).promised; log = (f.core.nodes i).log } in each_add (added_lead v f.sends i c (subst (λ t. In c t.leads) (sym self) here)) old
    go Lead en may self = let c : Claim KeptEntry = record { gen = (f.core.nodes i).promised; log = (f.core.nodes i).log } in each_add (added_lead v f.sends i c (subst (λ t. In c t.leads) (sym self) here)) old
    go (BackTake h l) en may self = let s = en.2.2.1 in each_add (on _ (added_shipped f.sends inv all en.2.2.0 h s.it l s.mem s.is.0 (subst (λ t. Front t s.it.log) s.is.1 (front_refl s.it.log)))) old
    go (Take h l) en may self = let s = en.1.2.1 in each_add (on _ (added_shipped f.sends inv all en.1.2.0 h s.it l s.mem s.is.0 (subst (λ t. Front t s.it.log) s.is.1 (front_refl s.it.log)))) old
    go (BackGrow l) en may self = let s = en.2.2 in each_add (on _ (added_shipped f.sends inv all en.2.1 (f.core.nodes i).accepted s.it l s.mem s.is.0 s.is.1)) old
    go (Grow l) en may self = let s = en.1.2 in each_add (on _ (added_shipped f.sends inv all en.1.1 (f.core.nodes i).accepted s.it l s.mem s.is.0 s.is.1)) old
    go (BackAppend x) en may self = each_add (on _ (added_held f.sends inv all i en.2 x (may.made, asked_backed f.sends i (f.core.nodes i).accepted (f.core.nodes i).log x may.asked))) old
    go (Append x) en may self = each_add (on _ (added_held f.sends inv all i en.1 x (may.made, asked_backed f.sends i (f.core.nodes i).accepted (f.core.nodes i).log x may.asked))) old
    go _ en may self = old

-- the identities that were settled stay out of what that node accepts in that generation
none_row : {n : ℕ} (f : Field) → Inv n f.core → (i : ℕ) (e : NodeEvent KeptEntry) → Enabled n f.core i (f.core.nodes i) e → MayEnter f i e → (z : Settled) → SettlePart (f.core.nodes i) (f.settled i) z → Each (λ c. c.gen ≡ z.gen → Lacks z.id c.log) (change i (f.core.nodes i) e).accepts
none_row {n} f inv i e en may z s = go e en may
  where
    w : World KeptEntry
    w = f.core

    low : z.gen ≤ (f.core.nodes i).accepted
    low = s.low

    -- what the leader's own log is a part of
    part : (m : ℕ) (c : Claim KeptEntry) (l : List KeptEntry) → In c (f.core.nodes m).ships → c.gen ≡ (f.core.nodes i).accepted → Front l c.log → (f.core.nodes i).accepted ≡ z.gen → Lacks z.id l
    part m c l hc cg p eq =
        let x = (inv.refs m).follows.at c ((inv.local m).ships.at c hc).1 in
        let same : x.by ≡ i = one_leader inv x.by i x.adopted.it s.led.it x.adopted.mem s.led.mem (x.adopted.is.0 ∙ (cg ∙ (eq ∙ sym s.led.is))) in
        let whole : In x.whole.it (f.core.nodes i).accepts = subst (λ t. In x.whole.it (f.core.nodes t).accepts) same x.whole.mem in
        lacks_front z.id l x.whole.it.log (front_trans p x.whole.is.1) (s.none.at x.whole.it whole (x.whole.is.0 ∙ (cg ∙ eq)))

    append : (x : KeptEntry) → (f.core.nodes i).leading ≡ true → Each (λ t. identity_of x ≢ Some t) (f.settled i) → (f.core.nodes i).accepted ≡ z.gen → Lacks z.id ((f.core.nodes i).log ++ x ∷ [])
    append x lead out eq =
        let l = leads_log inv i lead in
        let lg : l.it.gen ≡ (f.core.nodes i).accepted = l.is.0 in
        let c = holds inv i i l.it l.mem (omega arith) in
        let ne : identity_of x ≢ Some z.id = out.at z.id (s.kept lead eq) in
        lacks_append z.id (f.core.nodes i).log x (subst (λ t. Lacks z.id t) c.is.1 (s.none.at c.it c.mem (c.is.0 ∙ eq))) ne

    go : (e : NodeEvent KeptEntry) → Enabled n f.core i (f.core.nodes i) e → MayEnter f i e → Each (λ c. c.gen ≡ z.gen → Lacks z.id c.log) (change i (f.core.nodes i) e).accepts
    go BackLead en may = each_add (λ (eq : (f.core.nodes i).promised ≡ z.gen). (let lt : (f.core.nodes i).accepted < (f.core.nodes i).promised = en.2.0 in absurd (omega arith))) s.none
    go Lead en may = each_add (λ (eq : (f.core.nodes i).promised ≡ z.gen). (let lt : (f.core.nodes i).accepted < (f.core.nodes i).promised = en.1.0 in absurd (omega arith))) s.none
    go (BackTake h l) en may = each_add (λ (eq : h ≡ z.gen). (let lt : (f.core.nodes i).accepted < h = en.2.1 in absurd (omega arith))) s.none
    go (Take h l) en may = each_add (λ (eq : h ≡ z.gen). (let lt : (f.core.nodes i).accepted < h = en.1.1 in absurd (omega arith))) s.none
    go (BackGrow l) en may = let c = en.2.2 in each_add (λ eq. part en.2.1 c.it l c.mem c.is.0 c.is.1 eq) s.none
    go (Grow l) en may = let c = en.1.2 in each_add (λ eq. part en.1.1 c.it l c.mem c.is.0 c.is.1 eq) s.none
    go (BackAppend x) en may = each_add (λ eq. append x en.2 may.unsettled eq) s.none
    go (Append x) en may = each_add (λ eq. append x en.1 may.unsettled eq) s.none
    go _ en may = s.none

kept_row : {n : ℕ} (f : Field) → Inv n f.core → (i : ℕ) (e : NodeEvent KeptEntry) → Enabled n f.core i (f.core.nodes i) e → (z : Settled) → SettlePart (f.core.nodes i) (f.settled i) z → Onward (f.core.nodes i) (change i (f.core.nodes i) e) → (change i (f.core.nodes i) e).leading ≡ true → (change i (f.core.nodes i) e).accepted ≡ z.gen → In z.id (settled_with (f.settled i) e)
kept_row f inv i Lead en z s on lead eq =
    let lt : (f.core.nodes i).accepted < (f.core.nodes i).promised = en.1.0 in
    let eq' : (f.core.nodes i).promised ≡ z.gen = eq in
    let low = s.low in
    absurd (omega arith)
kept_row f inv i e en z s on lead eq =
    let a = on.accepted in
    let low = s.low in
    let same : (f.core.nodes i).accepted ≡ (change i (f.core.nodes i) e).accepted = omega arith in
    s.kept (on.still lead same).0 (same ∙ eq)

settle_row : {n : ℕ} (f : Field) → Inv n f.core → (i : ℕ) (e : NodeEvent KeptEntry) → Enabled n f.core i (f.core.nodes i) e → MayEnter f i e → (z : Settled) → SettlePart (f.core.nodes i) (f.settled i) z → SettlePart (change i (f.core.nodes i) e) (settled_with (f.settled i) e) z
settle_row f inv i e en may z s =
    let on = onward_row inv i e en in
    record {
      low = let a = on.accepted in let b = s.low in omega arith;
      led = record { it = s.led.it; mem = on.leads s.led.it s.led.mem; is = s.led.is };
      none = none_row f inv i e en may z s;
      kept = kept_row f inv i e en z s on;
    }

pub record Good (n : ℕ) (f : Field) : Type 0 where
  pub inv : Inv n f.core
  pub added : (k : ℕ) → Each (Added f.core f.sends) (f.core.nodes k).accepts
  pub settles : Each (SettleOk f) f.settles

two : (f : Field) (i : ℕ) (new : Own KeptEntry) (t : List CommitId) (z : Settled) (k : ℕ) → (k ≡ i → SettlePart new t z) → SettlePart (f.core.nodes k) (f.settled k) z → SettlePart (cond (k == i) new (f.core.nodes k)) (cond (k == i) t (f.settled k)) z
two f i new t z k a b = go (k == i) refl
  where
    go : (c : Bool) → (k == i) ≡ c → SettlePart (cond c new (f.core.nodes k)) (cond c t (f.settled k)) z
    go true e = a ((Decides-eqb k i).0 e)
    go false e = b

good_step : (n : ℕ) (f : Field) (i : ℕ) (a : FieldAct) → Good n f → May n f i a → Good n (does f i a)
good_step n f i (Core e) old may =
    let w : World KeptEntry = f.core in
    let v : World KeptEntry = happens w i e in
    let g = grows_row w i e in
    record {
      inv = kept old.inv i e may.0;
      added = λ k. at_node w i e (λ j o. Each (Added v f.sends) o.accepts) k (added_row f old.inv old.added i e may.0 may.1 v g (self_row w i e)) (record { at = λ c h. added_grows g (λ x t. t) ((old.added k).at c h) });
      settles = record { at = λ z h. two f i (change i (w.nodes i) e) (settled_with (f.settled z.by) e) z z.by (λ q. mine z q (old.settles.at z h)) (old.settles.at z h) };
    }
  where
    mine : (z : Settled) → z.by ≡ i → SettlePart (f.core.nodes z.by) (f.settled z.by) z → SettlePart (change i (f.core.nodes i) e) (settled_with (f.settled z.by) e) z
    mine z q s = subst (λ j. SettlePart (change i (f.core.nodes i) e) (settled_with (f.settled j) e) z) (sym q) (settle_row f old.inv i e may.0 may.1 z (subst (λ j. SettlePart (f.core.nodes j) (f.settled j) z) q s))
good_step n f i (ToSend x) old may = record {
  inv = old.inv;
  added = λ k. record { at = λ c h. (let a = (old.added k).at c h in record { by = a.by; lead = a.lead; mem = a.mem; gen = a.gen; rest = λ xs e p le. (let r = a.rest xs e p le in (r.0, backed_more c.gen e (λ y m. there m) r.1)) }) };
  settles = record { at = λ z h. old.settles.at z h };
}
good_step n f i (ToRepeat id position) old may = record {
  inv = old.inv;
  added = old.added;
  settles = record { at = λ z h. known z (old.settles.at z h) };
}
  where
    known : (z : Settled) → SettlePart (f.core.nodes z.by) (f.settled z.by) z → SettleOk (does f i (ToRepeat id position)) z
    known z s = go (z.by == i)
      where
        go : (b : Bool) → SettlePart (f.core.nodes z.by) (cond b (id ∷ f.settled z.by) (f.settled z.by)) z
        go true = record { low = s.low; led = s.led; none = s.none; kept = λ l e. there (s.kept l e) }
        go false = s
good_step n f i (ToSettle id why) old may = record {
  inv = old.inv;
  added = old.added;
  settles = each_add (subst (λ (b : Bool). SettlePart (f.core.nodes i) (cond b (id ∷ f.settled i) (f.settled i)) new) (sym ((Decides-eqb i i).1 refl)) fresh) (record { at = λ z h. older z (old.settles.at z h) });
}
  where
    new : Settled
    new = record { id = id; gen = (f.core.nodes i).accepted; by = i; log = (f.core.nodes i).log; why = why }

    fresh : SettlePart (f.core.nodes i) (id ∷ f.settled i) new
    fresh = record {
      low = omega arith;
      led = ((old.inv.local i).heads may.1).1;
      none = record { at = λ c h eq. lacks_front id c.log (f.core.nodes i).log (((old.inv.local i).last.at c h).1 eq) may.2 };
      kept = λ l e. here;
    }

    older : (z : Settled) → SettlePart (f.core.nodes z.by) (f.settled z.by) z → SettleOk (does f i (ToSettle id why)) z
    older z s = go (z.by == i)
      where
        go : (b : Bool) → SettlePart (f.core.nodes z.by) (cond b (id ∷ f.settled z.by) (f.settled z.by)) z
        go true = record { low = s.low; led = s.led; none = s.none; kept = λ l e. there (s.kept l e) }
        go false = s

pub good : (n : ℕ) (h : List (ℕ × FieldAct)) → AllMay n h → Good n (field_after h)
good n [] may = record { inv = always n [] tt; added = λ k. each_none; settles = each_none }
good n (x ∷ h) may = good_step n (field_after h) x.0 x.1 (good n h may.1) may.0

-- in that generation
pub same_gen : {n : ℕ} {f : Field} → Good n f → (z : Settled) → In z f.settles → (k : ℕ) (c : Claim KeptEntry) → In c (f.core.nodes k).accepts → c.gen ≡ z.gen → Lacks z.id c.log
same_gen {n} {f} g z hz k c hc eq =
    let s = g.settles.at z hz in
    let x = (g.inv.refs k).follows.at c hc in
    let same : x.by ≡ z.by = one_leader g.inv x.by z.by x.adopted.it s.led.it x.adopted.mem s.led.mem (x.adopted.is.0 ∙ (eq ∙ sym s.led.is)) in
    let whole : In x.whole.it (f.core.nodes z.by).accepts = subst (λ t. In x.whole.it (f.core.nodes t).accepts) same x.whole.mem in
    lacks_front z.id c.log x.whole.it.log x.whole.is.1 (s.none.at x.whole.it whole (x.whole.is.0 ∙ eq))

out : {n : ℕ} {f : Field} → Good n f → (z : Settled) → In z f.settles → Each (λ s. s.id ≡ z.id → s.gen ≤ z.gen) f.sends → (d : List KeptEntry) → DurableIn n f.core z.gen d → (b k : ℕ) (c : Claim KeptEntry) → In c (f.core.nodes k).accepts → c.gen ≤ suc b → (z.gen < c.gen) ⊎ (z.gen ≡ c.gen)
    → ((k : ℕ) (c : Claim KeptEntry) → In c (f.core.nodes k).accepts → c.gen ≤ b → z.gen ≤ c.gen → Lacks z.id c.log) → Lacks z.id c.log
out g z hz last d dur b k c hc top (inr eq) ih = same_gen g z hz k c hc (sym eq)
out {n} {f} g z hz last d dur b k c hc top (inl lt) ih = λ xs e p same. split xs e p same (lt_or_le (length xs) (length a.lead.log))
  where
    a : Added f.core f.sends c
    a = (g.added k).at c hc

    x : Follows f.core c
    x = (g.inv.refs k).follows.at c hc

    -- the adopted log is the one that the acceptance begins with
    into : Front a.lead.log c.log
    into =
        let by : x.by ≡ a.by = one_leader g.inv x.by a.by x.adopted.it a.lead x.adopted.mem a.mem (x.adopted.is.0 ∙ sym a.gen) in
        let mem : In x.adopted.it (f.core.nodes a.by).leads = subst (λ t. In x.adopted.it (f.core.nodes t).leads) by x.adopted.mem in
        subst (λ t. Front t c.log) (one_log g.inv a.by x.adopted.it a.lead mem a.mem (x.adopted.is.0 ∙ sym a.gen)) x.adopted.is.1

    adopted : Lacks z.id a.lead.log
    adopted =
        let lg : a.lead.gen ≡ c.gen = a.gen in
        let o = adopted_from g.inv z.gen d dur a.by a.lead a.mem (omega arith) in
        let o0 : z.gen ≤ o.it.gen = o.is.0 in
        let o1 : o.it.gen < a.lead.gen = o.is.1 in
        subst (λ t. Lacks z.id t) o.is.2 (ih a.by o.it o.mem (omega arith) o0)

    split : (xs : List KeptEntry) (e : KeptEntry) → Front (xs ++ e ∷ []) c.log → identity_of e ≡ Some z.id → (length xs < length a.lead.log) ⊎ (length a.lead.log ≤ length xs) → ⊥
    split xs e p same (inl short) =
        let s = length-append xs (e ∷ []) in
        adopted xs e (front_shorter p into (omega arith)) same
    split xs e p same (inr long) =
        let r = backed_sent f.sends c.gen e z.id (a.rest xs e p long).1 same in
        let q : r.it.gen ≤ z.gen = last.at r.it r.mem r.is.0 in
        let rg : r.it.gen ≡ c.gen = r.is.1 in
        omega arith

-- settled_out: what was settled in a generation with a durable log, and not sent in a later one, is in no log accepted in that generation or a later one
stays_out : {n : ℕ} {f : Field} → Good n f → (z : Settled) → In z f.settles → Each (λ s. s.id ≡ z.id → s.gen ≤ z.gen) f.sends → (d : List KeptEntry) → DurableIn n f.core z.gen d → (b k : ℕ) (c : Claim KeptEntry) → In c (f.core.nodes k).accepts → c.gen ≤ b → z.gen ≤ c.gen → Lacks z.id c.log
stays_out {n} {f} g z hz last d dur zero k c hc top low = same_gen g z hz k c hc (omega arith)
stays_out {n} {f} g z hz last d dur (suc b) k c hc top low =
    out g z hz last d dur b k c hc top (lt_or_eq z.gen c.gen low) (λ k c hc top low. stays_out g z hz last d dur b k c hc top low)

pub settled_out : (n : ℕ) (h : List (ℕ × FieldAct)) → AllMay n h → (z : Settled) → In z (field_after h).settles → Each (λ s. s.id ≡ z.id → s.gen ≤ z.gen) (field_after h).sends → (d : List KeptEntry) → DurableIn n (field_after h).core z.gen d → (k : ℕ) (c : Claim KeptEntry) → In c ((field_after h).core.nodes k).accepts → z.gen ≤ c.gen → Lacks z.id c.log
settled_out n h may z hz last d dur k c hc low = stays_out (good n h may) z hz last d dur c.gen k c hc (omega arith) low

pub settled_same : (n k : ℕ) (h : List (ℕ × FieldAct)) (z : Settled) (c : Claim KeptEntry) → AllMay n h → In z (field_after h).settles → In c ((field_after h).core.nodes k).accepts → c.gen ≡ z.gen → Lacks z.id c.log
settled_same n k h z c may hz hc eq = same_gen (good n h may) z hz k c hc eq

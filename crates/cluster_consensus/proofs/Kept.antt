-- Each event keeps the invariant, so it holds after each legal history.
use Rattle.std.proofs.Common.{◌≡◌, ℕ, ◌<◌, ◌≤◌, List, [], ◌∷◌, ◌++◌, length, take, arith, refl, ap, sym, subst}
use Rattle.std.proofs.lemmas.Bool.Decides.{Decides-eqb}
use Rattle.std.specs.Prelude.{◌==◌, Bool, true, false, cond}
use mathlib.Core.Logic.{inl, inr}
use Rattle.cluster_consensus.proofs.FactSteps.{refs_grow, durable_grows, granted_grows, follows_grows, known_grows, known_front, leads_log, grown, took_follows, took_begins, learns, hears}
use Rattle.cluster_consensus.proofs.Invariant.{Local, Follows, Known, Refs, Inv, Grows}
use Rattle.cluster_consensus.proofs.NodeRows.{local_row}
use Rattle.cluster_consensus.specs.Enabled.{Below, IsGranted, CanTake, Enabled, Fit}
use Rattle.cluster_consensus.specs.Events.{NodeEvent, change, took}
use Rattle.cluster_consensus.specs.Events.NodeEvent.{Admits, Boot, Down, Back, BackLead, BackTake, BackGrow, BackAppend, Stand, Grants, Lead, Take, Grow, Append, LearnLead, LearnFollow, Asks, Probe, Confirm}
use Rattle.cluster_consensus.specs.Facts.{Claim, Vote, Grant, Own, Admit, World, blank}
use Rattle.cluster_consensus.specs.Histories.{Legal, happens, after, admitted}
use Rattle.core_lists.proofs.Fronts.{front_refl, front_trans, front_append, front_take}
use Rattle.core_lists.proofs.Lists.{each_add, each_none, nothing}
use Rattle.core_lists.specs.Fronts.{Front}
use Rattle.core_lists.specs.Lists.{In, Has}
use Rattle.core_lists.specs.Lists.In.{here, there}
use Rattle.core_lists.specs.Majorities.{Majority}

-- what says nothing here
pub same_refs : {E : Type 0} {n : ℕ} {v : World E} {i : ℕ} {o : Own E} → Refs n v i o → (p a : ℕ) (b u : Bool) (votes : List (Vote E)) (ships acks : List (Claim E)) → Refs n v i (record o { promised = p; leading = b; adopted = a; up = u; votes = votes; ships = ships; acks = acks })
same_refs r p a b u votes ships acks = record { admitted = r.admitted; granted = r.granted; led = r.led; follows = r.follows; durables = r.durables; known = r.known; fits = r.fits }

pub slept_refs : {E : Type 0} {n : ℕ} {v : World E} {i : ℕ} {o : Own E} → Refs n v i o → Refs n v i (record o { durable = 0 })
slept_refs r = record { admitted = r.admitted; granted = r.granted; led = r.led; follows = r.follows; durables = r.durables; known = inl refl; fits = omega arith }

pub grant_refs : {E : Type 0} {n : ℕ} {v : World E} {i : ℕ} {o : Own E} → Refs n v i o → (x : Grant E) → Has (λ t. (t.gen ≡ x.gen) × Below x.accepted (length x.log) t.accepted (length t.log)) (v.nodes x.to).votes → Refs n v i (record o { grants = x ∷ o.grants })
grant_refs r x h = record { admitted = r.admitted; granted = each_add h r.granted; led = r.led; follows = r.follows; durables = r.durables; known = r.known; fits = r.fits }

pub lead_refs : {E : Type 0} {n : ℕ} {v : World E} {i : ℕ} {o : Own E} → Refs n v i o → (l : Claim E) → Majority n (IsGranted v l.gen i) → Refs n v i (record o { leads = l ∷ o.leads })
lead_refs r l h = record { admitted = r.admitted; granted = r.granted; led = each_add h r.led; follows = r.follows; durables = r.durables; known = r.known; fits = r.fits }

pub took_refs : {E : Type 0} {n : ℕ} {v : World E} {i : ℕ} {o : Own E} → Refs n v i o → (g : ℕ) (l : List E) → Follows v (record { gen = g; log = l }) → Known n v (record o { accepted = g; log = l }) × (o.durable ≤ length l) → Refs n v i (took o g l)
took_refs r g l f k = record { admitted = r.admitted; granted = r.granted; led = r.led; follows = each_add f r.follows; durables = r.durables; known = k.0; fits = k.1 }

-- what is durable begins the log that a node takes
pub take_known : {E : Type 0} {n : ℕ} {w : World E} → Inv n w → (i g : ℕ) (l : List E) → CanTake w (w.nodes i) g l → Known n w (record (w.nodes i) { accepted = g; log = l }) × ((w.nodes i).durable ≤ length l)
take_known {E} {n} {w} inv i g l can =
    let lt : (w.nodes i).accepted < g = can.1 in
    known_front n w (w.nodes i) g l (inv.refs i).fits (omega arith) (λ h le dur. took_begins inv g l can.2 h (take (w.nodes i).durable (w.nodes i).log) (omega arith) dur) (inv.refs i).known

pub grow_known : {E : Type 0} {n : ℕ} {w : World E} → Inv n w → (i : ℕ) (l : List E) → Front (w.nodes i).log l → Known n w (record (w.nodes i) { log = l }) × ((w.nodes i).durable ≤ length l)
grow_known {E} {n} {w} inv i l pre =
    known_front n w (w.nodes i) (w.nodes i).accepted l (inv.refs i).fits (omega arith) (λ h le dur. front_trans (front_take (w.nodes i).durable (w.nodes i).log) pre) (inv.refs i).known

pub lead_known : {E : Type 0} {n : ℕ} {w : World E} → Inv n w → (i : ℕ) → (w.nodes i).accepted < (w.nodes i).promised → Known n w (record (w.nodes i) { accepted = (w.nodes i).promised }) × ((w.nodes i).durable ≤ length (w.nodes i).log)
lead_known {E} {n} {w} inv i lt =
    known_front n w (w.nodes i) (w.nodes i).promised (w.nodes i).log (inv.refs i).fits (omega arith) (λ h le dur. front_take (w.nodes i).durable (w.nodes i).log) (inv.refs i).known

-- the leader follows itself
pub self_follows : {E : Type 0} {v : World E} (i : ℕ) (c : Claim E) (l : Claim E) → In l (v.nodes i).leads → l.gen ≡ c.gen → Front l.log c.log → In c (v.nodes i).accepts → Follows v c
self_follows i c l hl e p hc = record { by = i; adopted = record { it = l; mem = hl; is = (e, p) }; whole = record { it = c; mem = hc; is = (refl, front_refl c.log) } }

-- a leader's longer log follows itself
pub append_follows : {E : Type 0} {n : ℕ} {w : World E} → Inv n w → (i : ℕ) (e : E) → (w.nodes i).leading ≡ true → (v : World E) → Grows w v → In (record { gen = (w.nodes i).accepted; log = (w.nodes i).log ++ e ∷ [] }) (v.nodes i).accepts → Follows v (record { gen = (w.nodes i).accepted; log = (w.nodes i).log ++ e ∷ [] })
append_follows {E} {n} {w} inv i e lead v g h =
    let l = leads_log inv i lead in
    self_follows {v = v} i (record { gen = (w.nodes i).accepted; log = (w.nodes i).log ++ e ∷ [] }) l.it (g.leads i l.it l.mem) l.is.0 (front_trans l.is.1 (front_append (w.nodes i).log (e ∷ []))) h

pub refs_row : {E : Type 0} {n : ℕ} {w : World E} → Inv n w → (i : ℕ) (e : NodeEvent E) → Enabled n w i (w.nodes i) e → (v : World E) → Grows w v → v.nodes i ≡ change i (w.nodes i) e → Refs n v i (change i (w.nodes i) e)
refs_row inv i (Admits k p a) en v g self = refs_grow g (inv.refs i)
refs_row inv i (Boot p a l) en v g self =
    let r = refs_grow g (inv.refs i) in
    record { admitted = λ e. g.admits (record { node = i; promised = p; accepted = a }) en.3; granted = r.granted; led = r.led; follows = r.follows; durables = r.durables; known = inl refl; fits = omega arith }
refs_row {E} {w = w} inv i Down en v g self =
    let o = w.nodes i in
    same_refs (refs_grow g (inv.refs i)) o.promised o.adopted o.leading false o.votes o.ships o.acks
refs_row {E} {w = w} inv i (Back p) en v g self =
    let o = w.nodes i in
    same_refs (slept_refs (refs_grow g (inv.refs i))) p o.adopted false true o.votes o.ships o.acks
refs_row {E} {w = w} inv i BackLead en v g self =
    let o = w.nodes i in
    let k = lead_known inv i en.2.0 in
    let c : Claim E = record { gen = o.promised; log = o.log } in
    let f = self_follows {v = v} i c c (subst (λ t. In c t.leads) (sym self) here) refl (front_refl o.log) (subst (λ t. In c t.accepts) (sym self) here) in
    let t = took_refs (lead_refs (refs_grow g (inv.refs i)) c (granted_grows g en.2.1)) o.promised o.log f (known_grows (record o { accepted = o.promised }) g k.0, k.1) in
    same_refs (slept_refs t) o.promised o.adopted false true o.votes o.ships o.acks
refs_row {E} {w = w} inv i (BackTake h l) en v g self =
    let o = w.nodes i in
    let k = take_known inv i h l en.2 in
    let t = took_refs (refs_grow g (inv.refs i)) h l (follows_grows g (took_follows inv h l en.2.2)) (known_grows (record o { accepted = h; log = l }) g k.0, k.1) in
    same_refs (slept_refs t) h o.adopted false true o.votes o.ships o.acks
refs_row {E} {w = w} inv i (BackGrow l) en v g self =
    let o = w.nodes i in
    let s = grown inv i l en.2 in
    let k = grow_known inv i l s.0 in
    let t = took_refs (refs_grow g (inv.refs i)) o.accepted l (follows_grows g s.1) (known_grows (record o { log = l }) g k.0, k.1) in
    same_refs (slept_refs t) o.accepted o.adopted false true o.votes o.ships o.acks
refs_row {E} {w = w} inv i (BackAppend e) en v g self =
    let o = w.nodes i in
    let k = grow_known inv i (o.log ++ e ∷ []) (front_append o.log (e ∷ [])) in
    let c : Claim E = record { gen = o.accepted; log = o.log ++ e ∷ [] } in
    let t = took_refs (refs_grow g (inv.refs i)) o.accepted (o.log ++ e ∷ []) (append_follows inv i e en.2 v g (subst (λ t. In c t.accepts) (sym self) here)) (known_grows (record o { log = o.log ++ e ∷ [] }) g k.0, k.1) in
    same_refs (slept_refs t) o.accepted o.adopted false true o.votes o.ships o.acks
refs_row {E} {w = w} inv i (Stand h) en v g self =
    let o = w.nodes i in
    let x : Grant E = record { gen = h; to = i; accepted = o.accepted; log = o.log } in
    let u : Vote E = record { gen = h; accepted = o.accepted; log = o.log } in
    let t = grant_refs (refs_grow g (inv.refs i)) x (record { it = u; mem = subst (λ t. In u t.votes) (sym self) here; is = (refl, inr (refl, omega arith)) }) in
    same_refs t h o.adopted false o.up (u ∷ o.votes) o.ships o.acks
refs_row {E} {w = w} inv i (Grants h to) en v g self =
    let o = w.nodes i in
    let u = en.2 in
    let t = grant_refs (refs_grow g (inv.refs i)) (record { gen = h; to = to; accepted = o.accepted; log = o.log }) (record { it = u.it; mem = g.votes to u.it u.mem; is = u.is }) in
    same_refs t h o.adopted false o.up o.votes o.ships o.acks
refs_row {E} {w = w} inv i Lead en v g self =
    let o = w.nodes i in
    let k = lead_known inv i en.1.0 in
    let c : Claim E = record { gen = o.promised; log = o.log } in
    let f = self_follows {v = v} i c c (subst (λ t. In c t.leads) (sym self) here) refl (front_refl o.log) (subst (λ t. In c t.accepts) (sym self) here) in
    let t = took_refs (lead_refs (refs_grow g (inv.refs i)) c (granted_grows g en.1.1)) o.promised o.log f (known_grows (record o { accepted = o.promised }) g k.0, k.1) in
    same_refs t o.promised (length o.log) true o.up o.votes (c ∷ o.ships) (c ∷ o.acks)
refs_row {E} {w = w} inv i (Take h l) en v g self =
    let o = w.nodes i in
    let k = take_known inv i h l en.1 in
    let t = took_refs (refs_grow g (inv.refs i)) h l (follows_grows g (took_follows inv h l en.1.2)) (known_grows (record o { accepted = h; log = l }) g k.0, k.1) in
    same_refs t h o.adopted false o.up o.votes o.ships (record { gen = h; log = l } ∷ o.acks)
refs_row {E} {w = w} inv i (Grow l) en v g self =
    let o = w.nodes i in
    let s = grown inv i l en.1 in
    let k = grow_known inv i l s.0 in
    let t = took_refs (refs_grow g (inv.refs i)) o.accepted l (follows_grows g s.1) (known_grows (record o { log = l }) g k.0, k.1) in
    same_refs t o.accepted o.adopted o.leading o.up o.votes o.ships (record { gen = o.accepted; log = l } ∷ o.acks)
refs_row {E} {w = w} inv i (Append e) en v g self =
    let o = w.nodes i in
    let l : List E = o.log ++ e ∷ [] in
    let k = grow_known inv i l (front_append o.log (e ∷ [])) in
    let c : Claim E = record { gen = o.accepted; log = l } in
    let t = took_refs (refs_grow g (inv.refs i)) o.accepted l (append_follows inv i e en.1 v g (subst (λ t. In c t.accepts) (sym self) here)) (known_grows (record o { log = l }) g k.0, k.1) in
    same_refs t o.accepted o.adopted o.leading o.up o.votes (record { gen = o.accepted; log = l } ∷ o.ships) (record { gen = o.accepted; log = l } ∷ o.acks)
refs_row {E} {w = w} inv i (LearnLead l) en v g self =
    let o = w.nodes i in
    let r = refs_grow g (inv.refs i) in
    let d = learns inv i l en.1 en.4 in
    let dur = durable_grows g d.1 in
    record { admitted = r.admitted; granted = r.granted; led = r.led; follows = r.follows; durables = each_add dur r.durables; known = inr (o.accepted, omega arith, dur); fits = d.0 }
refs_row {E} {w = w} inv i (LearnFollow l) en v g self =
    let o = w.nodes i in
    let r = refs_grow g (inv.refs i) in
    let c = en.5 in
    let dur = durable_grows g (hears inv i l en.4 c.it c.mem c.is.0 c.is.1 en.3) in
    record { admitted = r.admitted; granted = r.granted; led = r.led; follows = r.follows; durables = r.durables; known = inr (c.it.gen, c.is.0, dur); fits = en.3 }
refs_row inv i (Asks t) en v g self = refs_grow g (inv.refs i)
refs_row inv i (Probe t) en v g self = let r = refs_grow g (inv.refs i) in record { admitted = r.admitted; granted = r.granted; led = r.led; follows = r.follows; durables = r.durables; known = r.known; fits = r.fits }
refs_row inv i (Confirm t h) en v g self = let r = refs_grow g (inv.refs i) in record { admitted = r.admitted; granted = r.granted; led = r.led; follows = r.follows; durables = r.durables; known = r.known; fits = r.fits }

pub record OwnGrows {E : Type 0} (o p : Own E) : Type 0 where
  votes : (x : Vote E) → In x o.votes → In x p.votes
  grants : (x : Grant E) → In x o.grants → In x p.grants
  leads : (x : Claim E) → In x o.leads → In x p.leads
  accepts : (x : Claim E) → In x o.accepts → In x p.accepts

pub own_same : {E : Type 0} (o : Own E) → OwnGrows o o
own_same o = record { votes = λ x h. h; grants = λ x h. h; leads = λ x h. h; accepts = λ x h. h }

pub own_took : {E : Type 0} (o : Own E) (c : Claim E) → OwnGrows o (record o { accepts = c ∷ o.accepts })
own_took o c = record { votes = λ x h. h; grants = λ x h. h; leads = λ x h. h; accepts = λ x h. there h }

pub own_row : {E : Type 0} (i : ℕ) (o : Own E) (e : NodeEvent E) → OwnGrows o (change i o e)
own_row i o (Admits k p a) = own_same o
own_row i o (Boot p a l) = record { votes = λ x h. h; grants = λ x h. h; leads = λ x h. h; accepts = λ x h. h }
own_row i o Down = record { votes = λ x h. h; grants = λ x h. h; leads = λ x h. h; accepts = λ x h. h }
own_row i o (Back p) = record { votes = λ x h. h; grants = λ x h. h; leads = λ x h. h; accepts = λ x h. h }
own_row i o BackLead = record { votes = λ x h. h; grants = λ x h. h; leads = λ x h. there h; accepts = λ x h. there h }
own_row i o (BackTake g l) = record { votes = λ x h. h; grants = λ x h. h; leads = λ x h. h; accepts = λ x h. there h }
own_row i o (BackGrow l) = record { votes = λ x h. h; grants = λ x h. h; leads = λ x h. h; accepts = λ x h. there h }
own_row i o (BackAppend e) = record { votes = λ x h. h; grants = λ x h. h; leads = λ x h. h; accepts = λ x h. there h }
own_row i o (Stand g) = record { votes = λ x h. there h; grants = λ x h. there h; leads = λ x h. h; accepts = λ x h. h }
own_row i o (Grants g to) = record { votes = λ x h. h; grants = λ x h. there h; leads = λ x h. h; accepts = λ x h. h }
own_row i o Lead = record { votes = λ x h. h; grants = λ x h. h; leads = λ x h. there h; accepts = λ x h. there h }
own_row i o (Take g l) = record { votes = λ x h. h; grants = λ x h. h; leads = λ x h. h; accepts = λ x h. there h }
own_row i o (Grow l) = record { votes = λ x h. h; grants = λ x h. h; leads = λ x h. h; accepts = λ x h. there h }
own_row i o (Append e) = record { votes = λ x h. h; grants = λ x h. h; leads = λ x h. h; accepts = λ x h. there h }
own_row i o (LearnLead l) = record { votes = λ x h. h; grants = λ x h. h; leads = λ x h. h; accepts = λ x h. h }
own_row i o (LearnFollow l) = record { votes = λ x h. h; grants = λ x h. h; leads = λ x h. h; accepts = λ x h. h }
own_row i o (Asks t) = own_same o
own_row i o (Probe t) = record { votes = λ x h. h; grants = λ x h. h; leads = λ x h. h; accepts = λ x h. h }
own_row i o (Confirm t g) = record { votes = λ x h. h; grants = λ x h. h; leads = λ x h. h; accepts = λ x h. h }

-- what holds of the new part where k is the actor, and of the old one where it isn't, holds of the part of k
pub at_node : {E : Type 0} (w : World E) (i : ℕ) (e : NodeEvent E) (P : ℕ → Own E → Type 0) (k : ℕ) → P i (change i (w.nodes i) e) → P k (w.nodes k) → P k ((happens w i e).nodes k)
at_node {E} w i e P k new old = go (k == i) refl
  where
    go : (b : Bool) → (k == i) ≡ b → P k (cond b (change i (w.nodes i) e) (w.nodes k))
    go true t = subst (λ j. P j (change i (w.nodes i) e)) (sym ((Decides-eqb k i).0 t)) new
    go false t = old

pub admits_row : {E : Type 0} (w : World E) (e : NodeEvent E) (x : Admit) → In x w.admits → In x (admitted w e)
admits_row w (Admits k p a) x h = there h
admits_row w _ x h = h

pub grows_row : {E : Type 0} (w : World E) (i : ℕ) (e : NodeEvent E) → Grows w (happens w i e)
grows_row {E} w i e = record { votes = λ k. (at k).votes; grants = λ k. (at k).grants; leads = λ k. (at k).leads; accepts = λ k. (at k).accepts; admits = admits_row w e }
  where
    at : (k : ℕ) → OwnGrows (w.nodes k) ((happens w i e).nodes k)
    at k = at_node w i e (λ j o. OwnGrows (w.nodes j) o) k (own_row i (w.nodes i) e) (own_same (w.nodes k))

pub self_row : {E : Type 0} (w : World E) (i : ℕ) (e : NodeEvent E) → (happens w i e).nodes i ≡ change i (w.nodes i) e
self_row w i e = ap (λ b. cond b (change i (w.nodes i) e) (w.nodes i)) ((Decides-eqb i i).1 refl)

pub fit_row : {E : Type 0} {n : ℕ} {w : World E} → Inv n w → (i : ℕ) (e : NodeEvent E) → Enabled n w i (w.nodes i) e → Fit n (admitted w e)
fit_row inv i (Admits k p a) en = en.1
fit_row inv i _ en = inv.fit

-- an enabled event keeps the invariant
pub kept : {E : Type 0} {n : ℕ} {w : World E} → Inv n w → (i : ℕ) (e : NodeEvent E) → Enabled n w i (w.nodes i) e → Inv n (happens w i e)
kept {E} {n} {w} inv i e en =
    let g = grows_row w i e in
    record {
      local = λ k. at_node w i e (λ j o. Local o) k (local_row inv i e en) (inv.local k);
      refs = λ k. at_node w i e (λ j o. Refs n (happens w i e) j o) k (refs_row inv i e en (happens w i e) g (self_row w i e)) (refs_grow g (inv.refs k));
      fit = fit_row inv i e en;
    }

pub start_local : {E : Type 0} → Local {E = E} blank
start_local = record {
  below = omega arith;
  store = omega arith;
  awake = λ (e : false ≡ true). absurd (cc);
  fresh = λ e. refl;
  heads = λ (e : false ≡ true). absurd (cc);
  last = each_none;
  held = inr (omega arith);
  grants = each_none;
  grant_once = record { same = λ x y h. absurd (nothing h) };
  votes = each_none;
  vote_once = record { same = λ x y h. absurd (nothing h) };
  leads = each_none;
  chain = record { one = λ x y h. absurd (nothing h) };
  ships = each_none;
  acks = each_none;
}

pub start_refs : {E : Type 0} (n i : ℕ) → Refs {E = E} n (after []) i blank
start_refs n i = record { admitted = λ (e : false ≡ true). absurd (cc); granted = each_none; led = each_none; follows = each_none; durables = each_none; known = inl refl; fits = omega arith }

-- it holds after each legal history
pub always : {E : Type 0} (n : ℕ) (h : List (ℕ × NodeEvent E)) → Legal n h → Inv n (after h)
always n [] legal = record { local = λ i. start_local; refs = λ i. start_refs n i; fit = each_none }
always n (x ∷ h) legal = kept (always n h legal.1) x.0 x.1 legal.0

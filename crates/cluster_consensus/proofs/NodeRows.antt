-- Each event keeps what is said of its actor alone.
use Rattle.std.proofs.Common.{◌≡◌, ℕ, ◌<◌, ◌≤◌, List, [], ◌∷◌, ◌++◌, length, take, arith, refl, sym, subst, ◌∙◌}
use Rattle.std.specs.Prelude.{Bool, true, false}
use mathlib.Core.Logic.{inr}
use Rattle.cluster_consensus.proofs.FactSteps.{grown}
use Rattle.cluster_consensus.proofs.Invariant.{Local, Inv}
use Rattle.cluster_consensus.proofs.NodeSteps.{quiet, raised, took_local, led_local, heads_local, told_local, grant_local, stand_local, not_fresh}
use Rattle.cluster_consensus.specs.Enabled.{IsGranted, CanLead, CanTake, Enabled}
use Rattle.cluster_consensus.specs.Events.{NodeEvent, change, took}
use Rattle.cluster_consensus.specs.Events.NodeEvent.{Admits, Boot, Down, Back, BackLead, BackTake, BackGrow, BackAppend, Stand, Grants, Lead, Take, Grow, Append, LearnLead, LearnFollow, Asks, Probe, Confirm}
use Rattle.cluster_consensus.specs.Facts.{Claim, Ping, Pong, Own, World, blank}
use Rattle.core_lists.proofs.Fronts.{front_append}
use Rattle.core_lists.proofs.Lists.{each_add, each_none, nothing}
use Rattle.core_lists.proofs.Majorities.{some_of}
use Rattle.core_lists.specs.Fronts.{Front}
use Rattle.core_lists.specs.Lists.{In, Has}
use Rattle.core_lists.specs.Lists.In.{here}

-- pings and pongs say nothing here
pinged : {E : Type 0} {o : Own E} → Local o → (pings : List Ping) (pongs : List Pong) → o.was_up ≡ true → Local (record o { pings = pings; pongs = pongs })
pinged l pings pongs was = record {
  below = l.below;
  store = l.store;
  awake = λ e. was;
  fresh = not_fresh was;
  heads = l.heads;
  last = l.last;
  held = l.held;
  grants = record { at = λ x h. let g = l.grants.at x h in record { low = g.low; above = g.above; held = g.held; store = g.store; was = g.was; closed = g.closed } };
  grant_once = l.grant_once;
  votes = record { at = λ x h. let g = l.votes.at x h in record { low = g.low; above = g.above; held = g.held; still = g.still } };
  vote_once = l.vote_once;
  leads = l.leads;
  chain = l.chain;
  ships = l.ships;
  acks = l.acks;
}

-- a first Up
boot_local : {E : Type 0} (p a : ℕ) (l : List E) → a ≤ p → Local (change 0 blank (Boot p a l))
boot_local p a l le = record {
  below = le;
  store = omega arith;
  awake = λ e. refl;
  fresh = not_fresh refl;
  heads = λ (e : false ≡ true). absurd (cc);
  last = each_none;
  held = inr (omega arith);
  grants = each_none;
  grant_once = record { same = λ x y h. absurd (nothing h) };
  votes = each_none;
  vote_once = record { same = λ x y h. absurd (nothing h) };
  leads = each_none;
  chain = record { one = λ x y h. absurd (nothing h) };
  ships = each_none;
  acks = each_none;
}

not_heads : {E : Type 0} {o : Own E} → Local o → o.accepted < o.promised → o.leading ≡ false
not_heads {E} {o} l lt = go o.leading refl
  where
    go : (b : Bool) → o.leading ≡ b → o.leading ≡ false
    go true e = let h = (l.heads e).0 in absurd (omega arith)
    go false e = e

-- who may lead stood with the log that it has
stood_with : {E : Type 0} {n : ℕ} {w : World E} → Inv n w → (i : ℕ) → CanLead n w i (w.nodes i) → Has (λ v. (v.gen ≡ (w.nodes i).promised) × (v.log ≡ (w.nodes i).log)) (w.nodes i).votes
stood_with {E} {n} {w} inv i can = go (some_of can.1)
  where
    go : (k : ℕ) × IsGranted w (w.nodes i).promised i k → Has (λ v. (v.gen ≡ (w.nodes i).promised) × (v.log ≡ (w.nodes i).log)) (w.nodes i).votes
    go r =
        let x = r.1 in
        let v = (inv.refs r.0).granted.at x.it x.mem in
        let mem : In v.it (w.nodes i).votes = subst (λ t. In v.it (w.nodes t).votes) x.is.1 v.mem in
        let gen : v.it.gen ≡ (w.nodes i).promised = v.is.0 ∙ x.is.0 in
        let lt : (w.nodes i).accepted < (w.nodes i).promised = can.0 in
        let same = ((inv.local i).votes.at v.it mem).still gen (omega arith) in
        record { it = v.it; mem = mem; is = (gen, sym same.1) }

-- the part takes a log in a greater generation, or more in the same
took_row : {E : Type 0} {n : ℕ} {w : World E} → Inv n w → (i g : ℕ) (l : List E) → CanTake w (w.nodes i) g l → (w.nodes i).was_up ≡ true → Local (record (took (w.nodes i) g l) { leading = false })
took_row {E} {n} {w} inv i g l can was =
    let o = w.nodes i in
    let a = raised (inv.local i) o.promised (omega arith) was in
    let lt : (w.nodes i).accepted < g = can.1 in
    took_local a g l can.0 was (λ (e : (w.nodes i).accepted ≡ g). absurd (omega arith)) (λ (e : false ≡ true). absurd (cc))

same_row : {E : Type 0} {n : ℕ} {w : World E} → Inv n w → (i : ℕ) (l : List E) → (w.nodes i).promised ≤ (w.nodes i).accepted → Front (w.nodes i).log l → (w.nodes i).was_up ≡ true → Local (took (w.nodes i) (w.nodes i).accepted l)
same_row {w = w} inv i l le pre was = took_local (inv.local i) (w.nodes i).accepted l le was (λ e. pre) (λ e. refl)

pub heads_le : {E : Type 0} {o : Own E} → Local o → o.leading ≡ true → o.promised ≤ o.accepted
heads_le {E} {o} l e = let h : o.accepted ≡ o.promised = (l.heads e).0 in omega arith

-- an acceptance is acknowledged
acked : {E : Type 0} {o : Own E} → Local o → o.was_up ≡ true → (c : Claim E) → In c o.accepts → Local (record o { acks = c ∷ o.acks })
acked {o = o} l was c h = told_local l was o.ships (c ∷ o.acks) o.durables l.ships (each_add h l.acks)

-- and shipped, by the leader of its generation
shipped : {E : Type 0} {o : Own E} → Local o → o.was_up ≡ true → (c : Claim E) → In c o.accepts → Has (λ l. l.gen ≡ c.gen) o.leads → Local (record o { ships = c ∷ o.ships; acks = c ∷ o.acks })
shipped {o = o} l was c h lead = told_local l was (c ∷ o.ships) (c ∷ o.acks) o.durables (each_add (lead, h) l.ships) (each_add h l.acks)

down_row : {E : Type 0} {o : Own E} → Local o → (b : Bool) → o.was_up ≡ b → Local (record o { up = false })
down_row {o = o} l true e = quiet l o.durable o.adopted false e
down_row {E} {o} l false e =
    let same = l.fresh e in
    subst (λ (t : Own E). Local (record t { up = false })) (sym same) (subst Local same l)

pub local_row : {E : Type 0} {n : ℕ} {w : World E} → Inv n w → (i : ℕ) (e : NodeEvent E) → Enabled n w i (w.nodes i) e → Local (change i (w.nodes i) e)
local_row inv i (Admits k p a) en = inv.local i
local_row {w = w} inv i (Boot p a l) en = subst (λ o. Local (change 0 o (Boot p a l))) (sym ((inv.local i).fresh en.1)) (boot_local p a l en.2)
local_row {w = w} inv i Down en = down_row (inv.local i) (w.nodes i).was_up refl
local_row {w = w} inv i (Back p) en = quiet (raised (inv.local i) p en.2 en.1) 0 (w.nodes i).adopted true en.1
local_row {w = w} inv i BackLead en =
    let l = led_local (inv.local i) en.2.0 en.1 (not_heads (inv.local i) en.2.0) (stood_with inv i en.2) in
    quiet (raised l (w.nodes i).promised (omega arith) en.1) 0 (w.nodes i).adopted true en.1
local_row {w = w} inv i (BackTake g l) en = quiet (took_row inv i g l en.2 en.1) 0 (w.nodes i).adopted true en.1
local_row {w = w} inv i (BackGrow l) en =
    let t = same_row inv i l en.2.0 (grown inv i l en.2).0 en.1 in
    quiet (raised t (w.nodes i).accepted (omega arith) en.1) 0 (w.nodes i).adopted true en.1
local_row {w = w} inv i (BackAppend e) en =
    let t = same_row inv i ((w.nodes i).log ++ e ∷ []) (heads_le (inv.local i) en.2) (front_append (w.nodes i).log (e ∷ [])) en.1 in
    quiet (raised t (w.nodes i).accepted (omega arith) en.1) 0 (w.nodes i).adopted true en.1
local_row {w = w} inv i (Stand g) en = stand_local (inv.local i) i g en.1 ((inv.local i).awake en.0)
local_row {w = w} inv i (Grants g to) en = grant_local (inv.local i) g to en.1 ((inv.local i).awake en.0)
local_row {w = w} inv i Lead en =
    let o = w.nodes i in
    let was = (inv.local i).awake en.0 in
    let l = led_local (inv.local i) en.1.0 was (not_heads (inv.local i) en.1.0) (stood_with inv i en.1) in
    let h = heads_local (quiet l o.durable (length o.log) o.up was) was refl (record { it = record { gen = o.promised; log = o.log }; mem = here; is = refl }) in
    shipped h was (record { gen = o.promised; log = o.log }) here (record { it = record { gen = o.promised; log = o.log }; mem = here; is = refl })
local_row {w = w} inv i (Take g l) en =
    let was = (inv.local i).awake en.0 in
    acked (took_row inv i g l en.1 was) was (record { gen = g; log = l }) here
local_row {w = w} inv i (Grow l) en =
    let was = (inv.local i).awake en.0 in
    acked (same_row inv i l en.1.0 (grown inv i l en.1).0 was) was (record { gen = (w.nodes i).accepted; log = l }) here
local_row {w = w} inv i (Append e) en =
    let o = w.nodes i in
    let was = (inv.local i).awake en.0 in
    let t = same_row inv i (o.log ++ e ∷ []) (heads_le (inv.local i) en.1) (front_append o.log (e ∷ [])) was in
    shipped t was (record { gen = o.accepted; log = o.log ++ e ∷ [] }) here ((inv.local i).heads en.1).1
local_row {w = w} inv i (LearnLead l) en =
    let o = w.nodes i in
    let l' = inv.local i in
    let was = l'.awake en.0 in
    told_local (quiet l' l o.adopted o.up was) was o.ships o.acks (record { gen = o.accepted; log = take l o.log } ∷ o.durables) l'.ships l'.acks
local_row {w = w} inv i (LearnFollow l) en = quiet (inv.local i) l (w.nodes i).adopted (w.nodes i).up ((inv.local i).awake en.0)
local_row inv i (Asks t) en = inv.local i
local_row {w = w} inv i (Probe t) en = let o = w.nodes i in pinged (inv.local i) (record { ask = t; gen = o.accepted; durable = o.durable } ∷ o.pings) o.pongs ((inv.local i).awake en.0)
local_row {w = w} inv i (Confirm t g) en = let o = w.nodes i in pinged (inv.local i) o.pings (record { ask = t; gen = g } ∷ o.pongs) ((inv.local i).awake en.0)

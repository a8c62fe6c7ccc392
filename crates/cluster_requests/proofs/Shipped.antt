-- The log over which a verdict was given was shipped, so that a length told durable in its generation makes it durable.
use Rattle.std.proofs.Common.{◌≡◌, ℕ, ◌≤◌, List, [], ◌∷◌, length, take, arith, refl, sym, subst, ◌++◌, ◌+◌, length-append}
use Rattle.std.specs.Prelude.{true, false}
use Rattle.cluster_consensus.proofs.Commits.{committed}
use Rattle.cluster_consensus.proofs.Kept.{at_node}
use Rattle.cluster_consensus.specs.Committed.{IsCommitted}
use Rattle.cluster_consensus.specs.Durable.{DurableIn}
use Rattle.cluster_requests.specs.Identities.{HasAt}
use Rattle.phys_log.specs.declared.entries.CommitId.{CommitId}
use Rattle.cluster_consensus.specs.Events.{NodeEvent, change}
use Rattle.cluster_consensus.specs.Events.NodeEvent.{Lead, Append}
use Rattle.cluster_consensus.specs.Facts.{Claim, Own}
use Rattle.cluster_facts.proofs.ToldLaws.{Shipping, shipping_row}
use Rattle.cluster_requests.proofs.Settled.{Good, good}
use Rattle.cluster_requests.specs.KeptEntries.{KeptEntry}
use Rattle.cluster_requests.specs.Requests.{Settled, FieldAct, Field, May, does, field_after, AllMay}
use Rattle.cluster_requests.specs.Requests.FieldAct.{Core, ToSend, ToSettle, ToRepeat}
use Rattle.core_lists.proofs.Fronts.{front_take, length_take}
use Rattle.core_lists.proofs.Lists.{each_add, each_none}
use Rattle.core_lists.specs.Fronts.{Front}
use Rattle.core_lists.specs.Lists.{In, Each, Has}
use Rattle.core_lists.specs.Lists.In.{there}

ships_on : {E : Type 0} (i : ℕ) (o : Own E) (e : NodeEvent E) (x : Claim E) → In x o.ships → In x (change i o e).ships
ships_on i o Lead x h = there h
ships_on i o (Append e) x h = there h
ships_on i o _ x h = h

abbrev pub IsToldShipped : Field → Settled → Type 0
IsToldShipped f z = Has (λ x. (x.gen ≡ z.gen) × (x.log ≡ z.log)) (f.core.nodes z.by).ships

pub record Shipped (f : Field) : Type 0 where
  pub ship : (k : ℕ) → Shipping (f.core.nodes k)
  pub told : Each (IsToldShipped f) f.settles

ship_step : (n : ℕ) (f : Field) (i : ℕ) (a : FieldAct) → Good n f → May n f i a → Shipped f → Shipped (does f i a)
ship_step n f i (Core e) old may g = record {
  ship = λ k. at_node f.core i e (λ j o. Shipping o) k (shipping_row old.inv i e may.0 (g.ship i)) (g.ship k);
  told = record { at = λ z h. (let t = g.told.at z h in record { it = t.it; mem = moved z.by t.it t.mem; is = t.is }) };
}
  where
    moved : (k : ℕ) (x : Claim KeptEntry) → In x (f.core.nodes k).ships → In x ((does f i (Core e)).core.nodes k).ships
    moved k x h = at_node f.core i e (λ j o. j ≡ k → In x o.ships) k (λ q. ships_on i (f.core.nodes i) e x (subst (λ j. In x (f.core.nodes j).ships) (sym q) h)) (λ q. h) refl
ship_step n f i (ToSend x) old may g = record { ship = g.ship; told = record { at = λ z h. g.told.at z h } }
ship_step n f i (ToSettle id v) old may g = record { ship = g.ship; told = each_add (g.ship i may.1) (record { at = λ z h. g.told.at z h }) }
ship_step n f i (ToRepeat id k) old may g = record { ship = g.ship; told = record { at = λ z h. g.told.at z h } }

shipped : (n : ℕ) (h : List (ℕ × FieldAct)) → AllMay n h → Shipped (field_after h)
shipped n [] may = record { ship = λ k. λ (t : false ≡ true). absurd (cc); told = each_none }
shipped n (x ∷ h) may = ship_step n (field_after h) x.0 x.1 (good n h may.1) may.0 (shipped n h may.1)

pub positions_durable : (n j p : ℕ) (h : List (ℕ × FieldAct)) (z : Settled) (d : Claim KeptEntry) → AllMay n h → In z (field_after h).settles → In d ((field_after h).core.nodes j).durables → d.gen ≡ z.gen → p ≤ length z.log → p ≤ length d.log → DurableIn n (field_after h).core z.gen (take p z.log)
positions_durable n j p h z d may hz hd eq low reach =
    let t = (shipped n h may).told.at z hz in
    let l = length_take p z.log in
    committed (good n h may).inv z.gen (take p z.log)
    (z.by, j, record { it = t.it; mem = t.mem; is = (t.is.0, subst (λ y. Front (take p z.log) y) (sym t.is.1) (front_take p z.log)) }, record { it = d; mem = hd; is = (eq, omega arith) })

-- what is repeated is committed there, once a length told durable in that generation reaches it
pub repeat_stands : (n i j k : ℕ) (h : List (ℕ × FieldAct)) (id : CommitId) (d : Claim KeptEntry) → AllMay n h → May n (field_after h) i (ToRepeat id k) → In d ((field_after h).core.nodes j).durables → d.gen ≡ ((field_after h).core.nodes i).accepted → k ≤ length d.log → (p : HasAt id k ((field_after h).core.nodes i).log) × IsCommitted (field_after h).core ((field_after h).core.nodes i).accepted (p.before ++ p.entry ∷ [])
repeat_stands n i j k h id d all may hd eq reach =
    let t = (shipped n h all).ship i may.1 in
    let p = may.2 in
    let l = length-append p.before (p.entry ∷ []) in
    let at : length p.before + 1 ≡ k = p.place in
    (p, (i, j, record { it = t.it; mem = t.mem; is = (t.is.0, subst (λ y. Front (p.before ++ p.entry ∷ []) y) (sym t.is.1) p.front) }, record { it = d; mem = hd; is = (eq, omega arith) }))

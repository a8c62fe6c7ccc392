-- A node stands, and begins its log: what its log and its store have then.
use Rattle.std.proofs.Common.{◌≡◌, inl, inr, ℕ, ◌+◌, ◌==◌, Bool, true, length, List, [], ◌∷◌, ◌++◌, sym, ◌∙◌, ap, subst, arith}
use Rattle.std.proofs.Math.Logic.{∥∥₁_map}
use Rattle.std.proofs.lemmas.Bool.{eqb-true}
use Rattle.cdb_outside.specs.Stores.{JoinsFront}
use Rattle.cdb_values.specs.declared.tables.TableDef.{TableDef}
use Rattle.phys_log.specs.declared.entries.Entry.{Entry}
use Rattle.store_log.specs.declared.standings.Standing.TheVariants.{Log}
use Rattle.store_log.specs.Held.{StandsFor}
use Rattle.store_log.specs.Keeps.{Stored}
use Rattle.node_log.specs.Logged.{Logged, Stand, StandForOne, Leaves, with_entry, with_promise, with_stand}
use Rattle.node_log.proofs.StepLemmas.{none_join}
use Rattle.node_opening.specs.Left.{StandsPartway}
use Rattle.node_opening.specs.Stands.{LeavesBegun, LeavesPartway}
use Rattle.node_opening.specs.Up.{IsBegin}

-- a log that stands in the next generation
pub record HasStood (l k : Logged) : Type 0 where
  pub promised : k.promised ≡ l.promised + 1
  pub accepted : k.accepted ≡ l.promised + 1
  pub entries : k.entries ≡ l.entries
  pub node : k.node ≡ l.node
  pub cluster : k.cluster ≡ l.cluster
  pub failed : k.failed ≡ l.failed

pub has_stood : (l k : Logged) (g : ℕ) → k ≡ record (with_stand l g) { store = k.store } → g ≡ l.promised + 1 → HasStood l k
has_stood l k g e above = record {
  promised = ap (λ (m : Logged). m.promised) e ∙ above;
  accepted = ap (λ (m : Logged). m.accepted) e ∙ above;
  entries = ap (λ (m : Logged). m.entries) e;
  node = ap (λ (m : Logged). m.node) e;
  cluster = ap (λ (m : Logged). m.cluster) e;
  failed = ap (λ (m : Logged). m.failed) e;
}

pub is_none : (xs ys : List Entry) (b : Bool) → b ≡ (length xs == 0) → b ≡ true → xs ≡ ys → ys ≡ []
is_none [] ys b told empty same = sym same
is_none (x ∷ xs) ys b told empty same = absurd (let h : length (x ∷ xs) ≡ 0 = eqb-true (length (x ∷ xs)) 0 (sym told ∙ empty) in omega arith)

first_entry : (es : List Entry) (e : Entry) → es ≡ [] → es ++ e ∷ [] ≡ e ∷ []
first_entry es e none = ap (λ (l : List Entry). l ++ e ∷ []) none

-- what a stop leaves
pub left_before : (l : Logged) (given : List TableDef) (store : Stored) → store ≡ l.store → l.store.pending ≡ [] → ∥ Stand l.store.synced l ∥₁
    → LeavesPartway l given store
left_before l given store same settled stands stopped joins =
    let joined : JoinsFront l.store.synced l.store.pending stopped = subst (λ (s : Stored). JoinsFront s.synced s.pending stopped) same joins in
    let is : stopped ≡ l.store.synced = none_join l.store.synced l.store.pending stopped settled joined in
    ∥∥₁_map stands (λ here. inl (subst (λ (bytes : List ℕ). Stand bytes l) (sym is) here))

one_of_three : (bytes : List ℕ) (l : Logged) (given : List TableDef)
    → StandForOne bytes (l ∷ with_promise l (l.promised + 1) ∷ with_stand l (l.promised + 1) ∷ [])
    → StandsPartway l.node l.cluster bytes given l.promised l.accepted l.entries
one_of_three bytes l given (inl here) = inl here
one_of_three bytes l given (inr (inl here)) = inr (inl here)
one_of_three bytes l given (inr (inr (inl here))) = inr (inr (inl here))
one_of_three bytes l given (inr (inr (inr none))) = absurd none

pub left_standing : (l : Logged) (given : List TableDef) (store : Stored)
    → Leaves store (l ∷ with_promise l (l.promised + 1) ∷ with_stand l (l.promised + 1) ∷ []) → LeavesPartway l given store
left_standing l given store leaves stopped joins = ∥∥₁_map (leaves stopped joins) (one_of_three stopped l given)

-- a log that stands there is partway of the one before
stands_partway : (l m : Logged) (given : List TableDef) (bytes : List ℕ) → HasStood l m → Stand bytes m
    → StandsPartway l.node l.cluster bytes given l.promised l.accepted l.entries
stands_partway l m given bytes s here =
    inr (inr (inl (subst (λ (n : ℕ). StandsFor n l.cluster bytes (Log (l.promised + 1) (l.promised + 1) l.entries)) s.node
    (subst (λ (c : ℕ). StandsFor m.node c bytes (Log (l.promised + 1) (l.promised + 1) l.entries)) s.cluster
    (subst (λ (p : ℕ). StandsFor m.node m.cluster bytes (Log p (l.promised + 1) l.entries)) s.promised
    (subst (λ (a : ℕ). StandsFor m.node m.cluster bytes (Log m.promised a l.entries)) s.accepted
    (subst (λ (es : List Entry). StandsFor m.node m.cluster bytes (Log m.promised m.accepted es)) s.entries here)))))))

pub left_stood : (l m : Logged) (given : List TableDef) (store : Stored) → HasStood l m → store ≡ m.store → m.store.pending ≡ [] → ∥ Stand m.store.synced m ∥₁
    → LeavesPartway l given store
left_stood l m given store s same settled stands stopped joins =
    let joined : JoinsFront m.store.synced m.store.pending stopped = subst (λ (t : Stored). JoinsFront t.synced t.pending stopped) same joins in
    let is : stopped ≡ m.store.synced = none_join m.store.synced m.store.pending stopped settled joined in
    ∥∥₁_map stands (λ here. stands_partway l m given stopped s (subst (λ (bytes : List ℕ). Stand bytes m) (sym is) here))

begun_partway : (l m : Logged) (given : List TableDef) (bytes : List ℕ) (e : Entry) → HasStood l m → m.entries ≡ [] → IsBegin m.accepted given e
    → StandForOne bytes (m ∷ with_entry m e ∷ []) → StandsPartway l.node l.cluster bytes given l.promised l.accepted l.entries
begun_partway l m given bytes e s none begin (inl here) = stands_partway l m given bytes s here
begun_partway l m given bytes e s none begin (inr (inl here)) =
    inr (inr (inr (record {
      none = sym s.entries ∙ none;
      entry = e;
      begin = subst (λ (g : ℕ). IsBegin g given e) s.accepted begin;
      stands = subst (λ (n : ℕ). StandsFor n l.cluster bytes (Log (l.promised + 1) (l.promised + 1) (e ∷ []))) s.node
          (subst (λ (c : ℕ). StandsFor m.node c bytes (Log (l.promised + 1) (l.promised + 1) (e ∷ []))) s.cluster
          (subst (λ (p : ℕ). StandsFor m.node m.cluster bytes (Log p (l.promised + 1) (e ∷ []))) s.promised
          (subst (λ (a : ℕ). StandsFor m.node m.cluster bytes (Log m.promised a (e ∷ []))) s.accepted
          (subst (λ (es : List Entry). StandsFor m.node m.cluster bytes (Log m.promised m.accepted es)) (first_entry m.entries e none) here))));
    })))
begun_partway l m given bytes e s none begin (inr (inr nothing)) = absurd nothing

pub left_begun : (l m : Logged) (given : List TableDef) (store : Stored) → HasStood l m → m.entries ≡ [] → LeavesBegun m given store → LeavesPartway l given store
left_begun l m given store s none b stopped joins =
    ∥∥₁_map (b.left stopped joins) (begun_partway l m given stopped b.entry s none b.begin)

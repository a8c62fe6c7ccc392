-- Pages that stand for a state keep its keys, without a look at the rows.
use Rattle.std.proofs.Common.{◌≡◌, ◌⊎◌, inl, inr, ℕ, zero, suc, ◌<◌, ◌^◌, Bool, true, false, not, ◌&&◌, List, [], ◌∷◌, ◌++◌, Option, Some, None, unwrap_or, refl, sym, ap, ◌∙◌, subst, arith}
use Rattle.std.specs.List.{AllByRecursion, slice_get}
use Rattle.page_store.specs.Image.{Image}
use Rattle.cdb_values.specs.Rows.{Rows, versions_of}
use Rattle.cdb_values.specs.Good.{are_apart}
use Rattle.cdb_values.specs.declared.rows.Version.{Version}
use Rattle.cdb_values.specs.declared.tables.TableDef.{TableDef}
use Rattle.cdb_values.specs.declared.tables.KeyDef.{KeyDef}
use Rattle.cdb_values.specs.declared.values.Value.{Value}
use Rattle.key_code.specs.Codes.{IsInRange, IsRowValue}
use Rattle.table_store.specs.Forests.{Pair, IsTree, AreTrees}
use Rattle.table_store.specs.Plans.{Planned, plan_from}
use Rattle.table_store.specs.Listings.{IsAmong, Lists, AreLists}
use Rattle.table_store.specs.States.{Rise, AreVersions, IsState}
use Rattle.table_store.specs.Stored.{Stands}
use Rattle.table_store.specs.Operations.{breaks_in}
use Rattle.table_store.proofs.AmongLaws.{among_either, among_all, all_among}
use Rattle.table_store.proofs.ListingLaws.{OneEach, OneGenid}
use Rattle.table_store.proofs.BrokenLaws.{Ranged}
use Rattle.table_store.proofs.TreeLemmas.{Later, listed_apart}
use Rattle.table_store.proofs.StateLaws.{rise_below}
use Rattle.table_store.proofs.RisingLaws.{tree_once}

pub later_from : (before vs : List Version) (next : ℕ) → Rise vs next → ((w : Version) → IsAmong w before → AllByRecursion (λ v. w.genid < v.genid) vs) → Later before vs
later_from before [] next h f = tt
later_from before (v ∷ vs) next h f =
    (all_among (λ w. w.genid < v.genid) before (λ w i. (f w i).0), later_from (before ++ v ∷ []) vs next h.2 (λ w i. go w (among_either w before (v ∷ []) i)))
  where
    go : (w : Version) → IsAmong w before ⊎ IsAmong w (v ∷ []) → AllByRecursion (λ u. w.genid < u.genid) vs
    go w (inl i) = (f w i).1
    go w (inr (inl e)) = subst (λ (x : Version). AllByRecursion (λ u. x.genid < u.genid) vs) (sym e) h.1
    go w (inr (inr i)) = absurd i

one_of : (vs : List Version) (next : ℕ) → Rise vs next → (v w : Version) → IsAmong v vs → IsAmong w vs → v.genid ≡ w.genid → v ≡ w
one_of [] next h v w i j e = absurd i
one_of (x ∷ xs) next h v w (inl a) (inl b) e = a ∙ sym b
one_of (x ∷ xs) next h v w (inl a) (inr j) e =
    absurd (clash (among_all (λ (u : Version). x.genid < u.genid) w xs h.1 j) (sym (ap (λ (u : Version). u.genid) a) ∙ e))
  where
    clash : x.genid < w.genid → x.genid ≡ w.genid → ⊥
    clash l e = omega arith
one_of (x ∷ xs) next h v w (inr i) (inl b) e =
    absurd (clash (among_all (λ (u : Version). x.genid < u.genid) v xs h.1 i) (e ∙ ap (λ (u : Version). u.genid) b))
  where
    clash : x.genid < v.genid → v.genid ≡ x.genid → ⊥
    clash l e = omega arith
one_of (x ∷ xs) next h v w (inr i) (inr j) e = one_of xs next h.2 v w i j e

pub one_genid : (vs : List Version) (next : ℕ) → next < 2 ^ 64 → Rise vs next → OneGenid vs
one_genid vs next small h = record {
  one = one_of vs next h;
  small = λ v i. (let below : v.genid < next = rise_below v vs next h i in omega (arith, below, small));
}

in_range : (row : List Value) → AllByRecursion IsRowValue row → AllByRecursion IsInRange row
in_range [] h = tt
in_range (v ∷ vs) h = (h.0.written.range, in_range vs h.1)

pub all_ranged : (vs : List Version) → AllByRecursion (λ v. AllByRecursion IsRowValue v.row) vs → AllByRecursion Ranged vs
all_ranged [] h = tt
all_ranged (v ∷ vs) h = (in_range v.row h.0, all_ranged vs h.1)

pub tree_keeps : (pages : ℕ → Image) (root next : ℕ) (own : List ℕ) (list : List Pair) (key : Option KeyDef) (versions : List Version)
    → IsTree pages root own list → Lists key versions list → next < 2 ^ 64 → AreVersions next versions → breaks_in key versions ≡ false
tree_keeps pages root next own list None versions t h small v = refl
tree_keeps pages root next own list (Some key) versions t h small v = go key.unique refl
  where
    go : (u : Bool) → key.unique ≡ u → (u && not (are_apart key [] versions)) ≡ false
    go false e = refl
    go true e =
        ap not (listed_apart key versions [] versions list e h (tree_once pages root own list t) (one_genid versions next small v.rise) (all_ranged versions v.coded)
        (λ w i. absurd i) (λ w i. i) (later_from [] versions next v.rise (λ w i. absurd i)))

pub all_or : (P : List Version → Type 0) (xs : List (List Version)) (t : ℕ) → P [] → AllByRecursion P xs → P (unwrap_or (slice_get xs t) [])
all_or P [] zero none a = none
all_or P [] (suc t) none a = none
all_or P (x ∷ xs) zero none a = a.0
all_or P (x ∷ xs) (suc t) none a = all_or P xs t none a.1

forest_keeps : (pages : ℕ → Image) (root : ℕ) (owns : List (List ℕ)) (lists : List (List Pair)) (rows : Rows) (plan : List Planned)
    → AreTrees pages root owns lists → AreLists rows plan lists → rows.next < 2 ^ 64 → AllByRecursion (AreVersions rows.next) rows.tables
    → AllByRecursion (λ p. breaks_in p.key (versions_of rows p.table) ≡ false) plan
forest_keeps pages root owns lists rows [] t h small v = tt
forest_keeps pages root [] [] rows (p ∷ ps) t h small v = absurd h
forest_keeps pages root [] (l ∷ ls) rows (p ∷ ps) t h small v = absurd t
forest_keeps pages root (o ∷ os) [] rows (p ∷ ps) t h small v = absurd t
forest_keeps pages root (o ∷ os) (l ∷ ls) rows (p ∷ ps) t h small v = (
  tree_keeps pages root rows.next o l p.key (versions_of rows p.table) t.0 h.0 small
      (all_or (AreVersions rows.next) rows.tables p.table (record { rise = tt; coded = tt }) v),
  forest_keeps pages (suc root) os ls rows ps t.1 h.1 small v,
)

-- no key of the plan is broken
pub stands_keeps : (pages : ℕ → Image) (tables : List TableDef) (rows : Rows) → Stands pages tables rows
    → AllByRecursion (λ p. breaks_in p.key (versions_of rows p.table) ≡ false) (plan_from 0 tables)
stands_keeps pages tables rows s = forest_keeps pages 1 s.owns s.lists rows (plan_from 0 tables) s.forest.trees s.listed s.state.next s.state.versions

-- Versions that the trees of a table list, table after table.
use Rattle.std.proofs.Common.{◌≡◌, ℕ, zero, suc, ◌^◌, ◌≤◌, ◌<◌, List, [], ◌∷◌, ◌++◌, map, take, drop, length, refl, sym, ap, ◌∙◌, subst, arith, append_assoc, append-nil}
use Rattle.std.specs.List.{AllByRecursion}
use Rattle.btree_index.specs.Trees.{pair_of}
use Rattle.cdb_values.specs.Good.{FitsTable}
use Rattle.cdb_values.specs.declared.rows.Version.{Version}
use Rattle.cdb_values.specs.declared.tables.TableDef.{TableDef}
use Rattle.key_code.specs.Codes.{IsRowValue}
use Rattle.tree_walk.specs.declared.walks.Walked.{Walked}
use Rattle.table_store.specs.Forests.{Pair}
use Rattle.table_store.specs.States.{Rise}
use Rattle.table_state.specs.Grown.{list_of, lists_of}
use Rattle.table_state.specs.Listed.{AllClimb, AreFitting, AreCellsOf, AreKeyLists, IsTable, AreTables}
use Rattle.table_state.proofs.ListedLaws.{one_reading}

-- versions that fit have rising genids
fitting_above : (table : TableDef) (least next low : ℕ) (vs : List Version) → low < least → AreFitting table least next vs → AllByRecursion (λ w. low < w.genid) vs
fitting_above table least next low [] h f = tt
fitting_above table least next low (v ∷ vs) h f =
    let from : least ≤ v.genid = f.0.from in
    (omega (arith, h, from), fitting_above table (suc v.genid) next low vs (omega (arith, h, from)) f.1)

pub fitting_rise : (table : TableDef) (least next : ℕ) (vs : List Version) → AreFitting table least next vs → Rise vs next
fitting_rise table least next [] f = tt
fitting_rise table least next (v ∷ vs) f =
    (f.0.below, fitting_above table (suc v.genid) next v.genid vs (omega arith) f.1, fitting_rise table (suc v.genid) next vs f.1)

pub fitting_coded : (table : TableDef) (least next : ℕ) (vs : List Version) → AreFitting table least next vs → AllByRecursion (λ v. AllByRecursion IsRowValue v.row) vs
fitting_coded table least next [] f = tt
fitting_coded table least next (v ∷ vs) f = (f.0.coded, fitting_coded table (suc v.genid) next vs f.1)

pub fitting_fits : (table : TableDef) (least next : ℕ) (vs : List Version) → AreFitting table least next vs → AllByRecursion (λ v. FitsTable table v.row) vs
fitting_fits table least next [] f = tt
fitting_fits table least next (v ∷ vs) f = (f.0.fits, fitting_fits table (suc v.genid) next vs f.1)

raised : (low : ℕ) (vs : List Version) → AllByRecursion (λ w. low < w.genid) vs → AllByRecursion (λ w. suc low ≤ w.genid) vs
raised low [] a = tt
raised low (v ∷ vs) a = (let above : low < v.genid = a.0 in omega (arith, above), raised low vs a.1)

pub fitting_from : (table : TableDef) (least next : ℕ) (vs : List Version) → AllByRecursion (λ w. least ≤ w.genid) vs → Rise vs next
    → AllByRecursion (λ v. AllByRecursion IsRowValue v.row) vs → AllByRecursion (λ v. FitsTable table v.row) vs → AreFitting table least next vs
fitting_from table least next [] from rise coded fits = tt
fitting_from table least next (v ∷ vs) from rise coded fits = (
  record { from = from.0; below = rise.0; coded = coded.0; fits = fits.0 },
  fitting_from table (suc v.genid) next vs (raised v.genid vs rise.1) rise.2 coded.1 fits.1,
)

pub from_zero : (vs : List Version) → AllByRecursion (λ w. 0 ≤ w.genid) vs
from_zero [] = tt
from_zero (v ∷ vs) = (omega arith, from_zero vs)

-- one table
pub table_unread : (table : TableDef) (next : ℕ) (cells : List (List ℕ)) (lists : List (List Pair)) → ((vs : List Version) → AreCellsOf table 0 next cells vs → ⊥)
    → (vs : List Version) → IsTable table next (map pair_of cells) lists vs → ⊥
table_unread table next cells lists none vs t = none vs (record { fitting = t.fitting; pairs = t.rows })

pub table_unlisted : (table : TableDef) (next : ℕ) (cells : List (List ℕ)) (lists : List (List Pair)) (found : List Version) → next < 2 ^ 62
    → AreCellsOf table 0 next cells found → (AreKeyLists table.keys found lists → ⊥) → (vs : List Version) → IsTable table next (map pair_of cells) lists vs → ⊥
table_unlisted table next cells lists found small h none vs t =
    none (subst (λ (l : List Version). AreKeyLists table.keys l lists)
    (one_reading table 0 next cells vs found small (record { fitting = t.fitting; pairs = t.rows }) h) t.keys)

pub table_there : (table : TableDef) (next : ℕ) (cells : List (List ℕ)) (lists : List (List Pair)) (found : List Version) → AreCellsOf table 0 next cells found
    → AreKeyLists table.keys found lists → IsTable table next (map pair_of cells) lists found
table_there table next cells lists found h k = record { fitting = h.fitting; rows = h.pairs; keys = k }

one_table : (table : TableDef) (next : ℕ) (cells : List (List ℕ)) (lists : List (List Pair)) (vs ws : List Version) → next < 2 ^ 62
    → IsTable table next (map pair_of cells) lists vs → IsTable table next (map pair_of cells) lists ws → vs ≡ ws
one_table table next cells lists vs ws small t u =
    one_reading table 0 next cells vs ws small (record { fitting = t.fitting; pairs = t.rows }) (record { fitting = u.fitting; pairs = u.rows })

-- the lists of the first trees, and of those behind
pub take_lists : (n : ℕ) (trees : List Walked) → take n (lists_of trees) ≡ lists_of (take n trees)
take_lists zero trees = refl
take_lists (suc n) [] = refl
take_lists (suc n) (t ∷ ts) = ap (λ (l : List (List Pair)). list_of t ∷ l) (take_lists n ts)

pub drop_lists : (n : ℕ) (trees : List Walked) → drop n (lists_of trees) ≡ lists_of (drop n trees)
drop_lists zero trees = refl
drop_lists (suc n) [] = refl
drop_lists (suc n) (t ∷ ts) = drop_lists n ts

pub take_climb : (n : ℕ) (trees here : List Walked) → here ≡ take n trees → AllClimb trees → AllClimb here
take_climb n trees here e h = subst AllClimb (sym e) (go n trees h)
  where
    go : (n : ℕ) (trees : List Walked) → AllClimb trees → AllClimb (take n trees)
    go zero trees h = tt
    go (suc n) [] h = tt
    go (suc n) (t ∷ ts) h = (h.0, go n ts h.1)

pub drop_climb : (n : ℕ) (trees behind : List Walked) → behind ≡ drop n trees → AllClimb trees → AllClimb behind
drop_climb n trees behind e h = subst AllClimb (sym e) (go n trees h)
  where
    go : (n : ℕ) (trees : List Walked) → AllClimb trees → AllClimb (drop n trees)
    go zero trees h = h
    go (suc n) [] h = tt
    go (suc n) (t ∷ ts) h = go n ts h.1

-- of the tables some were read; these trees are those of the tables that are left
pub record IsLeftOf (next : ℕ) (tables : List TableDef) (trees : List Walked) (found all : List (List Version)) : Type 0 where
  pub left : List (List Version)
  pub whole : found ++ left ≡ all
  pub are : AreTables next tables (lists_of trees) left

pub record IsNext (table : TableDef) (others : List TableDef) (rows : Walked) (later keys behind : List Walked) (tables : List TableDef) (trees : List Walked) : Type 0 where
  pub tables_are : tables ≡ table ∷ others
  pub trees_are : trees ≡ rows ∷ later
  pub keys_are : keys ≡ take (length table.keys) later
  pub behind_are : behind ≡ drop (length table.keys) later

next_to : (next : ℕ) (table : TableDef) (others : List TableDef) (rows : Walked) (later keys behind : List Walked) (tables : List TableDef) (trees : List Walked)
    (vs : List Version) (left : List (List Version)) → IsNext table others rows later keys behind tables trees
    → IsTable table next (list_of rows) (lists_of keys) vs → AreTables next others (lists_of behind) left → AreTables next tables (lists_of trees) (vs ∷ left)
next_to next table others rows later keys behind tables trees vs left n t a =
    let k : lists_of keys ≡ take (length table.keys) (lists_of later) = ap lists_of n.keys_are ∙ sym (take_lists (length table.keys) later) in
    let b : lists_of behind ≡ drop (length table.keys) (lists_of later) = ap lists_of n.behind_are ∙ sym (drop_lists (length table.keys) later) in
    subst (λ (x : List TableDef). AreTables next x (lists_of trees) (vs ∷ left)) (sym n.tables_are)
    (subst (λ (x : List Walked). AreTables next (table ∷ others) (lists_of x) (vs ∷ left)) (sym n.trees_are)
    (subst (λ (l : List (List Pair)). IsTable table next (list_of rows) l vs) k t, subst (λ (l : List (List Pair)). AreTables next others l left) b a))

record IsFirstOf (next : ℕ) (table : TableDef) (others : List TableDef) (rows : Walked) (keys behind : List Walked) (all : List (List Version)) : Type 0 where
  first : List Version
  left : List (List Version)
  is : first ∷ left ≡ all
  here : IsTable table next (list_of rows) (lists_of keys) first
  more : AreTables next others (lists_of behind) left

next_from : (next : ℕ) (table : TableDef) (others : List TableDef) (rows : Walked) (later keys behind : List Walked) (tables : List TableDef) (trees : List Walked)
    (all : List (List Version)) → IsNext table others rows later keys behind tables trees → AreTables next tables (lists_of trees) all
    → IsFirstOf next table others rows keys behind all
next_from next table others rows later keys behind tables trees all n a =
    go all (subst (λ (x : List Walked). AreTables next (table ∷ others) (lists_of x) all) n.trees_are (subst (λ (x : List TableDef). AreTables next x (lists_of trees) all) n.tables_are a))
  where
    k : take (length table.keys) (lists_of later) ≡ lists_of keys
    k = take_lists (length table.keys) later ∙ sym (ap lists_of n.keys_are)

    b : drop (length table.keys) (lists_of later) ≡ lists_of behind
    b = drop_lists (length table.keys) later ∙ sym (ap lists_of n.behind_are)

    go : (all : List (List Version)) → AreTables next (table ∷ others) (lists_of (rows ∷ later)) all → IsFirstOf next table others rows keys behind all
    go [] h = absurd h
    go (vs ∷ left) h = record {
      first = vs;
      left = left;
      is = refl;
      here = subst (λ (l : List (List Pair)). IsTable table next (list_of rows) l vs) k h.0;
      more = subst (λ (l : List (List Pair)). AreTables next others l left) b h.1;
    }

pub tables_to : (next : ℕ) (table : TableDef) (others : List TableDef) (rows : Walked) (later keys behind : List Walked) (tables : List TableDef) (trees : List Walked)
    (vs : List Version) (found more : List (List Version)) (P : List (List Version) → Type 0) → IsNext table others rows later keys behind tables trees
    → IsTable table next (list_of rows) (lists_of keys) vs → more ≡ found ++ vs ∷ []
    → ((left : List (List Version)) → AreTables next tables (lists_of trees) left → P (found ++ left))
    → (left : List (List Version)) → AreTables next others (lists_of behind) left → P (more ++ left)
tables_to next table others rows later keys behind tables trees vs found more P n t m to left a =
    subst P (sym (append_assoc found (vs ∷ []) left) ∙ ap (λ (x : List (List Version)). x ++ left) (sym m))
    (to (vs ∷ left) (next_to next table others rows later keys behind tables trees vs left n t a))

pub tables_from : (next : ℕ) (table : TableDef) (others : List TableDef) (rows : Walked) (later keys behind : List Walked) (tables : List TableDef) (trees : List Walked)
    (vs : List Version) (found more all : List (List Version)) → next < 2 ^ 62 → IsNext table others rows later keys behind tables trees
    → IsTable table next (list_of rows) (lists_of keys) vs → more ≡ found ++ vs ∷ [] → IsLeftOf next tables trees found all → IsLeftOf next others behind more all
tables_from next table others rows later keys behind tables trees vs found more all small n t m l =
    let f = next_from next table others rows later keys behind tables trees l.left n l.are in
    let same : f.first ≡ vs = one_table table next rows.cells.items (lists_of keys) f.first vs small f.here t in
    record {
      left = f.left;
      whole = ap (λ (x : List (List Version)). x ++ f.left) m ∙ append_assoc found (vs ∷ []) f.left
          ∙ ap (λ (x : List Version). found ++ x ∷ f.left) (sym same) ∙ ap (λ (x : List (List Version)). found ++ x) f.is ∙ l.whole;
      are = f.more;
    }

pub tables_none : (next : ℕ) (table : TableDef) (others : List TableDef) (rows : Walked) (later keys behind : List Walked) (tables : List TableDef) (trees : List Walked)
    (found all : List (List Version)) → IsNext table others rows later keys behind tables trees
    → ((vs : List Version) → IsTable table next (list_of rows) (lists_of keys) vs → ⊥) → IsLeftOf next tables trees found all → ⊥
tables_none next table others rows later keys behind tables trees found all n none l =
    let f = next_from next table others rows later keys behind tables trees l.left n l.are in none f.first f.here

pub trees_missing : (next : ℕ) (table : TableDef) (others tables : List TableDef) (trees : List Walked) (found all : List (List Version)) → tables ≡ table ∷ others
    → trees ≡ [] → IsLeftOf next tables trees found all → ⊥
trees_missing next table others tables trees found all e f l =
    go l.left (subst (λ (x : List Walked). AreTables next (table ∷ others) (lists_of x) l.left) f (subst (λ (x : List TableDef). AreTables next x (lists_of trees) l.left) e l.are))
  where
    go : (left : List (List Version)) → AreTables next (table ∷ others) [] left → ⊥
    go [] h = h
    go (x ∷ xs) h = h

pub trees_over : (next : ℕ) (tables : List TableDef) (trees : List Walked) (found all : List (List Version)) → tables ≡ [] → (trees ≡ [] → ⊥)
    → IsLeftOf next tables trees found all → ⊥
trees_over next tables trees found all e some l = go trees l.left some (subst (λ (x : List TableDef). AreTables next x (lists_of trees) l.left) e l.are)
  where
    go : (trees : List Walked) (left : List (List Version)) → (trees ≡ [] → ⊥) → AreTables next [] (lists_of trees) left → ⊥
    go [] left some h = some refl
    go (t ∷ ts) [] some h = h
    go (t ∷ ts) (x ∷ xs) some h = h

pub tables_end : (next : ℕ) (tables : List TableDef) (trees : List Walked) (found : List (List Version)) (P : List (List Version) → Type 0) → tables ≡ [] → trees ≡ []
    → ((left : List (List Version)) → AreTables next tables (lists_of trees) left → P (found ++ left)) → P found
tables_end next tables trees found P e f to =
    subst P (append-nil found) (to [] (subst (λ (x : List TableDef). AreTables next x (lists_of trees) []) (sym e) (subst (λ (x : List Walked). AreTables next [] (lists_of x) []) (sym f) tt)))

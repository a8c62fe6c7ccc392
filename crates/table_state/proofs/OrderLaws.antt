-- The list of a rows' tree is that of its versions in order.
use Rattle.std.proofs.Common.{◌≡◌, ℕ, ◌^◌, ◌<◌, true, List, [], ◌∷◌, map, None, sym, subst}
use Rattle.std.specs.List.{AllByRecursion}
use Rattle.btree_index.specs.Keys.{before}
use Rattle.btree_index.specs.Cells.{key_of_cell}
use Rattle.btree_index.specs.Trees.{pair_of}
use Rattle.cdb_values.specs.declared.rows.Version.{Version}
use Rattle.table_store.specs.Forests.{Pair}
use Rattle.table_store.specs.Listings.{IsAmong, pair_of_version, Lists}
use Rattle.table_store.specs.States.{Rise}
use Rattle.table_store.specs.Readings.{row_pairs}
use Rattle.table_state.specs.Listed.{Climb}
use Rattle.table_store.proofs.ReadLaws.{AreRising, versions_rise, pairs_same, among_pairs, pair_of_some}

pairs_rise : (cells : List (List ℕ)) → Climb cells → AreRising (map pair_of cells)
pairs_rise [] h = tt
pairs_rise (c ∷ cs) h = (each cs h.0, pairs_rise cs h.1)
  where
    each : (ds : List (List ℕ)) → AllByRecursion (λ d. before (key_of_cell c) (key_of_cell d) ≡ true) ds
        → AllByRecursion (λ (q : Pair). before (key_of_cell c) q.0 ≡ true) (map pair_of ds)
    each [] a = tt
    each (d ∷ ds) a = (a.0, each ds a.1)

pub rows_list : (cells : List (List ℕ)) (next : ℕ) (versions : List Version) → Climb cells → Lists None versions (map pair_of cells) → next < 2 ^ 64 → Rise versions next
    → map pair_of cells ≡ row_pairs versions
rows_list cells next versions climb h small rise =
    pairs_same (map pair_of cells) (row_pairs versions) (pairs_rise cells climb) (versions_rise versions next small rise)
    (λ p i. (let m = h.only p i in subst (λ (q : Pair). IsAmong q (row_pairs versions)) (sym m.2) (among_pairs m.0 versions m.1)))
    (λ p i. (let m = pair_of_some p versions i in subst (λ (q : Pair). IsAmong q (map pair_of cells)) (sym m.is) (h.all m.found m.among)))

-- and a list that is that of versions in order lists them
pub list_rows : (list : List Pair) (versions : List Version) → list ≡ row_pairs versions → Lists None versions list
list_rows list versions e = record {
  all = λ v i. subst (λ (l : List Pair). IsAmong (pair_of_version None v) l) (sym e) (among_pairs v versions i);
  only = λ p i. (let m = pair_of_some p versions (subst (λ (l : List Pair). IsAmong p l) e i) in (m.found, m.among, m.is));
}

-- The cells of a tree climb.
use Rattle.std.proofs.Common.{◌≡◌, ℕ, true, false, List, [], ◌∷◌, ◌++◌}
use Rattle.std.specs.List.{AllByRecursion}
use Rattle.page_store.specs.Image.{Image}
use Rattle.btree_index.specs.Keys.{before}
use Rattle.btree_index.specs.Cells.{key_of_cell}
use Rattle.btree_index.specs.Trees.{Entry, cells_of, Ascends, AreFenced}
use Rattle.btree_index.proofs.KeyLaws.{before_atmost, before_before}
use Rattle.table_state.specs.Listed.{Climb}
use Rattle.table_store.proofs.RisingLaws.{all_join, all_map, cells_from}

climb_own : (cells : List (List ℕ)) → Ascends cells → Climb cells
climb_own [] up = tt
climb_own (c ∷ []) up = (tt, tt)
climb_own (c ∷ d ∷ cs) up =
    let rest : Climb (d ∷ cs) = climb_own (d ∷ cs) up.1 in
    ((up.0, all_map (λ x. before (key_of_cell d) (key_of_cell x) ≡ true) (λ x. before (key_of_cell c) (key_of_cell x) ≡ true) cs (λ x h. before_before (key_of_cell c) (key_of_cell d) (key_of_cell x) up.0 h) rest.0), rest)

climb_join : (xs ys : List (List ℕ)) → Climb xs → Climb ys → AllByRecursion (λ c. AllByRecursion (λ d. before (key_of_cell c) (key_of_cell d) ≡ true) ys) xs → Climb (xs ++ ys)
climb_join [] ys a b cross = b
climb_join (x ∷ xs) ys a b cross = (all_join (λ d. before (key_of_cell x) (key_of_cell d) ≡ true) xs ys a.0 cross.0, climb_join xs ys a.1 b cross.1)

pub cells_climb : (pages : ℕ → Image) (level : List Entry) → AreFenced pages level → Climb (cells_of pages level)
cells_climb pages [] h = tt
cells_climb pages (e ∷ []) h = climb_join (pages e.page).cells [] (climb_own (pages e.page).cells h.0.ascends) tt (nothing (pages e.page).cells)
  where
    nothing : (cells : List (List ℕ)) → AllByRecursion (λ c. AllByRecursion (λ d. before (key_of_cell c) (key_of_cell d) ≡ true) []) cells
    nothing [] = tt
    nothing (c ∷ cs) = (tt, nothing cs)
cells_climb pages (e ∷ f ∷ fs) h =
    let from = cells_from pages f fs h.1 in
    climb_join (pages e.page).cells (cells_of pages (f ∷ fs)) (climb_own (pages e.page).cells h.0.ascends) (cells_climb pages (f ∷ fs) h.1)
    (all_map (λ c. before (key_of_cell c) f.low ≡ true) (λ c. AllByRecursion (λ d. before (key_of_cell c) (key_of_cell d) ≡ true) (cells_of pages (f ∷ fs))) (pages e.page).cells
    (λ c k. all_map (λ d. before (key_of_cell d) f.low ≡ false) (λ d. before (key_of_cell c) (key_of_cell d) ≡ true) (cells_of pages (f ∷ fs))
    (λ d j. before_atmost (key_of_cell c) f.low (key_of_cell d) k j) from) h.0.to)

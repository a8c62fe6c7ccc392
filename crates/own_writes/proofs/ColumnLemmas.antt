-- Rows that lack a value of these columns lack one of all of them.
use Rattle.std.proofs.Common.{◌≡◌, ℕ, ◌<◌, ◌≤◌, List, ◌∷◌, Bool, true, false, ap, ◌∙◌, length, arith, refl}
use Rattle.std.proofs.lemmas.Bool.Decides.{nat_tests}
use Rattle.std.specs.BTreeSet.{BTreeSet}
use Rattle.std.specs.Ordering.{is_eq}
use Rattle.std.specs.Prelude.{◌&&◌, nat_lt}
use Rattle.cdb_values.specs.declared.values.Value.{Value}
use Rattle.session_language.specs.Intervals.{are_equal, cell, stand_so}
use Rattle.own_writes.specs.Kept.{HasColumns, stamp_at}
use Rattle.own_writes.proofs.MarkLemmas.{and_no}

first_by : (columns others : List ℕ) (values later : List Value) (column : ℕ) (value : Value) (row : List Value) → columns ≡ column ∷ others → values ≡ value ∷ later →
    are_equal columns values row ≡ (stand_so is_eq (cell row column) value && are_equal others later row)
first_by columns others values later column value row cs vs =
    ap (λ (l : List ℕ). are_equal l values row) cs ∙ ap (λ (l : List Value). are_equal (column ∷ others) l row) vs

pub here_not : (columns : List ℕ) (values : List Value) (column : ℕ) (value : Value) (others : List ℕ) (later row : List Value) → columns ≡ column ∷ others → values ≡ value ∷ later →
    stand_so is_eq (cell row column) value ≡ false → are_equal columns values row ≡ false
here_not columns values column value others later row cs vs lacks_it =
    first_by columns others values later column value row cs vs ∙ ap (λ b. b && are_equal others later row) lacks_it

pub later_not : (columns : List ℕ) (values : List Value) (column : ℕ) (value : Value) (others : List ℕ) (later row : List Value) → columns ≡ column ∷ others → values ≡ value ∷ later →
    are_equal others later row ≡ false → are_equal columns values row ≡ false
later_not columns values column value others later row cs vs lacks_it =
    first_by columns others values later column value row cs vs ∙ ap (λ b. stand_so is_eq (cell row column) value && b) lacks_it ∙ and_no (stand_so is_eq (cell row column) value)

below : (a b : ℕ) → nat_lt a b ≡ true → a < b
below a b test = grind (arith, nat_tests, test)

not_below : (a b : ℕ) → nat_lt a b ≡ false → b ≤ a
not_below a b test = grind (arith, nat_tests, test)

-- the rows of the places that were passed over before, and of those that are passed over by the next column
pub either_not : (stamps : List ℕ) (marks : BTreeSet ℕ) (table : ℕ) (columns : List ℕ) (values : List Value) (rest : List ℕ) (left : List Value) (column : ℕ) (value : Value) (others : List ℕ) (later : List Value) (from at to : ℕ) →
    rest ≡ column ∷ others → left ≡ value ∷ later → ((row : List Value) → are_equal rest left row ≡ false → are_equal columns values row ≡ false) →
    ((k : ℕ) (row : List Value) → from ≤ k → k < at → k < length stamps → HasColumns marks (stamp_at stamps k) table row → are_equal columns values row ≡ false) →
    ((k : ℕ) (row : List Value) → at ≤ k → k < to → k < length stamps → HasColumns marks (stamp_at stamps k) table row → stand_so is_eq (cell row column) value ≡ false) →
    (k : ℕ) (row : List Value) → from ≤ k → k < to → k < length stamps → HasColumns marks (stamp_at stamps k) table row → are_equal columns values row ≡ false
either_not stamps marks table columns values rest left column value others later from at to cs vs lacks before now k row first here within marked = go (nat_lt k at) refl
  where
    go : (b : Bool) → nat_lt k at ≡ b → are_equal columns values row ≡ false
    go true test = before k row first (below k at test) within marked
    go false test = lacks row (here_not rest left column value others later row cs vs (now k row (not_below k at test) here within marked))

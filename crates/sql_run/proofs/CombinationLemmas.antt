-- What each row that is seen has, the rows of combinations have.
use Rattle.std.proofs.Common.{ℕ, List, [], ◌∷◌}
use Rattle.std.specs.List.{AllByRecursion, flat_map}
use Rattle.cdb_values.specs.declared.rows.RowOp.{RowOp}
use Rattle.cdb_values.specs.declared.rows.Version.{Version}
use Rattle.session_language.proofs.EachLaws.{all_append}
use Rattle.session_language.proofs.AllLaws.{all_filtered}
use Rattle.sql_answer.specs.Answers.{Meaning, rows_met, found, tables_read, filter_met}
use Rattle.sql_answer.specs.Combinations.{Seen, seen, rows_of, extended, combinations_from, combinations}
use Rattle.sql_answer.specs.Conditions.{meets}

one_extended : (P : Seen → Type 0) (rows combination : List Seen) → AllByRecursion P rows → AllByRecursion P combination → AllByRecursion (AllByRecursion P) (extended rows combination)
one_extended P [] combination all is = tt
one_extended P (s ∷ rows) combination all is = (all_append P combination (s ∷ []) is (all.0, tt), one_extended P rows combination all.1 is)

all_extended : (P : Seen → Type 0) (rows : List Seen) (combos : List (List Seen)) → AllByRecursion P rows → AllByRecursion (AllByRecursion P) combos
    → AllByRecursion (AllByRecursion P) (flat_map (extended rows) combos)
all_extended P rows [] all are = tt
all_extended P rows (c ∷ cs) all are = all_append (AllByRecursion P) (extended rows c) (flat_map (extended rows) cs) (one_extended P rows c all are.0) (all_extended P rows cs all are.1)

all_combined : (P : Seen → Type 0) (view : ℕ → List Seen) (tables : List ℕ) (combos : List (List Seen)) → AllByRecursion (λ table. AllByRecursion P (view table)) tables → AllByRecursion (AllByRecursion P) combos
    → AllByRecursion (AllByRecursion P) (combinations_from view tables combos)
all_combined P view [] combos each all = all
all_combined P view (table ∷ tables) combos each all = all_combined P view tables (flat_map (extended (view table)) combos) each.1 (all_extended P (view table) combos each.0 all)

-- the combinations that a statement finds
pub all_found : (P : Seen → Type 0) (versions : List (List Version)) (ops : List RowOp) (s : Meaning) → AllByRecursion (λ table. AllByRecursion P (seen versions ops table)) (tables_read s)
    → AllByRecursion (AllByRecursion P) (found versions ops s)
all_found P versions ops s each =
    all_filtered (AllByRecursion P) (λ c. meets (filter_met s) (rows_of c)) (combinations (seen versions ops) (tables_read s))
    (all_combined P (seen versions ops) (tables_read s) ([] ∷ []) each (tt, tt))

-- and the rows that a write meets
pub all_met : (P : Seen → Type 0) (combos : List (List Seen)) → AllByRecursion (AllByRecursion P) combos → AllByRecursion P (rows_met combos)
all_met P [] all = tt
all_met P (c ∷ cs) all = all_append P c (rows_met cs) all.0 (all_met P cs all.1)

-- what holds of every item, each of a list has
pub each_of : {A : Type 0} (P : A → Type 0) → ((x : A) → P x) → (xs : List A) → AllByRecursion P xs
each_of P every [] = tt
each_of P every (x ∷ xs) = (every x, each_of P every xs)

-- What is asked of a language so that transactions at level serializable are serial.
--
-- A transaction that is run alone on other rows, which hold the same in the intervals that it read, is answered
-- there as it was, without the texts that failed. And its operations name the rows of their targets rightly, so
-- that their changes tell what they touch.
use Rattle.std.specs.Prelude.{◌≡◌, ℕ, ◌<◌, ◌∷◌, [], List, true, not, if◌then◌else◌, filter}
use Rattle.std.specs.List.{AllByRecursion}
use Rattle.cdb_values.specs.Rows.{Rows, versions_of}
use Rattle.cdb_values.specs.declared.rows.RowOp.{RowOp}
use Rattle.cdb_values.specs.declared.rows.RowOp.TheVariants as op
use Rattle.cdb_values.specs.declared.rows.RowRef.{RowRef}
use Rattle.cdb_values.specs.declared.rows.RowRef.TheVariants.{Base, Own}
use Rattle.cdb_values.specs.declared.rows.Version.{Version}
use Rattle.cdb_values.specs.declared.tables.TableDef.{TableDef}
use Rattle.cdb_values.specs.declared.values.Value.{Value}
use Rattle.session_language.specs.Intervals.{HoldsTheSame}
use Rattle.session_language.specs.Language.{Language, Answered, answers_from, alone}

-- the texts that do not fail, behind these operations
abbrev pub lasting_from : Language → List TableDef → List (List Version) → List RowOp → List (List ℕ) → List (List ℕ)
lasting_from language tables versions done [] = []
lasting_from language tables versions done (text ∷ texts) =
    if (language.answer tables versions done text).failed then lasting_from language tables versions (language.answer tables versions done text).ops texts
    else text ∷ lasting_from language tables versions (language.answer tables versions done text).ops texts

abbrev pub lasting : Language → List TableDef → Rows → List (List ℕ) → List (List ℕ)
lasting language tables rows texts = lasting_from language tables rows.tables [] texts

-- the answers of a transaction's texts, run alone on these rows
abbrev pub answers_on : Language → List TableDef → Rows → List (List ℕ) → List Answered
answers_on language tables rows texts = answers_from language tables rows.tables [] texts

-- the answers that are no failures
abbrev pub without_failures : List Answered → List Answered
without_failures answers = filter (λ a. not a.failed) answers

-- a genid was given, and each version of the table under it has that row
pub record IsRowOf (rows : Rows) (table genid : ℕ) (old : List Value) : Type 0 where
  pub below : genid < rows.next
  pub same : AllByRecursion (λ v. v.genid ≡ genid → v.row ≡ old) (versions_of rows table)

abbrev pub IsTrueTarget : Rows → ℕ → RowRef → List Value → Type 0
IsTrueTarget rows table (Base genid) old = IsRowOf rows table genid old
IsTrueTarget rows table (Own write) old = Unit {0}

-- an operation names its target's row rightly
abbrev pub IsTrueOp : Rows → RowOp → Type 0
IsTrueOp rows (op.Insert table row) = Unit {0}
IsTrueOp rows (op.Update table target old row) = IsTrueTarget rows table target old
IsTrueOp rows (op.Delete table target old) = IsTrueTarget rows table target old

-- each genid was given, and has one row
abbrev pub IsSound : Rows → Type 0
IsSound rows = (table : ℕ) → AllByRecursion (λ v. IsRowOf rows table v.genid v.row) (versions_of rows table)

pub record IsByReads (language : Language) (tables : List TableDef) : Type 0 where
  -- the same intervals, the same answers
  pub same : (rows others : Rows) (texts : List (List ℕ)) → AllByRecursion (HoldsTheSame tables rows others) (alone language tables rows texts).ranges →
      answers_on language tables others (lasting language tables rows texts) ≡ without_failures (answers_on language tables rows texts)
  -- operations name old rows rightly
  pub tells : (rows : Rows) (texts : List (List ℕ)) → IsSound rows → AllByRecursion (IsTrueOp rows) (alone language tables rows texts).ops
  -- a text that fails leaves the operations as they are
  pub fails : (versions : List (List Version)) (done : List RowOp) (text : List ℕ) →
      (language.answer tables versions done text).failed ≡ true → (language.answer tables versions done text).ops ≡ done

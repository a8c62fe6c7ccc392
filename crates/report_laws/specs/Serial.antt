-- What it is for an entry to be serial: its transaction, run alone on the rows right before the entry and without the
-- texts that failed, is answered as the other texts were, and has the same operations.
use Rattle.std.specs.Prelude.{◌≡◌, ℕ, ◌-◌, List, Some}
use Rattle.cdb_values.specs.Rows.{Rows}
use Rattle.report_laws.specs.History.{Basis, alone_on, rows_at}
use Rattle.report_laws.specs.Work.{Transaction, transaction_of}
use Rattle.report_text.specs.declared.reports.EntryLine.{EntryLine}
use Rattle.session_language.specs.Language.{Answered}
use Rattle.session_language.specs.Serial.{answers_on, lasting, without_failures}

-- the answers of texts, run alone on these rows, one for each
abbrev pub each_on : Basis → Rows → List (List ℕ) → List Answered
each_on basis rows texts = answers_on basis.language basis.origin.tables rows texts

-- the texts that do not fail there
abbrev pub lasting_on : Basis → Rows → List (List ℕ) → List (List ℕ)
lasting_on basis rows texts = lasting basis.language basis.origin.tables rows texts

-- a transaction that began at a position is serial at an entry
pub record IsSerialAt (basis : Basis) (entries : List EntryLine) (position : ℕ) (session : List ℕ) (txn begin : ℕ) : Type 0 where
  pub transaction : Transaction
  pub is_its : transaction_of basis.language session txn basis.script.body ≡ Some transaction
  pub answers : each_on basis (rows_at basis entries (position - 1)) (lasting_on basis (rows_at basis entries begin) transaction.texts)
      ≡ without_failures (each_on basis (rows_at basis entries begin) transaction.texts)
  pub ops : (alone_on basis (rows_at basis entries (position - 1)) (lasting_on basis (rows_at basis entries begin) transaction.texts)).ops
      ≡ (alone_on basis (rows_at basis entries begin) transaction.texts).ops

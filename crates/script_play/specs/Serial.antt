-- What level serializable comes to in a report: each entry at that level is serial.
--
-- Its transaction, run alone on the rows right before the entry and without the texts that failed, has the same operations, and
-- the replies that the other texts had.
use Rattle.std.specs.Prelude.{ℕ, List}
use Rattle.cdb_values.specs.declared.rows.Level.TheVariants.{Serializable}
use Rattle.report_laws.specs.History.{Basis}
use Rattle.report_laws.specs.Serial.{IsSerialAt}
use Rattle.report_text.specs.declared.reports.EntryLine.{EntryLine}
use Rattle.report_text.specs.declared.reports.EntryLine.TheVariants.{Commit}
use Rattle.session_language.specs.Each.{StandsIn}

abbrev pub AreSerial : Basis → List EntryLine → Type 0
AreSerial basis entries =
    (position : ℕ) (session : List ℕ) (txn begin : ℕ) → StandsIn entries (Commit position session txn begin Serializable)
    → IsSerialAt basis entries position session txn begin

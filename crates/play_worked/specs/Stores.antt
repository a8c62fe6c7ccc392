-- What stores are found to be at an opening, as data.
use Rattle.std.specs.Prelude.{ℕ, ◌∷◌, [], List, true, replicate, codes}
use Rattle.cdb_values.specs.declared.rows.Level.TheVariants.{Snapshot}
use Rattle.cdb_values.specs.declared.tables.TableDef.{TableDef}
use Rattle.report_text.specs.declared.reports.EntryLine.{EntryLine}
use Rattle.report_text.specs.declared.reports.EntryLine.TheVariants.{Setup}
use Rattle.report_worked.specs.Worked.{worked_table, of_a}
use Rattle.play_order.specs.Deeds.{CommitSent}
use Rattle.play_order.specs.Openings.{Finding}
use Rattle.play_order.specs.Openings.Finding.{FailedRead, WholeLog}
use Rattle.play_order.specs.Peers.{Fall, Holding, Remains}

-- what a node promised and accepted, with a log
abbrev pub holding : ℕ → ℕ → List EntryLine → Holding
holding promised accepted log = record { promised = promised; accepted = accepted; log = log }

-- n empty stores; and one that fails as it is read
abbrev pub empty_stores : ℕ → List Finding
empty_stores n = replicate n (WholeLog (holding 0 0 []) [])

abbrev pub unread : Finding
unread = FailedRead (holding 0 0 []) true

-- the log of an earlier run: the schema and a commit
abbrev pub earlier_log : List EntryLine
earlier_log = Setup 1 ∷ of_a 2 1 1 ∷ []

-- a table of another name
abbrev pub other_table : TableDef
other_table = record worked_table { name = codes "u" }

-- a store with this log, and the table of the scripts, or another one
abbrev pub with_log : ℕ → ℕ → List EntryLine → Finding
with_log promised accepted log = WholeLog (holding promised accepted log) (worked_table ∷ [])

abbrev pub with_other : ℕ → ℕ → List EntryLine → Finding
with_other promised accepted log = WholeLog (holding promised accepted log) (other_table ∷ [])

-- the longest log was accepted in an earlier generation than another one
abbrev pub later_and_shorter : List Finding
later_and_shorter = with_log 3 3 (Setup 1 ∷ []) ∷ with_log 3 2 earlier_log ∷ with_log 3 2 earlier_log ∷ []

-- three stores of which the first accepted a generation that no other promised
abbrev pub unfit : List Finding
unfit = WholeLog (holding 5 5 []) [] ∷ empty_stores 2

-- the same, where the third was not read: that node may have promised it, too
abbrev pub half_read : List Finding
half_read = WholeLog (holding 5 5 []) [] ∷ WholeLog (holding 4 0 []) [] ∷ unread ∷ []

-- a commit of a transaction at level snapshot, and a store that fails
abbrev pub commit_of : List ℕ → ℕ → ℕ → CommitSent
commit_of session txn begin = record { session = session; txn = txn; begin = begin; level = Snapshot }

abbrev pub fails : ℕ → ℕ → Remains → Fall
fails node behind remains = record { node = node; behind = behind; remains = remains }

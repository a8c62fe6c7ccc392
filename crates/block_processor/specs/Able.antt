-- What is known of a request before its operations are tried on the pages of a log: each of them can be done there, and
-- there are genids for the rows that they write.
use Rattle.std.specs.Prelude.{◌+◌, ◌<◌, ◌^◌, List, Bool, true, false, length}
use Rattle.phys_log.specs.declared.entries.Entry.{Entry}
use Rattle.phys_log.specs.declared.entries.Entry.TheVariants.{Setup, Commit}
use Rattle.phys_log.specs.declared.requests.CommitRequest.{CommitRequest}
use Rattle.table_edits.specs.Fits.{AreAllDoable}
use Rattle.log_rows.specs.History.{Ground, rows_over}

pub record IsAble (footing : Ground) (request : CommitRequest) (entries : List Entry) : Type 0 where
  pub doable : AreAllDoable (rows_over footing entries) request.ops
  pub room : (rows_over footing entries).next + length request.ops < 2 ^ 62

-- whether an entry is that of a transaction
abbrev pub is_commit : Entry → Bool
is_commit (Setup generation schema records) = false
is_commit (Commit generation id begin level changes records) = true

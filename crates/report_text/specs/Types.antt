-- The numbers of a report, each in its type: 64 bits for a position, a count, a transaction, a genid and
-- a node, 64 bits with a sign for an integer of a row, 32 for the offset of a syntax error. A report that
-- stands in memory is so.
use Rattle.std.specs.Prelude.{◌≡◌, ℕ, ℤ, pos, negsuc, ◌<◌, ◌^◌, List, IfSome}
use Rattle.std.specs.List.{AllByRecursion}
use Rattle.cdb_values.specs.declared.values.Value.{Value}
use Rattle.cdb_values.specs.declared.values.Value.TheVariants.{Null, Int, Text, Blob}
use Rattle.report_text.specs.Grammar.{IsNumber, IsError}
use Rattle.report_text.specs.declared.reports.Report.{Report}
use Rattle.report_text.specs.declared.reports.Line.{Line}
use Rattle.report_text.specs.declared.reports.Line.TheVariants as line
use Rattle.cdb_values.specs.declared.replies.Reply.{Reply}
use Rattle.cdb_values.specs.declared.replies.Reply.TheVariants as reply
use Rattle.report_text.specs.declared.reports.EntryLine.{EntryLine}
use Rattle.report_text.specs.declared.reports.EntryLine.TheVariants.{Setup, Commit}
use Rattle.report_text.specs.declared.reports.FeedLine.{FeedLine}

abbrev pub FitsInteger : ℤ → Type 0
FitsInteger (pos n) = n < 2 ^ 63
FitsInteger (negsuc n) = n < 2 ^ 63

abbrev pub FitsValue : Value → Type 0
FitsValue Null = Unit {0}
FitsValue (Int n) = FitsInteger n
FitsValue (Text text) = Unit {0}
FitsValue (Blob blob) = Unit {0}

abbrev pub FitsReply : Reply → Type 0
FitsReply (reply.Begin position) = IsNumber position
FitsReply (reply.Row row) = AllByRecursion FitsValue row
FitsReply (reply.Done rows) = IsNumber rows
FitsReply (reply.Changed rows) = IsNumber rows
FitsReply (reply.Error cause) = IsError cause
FitsReply (reply.Level level) = Unit {0}
FitsReply reply.RolledBack = Unit {0}
FitsReply (reply.Committed position) = IsNumber position
FitsReply (reply.ConflictGenid position table genid) = IsNumber position × IsNumber genid
FitsReply (reply.ConflictRange position table key) = IsNumber position
FitsReply (reply.Duplicate position table key) = IsNumber position
FitsReply (reply.Lost node down) = IsNumber node × IsNumber down
FitsReply (reply.NoMajority up nodes) = IsNumber up × IsNumber nodes
FitsReply reply.NoMemory = Unit {0}

abbrev pub FitsLine : Line → Type 0
FitsLine (line.Session name txn reply) = IsNumber txn × FitsReply reply
FitsLine (line.Down count node fault) = IsNumber count × IsNumber node
FitsLine (line.Up node) = IsNumber node
FitsLine line.Barrier = Unit {0}
FitsLine (line.Fed position) = IsNumber position

abbrev pub FitsEntry : EntryLine → Type 0
FitsEntry (Setup position) = IsNumber position
FitsEntry (Commit position session txn begin level) = IsNumber position × IsNumber txn × IsNumber begin

abbrev pub FitsFeed : FeedLine → Type 0
FitsFeed feed = IsNumber feed.place × IsNumber feed.taken × IsNumber feed.dropped

pub record FitsTypes (report : Report) : Type 0 where
  pub lines : AllByRecursion FitsLine report.lines
  pub base : IfSome report.base IsNumber
  pub entries : AllByRecursion FitsEntry report.entries
  pub feeds : AllByRecursion FitsFeed report.feeds
  pub end : IsNumber report.end

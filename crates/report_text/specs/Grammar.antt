-- The reports of the grammar.
--
-- Sessions, tables and keys may be named by any word, but for four: a key that a commit breaks
-- is not `all`, which stands for a whole table, and a feed's table is none of `lost`, `nomajority` and
-- `tooold`. A number fits 64 bits, the offset of a syntax error 32, and an integer 64 with its sign. A
-- row has a value, and a text is UTF-8.
use Rattle.std.specs.Prelude.{◌≡◌, ℕ, ◌<◌, ◌^◌, ◌∷◌, [], List, Bool, true, false, ◌||◌, pos, negsuc, codes, bytes_eq, IfSome}
use Rattle.std.specs.List.{AllByRecursion}
use Rattle.std.specs.Str.{is_utf8}
use Rattle.cdb_values.specs.declared.values.Value.{Value}
use Rattle.cdb_values.specs.declared.values.Value.TheVariants.{Null, Int, Text, Blob}
use Rattle.cdb_values.specs.declared.rows.StatementError as errors
use Rattle.cdb_values.specs.declared.rows.StatementError.TheVariants as error
use Rattle.byte_words.specs.Names.{IsName, IsKey}
use Rattle.report_text.specs.declared.reports.Report.{Report}
use Rattle.report_text.specs.declared.reports.Line.{Line}
use Rattle.report_text.specs.declared.reports.Line.TheVariants as line
use Rattle.cdb_values.specs.declared.replies.Reply.{Reply}
use Rattle.cdb_values.specs.declared.replies.Reply.TheVariants as reply
use Rattle.report_text.specs.declared.reports.EntryLine.{EntryLine}
use Rattle.report_text.specs.declared.reports.EntryLine.TheVariants.{Setup, Commit}
use Rattle.report_text.specs.declared.reports.FeedLine.{FeedLine}

abbrev pub IsNumber : ℕ → Type 0
IsNumber n = n < 2 ^ 64

-- a word behind which two numbers say how a transaction of a session named `feed` ended
abbrev pub is_ending : List ℕ → Bool
is_ending word = bytes_eq (codes "lost") word || (bytes_eq (codes "nomajority") word || bytes_eq (codes "tooold") word)

abbrev pub IsValue : Value → Type 0
IsValue Null = Unit {0}
IsValue (Int (pos n)) = n < 2 ^ 63
IsValue (Int (negsuc n)) = n < 2 ^ 63
IsValue (Text text) = is_utf8 text ≡ true
IsValue (Blob blob) = AllByRecursion (λ b. b < 256) blob

abbrev pub IsRow : List Value → Type 0
IsRow [] = ⊥
IsRow (v ∷ vs) = IsValue v × AllByRecursion IsValue vs

abbrev pub IsError : errors.StatementError → Type 0
IsError (error.Syntax at) = at < 2 ^ 32
IsError _ = Unit {0}

abbrev pub IsReply : Reply → Type 0
IsReply (reply.Begin position) = IsNumber position
IsReply (reply.Row row) = IsRow row
IsReply (reply.Done rows) = IsNumber rows
IsReply (reply.Changed rows) = IsNumber rows
IsReply (reply.Error cause) = IsError cause
IsReply (reply.Level level) = Unit {0}
IsReply reply.RolledBack = Unit {0}
IsReply (reply.Committed position) = IsNumber position
IsReply (reply.ConflictGenid position table genid) = IsNumber position × IsName table × IsNumber genid
IsReply (reply.ConflictRange position table key) = IsNumber position × IsName table × IsName key
IsReply (reply.Duplicate position table key) = IsNumber position × IsName table × IsKey key
IsReply (reply.Lost node down) = IsNumber node × IsNumber down
IsReply (reply.NoMajority up nodes) = IsNumber up × IsNumber nodes
IsReply reply.NoMemory = Unit {0}

abbrev pub IsLine : Line → Type 0
IsLine (line.Session name txn reply) = IsName name × IsNumber txn × IsReply reply
IsLine (line.Down count node fault) = IsNumber count × IsNumber node
IsLine (line.Up node) = IsNumber node
IsLine line.Barrier = Unit {0}
IsLine (line.Fed position) = IsNumber position

abbrev pub IsEntry : EntryLine → Type 0
IsEntry (Setup position) = IsNumber position
IsEntry (Commit position session txn begin level) = IsNumber position × IsName session × IsNumber txn × IsNumber begin

pub record IsFeed (feed : FeedLine) : Type 0 where
  pub place : IsNumber feed.place
  pub table : IsName feed.table
  pub free : is_ending feed.table ≡ false
  pub taken : IsNumber feed.taken
  pub dropped : IsNumber feed.dropped

pub record IsReport (report : Report) : Type 0 where
  pub lines : AllByRecursion IsLine report.lines
  pub base : IfSome report.base IsNumber
  pub entries : AllByRecursion IsEntry report.entries
  pub feeds : AllByRecursion IsFeed report.feeds
  pub end : IsNumber report.end

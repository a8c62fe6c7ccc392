-- The text of a report: its one spelling.
--
-- Each line ends with LF, its words are separated by one space, and a number is decimal without
-- leading zeros. First come the lines of sessions and nodes, then the base if there is one, the
-- entries of the history, the feeds, and the end.
use Rattle.std.specs.Prelude.{ℕ, ◌+◌, ◌++◌, ◌∷◌, ◌/◌, ◌%◌, ◌==◌, [], List, Bool, true, false, if◌then◌else◌, nat_lt, Option, Some, None, codes}
use Rattle.std.specs.Fmt.{decimal, signed_decimal}
use Rattle.cdb_values.specs.declared.values.Value.{Value}
use Rattle.cdb_values.specs.declared.values.Value.TheVariants.{Null, Int, Text, Blob}
use Rattle.cdb_values.specs.declared.rows.Level as levels
use Rattle.cdb_values.specs.declared.rows.Level.TheVariants.{Snapshot, Serializable}
use Rattle.cdb_values.specs.declared.rows.StatementError as errors
use Rattle.cdb_values.specs.declared.rows.StatementError.TheVariants as error
use Rattle.report_text.specs.declared.reports.Report.{Report}
use Rattle.report_text.specs.declared.reports.Line.{Line}
use Rattle.report_text.specs.declared.reports.Line.TheVariants as line
use Rattle.cdb_values.specs.declared.replies.Reply.{Reply}
use Rattle.cdb_values.specs.declared.replies.Reply.TheVariants as reply
use Rattle.report_text.specs.declared.reports.EntryLine.{EntryLine}
use Rattle.report_text.specs.declared.reports.EntryLine.TheVariants.{Setup, Commit}
use Rattle.report_text.specs.declared.reports.FeedLine.{FeedLine}

-- a text between quotes, where each quote of it stands twice
abbrev pub quoted : List ℕ → List ℕ
quoted [] = 39 ∷ []
quoted (b ∷ bs) = if b == 39 then 39 ∷ 39 ∷ quoted bs else b ∷ quoted bs

-- a digit of sixteen, in lower case
abbrev pub hex_digit : ℕ → ℕ
hex_digit n = if nat_lt n 10 then 48 + n else 87 + n

-- two digits for each byte, and the closing quote
abbrev pub hexadecimal : List ℕ → List ℕ
hexadecimal [] = 39 ∷ []
hexadecimal (b ∷ bs) = hex_digit (b / 16) ∷ hex_digit (b % 16) ∷ hexadecimal bs

abbrev pub value_text : Value → List ℕ
value_text Null = codes "null"
value_text (Int n) = signed_decimal n
value_text (Text text) = 39 ∷ quoted text
value_text (Blob blob) = 120 ∷ 39 ∷ hexadecimal blob

-- each further value of a row, after a bar
abbrev pub more_values : List Value → List ℕ
more_values [] = []
more_values (v ∷ vs) = 124 ∷ (value_text v ++ more_values vs)

abbrev pub values_text : List Value → List ℕ
values_text [] = []
values_text (v ∷ vs) = value_text v ++ more_values vs

abbrev pub level_text : levels.Level → List ℕ
level_text Snapshot = codes "snapshot"
level_text Serializable = codes "serializable"

abbrev pub error_text : errors.StatementError → List ℕ
error_text (error.Syntax at) = codes "syntax " ++ decimal at
error_text error.Table = codes "table"
error_text error.Column = codes "column"
error_text error.Ambiguous = codes "ambiguous"
error_text error.Type_ = codes "type"
error_text error.Count = codes "count"
error_text error.Overflow = codes "overflow"
error_text error.NotNull = codes "notnull"
error_text error.TooLong = codes "toolong"
error_text error.State = codes "state"

-- a number, a space and what follows
abbrev pub number_then : ℕ → List ℕ → List ℕ
number_then n rest = decimal n ++ (32 ∷ rest)

abbrev pub reply_text : Reply → List ℕ
reply_text (reply.Begin position) = codes "begin " ++ decimal position
reply_text (reply.Row row) = codes "row " ++ values_text row
reply_text (reply.Done rows) = codes "done " ++ decimal rows
reply_text (reply.Changed rows) = codes "changed " ++ decimal rows
reply_text (reply.Error cause) = codes "error " ++ error_text cause
reply_text (reply.Level level) = codes "level " ++ level_text level
reply_text reply.RolledBack = codes "rolledback"
reply_text (reply.Committed position) = codes "committed " ++ decimal position
reply_text (reply.ConflictGenid position table genid) = codes "conflict " ++ number_then position (codes "genid " ++ (table ++ (32 ∷ decimal genid)))
reply_text (reply.ConflictRange position table key) = codes "conflict " ++ number_then position (codes "range " ++ (table ++ (32 ∷ key)))
reply_text (reply.Duplicate position table key) = codes "duplicate " ++ number_then position (table ++ (32 ∷ key))
reply_text (reply.Lost node down) = codes "lost " ++ number_then node (decimal down)
reply_text (reply.NoMajority up nodes) = codes "nomajority " ++ number_then up (decimal nodes)
reply_text reply.NoMemory = codes "nomemory"

-- the cause for which a node went down
abbrev pub cause_text : Bool → List ℕ
cause_text true = codes "fault"
cause_text false = codes "stop"

-- a line without its LF
abbrev pub words_of : Line → List ℕ
words_of (line.Session name txn reply) = name ++ (32 ∷ number_then txn (reply_text reply))
words_of (line.Down count node fault) = codes "down " ++ number_then count (number_then node (cause_text fault))
words_of (line.Up node) = codes "up " ++ decimal node
words_of line.Barrier = codes "barrier"
words_of (line.Fed position) = codes "fed " ++ decimal position

-- an entry without its LF
abbrev pub entry_words : EntryLine → List ℕ
entry_words (Setup position) = codes "entry " ++ number_then position (codes "schema")
entry_words (Commit position session txn begin level) = codes "entry " ++ number_then position (session ++ (32 ∷ number_then txn (number_then begin (level_text level))))

-- a feed's line without its LF
abbrev pub feed_words : FeedLine → List ℕ
feed_words f = codes "feed " ++ number_then f.place (f.table ++ (32 ∷ number_then f.taken (decimal f.dropped)))

-- lines, each ended by LF
abbrev pub ended : List ℕ → List ℕ
ended words = words ++ (10 ∷ [])

abbrev pub base_text : Option ℕ → List ℕ
base_text None = []
base_text (Some position) = ended (codes "base " ++ decimal position)

abbrev pub end_text : ℕ → List ℕ
end_text position = ended (codes "end " ++ decimal position)

abbrev pub lines_text : List Line → List ℕ
lines_text [] = []
lines_text (l ∷ ls) = ended (words_of l) ++ lines_text ls

abbrev pub entries_text : List EntryLine → List ℕ
entries_text [] = []
entries_text (e ∷ es) = ended (entry_words e) ++ entries_text es

abbrev pub feeds_text : List FeedLine → List ℕ
feeds_text [] = []
feeds_text (f ∷ fs) = ended (feed_words f) ++ feeds_text fs

-- the text of a report
unfoldable pub report_text : Report → List ℕ
report_text report = lines_text report.lines ++ (base_text report.base ++ (entries_text report.entries ++ (feeds_text report.feeds ++ end_text report.end)))

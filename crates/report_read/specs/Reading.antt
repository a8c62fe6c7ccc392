-- Reading a report, from the left to the right.
--
-- A reader takes what it reads from the front of the bytes and gives it with the bytes behind it, or
-- nothing. Of the lines that two readings may share a front, as `entry 1` and what a session named
-- `entry` was told in its first transaction, the readers are tried in turn, each of them to the end
-- of the line: no line has two readings. The parts of a report come in their order, since an item is
-- added only where nothing of a later part has come.
use Rattle.std.specs.Prelude.{◌≡◌, ℕ, zero, suc, ◌+◌, ◌-◌, ◌*◌, ◌<◌, ◌==◌, ◌++◌, ◌∷◌, [], List, length, Bool, true, false, ◌&&◌, ◌||◌, not, if◌then◌else◌, nat_le, Option, Some, None, is_none, ℤ, pos, negsuc, codes, bytes_eq}
use Rattle.std.specs.Str.{is_utf8}
use Rattle.cdb_values.specs.declared.values.Value.{Value}
use Rattle.cdb_values.specs.declared.values.Value.TheVariants.{Null, Int, Text, Blob}
use Rattle.cdb_values.specs.declared.rows.Level as levels
use Rattle.cdb_values.specs.declared.rows.Level.TheVariants.{Snapshot, Serializable}
use Rattle.cdb_values.specs.declared.rows.StatementError as errors
use Rattle.cdb_values.specs.declared.rows.StatementError.TheVariants as error
use Rattle.report_text.specs.declared.reports.Report.{Report}
use Rattle.report_text.specs.declared.reports.Line.{Line}
use Rattle.report_text.specs.declared.reports.Line.TheVariants as line
use Rattle.cdb_values.specs.declared.replies.Reply.{Reply}
use Rattle.cdb_values.specs.declared.replies.Reply.TheVariants as reply
use Rattle.report_text.specs.declared.reports.EntryLine.{EntryLine}
use Rattle.report_text.specs.declared.reports.EntryLine.TheVariants.{Setup, Commit}
use Rattle.report_text.specs.declared.reports.FeedLine.{FeedLine}
use Rattle.report_read.specs.declared.drafts.Item.{Item}
use Rattle.report_read.specs.declared.drafts.Item.TheVariants as item
use Rattle.report_read.specs.declared.drafts.Draft.{Draft}
use Rattle.report_read.specs.declared.coded.Piece.{Piece}
use Rattle.report_read.specs.declared.coded.Piece.TheVariants as piece
use Rattle.byte_words.specs.Words.{◌>>=◌, is_digit, front, behind, numeral_of}
use Rattle.byte_words.specs.Names.{is_name_byte, begins_lower}
use Rattle.report_text.specs.Grammar.{is_ending}

-- what was read, and the bytes behind it
abbrev pub Read : Type 0 → Type 0
Read A = Option (A × List ℕ)

abbrev pub or_else : {A : Type 0} → Option A → Option A → Option A
or_else None other = other
or_else (Some x) other = Some x

-- what stands behind a certain word
unfoldable pub behind_word : List ℕ → List ℕ → Option (List ℕ)
behind_word [] bytes = Some bytes
behind_word (w ∷ word) [] = None
behind_word (w ∷ word) (b ∷ bytes) = if w == b then behind_word word bytes else None

-- a reader behind a word, before one, and before another reader; of the first value that passes, and as something else
abbrev pub after : {A : Type 0} → List ℕ → (List ℕ → Read A) → List ℕ → Read A
after word read bytes = behind_word word bytes >>= read

abbrev pub before : {A : Type 0} → (List ℕ → Read A) → List ℕ → List ℕ → Read A
before read word bytes = read bytes >>= (λ x. behind_word word x.1 >>= (λ rest. Some (x.0, rest)))

abbrev pub both : {A B : Type 0} → (List ℕ → Read A) → (List ℕ → Read B) → List ℕ → Read (A × B)
both first second bytes = first bytes >>= (λ x. second x.1 >>= (λ y. Some ((x.0, y.0), y.1)))

abbrev pub as_of : {A B : Type 0} → (A → B) → (List ℕ → Read A) → List ℕ → Read B
as_of make read bytes = read bytes >>= (λ x. Some (make x.0, x.1))

abbrev pub only : {A : Type 0} → (A → Bool) → (List ℕ → Read A) → List ℕ → Read A
only test read bytes = read bytes >>= (λ x. if test x.0 then Some x else None)

abbrev pub either : {A : Type 0} → (List ℕ → Read A) → (List ℕ → Read A) → List ℕ → Read A
either first second bytes = or_else (first bytes) (second bytes)

-- one reader behind a word, and another reading where the word is not there
abbrev pub led : {A : Type 0} → Option (List ℕ) → (List ℕ → Read A) → Read A → Read A
led None next other = other
led (Some rest) next other = next rest

-- a value that a word stands for
abbrev pub word_as : {A : Type 0} → List ℕ → A → List ℕ → Read A
word_as word value bytes = behind_word word bytes >>= (λ rest. Some (value, rest))

-- a number of at most that size; unlike `number_within` of `byte_words`, no 0 stands before other digits
unfoldable pub number_within : ℕ → List ℕ → Read ℕ
number_within most bytes = numeral_of most (front is_digit bytes) >>= (λ value. Some (value, behind is_digit bytes))

unfoldable pub number_at : List ℕ → Read ℕ
number_at bytes = number_within 18_446_744_073_709_551_615 bytes

abbrev pub name_of : List ℕ → Option (List ℕ)
name_of word = if begins_lower word && nat_le (length word) 32 then Some word else None

unfoldable pub name_at : List ℕ → Read (List ℕ)
name_at bytes = name_of (front is_name_byte bytes) >>= (λ name. Some (name, behind is_name_byte bytes))

-- a number and a space, and a name and a space
unfoldable pub number_then_at : List ℕ → Read ℕ
number_then_at bytes = before number_at (32 ∷ []) bytes

unfoldable pub name_then_at : List ℕ → Read (List ℕ)
name_then_at bytes = before name_at (32 ∷ []) bytes

-- a word and a number, and a word, a number and a space
unfoldable pub numbered_at : List ℕ → List ℕ → Read ℕ
numbered_at word bytes = after word number_at bytes

unfoldable pub counted_at : List ℕ → List ℕ → Read ℕ
counted_at word bytes = after word number_then_at bytes

-- one byte in front of bytes that were read
abbrev pub put : ℕ → Read (List ℕ) → Read (List ℕ)
put b read = read >>= (λ x. Some (b ∷ x.0, x.1))

-- a text behind its first quote: each quote in it stands twice, and one alone ends it
unfoldable pub quoted_at : List ℕ → Read (List ℕ)
quoted_at [] = None
quoted_at (b ∷ []) = if b == 39 then Some ([], []) else None
quoted_at (b ∷ c ∷ bytes) = if b == 39 then (if c == 39 then put 39 (quoted_at bytes) else Some ([], c ∷ bytes)) else put b (quoted_at (c ∷ bytes))

-- the value of a digit of sixteen, in lower case
abbrev pub digit_value : ℕ → Option ℕ
digit_value b = if is_digit b then Some (b - 48) else (if nat_le 97 b && nat_le b 102 then Some (b - 87) else None)

-- the byte of two digits
abbrev pub byte_of : ℕ → ℕ → Option ℕ
byte_of high low = digit_value high >>= (λ h. digit_value low >>= (λ l. Some (16 * h + l)))

-- a blob behind its first quote: two digits for each byte, and a quote ends it
unfoldable pub hexadecimal_at : List ℕ → Read (List ℕ)
hexadecimal_at [] = None
hexadecimal_at (b ∷ []) = if b == 39 then Some ([], []) else None
hexadecimal_at (b ∷ c ∷ bytes) = if b == 39 then Some ([], c ∷ bytes) else byte_of b c >>= (λ x. put x (hexadecimal_at bytes))

-- the number below 0 of this size
abbrev pub minus : ℕ → Option ℤ
minus zero = None
minus (suc n) = Some (negsuc n)

-- an integer: `-` stands before no 0
unfoldable pub negative_at : List ℕ → Read ℤ
negative_at bytes = number_within 9_223_372_036_854_775_808 bytes >>= (λ x. minus x.0 >>= (λ z. Some (z, x.1)))

unfoldable pub integer_at : List ℕ → Read ℤ
integer_at bytes = led (behind_word (45 ∷ []) bytes) negative_at (as_of pos (number_within 9_223_372_036_854_775_807) bytes)

-- what the piece at the front of bytes says of their reading
abbrev pub Steps : (List ℕ → Read (List ℕ)) → Piece → List ℕ → Type 0
Steps read (piece.Byte b rest) bytes = (read bytes ≡ put b (read rest.now)) × (length rest.now < length bytes)
Steps read (piece.End rest) bytes = read bytes ≡ Some ([], rest.now)
Steps read piece.Dead bytes = read bytes ≡ None

unfoldable pub plain_value_at : List ℕ → Read Value
plain_value_at bytes = either (word_as (codes "null") Null) (as_of Int integer_at) bytes

unfoldable pub text_at : List ℕ → Read Value
text_at bytes = as_of Text (only is_utf8 (after (39 ∷ []) quoted_at)) bytes

unfoldable pub blob_at : List ℕ → Read Value
blob_at bytes = as_of Blob (after (120 ∷ 39 ∷ []) hexadecimal_at) bytes

unfoldable pub value_at : List ℕ → Read Value
value_at bytes = either plain_value_at (either text_at blob_at) bytes

-- a value in front of those that were read
abbrev pub with_first : Value → Read (List Value) → Read (List Value)
with_first v read = read >>= (λ vs. Some (v ∷ vs.0, vs.1))

-- each further value of a row, after a bar; at most that many
unfoldable pub more_values_at : ℕ → List ℕ → Read (List Value)
more_values_at zero bytes = Some ([], bytes)
more_values_at (suc n) bytes = led (behind_word (124 ∷ []) bytes) (λ rest. value_at rest >>= (λ v. with_first v.0 (more_values_at n v.1))) (Some ([], bytes))

unfoldable pub values_at : List ℕ → Read (List Value)
values_at bytes = value_at bytes >>= (λ v. with_first v.0 (more_values_at (length v.1) v.1))

unfoldable pub level_at : List ℕ → Read levels.Level
level_at bytes = either (word_as (codes "snapshot") Snapshot) (word_as (codes "serializable") Serializable) bytes

-- why a statement was refused
unfoldable pub bound_error_at : List ℕ → Read errors.StatementError
bound_error_at bytes = either (word_as (codes "table") error.Table) (either (word_as (codes "column") error.Column) (either (word_as (codes "ambiguous") error.Ambiguous) (either (word_as (codes "type") error.Type_) (word_as (codes "count") error.Count)))) bytes

unfoldable pub row_error_at : List ℕ → Read errors.StatementError
row_error_at bytes = either (word_as (codes "overflow") error.Overflow) (either (word_as (codes "notnull") error.NotNull) (either (word_as (codes "toolong") error.TooLong) (word_as (codes "state") error.State))) bytes

unfoldable pub syntax_at : List ℕ → Read errors.StatementError
syntax_at bytes = as_of error.Syntax (after (codes "syntax ") (number_within 4_294_967_295)) bytes

unfoldable pub error_at : List ℕ → Read errors.StatementError
error_at bytes = either syntax_at (either bound_error_at row_error_at) bytes

-- what a session was answered: to a statement
unfoldable pub answer_at : List ℕ → Read Reply
answer_at bytes = either (as_of reply.Begin (numbered_at (codes "begin "))) (either (as_of reply.Done (numbered_at (codes "done "))) (either (as_of reply.Changed (numbered_at (codes "changed "))) (either (as_of reply.Error (after (codes "error ") error_at)) (as_of reply.Level (after (codes "level ") level_at))))) bytes

-- two numbers behind a word
unfoldable pub pair_at : List ℕ → List ℕ → Read (ℕ × ℕ)
pair_at word bytes = both (counted_at word) number_at bytes

-- to the end of a transaction, where no name is told
unfoldable pub outcome_at : List ℕ → Read Reply
outcome_at bytes = either (as_of reply.Committed (numbered_at (codes "committed "))) (either (word_as (codes "rolledback") reply.RolledBack) (either (word_as (codes "nomemory") reply.NoMemory) (either (as_of (λ x. reply.Lost x.0 x.1) (pair_at (codes "lost "))) (as_of (λ x. reply.NoMajority x.0 x.1) (pair_at (codes "nomajority ")))))) bytes

-- and where one is told
unfoldable pub genid_at : List ℕ → Read Reply
genid_at bytes = as_of (λ x. reply.ConflictGenid x.0 x.1.0 x.1.1) (both (counted_at (codes "conflict ")) (after (codes "genid ") (both name_then_at number_at))) bytes

unfoldable pub range_at : List ℕ → Read Reply
range_at bytes = as_of (λ x. reply.ConflictRange x.0 x.1.0 x.1.1) (both (counted_at (codes "conflict ")) (after (codes "range ") (both name_then_at name_at))) bytes

abbrev pub is_one_key : List ℕ → Bool
is_one_key key = not (bytes_eq (codes "all") key)

unfoldable pub key_at : List ℕ → Read (List ℕ)
key_at bytes = only is_one_key name_at bytes

unfoldable pub duplicate_at : List ℕ → Read Reply
duplicate_at bytes = as_of (λ x. reply.Duplicate x.0 x.1.0 x.1.1) (both (counted_at (codes "duplicate ")) (both name_then_at key_at)) bytes

unfoldable pub row_at : List ℕ → Read Reply
row_at bytes = as_of reply.Row (after (codes "row ") values_at) bytes

unfoldable pub told_at : List ℕ → Read Reply
told_at bytes = either row_at (either genid_at (either range_at duplicate_at)) bytes

unfoldable pub reply_at : List ℕ → Read Reply
reply_at bytes = either answer_at (either outcome_at told_at) bytes

-- a line of a session, with its end, as each line below
unfoldable pub session_at : List ℕ → Read Line
session_at bytes = as_of (λ x. line.Session x.0 x.1.0 x.1.1) (both name_then_at (both number_then_at (before reply_at (10 ∷ [])))) bytes

unfoldable pub cause_at : List ℕ → Read Bool
cause_at bytes = either (word_as (codes "fault") true) (word_as (codes "stop") false) bytes

unfoldable pub down_at : List ℕ → Read Line
down_at bytes = as_of (λ x. line.Down x.0 x.1.0 x.1.1) (both (counted_at (codes "down ")) (both number_then_at (before cause_at (10 ∷ [])))) bytes

-- a word and a number, to the end of the line
unfoldable pub numbered_line_at : List ℕ → List ℕ → Read ℕ
numbered_line_at word bytes = before (numbered_at word) (10 ∷ []) bytes

unfoldable pub barrier_at : List ℕ → Read Line
barrier_at bytes = before (word_as (codes "barrier") line.Barrier) (10 ∷ []) bytes

unfoldable pub node_line_at : List ℕ → Read Line
node_line_at bytes = either down_at (either (as_of line.Up (numbered_line_at (codes "up "))) (either barrier_at (as_of line.Fed (numbered_line_at (codes "fed "))))) bytes

unfoldable pub setup_at : List ℕ → Read EntryLine
setup_at bytes = as_of Setup (before (before (counted_at (codes "entry ")) (codes "schema")) (10 ∷ [])) bytes

unfoldable pub commit_at : List ℕ → Read EntryLine
commit_at bytes = as_of (λ x. Commit x.0 x.1.0 x.1.1.0 x.1.1.1.0 x.1.1.1.1) (both (counted_at (codes "entry ")) (both name_then_at (both number_then_at (both number_then_at (before level_at (10 ∷ [])))))) bytes

abbrev pub feed_line : ℕ × (List ℕ × (ℕ × ℕ)) → FeedLine
feed_line x = record { place = x.0; table = x.1.0; taken = x.1.1.0; dropped = x.1.1.1 }

abbrev pub is_table : List ℕ → Bool
is_table name = not (is_ending name)

unfoldable pub feed_at : List ℕ → Read FeedLine
feed_at bytes = as_of feed_line (both (counted_at (codes "feed ")) (both (only is_table name_then_at) (both number_then_at (before number_at (10 ∷ []))))) bytes

-- one line, of whatever part of a report
unfoldable pub mark_at : List ℕ → Read Item
mark_at bytes = either (as_of item.Base (numbered_line_at (codes "base "))) (either (as_of item.End (numbered_line_at (codes "end "))) (as_of item.Event node_line_at)) bytes

unfoldable pub entry_at : List ℕ → Read EntryLine
entry_at bytes = either setup_at commit_at bytes

unfoldable pub item_at : List ℕ → Read Item
item_at bytes = either mark_at (either (as_of item.Entry entry_at) (either (as_of item.Feed feed_at) (as_of item.Event session_at))) bytes

-- whether an item of a part may still come: nothing of a later part has
abbrev pub may_end : Draft → Bool
may_end draft = is_none draft.end

abbrev pub may_enter : Draft → Bool
may_enter draft = (length draft.feeds == 0) && may_end draft

abbrev pub may_tell : Draft → Bool
may_tell draft = is_none draft.base && ((length draft.entries == 0) && may_enter draft)

unfoldable pub added : Draft → Item → Option Draft
added draft (item.Event l) = if may_tell draft then Some (record draft { lines = draft.lines ++ l ∷ [] }) else None
added draft (item.Base n) = if may_tell draft then Some (record draft { base = Some n }) else None
added draft (item.Entry e) = if may_enter draft then Some (record draft { entries = draft.entries ++ e ∷ [] }) else None
added draft (item.Feed f) = if may_end draft then Some (record draft { feeds = draft.feeds ++ f ∷ [] }) else None
added draft (item.End n) = if may_end draft then Some (record draft { end = Some n }) else None

-- at most that many items added to a draft, to the last byte
unfoldable pub drafted : ℕ → Draft → List ℕ → Option Draft
drafted zero draft bytes = if length bytes == 0 then Some draft else None
drafted (suc n) draft bytes = if length bytes == 0 then Some draft else (item_at bytes >>= (λ x. added draft x.0 >>= (λ next. drafted n next x.1)))

abbrev pub empty_draft : Draft
empty_draft = record { lines = []; base = None; entries = []; feeds = []; end = None }

unfoldable pub finished : Draft → Option Report
finished draft = draft.end >>= (λ n. Some (record { lines = draft.lines; base = draft.base; entries = draft.entries; feeds = draft.feeds; end = n }))

-- the report whose text the bytes are
unfoldable pub report_of : List ℕ → Option Report
report_of bytes = drafted (length bytes) empty_draft bytes >>= finished

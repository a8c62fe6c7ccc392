-- What the grammar of reports asks of what is told: names are names, rows have values that can be told, and one at least; and a
-- language that gives such replies. What is kept of rows asks no value: a table of a store may have no column.
use Rattle.std.specs.Prelude.{◌≡◌, ℕ, ◌<◌, ◌∷◌, [], List, true}
use Rattle.std.specs.List.{AllByRecursion}
use Rattle.std.specs.Str.{is_utf8}
use Rattle.cdb_values.specs.declared.rows.RowOp.{RowOp}
use Rattle.cdb_values.specs.declared.rows.RowOp.TheVariants.{Insert, Update, Delete}
use Rattle.cdb_values.specs.declared.rows.Version.{Version}
use Rattle.cdb_values.specs.declared.tables.TableDef.{TableDef}
use Rattle.cdb_values.specs.declared.values.Value.{Value}
use Rattle.cdb_values.specs.declared.values.Value.TheVariants.{Null, Int, Text, Blob}
use Rattle.session_language.specs.Language.{Language}
use Rattle.byte_words.specs.Names.{IsName, IsKey}
use Rattle.cdb_values.specs.declared.replies.Reply.{Reply}
use Rattle.cdb_values.specs.declared.replies.Reply.TheVariants as reply

-- texts of UTF-8
abbrev pub AreTexts : List (List ℕ) → Type 0
AreTexts texts = AllByRecursion (λ text. is_utf8 text ≡ true) texts

-- a value of the grammar, but for the sizes of integers: those that are told stand in 64 bits anyway
abbrev pub IsToldValue : Value → Type 0
IsToldValue Null = Unit {0}
IsToldValue (Int n) = Unit {0}
IsToldValue (Text text) = is_utf8 text ≡ true
IsToldValue (Blob blob) = AllByRecursion (λ b. b < 256) blob

-- each value of a row can be told. A row of a table without columns has none
abbrev pub IsToldRow : List Value → Type 0
IsToldRow row = AllByRecursion IsToldValue row

-- a row of the grammar, which has a value or more
abbrev pub SpellsRow : List Value → Type 0
SpellsRow [] = ⊥
SpellsRow (v ∷ vs) = IsToldRow (v ∷ vs)

-- a reply names tables and keys of the grammar, and tells rows of it
abbrev pub SpellsReply : Reply → Type 0
SpellsReply (reply.Begin position) = Unit {0}
SpellsReply (reply.Row row) = SpellsRow row
SpellsReply (reply.Done rows) = Unit {0}
SpellsReply (reply.Changed rows) = Unit {0}
SpellsReply (reply.Error cause) = Unit {0}
SpellsReply (reply.Level level) = Unit {0}
SpellsReply reply.RolledBack = Unit {0}
SpellsReply (reply.Committed position) = Unit {0}
SpellsReply (reply.ConflictGenid position table genid) = IsName table
SpellsReply (reply.ConflictRange position table key) = IsName table × IsName key
SpellsReply (reply.Duplicate position table key) = IsName table × IsKey key
SpellsReply (reply.Lost node down) = Unit {0}
SpellsReply (reply.NoMajority up nodes) = Unit {0}
SpellsReply reply.NoMemory = Unit {0}

-- an operation writes a row of values that can be told, if it writes one
abbrev pub WritesRow : RowOp → Type 0
WritesRow (Insert table row) = IsToldRow row
WritesRow (Update table target old row) = IsToldRow row
WritesRow (Delete table target old) = Unit {0}

-- the versions of all tables have such rows
abbrev pub HaveRows : List (List Version) → Type 0
HaveRows tables = AllByRecursion (λ versions. AllByRecursion (λ v. IsToldRow v.row) versions) tables

-- a language that answers each text of UTF-8 over such versions of these tables, behind such operations, by such
-- replies and operations
pub record KeepsRows (language : Language) (tables : List TableDef) : Type 0 where
  pub replies : (versions : List (List Version)) (done : List RowOp) (text : List ℕ) → is_utf8 text ≡ true → HaveRows versions → AllByRecursion WritesRow done → AllByRecursion SpellsReply (language.answer tables versions done text).replies
  pub ops : (versions : List (List Version)) (done : List RowOp) (text : List ℕ) → is_utf8 text ≡ true → HaveRows versions → AllByRecursion WritesRow done → AllByRecursion WritesRow (language.answer tables versions done text).ops

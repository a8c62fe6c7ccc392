-- What is decided on a transaction at its commit, and how it is told.
--
-- One without operations is committed where it began. For one with operations the entries since its
-- begin are looked through in order: the first whose changes touch what it uses is its conflict.
-- It uses the versions that its operations take away, then those that its statements used, and at level serializable
-- the intervals that its statements read. Where there is no conflict, its operations are tried on the rows now: the first
-- key that they break makes it a duplicate, and where they break none it is committed at the next position.
use Rattle.std.specs.Prelude.{ℕ, ◌+◌, ◌++◌, ◌∷◌, [], List, Option, Some, None, drop, map, unwrap_or}
use Rattle.cdb_values.specs.Changes.{taken_by}
use Rattle.cdb_values.specs.Good.{first_broken, KeyName}
use Rattle.cdb_values.specs.Rows.{Rows, apply_all}
use Rattle.cdb_values.specs.declared.items.GenidItem.{GenidItem}
use Rattle.cdb_values.specs.declared.items.Interval.{Interval}
use Rattle.cdb_values.specs.declared.items.Item.{Item}
use Rattle.cdb_values.specs.declared.items.Item.TheVariants.{Genid, Range}
use Rattle.cdb_values.specs.declared.rows.Change.{Change}
use Rattle.cdb_values.specs.declared.rows.Level.{Level}
use Rattle.cdb_values.specs.declared.rows.RowOp.{RowOp}
use Rattle.cdb_values.specs.declared.tables.TableDef.{TableDef}
use Rattle.report_laws.specs.Outcome.{name_of_key, name_of_table}
use Rattle.cdb_values.specs.declared.replies.Reply.{Reply}
use Rattle.cdb_values.specs.declared.replies.Reply.TheVariants as reply
use Rattle.session_language.specs.Intervals.{keys_at}
use Rattle.session_language.specs.Touched.{Used, TheVersion, TheRange, FirstUse, first_use, ranges_at}

-- what a transaction uses at a level, by its operations, the versions that its texts used and the intervals that they read
abbrev pub used_by : Level → List RowOp → List GenidItem → List Interval → List Used
used_by level ops uses ranges = map TheVersion (taken_by ops ++ uses) ++ map TheRange (ranges_at level ranges)

-- the names of a table and of a key of it, `all` where no key is named; the empty name where there is none
abbrev pub table_name_at : List TableDef → ℕ → List ℕ
table_name_at tables table = unwrap_or (name_of_table tables table) []

abbrev pub key_named : List TableDef → ℕ → Option ℕ → List ℕ
key_named tables table key = unwrap_or (name_of_key (keys_at tables table) key) []

-- what was used, as the item that a conflict tells: a version as itself, and an interval by its table and key
abbrev pub item_of : Used → Item
item_of (TheVersion genid) = Genid genid
item_of (TheRange interval) = Range interval.table interval.key

-- a conflict over an item as it is told: a version by the name of its table, an interval by the names of its table and key
abbrev pub item_told : List TableDef → ℕ → Item → Reply
item_told tables position (Genid item) = reply.ConflictGenid position (table_name_at tables item.table) item.genid
item_told tables position (Range table key) = reply.ConflictRange position (table_name_at tables table) (key_named tables table key)

abbrev pub conflict_told : List TableDef → FirstUse → Reply
conflict_told tables f = item_told tables f.position (item_of f.item)

-- by the key that its operations would break now
abbrev pub by_key : ℕ → Option KeyName → Reply
by_key now (Some key) = reply.Duplicate now key.table key.key
by_key now None = reply.Committed (now + 1)

abbrev pub judged : List TableDef → Rows → ℕ → List RowOp → Option FirstUse → Reply
judged tables rows now ops (Some f) = conflict_told tables f
judged tables rows now ops None = by_key now (first_broken tables (apply_all rows ops).tables)

-- what is decided on a transaction that used these, by what each entry of the history changes and the rows at its last position
abbrev pub decision : List TableDef → List (List Change) → Rows → ℕ → ℕ → List Used → List RowOp → Reply
decision tables changed rows begin now used [] = reply.Committed begin
decision tables changed rows begin now used (op ∷ ops) = judged tables rows now (op ∷ ops) (first_use tables begin (drop begin changed) used)

-- what a committed transaction adds to the history: its operations, where it has some
abbrev pub added_by : Reply → List RowOp → List (List RowOp)
added_by (reply.Committed position) [] = []
added_by (reply.Committed position) (op ∷ ops) = (op ∷ ops) ∷ []
added_by _ ops = []

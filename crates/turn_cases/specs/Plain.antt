-- The plain node's history: what each entry changed, and the rows behind it.
use Rattle.std.specs.Prelude.{ℕ, ◌-◌, ◌<◌, ◌≤◌, [], ◌∷◌, ◌++◌, List, length, map, slice_get, Option, Some, None, Bool, false}
use Rattle.std.specs.List.{AllByRecursion}
use Rattle.cdb_values.specs.Good.{is_key_taken, KeyName}
use Rattle.cdb_values.specs.Rows.{Rows, no_rows}
use Rattle.cdb_values.specs.declared.items.GenidItem.{GenidItem}
use Rattle.cdb_values.specs.declared.items.Interval.{Interval}
use Rattle.cdb_values.specs.declared.rows.Change.{Change}
use Rattle.cdb_values.specs.declared.rows.Version.{Version}
use Rattle.cdb_values.specs.declared.tables.KeyDef.{KeyDef}
use Rattle.cdb_values.specs.declared.tables.TableDef.{TableDef}
use Rattle.session_language.specs.Touched.{FirstUse, Used, TheVersion, TheRange}
use Rattle.session_turns.specs.Decisions.{item_of, key_named, table_name_at}
use Rattle.session_turns.specs.Doing.{Doing, open_begin}
use Rattle.session_turns.specs.Step.{World, world_of}
use Rattle.turn_cases.specs.declared.broken.BrokenKey.{BrokenKey}
use Rattle.turn_cases.specs.declared.plain.PlainNode.{PlainNode}
use Rattle.turn_cases.specs.declared.rows.PlainEntry.{PlainEntry}
use Rattle.turn_cases.specs.declared.rows.PlainRows.{PlainRows}
use Rattle.turn_cases.specs.declared.touched.FirstTouch.{FirstTouch}

abbrev pub rows_of : PlainRows → Rows
rows_of r = record { tables = r.tables; next = r.next }

-- the rows behind an entry
abbrev pub rows_in : Option PlainEntry → Rows
rows_in None = no_rows []
rows_in (Some e) = rows_of e.rows

-- the rows at a position: those behind its entry
abbrev pub rows_at : List PlainEntry → ℕ → Rows
rows_at entries position = rows_in (slice_get entries (position - 1))

-- what each entry changed
abbrev pub changes_in : List PlainEntry → List (List Change)
changes_in entries = map (λ e. e.changes) entries

abbrev pub world_by : List TableDef → List PlainEntry → World
world_by tables entries = world_of tables (record { at = rows_at entries; next = (rows_at entries (length entries)).next }) (changes_in entries) (length entries)

abbrev pub world_in : PlainNode → World
world_in n = world_by n.schema n.entries

-- a history of so many entries has begun, and has the rows that a session reads
abbrev pub CanGoOn : ℕ → Doing → Type 0
CanGoOn last what = (0 < last) × AllByRecursion (λ at. (0 < at) × (at ≤ last)) (open_begin what)

-- what was used, by versions and intervals
abbrev pub used_of : List GenidItem → List Interval → List Used
used_of genids ranges = map TheVersion genids ++ map TheRange ranges

-- the first touch of something that was used
abbrev pub touch_of : FirstUse → FirstTouch
touch_of f = record { position = f.position; item = item_of f.item }

-- a key among these by its place, if it has one
abbrev pub key_at : List KeyDef → Option ℕ → Option KeyDef
key_at keys None = None
key_at keys (Some key) = slice_get keys key

-- a key by the names of its place, if there is one
abbrev pub named : List TableDef → Option BrokenKey → Option KeyName
named tables None = None
named tables (Some b) = Some (record { table = table_name_at tables b.table; key = key_named tables b.table (Some b.key) })

-- whether one of these versions has the same values at the key as the first of the others, if there is one
abbrev pub is_first_taken : KeyDef → List Version → List Version → Bool
is_first_taken key before [] = false
is_first_taken key before (v ∷ rest) = is_key_taken key v.row before

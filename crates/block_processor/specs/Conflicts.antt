-- Which entry touches what a request used: of the entries after its begin position, in order, the first that touches a used
-- item, and the first such item. These are the versions that it used, in order, and at level serializable the intervals that
-- it read behind them, in order. An entry touches a version that it takes away, and an interval in which a row lies that it
-- takes away or adds.
--
-- A request began at position 2, used the version 1 of t, and read the rows of t whose id is above 5. The log has these
-- entries behind it:
--
--     3   commit   insert 2: (3, 30)                 touches nothing
--     4   commit   insert 3: (7, 70)                 touches the interval
--     5   commit   update 1: (1, 10) to 4: (1, 11)   touches the version
--
-- At level serializable the interval is touched first, at position 4; at level snapshot the version is, at position 5.
use Rattle.std.specs.Prelude.{◌≡◌, ℕ, ◌+◌, ◌-◌, ◌<◌, ◌≤◌, List, length, drop, Option, Some, None}
use Rattle.cdb_values.specs.declared.items.GenidItem.{GenidItem}
use Rattle.cdb_values.specs.declared.items.Interval.{Interval}
use Rattle.cdb_values.specs.declared.tables.TableDef.{TableDef}
use Rattle.phys_log.specs.declared.entries.Entry.{Entry}
use Rattle.phys_log.specs.declared.requests.CommitRequest.{CommitRequest}
use Rattle.log_rows.specs.History.{tables_of}
use Rattle.range_validate.specs.Touches.{first_touch_of, item_at}
use Rattle.range_validate.specs.declared.touches.Touch.{Touch}
use Rattle.session_language.specs.Touched.{ranges_at}
use Rattle.block_processor.specs.declared.conflicts.Found.{Found}

abbrev pub ranges_of : CommitRequest → List Interval
ranges_of request = ranges_at request.level request.ranges

-- a touch by the position of its entry, where the entries that were looked at begin behind a position
abbrev pub found_behind : ℕ → Option Touch → Option Found
found_behind begin None = None
found_behind begin (Some t) = Some (record { position = begin + t.place + 1; item = t.item })

-- the first entry after a position that touches one of these items, and the first that it touches
abbrev pub conflict_since : List TableDef → ℕ → List Entry → List GenidItem → List Interval → Option Found
conflict_since tables begin entries genids ranges = found_behind begin (first_touch_of tables (drop begin entries) genids ranges)

-- the first entry after the begin of a request that touches what it used
abbrev pub conflict_of : CommitRequest → List Entry → Option Found
conflict_of request entries = conflict_since (tables_of entries) request.begin entries request.genids (ranges_of request)

-- no entry between two positions, both left out, touches an item
abbrev pub AreUntouched : List TableDef → ℕ → ℕ → List Entry → List GenidItem → List Interval → Type 0
AreUntouched tables begin position entries genids ranges =
    (j : ℕ) → begin < j → j < position → item_at tables entries genids ranges (j - 1) ≡ None

-- the position of a conflict since a begin is the first after it whose entry touches an item, and this is the first that
-- it touches
pub record IsFirstSince (tables : List TableDef) (begin : ℕ) (entries : List Entry) (genids : List GenidItem) (ranges : List Interval) (f : Found) : Type 0 where
  pub after : begin < f.position
  pub within : f.position ≤ length entries
  pub touched : item_at tables entries genids ranges (f.position - 1) ≡ Some f.item
  pub before : AreUntouched tables begin f.position entries genids ranges

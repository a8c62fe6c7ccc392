-- Feeds: what a line tells of them, and what each place took.
--
-- A `fed` line is answered or repeats. An answered one is fresh: at least every position that was named before the operator's
-- line before it, a barrier or a feed. One that repeats has the position of the feed before, 0 at first, and few nodes are up at
-- a place since the operator's line before. The last one, where a table is watched, stands behind all lines of sessions, and is
-- fresh as if a barrier stood right before it.
--
-- Each watched table has its line behind the entries: how many of its changes were taken, of those behind the base up to the
-- last feed. All were, where no consumer was dropped.
use Rattle.std.specs.Prelude.{◌≡◌, ℕ, zero, suc, ◌+◌, ◌-◌, ◌≤◌, ◌++◌, ◌∷◌, [], List, Bool, true, false, Option, Some, None, option_map, slice_get, if◌then◌else◌, ◌⊎◌}
use Rattle.std.specs.List.{AllByRecursion}
use Rattle.std.specs.Str.{bytes_eq}
use Rattle.cdb_values.specs.declared.rows.Change.{Change}
use Rattle.cdb_values.specs.declared.rows.Change.TheVariants as change
use Rattle.cdb_values.specs.declared.tables.TableDef.{TableDef}
use Rattle.report_laws.specs.History.{Origin, Basis}
use Rattle.report_laws.specs.Lawful.{NameUpTo}
use Rattle.report_laws.specs.Nodes.{are_few}
use Rattle.report_laws.specs.Outcome.{name_of_table}
use Rattle.report_laws.specs.View.{View}
use Rattle.report_text.specs.declared.reports.FeedLine.{FeedLine}
use Rattle.report_text.specs.declared.reports.Line.{Line}
use Rattle.report_text.specs.declared.reports.Line.TheVariants as line
use Rattle.script_form.specs.declared.scripts.Script.{Script}
use Rattle.node_reports.specs.Order.{last_fed}

-- whether the operator reads a line: a barrier or a feed
abbrev pub is_read : Line → Bool
is_read (line.Session name txn answer) = false
is_read (line.Down count node fault) = false
is_read (line.Up node) = false
is_read line.Barrier = true
is_read (line.Fed position) = true

-- whether it is a line of a session
abbrev pub is_sessions : Line → Bool
is_sessions (line.Session name txn answer) = true
is_sessions _ = false

-- a feed is answered at a position
pub record IsFedAt (basis : Basis) (view : View) (before : List Line) (position : ℕ) : Type 0 where
  pub first : 1 ≤ position
  pub base : basis.origin.position ≤ position
  pub within : position ≤ view.last
  pub heard : (front : List Line) (mark : Line) (back : List Line) → before ≡ front ++ mark ∷ back → is_read mark ≡ true → NameUpTo position front

-- a feed repeats the position of the one before it: few nodes are up at a place behind which the operator reads no line
pub record Repeats (basis : Basis) (before : List Line) (position : ℕ) : Type 0 where
  pub same : position ≡ last_fed 0 before
  pub front : List Line
  pub back : List Line
  pub stands : before ≡ front ++ back
  pub since : AllByRecursion (λ l. is_read l ≡ false) back
  pub few : are_few basis.script.nodes front ≡ true

-- a `fed` line is right behind these lines
abbrev pub IsFed : Basis → View → List Line → ℕ → Type 0
IsFed basis view before position = IsFedAt basis view before position ⊎ Repeats basis before position

-- the last `fed` line is right behind these lines: answered as behind a barrier, or it repeats, and few nodes are up behind the
-- lines of the sessions
pub record RepeatsAtLast (basis : Basis) (before : List Line) (position : ℕ) : Type 0 where
  pub repeats : Repeats basis before position
  pub behind : AllByRecursion (λ l. is_sessions l ≡ false) repeats.back

abbrev pub IsFedAtLast : Basis → View → List Line → ℕ → Type 0
IsFedAtLast basis view before position = (IsFedAt basis view before position × NameUpTo position before) ⊎ RepeatsAtLast basis before position

-- the table of a change
abbrev pub table_of : Change → ℕ
table_of (change.Insert table genid row) = table
table_of (change.Update table old_genid old genid row) = table
table_of (change.Delete table old_genid old) = table

abbrev pub is_called : List ℕ → Option (List ℕ) → Bool
is_called name None = false
is_called name (Some other) = bytes_eq other name

-- how many of these changes are of the table of that name
abbrev pub changes_of_table : List TableDef → List ℕ → List Change → ℕ
changes_of_table tables name [] = 0
changes_of_table tables name (c ∷ cs) = changes_of_table tables name cs + (if is_called name (name_of_table tables (table_of c)) then 1 else 0)

-- how many changes of a table stand at so many positions behind the base
abbrev pub events : View → List ℕ → ℕ → ℕ → ℕ
events view name base zero = 0
events view name base (suc n) = events view name base n + changes_of_table view.tables name (view.changes (base + suc n))

-- the feed of a place, whose table was offered its changes up to a position
pub record IsFeedTold (basis : Basis) (view : View) (position place watched : ℕ) (feed : FeedLine) : Type 0 where
  pub is_place : feed.place ≡ place
  pub is_table : option_map (λ t. t.table.name) (slice_get basis.script.tables watched) ≡ Some feed.table
  pub most : feed.taken ≤ events view feed.table basis.origin.position (position - basis.origin.position)
  pub whole : feed.dropped ≡ 0 → feed.taken ≡ events view feed.table basis.origin.position (position - basis.origin.position)

-- the feeds are those of the watched tables, one for each, from that place on
abbrev pub AreFeeds : Basis → View → ℕ → ℕ → List ℕ → List FeedLine → Type 0
AreFeeds basis view position place [] feeds = feeds ≡ []
AreFeeds basis view position place (watched ∷ more) [] = ⊥
AreFeeds basis view position place (watched ∷ more) (feed ∷ feeds) = IsFeedTold basis view position place watched feed × AreFeeds basis view position (place + 1) more feeds

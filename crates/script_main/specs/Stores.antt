-- The stores of a run, and what the first of them stands for to the one node.
--
-- A script that has no table takes those of the log, where the log has entries.
use Rattle.std.specs.Prelude.{◌≡◌, ◌⊎◌, ℕ, ◌<◌, ◌^◌, List, [], ◌∷◌, map, drop, length, Some, slice_get}
use Rattle.cdb_values.specs.Rows.{Rows, no_rows}
use Rattle.cdb_values.specs.declared.tables.TableDef.{TableDef}
use Rattle.cluster_id.specs.Named.{cluster_id_of}
use Rattle.log_rows.specs.History as history
use Rattle.node_opening.specs.Why.{HasRisen, WasOther, WasUnsound}
use Rattle.phys_log.specs.Logs.{pages_of}
use Rattle.phys_log.specs.declared.entries.Entry.{Entry}
use Rattle.script_form.specs.CanRun.{script_tables}
use Rattle.script_form.specs.declared.scripts.Script.{Script}
use Rattle.script_form.specs.declared.scripts.TableLine.{TableLine}
use Rattle.script_play.specs.Start.{Start}
use Rattle.store_log.specs.declared.standings.Standing.TheVariants.{Bad, Foreign}
use Rattle.store_log.specs.Held.{StandsFor}
use Rattle.store_log.specs.Keeps.{Stored}
use Rattle.store_log.specs.Opens.{StandsAlike}
use Rattle.table_state.specs.States.{HasState}

-- what a store has, by the members of its type; and what each of some stores has
abbrev pub kept_by : {A : Type 0} → (A → List ℕ) → (A → List ℕ) → (A → ℕ) → (A → ℕ) → A → Stored
kept_by synced pending faults writes store =
    record { synced = synced store; pending = pending store; faults = faults store; writes = writes store }

abbrev pub kept_all : {A : Type 0} → (A → List ℕ) → (A → List ℕ) → (A → ℕ) → (A → ℕ) → List A → List Stored
kept_all synced pending faults writes stores = map (kept_by synced pending faults writes) stores

-- the stores behind the first are as they were, and there are as many
pub record IsFirstAlone {A : Type 0} (old new : List A) : Type 0 where
  pub others : drop 1 new ≡ drop 1 old
  pub count : length new ≡ length old

-- the id of a script's cluster
abbrev pub cluster_of : Script → ℕ
cluster_of script = cluster_id_of script.cluster script.nodes

-- an id takes 16 bytes
abbrev pub HasId : Script → Type 0
HasId script = cluster_of script < 2 ^ 128

-- a table that no line of the script says
abbrev pub unsaid : TableDef → TableLine
unsaid table = record { line = 0; table = table }

-- the tables of a script, or those of a log where it has none
abbrev pub tables_or : List TableLine → List TableDef → List TableLine
tables_or [] logged = map unsaid logged
tables_or (line ∷ lines) logged = line ∷ lines

abbrev pub with_tables : Script → List Entry → Script
with_tables script [] = script
with_tables script (e ∷ es) = record script { tables = tables_or script.tables (history.tables_of (e ∷ es)) }

-- the rows for which the pages of a log stand; none where it has no entry
abbrev pub HasRows : List Entry → Rows → Type 0
HasRows [] rows = rows ≡ no_rows []
HasRows (e ∷ es) rows = HasState (pages_of (e ∷ es)) (history.tables_of (e ∷ es)) rows

abbrev pub start_at : List Entry → Rows → Start
start_at before rows = record { before = before; rows = rows }

-- the store has a bad frame at an offset, or another's header, told at 0
abbrev pub IsBadAt : Script → Stored → ℕ → Type 0
IsBadAt script store at =
    StandsFor 1 (cluster_of script) store.synced (Bad at) ⊎ (StandsFor 1 (cluster_of script) store.synced Foreign × (at ≡ 0))

-- the store has a log that is not sound
abbrev pub IsUnsound : Script → Stored → Type 0
IsUnsound script store = WasUnsound 1 (cluster_of script) store.synced

-- the store has a sound log with entries and other tables, and this is the line of the first table that differs
pub record IsOtherAt (script : Script) (store : Stored) (line : ℕ) : Type 0 where
  pub place : ℕ
  pub other : WasOther 1 (cluster_of script) store.synced (script_tables script) place
  pub said : TableLine
  pub at : slice_get script.tables place ≡ Some said
  pub line_is : said.line ≡ line

-- the store stands for what it stood for
abbrev pub IsAlike : Script → Stored → Stored → Type 0
IsAlike script old new = StandsAlike 1 (cluster_of script) old.synced new.synced

-- the first store's count of faults rose
abbrev pub FirstRose : List Stored → List Stored → Type 0
FirstRose [] new = ⊥
FirstRose (o ∷ os) [] = ⊥
FirstRose (o ∷ os) (n ∷ ns) = HasRisen o.faults n.faults

-- What is told of stores in place of a report, and over which ones a script is played, where it gives these tables.
use Rattle.std.specs.Prelude.{◌≡◌, ◌⊎◌, ℕ, ◌≤◌, List, length, Option, Some, None, slice_get}
use Rattle.cdb_outside.specs.declared.statuses.Status.{Status}
use Rattle.cdb_outside.specs.declared.statuses.Status.TheVariants as status
use Rattle.cdb_values.specs.declared.tables.TableDef.{TableDef}
use Rattle.kept_log.specs.Kept.{OverStore}
use Rattle.node_opening.specs.Tables.{IsDifference}
use Rattle.play_order.specs.Elections.{Ranked}
use Rattle.play_order.specs.Openings.{AreAllFit, AreAllSound, AreAllWhole, Finding, best_log, first_bad, first_unfit, first_unsound, tables_at}
use Rattle.script_form.specs.declared.scripts.Script.{Script}
use Rattle.script_form.specs.declared.scripts.TableLine.{TableLine}
use Rattle.node_openings.specs.declared.found.StoreFound.{StoreFound}
use Rattle.node_openings.specs.declared.found.WhyNotOpened.{WhyNotOpened}
use Rattle.node_openings.specs.declared.found.WhyNotOpened.TheVariants as why
use Rattle.node_openings.specs.Found.{AreFound}
use Rattle.node_openings.specs.Findings.{AreSeenAs}

-- the best log has entries, and other tables than the given ones, and this is the place of the first that differs
pub record DiffersFromBest (given : List TableDef) (fs : List Finding) (place : ℕ) : Type 0 where
  pub best : Ranked
  pub is_best : best_log fs ≡ Some best
  pub some : 1 ≤ length best.has.log
  pub difference : IsDifference given (tables_at fs best.node) place

-- the tables of the best log, where it has entries
abbrev pub AreTablesOfBest : List Finding → Ranked → Option (List TableDef) → Type 0
AreTablesOfBest fs best tables = ((tables ≡ None) × (length best.has.log ≡ 0)) ⊎ ((tables ≡ Some (tables_at fs best.node)) × (1 ≤ length best.has.log))

-- the cause that is told is the first one
abbrev pub IsToldOver : List TableDef → List Finding → WhyNotOpened → Type 0
IsToldOver given fs (why.StoreRefused node at) = first_bad 1 fs ≡ Some (record { node = node; at = at })
IsToldOver given fs (why.Unsound node) =
    (AreAllWhole fs × (first_unsound 1 fs ≡ Some node)) ⊎ (AreAllSound fs × (first_unfit (length fs) fs ≡ Some node))
IsToldOver given fs (why.Differs place) = AreAllFit (length fs) fs × DiffersFromBest given fs place
IsToldOver given fs why.NoMemory = Unit {0}

-- there is none
pub record MayPlayOver (given : List TableDef) (fs : List Finding) : Type 0 where
  pub fit : AreAllFit (length fs) fs
  pub same : (place : ℕ) → DiffersFromBest given fs place → ⊥

-- what was found is all that counts: whatever a store that failed stands for
pub record IsToldOf (given : List TableDef) (found : List StoreFound) (w : WhyNotOpened) : Type 0 where
  pub over : (fs : List Finding) → AreSeenAs found fs → IsToldOver given fs w

pub record MayPlayOf (given : List TableDef) (found : List StoreFound) : Type 0 where
  pub over : (fs : List Finding) → AreSeenAs found fs → MayPlayOver given fs

-- all stores were read, and this is told of what they were found to be; or memory was wanted
abbrev pub IsWhyNotOpened : List TableDef → List OverStore → List OverStore → WhyNotOpened → Type 0
IsWhyNotOpened given old new w = (w ≡ why.NoMemory) ⊎ ((found : List StoreFound) × AreFound found old new × IsToldOf given found w)

-- how a script's run ends where this is told: for tables that differ its line is told of the first table that does
abbrev pub IsStatusOf : Script → WhyNotOpened → Status → Type 0
IsStatusOf script (why.StoreRefused node at) told = told ≡ status.StoreRefused node at
IsStatusOf script (why.Unsound node) told = told ≡ status.Unsound node
IsStatusOf script (why.Differs place) told = (said : TableLine) × (slice_get script.tables place ≡ Some said) × (told ≡ status.Refused said.line 9)
IsStatusOf script why.NoMemory told = ⊥

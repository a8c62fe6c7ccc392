-- A node that is up, and the store that it was opened over.
use Rattle.std.specs.Prelude.{◌≡◌, ℕ, ◌+◌, List, [], ◌∷◌, length}
use Rattle.cdb_values.specs.Rows.{no_rows}
use Rattle.cdb_values.specs.declared.tables.TableDef.{TableDef}
use Rattle.log_rows.specs.Setups.{IsSetup}
use Rattle.log_rows.specs.Sizes.{IsSmall}
use Rattle.phys_log.specs.Logs.{pages_of}
use Rattle.phys_log.specs.declared.entries.Entry.{Entry}
use Rattle.table_store.specs.Stored.{Stands}
use Rattle.node_log.specs.Logged.{Logged}
use Rattle.node_opening.specs.Goods.{StandsForGood}

-- the setup of the given tables in a generation, whose pages stand for these tables without rows, with numbers below 2^62
pub record IsBegin (generation : ℕ) (given : List TableDef) (entry : Entry) : Type 0 where
  pub setup : IsSetup generation given entry
  pub pages : Stands (pages_of (entry ∷ [])) given (no_rows given)
  pub small : IsSmall (entry ∷ [])

-- a log without entries begins with such a setup; any other one is as it was
abbrev pub GoesOn : ℕ → List TableDef → List Entry → List Entry → Type 0
GoesOn generation given [] now = (entry : Entry) × IsBegin generation given entry × (now ≡ entry ∷ [])
GoesOn generation given (e ∷ es) now = now ≡ e ∷ es

-- the bytes of the store stood for a log that is sound and has the given tables; the node goes on with it in the
-- generation above the promised one, which it promised and accepted; and the base is how many entries it had
pub record IsTakenUp (node cluster : ℕ) (bytes : List ℕ) (given : List TableDef) (base : ℕ) (log : Logged) : Type 0 where
  pub old_promise : ℕ
  pub old_accepted : ℕ
  pub old_entries : List Entry
  pub stood : StandsForGood node cluster bytes given old_promise old_accepted old_entries
  pub had : base ≡ length old_entries
  pub promised : log.promised ≡ old_promise + 1
  pub accepted : log.accepted ≡ old_promise + 1
  pub entries : GoesOn (old_promise + 1) given old_entries log.entries

-- The state that pages stand for.
--
-- Pages stand for one state at most. So a source of rows on pages means this one, and need not be told which it is.
use Rattle.std.specs.Prelude.{◌≡◌, ℕ, List, refl}
use Rattle.std.specs.Coded.{Coded, Coded-set, code_by, coded×, coded_ℕ, coded_list}
use mathlib.Core.HLevel.{Σ_prop_path}
use mathlib.Core.Logic.{∥∥₁_elim, ∥∥₁_prop}
use Rattle.page_store.specs.Image.{Image}
use Rattle.cdb_values.specs.Rows.{Rows}
use Rattle.cdb_values.specs.contracts.rows.Version as version
use Rattle.cdb_values.specs.declared.rows.Version.{Version}
use Rattle.cdb_values.specs.declared.tables.TableDef.{TableDef}
use Rattle.table_store.specs.Stored.{Stands}
use Rattle.page_rows.specs.OneState.{one_state}

-- the rows that pages stand for
abbrev pub Standing : (ℕ → Image) → List TableDef → Type 0
Standing pages tables = (rows : Rows) × ∥ Stands pages tables rows ∥₁

abbrev pub rows_code : Coded Rows
rows_code =
    code_by (List (List Version) × ℕ) (coded× (coded_list (coded_list (version.the_row).coded)) coded_ℕ)
    (λ rows. (rows.tables, rows.next)) (λ p. record { tables = p.0; next = p.1 }) (λ _. refl)

pub same_rows : (pages : ℕ → Image) (tables : List TableDef) (a b : Standing pages tables) → a.0 ≡ b.0
same_rows pages tables a b =
    ∥∥₁_elim a.1 (Coded-set rows_code a.0 b.0) (λ s. ∥∥₁_elim b.1 (Coded-set rows_code a.0 b.0) (λ t. one_state pages tables a.0 b.0 s t))

-- there is one at most
pub standing_prop : (pages : ℕ → Image) (tables : List TableDef) → IsProp (Standing pages tables)
standing_prop pages tables a b = Σ_prop_path (λ _. ∥∥₁_prop) (same_rows pages tables a b)

-- At which rows a run begins: the pages of its log stand for one state, so these are known as soon as there are such rows.
use Rattle.std.proofs.Common.{◌≡◌, ℕ, List, [], ◌∷◌, sym, ap, ◌∙◌}
use mathlib.Core.HLevel.{Σ_prop_path}
use mathlib.Core.HProp.{IsProp-prop}
use mathlib.Core.Logic.{∥∥₁_elim, ∥∥₁_prop}
use Rattle.std.specs.Coded.{Coded, Coded-set, coded_list, coded_ℕ}
use Rattle.cdb_values.specs.Rows.{Rows}
use Rattle.cdb_values.specs.contracts.rows.Version as version
use Rattle.cdb_values.specs.declared.rows.Version.{Version}
use Rattle.cdb_values.specs.declared.tables.TableDef.{TableDef}
use Rattle.log_rows.specs.History as history
use Rattle.node_log.specs.Logged.{Logged}
use Rattle.page_store.specs.Image.{Image}
use Rattle.phys_log.specs.Logs.{pages_of}
use Rattle.phys_log.specs.declared.entries.Entry.{Entry}
use Rattle.table_store.specs.Stored.{Stands}
use Rattle.script_main.specs.Known.{HasOneState, IsKnown}
use Rattle.script_main.specs.Steps.{log_before}
use Rattle.script_main.specs.Stores.{HasRows}

abbrev rows_code : Coded (List (List Version))
rows_code = coded_list (coded_list (version.the_row).coded)

-- some rows are the only ones for which the pages of a log stand
abbrev IsOnly : List Entry → Type 0
IsOnly before = (some other : Rows) → HasRows before some → HasRows before other → some ≡ other

-- the same where it is only said that there are proofs
same_rows : (before : List Entry) → IsOnly before → (rows others : Rows) → ∥ HasRows before rows ∥₁ → ∥ HasRows before others ∥₁ → rows ≡ others
same_rows before only rows others is has = λ j. record { tables = tables j; next = next j }
  where
    tables : rows.tables ≡ others.tables
    tables = ∥∥₁_elim is (Coded-set rows_code rows.tables others.tables) (λ a. ∥∥₁_elim has (Coded-set rows_code rows.tables others.tables)
        (λ b. ap (λ (r : Rows). r.tables) (only rows others a b)))

    next : rows.next ≡ others.next
    next = ∥∥₁_elim is (Coded-set coded_ℕ rows.next others.next) (λ a. ∥∥₁_elim has (Coded-set coded_ℕ rows.next others.next)
        (λ b. ap (λ (r : Rows). r.next) (only rows others a b)))

-- rows that a log has
abbrev Found : List Entry → Type 0
Found before = (rows : Rows) × ∥ HasRows before rows ∥₁

found_once : (before : List Entry) → IsOnly before → (a b : Found before) → a ≡ b
found_once before only a b =
    let same : a.0 ≡ b.0 = same_rows before only a.0 b.0 a.1 b.1 in
    Σ_prop_path (λ (rows : Rows). ∥∥₁_prop) same

-- the rows at which a run begins

found_as : (before : List Entry) → HasOneState before → Found before
found_as before k = (k.rows, ∣ k.has ∣₁)

found_by : (before : List Entry) → ∥ HasOneState before ∥₁ → Found before
found_by before known =
    ∥∥₁_elim known (∥∥₁_elim known IsProp-prop (λ (k : HasOneState before). found_once before k.one)) (λ (k : HasOneState before). found_as before k)

pub known_rows : (base : ℕ) (log : Logged) → IsKnown base log → Rows
known_rows base log known = (found_by (log_before base log) known).0

-- they are those that the log has
pub known_are : (base : ℕ) (log : Logged) (known : IsKnown base log) → IsOnly (log_before base log) → (rows : Rows) → HasRows (log_before base log) rows → rows ≡ known_rows base log known
unfolding known_rows
known_are base log known only rows has =
    let f : Found (log_before base log) = found_by (log_before base log) known in
    same_rows (log_before base log) only rows f.0 ∣ has ∣₁ f.1

-- the pages of a log stand for one state, by the law of pages
pub only_state : (before : List Entry) →
    ((pages : ℕ → Image) (tables : List TableDef) (rows others : Rows) → Stands pages tables rows → Stands pages tables others → rows ≡ others) → IsOnly before
only_state [] one some other is has = is ∙ sym has
only_state (e ∷ es) one some other is has = one (pages_of (e ∷ es)) (history.tables_of (e ∷ es)) some other is.stands has.stands

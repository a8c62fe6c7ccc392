-- What is known of the state that pages stand for.
use Rattle.std.proofs.Common.{◌≡◌, ℕ, List, Result, Ok, Err, sym, ap, subst}
use Rattle.std.specs.Result.{IfOk}
use Rattle.std.specs.Coded.{Coded, Coded-set, coded_list}
use mathlib.Core.Logic.{∥∥₁_elim}
use Rattle.page_store.specs.Image.{Image}
use Rattle.cdb_values.specs.Rows.{Rows}
use Rattle.cdb_values.specs.contracts.rows.Version as version
use Rattle.cdb_values.specs.declared.rows.Version.{Version}
use Rattle.cdb_values.specs.declared.tables.TableDef.{TableDef}
use Rattle.table_store.specs.Stored.{Stands}
use Rattle.page_rows.specs.Standing.{Standing, same_rows}

abbrev versions_code : Coded (List Version)
versions_code = coded_list (version.the_row).coded

abbrev tables_code : Coded (List (List Version))
tables_code = coded_list versions_code

-- what equals something of each state that the pages stand for
pub of_standing : (pages : ℕ → Image) (tables : List TableDef) (s : Standing pages tables) (found : List Version) (f : Rows → List Version)
    → ((rows : Rows) → Stands pages tables rows → found ≡ f rows) → found ≡ f s.0
of_standing pages tables s found f h = ∥∥₁_elim s.1 (Coded-set versions_code found (f s.0)) (λ t. h s.0 t)

pub standing_is : (pages : ℕ → Image) (tables : List TableDef) (s : Standing pages tables) (rows : Rows) → Stands pages tables rows → s.0 ≡ rows
standing_is pages tables s rows t = same_rows pages tables s (rows, ∣ t ∣₁)

-- the same pages stand for the same
pub standing_same : (p q : ℕ → Image) (tables : List TableDef) (s : Standing p tables) (t : Standing q tables) → p ≡ q → s.0.tables ≡ t.0.tables
standing_same p q tables s t e =
    ∥∥₁_elim t.1 (Coded-set tables_code s.0.tables t.0.tables) (λ u.
    ap (λ (rows : Rows). rows.tables) (standing_is p tables s t.0 (subst (λ (f : ℕ → Image). Stands f tables t.0) (sym e) u)))

-- what holds of an `Ok` by what held of it
pub if_ok_then : {T E : Type 0} (r : Result T E) (P Q : T → Type 0) → IfOk r P → ((x : T) → P x → Q x) → IfOk r Q
if_ok_then (Ok x) P Q h f = f x h
if_ok_then (Err e) P Q h f = tt

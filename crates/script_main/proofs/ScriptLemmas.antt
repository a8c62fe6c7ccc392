-- A script with the tables of a log: it is the same script where it has tables of its own, and can run where these are lawful.
use Rattle.std.proofs.Common.{◌≡◌, ◌≢◌, ◌≤◌, List, [], ◌∷◌, ◌++◌, length, map, Bool, true, false, ◌&&◌, Option, Some, None, refl, sym, subst, ap, inl, inr, arith}
use Rattle.std.proofs.Math.Logic.{∥∥₁_elim}
use Rattle.std.specs.Coded.{Coded-set, coded_bool}
use Rattle.cdb_values.specs.Tables.{add_fault}
use Rattle.cdb_values.specs.declared.schemas.AddFault.{AddFault}
use Rattle.cdb_values.specs.declared.tables.TableDef.{TableDef}
use Rattle.frame_code.specs.Spelled.{Grow}
use Rattle.log_rows.specs.History as history
use Rattle.node_log.specs.Logged.{AreSpelled}
use Rattle.node_opening.specs.Tables.{AreMatched}
use Rattle.node_opening.specs.Goods.{HasTables}
use Rattle.phys_log.specs.declared.entries.Entry.{Entry}
use Rattle.phys_log.specs.declared.entries.Entry.TheVariants as entry
use Rattle.script_form.specs.CanRun.{script_tables, AreTaken, CanRun}
use Rattle.script_form.specs.declared.scripts.Script.{Script}
use Rattle.script_form.specs.declared.scripts.TableLine.{TableLine}
use Rattle.script_main.specs.Stores.{tables_or, unsaid, with_tables}

-- tables that can be added one after the other are lawful ones, and the other way round

pub grown : (before tables : List TableDef) → AreTaken before tables → Grow before tables
grown before [] all = tt
grown before (t ∷ ts) all = (all.0, grown (before ++ t ∷ []) ts all.1)

taken : (before tables : List TableDef) → Grow before tables → AreTaken before tables
taken before [] all = tt
taken before (t ∷ ts) all = (all.0, taken (before ++ t ∷ []) ts all.1)

-- tables are lawful or not, so that it is enough that there is a proof of it

is_none : Option AddFault → Bool
is_none None = true
is_none (Some f) = false

are_taken : List TableDef → List TableDef → Bool
are_taken before [] = true
are_taken before (t ∷ ts) = is_none (add_fault before t) && are_taken (before ++ t ∷ []) ts

both : (a b : Bool) → a ≡ true → b ≡ true → (a && b) ≡ true
both true true x y = refl
both true false x y = y
both false b x y = x

first_of : (a b : Bool) → (a && b) ≡ true → a ≡ true
first_of true b e = refl
first_of false b e = e

second_of : (a b : Bool) → (a && b) ≡ true → b ≡ true
second_of true b e = e
second_of false b e = absurd cc

none_is : (o : Option AddFault) → is_none o ≡ true → o ≡ None
unfolding is_none
none_is None e = refl
none_is (Some f) e = absurd cc

are_taken_so : (before tables : List TableDef) → AreTaken before tables → are_taken before tables ≡ true
unfolding are_taken is_none
are_taken_so before [] all = refl
are_taken_so before (t ∷ ts) all =
    both (is_none (add_fault before t)) (are_taken (before ++ t ∷ []) ts) (ap is_none all.0) (are_taken_so (before ++ t ∷ []) ts all.1)

so_taken : (before tables : List TableDef) → are_taken before tables ≡ true → AreTaken before tables
unfolding are_taken
so_taken before [] e = tt
so_taken before (t ∷ ts) e = (
  none_is (add_fault before t) (first_of (is_none (add_fault before t)) (are_taken (before ++ t ∷ []) ts) e),
  so_taken (before ++ t ∷ []) ts (second_of (is_none (add_fault before t)) (are_taken (before ++ t ∷ []) ts) e),
)

-- the tables of a log whose entries have a spelling

spelled_taken : (es : List Entry) → AreSpelled es → AreTaken [] (history.tables_of es)
spelled_taken [] all = tt
spelled_taken (entry.Setup generation schema records ∷ es) all = taken [] schema all.0.parts.schema.grow
spelled_taken (entry.Commit generation id begin level changes records ∷ es) all = tt

pub log_taken : (es : List Entry) → ∥ AreSpelled es ∥₁ → AreTaken [] (history.tables_of es)
log_taken es spelled =
    so_taken [] (history.tables_of es)
    (∥∥₁_elim spelled (Coded-set coded_bool (are_taken [] (history.tables_of es)) true) (λ all. are_taken_so [] (history.tables_of es) (spelled_taken es all)))

-- the tables of lines

abbrev tables_in : List TableLine → List TableDef
tables_in lines = map (λ (t : TableLine). t.table) lines

said_back : (tables : List TableDef) → tables_in (map unsaid tables) ≡ tables
said_back [] = refl
said_back (t ∷ ts) = ap (λ (rest : List TableDef). t ∷ rest) (said_back ts)

matched_or : (lines : List TableLine) (logged : List TableDef) → AreMatched (tables_in lines) logged → tables_in (tables_or lines logged) ≡ logged
matched_or [] logged matched = said_back logged
matched_or (l ∷ ls) logged (inl none) = absurd cc
matched_or (l ∷ ls) logged (inr same) = same

-- the tables of a script and a log are those of the log, where it has entries
pub tables_with : (script : Script) (before : List Entry) → HasTables (script_tables script) before → 1 ≤ length before → script_tables (with_tables script before) ≡ history.tables_of before
tables_with script [] has some = absurd (omega arith)
tables_with script (e ∷ es) (inl none) some = absurd cc
tables_with script (e ∷ es) (inr matched) some = matched_or script.tables (history.tables_of (e ∷ es)) matched

-- a script with tables of its own takes none

own_or : (lines : List TableLine) (logged : List TableDef) → lines ≢ [] → tables_or lines logged ≡ lines
own_or [] logged some = absurd (some refl)
own_or (l ∷ ls) logged some = refl

pub own_tables : (script : Script) (before : List Entry) → script.tables ≢ [] → with_tables script before ≡ script
own_tables script [] some = refl
own_tables script (e ∷ es) some = ap (λ (lines : List TableLine). record script { tables = lines }) (own_or script.tables (history.tables_of (e ∷ es)) some)

-- and one without tables those of the log
pub log_tables : (script : Script) (before : List Entry) → script.tables ≡ [] → 1 ≤ length before → record script { tables = map unsaid (history.tables_of before) } ≡ with_tables script before
log_tables script [] none some = absurd (omega arith)
log_tables script (e ∷ es) none some =
    ap (λ (lines : List TableLine). record script { tables = tables_or lines (history.tables_of (e ∷ es)) }) (sym none)

-- a copy of a script whose tables are replaced
pub with_lines : (script copy : Script) (lines tables : List TableLine) → copy ≡ script → lines ≡ tables → record copy { tables = lines } ≡ record script { tables = tables }
with_lines script copy lines tables same is = λ j. record (same j) { tables = is j }

-- a script with the tables of a log can run

pub can_run_unsaid : (script : Script) (tables : List TableDef) → CanRun script → AreTaken [] tables → CanRun (record script { tables = map unsaid tables })
can_run_unsaid script tables can lawful = record {
  one_node = can.one_node;
  no_watches = can.no_watches;
  few_sessions = can.few_sessions;
  no_hasql = can.no_hasql;
  tables_lawful = subst (λ (ts : List TableDef). AreTaken [] ts) (sym (said_back tables)) lawful;
  said = can.said;
}

-- What runs: a script of one node without watches, of lawful tables, whose body is texts of declared sessions, of UTF-8. What
-- else the texts are is nothing to it: each of them is answered, if by an error.
use Rattle.std.specs.Prelude.{◌≡◌, ℕ, ◌≤◌, ◌∷◌, ◌++◌, [], List, length, map, true, false, None, ◌⊎◌}
use Rattle.std.specs.List.{AllByRecursion}
use Rattle.std.specs.Str.{is_utf8}
use Rattle.cdb_values.specs.Tables.{add_fault}
use Rattle.cdb_values.specs.declared.tables.TableDef.{TableDef}
use Rattle.script_form.specs.declared.scripts.Act.{Act}
use Rattle.script_form.specs.declared.scripts.Act.TheVariants as acts
use Rattle.script_form.specs.declared.scripts.Script.{Script}
use Rattle.script_form.specs.declared.scripts.SessionLine.{SessionLine}

-- a name that one of these sessions has
abbrev pub IsDeclared : List ℕ → List SessionLine → Type 0
IsDeclared name [] = ⊥
IsDeclared name (session ∷ sessions) = (session.name ≡ name) ⊎ IsDeclared name sessions

-- tables that a schema takes one after the other, behind those before
abbrev pub AreTaken : List TableDef → List TableDef → Type 0
AreTaken before [] = Unit {0}
AreTaken before (table ∷ tables) = (add_fault before table ≡ None) × AreTaken (before ++ table ∷ []) tables

-- a text of a declared session
abbrev pub IsDeclaredText : List SessionLine → Act → Type 0
IsDeclaredText sessions (acts.Say name text) = IsDeclared name sessions × (is_utf8 text ≡ true)
IsDeclaredText sessions (acts.Stop node) = ⊥
IsDeclaredText sessions (acts.Start node) = ⊥
IsDeclaredText sessions (acts.Arm name moment) = ⊥
IsDeclaredText sessions acts.Barrier = ⊥
IsDeclaredText sessions acts.Feed = ⊥

-- the tables of a script
abbrev pub script_tables : Script → List TableDef
script_tables script = map (λ t. t.table) script.tables

pub record CanRun (script : Script) : Type 0 where
  pub one_node : script.nodes ≡ 1
  pub no_watches : script.watches ≡ []
  pub few_sessions : length script.sessions ≤ 64
  pub no_hasql : AllByRecursion (λ s. (s.node ≡ 1) × (s.hasql ≡ false)) script.sessions
  pub tables_lawful : AreTaken [] (script_tables script)
  pub said : AllByRecursion (λ l. IsDeclaredText script.sessions l.act) script.body

-- What holds of every script, in its own words: names of sessions and of tables are distinct, watches
-- name tables, each line of the body names a declared session or a node, and lines rise.
use Rattle.std.specs.Prelude.{◌≡◌, ℕ, ◌≤◌, ◌<◌, ◌∷◌, ◌++◌, [], List, length, map, false}
use Rattle.std.specs.List.{AllByRecursion}
use Rattle.script_form.specs.CanRun.{IsDeclared, AreTaken, script_tables}
use Rattle.script_read.specs.Heads.{is_declared}
use Rattle.script_form.specs.declared.scripts.Act.{Act}
use Rattle.script_form.specs.declared.scripts.Act.TheVariants as acts
use Rattle.script_form.specs.declared.scripts.Script.{Script}
use Rattle.script_form.specs.declared.scripts.SessionLine.{SessionLine}

-- sessions none of which has the name of one before it
abbrev pub AreNew : List SessionLine → List SessionLine → Type 0
AreNew before [] = Unit {0}
AreNew before (session ∷ sessions) = (is_declared session.name before ≡ false) × AreNew (before ++ session ∷ []) sessions

-- the number of a node
abbrev pub IsNode : ℕ → ℕ → Type 0
IsNode nodes node = (1 ≤ node) × (node ≤ nodes)

-- a line that names only declared sessions, and nodes of the head
abbrev pub NamesDeclared : ℕ → List SessionLine → Act → Type 0
NamesDeclared nodes sessions (acts.Say name text) = IsDeclared name sessions
NamesDeclared nodes sessions (acts.Stop node) = IsNode nodes node
NamesDeclared nodes sessions (acts.Start node) = IsNode nodes node
NamesDeclared nodes sessions (acts.Arm name moment) = IsDeclared name sessions
NamesDeclared nodes sessions acts.Barrier = Unit {0}
NamesDeclared nodes sessions acts.Feed = Unit {0}

-- numbers that rise, all of them above one
abbrev pub Rise : ℕ → List ℕ → Type 0
Rise before [] = Unit {0}
Rise before (number ∷ numbers) = (before < number) × Rise number numbers

-- the lines of the sessions, of the tables and of the body
abbrev pub lines_in : Script → List ℕ
lines_in script = map (λ s. s.line) script.sessions ++ (map (λ t. t.line) script.tables ++ map (λ l. l.line) script.body)

pub record IsLawful (script : Script) : Type 0 where
  pub sessions : AreNew [] script.sessions
  pub at_nodes : AllByRecursion (λ s. IsNode script.nodes s.node) script.sessions
  pub tables : AreTaken [] (script_tables script)
  pub watches : AllByRecursion (λ place. place < length script.tables) script.watches
  pub body : AllByRecursion (λ l. NamesDeclared script.nodes script.sessions l.act) script.body
  pub rising : Rise 1 (lines_in script)

-- The setting of a script: what a run of it is judged by.
--
-- The operator is actor 0, the nodes come behind it, and behind them the sessions, in the order of the script. A
-- session is called as in the script. The others are called by so many zeros as their number, as no session is.
use Rattle.std.specs.Prelude.{ℕ, ◌≡◌, List, true, false, replicate, Option, Some, None, slice_get}
use Rattle.std.specs.List.{AllByRecursion}
use Rattle.byte_words.specs.Names.{begins_lower}
use Rattle.cdb_values.specs.declared.tables.TableDef.{TableDef}
use Rattle.cluster_events.specs.Settings.{Setting}
use Rattle.cluster_runs.specs.Written.{as_scripted}
use Rattle.history_report.specs.Told.{session_at}
use Rattle.script_form.specs.CanRun.{IsDeclared}
use Rattle.script_form.specs.declared.scripts.Act.{Act}
use Rattle.script_form.specs.declared.scripts.Act.TheVariants as act
use Rattle.script_form.specs.declared.scripts.Script.{Script}
use Rattle.script_form.specs.declared.scripts.SessionLine.{SessionLine}
use Rattle.session_language.specs.Language.{Language}

abbrev pub name_or : ℕ → Option SessionLine → List ℕ
name_or i None = replicate i 0
name_or i (Some session) = session.name

-- what an actor is called, of n nodes and these sessions
abbrev pub called : ℕ → List SessionLine → ℕ → List ℕ
called n sessions i = name_or i (session_at n sessions i)

abbrev pub unscripted : Language → Script → List TableDef → Setting
unscripted language script tables = record {
  nodes = script.nodes;
  language = language;
  script = script;
  tables = tables;
  names = called script.nodes script.sessions;
  phase = λ s told. 0;
  armed = λ s told line. false;
}

-- with the barriers before the lines of sessions, and the arms, as the script has them
abbrev pub setting_of : Language → Script → List TableDef → Setting
setting_of language script tables = as_scripted (unscripted language script tables)

-- a line is of a session of the script
abbrev pub IsOfSession : List SessionLine → Act → Type 0
IsOfSession sessions (act.Say session text) = IsDeclared session sessions
IsOfSession sessions _ = Unit {0}

-- sessions have names of their own, which begin as names do, and the texts of a script are theirs
pub record HasSessions (script : Script) : Type 0 where
  pub apart : (i j : ℕ) (a b : SessionLine) → slice_get script.sessions i ≡ Some a → slice_get script.sessions j ≡ Some b → a.name ≡ b.name → i ≡ j
  pub named : AllByRecursion (λ s. begins_lower s.name ≡ true) script.sessions
  pub said : AllByRecursion (λ l. IsOfSession script.sessions l.act) script.body

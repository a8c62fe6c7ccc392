-- A session stands where a run of the statements so far does, over the same tables and versions: it has told the same
-- replies, and has the same operations, versions used and intervals used.
use Rattle.std.specs.Prelude.{◌≡◌, ℕ, [], List, map}
use Rattle.cdb_values.specs.declared.rows.Version.{Version}
use Rattle.cdb_values.specs.declared.tables.TableDef.{TableDef}
use Rattle.plan_run.specs.PlanWalks.{intervals_in}
use Rattle.query_laws.specs.Alone.{run_answered, sql_language}
use Rattle.query_laws.specs.Runs.{run_from}
use Rattle.session_language.specs.Language.{alone_from}
use Rattle.cdb_values.specs.declared.replies.Reply.{Reply}
use Rattle.sql_answer.specs.Answers.{Meaning}
use Rattle.sql_answer.specs.Language.{meaning, sql_binder}
use Rattle.osql_session.specs.Sessions.{Session}

-- after these statements it told these lines
pub record IsAfter (tables : List TableDef) (versions : List (List Version)) (statements : List Meaning) (told : List Reply) (s : Session) : Type 0 where
  pub replies : told ≡ (run_answered (run_from tables versions [] statements)).replies
  pub ops : s.ops ≡ (run_from tables versions [] statements).ops
  pub genids : s.genids ≡ (run_answered (run_from tables versions [] statements)).uses
  pub ranges : intervals_in s.ranges ≡ (run_from tables versions [] statements).ranges

-- what texts mean
abbrev pub meanings_of : List TableDef → List (List ℕ) → List Meaning
meanings_of tables texts = map (meaning sql_binder tables) texts

-- the same of a transaction of these texts that runs alone
pub record IsAlone (tables : List TableDef) (versions : List (List Version)) (texts : List (List ℕ)) (told : List Reply) (s : Session) : Type 0 where
  pub replies : told ≡ (alone_from sql_language tables versions [] texts).replies
  pub ops : s.ops ≡ (alone_from sql_language tables versions [] texts).ops
  pub genids : s.genids ≡ (alone_from sql_language tables versions [] texts).uses
  pub ranges : s.ranges ≡ (alone_from sql_language tables versions [] texts).ranges

-- The language of SQL is answered by what it reads, and its operations name the rows of their targets rightly.
use Rattle.std.proofs.Common.{ℕ, List, [], sym, subst, map}
use Rattle.std.specs.List.{AllByRecursion}
use Rattle.cdb_values.specs.Rows.{Rows}
use Rattle.cdb_values.specs.declared.tables.TableDef.{TableDef}
use Rattle.session_language.specs.Language.{Answered, alone}
use Rattle.session_language.specs.Serial.{IsTrueOp, IsSound, IsByReads}
use Rattle.sql_answer.specs.Language.{Binder, meaning, language_of}
use Rattle.query_laws.specs.Alone.{reads_of}
use Rattle.query_laws.proofs.AloneLemmas.{alone_is_run}
use Rattle.query_laws.proofs.ReadsLaws.{sql_same, sql_fails}
use Rattle.serial_laws.proofs.ChangedLemmas.{run_true}
use Rattle.serial_laws.proofs.SqlLemmas.{sql_tells_true}

sql_tells : (bind : Binder) (tables : List TableDef) (rows : Rows) (texts : List (List ℕ)) → IsSound rows → AllByRecursion (IsTrueOp rows) (alone (language_of bind reads_of) tables rows texts).ops
sql_tells bind tables rows texts sound =
    subst (λ (a : Answered). AllByRecursion (IsTrueOp rows) a.ops) (sym (alone_is_run bind tables rows.tables [] texts))
    (run_true tables (sql_tells_true tables) rows [] (map (meaning bind tables) texts) sound tt)

pub sql_reads : (bind : Binder) (tables : List TableDef) → IsByReads (language_of bind reads_of) tables
sql_reads bind tables = record {
  same = λ rows others texts all. sql_same bind tables rows others texts all;
  tells = sql_tells bind tables;
  fails = sql_fails bind tables;
}

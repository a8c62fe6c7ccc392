use Rattle.log_rows.proofs.HistoryLemmas.{schema_front, tables_front, takes_more}
use Rattle.log_rows.proofs.laws.logs_keep_their_schema.Goals as goal

pub returns-clause-schema : goal.returns-clause-schema
returns-clause-schema c = schema_front

pub returns-clause-tables : goal.returns-clause-tables
returns-clause-tables c = tables_front

pub returns-clause-takes : goal.returns-clause-takes
returns-clause-takes c = takes_more

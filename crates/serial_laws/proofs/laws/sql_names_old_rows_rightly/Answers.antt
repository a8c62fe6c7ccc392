use Rattle.serial_laws.proofs.SqlLemmas.{sql_tells_true}
use Rattle.serial_laws.proofs.laws.sql_names_old_rows_rightly.Goals as goal

pub returns : goal.returns
returns c = sql_tells_true

use Rattle.serial_laws.proofs.ChangedLemmas.{fair_is_serial}
use Rattle.serial_laws.proofs.SerialLemmas.{right_is_serial}
use Rattle.serial_laws.proofs.SqlLemmas.{sql_tells_true}
use Rattle.serial_laws.proofs.laws.fair_histories_are_serial.Goals as goal

pub returns : goal.returns
returns c = record {
  fair = λ tables origin es. fair_is_serial tables origin es (sql_tells_true tables);
  right = right_is_serial;
}

use Rattle.table_read.proofs.TableLaws.{lawful}
use Rattle.table_read.proofs.laws.tables_are_lawful.Goals as goal

pub returns : goal.returns
returns c = lawful

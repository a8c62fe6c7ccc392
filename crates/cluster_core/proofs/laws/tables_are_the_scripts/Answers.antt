use Rattle.cluster_core.proofs.SchemaLaws.{scripts_tables}
use Rattle.cluster_core.proofs.laws.tables_are_the_scripts.Goals as goal

pub returns : goal.returns
returns c = λ G h m k a l legal ha dur is hc low. scripts_tables G h legal m k a l ha dur is hc low

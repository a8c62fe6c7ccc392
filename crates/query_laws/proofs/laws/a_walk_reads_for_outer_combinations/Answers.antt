use Rattle.query_laws.specs.Conjuncts.{conjuncts}
use Rattle.query_laws.proofs.OuterLemmas.{walk_reads}
use Rattle.query_laws.proofs.laws.a_walk_reads_for_outer_combinations.Goals as goal

pub returns : goal.returns
returns c = λ tables view places condition. walk_reads tables (conjuncts condition) view places

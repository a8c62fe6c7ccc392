use Rattle.std.proofs.Common.{[], ◌∷◌}
use Rattle.query_laws.specs.Conjuncts.{conjuncts}
use Rattle.query_laws.proofs.StableLemmas.{met_same, ranges_same}
use Rattle.query_laws.proofs.laws.a_walk_depends_on_what_it_reads.Goals as goal

pub returns : goal.returns
returns c = record { met = met_same; read = λ tables view other places condition. ranges_same tables (conjuncts condition) view other places ([] ∷ []) }

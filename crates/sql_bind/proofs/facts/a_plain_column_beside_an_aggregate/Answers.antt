use Rattle.std.proofs.Common.{refl}
use Rattle.sql_bind.specs.Binding.{binding}
use Rattle.sql_bind.specs.Meaning.{bound_as}
use Rattle.sql_bind.proofs.facts.a_plain_column_beside_an_aggregate.Goals as goal

pub returns : goal.returns
unfolding binding bound_as
returns c = refl

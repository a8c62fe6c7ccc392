use Rattle.std.proofs.Common.{refl}
use Rattle.sql_bind.specs.Binding.{binding}
use Rattle.sql_bind.specs.Meaning.{bound_as}
use Rattle.sql_bind.proofs.facts.a_sum_of_nulls_is_an_integer.Goals as goal

pub returns : goal.returns
unfolding binding bound_as
returns c = refl

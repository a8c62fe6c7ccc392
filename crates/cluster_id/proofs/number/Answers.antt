use Rattle.std.proofs.Common.{ap, ◌∙◌}
use Rattle.std.specs.Int.{w128, from_be_bytes}
use Rattle.cluster_id.specs.Named.{number_of}
use Rattle.cluster_id.proofs.number.Goals as goal

pub returns : goal.returns
unfolding number_of
returns c = c.as_u128.ensures ∙ ap (from_be_bytes w128) c.new_v5.ensures.value

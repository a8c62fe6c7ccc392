use Rattle.std.proofs.Common.{arith}
use Rattle.core_lists.proofs.Majorities.{shared}
use Rattle.core_lists.proofs.majorities_share_a_node.Goals as goal

pub returns : goal.returns
returns c = λ n p q a b. shared n p q (omega arith)

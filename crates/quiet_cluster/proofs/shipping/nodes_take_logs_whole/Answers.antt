use mathlib.Core.Logic.{inl, inr}
use Rattle.quiet_cluster.proofs.Acting.{confirmed}
use Rattle.quiet_cluster.proofs.Taking.{taken, taken_ship}
use Rattle.quiet_cluster.proofs.shipping.nodes_take_logs_whole.Goals as goal

pub returns-clause-advances : goal.returns-clause-advances
returns-clause-advances c = λ f g l v u t. elim t [ inl x ↦ taken f g l x | inr x ↦ taken_ship f g l x ]

pub returns-clause-confirms : goal.returns-clause-confirms
returns-clause-confirms c = confirmed

use Rattle.std.specs.Prelude.{ℕ, ◌≡◌, ◌++◌, false, List}
use mathlib.Core.Logic.{◌⊎◌, inl, inr}
use Rattle.election_core.specs.declared.votes.NodeVote.{NodeVote}
use Rattle.quiet_cluster.specs.Led.{LedAlone}
use Rattle.quiet_cluster.specs.Packets.{Packet}
use Rattle.quiet_cluster.specs.Polled.{Polled}
use Rattle.quiet_cluster.proofs.Orders.{polled_same}
use Rattle.quiet_cluster.proofs.Runs.{few_voted}
use Rattle.quiet_cluster.proofs.Starts.{stands}
use Rattle.quiet_cluster.proofs.Winning.{After, polled_step}
use Rattle.quiet_cluster.proofs.elections.the_best_is_elected.Goals as goal

told : (n : ℕ) (to : ℕ → NodeVote) (q : List Packet) (c g a l : ℕ) → After n to q c g a l → Polled n to q c g a l ⊎ LedAlone n to q c g l ⊎ ((to c).up ≡ false)
told n to q c g a l (After.stands x) = inl x
told n to q c g a l (After.leads x) = inr (inl x)
told n to q c g a l (After.fell x) = inr (inr x)

pub returns-clause-begins : goal.returns-clause-begins
returns-clause-begins c = stands

pub returns-clause-elects : goal.returns-clause-elects
returns-clause-elects x = λ n at to p ps s c g a l old d. told n to (ps ++ s) c g a l (polled_step n at to p ps s c g a l old d)

pub returns-clause-votes_end : goal.returns-clause-votes_end
returns-clause-votes_end c = few_voted

pub returns-clause-reorders : goal.returns-clause-reorders
returns-clause-reorders x = λ n at q r c g a l old same. polled_same n at q r c g a l same old

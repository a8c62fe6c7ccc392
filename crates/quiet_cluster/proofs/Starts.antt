-- What is under way where a node stands, and where a leader appended, as its numbers tell it.
use Rattle.std.proofs.Common.{ℕ, ◌≡◌, ◌+◌, [], ◌∷◌, ◌++◌, sym, subst}
use Rattle.election_core.specs.Counted.{acted}
use Rattle.election_core.specs.declared.votes.NodeVote.{NodeVote}
use Rattle.election_core.specs.declared.messages.Message.TheVariants.{Vote, Granted, Ship, Ack}
use Rattle.election_core.specs.declared.messages.Action.TheVariants as action
use Rattle.quiet_cluster.specs.Deliveries.{OnlyAt}
use Rattle.quiet_cluster.specs.Led.{Led}
use Rattle.quiet_cluster.specs.Packets.{packet, others, standing_packets, appending_packets}
use Rattle.quiet_cluster.specs.Polled.{Polled, Best}
use Rattle.quiet_cluster.proofs.Ends.{led_append}
use Rattle.quiet_cluster.proofs.Runs.{polled}

-- it asks the others, and has its own vote
pub stands : (n : ℕ) (at to : ℕ → NodeVote) (c g : ℕ) → Best n at c g → OnlyAt c at to → to c ≡ acted (at c) (action.Promise g c) → Polled n to (standing_packets (to c) g) c g (at c).accepted (at c).length
stands n at to c g b same me =
    subst (λ u. Polled n to (standing_packets u g) c g (at c).accepted (at c).length) (sym me)
    (subst (λ j. Polled n to (others j (at c).node (Vote (at c).node g (at c).accepted (at c).length) 0 ++ packet (at c).node (Granted (at c).node g (at c).node) 0 ∷ []) c g (at c).accepted (at c).length) (sym b.nodes)
    (subst (λ i. Polled n to (others n i (Vote i g (at c).accepted (at c).length) 0 ++ packet i (Granted i g i) 0 ∷ []) c g (at c).accepted (at c).length) (sym (b.named c b.up).2) (polled n at to c g b same me)))

-- it ships the entry to the others, and acknowledges its own log
pub appends : (n : ℕ) (at to : ℕ → NodeVote) (m g l : ℕ) → OnlyAt m at to → to m ≡ record (at m) { length = l + 1 } → Led n at [] m g l → Led n to (appending_packets (to m) 1) m g (l + 1)
appends n at to m g l same me old =
    let a = old.leads in
    subst (λ u. Led n to (appending_packets u 1) m g (l + 1)) (sym me)
    (subst (λ j. Led n to (others j (at m).node (Ship (at m).node (at m).accepted (l + 1)) 1 ++ packet (at m).node (Ack (at m).node (at m).accepted (l + 1)) 0 ∷ []) m g (l + 1)) (sym a.nodes)
    (subst (λ i. Led n to (others n i (Ship i (at m).accepted (l + 1)) 1 ++ packet i (Ack i (at m).accepted (l + 1)) 0 ∷ []) m g (l + 1)) (sym a.node)
    (subst (λ h. Led n to (others n m (Ship m h (l + 1)) 1 ++ packet m (Ack m h (l + 1)) 0 ∷ []) m g (l + 1)) (sym a.accepted) (led_append n at to m g l same me old))))

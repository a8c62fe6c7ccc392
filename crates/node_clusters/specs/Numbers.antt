-- Packets by numbers: to whom they go, their message, and with how many entries.
use Rattle.std.specs.declared.alloc.Global.{Global}
use Rattle.std.specs.Prelude.{Vec, Option, None, Some, List, [], ◌∷◌, length}
use Rattle.node_state.specs.Packets.{SentPacket}
use Rattle.node_state.specs.declared.steps.Step.{Step}
use Rattle.node_state.specs.declared.steps.Step.TheVariants as step
use Rattle.quiet_cluster.specs.Packets.{Packet, packet}

abbrev pub by_numbers : SentPacket → Packet
by_numbers p = packet p.to p.message (length p.entries)

abbrev pub numbers : List SentPacket → List Packet
numbers [] = []
numbers (p ∷ ps) = by_numbers p ∷ numbers ps

-- what a call sends
abbrev pub sent_in : Step (Vec SentPacket Global) → List SentPacket
sent_in (step.Sent ps) = ps.items
sent_in step.Down = []
sent_in step.Fault = []

-- what it sends, where it is up in the end
abbrev pub sent_if : Step (Vec SentPacket Global) → Option (Vec SentPacket Global)
sent_if (step.Sent ps) = Some ps
sent_if step.Down = None
sent_if step.Fault = None

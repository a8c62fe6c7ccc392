use Rattle.std.proofs.Common.{subst}
use Rattle.node_state.specs.Packets.{IsPacket, SentPacket}
use Rattle.node_state.proofs.packets.Packet.open.Goals as goal

pub returns-clause-told : goal.returns-clause-told
returns-clause-told g c = subst (λ (p : SentPacket). IsPacket g.J.Plan.setting p.message p.entries c.self.inside.note) c.self.view_is c.self.invariant

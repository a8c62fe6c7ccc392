-- What packets weigh: a message more than all that up to seven nodes send about it. So each delivery makes a queue lighter, and
-- it is empty in the end.
use Rattle.std.specs.Prelude.{ℕ, ◌+◌, List, [], ◌∷◌}
use Rattle.election_core.specs.declared.messages.Message.{Message}
use Rattle.election_core.specs.declared.messages.Message.TheVariants.{Vote, Granted, Adopt, Ship, Ack, Durable, Ping, Pong}
use Rattle.quiet_cluster.specs.Packets.{Packet}

abbrev pub weight : Message → ℕ
weight (Vote f g a l) = 32768
weight (Granted f g t) = 4096
weight (Adopt f g l) = 512
weight (Ship f g l) = 512
weight (Ack f g l) = 64
weight (Durable f g l) = 8
weight (Ping f g t d) = 8
weight (Pong f g t) = 1

abbrev pub load : List Packet → ℕ
load [] = 0
load (p ∷ ps) = weight p.message + load ps

-- Who sent a message.
use Rattle.std.specs.Prelude.{ℕ}
use Rattle.election_core.specs.declared.messages.Message.{Message}
use Rattle.election_core.specs.declared.messages.Message.TheVariants.{Vote, Granted, Adopt, Ship, Ack, Durable, Ping, Pong}

abbrev pub sender_of : Message → ℕ
sender_of (Vote from generation accepted length) = from
sender_of (Granted from generation to) = from
sender_of (Adopt from generation length) = from
sender_of (Ship from generation length) = from
sender_of (Ack from generation length) = from
sender_of (Durable from generation length) = from
sender_of (Ping from generation ask durable) = from
sender_of (Pong from generation ask) = from

-- What was told stays told: one cluster tells all that another does.
--
-- Events only add to what nodes told, the operator admitted and clients asked. So a cluster after more events tells more.
use Rattle.std.specs.Prelude.{ℕ}
use Rattle.core_lists.specs.Lists.{In}
use Rattle.cluster_consensus.specs.Facts.{Own, World, Claim, Vote, Grant, Ping, Pong, Admit}

pub record OwnTold {E : Type 0} (o p : Own E) : Type 0 where
  pub votes : (x : Vote E) → In x o.votes → In x p.votes
  pub grants : (x : Grant E) → In x o.grants → In x p.grants
  pub ships : (x : Claim E) → In x o.ships → In x p.ships
  pub acks : (x : Claim E) → In x o.acks → In x p.acks
  pub durables : (x : Claim E) → In x o.durables → In x p.durables
  pub pings : (x : Ping) → In x o.pings → In x p.pings
  pub pongs : (x : Pong) → In x o.pongs → In x p.pongs

pub record TellsMore {E : Type 0} (w u : World E) : Type 0 where
  pub nodes : (k : ℕ) → OwnTold (w.nodes k) (u.nodes k)
  pub admits : (x : Admit) → In x w.admits → In x u.admits
  pub asks : (x : ℕ) → In x w.asks → In x u.asks

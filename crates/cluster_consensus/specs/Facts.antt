-- Nodes: their parts, and the facts that they told.
use Rattle.std.specs.Prelude.{ℕ, Bool, false, List, []}

-- a log in a generation: an acceptance, a leadership with its adopted log, a shipped log, a durable log
pub record Claim (E : Type 0) : Type 0 where
  pub gen : ℕ
  pub log : List E

pub record Vote (E : Type 0) : Type 0 where
  pub gen : ℕ
  pub accepted : ℕ
  pub log : List E

-- accepted and log are the granter's own when it granted
pub record Grant (E : Type 0) : Type 0 where
  pub gen : ℕ
  pub to : ℕ
  pub accepted : ℕ
  pub log : List E

-- a begin's round: the master's durable number, and the answer of one that hasn't promised above
pub record Ping : Type 0 where
  pub ask : ℕ
  pub gen : ℕ
  pub durable : ℕ

pub record Pong : Type 0 where
  pub ask : ℕ
  pub gen : ℕ

-- a node's part, and the facts that it told. accepts is ghost: its acceptances by events, told or not
pub record Own (E : Type 0) : Type 0 where
  pub promised : ℕ
  pub accepted : ℕ
  pub log : List E
  pub durable : ℕ
  pub leading : Bool
  pub adopted : ℕ
  pub up : Bool
  pub was_up : Bool
  pub store_promised : ℕ
  pub store_accepted : ℕ
  pub votes : List (Vote E)
  pub grants : List (Grant E)
  pub leads : List (Claim E)
  pub accepts : List (Claim E)
  pub ships : List (Claim E)
  pub acks : List (Claim E)
  pub durables : List (Claim E)
  pub pings : List Ping
  pub pongs : List Pong

pub record Admit : Type 0 where
  pub node : ℕ
  pub promised : ℕ
  pub accepted : ℕ

pub record World (E : Type 0) : Type 0 where
  pub nodes : ℕ → Own E
  pub admits : List Admit
  pub asks : List ℕ

abbrev pub blank : {E : Type 0} → Own E
blank = record {
  promised = 0;
  accepted = 0;
  log = [];
  durable = 0;
  leading = false;
  adopted = 0;
  up = false;
  was_up = false;
  store_promised = 0;
  store_accepted = 0;
  votes = [];
  grants = [];
  leads = [];
  accepts = [];
  ships = [];
  acks = [];
  durables = [];
  pings = [];
  pongs = [];
}

-- The events of a cluster, and what each changes in its actor.
use Rattle.std.specs.Prelude.{ℕ, ◌+◌, true, false, List, [], ◌∷◌, ◌++◌, length, take}
use Rattle.cluster_consensus.specs.Facts.{Own}

pub data NodeEvent (E : Type 0) : Type 0 where
  Admits : ℕ → ℕ → ℕ → NodeEvent E
  Boot : ℕ → ℕ → List E → NodeEvent E
  Down : NodeEvent E
  Back : ℕ → NodeEvent E
  BackLead : NodeEvent E
  BackTake : ℕ → List E → NodeEvent E
  BackGrow : List E → NodeEvent E
  BackAppend : E → NodeEvent E
  Stand : ℕ → NodeEvent E
  Grants : ℕ → ℕ → NodeEvent E
  Lead : NodeEvent E
  Take : ℕ → List E → NodeEvent E
  Grow : List E → NodeEvent E
  Append : E → NodeEvent E
  LearnLead : ℕ → NodeEvent E
  LearnFollow : ℕ → NodeEvent E
  Asks : ℕ → NodeEvent E
  Probe : ℕ → NodeEvent E
  Confirm : ℕ → ℕ → NodeEvent E

-- the part takes this log in this generation
abbrev pub took : {E : Type 0} → Own E → ℕ → List E → Own E
took o g l = record o { promised = g; accepted = g; log = l; accepts = record { gen = g; log = l } ∷ o.accepts }

abbrev pub led : {E : Type 0} → Own E → Own E
led o = record o { accepted = o.promised; leads = record { gen = o.promised; log = o.log } ∷ o.leads; accepts = record { gen = o.promised; log = o.log } ∷ o.accepts }

abbrev pub woken : {E : Type 0} → Own E → Own E
woken o = record o { durable = 0; leading = false; up = true }

-- what an event changes in its actor's part
abbrev pub change : {E : Type 0} → ℕ → Own E → NodeEvent E → Own E
change i o (Admits k p a) = o
change i o (Boot p a l) = record o { promised = p; accepted = a; log = l; durable = 0; leading = false; up = true; was_up = true; store_promised = p; store_accepted = a }
change i o Down = record o { up = false }
change i o (Back p) = record o { promised = p; durable = 0; leading = false; up = true }
change i o BackLead = woken (led o)
change i o (BackTake g l) = woken (took o g l)
change i o (BackGrow l) = woken (took o o.accepted l)
change i o (BackAppend e) = woken (took o o.accepted (o.log ++ e ∷ []))
change i o (Stand g) = record o { promised = g; leading = false; votes = record { gen = g; accepted = o.accepted; log = o.log } ∷ o.votes; grants = record { gen = g; to = i; accepted = o.accepted; log = o.log } ∷ o.grants }
change i o (Grants g to) = record o { promised = g; leading = false; grants = record { gen = g; to = to; accepted = o.accepted; log = o.log } ∷ o.grants }
change i o Lead = record (led o) { leading = true; adopted = length o.log; ships = record { gen = o.promised; log = o.log } ∷ o.ships; acks = record { gen = o.promised; log = o.log } ∷ o.acks }
change i o (Take g l) = record (took o g l) { leading = false; acks = record { gen = g; log = l } ∷ o.acks }
change i o (Grow l) = record (took o o.accepted l) { acks = record { gen = o.accepted; log = l } ∷ o.acks }
change i o (Append e) = record (took o o.accepted (o.log ++ e ∷ [])) { ships = record { gen = o.accepted; log = o.log ++ e ∷ [] } ∷ o.ships; acks = record { gen = o.accepted; log = o.log ++ e ∷ [] } ∷ o.acks }
change i o (LearnLead n) = record o { durable = n; durables = record { gen = o.accepted; log = take n o.log } ∷ o.durables }
change i o (LearnFollow n) = record o { durable = n }
change i o (Asks t) = o
change i o (Probe t) = record o { pings = record { ask = t; gen = o.accepted; durable = o.durable } ∷ o.pings }
change i o (Confirm t g) = record o { pongs = record { ask = t; gen = g } ∷ o.pongs }

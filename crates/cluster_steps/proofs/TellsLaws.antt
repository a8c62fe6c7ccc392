-- An event tells more, and takes nothing back.
use Rattle.std.proofs.Common.{ℕ, ◌≡◌, List, [], ◌∷◌, ◌++◌, refl, subst}
use Rattle.std.specs.Prelude.{Bool, true, false}
use Rattle.core_lists.specs.Lists.{In, Has}
use Rattle.core_lists.specs.Lists.In.{there}
use Rattle.cluster_consensus.specs.Facts.{Own, World}
use Rattle.cluster_consensus.specs.Events.{NodeEvent, change}
use Rattle.cluster_consensus.specs.Events.NodeEvent.{Lead, Take, Grow, Append, Stand, Grants, LearnLead, Asks, Probe, Confirm, Down}
use Rattle.cluster_consensus.specs.Histories.{happens, asked}
use Rattle.cluster_consensus.proofs.Kept.{at_node, admits_row}
use Rattle.cluster_events.specs.Parts.{ActorEvent, add_act, acts, field}
use Rattle.cluster_requests.specs.KeptEntries.{KeptEntry}
use Rattle.cluster_requests.specs.Requests.{field_after}
use Rattle.cluster_steps.specs.Named.{named, steps, world}
use Rattle.cluster_events.specs.Settings.{Setting}
use Rattle.cluster_steps.specs.declared.events.Event.{Event}
use Rattle.election_core.specs.More.{OwnTold, TellsMore}

pub own_same : {E : Type 0} (o : Own E) → OwnTold o o
own_same o = record { votes = λ x h. h; grants = λ x h. h; ships = λ x h. h; acks = λ x h. h; durables = λ x h. h; pings = λ x h. h; pongs = λ x h. h }

own_row : {E : Type 0} (i : ℕ) (o : Own E) (e : NodeEvent E) → OwnTold o (change i o e)
own_row i o (Stand g) = record { votes = λ x h. there h; grants = λ x h. there h; ships = λ x h. h; acks = λ x h. h; durables = λ x h. h; pings = λ x h. h; pongs = λ x h. h }
own_row i o (Grants g to) = record { votes = λ x h. h; grants = λ x h. there h; ships = λ x h. h; acks = λ x h. h; durables = λ x h. h; pings = λ x h. h; pongs = λ x h. h }
own_row i o Lead = record { votes = λ x h. h; grants = λ x h. h; ships = λ x h. there h; acks = λ x h. there h; durables = λ x h. h; pings = λ x h. h; pongs = λ x h. h }
own_row i o (Take g l) = record { votes = λ x h. h; grants = λ x h. h; ships = λ x h. h; acks = λ x h. there h; durables = λ x h. h; pings = λ x h. h; pongs = λ x h. h }
own_row i o (Grow l) = record { votes = λ x h. h; grants = λ x h. h; ships = λ x h. h; acks = λ x h. there h; durables = λ x h. h; pings = λ x h. h; pongs = λ x h. h }
own_row i o (Append e) = record { votes = λ x h. h; grants = λ x h. h; ships = λ x h. there h; acks = λ x h. there h; durables = λ x h. h; pings = λ x h. h; pongs = λ x h. h }
own_row i o (LearnLead l) = record { votes = λ x h. h; grants = λ x h. h; ships = λ x h. h; acks = λ x h. h; durables = λ x h. there h; pings = λ x h. h; pongs = λ x h. h }
own_row i o (Probe t) = record { votes = λ x h. h; grants = λ x h. h; ships = λ x h. h; acks = λ x h. h; durables = λ x h. h; pings = λ x h. there h; pongs = λ x h. h }
own_row i o (Confirm t g) = record { votes = λ x h. h; grants = λ x h. h; ships = λ x h. h; acks = λ x h. h; durables = λ x h. h; pings = λ x h. h; pongs = λ x h. there h }
own_row i o _ = record { votes = λ x h. h; grants = λ x h. h; ships = λ x h. h; acks = λ x h. h; durables = λ x h. h; pings = λ x h. h; pongs = λ x h. h }

asks_row : {E : Type 0} (w : World E) (e : NodeEvent E) (x : ℕ) → In x w.asks → In x (asked w e)
asks_row w (Asks t) x h = there h
asks_row w _ x h = h

pub tells_same : {E : Type 0} (w : World E) → TellsMore w w
tells_same w = record { nodes = λ k. own_same (w.nodes k); admits = λ x h. h; asks = λ x h. h }

own_more : {E : Type 0} {o p q : Own E} → OwnTold o p → OwnTold p q → OwnTold o q
own_more a b = record {
  votes = λ x h. b.votes x (a.votes x h);
  grants = λ x h. b.grants x (a.grants x h);
  ships = λ x h. b.ships x (a.ships x h);
  acks = λ x h. b.acks x (a.acks x h);
  durables = λ x h. b.durables x (a.durables x h);
  pings = λ x h. b.pings x (a.pings x h);
  pongs = λ x h. b.pongs x (a.pongs x h);
}

pub tells_on : {E : Type 0} {w v u : World E} → TellsMore w v → TellsMore v u → TellsMore w u
tells_on a b = record { nodes = λ k. own_more (a.nodes k) (b.nodes k); admits = λ x h. b.admits x (a.admits x h); asks = λ x h. b.asks x (a.asks x h) }

pub tells_row : {E : Type 0} (w : World E) (i : ℕ) (e : NodeEvent E) → TellsMore w (happens w i e)
tells_row w i e = record { nodes = λ k. at_node w i e (λ j o. OwnTold (w.nodes j) o) k (own_row i (w.nodes i) e) (own_same (w.nodes k)); admits = admits_row w e; asks = asks_row w e }

-- an event of whole histories
pub tells_step : (g : List (ℕ × ActorEvent)) (i : ℕ) (e : ActorEvent) → TellsMore (field g).core (field_after (add_act i e (acts g))).core
tells_step g i (ActorEvent.Node e) = tells_row (field g).core i e
tells_step g i ActorEvent.Stop = tells_row (field g).core i Down
tells_step g i (ActorEvent.Ask t) = tells_row (field g).core i (Asks t)
tells_step g i _ = tells_same (field g).core

-- all events behind a history tell more
pub tells : (G : Setting) (later h : List (ℕ × Event)) → TellsMore (world G h) (world G (later ++ h))
tells G [] h = tells_same (world G h)
tells G (x ∷ later) h = tells_on (tells G later h) (tells_step (steps G (later ++ h)) x.0 (named G (steps G (later ++ h)) x.0 x.1))

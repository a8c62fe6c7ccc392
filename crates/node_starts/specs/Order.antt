-- What was done at the start of all, in its order.
--
-- Each actor's steps are told apart, in a function of its number: the operator is 0, the nodes come behind it, and others behind these.
-- Who has a turn knows all that was done before, so its steps come behind that.
use Rattle.std.specs.Prelude.{ℕ, zero, suc, ◌≡◌, ◌<◌, ◌==◌, List, [], ◌∷◌, length, if◌then◌else◌}
use Rattle.actor_trace.specs.Actors.{Knows}
use Rattle.cluster_steps.specs.declared.events.Event.{Event}
use Rattle.node_state.specs.Stores.{Stored}
use Rattle.trace_order.specs.Done.{Done}
use Rattle.trace_order.specs.Turns.{IsSoFar}

-- what the nodes did, and the others behind them
abbrev pub made_by : List Stored → (ℕ → List (ℕ × Event)) → ℕ → List (ℕ × Event)
made_by [] others k = others k
made_by (n ∷ ns) others zero = n.actor.made
made_by (n ∷ ns) others (suc k) = made_by ns (λ j. others (suc j)) k

-- what all did
abbrev pub all_made : Knows Event → List Stored → (ℕ → List (ℕ × Event)) → ℕ → List (ℕ × Event)
all_made o ns others zero = o.made
all_made o ns others (suc k) = made_by ns (λ j. others (suc j)) k

-- the same, with another list for one actor
abbrev pub with_made : (ℕ → List (ℕ × Event)) → ℕ → List (ℕ × Event) → ℕ → List (ℕ × Event)
with_made made k xs j = if j == k then xs else made j

-- in a turn of the node k only this node and the operator did something, which comes behind all that was done before
pub record GoesOn (k : ℕ) (o n now later : Knows Event) : Type 0 where
  pub goes : (actors : ℕ) (made : ℕ → List (ℕ × Event)) (done : List (Done Event)) → k < actors → IsSoFar actors (length o.seen) made done → made 0 ≡ o.made → made k ≡ n.made
      → (more : List (Done Event)) × IsSoFar actors (length now.seen) (with_made (with_made made k later.made) 0 now.made) more

-- so in the turns of all nodes
pub record AllGoOn (o : Knows Event) (ns : List Stored) (now : Knows Event) (after : List Stored) : Type 0 where
  pub goes : (actors : ℕ) (others : ℕ → List (ℕ × Event)) (done : List (Done Event)) → length ns < actors → IsSoFar actors (length o.seen) (all_made o ns others) done
      → (more : List (Done Event)) × IsSoFar actors (length now.seen) (all_made now after others) more

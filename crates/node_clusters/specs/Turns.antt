-- One node after the other has its turn, each behind all that was done before it: it knows what the last one knew, does its steps,
-- and tells what it knows then.
--
--   node 2 knows what node 1 told, at 7 steps    Take at ticket 7, Take at 8    tells 9 steps
--   node 1 knows these 9                         Learn at 9                     tells 10
--
-- So whatever was done so far, and told by a note that the first one heard, these steps come behind it in this order.
use Rattle.std.specs.Prelude.{ℕ, ◌≡◌, ◌<◌, ◌≤◌, ◌⊎◌, Option, Some, List, length, IfSome}
use Rattle.actor_trace.specs.History.{entries_of}
use Rattle.actor_trace.specs.Lists.{Begins}
use Rattle.cluster_steps.specs.declared.events.Event.{Event}
use Rattle.node_clusters.specs.Places.{node_at}
use Rattle.node_state.specs.Stores.{Stored}
use Rattle.trace_order.specs.Done.{Done}
use Rattle.trace_order.specs.Turns.{IsSoFar}

-- a node's turn, behind the last one's
pub record TakesTurn (last : Option (List (ℕ × Event))) (old new : Stored) (next : Option (List (ℕ × Event))) : Type 0 where
  pub knew : List (ℕ × Event)
  pub heard : IfSome last (λ n. Begins n knew)
  pub before : old.actor.made ≡ entries_of old.actor.number knew
  pub more : Begins knew new.actor.seen
  pub behind : new.actor.made ≡ entries_of old.actor.number new.actor.seen
  pub number : new.actor.number ≡ old.actor.number
  pub noted : next ≡ Some new.actor.seen

-- or it has none
abbrev pub MayTakeTurn : Option (List (ℕ × Event)) → Stored → Stored → Option (List (ℕ × Event)) → Type 0
MayTakeTurn last old new next = ((new ≡ old) × (next ≡ last)) ⊎ TakesTurn last old new next

-- of all actors, the nodes made that
pub record AreTheirs (vs : List Stored) (all : ℕ → List (ℕ × Event)) : Type 0 where
  pub number : (k : ℕ) → 0 < k → k ≤ length vs → (node_at vs k).actor.number ≡ k
  pub made : (k : ℕ) → 0 < k → k ≤ length vs → all k ≡ (node_at vs k).actor.made

-- so much was done behind what the others made
pub record IsBehind (n : ℕ) (us : List Stored) (made : ℕ → List (ℕ × Event)) (next : Option (List (ℕ × Event))) : Type 0 where
  pub told : List (ℕ × Event)
  pub is : next ≡ Some told
  pub after : ℕ → List (ℕ × Event)
  pub theirs : AreTheirs us after
  pub others : (j : ℕ) → (j ≡ 0) ⊎ (length us < j) → after j ≡ made j
  pub done : List (Done Event)
  pub so_far : IsSoFar n (length told) after done

-- the nodes have their turns, one after the other
pub record TakeTurns (vs us : List Stored) (last next : Option (List (ℕ × Event))) : Type 0 where
  pub size : length us ≡ length vs
  pub on : (n : ℕ) (told : List (ℕ × Event)) (made : ℕ → List (ℕ × Event)) (done : List (Done Event)) → length vs < n → last ≡ Some told → AreTheirs vs made → IsSoFar n (length told) made done → IsBehind n us made next

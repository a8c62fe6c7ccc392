-- A node at the end of a run: what its type says of it (its function `knows`), and what it gave back.
use Rattle.std.specs.Prelude.{ℕ, ◌≡◌, true, List, [], ◌∷◌}
use Rattle.actor_trace.specs.History.{entries_of}
use Rattle.cluster_events.specs.Settings.{Setting}
use Rattle.kept_log.specs.Kept.{HoldsAny, kept_by}
use Rattle.node_state.specs.Nodes.{IsOwn}
use Rattle.node_state.specs.Stores.{IsKeptBy, IsLeft, Stored, held_of}

pub record IsAtEnd (G : Setting) (n : Stored) : Type 0 where
  pub own : IsOwn G (held_of n)
  pub over : IsKeptBy n.vote n.over
  pub entries : n.over.entries ≡ n.entries
  pub made : n.actor.made ≡ entries_of n.actor.number n.actor.seen
  pub left : IsLeft G n

-- its store, with these bytes, nothing pending, and this count of faults
pub record IsGivenBack (n : Stored) (bytes pending : List ℕ) (faults : ℕ) : Type 0 where
  pub synced : bytes ≡ n.over.synced
  pub settled : pending ≡ []
  pub calm : faults ≡ n.over.faults
  pub holds : n.over.is_open ≡ true → HoldsAny n.over (kept_by n.over ∷ [])

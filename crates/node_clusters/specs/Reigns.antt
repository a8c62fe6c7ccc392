-- How a node leads on, or begins to lead, while packets are delivered, and what it told of requests since it leads.
use Rattle.std.specs.Prelude.{ℕ, ◌≡◌, ◌<◌, ◌≤◌, ◌⊎◌, true, Option, List, [], IfSome}
use Rattle.node_commits.specs.Ledgers.{Book, IsBookOf, Settlement, told_by}
use Rattle.node_clusters.specs.Places.{node_at, votes}
use Rattle.node_state.specs.Nodes.{events_of}
use Rattle.node_state.specs.Stores.{Stored, held_of}

abbrev pub told_at : Stored → List Settlement
told_at n = told_by (events_of n.actor.made)

-- it led before, in the same generation, and told nothing
pub record LeadsOn (old new : Stored) : Type 0 where
  pub leading : old.vote.leading ≡ true
  pub same : new.vote.accepted ≡ old.vote.accepted
  pub told : told_at new ≡ told_at old

-- it leads in a new generation, and told nothing since
pub record LeadsAnew (old new : Stored) : Type 0 where
  pub above : old.vote.accepted < new.vote.accepted
  pub none : told_at new ≡ []

-- in the generation that it accepted its log gets longer, or stays
pub record KeepsLog (old new : Stored) : Type 0 where
  pub grows : old.vote.length ≤ new.vote.length
  pub same : new.vote.length ≡ old.vote.length → new.entries ≡ old.entries

pub record Reigns (old new : Stored) : Type 0 where
  pub rises : old.vote.accepted ≤ new.vote.accepted
  pub leads : new.vote.leading ≡ true → LeadsOn old new ⊎ LeadsAnew old new
  pub log : new.vote.accepted ≡ old.vote.accepted → KeepsLog old new

-- each node that is up in the end
pub record AllReign (vs us : List Stored) : Type 0 where
  pub each : (k : ℕ) → (votes us k).up ≡ true → Reigns (node_at vs k) (node_at us k)

-- a ledger is that of who leads
abbrev pub IsMastersBook : List Stored → Option ℕ → Book → Type 0
IsMastersBook vs master b = IfSome master (λ m. IsBookOf b (held_of (node_at vs m)))

-- whatever ledger was that of who led is that of who leads
abbrev pub KeepsBook : List Stored → Option ℕ → List Stored → Option ℕ → Type 0
KeepsBook vs was us master = (b : Book) → IsMastersBook vs was b → IsMastersBook us master b

-- who leads told nothing since
abbrev pub IsUntold : List Stored → Option ℕ → Type 0
IsUntold vs master = IfSome master (λ m. told_at (node_at vs m) ≡ [])

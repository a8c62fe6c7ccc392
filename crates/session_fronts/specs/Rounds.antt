-- The round of a begin: a leader answers the ask, and the nodes that confirm its generation are counted by bits.
use Rattle.std.specs.Prelude.{ℕ, ◌≡◌, ◌++◌, ◌∷◌, [], List, true}
use mathlib.Core.Logic.{◌⊎◌}
use Rattle.cluster_consensus.specs.Facts.{World}
use Rattle.cluster_requests.specs.KeptEntries.{KeptEntry}
use Rattle.cluster_steps.specs.declared.events.Event.{Event}
use Rattle.core_lists.specs.Lists.{Has}
use Rattle.election_core.specs.Counts.{has_bit}

-- a node confirmed that generation for an ask
abbrev pub IsConfirmed : World KeptEntry → ℕ → ℕ → ℕ → Type 0
IsConfirmed w ask generation k = Has (λ x. (x.ask ≡ ask) × (x.gen ≡ generation)) (w.nodes k).pongs

-- each node whose bit is set did, or is the leader
pub record AreConfirmed (w : World KeptEntry) (ask generation leader bits : ℕ) : Type 0 where
  pub each : (k : ℕ) → has_bit bits k ≡ true → (k ≡ leader) ⊎ IsConfirmed w ask generation k

-- a leader answered an ask by its position, in its generation
abbrev pub IsProbed : World KeptEntry → ℕ → ℕ → ℕ → ℕ → Type 0
IsProbed w ask position generation leader = Has (λ x. (x.ask ≡ ask) × (x.gen ≡ generation) × (x.durable ≡ position)) (w.nodes leader).pings

-- an actor's last step was this event
pub record EndsWith (e : Event) (made : List (ℕ × Event)) : Type 0 where
  pub front : List (ℕ × Event)
  pub ticket : ℕ
  pub is : made ≡ front ++ (ticket, e) ∷ []

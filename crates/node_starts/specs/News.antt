-- Nodes that did nothing yet, over stores that were read.
use Rattle.std.specs.Prelude.{ℕ, ◌≡◌, ◌+◌, false, List, [], ◌∷◌}
use Rattle.actor_trace.specs.Actors.{Knows}
use Rattle.cluster_steps.specs.declared.events.Event.{Event}
use Rattle.kept_log.specs.Kept.{HoldsAny, OverStore, kept}
use Rattle.node_reading.specs.Reading.{MayBegin}
use Rattle.node_state.specs.Nodes.{blank_vote}
use Rattle.node_state.specs.Stores.{Stored}
use Rattle.phys_log.specs.declared.entries.Entry.{Entry}
use Rattle.node_openings.specs.declared.found.ReadLog.{ReadLog}
use Rattle.node_openings.specs.declared.found.StoreFound.{StoreFound}
use Rattle.node_openings.specs.declared.found.StoreFound.TheVariants as store

-- a store holds what was read of it, with which a node may come up for the first time
pub record IsToStart (r : ReadLog) (o : OverStore) : Type 0 where
  pub entries : List Entry
  pub holds : HoldsAny o (kept r.promised r.accepted entries ∷ [])
  pub may : MayBegin r.promised r.accepted entries r.rows.value

-- a store failed while it was read, or it holds what was read of it. None is bad, and none has a log that is not sound: a script is
-- not played over such
abbrev pub IsReady : StoreFound → OverStore → Type 0
IsReady store.Failed o = Unit {0}
IsReady (store.Bad at) o = ⊥
IsReady store.NotSound o = ⊥
IsReady (store.Whole r) o = IsToStart r o

-- a node of this number that did nothing yet
pub record IsNew (k : ℕ) (n : Stored) : Type 0 where
  pub number : n.vote.node ≡ k
  pub down : n.vote.up ≡ false
  pub made : n.actor.made ≡ []

-- so each of them, in the order of their numbers, over stores that were found to be these
pub data AreNew : ℕ → List StoreFound → List Stored → Type 0 where
  new_none : {k : ℕ} → AreNew k [] []
  new_more : {k : ℕ} {s : StoreFound} {n : Stored} {ss : List StoreFound} {ns : List Stored} → IsNew k n → IsReady s n.over → AreNew (k + 1) ss ns → AreNew k (s ∷ ss) (n ∷ ns)

-- actors of these numbers that did nothing yet
pub record IsIdle (k : ℕ) (a : Knows Event) : Type 0 where
  pub number : a.number ≡ k
  pub made : a.made ≡ []

pub data AreIdle : ℕ → List (Knows Event) → Type 0 where
  idle_none : {k : ℕ} → AreIdle k []
  idle_more : {k : ℕ} {a : Knows Event} {others : List (Knows Event)} → IsIdle k a → AreIdle (k + 1) others → AreIdle k (a ∷ others)

-- a node made of both
pub record IsMadeOf (nodes k : ℕ) (o : OverStore) (a : Knows Event) (n : Stored) : Type 0 where
  pub vote : n.vote ≡ blank_vote k nodes
  pub over : n.over ≡ o
  pub actor : n.actor ≡ a

pub data AreMadeOf (nodes : ℕ) : ℕ → List OverStore → List (Knows Event) → List Stored → Type 0 where
  made_none : {k : ℕ} → AreMadeOf nodes k [] [] []
  made_more : {k : ℕ} {o : OverStore} {a : Knows Event} {n : Stored} {os : List OverStore} {others : List (Knows Event)} {ns : List Stored} → IsIdle k a → IsMadeOf nodes k o a n → AreMadeOf nodes (k + 1) os others ns
      → AreMadeOf nodes k (o ∷ os) (a ∷ others) (n ∷ ns)

-- A request that is sent to a leader, and what has to be known of it over the leader's log.
use Rattle.std.specs.Prelude.{ℕ, ◌≡◌, ◌<◌, true, List, Some, take}
use Rattle.block_processor.specs.Conflicts.{conflict_of}
use Rattle.cdb_values.specs.Good.{AllFit}
use Rattle.cdb_values.specs.Rows.{apply_all}
use Rattle.cdb_values.specs.declared.items.Item.{Item}
use Rattle.cdb_values.specs.declared.replies.Reply.{Reply}
use Rattle.cluster_decisions.specs.Requested.{FitsRows, IsOfSent, ground_at, stored_entries}
use Rattle.cluster_events.specs.Parts.{field}
use Rattle.cluster_events.specs.Settings.{Setting}
use Rattle.cluster_requests.specs.KeptEntries.{KeptEntry, state_of}
use Rattle.cluster_requests.specs.Requests.{Sent}
use Rattle.cluster_steps.specs.Named.{refusal_line, steps, world}
use Rattle.cluster_steps.specs.declared.events.Event.{Event}
use Rattle.core_lists.specs.Lists.{In}
use Rattle.election_core.specs.declared.votes.NodeVote.{NodeVote}
use Rattle.log_rows.specs.History.{Ground, tables_of}
use Rattle.phys_log.specs.declared.requests.CommitRequest.{CommitRequest}
use Rattle.phys_log.specs.declared.requests.Decision.TheVariants as decision
use Rattle.node_state.specs.Nodes.{Held}
use Rattle.node_commits.specs.Ledgers.{Book, IsBookOf, IsUntold}

-- a node leads in a generation
pub record LeadsIn (v : NodeVote) (generation : ℕ) : Type 0 where
  pub up : v.up ≡ true
  pub leading : v.leading ≡ true
  pub accepted : v.accepted ≡ generation

-- it knows that a session sent it this request in that generation
pub record IsSentTo (G : Setting) (seen : List (ℕ × Event)) (i generation : ℕ) (sent : Sent) (request : CommitRequest) : Type 0 where
  pub mem : In sent (field (steps G seen)).sends
  pub to : sent.to ≡ i
  pub gen : sent.gen ≡ generation
  pub says : IsOfSent G sent request

-- over a log with the script's tables, it is what its session computed over the rows at its begin; with its operations the rows at
-- the end fit their tables; and a conflict of it has a line
pub record IsOver (G : Setting) (log : List KeptEntry) (sent : Sent) (request : CommitRequest) : Type 0 where
  pub tables : tables_of (stored_entries log) ≡ G.tables
  pub ran : FitsRows (tables_of (stored_entries log)) (state_of (take sent.begin log)) request
  pub fit : AllFit G.tables (apply_all (state_of log) sent.ops).tables
  pub lined : (position : ℕ) (item : Item) → conflict_of request (stored_entries log) ≡ Some (record { position = position; item = item })
      → (told : Reply) × (refusal_line G.tables (decision.Conflict position item) ≡ Some told)

-- the log of a node, and the rows at the begin of a request as the ground over which it is decided
abbrev pub log_at : Setting → List (ℕ × Event) → ℕ → List KeptEntry
log_at G seen i = ((world G seen).nodes i).log

abbrev pub ground_of : Setting → List (ℕ × Event) → ℕ → Sent → Ground
ground_of G seen i sent = ground_at (state_of (take sent.begin (log_at G seen i))) sent.begin

-- a leader with its ledger and room for an event, and a request that was sent to it in the generation in which it leads, of which
-- it told nothing
pub record IsToAnswer (G : Setting) (h : Held) (b : Book) (sent : Sent) (request : CommitRequest) : Type 0 where
  pub room : 0 < h.actor.room
  pub book : IsBookOf b h
  pub leads : LeadsIn h.vote h.vote.accepted
  pub asked : IsSentTo G h.actor.seen h.vote.node h.vote.accepted sent request
  pub over : IsOver G (log_at G h.actor.seen h.vote.node) sent request
  pub untold : IsUntold b.told request.id

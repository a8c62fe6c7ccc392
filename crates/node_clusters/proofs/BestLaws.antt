-- The best of those that are up may stand above all their promises.
use Rattle.std.proofs.Common.{ℕ, ◌≡◌, ◌+◌, ◌<◌, ◌≤◌, List, length, arith, ap}
use Rattle.std.specs.Prelude.{Option, true, false}
use mathlib.Core.Logic.{◌⊎◌, inl, inr}
use Rattle.cluster_core.proofs.DurableLaws.{positions_within}
use Rattle.cluster_events.specs.Settings.{Setting}
use Rattle.cluster_steps.specs.Named.{world}
use Rattle.core_lists.proofs.Numbers.{lt_or_le}
use Rattle.node_clusters.proofs.PlaceLaws.{beyond}
use Rattle.node_clusters.proofs.UpLaws.{somebody}
use Rattle.node_clusters.specs.Best.{IsBestOf}
use Rattle.node_clusters.specs.Clusters.{ArePlaced, HasMajority, HasPlace, IsCluster}
use Rattle.node_clusters.specs.Places.{node_at, votes}
use Rattle.node_state.proofs.NumberLaws as numbers
use Rattle.node_state.specs.Nodes.{Held, IsOwn}
use Rattle.node_state.specs.Packets.{SentPacket}
use Rattle.node_state.specs.Stores.{Stored, held_of}
use Rattle.quiet_cluster.specs.Led.{AreNamed, NobodyAbove}
use Rattle.quiet_cluster.specs.Polled.{Best}

-- who is up has a place
pub up_placed : (vs : List Stored) (k : ℕ) → (votes vs k).up ≡ true → (0 < k) × (k ≤ length vs)
up_placed vs k up = (low (lt_or_le 0 k), high (lt_or_le (length vs) k))
  where
    low : (0 < k) ⊎ (k ≤ 0) → 0 < k
    low (inl h) = h
    low (inr h) = absurd (let e : k ≡ 0 = omega arith in let x : (votes vs k).up ≡ false = ap (λ (t : Stored). t.vote.up) (beyond vs k (inl e)) in cc)

    high : (length vs < k) ⊎ (k ≤ length vs) → k ≤ length vs
    high (inl h) = absurd (let x : (votes vs k).up ≡ false = ap (λ (t : Stored). t.vote.up) (beyond vs k (inr h)) in cc)
    high (inr h) = h

pub are_named : (G : Setting) (vs : List Stored) → ArePlaced G vs → AreNamed G.nodes (votes vs)
are_named G vs p = λ k up.
    let r = up_placed vs k up in
    let high : k ≤ G.nodes = (let x : k ≤ length vs = r.1 in let y : length vs ≡ G.nodes = p.size in omega arith) in
    (r.0, high, p.placed k r.0 high)

within : (G : Setting) (h : Held) → IsOwn G h → h.vote.durable ≤ h.vote.length
within G h own =
    let a : h.vote.durable ≡ ((world G h.actor.seen).nodes h.vote.node).durable = own.node.part.durable in
    let b : h.vote.length ≡ length ((world G h.actor.seen).nodes h.vote.node).log = own.node.part.length in
    let c = positions_within G h.actor.seen h.vote.node own.node.legal in
    omega arith

-- the best is somebody
pub best_is_up : (G : Setting) (vs : List Stored) (q : List SentPacket) (master : Option ℕ) (c : ℕ) → IsCluster G vs q master → HasMajority G vs → IsBestOf vs (length vs) c → HasPlace vs c
best_is_up G vs q master c k many b =
    let s = somebody G vs many in
    let r = up_placed vs s.0 s.1.1 in
    ((b.best s.0 r.1 s.1.1).0, b.within)

pub best_so : (G : Setting) (vs : List Stored) (q : List SentPacket) (master : Option ℕ) (c highest : ℕ) → IsCluster G vs q master → HasMajority G vs → IsBestOf vs (length vs) c → NobodyAbove (votes vs) highest
    → ((k : ℕ) → 0 < k → k ≤ length vs → IsOwn G (held_of (node_at vs k))) → Best G.nodes (votes vs) c (highest + 1)
best_so G vs q master c highest k many b top own =
    let place = best_is_up G vs q master c k many b in
    let mine = own c place.0 place.1 in
    record {
      few = k.nodes.few;
      up = b.up place.0;
      nodes = mine.node.nodes_is;
      size = mine.node.counted.size;
      within = within G (held_of (node_at vs c)) mine;
      named = are_named G vs k.nodes;
      above = λ j up. (let x : (votes vs j).promised ≤ highest = top j up in omega arith);
      covered = λ j up. (let r = up_placed vs j up in numbers.below G (votes vs j) (node_at vs j).entries (node_at vs j).actor.seen (own j r.0 r.1).node);
      best = λ j up. (let r = up_placed vs j up in (b.best j r.1 up).1);
    }

-- Nodes in a list, the first one's number 1.
use Rattle.std.proofs.Common.{ℕ, ◌≡◌, ◌-◌, ◌<◌, ◌≤◌, List, length, get_or, slice_set, arith, refl, sym, subst, ap, ◌∙◌}
use Rattle.std.specs.Prelude.{zero, suc}
use Rattle.std.proofs.lemmas.Grind.{get_or-set_at}
use Rattle.std.proofs.lemmas.List.{get_or-set_other, get_or_past, get_or_read}
use mathlib.Core.Logic.{◌⊎◌, inl, inr}
use Rattle.election_core.specs.declared.votes.NodeVote.{NodeVote}
use Rattle.node_clusters.specs.Places.{no_node, node_at, votes}
use Rattle.node_state.specs.Stores.{Stored}
use Rattle.quiet_cluster.specs.Places.{nobody}

pub place_other : (vs : List Stored) (i : ℕ) (u : Stored) (k : ℕ) → 0 < i → (k ≡ i → ⊥) → node_at (slice_set vs (i - 1) u) k ≡ node_at vs k
place_other vs i u zero low ne = refl
place_other vs i u (suc j) low ne = get_or-set_other vs (i - 1) j u no_node (λ e. ne (let r : suc j ≡ i = omega arith in r))

pub place_self : (vs : List Stored) (i : ℕ) (u : Stored) → 0 < i → i ≤ length vs → node_at (slice_set vs (i - 1) u) i ≡ u
place_self vs zero u low high = absurd (omega arith)
place_self vs (suc j) u low high = get_or-set_at vs (suc j - 1) j u no_node (omega arith) (omega arith)

-- who has no place is nobody
pub beyond : (vs : List Stored) (i : ℕ) → (i ≡ 0) ⊎ (length vs < i) → node_at vs i ≡ no_node
beyond vs zero h = refl
beyond vs (suc j) (inl e) = absurd (omega arith)
beyond vs (suc j) (inr lt) = get_or_past vs j no_node (omega arith)

-- the node at that place
pub placed : (vs : List Stored) (i : ℕ) (v : Stored) → 0 < i → i ≤ length vs → v ≡ get_or vs (i - 1) v → node_at vs i ≡ v
placed vs zero v low high at = absurd (omega arith)
placed vs (suc j) v low high at =
    let e : suc j - 1 ≡ j = omega arith in
    sym (get_or_read vs j v (omega arith) (subst (λ t. v ≡ get_or vs t v) e at) no_node)

-- the numbers of a node
pub vote_at : (vs : List Stored) (i : ℕ) (v : Stored) (u : NodeVote) → 0 < i → i ≤ length vs → v ≡ get_or vs (i - 1) v → u ≡ v.vote → u ≡ votes vs i
vote_at vs i v u low high at e = e ∙ ap (λ (t : Stored). t.vote) (sym (placed vs i v low high at))

pub vote_beyond : (vs : List Stored) (i : ℕ) (u : NodeVote) → (i ≡ 0) ⊎ (length vs < i) → u ≡ nobody → u ≡ votes vs i
vote_beyond vs i u h e = e ∙ ap (λ (t : Stored). t.vote) (sym (beyond vs i h))

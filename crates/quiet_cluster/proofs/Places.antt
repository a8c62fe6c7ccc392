-- Nodes in a list, the first one's number 1.
use Rattle.std.proofs.Common.{ℕ, ◌≡◌, ◌-◌, ◌<◌, ◌≤◌, List, length, arith, refl}
use Rattle.std.specs.Prelude.{zero, suc, slice_set}
use Rattle.std.proofs.lemmas.Grind.{get_or-set_at}
use Rattle.std.proofs.lemmas.List.{get_or-set_other, get_or_past}
use mathlib.Core.Logic.{◌⊎◌, inl, inr}
use Rattle.election_core.specs.declared.votes.NodeVote.{NodeVote}
use Rattle.quiet_cluster.specs.Places.{nobody, at_of}

pub set_other : (vs : List NodeVote) (i : ℕ) (u : NodeVote) (k : ℕ) → 0 < i → (k ≡ i → ⊥) → at_of (slice_set vs (i - 1) u) k ≡ at_of vs k
set_other vs i u zero low ne = refl
set_other vs i u (suc j) low ne = get_or-set_other vs (i - 1) j u nobody (λ e. ne (let r : suc j ≡ i = omega arith in r))

pub set_self : (vs : List NodeVote) (i : ℕ) (u : NodeVote) → 0 < i → i ≤ length vs → at_of (slice_set vs (i - 1) u) i ≡ u
set_self vs zero u low high = absurd (omega arith)
set_self vs (suc j) u low high = get_or-set_at vs (suc j - 1) j u nobody (omega arith) (omega arith)

-- who has no place is nobody
pub beyond : (vs : List NodeVote) (i : ℕ) → (i ≡ 0) ⊎ (length vs < i) → at_of vs i ≡ nobody
beyond vs zero h = refl
beyond vs (suc j) (inl e) = absurd (omega arith)
beyond vs (suc j) (inr lt) = get_or_past vs j nobody (omega arith)

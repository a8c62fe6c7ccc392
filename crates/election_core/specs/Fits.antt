-- Stores that fit: what one of them accepted was promised by a majority, as far as the others were read.
--
-- Of three nodes, where node 1 accepted generation 5 and promised it, node 2 promised 4, and the store of node 3 was not read:
-- nodes 1 and 3 count for generation 5, so the stores fit. Where node 3 was read, too, and promised 4, they do not, by node 1.
use Rattle.std.specs.Prelude.{ℕ, ◌≡◌, ◌<◌, ◌≤◌, ◌*◌, ◌==◌, ◌&&◌, ◌||◌, leb, ltb, not, Bool, List}
use Rattle.std.specs.List.{list_any, list_all}
use Rattle.core_lists.specs.Lists.{Each, Has}
use Rattle.core_lists.specs.Majorities.{Majority, count}
use Rattle.cluster_consensus.specs.Facts.{Admit}

-- each store of node k that was read promised at least this generation
abbrev pub has_promised : List Admit → ℕ → ℕ → Bool
has_promised stores g k = list_all (λ s. not (s.node == k) || leb g s.promised) stores

-- more than half of n nodes did
abbrev pub is_covered : ℕ → List Admit → ℕ → Bool
is_covered n stores g = ltb n (2 * count n (λ k. has_promised stores g k))

-- among these stores is one of node k that accepted a generation which, by all stores, lacks a majority
abbrev pub lacks_cover : ℕ → List Admit → ℕ → List Admit → Bool
lacks_cover n all k stores = list_any (λ s. s.node == k && not (is_covered n all s.accepted)) stores

-- a majority of n nodes promised at least this generation, as far as they were read
abbrev pub IsPromised : ℕ → List Admit → ℕ → Type 0
IsPromised n stores g = Majority n (λ k. Each (λ b. b.node ≡ k → g ≤ b.promised) stores)

-- of node k is a store that accepted what no majority promised, and of no lower node is one
pub record IsLowestUnfit (n : ℕ) (stores : List Admit) (k : ℕ) : Type 0 where
  pub lacks : Has (λ a. (a.node ≡ k) × (IsPromised n stores a.accepted → ⊥)) stores
  pub lowest : Each (λ a. a.node < k → IsPromised n stores a.accepted) stores

-- The log that a generation and a length name.
use Rattle.std.specs.Prelude.{ℕ, zero, suc, ◌==◌, ◌&&◌, leb, cond, Option, Some, None, List, [], ◌∷◌, length, take}
use Rattle.cluster_consensus.specs.Facts.{Claim, World}

-- the first n entries of a shipped log of this generation that is so long
abbrev pub find_ship : {E : Type 0} → ℕ → ℕ → List (Claim E) → Option (List E)
find_ship g n [] = None
find_ship g n (c ∷ cs) = cond (c.gen == g && leb n (length c.log)) (Some (take n c.log)) (find_ship g n cs)

abbrev pub either_of : {A : Type 0} → Option A → Option A → Option A
either_of (Some a) b = Some a
either_of None b = b

-- of any node below k
abbrev pub find_log : {E : Type 0} → World E → ℕ → ℕ → ℕ → Option (List E)
find_log w g n zero = None
find_log w g n (suc k) = either_of (find_ship g n (w.nodes (suc k)).ships) (find_log w g n k)

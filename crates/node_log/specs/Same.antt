-- Logs that are the same, whatever their stores have.
use Rattle.std.specs.Prelude.{◌≡◌, ◌⊎◌, ℕ, ◌<◌, ◌^◌, List, [], ◌∷◌}
use Rattle.node_log.specs.Logged.{Logged}

-- a node's number takes 1 byte, and the id of a cluster 16
pub record IsNode (n id : ℕ) : Type 0 where
  pub node : n < 256
  pub cluster : id < 2 ^ 128

-- the log of a node of a cluster
pub record IsOfNode (n id : ℕ) (l : Logged) : Type 0 where
  pub node : l.node ≡ n
  pub cluster : l.cluster ≡ id

-- the same generations and the same entries
pub record IsSameLog (l k : Logged) : Type 0 where
  pub promised : l.promised ≡ k.promised
  pub accepted : l.accepted ≡ k.accepted
  pub entries : l.entries ≡ k.entries

-- a log is one of these
abbrev pub IsOneOf : Logged → List Logged → Type 0
IsOneOf k [] = ⊥
IsOneOf k (l ∷ ls) = IsSameLog l k ⊎ IsOneOf k ls

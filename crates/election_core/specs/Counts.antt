-- Votes as bits, and acknowledged lengths, of nodes that are numbered from 1.
use Rattle.std.specs.Prelude.{ℕ, zero, suc, ◌==◌, ◌≡◌, ◌<◌, ◌≤◌, ◌*◌, ◌^◌, Bool, false, List, slice_index, leb}
use Rattle.std.specs.Int.{bit_at}
use Rattle.std.specs.Int.Bits.{bit_or}
use mathlib.Core.Logic.{◌⊎◌}
use Rattle.core_lists.specs.Majorities.{count}

-- the vote of node k stands at bit k
abbrev pub has_bit : ℕ → ℕ → Bool
has_bit n k = bit_at n k == 1

abbrev pub with_bit : ℕ → ℕ → ℕ
with_bit n k = bit_or n (2 ^ k)

-- node k acknowledged this length or a greater one; that of node 1 stands first
abbrev pub reaches : List ℕ → ℕ → ℕ → Bool
reaches acked l zero = false
reaches acked l (suc k) = leb l (slice_index acked k)

-- a majority acknowledged it
abbrev pub IsReached : List ℕ → ℕ → ℕ → Type 0
IsReached acked nodes l = nodes < 2 * count nodes (λ k. reaches acked l k)

-- the greatest length that a majority acknowledged, or 0
pub record IsGreatest (acked : List ℕ) (nodes l : ℕ) : Type 0 where
  pub reached : (l ≡ 0) ⊎ IsReached acked nodes l
  pub greatest : (d : ℕ) → IsReached acked nodes d → d ≤ l

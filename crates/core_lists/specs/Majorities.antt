-- How many numbers pass a test, and majorities of nodes numbered from 1.
use Rattle.std.specs.Prelude.{ℕ, zero, suc, ◌≡◌, ◌+◌, ◌*◌, ◌<◌, ◌≤◌, Bool, true, cond}

-- how many of the numbers from 1 to n the test takes
abbrev pub count : ℕ → (ℕ → Bool) → ℕ
count zero q = 0
count (suc n) q = cond (q (suc n)) 1 0 + count n q

-- P holds of more than half of the numbers from 1 to n
pub record Majority (n : ℕ) (P : ℕ → Type 0) : Type 0 where
  pub who : ℕ → Bool
  pub many : n < 2 * count n who
  pub hold : (k : ℕ) → 0 < k → k ≤ n → who k ≡ true → P k

-- Each object of the outside world keeps a count of its faults, which never falls, and rises exactly in a
-- call that fails. The count is kept in a u64 and stands still at its last value, so a count that has this
-- value after a call that failed counts as one that rose.
use Rattle.std.specs.Prelude.{◌≡◌, ℕ, ◌+◌, ◌-◌, ◌^◌, ◌<◌, ◌≤◌, ◌⊎◌, min, OnOk, OnErr, Result}

-- the last value of a count
abbrev pub last_count : ℕ
last_count = 2 ^ 64 - 1

-- one more, as far as a count goes
abbrev pub count_after : ℕ → ℕ
count_after n = min (n + 1) last_count

-- a count rose over a call
abbrev pub Rose : ℕ → ℕ → Type 0
Rose before now = (before < now) ⊎ (now ≡ last_count)

-- the count rises exactly where a call fails: it did not fall, stayed where the call succeeded, rose where it failed
pub record HasCause {T E : Type 0} (before now : ℕ) (result : Result T E) : Type 0 where
  pub later : before ≤ now
  pub calm : OnOk result (now ≡ before)
  pub failed : OnErr result (Rose before now)

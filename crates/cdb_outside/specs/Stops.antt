-- How a store in memory fails: by its plan, and from a stop inside a write on, until it is halted.
--
-- A store that is to stop after some bytes takes that many. An append that has more takes the front for which
-- there is room and fails, and from the last of these bytes on every call fails, until a halt. A halt ends the
-- stop; a stop that was not reached by then is still to come.
use Rattle.std.specs.Prelude.{◌≡◌, ℕ, ◌-◌, ◌<◌, ◌⊎◌, ◌++◌, [], List, Option, Some, None, length, take, option_map, min, if◌then◌else◌, ◌==◌}
use Rattle.cdb_outside.specs.Faults.{count_after}
use Rattle.cdb_outside.specs.Objects.{HeldStore}
use Rattle.cdb_outside.specs.Plans.{FailsNext, after_success, after_failure}

-- the next call fails, whatever it is
abbrev pub IsRefused : HeldStore → Type 0
IsRefused s = (s.left ≡ Some 0) ⊎ FailsNext s.plan

-- how many of so many bytes are taken before the stop
abbrev pub room_in : Option ℕ → ℕ → ℕ
room_in None n = n
room_in (Some left) n = min left n

-- what is left before the stop, behind so many bytes
abbrev pub left_behind : Option ℕ → ℕ → Option ℕ
left_behind left n = option_map (λ m. m - n) left

-- behind a call that did nothing but succeed
abbrev pub passed : HeldStore → HeldStore
passed s = record s { plan = after_success s.plan }

-- behind a call that did nothing but fail
abbrev pub refused : HeldStore → HeldStore
refused s = record s { plan = after_failure s.plan }

-- with one call more that writes
abbrev pub written : HeldStore → HeldStore
written s = record s { writes = count_after s.writes }

-- behind an append
abbrev pub appended : HeldStore → List ℕ → HeldStore
appended s bytes = record s {
  waiting = s.waiting ++ bytes;
  left = left_behind s.left (length bytes);
  writes = count_after s.writes;
  plan = after_success s.plan;
}

-- behind an append in which the store stopped, with so many bytes taken
abbrev pub stopped : HeldStore → List ℕ → HeldStore
stopped s front = record s {
  waiting = s.waiting ++ front;
  left = Some 0;
  writes = count_after s.writes;
  plan = after_failure s.plan;
}

-- the store stops inside an append of these bytes
pub record StopsIn (s : HeldStore) (bytes : List ℕ) (now : HeldStore) : Type 0 where
  pub not_refused : IsRefused s → ⊥
  pub less : room_in s.left (length bytes) < length bytes
  pub is_stopped : now ≡ stopped s (take (room_in s.left (length bytes)) bytes)

-- behind a halt
abbrev pub left_halted : Option ℕ → Option ℕ
left_halted None = None
left_halted (Some left) = if left == 0 then None else Some left

abbrev pub halted : HeldStore → HeldStore
halted s = record s { durable = s.durable ++ take s.keeps s.waiting; waiting = []; left = left_halted s.left }

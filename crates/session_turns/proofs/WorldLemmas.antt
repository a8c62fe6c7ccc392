-- Histories that grow.
use Rattle.std.proofs.Common.{◌≡◌, ◌∙◌, ℕ, ◌≤◌, arith, refl}
use Rattle.session_turns.specs.Step.{World}
use Rattle.session_turns.specs.Worlds.{Grows, IsBetween}

pub grows_still : (w : World) → Grows w w
grows_still w = record { tables = refl; now = omega arith; rows = λ at within. refl; changes = λ place within. refl }

pub grows_on : (w w' w'' : World) → Grows w w' → Grows w' w'' → Grows w w''
grows_on w w' w'' first second = record {
  tables = second.tables ∙ first.tables;
  now = let a : w.now ≤ w'.now = first.now in let b : w'.now ≤ w''.now = second.now in omega (arith, a, b);
  rows = λ at within. second.rows at (let a : w.now ≤ w'.now = first.now in omega (arith, a, within)) ∙ first.rows at within;
  changes = λ place within. second.changes place (let a : w.now ≤ w'.now = first.now in omega (arith, a, within)) ∙ first.changes place within;
}

pub between_still : (w : World) → IsBetween w w w.now
between_still w = record { from = omega arith; to = omega arith }

-- the last position behind a step is between
pub between_now : (w w' : World) (position : ℕ) → Grows w w' → position ≡ w'.now → IsBetween w w' position
between_now w w' position grows at = record {
  from = let a : w.now ≤ w'.now = grows.now in omega (arith, a, at);
  to = omega (arith, at);
}

-- and behind further steps
pub between_on : (w w' w'' : World) (position : ℕ) → Grows w w' → Grows w' w'' → position ≡ w'.now → IsBetween w w'' position
between_on w w' w'' position first second at = record {
  from = let a : w.now ≤ w'.now = first.now in omega (arith, a, at);
  to = let b : w'.now ≤ w''.now = second.now in omega (arith, b, at);
}

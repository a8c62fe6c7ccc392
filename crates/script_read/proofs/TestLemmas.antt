-- The tests of the reader as facts: both of two, and declared sessions.
use Rattle.std.proofs.Common.{◌≡◌, ℕ, List, [], ◌∷◌, Bool, true, false, ◌&&◌, ◌||◌, refl, inl, inr}
use Rattle.std.specs.Str.{bytes_eq}
use Rattle.std.proofs.lemmas.Slice.Eq.{bytes_eq-Decides}
use Rattle.script_form.specs.CanRun.{IsDeclared}
use Rattle.script_form.specs.declared.scripts.SessionLine.{SessionLine}
use Rattle.script_read.specs.Heads.{is_declared}

same_bytes : (xs ys : List ℕ) → bytes_eq xs ys ≡ true → xs ≡ ys
same_bytes xs ys e = (bytes_eq-Decides xs ys).0 e

pub and_first : (a b : Bool) → (a && b) ≡ true → a ≡ true
and_first true b e = refl
and_first false b e = absurd cc

pub and_second : (a b : Bool) → (a && b) ≡ true → b ≡ true
and_second true b e = e
and_second false b e = absurd cc

pub declared : (name : List ℕ) (sessions : List SessionLine) → is_declared name sessions ≡ true → IsDeclared name sessions
declared name [] e = absurd cc
declared name (session ∷ sessions) e = go (bytes_eq session.name name) refl (declared name sessions) e
  where
    go : (b : Bool) → bytes_eq session.name name ≡ b → (is_declared name sessions ≡ true → IsDeclared name sessions) → (b || is_declared name sessions) ≡ true → IsDeclared name (session ∷ sessions)
    go true h others e = inl (same_bytes session.name name h)
    go false h others e = inr (others e)

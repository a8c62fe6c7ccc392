-- Faults over calls one after the other.
use Rattle.std.proofs.Common.{◌≡◌, ℕ, Result, sym, subst}
use Rattle.cdb_outside.specs.Faults.{Rose, HasCause}

-- a call that failed, behind one that did not
pub rose_from : (a b c : ℕ) → b ≡ a → Rose b c → Rose a c
rose_from a b c e h = subst (λ (n : ℕ). Rose n c) e h

pub causes_join : {T E : Type 0} (a b c : ℕ) (r : Result T E) → b ≡ a → HasCause b c r → HasCause a c r
causes_join a b c r e h = subst (λ (n : ℕ). HasCause n c r) e h

-- and in front of one
pub rose_still : (a b c : ℕ) → c ≡ b → Rose a b → Rose a c
rose_still a b c e h = subst (λ (n : ℕ). Rose a n) (sym e) h

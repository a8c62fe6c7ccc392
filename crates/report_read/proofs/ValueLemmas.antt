-- The values of a row, one after the other.
use Rattle.std.proofs.Common.{◌≡◌, ℕ, zero, suc, List, [], ◌∷◌, Some, None, Bool, true, false, refl, sym, Result, Ok, Err}
use Rattle.std.specs.Prelude.{MatchResult, is_ok}
use Rattle.std.specs.Str.{IsUtf8, is_utf8}
use Rattle.std.proofs.lemmas.Str.{IsUtf8-from_is_utf8, is_utf8-from_IsUtf8}
use Rattle.cdb_values.specs.declared.values.Value.{Value}
use Rattle.report_read.specs.Reading.{behind_word, value_at, more_values_at, with_first}

pub no_bar : (n : ℕ) (rest : List ℕ) → behind_word (124 ∷ []) rest ≡ None → more_values_at n rest ≡ Some ([], rest)
unfolding more_values_at
no_bar zero rest h = refl
no_bar (suc n) rest h = rw h refl

pub no_value_at : (n m : ℕ) (rest behind : List ℕ) → n ≡ suc m → behind_word (124 ∷ []) rest ≡ Some behind → value_at behind ≡ None → more_values_at n rest ≡ None
unfolding more_values_at
no_value_at n m rest behind e h v = rw (e, h, v) refl

pub one_value : (n m : ℕ) (rest behind after : List ℕ) (v : Value) → n ≡ suc m → behind_word (124 ∷ []) rest ≡ Some behind → value_at behind ≡ Some (v, after) → more_values_at n rest ≡ with_first v (more_values_at m after)
unfolding more_values_at
one_value n m rest behind after v e h v' = rw (e, h, v') refl

pub no_more : (n : ℕ) (rest : List ℕ) → n ≡ 0 → more_values_at n rest ≡ Some ([], rest)
unfolding more_values_at
no_more n rest e = rw e refl

not_text : (bytes : List ℕ) (t : Bool) → (IsUtf8 bytes → ⊥) → is_utf8 bytes ≡ t → t ≡ false
not_text bytes false never e = refl
not_text bytes true never e = absurd (never (IsUtf8-from_is_utf8 bytes e))

-- what UTF-8's reader answers tells whether bytes are UTF-8
pub text_test : {S E : Type 0} (r : Result S E) (P : S → Type 0) (Q : E → Type 0) (bytes : List ℕ) → MatchResult r (λ s. P s × IsUtf8 bytes) (λ e. (¬ (IsUtf8 bytes)) × Q e) → is_ok r ≡ is_utf8 bytes
text_test (Ok s) P Q bytes h = sym (is_utf8-from_IsUtf8 bytes h.1)
text_test (Err e) P Q bytes h = sym (not_text bytes (is_utf8 bytes) h.0 refl)

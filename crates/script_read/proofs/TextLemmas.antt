-- Text as UTF-8, and the length of a line's text.
use Rattle.std.proofs.Common.{◌≡◌, ℕ, ◌≤◌, ◌<◌, ◌^◌, List, [], ◌∷◌, length, Bool, true, false, ◌==◌, if◌then◌else◌, refl, arith}
use Rattle.std.specs.Str.{is_utf8, IsUtf8}
use Rattle.std.proofs.lemmas.Str.{IsUtf8-from_is_utf8, is_utf8-from_IsUtf8}
use Rattle.byte_words.specs.Lines.{text_of, without_return, without_end, kept_before}
use Rattle.byte_words.specs.Words.{is_blank}
use Rattle.byte_words.proofs.LineLaws.{behind_is_shorter}

pub is_text : (bytes : List ℕ) → IsUtf8 bytes → is_utf8 bytes ≡ true
is_text bytes h = is_utf8-from_IsUtf8 bytes h

pub is_no_text : (bytes : List ℕ) → (IsUtf8 bytes → ⊥) → is_utf8 bytes ≡ false
is_no_text bytes h = go (is_utf8 bytes) refl
  where
    go : (b : Bool) → is_utf8 bytes ≡ b → b ≡ false
    go true e = absurd (h (IsUtf8-from_is_utf8 bytes e))
    go false e = refl

return_shorter : (line : List ℕ) → length (without_return line) ≤ length line
return_shorter [] = omega arith
return_shorter (b ∷ []) = elim (b == 13) as (λ v. length (if v then [] else b ∷ []) ≤ length (b ∷ [])) [ true ↦ omega arith | false ↦ omega arith ]
return_shorter (b ∷ c ∷ cs) = let k = return_shorter (c ∷ cs) in omega arith

kept_shorter : (b : ℕ) (rest : List ℕ) → length (kept_before b rest) ≤ length (b ∷ rest)
kept_shorter b [] = elim (is_blank b) as (λ v. length (if v then [] else b ∷ []) ≤ length (b ∷ [])) [ true ↦ omega arith | false ↦ omega arith ]
kept_shorter b (c ∷ cs) = omega arith

end_shorter : (bytes : List ℕ) → length (without_end bytes) ≤ length bytes
end_shorter [] = omega arith
end_shorter (b ∷ bs) = let k = end_shorter bs in let h = kept_shorter b (without_end bs) in omega arith

pub text_is_shorter : (line : List ℕ) → length (text_of line) ≤ length line
text_is_shorter line =
    let a : length (without_return line) ≤ length line = return_shorter line in
    let b : length (without_end (without_return line)) ≤ length (without_return line) = end_shorter (without_return line) in
    let c : length (text_of line) ≤ length (without_end (without_return line)) = behind_is_shorter is_blank (without_end (without_return line)) in
    omega arith

pub text_is_short : (line : List ℕ) → length line ≤ 65535 → length (text_of line) < 2 ^ 32
text_is_short line h = let k : length (text_of line) ≤ length line = text_is_shorter line in omega arith

-- A window over bytes grows.
use Rattle.std.proofs.Common.{◌≡◌, ℕ, zero, suc, ◌+◌, ◌-◌, ◌<◌, ◌≤◌, List, [], ◌∷◌, ◌++◌, length, take, drop, refl, sym, ap, ◌∙◌, subst, arith, length-append, length-drop}
use Rattle.std.proofs.lemmas.List.{append-nil, drop-drop}
use Rattle.std.specs.Io.{StartsWith}

pub take_all : (n : ℕ) (xs : List ℕ) → length xs ≤ n → take n xs ≡ xs
take_all zero [] h = refl
take_all zero (x ∷ xs) h = absurd (omega arith)
take_all (suc n) [] h = refl
take_all (suc n) (x ∷ xs) h = ap (λ (l : List ℕ). x ∷ l) (take_all n xs (omega arith))

-- what stands behind a front
starts_more : (w xs p : List ℕ) → StartsWith xs w → StartsWith (drop (length w) xs) p → StartsWith xs (w ++ p)
starts_more [] xs p s t = t
starts_more (a ∷ w) [] p s t = absurd (cc)
starts_more (a ∷ w) (x ∷ xs) p s t =
    ap (λ (l : List ℕ). x ∷ l) (starts_more w xs p (cc) t) ∙ ap (λ (k : ℕ). k ∷ (w ++ p)) (cc)

pub window_more : (bytes w p : List ℕ) (from : ℕ) → StartsWith (drop from bytes) w → StartsWith (drop (from + length w) bytes) p
    → StartsWith (drop from bytes) (w ++ p)
window_more bytes w p from s t =
    starts_more w (drop from bytes) p s (subst (λ (l : List ℕ). StartsWith l p) (sym (drop-drop (length w) from bytes)) t)

-- a front that is as long as the whole
pub starts_all : (w xs : List ℕ) → StartsWith xs w → length xs ≤ length w → w ≡ xs
starts_all w xs s n = sym s ∙ take_all (length w) xs n

pub window_is_all : (bytes w : List ℕ) (from : ℕ) → StartsWith (drop from bytes) w → length bytes ≤ from + length w → w ≡ drop from bytes
window_is_all bytes w from s n =
    let size : length (drop from bytes) ≡ length bytes - from = length-drop from bytes in
    let all : length bytes ≤ from + length w = n in
    starts_all w (drop from bytes) s (omega arith)

pub starts_within : (w xs : List ℕ) → StartsWith xs w → length w ≤ length xs
starts_within [] xs s = omega arith
starts_within (a ∷ w) [] s = absurd (cc)
starts_within (a ∷ w) (x ∷ xs) s = let h : length w ≤ length xs = starts_within w xs (cc) in omega arith

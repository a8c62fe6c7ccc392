-- Parts that are added one behind the other.
use Rattle.std.proofs.Common.{◌≡◌, ℕ, List, ◌++◌, Result, Ok, Err, OnOk, ap, ◌∙◌, append_assoc}

-- a part that was added, and then the rest
pub put_then : {T E : Type 0} (r : Result T E) (out mid new part rest : List ℕ) → mid ≡ out ++ part → OnOk r (new ≡ mid ++ rest)
    → OnOk r (new ≡ out ++ (part ++ rest))
put_then (Ok x) out mid new part rest one two = two ∙ ap (λ (l : List ℕ). l ++ rest) one ∙ append_assoc out part rest
put_then (Err e) out mid new part rest one two = tt

-- two or three parts that were added at once, and then the rest
pub two_then : {T E : Type 0} (r : Result T E) (out mid new a b rest : List ℕ) → mid ≡ out ++ (a ++ b) → OnOk r (new ≡ mid ++ rest)
    → OnOk r (new ≡ out ++ (a ++ (b ++ rest)))
two_then (Ok x) out mid new a b rest one two =
    two ∙ ap (λ (l : List ℕ). l ++ rest) one ∙ append_assoc out (a ++ b) rest ∙ ap (λ (l : List ℕ). out ++ l) (append_assoc a b rest)
two_then (Err e) out mid new a b rest one two = tt

pub three_then : {T E : Type 0} (r : Result T E) (out mid new a b c rest : List ℕ) → mid ≡ out ++ (a ++ (b ++ c))
    → OnOk r (new ≡ mid ++ rest) → OnOk r (new ≡ out ++ (a ++ (b ++ (c ++ rest))))
three_then {E = E} (Ok x) out mid new a b c rest one two =
    two_then {E = E} (Ok x) out mid new a (b ++ c) rest one two ∙ ap (λ (l : List ℕ). out ++ (a ++ l)) (append_assoc b c rest)
three_then (Err e) out mid new a b c rest one two = tt

regrouped : (a b c d rest : List ℕ) → (a ++ (b ++ (c ++ d))) ++ rest ≡ a ++ (b ++ (c ++ (d ++ rest)))
regrouped a b c d rest = simp append_assoc

-- four parts that were added at once, and then the rest
pub four_then : {T E : Type 0} (r : Result T E) (out mid new a b c d rest : List ℕ) → mid ≡ out ++ (a ++ (b ++ (c ++ d)))
    → OnOk r (new ≡ mid ++ rest) → OnOk r (new ≡ out ++ (a ++ (b ++ (c ++ (d ++ rest)))))
four_then (Ok x) out mid new a b c d rest one two =
    two ∙ ap (λ (l : List ℕ). l ++ rest) one ∙ append_assoc out (a ++ (b ++ (c ++ d))) rest
    ∙ ap (λ (l : List ℕ). out ++ l) (regrouped a b c d rest)
four_then (Err e) out mid new a b c d rest one two = tt

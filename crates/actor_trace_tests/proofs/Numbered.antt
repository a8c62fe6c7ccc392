-- In a legal history each actor counts.
use Rattle.std.proofs.Common.{◌≡◌, ℕ, zero, suc, ◌+◌, Bool, true, false, cond, List, [], ◌∷◌, ◌++◌, length, map, sym, refl, ap, ◌∙◌, arith, length-append}
use Rattle.std.specs.Prelude.{◌==◌}
use Rattle.std.specs.List.{range_with_len}
use Rattle.std.proofs.lemmas.Bool.Decides.{Decides-eqb}
use Rattle.actor_trace.specs.History.{IsLegal, entries_of}
use Rattle.actor_trace.proofs.Joined.{map_snoc}
use Rattle.actor_trace_tests.specs.Counts.{IsNext}

pub range_snoc : (k n : ℕ) → range_with_len k (suc n) ≡ range_with_len k n ++ (k + n) ∷ []
range_snoc k zero = ap (λ t. t ∷ []) (let e : k ≡ k + 0 = omega arith in e)
range_snoc k (suc n) = ap (λ t. k ∷ t) (range_snoc (k + 1) n ∙ ap (λ t. range_with_len (k + 1) n ++ t ∷ []) (let e : k + 1 + n ≡ k + suc n = omega arith in e))

pub counts : (h : List (ℕ × ℕ)) (i : ℕ) → IsLegal (λ g j n. IsNext g j n) h → map (λ (x : ℕ × ℕ). x.1) (entries_of i h) ≡ range_with_len 0 (length (entries_of i h))
counts [] i legal = refl
counts (x ∷ h) i legal = go (counts h i legal.1) (i == x.0) refl
  where
    go : map (λ (y : ℕ × ℕ). y.1) (entries_of i h) ≡ range_with_len 0 (length (entries_of i h)) → (t : Bool) → (i == x.0) ≡ t → map (λ (y : ℕ × ℕ). y.1) (entries_of i (x ∷ h)) ≡ range_with_len 0 (length (entries_of i (x ∷ h)))
    go r false e = rw e r
    go r true e =
        let q : i ≡ x.0 = (Decides-eqb i x.0).0 e in
        let own : entries_of i (x ∷ h) ≡ entries_of i h ++ (length h, x.1) ∷ [] = ap (λ b. cond b (entries_of i h ++ (length h, x.1) ∷ []) (entries_of i h)) e in
        let value : x.1 ≡ length (entries_of i h) = legal.0 ∙ ap (λ (k : ℕ). length (entries_of k h)) (sym q) in
        let place : x.1 ≡ 0 + length (entries_of i h) = omega arith in
        let long : length (entries_of i h ++ (length h, x.1) ∷ []) ≡ length (entries_of i h) + 1 = length-append (entries_of i h) ((length h, x.1) ∷ []) in
        let same : length (entries_of i (x ∷ h)) ≡ length (entries_of i h ++ (length h, x.1) ∷ []) = ap length own in
        let size : suc (length (entries_of i h)) ≡ length (entries_of i (x ∷ h)) = omega arith in
        ap (λ es. map (λ (y : ℕ × ℕ). y.1) es) own
        ∙ (map_snoc (λ (y : ℕ × ℕ). y.1) (entries_of i h) (length h, x.1)
        ∙ (ap (λ ns. ns ++ x.1 ∷ []) r
        ∙ (ap (λ (k : ℕ). range_with_len 0 (length (entries_of i h)) ++ k ∷ []) place
        ∙ (sym (range_snoc 0 (length (entries_of i h))) ∙ ap (λ (k : ℕ). range_with_len 0 k) size))))

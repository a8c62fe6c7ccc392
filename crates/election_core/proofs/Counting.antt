-- One more node in a count.
use Rattle.std.proofs.Common.{◌≡◌, ℕ, ◌∙◌, bit_and, ◌/◌, ◌%◌, ◌^◌, ◌+◌, arith, refl, sym, add-one}
use Rattle.std.specs.Prelude.{◌==◌, Bool, true, false, cond}
use Rattle.core_lists.specs.Majorities.{count}
use Rattle.election_core.specs.Counts.{has_bit}
use Rattle.std.specs.Int.{bit_at}
use Rattle.std.proofs.lemmas.Grind.{common_steps}
use Rattle.std.proofs.lemmas.Bool.Decides.{Decides-eqb}

pub count_more : (q : ℕ → Bool) (k : ℕ) → count (k + 1) q ≡ cond (q (k + 1)) 1 0 + count k q
count_more q k = rw add-one refl

pub count_yes : (q : ℕ → Bool) (k : ℕ) → q (k + 1) ≡ true → count (k + 1) q ≡ count k q + 1
count_yes q k e = rw (count_more, e) (omega arith)

pub count_no : (q : ℕ → Bool) (k : ℕ) → q (k + 1) ≡ false → count (k + 1) q ≡ count k q
count_no q k e = rw (count_more, e) (omega arith)

pub bit_yes : (n k t u : ℕ) → t ≡ count k (λ j. has_bit n j) → bit_and (n / 2 ^ (k + 1)) 1 ≡ 1 → u ≡ t + 1 → u ≡ count (k + 1) (λ j. has_bit n j)
bit_yes n k t u e b f =
    let m : bit_and (n / 2 ^ (k + 1)) 1 ≡ n / 2 ^ (k + 1) % 2 = grind (arith, common_steps) in
    let y = count_yes (λ j. has_bit n j) k ((Decides-eqb (bit_at n (k + 1)) 1).1 (sym m ∙ b)) in
    omega arith

pub bit_no : (n k t u : ℕ) → t ≡ count k (λ j. has_bit n j) → (bit_and (n / 2 ^ (k + 1)) 1 ≡ 1 → ⊥) → u ≡ t → u ≡ count (k + 1) (λ j. has_bit n j)
bit_no n k t u e b f =
    let m : bit_and (n / 2 ^ (k + 1)) 1 ≡ n / 2 ^ (k + 1) % 2 = grind (arith, common_steps) in
    let y = count_no (λ j. has_bit n j) k (not_yes (bit_at n (k + 1) == 1) (λ h. b (m ∙ (Decides-eqb (bit_at n (k + 1)) 1).0 h))) in
    omega arith
  where
    not_yes : (b : Bool) → (b ≡ true → ⊥) → b ≡ false
    not_yes true h = absurd (h refl)
    not_yes false h = refl

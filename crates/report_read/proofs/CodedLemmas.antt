-- Texts and blobs, piece by piece.
use Rattle.std.proofs.Common.{◌≡◌, ℕ, List, [], ◌∷◌, ◌++◌, Some, None, refl, sym, ap, ◌∙◌, append_assoc}
use Rattle.std.proofs.lemmas.Bool.{ne_eqb}
use Rattle.std.proofs.lemmas.List.{append-nil}
use Rattle.byte_words.specs.Words.{◌>>=◌}
use Rattle.report_read.specs.Reading.{Read, put, quoted_at, hexadecimal_at, byte_of}

pub quoted_byte : (b : ℕ) (rest : List ℕ) → (b ≡ 39 → ⊥) → quoted_at (b ∷ rest) ≡ put b (quoted_at rest)
unfolding quoted_at
quoted_byte b [] other = let e = ne_eqb b 39 other in rw e refl
quoted_byte b (c ∷ rest) other = let e = ne_eqb b 39 other in rw e refl

pub hexadecimal_end : (rest : List ℕ) → hexadecimal_at (39 ∷ rest) ≡ Some ([], rest)
unfolding hexadecimal_at
hexadecimal_end [] = refl
hexadecimal_end (c ∷ rest) = refl

pub hexadecimal_digits : (high low x : ℕ) (rest : List ℕ) → (high ≡ 39 → ⊥) → byte_of high low ≡ Some x → hexadecimal_at (high ∷ low ∷ rest) ≡ put x (hexadecimal_at rest)
unfolding hexadecimal_at
hexadecimal_digits high low x rest other h = let e = ne_eqb high 39 other in rw (e, h) refl

pub hexadecimal_dead : (high low : ℕ) (rest : List ℕ) → (high ≡ 39 → ⊥) → byte_of high low ≡ None → hexadecimal_at (high ∷ low ∷ rest) ≡ None
unfolding hexadecimal_at
hexadecimal_dead high low rest other h = let e = ne_eqb high 39 other in rw (e, h) refl

pub hexadecimal_odd : (high : ℕ) → (high ≡ 39 → ⊥) → hexadecimal_at (high ∷ []) ≡ None
unfolding hexadecimal_at
hexadecimal_odd high other = let e = ne_eqb high 39 other in rw e refl

-- what was read before, and what is still read
abbrev pub with_front : {A : Type 0} → List A → Read (List A) → Read (List A)
with_front front read = read >>= (λ x. Some (front ++ x.0, x.1))

regroup : {A : Type 0} (front : List A) (a : A) (read : Read (List A)) → with_front front (read >>= (λ x. Some (a ∷ x.0, x.1))) ≡ with_front (front ++ a ∷ []) read
regroup front a None = refl
regroup front a (Some x) = ap (λ xs. Some (xs, x.1)) (sym (append_assoc front (a ∷ []) x.0))

pub front_more : {A : Type 0} (front : List A) (a : A) (here later total : Read (List A)) → with_front front here ≡ total → here ≡ (later >>= (λ x. Some (a ∷ x.0, x.1))) → with_front (front ++ a ∷ []) later ≡ total
front_more front a here later total so_far h = sym (regroup front a later) ∙ ap (with_front front) (sym h) ∙ so_far

pub front_end : {A : Type 0} (front : List A) (rest : List ℕ) (here total : Read (List A)) → with_front front here ≡ total → here ≡ Some ([], rest) → total ≡ Some (front, rest)
front_end front rest here total so_far h = sym so_far ∙ ap (with_front front) h ∙ ap (λ xs. Some (xs, rest)) (append-nil front)

pub front_dead : {A : Type 0} (front : List A) (here total : Read (List A)) → with_front front here ≡ total → here ≡ None → total ≡ None
front_dead front here total so_far h = sym so_far ∙ ap (with_front front) h

pub front_none : {A : Type 0} (read : Read (List A)) → with_front [] read ≡ read
front_none None = refl
front_none (Some x) = refl

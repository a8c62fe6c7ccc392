-- How many first tables are the same, and where given tables differ from those of a log.
use Rattle.std.proofs.Common.{◌≡◌, ℕ, zero, suc, ◌+◌, ◌<◌, ◌≤◌, List, [], ◌∷◌, length, take, Some, slice_get, refl, sym, ◌∙◌, ap, arith, add-one}
use Rattle.std.proofs.lemmas.Option.{slice_get_within}
use Rattle.cdb_values.specs.declared.tables.TableDef.{TableDef}
use Rattle.node_opening.specs.Tables.{AreSame, IsSameAt}

-- one more
take_more : {A : Type 0} (xs ys : List A) (n : ℕ) (x : A) → slice_get xs n ≡ Some x → slice_get ys n ≡ Some x → take n xs ≡ take n ys
    → take (suc n) xs ≡ take (suc n) ys
take_more [] ys n x a b e = absurd (cc)
take_more (v ∷ xs) [] n x a b e = absurd (cc)
take_more (v ∷ xs) (w ∷ ys) zero x a b e = let h : Some v ≡ Some w = a ∙ sym b in ap (λ z. z ∷ []) (cc)
take_more (v ∷ xs) (w ∷ ys) (suc n) x a b e =
    let h : v ∷ take n xs ≡ w ∷ take n ys = e in
    let head : v ≡ w = cc in
    let tail : take n xs ≡ take n ys = cc in
    ap (λ z. z ∷ take (suc n) xs) head ∙ ap (λ l. w ∷ l) (take_more xs ys n x a b tail)

pub record IsFirst (given logged : List TableDef) (count : ℕ) : Type 0 where
  pub within : count ≤ length given
  pub first : take count given ≡ take count logged

pub first_more : (given logged : List TableDef) (count : ℕ) → IsSameAt given logged count → IsFirst given logged count → IsFirst given logged (count + 1)
first_more given logged count at before =
    let inside : count < length given = slice_get_within given count at.table at.given_is in
    record {
      within = omega arith;
      first = rw (add-one count) (take_more given logged count at.table at.given_is at.logged_is before.first);
    }

there_is : {A : Type 0} (xs : List A) (n : ℕ) → n < length xs → (x : A) × (slice_get xs n ≡ Some x)
there_is [] n h = absurd (omega arith)
there_is (x ∷ xs) zero h = (x, refl)
there_is (x ∷ xs) (suc n) h = there_is xs n (omega arith)

pub first_ends : (given logged : List TableDef) (count : ℕ) → (IsSameAt given logged count → ⊥) → IsFirst given logged count → AreSame given logged count
first_ends given logged count other before = record {
  within = before.within;
  first = before.first;
  differs = λ inside same.
      let here = there_is given count inside in
      other (record { table = here.0; given_is = here.1; logged_is = sym same ∙ here.1 });
}

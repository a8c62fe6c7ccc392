-- Lists, at places and as a whole.
use Rattle.std.proofs.Common.{◌≡◌, ℕ, zero, suc, ◌<◌, ◌||◌, Bool, true, false, if◌then◌else◌, List, [], ◌∷◌, ◌++◌, length, drop, Some, unwrap_or, refl, sym, ap, subst, arith}
use Rattle.std.proofs.lemmas.Option.{none-some, same_Some}
use Rattle.std.proofs.lemmas.Bool.{false≢true}
use Rattle.std.specs.List.{AllByRecursion, slice_get, slice_set}

pub append_none : {A : Type 0} (xs : List A) → xs ++ [] ≡ xs
append_none [] = refl
append_none (x ∷ xs) = ap (λ l. x ∷ l) (append_none xs)

-- the item behind a list
pub get_middle : {A : Type 0} (xs : List A) (y : A) (ys : List A) → slice_get (xs ++ y ∷ ys) (length xs) ≡ Some y
get_middle [] y ys = refl
get_middle (x ∷ xs) y ys = get_middle xs y ys

pub set_middle : {A : Type 0} (xs : List A) (y z : A) (ys : List A) → slice_set (xs ++ y ∷ ys) (length xs) z ≡ (xs ++ z ∷ []) ++ ys
set_middle [] y z ys = refl
set_middle (x ∷ xs) y z ys = ap (λ l. x ∷ l) (set_middle xs y z ys)

pub set_none : {A : Type 0} (xs : List A) (y : A) (ys : List A) → xs ++ y ∷ ys ≡ (xs ++ y ∷ []) ++ ys
set_none [] y ys = refl
set_none (x ∷ xs) y ys = ap (λ l. x ∷ l) (set_none xs y ys)

pub get_some : {A : Type 0} (xs : List A) (i : ℕ) → i < length xs → (x : A) × (slice_get xs i ≡ Some x)
get_some [] i h = absurd (none i h)
  where
    none : (i : ℕ) → i < 0 → ⊥
    none i h = omega arith
get_some (x ∷ xs) zero h = (x, refl)
get_some (x ∷ xs) (suc i) h = get_some xs i (omega arith)

pub drop_at : {A : Type 0} (xs : List A) (i : ℕ) (x : A) → slice_get xs i ≡ Some x → drop i xs ≡ x ∷ drop (suc i) xs
drop_at [] i x h = absurd (none-some x h)
drop_at (y ∷ ys) zero x h = ap (λ z. z ∷ ys) (same_Some y x h)
drop_at (y ∷ ys) (suc i) x h = drop_at ys i x h

-- what is true of all items
pub all_set : {A : Type 0} (P : A → Type 0) (xs : List A) (i : ℕ) (x : A) → AllByRecursion P xs → (i < length xs → P x) → AllByRecursion P (slice_set xs i x)
all_set P [] zero x h p = tt
all_set P [] (suc i) x h p = tt
all_set P (y ∷ ys) zero x h p = (p (omega arith), h.1)
all_set P (y ∷ ys) (suc i) x h p = (h.0, all_set P ys i x h.1 (λ l. p (omega (arith, l))))

pub all_map : {A : Type 0} (P Q : A → Type 0) (xs : List A) → ((x : A) → P x → Q x) → AllByRecursion P xs → AllByRecursion Q xs
all_map P Q [] f h = tt
all_map P Q (x ∷ xs) f h = (f x h.0, all_map P Q xs f h.1)

pub all_end : {A : Type 0} (P : A → Type 0) (xs : List A) (x : A) → AllByRecursion P xs → P x → AllByRecursion P (xs ++ x ∷ [])
all_end P [] x h p = (p, tt)
all_end P (y ∷ ys) x h p = (h.0, all_end P ys x h.1 p)

pub all_or : {A : Type 0} (P : List A → Type 0) (xs : List (List A)) (t : ℕ) → P [] → AllByRecursion P xs → P (unwrap_or (slice_get xs t) [])
all_or P [] zero none a = none
all_or P [] (suc t) none a = none
all_or P (x ∷ xs) zero none a = a.0
all_or P (x ∷ xs) (suc t) none a = all_or P xs t none a.1

pub all_none : {A : Type 0} (P : A → Type 0) (xs : List A) → xs ≡ [] → AllByRecursion P xs
all_none P xs e = subst (AllByRecursion P) (sym e) tt

-- an item that stands in front where a test is true
pub all_behind : {A : Type 0} (P : A → Type 0) (t : Bool) (x : A) (xs : List A) → AllByRecursion P (if t then x ∷ xs else xs) → AllByRecursion P xs
all_behind P true x xs h = h.1
all_behind P false x xs h = h

pub all_front : {A : Type 0} (P : A → Type 0) (t : Bool) (x : A) (xs : List A) → t ≡ true → AllByRecursion P (if t then x ∷ xs else xs) → P x
all_front P true x xs e h = h.0
all_front P false x xs e h = absurd (false≢true e)

pub or_false : (a b : Bool) → (a || b) ≡ false → (a ≡ false) × (b ≡ false)
or_false true b h = absurd (false≢true (sym h))
or_false false b h = (refl, h)

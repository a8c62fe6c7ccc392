-- Laws of lists of which each member is such: look-ups, exchanges, filters and parts.
use Rattle.std.proofs.Common.{ℕ, zero, suc, List, [], ◌∷◌, ◌++◌, filter, Bool, true, false, if◌then◌else◌, unwrap_or}
use Rattle.std.specs.Prelude.{slice_get, slice_set}
use Rattle.std.specs.List.{AllByRecursion}

-- what holds of each item holds of one that is looked up, and of a list with one exchanged
pub all_got : {A : Type 0} (P : A → Type 0) (xs : List A) (i : ℕ) (other : A) → AllByRecursion P xs → P other → P (unwrap_or (slice_get xs i) other)
all_got P [] i other all is = is
all_got P (x ∷ xs) zero other all is = all.0
all_got P (x ∷ xs) (suc i) other all is = all_got P xs i other all.1 is

pub all_exchanged : {A : Type 0} (P : A → Type 0) (xs : List A) (i : ℕ) (x : A) → AllByRecursion P xs → P x → AllByRecursion P (slice_set xs i x)
all_exchanged P [] i x all is = tt
all_exchanged P (y ∷ xs) zero x all is = (is, all.1)
all_exchanged P (y ∷ xs) (suc i) x all is = (all.0, all_exchanged P xs i x all.1 is)

all_or : {A : Type 0} (P : A → Type 0) (b : Bool) (x : A) (xs : List A) → P x → AllByRecursion P xs → AllByRecursion P (if b then x ∷ xs else xs)
all_or P true x xs is all = (is, all)
all_or P false x xs is all = all

pub all_filtered : {A : Type 0} (P : A → Type 0) (test : A → Bool) (xs : List A) → AllByRecursion P xs → AllByRecursion P (filter test xs)
all_filtered P test [] all = tt
all_filtered P test (x ∷ xs) all = all_or P (test x) x (filter test xs) all.0 (all_filtered P test xs all.1)

pub all_behind : {A : Type 0} (P : A → Type 0) (xs ys : List A) → AllByRecursion P (xs ++ ys) → AllByRecursion P ys
all_behind P [] ys all = all
all_behind P (x ∷ xs) ys all = all_behind P xs ys all.1

-- what stands in a list has what each has
pub all_standing : {A : Type 0} (P : A → Type 0) (front back : List A) (x : A) → AllByRecursion P (front ++ x ∷ back) → P x
all_standing P [] back x all = all.0
all_standing P (y ∷ front) back x all = all_standing P front back x all.1

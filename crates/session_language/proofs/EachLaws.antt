-- Laws of lists whose members are right after those before them, and of look-ups in lists that grow.
use Rattle.std.proofs.Common.{◌≡◌, ℕ, zero, suc, ◌<◌, List, [], ◌∷◌, ◌++◌, length, refl, sym, subst, ap, arith, append_assoc, Some, ◌∙◌}
use Rattle.std.proofs.lemmas.List.{append-nil}
use Rattle.std.specs.List.{AllByRecursion, slice_get}
use Rattle.session_language.specs.Each.{EachAfter, StandsIn}

-- a list with two ends joined
pub each_append : {A : Type 0} (P : List A → A → Type 0) (before xs ys : List A) → EachAfter P before xs → EachAfter P (before ++ xs) ys → EachAfter P before (xs ++ ys)
each_append P before [] ys e f = subst (λ b. EachAfter P b ys) (append-nil before) f
each_append P before (x ∷ xs) ys e f =
    (e.0, each_append P (before ++ x ∷ []) xs ys e.1 (subst (λ b. EachAfter P b ys) (sym (append_assoc before (x ∷ []) xs)) f))

pub all_append : {A : Type 0} (P : A → Type 0) (xs ys : List A) → AllByRecursion P xs → AllByRecursion P ys → AllByRecursion P (xs ++ ys)
all_append P [] ys a b = b
all_append P (x ∷ xs) ys a b = (a.0, all_append P xs ys a.1 b)

pub all_front : {A : Type 0} (P : A → Type 0) (xs ys : List A) → AllByRecursion P (xs ++ ys) → AllByRecursion P xs
all_front P [] ys a = tt
all_front P (x ∷ xs) ys a = (a.0, all_front P xs ys a.1)

pub all_map : {A : Type 0} (P Q : A → Type 0) → ((x : A) → P x → Q x) → (xs : List A) → AllByRecursion P xs → AllByRecursion Q xs
all_map P Q f [] a = tt
all_map P Q f (x ∷ xs) a = (f x a.0, all_map P Q f xs a.1)

-- what stands in a list stands in each longer one
pub stands_more : {A : Type 0} (xs ys : List A) (x : A) → StandsIn xs x → StandsIn (xs ++ ys) x
stands_more xs ys x (front, back, is) =
    (front, back ++ ys, ap (λ zs. zs ++ ys) is ∙ append_assoc front (x ∷ back) ys)

-- and what is added stands in it
pub stands_added : {A : Type 0} (xs ys : List A) (x : A) → StandsIn ys x → StandsIn (xs ++ ys) x
stands_added xs ys x (front, back, is) =
    (xs ++ front, back, ap (λ zs. xs ++ zs) is ∙ sym (append_assoc xs front (x ∷ back)))

pub get_front : {A : Type 0} (xs ys : List A) (k : ℕ) → k < length xs → slice_get (xs ++ ys) k ≡ slice_get xs k
get_front [] ys k h = absurd (omega arith)
get_front (x ∷ xs) ys zero h = refl
get_front (x ∷ xs) ys (suc k) h = get_front xs ys k (omega arith)

pub get_next : {A : Type 0} (xs : List A) (y : A) (ys : List A) → slice_get (xs ++ y ∷ ys) (length xs) ≡ Some y
get_next [] y ys = refl
get_next (x ∷ xs) y ys = get_next xs y ys

-- what holds of each member of a list holds of one that is found
pub all_found : {A : Type 0} (P : A → Type 0) (xs : List A) (k : ℕ) (x : A) → AllByRecursion P xs → slice_get xs k ≡ Some x → P x
all_found P [] k x all is = absurd cc
all_found P (y ∷ ys) zero x all is = subst P (let same : y ≡ x = cc in same) all.0
all_found P (y ∷ ys) (suc k) x all is = all_found P ys k x all.1 is

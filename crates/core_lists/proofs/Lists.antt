-- Facts on each element, and on lists of one.
use Rattle.std.proofs.Common.{◌≢◌, List, [], ◌∷◌}
use Rattle.core_lists.specs.Lists.{In, Each}
use Rattle.core_lists.specs.Lists.In.{here, there}

pub each_add : {A : Type 0} {P : A → Type 0} {x : A} {xs : List A} → P x → Each P xs → Each P (x ∷ xs)
each_add {A} {P} {x} {xs} p old = record { at = go }
  where
    go : (y : A) → In y (x ∷ xs) → P y
    go y here = p
    go y (there h) = old.at y h

pub each_none : {A : Type 0} {P : A → Type 0} → Each P []
each_none = record { at = λ x h. none h }
  where
    none : {A B : Type 0} {x : A} → In x [] → B
    none h = elim h [ ]

pub nothing : {A : Type 0} {x : A} → In x [] → ⊥
nothing h = elim h [ ]

pub each_more : {A : Type 0} {P Q : A → Type 0} {xs : List A} → ((x : A) → P x → Q x) → Each P xs → Each Q xs
each_more f e = record { at = λ x h. f x (e.at x h) }

pub has_one : {A : Type 0} (x : A) → x ∷ [] ≢ []
has_one x e = absurd (cc)

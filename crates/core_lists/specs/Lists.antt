-- What stands in a list.
use Rattle.std.specs.Prelude.{List, ◌∷◌}

-- x stands in the list
pub data In {A : Type 0} : A → List A → Type 0 where
  here : {x : A} {xs : List A} → In x (x ∷ xs)
  there : {x y : A} {xs : List A} → In x xs → In x (y ∷ xs)

-- P holds of each element
pub record Each {A : Type 0} (P : A → Type 0) (xs : List A) : Type 0 where
  pub at : (x : A) → In x xs → P x

-- P holds of some element
pub record Has {A : Type 0} (P : A → Type 0) (xs : List A) : Type 0 where
  pub it : A
  pub mem : In it xs
  pub is : P it

-- Of two lists one may be a front of the other.
use Rattle.std.specs.Prelude.{List, [], ◌∷◌}

-- ys begins with xs
pub data Front {A : Type 0} : List A → List A → Type 0 where
  front_nil : {ys : List A} → Front [] ys
  front_cons : {x : A} {xs ys : List A} → Front xs ys → Front (x ∷ xs) (x ∷ ys)

-- Facts about the members of a list and what stands before them.
use Rattle.std.specs.Prelude.{◌≡◌, ◌++◌, ◌∷◌, [], List}

-- each member is right after those that stand before it
abbrev pub EachAfter : {A : Type 0} → (List A → A → Type 0) → List A → List A → Type 0
EachAfter P before [] = Unit {0}
EachAfter P before (x ∷ xs) = P before x × EachAfter P (before ++ x ∷ []) xs

-- a member stands somewhere in a list
abbrev pub StandsIn : {A : Type 0} → List A → A → Type 0
StandsIn {A} xs x = (front : List A) × (back : List A) × (xs ≡ front ++ x ∷ back)

-- The refused place of a list that spells nothing: the tokens before it begin a spelling, and with the token that
-- stands there they begin none. Where the list ends there, it begins a spelling and is none itself.
use Rattle.std.specs.Prelude.{List, [], ◌∷◌, ◌++◌}
use Rattle.grammar_forms.specs.Forms.{Spelling}

abbrev pub Begins : {T A : Type 0} → Spelling T A → List T → Type 0
Begins {T} {A} S w = (x : A) × (v : List T) × S x (w ++ v)

abbrev pub IsFault : {T A : Type 0} → Spelling T A → List T → List T → Type 0
IsFault {T} {A} S w [] = Begins S w × ((x : A) → S x w → ⊥)
IsFault S w (t ∷ ts) = Begins S w × (Begins S (w ++ (t ∷ [])) → ⊥)

-- Signs, and that the longest one is taken.
use Rattle.std.specs.Prelude.{◌≡◌, ℕ, List, ◌∷◌, ◌++◌, ◌⊎◌, codes}
use Rattle.sql_tokens.specs.declared.kinds.Sign.{Sign}
use Rattle.sql_tokens.specs.declared.kinds.Sign.TheVariants.{Open, Close, Comma, Dot, Semicolon, Star, Equal, NotEqual, Less, LessEqual, Greater, GreaterEqual, Plus, Minus}

-- w spells the sign
abbrev pub SpellsSign : Sign → List ℕ → Type 0
SpellsSign Open w = w ≡ codes "("
SpellsSign Close w = w ≡ codes ")"
SpellsSign Comma w = w ≡ codes ","
SpellsSign Dot w = w ≡ codes "."
SpellsSign Semicolon w = w ≡ codes ";"
SpellsSign Star w = w ≡ codes "*"
SpellsSign Equal w = w ≡ codes "="
SpellsSign NotEqual w = (w ≡ codes "<>") ⊎ (w ≡ codes "!=")
SpellsSign Less w = w ≡ codes "<"
SpellsSign LessEqual w = w ≡ codes "<="
SpellsSign Greater w = w ≡ codes ">"
SpellsSign GreaterEqual w = w ≡ codes ">="
SpellsSign Plus w = w ≡ codes "+"
SpellsSign Minus w = w ≡ codes "-"

-- w spells the sign, and w with more of what stands behind it spells none
pub record IsSign (s : Sign) (w rest : List ℕ) : Type 0 where
  pub spelled : SpellsSign s w
  pub longest : (longer : Sign) (b : ℕ) (more after : List ℕ) → rest ≡ (b ∷ more) ++ after → SpellsSign longer (w ++ (b ∷ more)) → ⊥

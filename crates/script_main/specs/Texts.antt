-- The texts that are no report.
use Rattle.std.specs.Prelude.{ℕ, ◌++◌, ◌∷◌, [], List, codes}
use Rattle.std.specs.Fmt.{decimal}

abbrev pub usage_text : List ℕ
usage_text = codes "usage: cdb play|run|fill N [--stores DIR]" ++ (10 ∷ [])

abbrev pub refused_text : ℕ → ℕ → List ℕ
refused_text line why = codes "refused " ++ (decimal line ++ (32 ∷ (decimal why ++ (10 ∷ []))))

-- a store has a bad frame there, or another's header, at 0
abbrev pub store_text : ℕ → ℕ → List ℕ
store_text node at = codes "store " ++ (decimal node ++ (32 ∷ (decimal at ++ (10 ∷ []))))

-- the log of a store is not sound
abbrev pub unsound_text : ℕ → List ℕ
unsound_text node = codes "unsound " ++ (decimal node ++ (10 ∷ []))

-- What a store has where its opening was cut off.
use Rattle.std.specs.Prelude.{◌⊎◌, ℕ, List}
use Rattle.cdb_outside.specs.Parts.{IsFront}

-- a front of the bytes before, or of those that were to be written in their place
abbrev pub IsPart : List ℕ → List ℕ → List ℕ → Type 0
IsPart old written new = IsFront new old ⊎ IsFront new written

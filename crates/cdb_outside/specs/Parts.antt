-- Front parts of a list of bytes: what a call that failed may have done of its work.
use Rattle.std.specs.Prelude.{◌≡◌, ℕ, ◌≤◌, List, take, Option}
use Rattle.std.specs.Io.KnownBytes.{Appends, Consumes}

-- the part is some front of the whole, perhaps none of it or all of it
abbrev pub IsFront : List ℕ → List ℕ → Type 0
IsFront part whole = (n : ℕ) × (part ≡ take n whole)

-- the part is a front of the whole that is at least so long
abbrev pub IsFrontFrom : ℕ → List ℕ → List ℕ → Type 0
IsFrontFrom least part whole = (n : ℕ) × (least ≤ n) × (part ≡ take n whole)

-- known bytes grew by some front of the text
abbrev pub AppendsFront : Option (List ℕ) → Option (List ℕ) → List ℕ → Type 0
AppendsFront old new text = (n : ℕ) × Appends old new (take n text)

-- known bytes lost some front of their own
abbrev pub ConsumesSome : Option (List ℕ) → Option (List ℕ) → Type 0
ConsumesSome old new = (bytes : List ℕ) × Consumes old new bytes

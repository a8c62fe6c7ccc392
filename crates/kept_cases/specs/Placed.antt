-- When the calls of a log may be made.
use Rattle.std.specs.Prelude.{◌≡◌, ℕ, [], true, false}
use Rattle.frame_code.specs.Spelled.{IsSpelled}
use Rattle.frame_code.specs.declared.frames.Frame.TheVariants as frame
use Rattle.phys_log.specs.Logs.{records_of}
use Rattle.phys_log.specs.declared.entries.Entry.{Entry}
use Rattle.store_log.specs.Held.{generation_of}
use Rattle.kept_cases.specs.declared.steps.Place.{Place}
use Rattle.kept_cases.specs.declared.steps.Place.TheVariants.{Open, Stopped}

-- a log stands where it is told to
abbrev pub IsPlaced : Place → Type 0
IsPlaced (Open log) = log.is_open ≡ true
IsPlaced (Stopped log) = log.is_open ≡ false

-- an entry of a generation, without records, that has a spelling
pub record IsPlain (generation : ℕ) (entry : Entry) : Type 0 where
  pub of : generation_of entry ≡ generation
  pub none : records_of entry ≡ []
  pub spelled : IsSpelled (frame.Entry entry)

-- Parts of a list are gone over from the front.
use Rattle.std.proofs.Common.{List}
use Rattle.std.specs.List.{AllByRecursion}

-- all parts of the whole are right exactly where all of the rest are
pub record IsRest {A : Type 0} (P : A → Type 0) (rest whole : List A) : Type 0 where
  pub all : AllByRecursion P rest → AllByRecursion P whole
  pub each : AllByRecursion P whole → AllByRecursion P rest

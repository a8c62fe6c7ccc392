-- Two lists are compared from the front.
use Rattle.std.proofs.Common.{◌≡◌, List}

-- two lists are the same exactly where what is left of them is
pub record AreRests {A : Type 0} (rest others a b : List A) : Type 0 where
  pub same : rest ≡ others → a ≡ b
  pub each : a ≡ b → rest ≡ others

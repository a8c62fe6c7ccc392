-- That a step found a token at the front.
use Rattle.std.proofs.Common.{◌≡◌, ℕ, List, ◌++◌, length}
use Rattle.sql_tokens.specs.Token.{IsToken}
use Rattle.sql_tokens.specs.declared.found.Found.{Found}

pub record IsFound (bs : List ℕ) (f : Found) : Type 0 where
  pub front : List ℕ
  pub rest : List ℕ
  pub whole : bs ≡ front ++ rest
  pub size : length front ≡ f.size
  pub token : IsToken f.token front rest

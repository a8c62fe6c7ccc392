use Rattle.sql_tokens.proofs.ListLaws.{tokens_in_bounds as law}
use Rattle.sql_tokens.proofs.names_and_numbers_are_in_bounds.Goals as goal

pub returns : goal.returns
returns c = law

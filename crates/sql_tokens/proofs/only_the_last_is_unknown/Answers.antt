use Rattle.sql_tokens.proofs.ListLaws.{unknown_last as law}
use Rattle.sql_tokens.proofs.only_the_last_is_unknown.Goals as goal

pub returns : goal.returns
returns c = law

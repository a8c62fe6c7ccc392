use Rattle.sql_tokens.proofs.ListLaws.{has_tokens as law}
use Rattle.sql_tokens.proofs.every_text_has_tokens.Goals as goal

pub returns : goal.returns
returns c = law

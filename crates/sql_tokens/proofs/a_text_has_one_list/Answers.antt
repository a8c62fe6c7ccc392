use Rattle.sql_tokens.proofs.ListLaws.{one_list as law}
use Rattle.sql_tokens.proofs.a_text_has_one_list.Goals as goal

pub returns : goal.returns
returns c = law

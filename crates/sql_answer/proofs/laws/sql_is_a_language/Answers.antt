use Rattle.sql_answer.proofs.LanguageLemmas.{sql_answers}
use Rattle.sql_answer.proofs.laws.sql_is_a_language.Goals as goal

pub returns : goal.returns
returns c = record { any = sql_answers }

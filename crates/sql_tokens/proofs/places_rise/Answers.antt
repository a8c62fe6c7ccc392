use Rattle.sql_tokens.proofs.ListLaws.{places_rise as law}
use Rattle.sql_tokens.proofs.places_rise.Goals as goal

pub returns : goal.returns
returns c = law

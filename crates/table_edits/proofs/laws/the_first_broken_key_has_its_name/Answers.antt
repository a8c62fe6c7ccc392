use Rattle.table_edits.proofs.BrokenLemmas.{first_is_named, first_is_told}
use Rattle.table_edits.proofs.laws.the_first_broken_key_has_its_name.Goals as goal

pub returns-clause-named : goal.returns-clause-named
returns-clause-named c = first_is_named

pub returns-clause-told : goal.returns-clause-told
returns-clause-told c = first_is_told

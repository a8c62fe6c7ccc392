use Rattle.script_read.proofs.KindLemmas.{folded}
use Rattle.script_read.proofs.kinds.is_create_word.Goals as goal

pub returns : goal.returns
returns c = folded c.args.word.now c.eq_ignore_ascii_case.result c.eq_ignore_ascii_case.ensures.test

use Rattle.script_read.proofs.LimitLemmas.{later_bytes}
use Rattle.script_read.proofs.laws.later_bytes_do_not_matter.Goals as goal

pub returns : goal.returns
returns c = later_bytes

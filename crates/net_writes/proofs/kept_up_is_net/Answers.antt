use Rattle.net_writes.proofs.SlotLemmas.{kept, numbers, again}
use Rattle.net_writes.proofs.kept_up_is_net.Goals as goal

pub returns : goal.returns
returns c = record { kept = kept; numbers = numbers; again = again }

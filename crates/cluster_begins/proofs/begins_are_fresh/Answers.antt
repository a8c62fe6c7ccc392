use Rattle.cluster_begins.proofs.Since.{fresh_begin, led_before}
use Rattle.cluster_begins.proofs.begins_are_fresh.Goals as goal

pub returns-clause-fresh : goal.returns-clause-fresh
returns-clause-fresh g c = fresh_begin

pub returns-clause-led : goal.returns-clause-led
returns-clause-led g c = led_before

use Rattle.std.proofs.Common.{◌≡◌, length}
use Rattle.history_base.specs.Tail.{first_led as first_of_leads}
use Rattle.history_base.proofs.tails.first_led.Given as goal

abbrev pub invariant-leads : goal.invariant-leads
invariant-leads l = first_of_leads l.all l.found l.rest ≡ first_of_leads l.all l.fn.found l.leads

abbrev pub decreases-leads : goal.decreases-leads
decreases-leads l = length l.rest

use Rattle.std.proofs.Common.{ℕ, List, sym, subst, ap}
use Rattle.store_log.specs.declared.standings.Standing.TheVariants.{Log}
use Rattle.store_log.specs.Held.{StandsFor}
use Rattle.stopped_log.specs.Stopped.{Stopped}
use Rattle.stopped_log.proofs.stopped.StoppedLog.stop.Goals as goal

pub returns-clause-holds : goal.returns-clause-holds
returns-clause-holds g c = λ up.
    let l = c.args.log in
    subst (λ (bytes : List ℕ). ∥ StandsFor l.node l.cluster bytes (Log l.promised l.accepted l.entries) ∥₁)
    (sym (ap (λ (s : Stopped). s.synced) c.new.ensures)) (c.into_parts-entries.ensures.stands up)

use Rattle.std.proofs.Common.{ap, sym, ◌∙◌}
use Rattle.kept_log.proofs.KeptLemmas.{stop_holds, stop_is}
use Rattle.kept_log.specs.Kept.{OverStore}
use Rattle.kept_log.proofs.logs.KeptLog.stop.Goals as goal

pub returns-clause-stopped : goal.returns-clause-stopped
returns-clause-stopped g c =
    stop_is c.take_open-log.result c.args.self.now _ (sym c.self.view_is ∙ c.take_open-log.ensures.is) c.stopped.ensures.is

pub returns-clause-holds : goal.returns-clause-holds
returns-clause-holds g c =
    stop_holds c.take_open-log.result c.args.self.now _ (sym c.self.view_is ∙ c.take_open-log.ensures.is) c.stopped.ensures.is
    (c.stopped.ensures.holds c.take_open-log.ensures.running)

pub take_open-log-requires-clause-running : goal.take_open-log-requires-clause-running
take_open-log-requires-clause-running g c = ap (λ (x : OverStore). x.is_open) c.self.view_is ∙ c.requires.running

use Rattle.std.proofs.Common.{ℕ, List, IfOk, sym, subst, ◌∙◌}
use Rattle.std.specs.Io.{StartsWith}
use Rattle.store_log.specs.declared.finds.Found.{Found}
use Rattle.store_log.specs.Walks.{IsFound}
use Rattle.store_log.proofs.FindLemmas.{errs_over, calm_over, later_over}
use Rattle.store_log.proofs.finds.read_log.Goals as goal

pub read_from-requires-clause-front : goal.read_from-requires-clause-front
read_from-requires-clause-front g c =
    subst (λ (l : List ℕ). StartsWith l c.in_ok-window.window.items) (sym c.in_ok-window.ensures.synced) c.in_ok-window.ensures.window

pub read_from-requires-clause-whole : goal.read_from-requires-clause-whole
read_from-requires-clause-whole g c = λ few. c.in_ok-window.ensures.whole few ∙ sym c.in_ok-window.ensures.synced

pub returns-clause-found : goal.returns-clause-found
returns-clause-found g c =
    subst (λ (l : List ℕ). IfOk c.read_from.result (λ (f : Found). IsFound f c.args.node c.args.cluster l)) c.in_ok-window.ensures.synced
    c.read_from.ensures.found

pub returns-clause-why : goal.returns-clause-why
returns-clause-why g c =
    errs_over c.read_from.result c.args.node c.args.cluster (g.D.LogStore.synced c.args.store.now) (g.D.LogStore.synced c.first_window.new.store)
    (g.D.LogStore.faults c.args.store.now) (g.D.LogStore.faults c.first_window.new.store) (g.D.LogStore.faults c.read_from.new.store)
    c.in_ok-window.ensures.synced c.in_ok-window.ensures.calm c.read_from.ensures.why

pub returns-clause-calm : goal.returns-clause-calm
returns-clause-calm g c =
    calm_over c.read_from.result (g.D.LogStore.faults c.args.store.now) (g.D.LogStore.faults c.first_window.new.store)
    (g.D.LogStore.faults c.read_from.new.store) c.in_ok-window.ensures.calm c.read_from.ensures.calm

pub returns-clause-later : goal.returns-clause-later
returns-clause-later g c =
    later_over c.read_from.result (g.D.LogStore.faults c.args.store.now) (g.D.LogStore.faults c.first_window.new.store)
    (g.D.LogStore.faults c.read_from.new.store) c.in_ok-window.ensures.calm c.read_from.ensures.later

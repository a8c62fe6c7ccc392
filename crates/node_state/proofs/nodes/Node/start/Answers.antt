use Rattle.std.proofs.Common.{◌≡◌, ap, sym, subst, ◌∙◌}
use Rattle.std.proofs.lemmas.Result.{IfOk-weaker}
use Rattle.std.specs.Prelude.{true, None, IfOk}
use Rattle.cluster_events.specs.Operator.{IsStartOrdered}
use Rattle.cluster_events.specs.Settings.{lines_to_do}
use Rattle.cluster_steps.specs.Named.{steps, world}
use Rattle.kept_log.specs.Kept.{kept_by}
use Rattle.node_state.specs.Nodes.{held}
use Rattle.node_state.specs.Restarts.{IsStarted}
use Rattle.node_state.specs.Stores.{IsStartedSo, Stored, held_of, how_by, stored}
use Rattle.node_state.proofs.StartLaws.{comes_up, may_start_again}
use Rattle.node_state.proofs.nodes.Node.start.Goals as goal

pub start-requires-clause-may : goal.start-requires-clause-may
start-requires-clause-may g c =
    may_start_again g.J.Plan.setting (held c.self.inside.body.vote c.self.inside.body.log.entries c.self.inside.body.actor) c.self.inside.body.log c.self.inside.body.under_way c.self.invariant
    (ap (λ (n : Stored). n.vote.up) c.self.view_is ∙ c.requires.down)
    (subst (λ (n : Stored). ((world g.J.Plan.setting n.actor.seen).nodes n.vote.node).was_up ≡ true) (sym c.self.view_is) c.requires.was_up)
    (subst (λ (n : Stored). IsStartOrdered (lines_to_do g.J.Plan.setting) (steps g.J.Plan.setting n.actor.seen) n.vote.node) (sym c.self.view_is) c.requires.told)

pub returns-clause-started : goal.returns-clause-started
returns-clause-started g c =
    let old = stored c.self.inside.body.vote c.self.inside.body.actor c.self.inside.body.log in
    let new = stored c.start.new.self.vote c.start.new.self.actor c.start.new.self.log in
    let how = how_by None c.self.inside.body.vote c.self.inside.body.under_way (kept_by c.start.new.self.log) in
    subst (λ (n : Stored). IfOk c.start.result (λ s. IsStarted s (held_of n) (held_of new))) c.self.view_is
    (IfOk-weaker c.start.result (λ s. IsStartedSo s how old new) (λ s. IsStarted s (held_of old) (held_of new)) (λ s x. comes_up s how old new x) c.start.ensures.started)

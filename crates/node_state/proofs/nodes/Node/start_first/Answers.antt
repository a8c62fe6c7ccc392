use Rattle.std.proofs.Common.{sym, subst}
use Rattle.cluster_steps.specs.declared.events.Woken.TheVariants.{First}
use Rattle.node_state.specs.Nodes.{held}
use Rattle.node_state.specs.Restarts.{IsStartTold}
use Rattle.node_state.specs.Stores.{MayBeFirst, Stored, held_of}
use Rattle.node_state.proofs.StartLaws.{may_start_first}
use Rattle.node_state.proofs.nodes.Node.start_first.Goals as goal

pub start-requires-clause-may : goal.start-requires-clause-may
start-requires-clause-may g c =
    may_start_first g.J.Plan.setting (held c.self.inside.body.vote c.self.inside.body.log.entries c.self.inside.body.actor) c.self.inside.body.log c.self.inside.body.under_way c.args.rows
    (subst (λ (n : Stored). MayBeFirst g.J.Plan.setting (held_of n) n.over (First c.args.rows)) (sym c.self.view_is) c.requires.first)
    (subst (λ (n : Stored). IsStartTold g.J.Plan.setting n.actor.seen n.vote.node (First c.args.rows)) (sym c.self.view_is) c.requires.told)

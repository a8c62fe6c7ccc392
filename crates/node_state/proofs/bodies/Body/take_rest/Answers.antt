use Rattle.std.proofs.Common.{rules, ◌<◌, ◌∙◌}
use Rattle.std.specs.Prelude.{IsErrOf}
use Rattle.node_state.specs.declared.faults.Unkept.TheVariants.{Fault}
use Rattle.node_state.specs.Nodes.{held}
use Rattle.node_state.specs.Packets.{shipped_length}
use Rattle.node_state.specs.Stores.{FallsOver}
use Rattle.node_state.proofs.KeepLaws.{falls_later}
use Rattle.node_state.proofs.ShipLaws.{continues}
use Rattle.node_state.proofs.TakeLaws.{first_taken, more_taken, rest_acts}
use Rattle.node_state.proofs.bodies.Body.take_rest.Goals as goal

pub taking-init : goal.taking-init
taking-init g c = (
  first_taken g.J.Plan.setting c.args.message.now c.args.entries.now (held c.args.self.now.vote c.args.self.now.log.entries c.args.self.now.actor) (held c.take_one.new.self.vote c.take_one.new.self.log.entries c.take_one.new.self.actor) c.requires.packet
      (continues c.args.self.now.vote c.args.message.now c.args.generation c.args.taken c.requires.allowed c.requires.same c.requires.longer) c.requires.joins c.requires.room c.take_one.ensures.own c.in_ok-take_one.ensures.takes,
  c.take_one.ensures.kept,
  c.in_ok-take_one.ensures.calm,
)

pub taking-preserved : goal.taking-preserved
taking-preserved g c = (
  more_taken g.J.Plan.setting c.args.message.now c.args.entries.now (held c.args.self.now.vote c.args.self.now.log.entries c.args.self.now.actor) (held c.taking.self.vote c.taking.self.log.entries c.taking.self.actor) (held c.take_one-in-taking.new.self.vote c.take_one-in-taking.new.self.log.entries c.take_one-in-taking.new.self.actor) c.taking.invariant.0
      (let lt : c.taking.self.vote.length < shipped_length c.args.message.now = search rules in lt) c.take_one-in-taking.ensures.own c.in_ok-take_one-2.ensures.takes,
  c.take_one-in-taking.ensures.kept,
  (c.in_ok-take_one-2.ensures.calm.0 ∙ c.taking.invariant.2.0, c.in_ok-take_one-2.ensures.calm.1 ∙ c.taking.invariant.2.1),
)

pub returns-clause-acts : goal.returns-clause-acts
returns-clause-acts g c =
    rest_acts g.J.Plan.setting (held c.args.self.now.vote c.args.self.now.log.entries c.args.self.now.actor) (held c.taking.self.vote c.taking.self.log.entries c.taking.self.actor) c.args.message.now c.args.entries.now c.args.generation c.args.taken c.requires.packet c.requires.allowed c.requires.same c.requires.longer c.taking.invariant.0
    (let over : c.taking.self.vote.length < shipped_length c.args.message.now → ⊥ = search rules in over)

pub returns-in_err-take_one-2-clause-falls : goal.returns-in_err-take_one-2-clause-falls
returns-in_err-take_one-2-clause-falls g c =
    let f : IsErrOf c.from_residual-in_err-take_one-2.result Fault → FallsOver g.J.Plan.setting (held c.taking.self.vote c.taking.self.log.entries c.taking.self.actor) (held c.take_one-in-taking.new.self.vote c.take_one-in-taking.new.self.log.entries c.take_one-in-taking.new.self.actor) c.taking.self.log c.take_one-in-taking.new.self.log c.take_one-in-taking.new.self.under_way = search rules in
    λ e. falls_later g.J.Plan.setting c.args.message.now c.args.entries.now (held c.args.self.now.vote c.args.self.now.log.entries c.args.self.now.actor) (held c.taking.self.vote c.taking.self.log.entries c.taking.self.actor) (held c.take_one-in-taking.new.self.vote c.take_one-in-taking.new.self.log.entries c.take_one-in-taking.new.self.actor) c.args.self.now.log c.taking.self.log c.take_one-in-taking.new.self.log c.take_one-in-taking.new.self.under_way c.requires.joins c.taking.invariant.0 c.taking.invariant.2 (f e)

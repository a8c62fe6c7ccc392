use Rattle.std.proofs.Common.{arith, sym, subst, ap, ◌∙◌}
use Rattle.actor_trace.specs.Actors.{Knows}
use Rattle.cluster_steps.specs.declared.events.Event.{Event}
use Rattle.election_core.specs.declared.votes.NodeVote.{NodeVote}
use Rattle.node_state.specs.Stores.{held_of}
use Rattle.node_cases.specs.Seats.{WasUp}
use Rattle.node_cases.proofs.WakeLaws.{first_may, first_told, still_new}
use Rattle.node_cases.proofs.openings.seated.Goals as goal

pub new-seat-requires-clause-plan : goal.new-seat-requires-clause-plan
new-seat-requires-clause-plan g c = c.plan.ensures.is_plan

pub new-seat-requires-clause-run : goal.new-seat-requires-clause-run
new-seat-requires-clause-run g c = (sym c.plan.ensures.nodes, omega arith, c.requires.node.0, c.requires.node.1)

pub new-seat-requires-clause-log : goal.new-seat-requires-clause-log
new-seat-requires-clause-log g c = (c.in_ok-blank.ensures.log, c.in_ok-blank.ensures.empty)

pub new-seat-requires-clause-actor : goal.new-seat-requires-clause-actor
new-seat-requires-clause-actor g c = c.requires.actor

pub first_up-requires-clause-down : goal.first_up-requires-clause-down
first_up-requires-clause-down g c = ap (λ (v : NodeVote). v.up) (c.hear.ensures.same.vote ∙ c.new-seat.ensures.vote)

pub first_up-requires-clause-first : goal.first_up-requires-clause-first
first_up-requires-clause-first g c =
    let none = still_new (held_of c.new-seat.result) (held_of c.hear.new.self) (ap (λ (a : Knows Event). a.made) c.new-seat.ensures.actor ∙ c.requires.actor.1) c.hear.ensures.same in
    first_may g.J.Plan.setting (held_of c.hear.new.self) c.in_ok-blank.blank.log c.hear.new.self.over c.in_ok-blank.blank.rows c.in_ok-note.note c.args.node
    (ap (λ (v : NodeVote). v.node) (c.hear.ensures.same.vote ∙ c.new-seat.ensures.vote)) c.knows.ensures.own c.knows.ensures.made none c.in_ok-blank.ensures
    (c.hear.ensures.over ∙ c.new-seat.ensures.over) c.hear.ensures.heard c.in_ok-note.ensures.there

pub first_up-requires-clause-told : goal.first_up-requires-clause-told
first_up-requires-clause-told g c =
    let none = still_new (held_of c.new-seat.result) (held_of c.hear.new.self) (ap (λ (a : Knows Event). a.made) c.new-seat.ensures.actor ∙ c.requires.actor.1) c.hear.ensures.same in
    first_told g.J.Plan.setting (held_of c.hear.new.self) c.in_ok-blank.blank.rows c.knows.ensures.own c.knows.ensures.made none

pub returns-clause-was_up : goal.returns-clause-was_up
returns-clause-was_up g c =
    subst (λ k. WasUp g.J.Plan.setting k c.in_ok-born.born) (ap (λ (v : NodeVote). v.node) (c.hear.ensures.same.vote ∙ c.new-seat.ensures.vote)) c.in_ok-born.ensures

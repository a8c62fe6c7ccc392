use Rattle.std.proofs.Common.{◌≡◌, sym, subst}
use Rattle.actor_trace.specs.Lists.{Begins}
use Rattle.cluster_steps.specs.Named.{world}
use Rattle.node_state.specs.Stores.{held_of}
use Rattle.node_cases.specs.Seats.{WasUp}
use Rattle.node_cases.proofs.SeatLaws.{up_was}
use Rattle.node_cases.proofs.seats.note_of.Goals as goal

pub returns-clause-more : goal.returns-clause-more
returns-clause-more g c = subst (λ t. Begins c.args.seat.now.actor.seen t) (sym c.note-note.ensures.note) c.note-note.ensures.same.did.more

pub returns-clause-up : goal.returns-clause-up
returns-clause-up g c =
    subst (λ t. ((world g.J.Plan.setting t).nodes c.note-note.new.self.vote.node).up ≡ c.note-note.new.self.vote.up) (sym c.note-note.ensures.note)
    (sym c.knows.ensures.own.node.part.up)

pub returns-clause-was_up : goal.returns-clause-was_up
returns-clause-was_up g c =
    λ up. subst (λ t. WasUp g.J.Plan.setting c.note-note.new.self.vote.node t) (sym c.note-note.ensures.note)
    (up_was g.J.Plan.setting (held_of c.note-note.new.self) c.knows.ensures.own up)

pub returns-clause-vote : goal.returns-clause-vote
returns-clause-vote g c = c.note-note.ensures.same.vote

pub returns-clause-number : goal.returns-clause-number
returns-clause-number g c = sym c.knows.ensures.own.number_is

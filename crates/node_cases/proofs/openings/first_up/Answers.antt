use Rattle.std.proofs.Common.{rules, ◌≡◌, sym, ◌∙◌}
use Rattle.std.specs.Prelude.{true}
use Rattle.node_cases.specs.Seats.{is_up}
use Rattle.node_cases.proofs.SeatLaws.{first_is, seen_by}
use Rattle.node_cases.proofs.openings.first_up.Goals as goal

pub returns : goal.returns
returns g c =
    let came : c.came_up-came.result ≡ true = search rules in
    let woken = first_is c.in_ok-started.started c.args.rows c.args.seat.now c.start_first.new.self c.in_ok-started.ensures.first in
    let is : is_up c.in_ok-started.started ≡ true = sym c.came_up-came.ensures ∙ came in
    seen_by g.J.Plan.setting c.args.seat.now.vote.node c.start_first.new.self.vote c.note_of-born.new.seat.vote c.note_of-born.result c.note_of-born.ensures.vote
    (woken.0 is) (woken.1 is) c.note_of-born.ensures.was_up

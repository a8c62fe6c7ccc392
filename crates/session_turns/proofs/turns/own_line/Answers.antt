use Rattle.std.proofs.Common.{◌≡◌, ◌∙◌, ◌+◌, ℕ, subst, refl}
use Rattle.sql_run.specs.Views.{text_in}
use Rattle.session_turns.specs.Answers.{IsBegun}
use Rattle.session_turns.specs.Views.{IsOf}
use Rattle.session_turns.specs.declared.turns.OwnLine.{OwnLine}
use Rattle.session_turns.proofs.TurnLemmas.{now_told, own_turn}
use Rattle.session_turns.proofs.WorldLemmas.{between_on}
use Rattle.session_turns.proofs.turns.own_line.Goals as goal

pub returns-in_ok-next_session-in-Now-clause-turn : goal.returns-in_ok-next_session-in-Now-clause-turn
returns-in_ok-next_session-in-Now-clause-turn g c =
    own_turn c.answer_own.result (g.N.SessionReader.history c.args.node.now) (g.N.SessionReader.history c.answer_own.new.node) (g.N.SessionReader.generation c.begin.new.self) (g.N.SessionReader.generation c.answer_own.new.node)
    c.args.line.now.name.now c.args.line.now.number c.args.line.now.level (text_in c.args.line.now.prepared.now).meaning (text_in c.args.line.now.prepared.now).kind line c.requires.kind
    (between_on (g.N.SessionReader.history c.args.node.now) (g.N.SessionReader.history c.begin.new.self) (g.N.SessionReader.history c.answer_own.new.node) line.session.begin c.begin.ensures.grows c.answer_own.ensures.grows
    (c.in_ok-next_session-in-Now.ensures.begin ∙ now_told c.in_ok-begun.field-0 c.in-Now.begun (λ b. b.position ≡ (g.N.SessionReader.history c.begin.new.self).now) c.in-Now.is c.in_ok-begun.ensures.last))
    c.answer_own.ensures.generation (begun (c.args.line.now.number + 1) c.in_ok-number.ensures) (c.answer_own.ensures.turn c.args.line.now.name.now (begun c.in_ok-number.number refl))
  where
    line : OwnLine
    line = record { number = c.in_ok-number.number; level = c.args.line.now.level; session = c.in_ok-next_session-in-Now.field-0 }

    its : IsOf (g.N.SessionReader.generation c.begin.new.self) c.args.line.now.name.now c.in_ok-number.number c.args.line.now.level line.session
    its = subst (λ (x : ℕ). IsOf x c.args.line.now.name.now c.in_ok-number.number c.args.line.now.level line.session)
        (now_told c.in_ok-begun.field-0 c.in-Now.begun (λ b. b.generation ≡ g.N.SessionReader.generation c.begin.new.self) c.in-Now.is c.in_ok-begun.ensures.generation) c.in_ok-next_session-in-Now.ensures.own

    begun : (n : ℕ) → c.in_ok-number.number ≡ n → IsBegun (g.N.SessionReader.generation c.begin.new.self) c.args.line.now.name.now n c.args.line.now.level line
    begun n is = record {
      number = is;
      level = refl;
      ops = c.in_ok-next_session-in-Now.ensures.ops;
      genids = c.in_ok-next_session-in-Now.ensures.genids;
      ranges = c.in_ok-next_session-in-Now.ensures.ranges;
      own = subst (λ (x : ℕ). IsOf (g.N.SessionReader.generation c.begin.new.self) c.args.line.now.name.now x c.args.line.now.level line.session) is its;
    }

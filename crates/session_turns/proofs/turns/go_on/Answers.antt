use Rattle.std.proofs.Common.{refl, subst, sym, ℕ}
use Rattle.sql_run.specs.Views.{text_in}
use Rattle.session_turns.specs.Answers.{IsTextAnswered}
use Rattle.session_turns.specs.Views.{IsOf, doing_of}
use Rattle.session_turns.proofs.TurnLemmas.{done_as, now_told, went_asked}
use Rattle.session_turns.proofs.WorldLemmas.{between_now}
use Rattle.session_turns.proofs.turns.go_on.Goals as goal

pub returns-in-Now-clause-turn : goal.returns-in-Now-clause-turn
returns-in-Now-clause-turn g c =
    done_as (g.N.SessionReader.history c.args.node.now) (g.N.SessionReader.history c.answer.new.self) (g.N.SessionReader.generation c.answer.new.self) c.args.line.now.name.now c.args.line.now.number c.args.line.now.level (doing_of c.args.session)
    (text_in c.args.line.now.prepared.now).meaning (text_in c.args.line.now.prepared.now).kind (text_in c.args.line.now.prepared.now).kind _ (g.N.SessionReader.history c.answer.new.self).now refl
    (between_now (g.N.SessionReader.history c.args.node.now) (g.N.SessionReader.history c.answer.new.self) (g.N.SessionReader.history c.answer.new.self).now c.answer.ensures.grows refl)
    (went_asked (g.N.SessionReader.history c.answer.new.self) (g.N.SessionReader.history c.answer.new.self).now (g.N.SessionReader.generation c.answer.new.self) c.args.line.now.name.now c.args.line.now.number c.args.line.now.level c.args.session c.answer.new.session
    (text_in c.args.line.now.prepared.now).meaning (text_in c.args.line.now.prepared.now).kind c.in-Now.replies _ c.requires.kind
    (subst (λ (x : ℕ). IsOf x c.args.line.now.name.now c.args.line.now.number c.args.line.now.level c.args.session) (sym c.answer.ensures.generation) c.requires.own)
    (now_told c.in_ok-told.told c.in-Now.replies (λ lines. IsTextAnswered (g.N.SessionReader.history c.answer.new.self) c.args.session (text_in c.args.line.now.prepared.now).meaning lines c.answer.new.session) c.in-Now.is c.in_ok-told.ensures.answered)
    refl c.into_vec.ensures refl refl)

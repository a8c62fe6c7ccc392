use Rattle.std.proofs.Common.{◌≡◌, ◌∙◌, ℕ, subst, sym}
use Rattle.session_language.specs.Language.{BeginText}
use Rattle.sql_run.specs.Views.{text_in}
use Rattle.session_turns.specs.Doing as doing
use Rattle.session_turns.specs.Views.{IsOf}
use Rattle.session_turns.specs.declared.answers.Begun.{Begun}
use Rattle.session_turns.proofs.TurnLemmas.{done_as, now_told, opened_asked, read_behind}
use Rattle.session_turns.proofs.WorldLemmas.{between_now}
use Rattle.session_turns.proofs.turns.begin.Goals as goal

pub returns-in_ok-opened-in-Now-clause-turn : goal.returns-in_ok-opened-in-Now-clause-turn
returns-in_ok-opened-in-Now-clause-turn g c =
    done_as (g.N.SessionReader.history c.args.node.now) (g.N.SessionReader.history c.begin.new.self) (g.N.SessionReader.generation c.begin.new.self) c.args.line.now.name.now c.args.line.now.number c.args.line.now.level doing.No
    (text_in c.args.line.now.prepared.now).meaning (text_in c.args.line.now.prepared.now).kind BeginText c.in_ok-opened-in-Now.field-0 c.in_ok-session-in-Now.session.begin c.requires.kind
    (between_now (g.N.SessionReader.history c.args.node.now) (g.N.SessionReader.history c.begin.new.self) c.in_ok-session-in-Now.session.begin c.begin.ensures.grows
    (c.in_ok-session-in-Now.ensures.begin ∙ now_told c.in_ok-begun.field-0 c.in-Now.begun (λ b. b.position ≡ (g.N.SessionReader.history c.begin.new.self).now) c.in-Now.is c.in_ok-begun.ensures.last))
    (opened_asked (g.N.SessionReader.generation c.begin.new.self) c.args.line.now.name.now c.in_ok-opened-in-Now.field-0 c.args.line.now.number c.in_ok-number.number c.args.line.now.level c.in_ok-session-in-Now.session (g.N.SessionReader.history c.begin.new.self)
    (text_in c.args.line.now.prepared.now).meaning c.in_ok-number.ensures c.in_ok-session-in-Now.ensures.ops c.in_ok-session-in-Now.ensures.genids c.in_ok-session-in-Now.ensures.ranges
    (c.in_ok-opened-in-Now.ensures (g.N.SessionReader.generation c.begin.new.self) c.args.line.now.name.now
    (subst (λ (x : ℕ). IsOf x c.args.line.now.name.now c.in_ok-number.number c.args.line.now.level c.in_ok-session-in-Now.session)
    (now_told c.in_ok-begun.field-0 c.in-Now.begun (λ b. b.generation ≡ g.N.SessionReader.generation c.begin.new.self) c.in-Now.is c.in_ok-begun.ensures.generation) c.in_ok-session-in-Now.ensures.own)))

pub returns-in_ok-opened-in-Now-clause-readable : goal.returns-in_ok-opened-in-Now-clause-readable
returns-in_ok-opened-in-Now-clause-readable g c =
    read_behind (g.N.SessionReader.reads c.begin.new.self) begun.generation c.args.line.now.name.now c.in_ok-opened-in-Now.field-0 _ (c.in_ok-opened-in-Now.ensures begun.generation c.args.line.now.name.now c.in_ok-session-in-Now.ensures.own) (
      subst (λ (at : ℕ). g.N.SessionReader.reads c.begin.new.self at) (sym c.in_ok-session-in-Now.ensures.begin)
          (now_told c.in_ok-begun.field-0 begun (λ b. g.N.SessionReader.reads c.begin.new.self b.position) c.in-Now.is c.in_ok-begun.ensures.readable),
      tt,
    )
  where
    begun : Begun
    begun = c.in-Now.begun

use Rattle.std.proofs.Common.{sym, subst, refl}
use Rattle.sql_run.specs.Views.{kind_in, text_in}
use Rattle.session_language.specs.Language.{Kind}
use Rattle.session_turns.specs.Answers.{IsDone, IsEffect}
use Rattle.session_turns.specs.Asked.{asked_of}
use Rattle.session_turns.specs.Doing as doing
use Rattle.session_turns.specs.Views.{doing_in}
use Rattle.session_turns.specs.declared.states.InTransaction.{InTransaction}
use Rattle.session_turns.proofs.TurnLemmas.{done_as, skip_read}
use Rattle.session_turns.proofs.WorldLemmas.{between_still}
use Rattle.session_turns.proofs.turns.take_turn.Goals as goal

pub returns-in-Aborted-clause-turn : goal.returns-in-Aborted-clause-turn
returns-in-Aborted-clause-turn g c =
    subst (λ (d : InTransaction). IsDone (g.N.SessionReader.history c.args.node.now) (g.N.SessionReader.history c.args.node.now) (g.N.SessionReader.generation c.args.node.now) c.args.name.now c.args.state.number c.args.state.level (doing_in d)
    (text_in c.args.prepared.now).meaning (text_in c.args.prepared.now).kind c.skip.result) (sym c.in-Aborted.is)
    (done_as (g.N.SessionReader.history c.args.node.now) (g.N.SessionReader.history c.args.node.now) (g.N.SessionReader.generation c.args.node.now) c.args.name.now c.args.state.number c.args.state.level doing.Aborted
    (text_in c.args.prepared.now).meaning (text_in c.args.prepared.now).kind (text_in c.args.prepared.now).kind c.skip.result (g.N.SessionReader.history c.args.node.now).now refl (between_still (g.N.SessionReader.history c.args.node.now))
    (subst (λ (k : Kind). IsEffect (g.N.SessionReader.generation c.args.node.now) c.args.name.now c.skip.result (asked_of (g.N.SessionReader.history c.args.node.now) (g.N.SessionReader.history c.args.node.now).now c.args.state.number c.args.state.level (text_in c.args.prepared.now).meaning k doing.Aborted))
    c.kind.ensures (c.skip.ensures (g.N.SessionReader.history c.args.node.now) (g.N.SessionReader.history c.args.node.now).now (text_in c.args.prepared.now).meaning (g.N.SessionReader.generation c.args.node.now) c.args.name.now)))

pub returns-in-Aborted-clause-readable : goal.returns-in-Aborted-clause-readable
returns-in-Aborted-clause-readable g c =
    skip_read (g.N.SessionReader.reads c.args.node.now) (g.N.SessionReader.history c.args.node.now) (g.N.SessionReader.history c.args.node.now).now (g.N.SessionReader.generation c.args.node.now) c.args.name.now c.args.state.number c.args.state.level (text_in c.args.prepared.now).meaning (kind_in c.kind.result) c.skip.result
    (c.skip.ensures (g.N.SessionReader.history c.args.node.now) (g.N.SessionReader.history c.args.node.now).now (text_in c.args.prepared.now).meaning (g.N.SessionReader.generation c.args.node.now) c.args.name.now)

use Rattle.std.proofs.Common.{◌∙◌, [], ap, sym}
use Rattle.session_language.specs.Language.{CommitText, RollbackText}
use Rattle.sql_run.specs.Views.{kind_in, text_in}
use Rattle.session_turns.specs.Asked.{asks}
use Rattle.session_turns.specs.Views.{coming_of, doing_of}
use Rattle.session_turns.proofs.TurnLemmas.{done_as, read_behind}
use Rattle.session_turns.proofs.WorldLemmas.{between_still}
use Rattle.session_turns.proofs.turns.inside.Goals as goal

pub returns-in-Commit-clause-turn : goal.returns-in-Commit-clause-turn
returns-in-Commit-clause-turn g c =
    done_as (g.N.SessionReader.history c.args.node.now) (g.N.SessionReader.history c.args.node.now) (g.N.SessionReader.generation c.args.node.now) c.args.line.now.name.now c.args.line.now.number c.args.line.now.level (doing_of c.args.session)
    (text_in c.args.line.now.prepared.now).meaning (text_in c.args.line.now.prepared.now).kind CommitText c.commits.result (g.N.SessionReader.history c.args.node.now).now (sym c.kind.ensures ∙ ap kind_in c.in-Commit.is)
    (between_still (g.N.SessionReader.history c.args.node.now)) (c.commits.ensures (g.N.SessionReader.generation c.args.node.now) c.args.line.now.name.now c.requires.own)

pub returns-in_ok-rolled_back-in-Rollback-clause-turn : goal.returns-in_ok-rolled_back-in-Rollback-clause-turn
returns-in_ok-rolled_back-in-Rollback-clause-turn g c =
    done_as (g.N.SessionReader.history c.args.node.now) (g.N.SessionReader.history c.args.node.now) (g.N.SessionReader.generation c.args.node.now) c.args.line.now.name.now c.args.line.now.number c.args.line.now.level (doing_of c.args.session)
    (text_in c.args.line.now.prepared.now).meaning (text_in c.args.line.now.prepared.now).kind RollbackText c.in_ok-rolled_back-in-Rollback.field-0 (g.N.SessionReader.history c.args.node.now).now (sym c.kind.ensures ∙ ap kind_in c.in-Rollback.is)
    (between_still (g.N.SessionReader.history c.args.node.now)) (c.in_ok-rolled_back-in-Rollback.ensures (g.N.SessionReader.generation c.args.node.now) c.args.line.now.name.now)

pub returns-in-Commit-clause-readable : goal.returns-in-Commit-clause-readable
returns-in-Commit-clause-readable g c =
    read_behind (g.N.SessionReader.reads c.args.node.now) (g.N.SessionReader.generation c.args.node.now) c.args.line.now.name.now c.commits.result (asks c.args.line.now.number c.args.line.now.level [] (coming_of c.args.session)) (c.commits.ensures (g.N.SessionReader.generation c.args.node.now) c.args.line.now.name.now c.requires.own) tt

pub returns-in_ok-rolled_back-in-Rollback-clause-readable : goal.returns-in_ok-rolled_back-in-Rollback-clause-readable
returns-in_ok-rolled_back-in-Rollback-clause-readable g c =
    read_behind (g.N.SessionReader.reads c.args.node.now) (g.N.SessionReader.generation c.args.node.now) c.args.line.now.name.now c.in_ok-rolled_back-in-Rollback.field-0 _ (c.in_ok-rolled_back-in-Rollback.ensures (g.N.SessionReader.generation c.args.node.now) c.args.line.now.name.now) tt

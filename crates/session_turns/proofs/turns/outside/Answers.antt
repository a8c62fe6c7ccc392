use Rattle.std.proofs.Common.{◌∙◌, ap, sym}
use Rattle.session_language.specs.Language.{CommitText, RollbackText, LevelText}
use Rattle.sql_run.specs.Views.{kind_in, text_in}
use Rattle.session_turns.specs.Doing as doing
use Rattle.session_turns.proofs.TurnLemmas.{done_as, read_behind}
use Rattle.session_turns.proofs.WorldLemmas.{between_still}
use Rattle.session_turns.proofs.turns.outside.Goals as goal

pub returns-in_ok-refused-in-Commit-clause-turn : goal.returns-in_ok-refused-in-Commit-clause-turn
returns-in_ok-refused-in-Commit-clause-turn g c =
    done_as (g.N.SessionReader.history c.args.node.now) (g.N.SessionReader.history c.args.node.now) (g.N.SessionReader.generation c.args.node.now) c.args.line.now.name.now c.args.line.now.number c.args.line.now.level doing.No
    (text_in c.args.line.now.prepared.now).meaning (text_in c.args.line.now.prepared.now).kind CommitText c.in_ok-refused-in-Commit.field-0 (g.N.SessionReader.history c.args.node.now).now (sym c.kind.ensures ∙ ap kind_in c.in-Commit.is)
    (between_still (g.N.SessionReader.history c.args.node.now)) (c.in_ok-refused-in-Commit.ensures (g.N.SessionReader.generation c.args.node.now) c.args.line.now.name.now)

pub returns-in_ok-refused-in-Rollback-clause-turn : goal.returns-in_ok-refused-in-Rollback-clause-turn
returns-in_ok-refused-in-Rollback-clause-turn g c =
    done_as (g.N.SessionReader.history c.args.node.now) (g.N.SessionReader.history c.args.node.now) (g.N.SessionReader.generation c.args.node.now) c.args.line.now.name.now c.args.line.now.number c.args.line.now.level doing.No
    (text_in c.args.line.now.prepared.now).meaning (text_in c.args.line.now.prepared.now).kind RollbackText c.in_ok-refused-in-Rollback.field-0 (g.N.SessionReader.history c.args.node.now).now (sym c.kind.ensures ∙ ap kind_in c.in-Rollback.is)
    (between_still (g.N.SessionReader.history c.args.node.now)) (c.in_ok-refused-in-Rollback.ensures (g.N.SessionReader.generation c.args.node.now) c.args.line.now.name.now)

pub returns-in_ok-set_level-in-SetLevel-clause-turn : goal.returns-in_ok-set_level-in-SetLevel-clause-turn
returns-in_ok-set_level-in-SetLevel-clause-turn g c =
    done_as (g.N.SessionReader.history c.args.node.now) (g.N.SessionReader.history c.args.node.now) (g.N.SessionReader.generation c.args.node.now) c.args.line.now.name.now c.args.line.now.number c.args.line.now.level doing.No
    (text_in c.args.line.now.prepared.now).meaning (text_in c.args.line.now.prepared.now).kind (LevelText c.in-SetLevel.level) c.in_ok-set_level-in-SetLevel.field-0 (g.N.SessionReader.history c.args.node.now).now (sym c.kind.ensures ∙ ap kind_in c.in-SetLevel.is)
    (between_still (g.N.SessionReader.history c.args.node.now)) (c.in_ok-set_level-in-SetLevel.ensures (g.N.SessionReader.generation c.args.node.now) c.args.line.now.name.now)

pub returns-in_ok-refused-in-Commit-clause-readable : goal.returns-in_ok-refused-in-Commit-clause-readable
returns-in_ok-refused-in-Commit-clause-readable g c =
    read_behind (g.N.SessionReader.reads c.args.node.now) (g.N.SessionReader.generation c.args.node.now) c.args.line.now.name.now c.in_ok-refused-in-Commit.field-0 _ (c.in_ok-refused-in-Commit.ensures (g.N.SessionReader.generation c.args.node.now) c.args.line.now.name.now) tt

pub returns-in_ok-refused-in-Rollback-clause-readable : goal.returns-in_ok-refused-in-Rollback-clause-readable
returns-in_ok-refused-in-Rollback-clause-readable g c =
    read_behind (g.N.SessionReader.reads c.args.node.now) (g.N.SessionReader.generation c.args.node.now) c.args.line.now.name.now c.in_ok-refused-in-Rollback.field-0 _ (c.in_ok-refused-in-Rollback.ensures (g.N.SessionReader.generation c.args.node.now) c.args.line.now.name.now) tt

pub returns-in_ok-set_level-in-SetLevel-clause-readable : goal.returns-in_ok-set_level-in-SetLevel-clause-readable
returns-in_ok-set_level-in-SetLevel-clause-readable g c =
    read_behind (g.N.SessionReader.reads c.args.node.now) (g.N.SessionReader.generation c.args.node.now) c.args.line.now.name.now c.in_ok-set_level-in-SetLevel.field-0 _ (c.in_ok-set_level-in-SetLevel.ensures (g.N.SessionReader.generation c.args.node.now) c.args.line.now.name.now) tt

use Rattle.std.proofs.Common.{ap, sym, subst}
use Rattle.session_language.specs.Language.{Kind}
use Rattle.sql_run.specs.Views.{kind_in}
use Rattle.session_turns.specs.Answers.{IsEffect}
use Rattle.session_turns.specs.Asked.{asked_of}
use Rattle.session_turns.specs.Doing as doing
use Rattle.session_turns.proofs.TurnLemmas.{skipped}
use Rattle.session_turns.proofs.replies.skip.Goals as goal

pub returns-in-Commit : goal.returns-in-Commit
returns-in-Commit c = λ w last meaning generation name.
    subst (λ (k : Kind). IsEffect generation name c.quiet.result (asked_of w last c.args.number c.args.level meaning k doing.Aborted)) (sym (ap kind_in c.in-Commit.is))
    (skipped generation name c.args.number c.quiet.result c.idle.result _ c.idle.ensures tt (c.quiet.ensures generation name))

pub returns-in-Rollback : goal.returns-in-Rollback
returns-in-Rollback c = λ w last meaning generation name.
    subst (λ (k : Kind). IsEffect generation name c.quiet-in-Rollback.result (asked_of w last c.args.number c.args.level meaning k doing.Aborted)) (sym (ap kind_in c.in-Rollback.is))
    (skipped generation name c.args.number c.quiet-in-Rollback.result c.idle-in-Rollback.result _ c.idle-in-Rollback.ensures tt (c.quiet-in-Rollback.ensures generation name))

pub returns-in-Begin : goal.returns-in-Begin
returns-in-Begin c = λ w last meaning generation name.
    subst (λ (k : Kind). IsEffect generation name c.quiet-in-Begin.result (asked_of w last c.args.number c.args.level meaning k doing.Aborted)) (sym (ap kind_in c.in-Begin.is))
    (skipped generation name c.args.number c.quiet-in-Begin.result c.aborted.result _ c.aborted.ensures tt (c.quiet-in-Begin.ensures generation name))

pub returns-in-SetLevel : goal.returns-in-SetLevel
returns-in-SetLevel c = λ w last meaning generation name.
    subst (λ (k : Kind). IsEffect generation name c.quiet-in-SetLevel.result (asked_of w last c.args.number c.args.level meaning k doing.Aborted)) (sym (ap kind_in c.in-SetLevel.is))
    (skipped generation name c.args.number c.quiet-in-SetLevel.result c.aborted-in-SetLevel.result _ c.aborted-in-SetLevel.ensures tt (c.quiet-in-SetLevel.ensures generation name))

pub returns-in-Other : goal.returns-in-Other
returns-in-Other c = λ w last meaning generation name.
    subst (λ (k : Kind). IsEffect generation name c.quiet-in-Other.result (asked_of w last c.args.number c.args.level meaning k doing.Aborted)) (sym (ap kind_in c.in-Other.is))
    (skipped generation name c.args.number c.quiet-in-Other.result c.aborted-in-Other.result _ c.aborted-in-Other.ensures tt (c.quiet-in-Other.ensures generation name))

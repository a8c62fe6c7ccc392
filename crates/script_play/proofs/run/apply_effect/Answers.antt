use Rattle.std.proofs.Common.{◌++◌, Option, subst, sym}
use Rattle.phys_log.specs.declared.entries.Entry.{Entry}
use Rattle.report_laws.specs.Told.{lines_of}
use Rattle.report_text.specs.declared.reports.Line.TheVariants as line
use Rattle.script_play.specs.Down.{HasOutcome, IsKeptSo, TellsOutcome}
use Rattle.script_play.specs.RunViews.{run_in}
use Rattle.script_play.proofs.AppendLemmas.{kept_so, told_last}
use Rattle.script_play.proofs.run.apply_effect.Goals as goal

pub append_committed-requires-clause-told : goal.append_committed-requires-clause-told
append_committed-requires-clause-told g c = (
  c.args.run.now.lines.items ++ lines_of c.args.name.now c.args.effect.number told.front,
  line.Session c.args.name.now c.args.effect.number told.outcome,
  told_last c.args.name.now c.args.effect.number c.args.effect.replies.items c.args.run.now.lines.items c.add_replies.new.lines.items told c.in_ok-add_replies.ensures.ok,
)
  where
    told : HasOutcome c.args.effect.replies.items
    told = subst (λ (o : Option Entry). TellsOutcome c.args.effect.replies.items o) c.in-Some.is c.requires.told

pub returns-in_ok-append_committed-in-Some-clause-done : goal.returns-in_ok-append_committed-in-Some-clause-done
returns-in_ok-append_committed-in-Some-clause-done g c =
    subst (λ (o : Option Entry). IsKeptSo c.args.name.now c.args.effect.number c.args.effect.replies.items o (run_in c.args.run.now) (run_in c.append_committed.new.run)) (sym c.in-Some.is)
    (kept_so c.args.name.now c.args.effect.number c.args.effect.replies.items c.in-Some.entry c.args.run.now.lines.items c.add_replies.new.lines.items c.append_committed.new.run.lines.items
    c.args.run.now.entries.items c.append_committed.new.run.entries.items c.args.run.now.log c.append_committed.new.run.log
    (subst (λ (o : Option Entry). TellsOutcome c.args.effect.replies.items o) c.in-Some.is c.requires.told)
    c.in_ok-add_replies.ensures.ok c.in_ok-append_committed-in-Some.ensures.done)

use Rattle.std.proofs.Common.{◌∙◌, List, ap, subst, sym}
use Rattle.blkseq_table.specs.Known.{AreApart}
use Rattle.blkseq_table.specs.OfLogs.{identities_of}
use Rattle.node_log.specs.Logged.{Logged}
use Rattle.phys_log.specs.declared.entries.Entry.{Entry}
use Rattle.script_form.specs.CanRun.{script_tables}
use Rattle.script_play.specs.Played.{IsPlayed}
use Rattle.script_play.specs.Ready.{AreEarlier}
use Rattle.script_play.specs.RunViews.{IsOpenedBehind}
use Rattle.script_play.proofs.KnownLemmas.{opened_apart}
use Rattle.script_play.proofs.PlayLaws.{done_at, given_first}
use Rattle.script_play.proofs.playing.play_behind.Goals as goal

pub of_entries-requires : goal.of_entries-requires
of_entries-requires g c =
    subst (λ (es : List Entry). AreApart (identities_of es)) (sym (c.entries.ensures ∙ c.log.ensures.entries))
    (opened_apart (script_tables c.args.script.now) c.args.log.accepted g.start.before g.start.rows c.args.log.entries c.requires.1.1.1.1.0 c.requires.1.1.1.1.1.1)

pub play_on-requires : goal.play_on-requires
play_on-requires g c κs within = (
  within,
  (
    c.requires.1.0,
    (
      ap (λ (l : Logged). l.failed) c.opened-so_far.ensures.log ∙ c.requires.1.1.0,
      (
        c.requires.1.1.1.0,
        (
          subst (λ (l : Logged). IsOpenedBehind (script_tables c.args.script.now) l.accepted g.start.before l.entries) (sym c.opened-so_far.ensures.log) c.requires.1.1.1.1.0,
          (
            subst (λ (l : Logged). AreEarlier l.accepted g.start.before) (sym c.opened-so_far.ensures.log) c.requires.1.1.1.1.1.0,
            (c.requires.1.1.1.1.1.1, (c.opened-so_far.ensures.lines, c.opened-so_far.ensures.entries)),
          ),
        ),
      ),
    ),
  ),
)

pub returns-in_default-clause-given_up : goal.returns-in_default-clause-given_up
returns-in_default-clause-given_up g c = given_first c.args.script.now g.start c.args.log c.requires.1.0 c.requires.1.1.0 c.requires.1.1.1.1.0 c.requires.1.1.1.1.1.1

pub returns-in-Ok-play_on-clause-played : goal.returns-in-Ok-play_on-clause-played
returns-in-Ok-play_on-clause-played g c =
    subst (λ (l : Logged). IsPlayed c.args.script.now g.start c.args.log c.reported.result.report l) (sym c.reported.ensures.log)
    (subst (λ (o : Logged). IsPlayed c.args.script.now g.start o c.reported.result.report c.play_on.new.run.log) c.opened-so_far.ensures.log
    (done_at c.args.script.now g.start c.opened-so_far.result.log c.play_on.new.run.lines.items c.play_on.new.run.entries.items c.play_on.new.run.log c.in-Ok-play_on.ensures.done.0 c.args.base c.reported.result.report
    c.in-Ok-play_on.ensures.done.1 c.requires.1.1.1.0 c.reported.ensures.report))

use Rattle.std.proofs.Common.{sym, subst, ap, ◌∙◌, length, List}
use Rattle.std.proofs.lemmas.Result.{IfOk-weaker}
use Rattle.phys_log.specs.declared.entries.Entry.{Entry}
use Rattle.script_form.specs.CanRun.{script_tables}
use Rattle.script_play.specs.Down.{history_of}
use Rattle.script_play.specs.Ready.{AreEarlier, CanBegin}
use Rattle.script_play.specs.RunViews.{IsOpenedBehind}
use Rattle.script_main.proofs.RanLemmas.{given_left, its_told, played_text, told_left}
use Rattle.script_main.specs.Steps.{IsLeftFrom, IsPlayedText, IsReportText}
use Rattle.script_main.specs.Stores.{kept_by, HasRows}
use Rattle.script_main.proofs.opening.play_from.Goals as goal

pub play-requires : goal.play-requires
play-requires g c κs within =
    let b = c.requires.1.1.1 in
    let same = c.requires.1.1.0 in (
      within,
      (
        c.requires.1.0,
        (
          b.running,
          (
            b.place ∙ ap (λ (es : List Entry). length es) (sym same),
            (
              subst (λ (es : List Entry). IsOpenedBehind (script_tables c.args.script.now) c.args.begun.log.accepted es c.args.begun.log.entries) (sym same) b.opened,
              (
                subst (λ (es : List Entry). AreEarlier c.args.begun.log.accepted es) (sym same) b.earlier,
                subst (λ (es : List Entry). CanBegin (script_tables c.args.script.now) es g.start.rows) (sym same) b.behind,
              ),
            ),
          ),
        ),
      ),
    )

pub returns-in-Ok-clause-text : goal.returns-in-Ok-clause-text
returns-in-Ok-clause-text g c =
    let p = c.in-Ok.ensures in
    let b = c.requires.1.1.1 in
    let new = kept_by g.D.LogStore.synced g.D.LogStore.pending g.D.LogStore.faults g.D.LogStore.writes c.told.result.store in
    let is_told = its_told c.args.script.now g.start c.args.begun.log.accepted c.in-Ok.played.report (history_of c.in-Ok.played.log) c.args.begun.base
    (b.place ∙ ap (λ (es : List Entry). length es) (sym c.requires.1.1.0)) p.lawful p.in_order p.entries p.schema p.changed p.rows p.stands p.small in
    IfOk-weaker c.told.result.answer (λ a. IsReportText c.in-Ok.played.report a.status a.text)
    (λ a. IsPlayedText c.args.script.now g.start c.args.begun.log new a.status a.text)
    (λ a is. played_text c.args.script.now g.start c.args.begun.log c.in-Ok.played.log c.in-Ok.played.report new a.status a.text p.owner b.node b.same is_told p.lawful_of_nodes p.in_nodes_order p.serial p.faults p.cause p.kept p.further
    c.told.ensures.left is)
    c.told.ensures.text

pub returns-in-Ok-clause-left : goal.returns-in-Ok-clause-left
returns-in-Ok-clause-left g c =
    let p = c.in-Ok.ensures in
    let b = c.requires.1.1.1 in
    let is_told = its_told c.args.script.now g.start c.args.begun.log.accepted c.in-Ok.played.report (history_of c.in-Ok.played.log) c.args.begun.base
    (b.place ∙ ap (λ (es : List Entry). length es) (sym c.requires.1.1.0)) p.lawful p.in_order p.entries p.schema p.changed p.rows p.stands p.small in
    told_left c.args.script.now g.start c.args.begun.log c.in-Ok.played.log c.in-Ok.played.report (kept_by g.D.LogStore.synced g.D.LogStore.pending g.D.LogStore.faults g.D.LogStore.writes c.told.result.store)
    (subst (λ (es : List Entry). HasRows es g.start.rows) (sym c.requires.1.1.0) b.has_rows) p.owner b.node b.same is_told p.cause p.kept p.further c.told.ensures.left

pub returns-in-Err-clause-left : goal.returns-in-Err-clause-left
returns-in-Err-clause-left g c =
    let b = c.requires.1.1.1 in
    let back = c.give_back.ensures in
    subst (λ store. IsLeftFrom c.args.script.now g.start.before c.args.begun.log (kept_by g.D.LogStore.synced g.D.LogStore.pending g.D.LogStore.faults g.D.LogStore.writes store)) (sym c.no_memory.ensures.store)
    (given_left c.args.script.now g.start c.args.begun.log c.in-Err.log (kept_by g.D.LogStore.synced g.D.LogStore.pending g.D.LogStore.faults g.D.LogStore.writes c.give_back.result)
    (subst (λ (es : List Entry). HasRows es g.start.rows) (sym c.requires.1.1.0) b.has_rows) c.in-Err.ensures.owner b.node b.same c.in-Err.ensures.given_up
    (record { joined = back.joined; calm = back.calm; stands = back.stands }))

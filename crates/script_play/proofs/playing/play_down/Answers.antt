use Rattle.std.proofs.Common.{◌∙◌, ◌++◌, ◌∷◌, [], List, ap, map, subst, sym}
use Rattle.cdb_values.specs.Rows.{Rows}
use Rattle.script_form.specs.CanRun.{script_tables}
use Rattle.script_form.specs.declared.scripts.BodyLine.{BodyLine}
use Rattle.script_play.specs.Down.{down_line}
use Rattle.session_turns.specs.Views.{state_in}
use Rattle.script_play.specs.SoFar.{at_start}
use Rattle.script_play.specs.SoFarDown.{IsBeforeDown}
use Rattle.script_play.proofs.DownRunLemmas.{first_down_is, reports_out, IsOutReport}
use Rattle.script_play.proofs.NodesLaws.{in_nodes_order, lawful_of_nodes}
use Rattle.script_play.proofs.playing.play_down.Goals as goal

pub lines-init : goal.lines-init
lines-init c =
    let are = c.in_ok-schema.ensures ∙ ap (λ ts. map (λ t. t.table) ts) c.as_slice.ensures in
    let starts = c.in_ok-states.ensures ∙ ap (λ ss. map (λ _. at_start) ss) c.as_slice-2.ensures in (
      subst (λ (bs : List BodyLine). IsBeforeDown c.args.script.now bs c.add_down.new.lines.items (map state_in c.in_ok-states.states)) (sym c.as_slice-rest.ensures)
          (first_down_is c.args.script.now c.add_down.new.lines.items (map state_in c.in_ok-states.states) c.requires.can_run (c.in_ok-add_down.ensures.ok ∙ ap (λ ls. ls ++ down_line ∷ []) c.new-lines.ensures.items) starts),
      c.schema.view_is ∙ are,
    )

pub lines-preserved : goal.lines-preserved
lines-preserved c = (
  c.in_ok-run_line_down.ensures c.in-Some.after.now (subst (λ (bs : List BodyLine). IsBeforeDown c.args.script.now bs c.lines.lines.items (map state_in c.lines.states)) c.in-Some.ensures.cases.0 c.lines.invariant.0),
  c.lines.invariant.1,
)

pub returns : goal.returns
returns c =
    let out : (rows : Rows) → IsOutReport c.args.script.now (record { position = c.args.base; tables = script_tables c.args.script.now; rows = rows }) c.report_with.result = λ rows.
    reports_out c.args.script.now (record { position = c.args.base; tables = script_tables c.args.script.now; rows = rows }) c.lines.rest.now c.lines.lines.items (map state_in c.lines.states) c.new.result.items c.report_with.result
    c.lines.invariant.0 c.in_default.ensures.cases c.new.ensures.items c.report_with.ensures in
    let any = out (record { tables = []; next = 0 }) in
    record {
      lawful = λ rows. (out rows).lawful;
      in_order = λ rows. (out rows).in_order;
      lawful_of_nodes = λ rows. lawful_of_nodes c.args.script.now c.args.base rows c.report_with.result c.requires.can_run (out rows).lawful;
      in_nodes_order = λ rows. in_nodes_order c.args.script.now c.args.base rows c.report_with.result c.requires.can_run (out rows).lawful (out rows).in_order;
      first = any.first;
      down = any.once;
      none = any.none;
    }

-- What a session was told that has a transaction open: its begin, and nothing that cuts it short.
use Rattle.std.proofs.Common.{◌≡◌, ℕ, ◌≤◌, List, [], ◌++◌, refl, sym, subst, ap, arith, Some, ◌∙◌, false}
use Rattle.std.specs.List.{AllByRecursion}
use Rattle.cdb_values.specs.declared.items.GenidItem.{GenidItem}
use Rattle.cdb_values.specs.declared.items.Interval.{Interval}
use Rattle.cdb_values.specs.declared.rows.Change.{Change}
use Rattle.cdb_values.specs.declared.rows.RowOp.{RowOp}
use Rattle.report_laws.specs.Cut.{cuts}
use Rattle.report_laws.specs.History.{rows_at, view_of}
use Rattle.report_laws.specs.Play.{was_cut}
use Rattle.report_laws.specs.Told.{IsTold, Numbered, numbered, told}
use Rattle.report_laws.specs.Work.{Place}
use Rattle.report_laws.proofs.PlainLaws.{plain_alone}
use Rattle.report_laws.proofs.WorkLaws.{IsBelow}
use Rattle.report_text.specs.declared.reports.EntryLine.{EntryLine}
use Rattle.report_text.specs.declared.reports.Line.{Line}
use Rattle.cdb_values.specs.declared.replies.Reply.{Reply}
use Rattle.cdb_values.specs.declared.replies.Reply.TheVariants as reply
use Rattle.script_form.specs.CanRun.{script_tables}
use Rattle.script_form.specs.declared.scripts.Script.{Script}
use Rattle.session_language.specs.Each.{StandsIn}
use Rattle.session_language.specs.Language.{alone, Kind}
use Rattle.session_language.proofs.EachLaws.{all_append}
use Rattle.query_laws.specs.Alone.{sql_language}
use Rattle.script_play.specs.Basis.{from_start}
use Rattle.session_turns.specs.Doing as doing
use Rattle.session_turns.specs.Seen.{SeenRows}
use Rattle.script_play.specs.Start.{Start}
use Rattle.script_play.proofs.LossLemmas.{IsUncutUnder, none_cuts, over_other, over_uncut, plain_cut_none, uncut_where}
use Rattle.script_play.proofs.SqlLaws.{sql_is_answered}
use Rattle.script_play.proofs.TurnLemmas.{Comes}

module _ (script : Script) (start : Start) (entries : List EntryLine) (changed : List (List Change)) (seen : SeenRows) (name : List ℕ) (p : Place) (text : List ℕ) (lines : List Line)
    (texts : List (List ℕ)) (begin : ℕ) (ops : List RowOp) (uses : List GenidItem) (ranges : List Interval) (k : Kind) (c : Comes script start entries changed seen name p (Some texts) (doing.Open begin ops uses ranges) text k (told name lines)) where
  -- its begin
  pub begin_told : StandsIn (told name lines) (p.number, reply.Begin begin)
  begin_told = (
    c.before,
    numbered p.number (alone sql_language (script_tables script) (rows_at (from_start script start) entries begin) texts).replies,
    c.is ∙ ap (λ (rs : List Reply). c.before ++ numbered p.number rs) c.doing.says,
  )

  -- and nothing that cuts it short
  pub open_uncut : AllByRecursion (IsBelow p.number) p.over → 1 ≤ p.number → was_cut lines name p.number ≡ false
  open_uncut below first = uncut_where name p.number lines
      (subst (λ (ls : List Numbered). AllByRecursion (IsUncutUnder p.number) ls) (sym c.is)
      (all_append (IsUncutUnder p.number) c.before (numbered p.number c.mine)
      (over_uncut (IsTold (from_start script start) (view_of (from_start script start) entries) name) p.number p.over c.before (over_other p.number p.number p.over (omega arith) first below) c.past)
      (none_cuts p.number p.number c.mine (subst (λ (rs : List Reply). AllByRecursion (λ r. cuts r ≡ false) rs) (sym c.doing.says) (refl, plain_cut_none _ (plain_alone sql_language sql_is_answered (script_tables script) (rows_at (from_start script start) entries begin).tables [] texts))))))

-- What a line is told on a node that went down in the run is right.
use Rattle.std.proofs.Common.{◌≡◌, ℕ, ◌+◌, ◌≤◌, List, [], ◌∷◌, ◌++◌, refl, sym, subst, ap, Option, Some, None, ◌∙◌, Bool, true, false, if◌then◌else◌, inl, inr}
use Rattle.std.proofs.lemmas.List.{append-nil}
use Rattle.std.specs.List.{AllByRecursion}
use Rattle.cdb_values.specs.declared.items.GenidItem.{GenidItem}
use Rattle.cdb_values.specs.declared.items.Interval.{Interval}
use Rattle.cdb_values.specs.declared.rows.Change.{Change}
use Rattle.cdb_values.specs.declared.rows.RowOp.{RowOp}
use Rattle.cdb_values.specs.declared.rows.StatementError.TheVariants.{State}
use Rattle.report_laws.specs.Nodes.{are_few, first_down}
use Rattle.report_laws.specs.Places.{HasItsPlace, is_loss_by}
use Rattle.report_laws.specs.Play.{node_of, number_by, since_begin, was_cut}
use Rattle.report_laws.specs.Told.{Numbered, lines_of, told}
use Rattle.report_laws.specs.Work.{Place}
use Rattle.report_laws.proofs.EntryToldLaws.{told_stands}
use Rattle.report_laws.proofs.PieceLaws.{cut_at}
use Rattle.report_laws.proofs.ToldLaws.{told_append}
use Rattle.report_laws.proofs.WorkLaws.{IsBegun, IsBelow, first_left}
use Rattle.report_laws.proofs.SerialLaws.{each_front}
use Rattle.report_text.specs.declared.reports.EntryLine.{EntryLine}
use Rattle.report_text.specs.declared.reports.Line.{Line}
use Rattle.report_text.specs.declared.reports.Line.TheVariants as line
use Rattle.cdb_values.specs.declared.replies.Reply.TheVariants as reply
use Rattle.script_form.specs.CanRun.{CanRun, IsDeclared}
use Rattle.script_form.specs.declared.scripts.Script.{Script}
use Rattle.session_language.specs.Each.{EachAfter, StandsIn}
use Rattle.session_language.specs.Language.{Kind, BeginText, CommitText, RollbackText, LevelText, OtherText}
use Rattle.script_play.specs.Basis.{from_start}
use Rattle.session_turns.specs.Doing.{Doing, SessionAt}
use Rattle.session_turns.specs.Doing as doing
use Rattle.script_play.specs.Down.{down_line, turn_down}
use Rattle.session_turns.specs.Seen.{SeenRows}
use Rattle.script_play.specs.SoFar.{IsDown, IsGone, now_of}
use Rattle.script_play.specs.Start.{Start}
use Rattle.session_turns.specs.Step.{Turned}
use Rattle.script_play.proofs.LossLemmas.{at_the_node, loses, none_survives, none_told_lost}
use Rattle.script_play.proofs.TurnLemmas.{Comes, WasCutUnder, cut_before}
use Rattle.script_play.proofs.OpenLemmas.{begin_told, open_uncut}
use Rattle.script_play.proofs.ToldLemmas.{IsToldSo, told_lone, told_nothing, told_short}

-- a line on a node that is down
module _ (script : Script) (start : Start) (entries : List EntryLine) (changed : List (List Change)) (seen : SeenRows) (name : List ℕ) (p : Place) (text : List ℕ) (lines : List Line) (states : List SessionAt) (can : CanRun script)
    (is_declared : IsDeclared name script.sessions) (places : EachAfter (HasItsPlace script) [] lines) (is : IsDown script lines states) where
  abbrev pub Tells : ℕ → Kind → Option (List (List ℕ)) → Turned → Type 0
  Tells number k pending t = IsToldSo script (from_start script start).origin (now_of start entries) lines name number k pending (lines_of name t.number t.replies)

  few_here : are_few 1 lines ≡ true
  few_here = subst (λ (n : ℕ). are_few n lines ≡ true) can.one_node is.few

  -- a transaction was cut short, of which lines are skipped
  cut_there : (texts : List (List ℕ)) (k : Kind) (c : Comes script start entries changed seen name p (Some texts) doing.Aborted text k (told name lines)) → was_cut lines name p.number ≡ true
  cut_there texts k c = cut_so (cut_before script start entries changed seen seen name p text (told name lines) texts k c)
    where
      cut_so : WasCutUnder (told name lines) p.number → was_cut lines name p.number ≡ true
      cut_so (cause, cuts_it, stands) = cut_at lines name p.number cause cuts_it (told_stands name p.number cause lines stands)

  -- a line of one that is open
  lost : (k : Kind) (texts : List (List ℕ)) (begin : ℕ) (ops : List RowOp) (uses : List GenidItem) (ranges : List Interval) (c : Comes script start entries changed seen name p (Some texts) (doing.Open begin ops uses ranges) text k (told name lines)) →
      told name is.back ≡ [] → AllByRecursion (IsBelow p.number) p.over → 1 ≤ p.number → IsToldSo script (from_start script start).origin (now_of start entries) lines name p.number k (Some texts) (lines_of name p.number (reply.Lost 1 1 ∷ []))
  lost k texts begin ops uses ranges c gone below first = record {
    said = inr (inl (record {
      down = 1;
      is_lost = ap (λ (b : Bool). if b then None else first_down (node_of script name) (since_begin name p.number lines)) (open_uncut script start entries changed seen name p text lines texts begin ops uses ranges k c below first)
          ∙ ap (λ (n : ℕ). first_down n (since_begin name p.number lines)) its_node
          ∙ ap (λ (ls : List Line). first_down 1 (since_begin name p.number ls)) is.is
          ∙ loses name p.number begin is.front is.back begun_before is.unhurt;
      told = reply.Lost (node_of script name) 1;
      is_told = inl refl;
      says = ap (λ (n : ℕ). lines_of name p.number (reply.Lost n 1 ∷ [])) (sym its_node);
      none = refl;
    }));
    fresh = (tt, tt);
    placed = (
      (
        none_survives name script.sessions can.no_hasql,
        record {
          fault = true;
          front = is.front;
          back = is.back;
          stands = is.is;
          since = subst (λ (ls : List Numbered). AllByRecursion (λ (l : Numbered). l.0 ≡ p.number) ls) (sym gone) tt;
          begin = begin;
          begun = told_stands name p.number (reply.Begin begin) lines begun;
          once = subst (λ (ls : List Numbered). AllByRecursion (λ (l : Numbered). is_loss_by 1 l.1 ≡ false) ls) (sym all_before)
              (none_told_lost script name 1 [] is.front is.unhurt (each_front (HasItsPlace script) [] is.front (down_line ∷ is.back) (subst (λ (ls : List Line). EachAfter (HasItsPlace script) [] ls) is.is places)));
        },
      ),
      tt,
    );
    named = (tt, tt);
  }
    where
      its_node : node_of script name ≡ 1
      its_node = at_the_node name script.sessions can.no_hasql is_declared

      begun : StandsIn (told name lines) (p.number, reply.Begin begin)
      begun = begin_told script start entries changed seen name p text lines texts begin ops uses ranges k c

      all_before : told name lines ≡ told name is.front
      all_before = ap (λ (ls : List Line). told name ls) is.is ∙ told_append name is.front (down_line ∷ is.back) ∙ ap (λ (ls : List Numbered). told name is.front ++ ls) gone ∙ append-nil (told name is.front)

      begun_before : StandsIn is.front (line.Session name p.number (reply.Begin begin))
      begun_before = told_stands name p.number (reply.Begin begin) is.front (begun.0, begun.1, sym all_before ∙ begun.2)

  -- whatever the line is, and wherever the session is
  pub tells : (k : Kind) (pending : Option (List (List ℕ))) (what : Doing) → Comes script start entries changed seen name p pending what text k (told name lines) → IsGone what (told name is.back) →
      AllByRecursion (IsBelow (first_left p.number pending)) p.over → IsBegun p.number pending → Tells (number_by p.number k pending) k pending (turn_down p.number p.level k what)
  tells BeginText None doing.No c gone below first = told_short script (from_start script start).origin can.one_node (now_of start entries) lines few_here name BeginText None (p.number + 1) refl
  tells OtherText None doing.No c gone below first = told_short script (from_start script start).origin can.one_node (now_of start entries) lines few_here name OtherText None (p.number + 1) refl
  tells CommitText None doing.No c gone below first = told_lone script (from_start script start).origin (now_of start entries) lines name CommitText (reply.Error State) refl refl tt tt tt tt
  tells RollbackText None doing.No c gone below first = told_lone script (from_start script start).origin (now_of start entries) lines name RollbackText (reply.Error State) refl refl tt tt tt tt
  tells (LevelText later) None doing.No c gone below first = told_lone script (from_start script start).origin (now_of start entries) lines name (LevelText later) (reply.Level later) refl refl tt tt tt tt
  tells BeginText (Some texts) (doing.Open begin ops uses ranges) c gone below first = lost BeginText texts begin ops uses ranges c gone below first
  tells CommitText (Some texts) (doing.Open begin ops uses ranges) c gone below first = lost CommitText texts begin ops uses ranges c gone below first
  tells RollbackText (Some texts) (doing.Open begin ops uses ranges) c gone below first = lost RollbackText texts begin ops uses ranges c gone below first
  tells (LevelText later) (Some texts) (doing.Open begin ops uses ranges) c gone below first = lost (LevelText later) texts begin ops uses ranges c gone below first
  tells OtherText (Some texts) (doing.Open begin ops uses ranges) c gone below first = lost OtherText texts begin ops uses ranges c gone below first
  tells BeginText (Some texts) doing.Aborted c gone below first = told_nothing script (from_start script start).origin (now_of start entries) lines name BeginText texts p.number refl (cut_there texts BeginText c)
  tells CommitText (Some texts) doing.Aborted c gone below first = told_nothing script (from_start script start).origin (now_of start entries) lines name CommitText texts p.number refl (cut_there texts CommitText c)
  tells RollbackText (Some texts) doing.Aborted c gone below first = told_nothing script (from_start script start).origin (now_of start entries) lines name RollbackText texts p.number refl (cut_there texts RollbackText c)
  tells (LevelText later) (Some texts) doing.Aborted c gone below first = told_nothing script (from_start script start).origin (now_of start entries) lines name (LevelText later) texts p.number refl (cut_there texts (LevelText later) c)
  tells OtherText (Some texts) doing.Aborted c gone below first = told_nothing script (from_start script start).origin (now_of start entries) lines name OtherText texts p.number refl (cut_there texts OtherText c)
  tells k None (doing.Open begin ops uses ranges) c gone below first = absurd c.doing
  tells k None doing.Aborted c gone below first = absurd c.doing
  tells k (Some texts) doing.No c gone below first = absurd c.doing

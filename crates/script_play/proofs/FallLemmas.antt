-- A line that commits, at whose entry the node goes down: what is told of it is right, and its session is where its work is.
use Rattle.std.proofs.Common.{◌≡◌, ◌≢◌, ℕ, ◌+◌, ◌≤◌, List, [], ◌∷◌, ◌++◌, refl, sym, subst, ap, arith, Option, Some, None, ◌∙◌, Bool, true, false, append_assoc, inl, inr}
use Rattle.std.proofs.lemmas.Bool.{or_from}
use Rattle.std.proofs.lemmas.List.{append-nil}
use Rattle.std.specs.List.{AllByRecursion, list_any}
use Rattle.std.specs.Str.{bytes_eq}
use Rattle.cdb_values.specs.declared.items.GenidItem.{GenidItem}
use Rattle.cdb_values.specs.declared.items.Interval.{Interval}
use Rattle.cdb_values.specs.declared.rows.Change.{Change}
use Rattle.cdb_values.specs.declared.rows.RowOp.{RowOp}
use Rattle.log_rows.specs.History.{IsFrom}
use Rattle.report_laws.specs.History.{view_of}
use Rattle.report_laws.specs.Lawful.{IsFreshLine, NameUpTo}
use Rattle.report_laws.specs.Nodes.{downs, are_few}
use Rattle.report_laws.specs.Paced.{Paced}
use Rattle.report_laws.specs.Places.{GoesDown, HasItsPlace, is_loss_by}
use Rattle.report_laws.specs.Play.{IsToldFirst, commits, is_own_by, number_by, was_cut}
use Rattle.report_laws.specs.Told.{IsCut, IsTold, Numbered, alone_at, lines_of, numbered, told}
use Rattle.report_laws.specs.Work.{ByCommit, Does, Place, WithItsLine, closed, next_by, transaction, with_own_line}
use Rattle.report_laws.proofs.EntryToldLaws.{told_stands}
use Rattle.report_laws.proofs.LineLaws.{ArePaced, paced_laws}
use Rattle.report_laws.proofs.NodesLaws.{downs_more, none_lacks, none_lost}
use Rattle.report_laws.proofs.PieceLaws.{plain_all_quiet}
use Rattle.report_laws.proofs.PlainLaws.{plain_paced}
use Rattle.report_laws.proofs.ToldLaws.{numbered_append, told_append, told_other, told_own}
use Rattle.report_laws.proofs.WorkLaws.{IsBegun, IsBelow, first_left}
use Rattle.report_text.specs.declared.reports.EntryLine.{EntryLine}
use Rattle.report_text.specs.declared.reports.Line.{Line}
use Rattle.report_text.specs.declared.reports.Line.TheVariants as line
use Rattle.cdb_values.specs.declared.replies.Reply.{Reply}
use Rattle.cdb_values.specs.declared.replies.Reply.TheVariants as reply
use Rattle.script_form.specs.CanRun.{CanRun, script_tables}
use Rattle.script_form.specs.declared.scripts.Script.{Script}
use Rattle.session_language.specs.Answers.{ArePlain}
use Rattle.session_language.specs.Each.{EachAfter, StandsIn}
use Rattle.session_language.specs.Language.{Answered, Kind, BeginText, CommitText, RollbackText, LevelText, OtherText}
use Rattle.session_language.specs.Replies.{are_up_to, is_last_of, is_outcome}
use Rattle.session_language.proofs.EachLaws.{all_append, each_append, stands_added, stands_more}
use Rattle.script_play.specs.Basis.{from_start}
use Rattle.session_turns.specs.Doing.{Doing, SessionAt}
use Rattle.session_turns.specs.Doing as doing
use Rattle.script_play.specs.Down.{HasOutcome, down_line, fallen_lines}
use Rattle.session_turns.specs.Seen.{SeenRows}
use Rattle.script_play.specs.SoFar.{IsDown, IsGone, Standing, now_of, state_of}
use Rattle.script_play.specs.Start.{Start, base}
use Rattle.session_turns.specs.Step.{Turned, answer_at, committed, outcome, own_line, state, turn_by}
use Rattle.script_play.proofs.DownLemmas.{begins_so, ends_lost}
use Rattle.script_play.proofs.LossLemmas.{IsUncutUnder, few_behind, none_survives, none_told_lost, over_other, over_uncut, uncut_where, up_unhurt}
use Rattle.script_play.proofs.ComesLemmas.{same_itself}
use Rattle.script_play.proofs.SqlLaws.{sql_is_answered}
use Rattle.script_play.proofs.StandingLemmas.{idle_after}
use Rattle.script_play.proofs.StoredLemmas.{world}
use Rattle.script_play.proofs.TurnLemmas.{Comes, idle_lines, own_says}
use Rattle.script_play.proofs.OpenLemmas.{begin_told, open_uncut}
use Rattle.script_play.proofs.ToldLemmas.{IsToldSo}

-- no member of these
none_any : {A : Type 0} (f : A → Bool) (xs : List A) → AllByRecursion (λ x. f x ≡ false) xs → list_any f xs ≡ false
none_any f [] all = refl
none_any f (x ∷ xs) all = or_from (f x) (list_any f xs) all.0 (none_any f xs all.1)

-- lists with one member more that are the same were the same
not_longer : {A : Type 0} (ys : List A) (z : A) → [] ≡ ys ++ z ∷ [] → ⊥
not_longer [] z is = cc
not_longer (y ∷ ys) z is = cc

same_fronts : {A : Type 0} (xs ys : List A) (x y : A) → xs ++ x ∷ [] ≡ ys ++ y ∷ [] → xs ≡ ys
same_fronts [] [] x y is = refl
same_fronts [] (z ∷ ys) x y is = absurd (not_longer ys y (let rest : [] ≡ ys ++ y ∷ [] = cc in rest))
same_fronts (z ∷ xs) [] x y is = absurd (not_longer xs x (let rest : [] ≡ xs ++ x ∷ [] = cc in rest))
same_fronts (z ∷ xs) (v ∷ ys) x y is =
    let head : z ≡ v = cc in
    let rest : xs ++ x ∷ [] ≡ ys ++ y ∷ [] = cc in
    ap (λ w. w ∷ xs) head ∙ ap (λ ws. v ∷ ws) (same_fronts xs ys x y rest)

-- what a session is told at whose entry the node goes down
pub fallen_told : (name : List ℕ) (number : ℕ) (front : List Reply) → told name (fallen_lines name number front) ≡ numbered number (front ++ reply.Lost 1 1 ∷ [])
fallen_told name number front =
    told_append name (lines_of name number front) (down_line ∷ lines_of name number (reply.Lost 1 1 ∷ []))
    ∙ ap (λ (ls : List Numbered). ls ++ told name (lines_of name number (reply.Lost 1 1 ∷ []))) (told_own name name number front (same_itself name))
    ∙ ap (λ (ls : List Numbered). numbered number front ++ ls) (told_own name name number (reply.Lost 1 1 ∷ []) (same_itself name))
    ∙ sym (numbered_append number front (reply.Lost 1 1 ∷ []))

pub fallen_other : (name m : List ℕ) (number : ℕ) (front : List Reply) → bytes_eq name m ≡ false → told m (fallen_lines name number front) ≡ []
fallen_other name m number front differs =
    told_append m (lines_of name number front) (down_line ∷ lines_of name number (reply.Lost 1 1 ∷ []))
    ∙ ap (λ (ls : List Numbered). ls ++ told m (lines_of name number (reply.Lost 1 1 ∷ []))) (told_other m name number front differs)
    ∙ told_other m name number (reply.Lost 1 1 ∷ []) differs

-- the node goes down behind lines without a down line, while a transaction is committed of which these replies were told
module _ (script : Script) (start : Start) (entries : List EntryLine) (lines : List Line) (name : List ℕ) (can : CanRun script) (unhurt : downs lines ≡ 0)
    (opened : IsFrom (base start) (now_of start entries)) (names : NameUpTo (now_of start entries) lines) (places : EachAfter (HasItsPlace script) [] lines)
    (number begin : ℕ) (front : List Reply) (paced : Paced (now_of start entries) (now_of start entries) front)
    (begun : StandsIn (lines ++ lines_of name number front) (line.Session name number (reply.Begin begin))) where
  laws : ArePaced script (from_start script start).origin name number lines (now_of start entries) front
  laws = paced_laws script (from_start script start).origin name number (now_of start entries) (now_of start entries) lines front names opened.0 opened.1 (omega arith) paced

  abbrev pub before : List Line
  before = lines ++ lines_of name number front

  before_unhurt : downs before ≡ 0
  before_unhurt = downs_more lines name number front unhurt

  told_before : told name (before ++ down_line ∷ []) ≡ told name before
  told_before = told_append name before (down_line ∷ []) ∙ append-nil (told name before)

  down_placed : GoesDown script before 1 1 true
  down_placed = record {
    counted = omega (arith, before_unhurt);
    of_script = (omega arith, omega (arith, can.one_node));
    was_up = up_unhurt before before_unhurt;
    by_fault = refl;
  }

  lost_placed : HasItsPlace script (before ++ down_line ∷ []) (line.Session name number (reply.Lost 1 1))
  lost_placed = (
    none_survives name script.sessions can.no_hasql,
    record {
      fault = true;
      front = before;
      back = [];
      stands = refl;
      since = tt;
      begin = begin;
      begun = stands_more before (down_line ∷ []) (line.Session name number (reply.Begin begin)) begun;
      once = subst (λ (ls : List Numbered). AllByRecursion (λ (l : Numbered). is_loss_by 1 l.1 ≡ false) ls) (sym told_before)
          (none_told_lost script name 1 [] before before_unhurt (each_append (HasItsPlace script) [] lines (lines_of name number front) places laws.placed));
    },
  )

  pub falls_so : (k : Kind) (pending : Option (List (List ℕ))) → commits k pending ≡ true → was_cut lines name number ≡ false → IsToldFirst (now_of start entries) (is_own_by k pending) front →
      IsToldSo script (from_start script start).origin (now_of start entries) lines name number k pending (fallen_lines name number front)
  falls_so k pending at_commit uncut first = record {
    said = inr (inr (inr (record {
      at_commit = at_commit;
      uncut = uncut;
      kept = none_lost script lines name number pending unhurt;
      majority = none_lacks script lines k pending unhurt;
      front = front;
      first = first;
      node = 1;
      of_script = down_placed.of_script;
      was_up = up_unhurt lines unhurt;
      told = reply.Lost 1 (downs lines + 1);
      is_told = inl refl;
      says = (let count : downs lines + 1 ≡ 1 = omega (arith, unhurt) in ap (λ (d : ℕ). lines_of name number front ++ line.Down d 1 true ∷ lines_of name number (reply.Lost 1 d ∷ [])) (sym count));
      none = refl;
    })));
    fresh = each_append (IsFreshLine (from_start script start).origin) lines (lines_of name number front) (down_line ∷ lines_of name number (reply.Lost 1 1 ∷ [])) laws.fresh (tt, (tt, tt));
    placed = each_append (HasItsPlace script) lines (lines_of name number front) (down_line ∷ lines_of name number (reply.Lost 1 1 ∷ [])) laws.placed (down_placed, (lost_placed, tt));
    named = all_append _ (lines_of name number front) (down_line ∷ lines_of name number (reply.Lost 1 1 ∷ [])) laws.named (tt, (tt, tt));
  }

  pub goes_down : (states : List SessionAt) → ((m : List ℕ) → IsGone (state_of m script.sessions states).doing (told m (lines_of name number (reply.Lost 1 1 ∷ [])))) → IsDown script (lines ++ fallen_lines name number front) states
  goes_down states gone = record {
    front = before;
    back = lines_of name number (reply.Lost 1 1 ∷ []);
    is = sym (append_assoc lines (lines_of name number front) (down_line ∷ lines_of name number (reply.Lost 1 1 ∷ [])));
    unhurt = before_unhurt;
    once = refl;
    few = subst (λ (n : ℕ). are_few n (lines ++ fallen_lines name number front) ≡ true) (sym can.one_node)
        (subst (λ (ls : List Line). are_few 1 ls ≡ true) (append_assoc lines (lines_of name number front) (down_line ∷ lines_of name number (reply.Lost 1 1 ∷ []))) (few_behind before name number (reply.Lost 1 1)));
    gone = gone;
  }

-- a line that commits, at whose entry the node goes down
pub record Falls (script : Script) (start : Start) (entries : List EntryLine) (seen : SeenRows) (lines : List Line) (name : List ℕ) (after : Place) (number : ℕ) (k : Kind) (pending : Option (List (List ℕ))) (t : Turned) (front : List Reply) : Type 0 where
  pub told_so : IsToldSo script (from_start script start).origin (now_of start entries) lines name number k pending (fallen_lines name t.number front)
  pub stands : Standing script start entries seen.next name after (told name lines ++ told name (fallen_lines name t.number front)) t.after
  pub down : (states : List SessionAt) → ((m : List ℕ) → IsGone (state_of m script.sessions states).doing (told m (lines_of name t.number (reply.Lost 1 1 ∷ [])))) → IsDown script (lines ++ fallen_lines name t.number front) states
  pub idle : t.after.doing ≡ doing.No

module _ (script : Script) (start : Start) (entries : List EntryLine) (changed : List (List Change)) (seen : SeenRows) (name : List ℕ) (p : Place) (text : List ℕ) (lines : List Line) (can : CanRun script) (unhurt : downs lines ≡ 0)
    (names : NameUpTo (now_of start entries) lines) (places : EachAfter (HasItsPlace script) [] lines) where
  abbrev pub now : ℕ
  now = now_of start entries

  abbrev pub FallsAt : Place → ℕ → Kind → Option (List (List ℕ)) → Turned → List Reply → Type 0
  FallsAt after number k pending t front = Falls script start entries seen lines name after number k pending t front

  -- the answer to a line that is a transaction of its own
  abbrev pub own_answer : Answered
  own_answer = answer_at (world script start entries changed seen) now [] text

  own_falls : (c : Comes script start entries changed seen name p None doing.No text OtherText (told name lines)) → AllByRecursion (IsBelow (p.number + 1)) p.over →
      FallsAt (with_own_line p text) (p.number + 1) OtherText None (own_line (world script start entries changed seen) (p.number + 1) p.level own_answer) (reply.Begin now ∷ own_answer.replies)
  own_falls c below = record {
    told_so = falls_so script start entries lines name can unhurt c.stored.opened names places (p.number + 1) now (reply.Begin now ∷ own_answer.replies) its_pace begun OtherText None refl uncut (own_answer.replies, refl, closed_by, quiet);
    stands = subst (λ (ls : List Numbered). Standing script start entries seen.next name (with_own_line p text) (told name lines ++ ls) (state (p.number + 1) p.level doing.No)) (sym (fallen_told name (p.number + 1) (reply.Begin now ∷ own_answer.replies)))
        (idle_after script start entries entries (inl refl) name p c.before c.past (Does (transaction (p.number + 1) (text ∷ []) p.level WithItsLine)) ((reply.Begin now ∷ own_answer.replies) ++ reply.Lost 1 1 ∷ [])
        (told name lines ++ numbered (p.number + 1) ((reply.Begin now ∷ own_answer.replies) ++ reply.Lost 1 1 ∷ [])) seen.next (p.number + 1) p.level (inr cut)
        (ap (λ (ls : List Numbered). ls ++ numbered (p.number + 1) ((reply.Begin now ∷ own_answer.replies) ++ reply.Lost 1 1 ∷ [])) (idle_lines script start entries changed seen seen name p text (told name lines) OtherText c)));
    down = goes_down script start entries lines name can unhurt c.stored.opened names places (p.number + 1) now (reply.Begin now ∷ own_answer.replies) its_pace begun;
    idle = refl;
  }
    where
      plain : ArePlain own_answer.replies
      plain = sql_is_answered.plain (script_tables script) (seen.at now).tables [] text

      closed_by : are_up_to (is_last_of false) own_answer.replies ≡ true
      closed_by = sql_is_answered.closed (script_tables script) (seen.at now).tables [] text

      quiet : list_any is_outcome own_answer.replies ≡ false
      quiet = none_any is_outcome own_answer.replies (plain_all_quiet own_answer.replies plain)

      its_pace : Paced now now (reply.Begin now ∷ own_answer.replies)
      its_pace = (refl, plain_paced now own_answer.replies plain)

      begun : StandsIn (lines ++ lines_of name (p.number + 1) (reply.Begin now ∷ own_answer.replies)) (line.Session name (p.number + 1) (reply.Begin now))
      begun = stands_added lines (lines_of name (p.number + 1) (reply.Begin now ∷ own_answer.replies)) (line.Session name (p.number + 1) (reply.Begin now)) ([], lines_of name (p.number + 1) own_answer.replies, refl)

      uncut : was_cut lines name (p.number + 1) ≡ false
      uncut = uncut_where name (p.number + 1) lines
          (subst (λ (ls : List Numbered). AllByRecursion (IsUncutUnder (p.number + 1)) ls) (sym (idle_lines script start entries changed seen seen name p text (told name lines) OtherText c))
          (over_uncut (IsTold (from_start script start) (view_of (from_start script start) entries) name) (p.number + 1) p.over c.before (over_other (p.number + 1) (p.number + 1) p.over (omega arith) (omega arith) below) c.past))

      cut : IsCut (from_start script start) (view_of (from_start script start) entries) (transaction (p.number + 1) (text ∷ []) p.level WithItsLine) ((reply.Begin now ∷ own_answer.replies) ++ reply.Lost 1 1 ∷ [])
      cut = record {
        begin = now;
        base = c.stored.opened.1;
        within = omega arith;
        ran = alone_at (from_start script start) (view_of (from_start script start) entries) (transaction (p.number + 1) (text ∷ []) p.level WithItsLine) now;
        is_ran = refl;
        front = reply.Begin now ∷ own_answer.replies;
        rest = [];
        fits = append-nil (reply.Begin now ∷ own_answer.replies) ∙ own_says script start entries changed seen seen name p text (told name lines) c;
        cause = reply.Lost 1 1;
        is_cause = refl;
        may = begins_so now own_answer.replies (reply.Begin now ∷ own_answer.replies) refl;
        says = refl;
      }

  commit_falls : (texts : List (List ℕ)) (begin : ℕ) (ops : List RowOp) (uses : List GenidItem) (ranges : List Interval) (c : Comes script start entries changed seen name p (Some texts) (doing.Open begin ops uses ranges) text CommitText (told name lines)) → AllByRecursion (IsBelow p.number) p.over → 1 ≤ p.number →
      FallsAt (closed p texts ByCommit) p.number CommitText (Some texts) (committed (world script start entries changed seen) p.number p.level begin uses ranges ops) []
  commit_falls texts begin ops uses ranges c below first = record {
    told_so = falls_so script start entries lines name can unhurt c.stored.opened names places p.number begin [] refl begun CommitText (Some texts) refl (open_uncut script start entries changed seen name p text lines texts begin ops uses ranges CommitText c below first) refl;
    stands = subst (λ (ls : List Numbered). Standing script start entries seen.next name (closed p texts ByCommit) (told name lines ++ ls) (state p.number p.level doing.No)) (sym (fallen_told name p.number []))
        (ends_lost script start entries changed seen name p text (told name lines) texts begin ops uses ranges CommitText c ByCommit).stands;
    down = goes_down script start entries lines name can unhurt c.stored.opened names places p.number begin [] refl begun;
    idle = refl;
  }
    where
      begun : StandsIn (lines ++ lines_of name p.number []) (line.Session name p.number (reply.Begin begin))
      begun = stands_more lines [] (line.Session name p.number (reply.Begin begin)) (told_stands name p.number (reply.Begin begin) lines (begin_told script start entries changed seen name p text lines texts begin ops uses ranges CommitText c))

  -- whatever the line is that has an entry
  pub falls : (k : Kind) (pending : Option (List (List ℕ))) (what : Doing) → Comes script start entries changed seen name p pending what text k (told name lines) → AllByRecursion (IsBelow (first_left p.number pending)) p.over → IsBegun p.number pending →
      (out : HasOutcome (turn_by (world script start entries changed seen) p.number p.level text k what).replies) → (turn_by (world script start entries changed seen) p.number p.level text k what).added ≢ [] →
      FallsAt (next_by p text k pending) (number_by p.number k pending) k pending (turn_by (world script start entries changed seen) p.number p.level text k what) out.front
  falls BeginText None doing.No c below first out some = absurd (some refl)
  falls CommitText None doing.No c below first out some = absurd (some refl)
  falls RollbackText None doing.No c below first out some = absurd (some refl)
  falls (LevelText later) None doing.No c below first out some = absurd (some refl)
  falls OtherText None doing.No c below first out some =
      subst (λ (front : List Reply). FallsAt (with_own_line p text) (p.number + 1) OtherText None (own_line (world script start entries changed seen) (p.number + 1) p.level own_answer) front)
      (same_fronts (reply.Begin now ∷ own_answer.replies) out.front (outcome (world script start entries changed seen) now p.level own_answer.uses own_answer.ranges own_answer.ops) out.outcome out.is) (own_falls c below)
  falls BeginText (Some texts) (doing.Open begin ops uses ranges) c below first out some = absurd (some refl)
  falls CommitText (Some texts) (doing.Open begin ops uses ranges) c below first out some =
      subst (λ (front : List Reply). FallsAt (closed p texts ByCommit) p.number CommitText (Some texts) (committed (world script start entries changed seen) p.number p.level begin uses ranges ops) front)
      (same_fronts [] out.front (outcome (world script start entries changed seen) begin p.level uses ranges ops) out.outcome out.is) (commit_falls texts begin ops uses ranges c below first)
  falls RollbackText (Some texts) (doing.Open begin ops uses ranges) c below first out some = absurd (some refl)
  falls (LevelText later) (Some texts) (doing.Open begin ops uses ranges) c below first out some = absurd (some refl)
  falls OtherText (Some texts) (doing.Open begin ops uses ranges) c below first out some = absurd (some refl)
  falls BeginText (Some texts) doing.Aborted c below first out some = absurd (some refl)
  falls CommitText (Some texts) doing.Aborted c below first out some = absurd (some refl)
  falls RollbackText (Some texts) doing.Aborted c below first out some = absurd (some refl)
  falls (LevelText later) (Some texts) doing.Aborted c below first out some = absurd (some refl)
  falls OtherText (Some texts) doing.Aborted c below first out some = absurd (some refl)
  falls k None (doing.Open begin ops uses ranges) c below first out some = absurd c.doing
  falls k None doing.Aborted c below first out some = absurd c.doing
  falls k (Some texts) doing.No c below first out some = absurd c.doing

-- A line on a node that is down leaves the session where its work is: its transaction is lost, or was not begun for want of a
-- majority, and any other line does what it does on a node that is up.
use Rattle.std.proofs.Common.{◌≡◌, ◌≢◌, ℕ, ◌+◌, List, [], ◌∷◌, ◌++◌, refl, sym, subst, ap, arith, Option, Some, None, ◌∙◌, Bool, inl, inr}
use Rattle.std.proofs.lemmas.List.{append-nil}
use Rattle.cdb_values.specs.declared.items.GenidItem.{GenidItem}
use Rattle.cdb_values.specs.declared.items.Interval.{Interval}
use Rattle.cdb_values.specs.declared.rows.Change.{Change}
use Rattle.cdb_values.specs.declared.rows.RowOp.{RowOp}
use Rattle.script_form.specs.CanRun.{script_tables}
use Rattle.script_form.specs.declared.scripts.Script.{Script}
use Rattle.session_language.specs.Language.{alone, Kind, BeginText, CommitText, RollbackText, LevelText, OtherText}
use Rattle.session_language.proofs.AnswerLaws.{replies_more}
use Rattle.report_laws.specs.History.{rows_at, view_of}
use Rattle.report_laws.specs.Play.{number_by}
use Rattle.report_laws.specs.Told.{Numbered, IsCut, numbered, alone_at}
use Rattle.report_laws.specs.Work.{Does, Place, End, ByCommit, ByRollback, WithItsLine, Nowhere, transaction, with_open, with_own_line, closed, next_by}
use Rattle.report_text.specs.declared.reports.EntryLine.{EntryLine}
use Rattle.cdb_values.specs.declared.replies.Reply.{Reply}
use Rattle.cdb_values.specs.declared.replies.Reply.TheVariants as reply
use Rattle.query_laws.specs.Alone.{sql_language}
use Rattle.script_play.specs.Basis.{from_start}
use Rattle.session_turns.specs.Doing.{SessionAt, Doing}
use Rattle.session_turns.specs.Doing as doing
use Rattle.script_play.specs.Down.{turn_down}
use Rattle.session_turns.specs.Seen.{SeenRows}
use Rattle.script_play.specs.SoFar.{Standing}
use Rattle.script_play.specs.Start.{Start, base}
use Rattle.session_turns.specs.Step.{Turned, state, told_turn}
use Rattle.script_play.proofs.StandingLemmas.{idle_after, in_transaction}
use Rattle.script_play.proofs.TurnLemmas.{Comes, Turns, idle_lines, piece, turns}

-- replies that begin with a begin are some
pub begins_so : (begin : ℕ) (rs mine : List Reply) → mine ≡ reply.Begin begin ∷ rs → mine ≢ []
begins_so begin rs mine is = λ none. some (sym is ∙ none)
  where
    some : reply.Begin begin ∷ rs ≡ [] → ⊥
    some bad = cc

-- where the session stands behind the line
pub record DownStands (script : Script) (start : Start) (entries : List EntryLine) (seen : SeenRows) (name : List ℕ) (after : Place) (lines : List Numbered) (told : ℕ) (t : Turned) : Type 0 where
  pub stands : Standing script start entries seen.next name after (lines ++ numbered t.number t.replies) t.after
  pub number : t.number ≡ told

module _ (script : Script) (start : Start) (entries : List EntryLine) (changed : List (List Change)) (seen : SeenRows) (name : List ℕ) (p : Place) (text : List ℕ) (lines : List Numbered) where
  abbrev pub DownGoal : Place → ℕ → Turned → Type 0
  DownGoal after told t = DownStands script start entries seen name after lines told t

  -- a transaction that was not begun
  none_begun : (texts : List (List ℕ)) (number : ℕ) (end : End) → IsCut (from_start script start) (view_of (from_start script start) entries) (transaction number texts p.level end) (reply.NoMajority 0 1 ∷ [])
  none_begun texts number end = record { begin = base start; base = omega arith; within = omega arith; ran = alone_at (from_start script start) (view_of (from_start script start) entries) (transaction number texts p.level end) (base start); is_ran = refl; front = []; rest = _; fits = refl; cause = reply.NoMajority 0 1; is_cause = refl; may = inl refl; says = refl }

  module _ (texts : List (List ℕ)) (begin : ℕ) (ops : List RowOp) (uses : List GenidItem) (ranges : List Interval) (k : Kind) (c : Comes script start entries changed seen name p (Some texts) (doing.Open begin ops uses ranges) text k lines) where
    -- a transaction is lost that was begun
    lost_more : IsCut (from_start script start) (view_of (from_start script start) entries) (transaction p.number (texts ++ text ∷ []) p.level Nowhere) (c.mine ++ reply.Lost 1 1 ∷ [])
    lost_more = record {
      begin = begin;
      base = c.doing.first.1;
      within = let w = c.doing.within in omega (arith, w);
      ran = alone_at (from_start script start) (view_of (from_start script start) entries) (transaction p.number (texts ++ text ∷ []) p.level Nowhere) begin;
      is_ran = refl;
      cause = reply.Lost 1 1;
      is_cause = refl;
      may = begins_so begin _ c.mine c.doing.says;
      front = c.mine;
      rest = (sql_language.answer (script_tables script) (rows_at (from_start script start) entries begin).tables (alone sql_language (script_tables script) (rows_at (from_start script start) entries begin) texts).ops text).replies;
      fits = ap (λ rs. rs ++ (sql_language.answer (script_tables script) (rows_at (from_start script start) entries begin).tables (alone sql_language (script_tables script) (rows_at (from_start script start) entries begin) texts).ops text).replies) c.doing.says
          ∙ ap (λ rs. reply.Begin begin ∷ rs) (sym (replies_more sql_language (script_tables script) (rows_at (from_start script start) entries begin).tables [] texts text));
      says = refl;
    }

    goes_lost : DownGoal (with_open p (Some (texts ++ text ∷ [])) p.number) p.number (told_turn p.number (reply.Lost 1 1 ∷ []) (state p.number p.level doing.Aborted))
    goes_lost = record {
      stands = in_transaction script start entries entries (inl refl) name p c.before c.past (texts ++ text ∷ []) (c.mine ++ reply.Lost 1 1 ∷ []) (lines ++ numbered p.number (reply.Lost 1 1 ∷ [])) seen.next p.number doing.Aborted
          lost_more (piece lines c.before p.number c.mine (reply.Lost 1 1 ∷ []) c.is);
      number = refl;
    }

    pub ends_lost : (end : End) → DownGoal (closed p texts end) p.number (told_turn p.number (reply.Lost 1 1 ∷ []) (state p.number p.level doing.No))
    ends_lost end = record {
      stands = idle_after script start entries entries (inl refl) name p c.before c.past (Does (transaction p.number texts p.level end)) (c.mine ++ reply.Lost 1 1 ∷ []) (lines ++ numbered p.number (reply.Lost 1 1 ∷ [])) seen.next p.number p.level
          (inr (record {
            begin = begin;
            base = c.doing.first.1;
            within = (let w = c.doing.within in omega (arith, w));
            ran = alone_at (from_start script start) (view_of (from_start script start) entries) (transaction p.number texts p.level end) begin;
            is_ran = refl;
            front = c.mine;
            rest = [];
            fits = append-nil c.mine ∙ c.doing.says;
            cause = reply.Lost 1 1;
            is_cause = refl;
            may = begins_so begin _ c.mine c.doing.says;
            says = refl;
          }))
          (piece lines c.before p.number c.mine (reply.Lost 1 1 ∷ []) c.is);
      number = refl;
    }

  begin_few : (c : Comes script start entries changed seen name p None doing.No text BeginText lines) → DownGoal (with_open p (Some []) (p.number + 1)) (p.number + 1) (told_turn (p.number + 1) (reply.NoMajority 0 1 ∷ []) (state (p.number + 1) p.level doing.Aborted))
  begin_few c = record {
    stands = in_transaction script start entries entries (inl refl) name p c.before c.past [] (reply.NoMajority 0 1 ∷ []) (lines ++ numbered (p.number + 1) (reply.NoMajority 0 1 ∷ [])) seen.next (p.number + 1) doing.Aborted
        (none_begun [] (p.number + 1) Nowhere)
        (ap (λ ls. ls ++ numbered (p.number + 1) (reply.NoMajority 0 1 ∷ [])) (idle_lines script start entries changed seen seen name p text lines BeginText c));
    number = refl;
  }

  own_few : (c : Comes script start entries changed seen name p None doing.No text OtherText lines) → DownGoal (with_own_line p text) (p.number + 1) (told_turn (p.number + 1) (reply.NoMajority 0 1 ∷ []) (state (p.number + 1) p.level doing.No))
  own_few c = record {
    stands = idle_after script start entries entries (inl refl) name p c.before c.past (Does (transaction (p.number + 1) (text ∷ []) p.level WithItsLine)) (reply.NoMajority 0 1 ∷ []) (lines ++ numbered (p.number + 1) (reply.NoMajority 0 1 ∷ [])) seen.next (p.number + 1) p.level
        (inr (none_begun (text ∷ []) (p.number + 1) WithItsLine))
        (ap (λ ls. ls ++ numbered (p.number + 1) (reply.NoMajority 0 1 ∷ [])) (idle_lines script start entries changed seen seen name p text lines OtherText c));
    number = refl;
  }

  -- a line that does what it does on a node that is up, and adds nothing
  as_up : (after : Place) (told number : ℕ) (own : Bool) (replies : List Reply) (at : SessionAt) → Turns script start entries (entries ++ []) (changed ++ []) seen seen name after lines told own (told_turn number replies at) → DownGoal after told (told_turn number replies at)
  as_up after told number own replies at turn = record {
    stands = subst (λ (es : List EntryLine). Standing script start es seen.next name after (lines ++ numbered number replies) at) (append-nil entries) turn.stands;
    number = turn.number;
  }

  pub stands_down : (k : Kind) (pending : Option (List (List ℕ))) (what : Doing) → Comes script start entries changed seen name p pending what text k lines →
      DownGoal (next_by p text k pending) (number_by p.number k pending) (turn_down p.number p.level k what)
  stands_down BeginText None doing.No c = begin_few c
  stands_down OtherText None doing.No c = own_few c
  stands_down CommitText None doing.No c = as_up _ _ _ _ _ _ (turns script start entries changed seen seen name p text lines CommitText None doing.No c refl)
  stands_down RollbackText None doing.No c = as_up _ _ _ _ _ _ (turns script start entries changed seen seen name p text lines RollbackText None doing.No c refl)
  stands_down (LevelText later) None doing.No c = as_up _ _ _ _ _ _ (turns script start entries changed seen seen name p text lines (LevelText later) None doing.No c refl)
  stands_down BeginText (Some texts) (doing.Open begin ops uses ranges) c = goes_lost texts begin ops uses ranges BeginText c
  stands_down CommitText (Some texts) (doing.Open begin ops uses ranges) c = ends_lost texts begin ops uses ranges CommitText c ByCommit
  stands_down RollbackText (Some texts) (doing.Open begin ops uses ranges) c = ends_lost texts begin ops uses ranges RollbackText c ByRollback
  stands_down (LevelText later) (Some texts) (doing.Open begin ops uses ranges) c = goes_lost texts begin ops uses ranges (LevelText later) c
  stands_down OtherText (Some texts) (doing.Open begin ops uses ranges) c = goes_lost texts begin ops uses ranges OtherText c
  stands_down BeginText (Some texts) doing.Aborted c = as_up _ _ _ _ _ _ (turns script start entries changed seen seen name p text lines BeginText (Some texts) doing.Aborted c refl)
  stands_down CommitText (Some texts) doing.Aborted c = as_up _ _ _ _ _ _ (turns script start entries changed seen seen name p text lines CommitText (Some texts) doing.Aborted c refl)
  stands_down RollbackText (Some texts) doing.Aborted c = as_up _ _ _ _ _ _ (turns script start entries changed seen seen name p text lines RollbackText (Some texts) doing.Aborted c refl)
  stands_down (LevelText later) (Some texts) doing.Aborted c = as_up _ _ _ _ _ _ (turns script start entries changed seen seen name p text lines (LevelText later) (Some texts) doing.Aborted c refl)
  stands_down OtherText (Some texts) doing.Aborted c = as_up _ _ _ _ _ _ (turns script start entries changed seen seen name p text lines OtherText (Some texts) doing.Aborted c refl)
  stands_down k None (doing.Open begin ops uses ranges) c = absurd c.doing
  stands_down k None doing.Aborted c = absurd c.doing
  stands_down k (Some texts) doing.No c = absurd c.doing

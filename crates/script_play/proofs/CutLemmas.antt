-- A line that want of memory cuts short leaves the session where its work is.
use Rattle.std.proofs.Common.{◌≡◌, ℕ, ◌+◌, List, [], ◌∷◌, ◌++◌, refl, sym, subst, ap, arith, Option, Some, None, ◌∙◌, inl, inr}
use Rattle.std.proofs.lemmas.List.{append-nil}
use Rattle.cdb_values.specs.declared.rows.RowOp.{RowOp}
use Rattle.session_turns.specs.Seen.{SeenRows}
use Rattle.script_play.specs.Start.{Start, base}
use Rattle.script_form.specs.declared.scripts.Script.{Script}
use Rattle.report_text.specs.declared.reports.EntryLine.{EntryLine}
use Rattle.cdb_values.specs.declared.replies.Reply.TheVariants as reply
use Rattle.script_form.specs.CanRun.{script_tables}
use Rattle.report_laws.specs.History.{rows_at, view_of}
use Rattle.session_language.specs.Language.{alone, Kind, BeginText, CommitText, RollbackText, LevelText, OtherText}
use Rattle.script_play.specs.Basis.{from_start}
use Rattle.query_laws.specs.Alone.{sql_language}
use Rattle.report_laws.specs.Play.{number_by}
use Rattle.report_laws.specs.Told.{Numbered, IsCut, numbered, alone_at}
use Rattle.report_laws.specs.Work.{Does, Place, End, ByCommit, ByRollback, WithItsLine, Nowhere, transaction, with_open, with_own_line, closed, next_by}
use Rattle.cdb_values.specs.declared.items.GenidItem.{GenidItem}
use Rattle.cdb_values.specs.declared.items.Interval.{Interval}
use Rattle.cdb_values.specs.declared.rows.Change.{Change}
use Rattle.session_language.proofs.AnswerLaws.{replies_more}
use Rattle.script_play.specs.SoFar.{Standing}
use Rattle.session_turns.specs.Step.{Cut, cut_by, state}
use Rattle.session_turns.specs.Doing.{Doing}
use Rattle.session_turns.specs.Doing as doing
use Rattle.script_play.proofs.StandingLemmas.{idle_after, in_transaction}
use Rattle.script_play.proofs.TurnLemmas.{Comes, piece, idle_lines}

-- where the session stands behind the line
pub record CutStands (script : Script) (start : Start) (entries : List EntryLine) (seen : SeenRows) (name : List ℕ) (after : Place) (lines : List Numbered) (told : ℕ) (c : Cut) : Type 0 where
  pub stands : Standing script start entries seen.next name after (lines ++ numbered c.number (reply.NoMemory ∷ [])) c.after
  pub number : c.number ≡ told

module _ (script : Script) (start : Start) (entries : List EntryLine) (changed : List (List Change)) (seen : SeenRows) (name : List ℕ) (p : Place) (text : List ℕ) (lines : List Numbered) where
  abbrev pub CutGoal : Place → ℕ → Option Cut → Type 0
  CutGoal after told found = (c : Cut) → found ≡ Some c → CutStands script start entries seen name after lines told c

  -- the cut that comes
  this : (after : Place) (told : ℕ) (x c : Cut) → Some x ≡ Some c → CutStands script start entries seen name after lines told x → CutStands script start entries seen name after lines told c
  this after told x c is stands = let same : x ≡ c = cc in subst (λ (y : Cut). CutStands script start entries seen name after lines told y) same stands

  empty_cut : (t_texts : List (List ℕ)) (number : ℕ) (end : End) → IsCut (from_start script start) (view_of (from_start script start) entries) (transaction number t_texts p.level end) (reply.NoMemory ∷ [])
  empty_cut t_texts number end = record { begin = base start; base = omega arith; within = omega arith; ran = alone_at (from_start script start) (view_of (from_start script start) entries) (transaction number t_texts p.level end) (base start); is_ran = refl; front = []; rest = _; fits = refl; cause = reply.NoMemory; is_cause = refl; may = tt; says = refl }

  module _ (texts : List (List ℕ)) (begin : ℕ) (ops : List RowOp) (uses : List GenidItem) (ranges : List Interval) (k : Kind) (c : Comes script start entries changed seen name p (Some texts) (doing.Open begin ops uses ranges) text k lines) where
    cut_more : IsCut (from_start script start) (view_of (from_start script start) entries) (transaction p.number (texts ++ text ∷ []) p.level Nowhere) (c.mine ++ reply.NoMemory ∷ [])
    cut_more = record {
      begin = begin;
      base = c.doing.first.1;
      within = let w = c.doing.within in omega (arith, w);
      ran = alone_at (from_start script start) (view_of (from_start script start) entries) (transaction p.number (texts ++ text ∷ []) p.level Nowhere) begin;
      is_ran = refl;
      cause = reply.NoMemory;
      is_cause = refl;
      may = tt;
      front = c.mine;
      rest = (sql_language.answer (script_tables script) (rows_at (from_start script start) entries begin).tables (alone sql_language (script_tables script) (rows_at (from_start script start) entries begin) texts).ops text).replies;
      fits = ap (λ rs. rs ++ (sql_language.answer (script_tables script) (rows_at (from_start script start) entries begin).tables (alone sql_language (script_tables script) (rows_at (from_start script start) entries begin) texts).ops text).replies) c.doing.says
          ∙ ap (λ rs. reply.Begin begin ∷ rs) (sym (replies_more sql_language (script_tables script) (rows_at (from_start script start) entries begin).tables [] texts text));
      says = refl;
    }

    goes_cut : CutStands script start entries seen name (with_open p (Some (texts ++ text ∷ [])) p.number) lines p.number (record { number = p.number; after = state p.number p.level doing.Aborted })
    goes_cut = record {
      stands = in_transaction script start entries entries (inl refl) name p c.before c.past (texts ++ text ∷ []) (c.mine ++ reply.NoMemory ∷ []) (lines ++ numbered p.number (reply.NoMemory ∷ [])) seen.next p.number doing.Aborted
          cut_more (piece lines c.before p.number c.mine (reply.NoMemory ∷ []) c.is);
      number = refl;
    }

    ends_cut : (end : End) → CutStands script start entries seen name (closed p texts end) lines p.number (record { number = p.number; after = state p.number p.level doing.No })
    ends_cut end = record {
      stands = idle_after script start entries entries (inl refl) name p c.before c.past (Does (transaction p.number texts p.level end)) (c.mine ++ reply.NoMemory ∷ []) (lines ++ numbered p.number (reply.NoMemory ∷ [])) seen.next p.number p.level
          (inr (record { begin = begin; base = c.doing.first.1; within = (let w = c.doing.within in omega (arith, w)); ran = alone_at (from_start script start) (view_of (from_start script start) entries) (transaction p.number texts p.level end) begin; is_ran = refl; front = c.mine; rest = []; fits = append-nil c.mine ∙ c.doing.says; cause = reply.NoMemory; is_cause = refl; may = tt; says = refl }))
          (piece lines c.before p.number c.mine (reply.NoMemory ∷ []) c.is);
      number = refl;
    }

  begin_cut : (c : Comes script start entries changed seen name p None doing.No text BeginText lines) → CutStands script start entries seen name (with_open p (Some []) (p.number + 1)) lines (p.number + 1) (record { number = p.number + 1; after = state (p.number + 1) p.level doing.Aborted })
  begin_cut c = record {
    stands = in_transaction script start entries entries (inl refl) name p c.before c.past [] (reply.NoMemory ∷ []) (lines ++ numbered (p.number + 1) (reply.NoMemory ∷ [])) seen.next (p.number + 1) doing.Aborted
        (empty_cut [] (p.number + 1) Nowhere)
        (ap (λ ls. ls ++ numbered (p.number + 1) (reply.NoMemory ∷ [])) (idle_lines script start entries changed seen seen name p text lines BeginText c));
    number = refl;
  }

  own_cut : (c : Comes script start entries changed seen name p None doing.No text OtherText lines) → CutStands script start entries seen name (with_own_line p text) lines (p.number + 1) (record { number = p.number + 1; after = state (p.number + 1) p.level doing.No })
  own_cut c = record {
    stands = idle_after script start entries entries (inl refl) name p c.before c.past (Does (transaction (p.number + 1) (text ∷ []) p.level WithItsLine)) (reply.NoMemory ∷ []) (lines ++ numbered (p.number + 1) (reply.NoMemory ∷ [])) seen.next (p.number + 1) p.level
        (inr (empty_cut (text ∷ []) (p.number + 1) WithItsLine))
        (ap (λ ls. ls ++ numbered (p.number + 1) (reply.NoMemory ∷ [])) (idle_lines script start entries changed seen seen name p text lines OtherText c));
    number = refl;
  }

  pub cuts : (k : Kind) (pending : Option (List (List ℕ))) (what : Doing) → Comes script start entries changed seen name p pending what text k lines →
      CutGoal (next_by p text k pending) (number_by p.number k pending) (cut_by p.number p.level k what)
  cuts BeginText None doing.No c x is = this _ _ _ x is (begin_cut c)
  cuts CommitText None doing.No c x is = absurd cc
  cuts RollbackText None doing.No c x is = absurd cc
  cuts (LevelText later) None doing.No c x is = absurd cc
  cuts OtherText None doing.No c x is = this _ _ _ x is (own_cut c)
  cuts BeginText (Some texts) (doing.Open begin ops uses ranges) c x is = this _ _ _ x is (goes_cut texts begin ops uses ranges BeginText c)
  cuts CommitText (Some texts) (doing.Open begin ops uses ranges) c x is = this _ _ _ x is (ends_cut texts begin ops uses ranges CommitText c ByCommit)
  cuts RollbackText (Some texts) (doing.Open begin ops uses ranges) c x is = this _ _ _ x is (ends_cut texts begin ops uses ranges RollbackText c ByRollback)
  cuts (LevelText later) (Some texts) (doing.Open begin ops uses ranges) c x is = this _ _ _ x is (goes_cut texts begin ops uses ranges (LevelText later) c)
  cuts OtherText (Some texts) (doing.Open begin ops uses ranges) c x is = this _ _ _ x is (goes_cut texts begin ops uses ranges OtherText c)
  cuts BeginText (Some texts) doing.Aborted c x is = absurd cc
  cuts CommitText (Some texts) doing.Aborted c x is = absurd cc
  cuts RollbackText (Some texts) doing.Aborted c x is = absurd cc
  cuts (LevelText later) (Some texts) doing.Aborted c x is = absurd cc
  cuts OtherText (Some texts) doing.Aborted c x is = absurd cc
  cuts k None (doing.Open begin ops uses ranges) c x is = absurd c.doing
  cuts k None doing.Aborted c x is = absurd c.doing
  cuts k (Some texts) doing.No c x is = absurd c.doing

-- The entry at which the store of a node failed: with it the history would be another one, and so it stays behind later lines.
use Rattle.std.proofs.Common.{◌≡◌, ◌≢◌, ℕ, ◌+◌, ◌++◌, List, [], ◌∷◌, length, map, refl, sym, subst, ap, arith, ◌∙◌, Bool, true, false, Some, slice_set, inl, append_assoc}
use Rattle.std.proofs.lemmas.List.{append-nil}
use Rattle.std.specs.List.{slice_get, AllByRecursion}
use Rattle.block_processor.specs.Changed.{changed_in}
use Rattle.cdb_values.specs.declared.rows.Change.{Change}
use Rattle.cdb_values.specs.declared.rows.RowOp.{RowOp}
use Rattle.node_log.specs.Logged.{Logged}
use Rattle.report_laws.specs.History.{Basis, changes_at, rows_at, view_of, IsCommitAfter, IsEntryAfter}
use Rattle.report_laws.specs.Nodes.{downs}
use Rattle.report_laws.specs.Play.{GoDownAtChanges}
use Rattle.report_laws.specs.Told.{lines_of, numbered, told, IsCommitTold, IsEntryTold, Numbered}
use Rattle.report_laws.specs.View.{View}
use Rattle.report_laws.proofs.DownLaws.{one_goes_down}
use Rattle.report_laws.proofs.EntryToldLaws.{told_stands}
use Rattle.report_laws.proofs.ToldLaws.{numbered_append, told_append, told_own}
use Rattle.report_text.specs.declared.reports.EntryLine.{EntryLine}
use Rattle.report_text.specs.declared.reports.EntryLine.TheVariants.{Commit}
use Rattle.report_text.specs.declared.reports.Line.{Line}
use Rattle.report_text.specs.declared.reports.Line.TheVariants as line
use Rattle.cdb_values.specs.declared.replies.Reply.{Reply}
use Rattle.cdb_values.specs.declared.replies.Reply.TheVariants as reply
use Rattle.report_text.specs.declared.reports.Report.{Report}
use Rattle.script_form.specs.CanRun.{script_tables}
use Rattle.script_form.specs.declared.scripts.Act.TheVariants.{Say}
use Rattle.script_form.specs.declared.scripts.BodyLine.{BodyLine}
use Rattle.script_form.specs.declared.scripts.Script.{Script}
use Rattle.session_language.specs.Each.{EachAfter, StandsIn}
use Rattle.session_language.specs.Language.{Answered}
use Rattle.session_language.proofs.AllLaws.{all_behind}
use Rattle.session_language.proofs.UpToLaws.{same_head, same_tail}
use Rattle.sql_answer.specs.Reading.{kind_of_text}
use Rattle.script_play.specs.Basis.{from_start}
use Rattle.session_turns.specs.Doing.{SessionAt}
use Rattle.script_play.specs.Down.{down_line, history_by, history_of, turn_down, HasOutcome, IsLostBy}
use Rattle.script_play.specs.EntryLines.{AreTold}
use Rattle.script_play.specs.Falls.{IsDoneDown, IsFallen, IsTakenOn}
use Rattle.script_play.specs.Played.{IsFurther}
use Rattle.script_play.specs.Run.{run_of}
use Rattle.script_play.specs.RunViews.{seen_in, world, HasFurther, IsBeforeLine, IsFurtherOn, WouldBeDone}
use Rattle.session_turns.specs.Views.{state_in}
use Rattle.session_turns.specs.Seen.{SeenRows}
use Rattle.script_play.specs.SoFar.{now_of, session_at, IsBefore, IsStoredSoFar}
use Rattle.script_play.specs.Start.{Start}
use Rattle.session_turns.specs.Step.{Turned, turn, world_of, World}
use Rattle.script_play.specs.Step.{entries_added, IsTurned}
use Rattle.session_turns.specs.declared.states.SessionState.{SessionState}
use Rattle.script_play.proofs.ComesLemmas.{same_itself}
use Rattle.script_play.proofs.KeepLemmas.{taken_on}
use Rattle.script_play.proofs.SiteLemmas.{told_count}

-- the line of a transaction that is lost stays behind further lines
lost_more : (lines more lines' : List Line) (entry : EntryLine) → lines' ≡ lines ++ more → IsLostBy lines entry → IsLostBy lines' entry
lost_more lines more lines' entry is lost = record {
  front = lost.front;
  back = lost.back ++ more;
  position = lost.position;
  session = lost.session;
  number = lost.number;
  begin = lost.begin;
  level = lost.level;
  entry_is = lost.entry_is;
  begun = lost.begun;
  told = is ∙ ap (λ (ls : List Line). ls ++ more) lost.told ∙ append_assoc lost.front (down_line ∷ line.Session lost.session lost.number (reply.Lost 1 1) ∷ lost.back) more;
}

-- a list is not empty that has a member
none_at : {A : Type 0} (before rest : List A) (x : A) → [] ≡ before ++ x ∷ rest → ⊥
none_at [] rest x is = cc
none_at (b ∷ before) rest x is = cc

-- what does not stand last stands before the last one
within_front : {A : Type 0} (before rest ys : List A) (x r z : A) → ys ++ z ∷ [] ≡ before ++ x ∷ r ∷ rest → StandsIn ys x
within_front [] rest [] x r z is = absurd (none_at [] rest r (same_tail z x [] (r ∷ rest) is))
within_front [] rest (y ∷ ys) x r z is = ([], ys, ap (λ w. w ∷ ys) (same_head y x (ys ++ z ∷ []) (r ∷ rest) is))
within_front (b ∷ before) rest [] x r z is = absurd (none_at before (r ∷ rest) x (same_tail z b [] (before ++ x ∷ r ∷ rest) is))
within_front {A} (b ∷ before) rest (y ∷ ys) x r z is = more (within_front before rest ys x r z (same_tail y b (ys ++ z ∷ []) (before ++ x ∷ r ∷ rest) is))
  where
    more : StandsIn ys x → StandsIn (y ∷ ys) x
    more (front, back, at) = (y ∷ front, back, ap (λ (ws : List A). y ∷ ws) at)

-- where an entry's transaction was told whole, its begin stands before its outcome
begun_before : (basis : Basis) (view : View) (lines : List Line) (name : List ℕ) (number begin position : ℕ) (front : List Reply) (outcome : Reply) →
    IsCommitTold basis view (lines ++ lines_of name number (front ++ outcome ∷ [])) position name number begin → StandsIn (lines ++ lines_of name number front) (line.Session name number (reply.Begin begin))
begun_before basis view lines name number begin position front outcome c = told_stands name number (reply.Begin begin) (lines ++ lines_of name number front) (go c.ran.replies c.says)
  where
    own : (replies : List Reply) → told name (lines ++ lines_of name number replies) ≡ told name lines ++ numbered number replies
    own replies = told_append name lines (lines_of name number replies) ∙ ap (λ (ls : List Numbered). told name lines ++ ls) (told_own name name number replies (same_itself name))

    told_is : told name (lines ++ lines_of name number (front ++ outcome ∷ [])) ≡ (told name (lines ++ lines_of name number front)) ++ (number, outcome) ∷ []
    told_is = own (front ++ outcome ∷ [])
        ∙ ap (λ (ls : List Numbered). told name lines ++ ls) (numbered_append number front (outcome ∷ []))
        ∙ sym (append_assoc (told name lines) (numbered number front) (numbered number (outcome ∷ [])))
        ∙ ap (λ (ls : List Numbered). ls ++ (number, outcome) ∷ []) (sym (own front))

    go : (replies : List Reply) → told name (lines ++ lines_of name number (front ++ outcome ∷ [])) ≡ c.before ++ (numbered number (reply.Begin begin ∷ (replies ++ c.outcome ∷ [])) ++ c.after) →
        StandsIn (told name (lines ++ lines_of name number front)) (number, reply.Begin begin)
    go [] is = within_front c.before c.after (told name (lines ++ lines_of name number front)) (number, reply.Begin begin) (number, c.outcome) (number, outcome) (sym told_is ∙ is)
    go (r ∷ replies) is = within_front c.before (numbered number (replies ++ c.outcome ∷ []) ++ c.after) (told name (lines ++ lines_of name number front)) (number, reply.Begin begin) (number, r) (number, outcome) (sym told_is ∙ is)

-- a line on a node that is down leaves the log as it is
further_down : (script : Script) (start : Start) (generation : ℕ) (lines lines' : List Line) (entries entries' : List EntryLine) (log log' : Logged) (w : World) (name : List ℕ) (x : SessionAt) (text : List ℕ) (after : SessionAt) (changed' : List (List Change)) (seen' : SeenRows) →
    IsDoneDown w name x text after lines lines' entries entries' changed' seen' → log' ≡ log → HasFurther script start generation (run_of lines entries log) → HasFurther script start generation (run_of lines' entries' log')
further_down script start generation lines lines' entries entries' log log' w name x text after changed' seen' run same was =
    subst (λ (l : Logged). HasFurther script start generation (run_of lines' entries' l)) (sym same)
    (subst (λ (es : List EntryLine). HasFurther script start generation (run_of lines' es log)) (sym run.still.entries_are) (record {
      line = was.line;
      lost = lost_more lines (lines_of name (turn_down x.number x.level (kind_of_text text) x.doing).number (turn_down x.number x.level (kind_of_text text) x.doing).replies) lines' was.line run.told.lines_are was.lost;
      told = was.told;
      logged = was.logged;
      stored = was.stored;
    }))

-- a line at whose entry the store failed: had it not, the run would have gone on with that entry in the history
module _ (script : Script) (start : Start) (generation : ℕ) (left : List BodyLine) (l : BodyLine) (lines lines' : List Line) (entries entries' : List EntryLine) (log log' : Logged) (states : List SessionAt) (name text : List ℕ) (at : ℕ) (x after : SessionAt)
    (before : IsBefore script start false (l ∷ left) lines entries (changed_in log.entries) (seen_in start log.entries) states) (told : AreTold start.before generation entries log.entries)
    (is_act : l.act ≡ Say name text) (found : session_at name script.sessions ≡ Some at) (has : slice_get states at ≡ Some x) where
  abbrev turned_there : ℕ → Turned
  turned_there n = turn (world_of (script_tables script) (seen_in start log.entries) (changed_in log.entries) n) x text

  abbrev t : Turned
  t = turned_there (length log.entries)

  count : length log.entries ≡ now_of start entries
  count = told_count start.before generation entries log.entries told

  abbrev line_there : EntryLine
  line_there = Commit (length log.entries + 1) name t.number t.begin t.after.level

  added_are : WouldBeDone start generation (script_tables script) name t (run_of lines entries log) (run_of lines' entries' log') → entries_added name (length log.entries) t ≡ line_there ∷ []
  added_are would = ap (λ (all : List (List RowOp)). map (λ ops. Commit (length log.entries + 1) name t.number t.begin t.after.level) all) would.commits

  -- the run as it would be behind the line
  goes_on : WouldBeDone start generation (script_tables script) name t (run_of lines entries log) (run_of lines' entries' log') →
      IsBefore script start false left (lines ++ lines_of name t.number t.replies) (entries ++ entries_added name (length log.entries) t) (changed_in log'.entries) (seen_in start log'.entries) (slice_set states at (turned_there (now_of start entries)).after)
  goes_on would =
      taken_on script start false false left l lines (lines ++ lines_of name t.number t.replies) entries (entries ++ entries_added name (length log.entries) t) (changed_in log.entries) (changed_in log'.entries) (seen_in start log.entries) (seen_in start log'.entries)
      states name text at x (turned_there (now_of start entries)).after before is_act found has (inl (subst (λ (n : ℕ). IsTurnedAt n) count would.turned, refl))
    where
      IsTurnedAt : ℕ → Type 0
      IsTurnedAt n = IsTurned (world_of (script_tables script) (seen_in start log.entries) (changed_in log.entries) n) name (turned_there n) lines (lines ++ lines_of name t.number t.replies)
          entries (entries ++ entries_added name (length log.entries) t) (changed_in log'.entries) (seen_in start log'.entries)

  stored_with : (would : WouldBeDone start generation (script_tables script) name t (run_of lines entries log) (run_of lines' entries' log')) → IsStoredSoFar script start (entries ++ line_there ∷ []) (changed_in log'.entries) (seen_in start log'.entries)
  stored_with would = subst (λ (es : List EntryLine). IsStoredSoFar script start (entries ++ es) (changed_in log'.entries) (seen_in start log'.entries)) (added_are would) (goes_on would).so_far.stored

  -- the begin of the transaction stands before the outcome that it would be told
  begun_there : WouldBeDone start generation (script_tables script) name t (run_of lines entries log) (run_of lines' entries' log') → (out : HasOutcome t.replies) →
      StandsIn (lines ++ lines_of name t.number out.front) (line.Session name t.number (reply.Begin t.begin))
  begun_there would out =
      begun_before (from_start script start) (view_of (from_start script start) (entries ++ line_there ∷ [])) lines name t.number t.begin (length log.entries + 1) out.front out.outcome
      (subst (λ (rs : List Reply). IsEntryTold (from_start script start) (view_of (from_start script start) (entries ++ line_there ∷ [])) (lines ++ lines_of name t.number rs) line_there) out.is
      (all_behind (IsEntryTold (from_start script start) (view_of (from_start script start) (entries ++ line_there ∷ [])) (lines ++ lines_of name t.number t.replies)) entries (line_there ∷ [])
      (subst (λ (es : List EntryLine). AllByRecursion (IsEntryTold (from_start script start) (view_of (from_start script start) (entries ++ es)) (lines ++ lines_of name t.number t.replies)) (entries ++ es)) (added_are would)
      (goes_on would).so_far.answered)).0)

  further_fallen : IsFallen (world start (script_tables script) log.entries) name t after lines lines' entries entries' (changed_in (history_of log')) (seen_in start (history_of log')) →
      WouldBeDone start generation (script_tables script) name t (run_of lines entries log) (run_of lines' entries' log') → HasFurther script start generation (run_of lines' entries' log')
  further_fallen fell would = subst (λ (es : List EntryLine). HasFurther script start generation (run_of lines' es log')) (sym fell.still.entries_are) (record {
    line = line_there;
    lost = record {
      front = lines ++ lines_of name t.number fell.outcome.front;
      back = [];
      position = length log.entries + 1;
      session = name;
      number = t.number;
      begin = t.begin;
      level = t.after.level;
      entry_is = refl;
      begun = begun_there would fell.outcome;
      told = fell.lines_are ∙ sym (append_assoc lines (lines_of name t.number fell.outcome.front) (down_line ∷ lines_of name t.number (reply.Lost 1 1 ∷ [])));
    };
    told = subst (λ (es : List EntryLine). AreTold start.before generation (entries ++ es) log'.entries)
        (added_are would) (would.told told);
    logged = would.logged;
    stored = stored_with would;
  })

-- behind a line that was taken
pub further_there : (script : Script) (start : Start) (generation had : ℕ) (left : List BodyLine) (l : BodyLine) (lines lines' : List Line) (entries entries' : List EntryLine) (log log' : Logged) (states : List SessionState) (others : List SessionAt) (name text : List ℕ) (at : ℕ) (x after : SessionAt) →
    IsBeforeLine script start generation had (l ∷ left) (run_of lines entries log) states → others ≡ map state_in states → l.act ≡ Say name text → session_at name script.sessions ≡ Some at → slice_get others at ≡ Some x →
    IsTakenOn log.failed log'.failed (world start (script_tables script) (history_of log)) name x text after lines lines' entries entries' (changed_in (history_of log')) (seen_in start (history_of log')) →
    IsFurtherOn log.failed log'.failed start generation (script_tables script) name (turn (world start (script_tables script) (history_of log)) x text) (run_of lines entries log) (run_of lines' entries' log') →
    log'.failed ≡ true → HasFurther script start generation (run_of lines' entries' log')
further_there script start generation had left l lines lines' entries entries' log log' states others name text at x after before same is_act found has taken further down = go log.failed log'.failed refl down taken further
  where
    go : (b c : Bool) → log.failed ≡ b → c ≡ true →
        IsTakenOn b c (world start (script_tables script) (history_of log)) name x text after lines lines' entries entries' (changed_in (history_of log')) (seen_in start (history_of log')) →
        IsFurtherOn b c start generation (script_tables script) name (turn (world start (script_tables script) (history_of log)) x text) (run_of lines entries log) (run_of lines' entries' log') →
        HasFurther script start generation (run_of lines' entries' log')
    go false false up is taken further = absurd cc
    go true false up is taken further = absurd cc
    go true true up is taken further =
        further_down script start generation lines lines' entries entries' log log' (world start (script_tables script) (history_of log)) name x text after (changed_in (history_of log')) (seen_in start (history_of log')) taken further (before.further up)
    go false true up is taken further =
        further_fallen script start generation left l lines lines' entries entries' log log' others name text at x after
        (subst (λ (ss : List SessionAt). IsBefore script start false (l ∷ left) lines entries (changed_in log.entries) (seen_in start log.entries) ss) (sym same)
        (subst (λ (b : Bool). IsBefore script start b (l ∷ left) lines entries (changed_in (history_by b log.entries)) (seen_in start (history_by b log.entries)) (map state_in states)) up before.before))
        (subst (λ (b : Bool). AreTold start.before generation entries (history_by b log.entries)) up before.told) is_act found has
        (subst (λ (b : Bool). IsFallen (world start (script_tables script) (history_by b log.entries)) name (turn (world start (script_tables script) (history_by b log.entries)) x text) after lines lines' entries entries' (changed_in (history_of log')) (seen_in start (history_of log'))) up taken)
        (subst (λ (b : Bool). WouldBeDone start generation (script_tables script) name (turn (world start (script_tables script) (history_by b log.entries)) x text) (run_of lines entries log) (run_of lines' entries' log')) up further)

-- what holds of each member behind those before it holds of the last
each_last : {A : Type 0} (P : List A → A → Type 0) (before xs : List A) (x : A) → EachAfter P before (xs ++ x ∷ []) → P (before ++ xs) x
each_last P before [] x each = subst (λ ys. P ys x) (sym (append-nil before)) each.0
each_last P before (y ∷ xs) x each = subst (λ ys. P ys x) (append_assoc before (y ∷ []) xs) (each_last P (before ++ y ∷ []) xs x each.1)

-- the node went down at the commit of a transaction with operations
pub falls_at_changes : (script : Script) (start : Start) (generation : ℕ) (lines : List Line) (entries : List EntryLine) (log : Logged) → HasFurther script start generation (run_of lines entries log) → downs lines ≡ 1 →
    GoDownAtChanges (from_start script start) (view_of (from_start script start) entries) [] lines
falls_at_changes script start generation lines entries log is one =
    subst (λ (ls : List Line). GoDownAtChanges (from_start script start) (view_of (from_start script start) entries) [] ls) (sym is.lost.told)
    (one_goes_down (from_start script start) (view_of (from_start script start) entries) [] is.lost.front is.lost.back 1 1 true is.lost.session is.lost.number (reply.Lost 1 1) (sym (ap downs is.lost.told) ∙ one) (record {
      transaction = committed.transaction;
      is_its = committed.is_its;
      begin = is.lost.begin;
      begun = is.lost.begun;
      has_ops = subst (λ (a : Answered). a.ops ≢ []) committed.is_ran committed.has_ops;
    }))
  where
    committed : IsCommitAfter (from_start script start) (view_of (from_start script start) entries) is.lost.position is.lost.session is.lost.number is.lost.begin is.lost.level
    committed = subst (λ (e : EntryLine). IsEntryAfter (from_start script start) entries e) is.lost.entry_is (each_last (IsEntryAfter (from_start script start)) [] entries is.line is.stored.history)

-- at the end of a run
pub further_told : (script : Script) (start : Start) (generation : ℕ) (lines : List Line) (entries : List EntryLine) (log : Logged) (report : Report) → report.lines ≡ lines → report.entries ≡ entries →
    HasFurther script start generation (run_of lines entries log) → IsFurther script start generation report log.entries
further_told script start generation lines entries log report says has is = record {
  line = is.line;
  lost = subst (λ (ls : List Line). IsLostBy ls is.line) (sym says) is.lost;
  history = record {
    lawful = subst (λ (es : List EntryLine). EachAfter (IsEntryAfter (from_start script start)) [] (es ++ is.line ∷ [])) (sym has) is.stored.history;
    told = subst (λ (es : List EntryLine). AreTold start.before generation (es ++ is.line ∷ []) log.entries) (sym has) is.told;
    schema = is.logged.schema;
    changed = λ k first within. is.stored.changed_are k first (omega (arith, count, within)) ∙ sym (ap (λ (es : List EntryLine). changes_at (from_start script start) (es ++ is.line ∷ []) k) has);
    rows = λ k from within. is.stored.rows_are k from (omega (arith, count, within)) ∙ sym (ap (λ (es : List EntryLine). rows_at (from_start script start) (es ++ is.line ∷ []) k) has);
    stands = is.logged.stands;
    small = is.logged.small;
  };
}
  where
    count : length log.entries ≡ now_of start (entries ++ is.line ∷ [])
    count = told_count start.before generation (entries ++ is.line ∷ []) log.entries is.told

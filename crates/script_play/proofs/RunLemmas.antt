-- A line of the script more keeps the run so far.
use Rattle.std.proofs.Common.{◌≡◌, ℕ, ◌+◌, ◌≤◌, List, [], ◌∷◌, ◌++◌, length, map, refl, sym, subst, ap, arith, Some, ◌∙◌, Bool, true, false, ◌⊎◌, inl, inr}
use Rattle.std.proofs.lemmas.List.{append-nil, length-append}
use Rattle.std.specs.List.{AllByRecursion}
use Rattle.std.specs.Str.{bytes_eq, is_utf8}
use Rattle.cdb_values.specs.declared.rows.Level.{Level}
use Rattle.session_turns.specs.Seen.{SeenRows}
use Rattle.script_play.specs.Start.{Start}
use Rattle.sql_answer.specs.Reading.{kind_of_text}
use Rattle.script_form.specs.CanRun.{script_tables}
use Rattle.script_form.specs.declared.scripts.Script.{Script}
use Rattle.script_form.specs.declared.scripts.BodyLine.{BodyLine}
use Rattle.script_form.specs.declared.scripts.Act.{Act}
use Rattle.script_form.specs.declared.scripts.Act.TheVariants.{Say}
use Rattle.report_text.specs.declared.reports.EntryLine.{EntryLine}
use Rattle.report_text.specs.declared.reports.Line.{Line}
use Rattle.cdb_values.specs.declared.replies.Reply.{Reply}
use Rattle.cdb_values.specs.declared.replies.Reply.TheVariants as reply
use Rattle.cdb_values.specs.Changes.{changes_of}
use Rattle.report_laws.specs.History.{view_of}
use Rattle.report_laws.specs.Paced.{Paced}
use Rattle.report_laws.specs.Play.{IsTurn, IsTurnOf, was_cut, IsTimely, IsAppended, number_told, is_own}
use Rattle.session_language.specs.Replies.{are_up_to, is_last_of}
use Rattle.report_laws.specs.Told.{Numbered, IsEntryTold, alone_at, told, lines_of, numbered}
use Rattle.report_laws.specs.Work.{Place, next_place, place_after}
use Rattle.cdb_values.specs.declared.rows.Change.{Change}
use Rattle.session_language.proofs.EachLaws.{all_append, all_map}
use Rattle.report_laws.proofs.EntryToldLaws.{entry_told_more, entry_told_stays, told_stands}
use Rattle.report_laws.proofs.LineLaws.{ArePaced, paced_laws, timely_paced}
use Rattle.report_laws.proofs.NodesLaws.{none_lost, none_lacks, downs_more}
use Rattle.report_laws.proofs.PieceLaws.{cut_at}
use Rattle.report_laws.proofs.ToldLaws.{told_append, told_own, told_other}
use Rattle.report_laws.proofs.WorkLaws.{after_own}
use Rattle.script_play.specs.Basis.{from_start}
use Rattle.query_laws.specs.Alone.{sql_language}
use Rattle.script_play.specs.Ready.{IsAskable}
use Rattle.script_play.specs.SoFar.{now_of, SoFar, IsStoredSoFar, Standing, IsPast, IsEnded, state_of}
use Rattle.session_turns.specs.Step.{Turned, Cut, turn, turn_by, cut_by}
use Rattle.script_play.specs.Step.{IsTurned, IsCutShort, IsKept, entries_added}
use Rattle.session_turns.specs.Doing.{SessionAt}
use Rattle.script_play.proofs.StoredLemmas.{world, entry_of}
use Rattle.script_play.proofs.StandingLemmas.{Grows, grows_length}
use Rattle.script_play.proofs.NodeLemmas.{went}
use Rattle.script_play.proofs.ComesLemmas.{comes, ended_later, same_itself}
use Rattle.script_play.proofs.TurnLemmas.{Turns, IsNews, WasCutUnder, turns}
use Rattle.script_play.proofs.CutLemmas.{CutStands, cuts}

-- what a line of the script leaves, so that the run so far is kept
pub record Keeps (script : Script) (start : Start) (done : List BodyLine) (l : BodyLine) (lines : List Line) (entries entries' : List EntryLine) (changed' : List (List Change)) (seen seen' : SeenRows) (name text : List ℕ) (number : ℕ) (rs : List Reply) (after : SessionAt) : Type 0 where
  pub stored : IsStoredSoFar script start entries' changed' seen'
  pub grows : Grows entries entries'
  pub next : seen.next ≤ seen'.next
  pub stands : Standing script start entries' seen'.next name (next_place sql_language (place_after sql_language name done) text) (told name lines ++ numbered number rs) after
  pub paced : Paced (now_of start entries) (now_of start entries') rs
  pub belongs : number ≡ number_told sql_language (place_after sql_language name done) text
  pub added : List EntryLine
  pub grown : entries' ≡ entries ++ added
  pub turn : IsTurn (now_of start entries) lines name (number_told sql_language (place_after sql_language name done) text) (is_own sql_language (place_after sql_language name done) text) rs added
  pub answered : AllByRecursion (IsEntryTold (from_start script start) (view_of (from_start script start) entries') (lines ++ lines_of name number rs)) entries'
  pub ended : AllByRecursion (IsEnded (done ++ l ∷ [])) entries'

module _ (script : Script) (start : Start) (done left : List BodyLine) (l : BodyLine) (lines : List Line) (entries : List EntryLine) (changed : List (List Change)) (seen : SeenRows) (states sites' : List SessionAt) (name text : List ℕ)
    (was : SoFar script start false done (l ∷ left) lines entries changed seen states) (is_act : l.act ≡ Say name text) where
  abbrev pub place : Place
  place = place_after sql_language name done

  own_place : place_after sql_language name (done ++ l ∷ []) ≡ next_place sql_language place text
  own_place = after_own sql_language name name text l done is_act (same_itself name)

  pub advanced : (entries' : List EntryLine) (changed' : List (List Change)) (seen' : SeenRows) (number : ℕ) (rs : List Reply) (after : SessionAt) → Keeps script start done l lines entries entries' changed' seen seen' name text number rs after →
      state_of name script.sessions sites' ≡ after → ((m : List ℕ) → bytes_eq name m ≡ false → state_of m script.sessions sites' ≡ state_of m script.sessions states) →
      SoFar script start false (done ++ l ∷ []) left (lines ++ lines_of name number rs) entries' changed' seen' sites'
  advanced entries' changed' seen' number rs after keeps own others = went script start false false done left l lines mine entries changed seen states sites' name text was is_act entries' changed' seen' (record {
    stored = keeps.stored;
    grows = keeps.grows;
    next = keeps.next;
    stands = subst (λ (x : SessionAt). Standing script start entries' seen'.next name (next_place sql_language place text) (told name lines ++ told name mine) x) (sym own)
        (subst (λ ls. Standing script start entries' seen'.next name (next_place sql_language place text) (told name lines ++ ls) after) (sym (told_own name name number rs (same_itself name))) keeps.stands);
    others = λ m differs. told_other m name number rs differs;
    fresh = laws.fresh;
    placed = laws.placed;
    named = laws.named;
    added = keeps.added;
    grown = keeps.grown;
    turn = subst (λ (a : Act). IsTurnOf (from_start script start) (now_of start entries) done lines a mine keeps.added) (sym is_act) (inl (record {
      replies = rs;
      says = ap (λ n. lines_of name n rs) keeps.belongs;
      turn = keeps.turn;
      kept = none_lost script lines name (number_told sql_language place text) place.pending was.node;
      majority = none_lacks script lines (sql_language.kind text) place.pending was.node;
    }));
    answered = keeps.answered;
    ended = keeps.ended;
    node = downs_more lines name number rs was.node;
  }) others
    where
      mine : List Line
      mine = lines_of name number rs

      longer : now_of start entries ≤ now_of start entries'
      longer = let le = grows_length entries entries' keeps.grows in omega (arith, le)

      laws : ArePaced script (from_start script start).origin name number lines (now_of start entries') rs
      laws = paced_laws script (from_start script start).origin name number (now_of start entries) (now_of start entries') lines rs was.named was.stored.opened.0 was.stored.opened.1 longer keeps.paced

  -- what a line leaves, where it did what it does
  pub turn_keeps : (entries' : List EntryLine) (changed' : List (List Change)) (seen' : SeenRows) (t : Turned) → Turns script start entries entries' changed' seen seen' name (next_place sql_language place text) (told name lines) (number_told sql_language place text) (is_own sql_language place text) t →
      Keeps script start done l lines entries entries' changed' seen seen' name text t.number t.replies t.after
  turn_keeps entries' changed' seen' t turn = record {
    stored = turn.stored;
    grows = turn.grows;
    next = turn.next;
    stands = turn.stands;
    paced = turn.paced;
    belongs = turn.number;
    added = news.0;
    grown = news.1;
    turn = news.2;
    answered = answered turn.news;
    ended = ended turn.news;
  }
    where
      all_lines : List Line
      all_lines = lines ++ lines_of name t.number t.replies

      told_all : told name all_lines ≡ told name lines ++ numbered t.number t.replies
      told_all = told_append name lines (lines_of name t.number t.replies) ∙ ap (λ ls. told name lines ++ ls) (told_own name name t.number t.replies (same_itself name))

      up_to : (are_up_to (is_last_of (is_own sql_language place text)) t.replies ≡ true) ⊎ ((t.replies ≡ []) × WasCutUnder (told name lines) (number_told sql_language place text)) →
          (are_up_to (is_last_of (is_own sql_language place text)) t.replies ≡ true) ⊎ ((t.replies ≡ []) × (was_cut lines name (number_told sql_language place text) ≡ true))
      up_to (inl is) = inl is
      up_to (inr (none, (cause, cuts_it, stands))) = inr (none, cut_at lines name (number_told sql_language place text) cause cuts_it (told_stands name (number_told sql_language place text) cause lines stands))

      turn_with : (added : List EntryLine) → entries' ≡ entries ++ added → IsAppended (now_of start entries) name (number_told sql_language place text) t.replies added →
          IsTurn (now_of start entries) lines name (number_told sql_language place text) (is_own sql_language place text) t.replies added
      turn_with added grown appended = record {
        told = up_to turn.up_to;
        timely = subst (λ n. AllByRecursion (IsTimely (now_of start entries) n) t.replies) (let g = ap (λ (es : List EntryLine). length es) grown in omega (arith, g, length-append entries added)) (timely_paced (now_of start entries) (now_of start entries') t.replies turn.paced);
        appended = appended;
      }

      -- the entry that the line appends, if it appends one
      appends : IsNews script start name (told name lines) entries entries' (next_place sql_language place text) t →
          (added : List EntryLine) × (entries' ≡ entries ++ added) × IsTurn (now_of start entries) lines name (number_told sql_language place text) (is_own sql_language place text) t.replies added
      appends (inl same) = ([], same ∙ sym (append-nil entries), turn_with [] (same ∙ sym (append-nil entries)) tt)
      appends (inr (more, stands, past, begins)) = (
        entry_of name t.number t.begin t.after.level (now_of start entries) ∷ [],
        more,
        turn_with (entry_of name t.number t.begin t.after.level (now_of start entries) ∷ []) more (refl, t.begin, t.after.level, ap (λ n. entry_of name n t.begin t.after.level (now_of start entries)) turn.number, stands),
      )

      news : (added : List EntryLine) × (entries' ≡ entries ++ added) × IsTurn (now_of start entries) lines name (number_told sql_language place text) (is_own sql_language place text) t.replies added
      news = appends turn.news

      answered_later : (e : EntryLine) → IsEntryTold (from_start script start) (view_of (from_start script start) entries) lines e → IsEntryTold (from_start script start) (view_of (from_start script start) entries) all_lines e
      answered_later e is = entry_told_more (from_start script start) (view_of (from_start script start) entries) lines (lines_of name t.number t.replies) e is

      answered : IsNews script start name (told name lines) entries entries' (next_place sql_language place text) t → AllByRecursion (IsEntryTold (from_start script start) (view_of (from_start script start) entries') all_lines) entries'
      answered (inl same) = subst (λ es. AllByRecursion (IsEntryTold (from_start script start) (view_of (from_start script start) es) all_lines) es) (sym same) (all_map (IsEntryTold (from_start script start) (view_of (from_start script start) entries) lines) _ answered_later entries was.answered)
      answered (inr (more, stands, past, its)) = subst (λ es. AllByRecursion (IsEntryTold (from_start script start) (view_of (from_start script start) es) all_lines) es) (sym more)
          (all_append _ entries (e ∷ [])
          (all_map (IsEntryTold (from_start script start) (view_of (from_start script start) entries) lines) (IsEntryTold (from_start script start) (view_of (from_start script start) (entries ++ e ∷ [])) all_lines)
          (λ d is. entry_told_stays (from_start script start) entries e all_lines d (answered_later d is)) entries was.answered)
          (entry_told_stays (from_start script start) entries e all_lines e its_told, tt))
        where
          e : EntryLine
          e = entry_of name t.number t.begin t.after.level (now_of start entries)

          its_told : IsEntryTold (from_start script start) (view_of (from_start script start) entries) all_lines (entry_of name t.number t.begin t.after.level (now_of start entries))
          its_told =
              let within : t.begin ≤ now_of start entries = its.within in
              record {
                transaction = its.transaction;
                is_its = its.is_its;
                within = omega (arith, within);
                ran = alone_at (from_start script start) (view_of (from_start script start) entries) its.transaction t.begin;
                is_ran = refl;
                outcome = reply.Committed (now_of start entries + 1);
                ends = refl;
                before = its.before;
                after = [];
                says = told_all ∙ its.says ∙ ap (λ (ls : List Numbered). its.before ++ ls) (sym (append-nil _));
              }

      ended : IsNews script start name (told name lines) entries entries' (next_place sql_language place text) t → AllByRecursion (IsEnded (done ++ l ∷ [])) entries'
      ended (inl same) = subst (λ es. AllByRecursion (IsEnded (done ++ l ∷ [])) es) (sym same) (all_map (IsEnded done) _ (ended_later done l name text is_act) entries was.ended)
      ended (inr (more, stands, past, begins)) = subst (λ es. AllByRecursion (IsEnded (done ++ l ∷ [])) es) (sym more)
          (all_append _ entries (entry_of name t.number t.begin t.after.level (now_of start entries) ∷ []) (all_map (IsEnded done) _ (ended_later done l name text is_act) entries was.ended)
          (subst (λ (p : Place). IsPast p.number p.pending t.number) (sym own_place) past, tt))

  -- what the line does, by the number of transactions that the session has begun, and its level
  abbrev pub turn_at : ℕ → Level → Turned
  turn_at n level = turn_by (world script start entries changed seen) n level text (kind_of_text text) (state_of name script.sessions states).doing

  abbrev pub its_turn : Turned
  its_turn = turn_at (state_of name script.sessions states).number (state_of name script.sessions states).level

  abbrev pub KeptAt : SeenRows → ℕ → Level → Type 0
  KeptAt seen' n level = IsKept (now_of start entries) seen seen' (turn_at n level).added

  abbrev pub TurnsAt : SeenRows → ℕ → Level → Type 0
  TurnsAt seen' n level = Turns script start entries (entries ++ entries_added name (now_of start entries) (turn_at n level)) (changed ++ map (λ ops. changes_of ops seen.next) (turn_at n level).added) seen seen' name (next_place sql_language place text) (told name lines) (number_told sql_language place text) (is_own sql_language place text) (turn_at n level)

  -- a line that was done keeps the run so far
  pub turned_keeps : AllByRecursion IsAskable (script_tables script) → is_utf8 text ≡ true → (lines' : List Line) (entries' : List EntryLine) (changed' : List (List Change)) (seen' : SeenRows) →
      IsTurned (world script start entries changed seen) name (turn (world script start entries changed seen) (state_of name script.sessions states) text) lines lines' entries entries' changed' seen' →
      state_of name script.sessions sites' ≡ (turn (world script start entries changed seen) (state_of name script.sessions states) text).after →
      ((m : List ℕ) → bytes_eq name m ≡ false → state_of m script.sessions sites' ≡ state_of m script.sessions states) →
      SoFar script start false (done ++ l ∷ []) left lines' entries' changed' seen' sites'
  turned_keeps askable utf8 lines' entries' changed' seen' run own others =
      subst (λ ls. SoFar script start false (done ++ l ∷ []) left ls entries' changed' seen' sites') (sym run.lines_are)
      (subst (λ es. SoFar script start false (done ++ l ∷ []) left (lines ++ lines_of name its_turn.number its_turn.replies) es changed' seen' sites') (sym run.entries_are)
      (subst (λ ts. SoFar script start false (done ++ l ∷ []) left (lines ++ lines_of name its_turn.number its_turn.replies) (entries ++ entries_added name (now_of start entries) its_turn) ts seen' sites') (sym run.changed_are)
      (advanced (entries ++ entries_added name (now_of start entries) its_turn) (changed ++ map (λ ops. changes_of ops seen.next) its_turn.added) seen' its_turn.number its_turn.replies its_turn.after
      (turn_keeps (entries ++ entries_added name (now_of start entries) its_turn) (changed ++ map (λ ops. changes_of ops seen.next) its_turn.added) seen' its_turn goes) own others)))
    where
      number : place.number ≡ (state_of name script.sessions states).number
      number = sym (was.standing name).number

      level : place.level ≡ (state_of name script.sessions states).level
      level = sym (was.standing name).level

      goes : TurnsAt seen' (state_of name script.sessions states).number (state_of name script.sessions states).level
      goes = subst (λ (v : Level). KeptAt seen' (state_of name script.sessions states).number v → TurnsAt seen' (state_of name script.sessions states).number v) level
          (subst (λ n. KeptAt seen' n place.level → TurnsAt seen' n place.level) number (turns script start entries changed seen seen' name place text (told name lines) (kind_of_text text) place.pending (state_of name script.sessions states).doing (comes script start false done left l lines entries changed seen states name text was is_act askable utf8))) run.rows_are

  -- and so does one that was cut short
  pub cut_keeps : AllByRecursion IsAskable (script_tables script) → is_utf8 text ≡ true → (lines' : List Line) (entries' : List EntryLine) (changed' : List (List Change)) (seen' : SeenRows) (c : Cut) →
      cut_by (state_of name script.sessions states).number (state_of name script.sessions states).level (kind_of_text text) (state_of name script.sessions states).doing ≡ Some c →
      IsCutShort (world script start entries changed seen) name c lines lines' entries entries' changed' seen' →
      state_of name script.sessions sites' ≡ c.after →
      ((m : List ℕ) → bytes_eq name m ≡ false → state_of m script.sessions sites' ≡ state_of m script.sessions states) →
      SoFar script start false (done ++ l ∷ []) left lines' entries' changed' seen' sites'
  cut_keeps askable utf8 lines' entries' changed' seen' c is run own others =
      subst (λ ls. SoFar script start false (done ++ l ∷ []) left ls entries' changed' seen' sites') (sym run.lines_are)
      (subst (λ es. SoFar script start false (done ++ l ∷ []) left (lines ++ lines_of name c.number (reply.NoMemory ∷ [])) es changed' seen' sites') (sym run.entries_are)
      (subst (λ ts. SoFar script start false (done ++ l ∷ []) left (lines ++ lines_of name c.number (reply.NoMemory ∷ [])) entries ts seen' sites') (sym run.changed_are)
      (subst (λ (a : SeenRows). SoFar script start false (done ++ l ∷ []) left (lines ++ lines_of name c.number (reply.NoMemory ∷ [])) entries changed a sites') (sym run.rows_are)
      (advanced entries changed seen c.number (reply.NoMemory ∷ []) c.after (record {
        stored = was.stored;
        grows = inl refl;
        next = omega arith;
        stands = stands.stands;
        paced = refl;
        belongs = stands.number;
        added = [];
        grown = sym (append-nil entries);
        turn = record { told = inl (cut_up_to (is_own sql_language place text)); timely = (tt, tt); appended = tt };
        answered = all_map (IsEntryTold (from_start script start) (view_of (from_start script start) entries) lines) _ later entries was.answered;
        ended = all_map (IsEnded done) _ (ended_later done l name text is_act) entries was.ended;
      }) own others))))
    where
      stands : CutStands script start entries seen name (next_place sql_language place text) (told name lines) (number_told sql_language place text) c
      stands = cuts script start entries changed seen name place text (told name lines) (kind_of_text text) place.pending (state_of name script.sessions states).doing (comes script start false done left l lines entries changed seen states name text was is_act askable utf8) c
          (ap (λ n. cut_by n place.level (kind_of_text text) (state_of name script.sessions states).doing) (sym (was.standing name).number)
          ∙ ap (λ (v : Level). cut_by (state_of name script.sessions states).number v (kind_of_text text) (state_of name script.sessions states).doing) (sym (was.standing name).level) ∙ is)

      later : (e : EntryLine) → IsEntryTold (from_start script start) (view_of (from_start script start) entries) lines e → IsEntryTold (from_start script start) (view_of (from_start script start) entries) (lines ++ lines_of name c.number (reply.NoMemory ∷ [])) e
      later e is = entry_told_more (from_start script start) (view_of (from_start script start) entries) lines (lines_of name c.number (reply.NoMemory ∷ [])) e is

      cut_up_to : (own : Bool) → are_up_to (is_last_of own) (reply.NoMemory ∷ []) ≡ true
      cut_up_to true = refl
      cut_up_to false = refl

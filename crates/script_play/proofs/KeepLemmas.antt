-- A line of a session keeps the run so far, wherever the node stands before it and behind it.
use Rattle.std.proofs.Common.{◌≡◌, ◌≢◌, ℕ, List, [], ◌∷◌, ◌++◌, refl, sym, subst, ap, arith, Some, ◌∙◌, Bool, true, false, append_assoc, inl, inr, slice_set}
use Rattle.std.proofs.lemmas.List.{append-nil, length-set}
use Rattle.std.specs.List.{slice_get}
use Rattle.std.specs.Str.{bytes_eq, is_utf8}
use Rattle.cdb_values.specs.declared.rows.Change.{Change}
use Rattle.cdb_values.specs.declared.rows.Level.{Level}
use Rattle.report_laws.specs.Play.{IsTurnOf, number_by}
use Rattle.report_laws.specs.Told.{Numbered, lines_of, told}
use Rattle.report_laws.specs.Work.{Place, next_place, place_after, said}
use Rattle.report_laws.proofs.NodesLaws.{downs_more}
use Rattle.report_laws.proofs.ToldLaws.{told_append, told_other, told_own}
use Rattle.report_laws.proofs.WorkLaws.{AreNumbered, are_numbered}
use Rattle.report_text.specs.declared.reports.EntryLine.{EntryLine}
use Rattle.report_text.specs.declared.reports.Line.{Line}
use Rattle.cdb_values.specs.declared.replies.Reply.TheVariants as reply
use Rattle.script_form.specs.CanRun.{CanRun, IsDeclared, IsDeclaredText, script_tables}
use Rattle.script_form.specs.declared.scripts.Act.{Act}
use Rattle.script_form.specs.declared.scripts.Act.TheVariants.{Say}
use Rattle.script_form.specs.declared.scripts.BodyLine.{BodyLine}
use Rattle.script_form.specs.declared.scripts.Script.{Script}
use Rattle.session_language.specs.Language.{Kind, BeginText, CommitText, RollbackText, LevelText, OtherText}
use Rattle.query_laws.specs.Alone.{sql_language}
use Rattle.sql_answer.specs.Reading.{kind_of_text}
use Rattle.script_play.specs.Basis.{from_start}
use Rattle.session_turns.specs.Doing.{Doing, SessionAt}
use Rattle.session_turns.specs.Doing as doing
use Rattle.script_play.specs.Down.{HasOutcome, down_line, fallen_lines, turn_down}
use Rattle.session_turns.specs.Away.{behind_cut}
use Rattle.script_play.specs.Falls.{IsDoneDown, IsFallen, IsTakenOn}
use Rattle.session_turns.specs.Seen.{SeenRows}
use Rattle.script_play.specs.SoFar.{IsBefore, IsDown, IsGone, SoFar, Standing, now_of, session_at, state_of}
use Rattle.script_play.specs.Start.{Start}
use Rattle.session_turns.specs.Step.{Turned, turn, turn_by, world_of}
use Rattle.script_play.specs.Step.{IsTaken}
use Rattle.script_play.proofs.DownLemmas.{stands_down, DownStands}
use Rattle.script_play.proofs.LossLemmas.{few_more}
use Rattle.script_play.proofs.NodeLemmas.{AddsLines, adds_lines, went}
use Rattle.script_play.proofs.ComesLemmas.{comes, same_itself, same_name}
use Rattle.script_play.proofs.SiteLemmas.{found_state, other_state, runs_askable, set_state, within}
use Rattle.script_play.proofs.StoredLemmas.{world}
use Rattle.script_play.proofs.TurnLemmas.{Comes}
use Rattle.script_play.proofs.FallLemmas.{Falls, falls, fallen_other}
use Rattle.script_play.proofs.ToldLemmas.{IsToldSo}
use Rattle.script_play.proofs.TellLemmas.{tells}
use Rattle.script_play.proofs.RunLemmas.{cut_keeps, turned_keeps}

-- a session that was told nothing since the down line is where it may be
pub none_gone : (d : Doing) → IsGone d []
none_gone doing.No = tt
none_gone (doing.Open begin ops uses ranges) = refl
none_gone doing.Aborted = tt

-- no transaction is open behind such a line
behind_shut : (k : Kind) (since : List Numbered) → IsGone (behind_cut k) since
behind_shut BeginText since = tt
behind_shut CommitText since = tt
behind_shut RollbackText since = tt
behind_shut (LevelText later) since = tt
behind_shut OtherText since = tt

shut_behind : (number : ℕ) (level : Level) (k : Kind) (what : Doing) (since : List Numbered) → IsGone (turn_down number level k what).after.doing since
shut_behind number level BeginText doing.No since = tt
shut_behind number level CommitText doing.No since = tt
shut_behind number level RollbackText doing.No since = tt
shut_behind number level (LevelText later) doing.No since = tt
shut_behind number level OtherText doing.No since = tt
shut_behind number level BeginText (doing.Open begin ops uses ranges) since = tt
shut_behind number level CommitText (doing.Open begin ops uses ranges) since = tt
shut_behind number level RollbackText (doing.Open begin ops uses ranges) since = tt
shut_behind number level (LevelText later) (doing.Open begin ops uses ranges) since = tt
shut_behind number level OtherText (doing.Open begin ops uses ranges) since = tt
shut_behind number level BeginText doing.Aborted since = tt
shut_behind number level CommitText doing.Aborted since = tt
shut_behind number level RollbackText doing.Aborted since = tt
shut_behind number level (LevelText later) doing.Aborted since = tt
shut_behind number level OtherText doing.Aborted since = tt

module _ (script : Script) (start : Start) (done left : List BodyLine) (l : BodyLine) (lines : List Line) (entries : List EntryLine) (changed : List (List Change)) (seen : SeenRows) (states sites' : List SessionAt) (name text : List ℕ) (can : CanRun script)
    (is_act : l.act ≡ Say name text) (is_said : IsDeclared name script.sessions × (is_utf8 text ≡ true)) (others : (m : List ℕ) → bytes_eq name m ≡ false → state_of m script.sessions sites' ≡ state_of m script.sessions states) where
  abbrev pub place : Place
  place = place_after sql_language name done

  abbrev pub site : SessionAt
  site = state_of name script.sessions states

  numbers : AreNumbered place
  numbers = are_numbered sql_language (said name done)

  -- what holds of each session holds of that whose line came, and of every other
  each_session : (P : List ℕ → Type 0) → P name → ((m : List ℕ) → bytes_eq name m ≡ false → P m) → (m : List ℕ) → P m
  each_session P own other m = pick (bytes_eq name m) refl
    where
      pick : (b : Bool) → bytes_eq name m ≡ b → P m
      pick true same = subst P (same_name name m same) own
      pick false differs = other m differs

  -- what the line does on a node that is up, by the number of transactions that the session has begun, and its level
  abbrev pub turn_there : ℕ → Level → Turned
  turn_there n level = turn_by (world script start entries changed seen) n level text (kind_of_text text) site.doing

  abbrev pub FallsThere : ℕ → Level → Type 0
  FallsThere n level = (out : HasOutcome (turn_there n level).replies) → (turn_there n level).added ≢ [] →
      Falls script start entries seen lines name (next_place sql_language place text) (number_by place.number (kind_of_text text) place.pending) (kind_of_text text) place.pending (turn_there n level) out.front

  module _ (was : SoFar script start false done (l ∷ left) lines entries changed seen states) where
    falls_there : FallsThere site.number site.level
    falls_there =
        subst (λ (v : Level). FallsThere site.number v) (sym (was.standing name).level)
        (subst (λ (n : ℕ). FallsThere n place.level) (sym (was.standing name).number)
        (falls script start entries changed seen name place text lines can was.node was.named was.placed (kind_of_text text) place.pending site.doing
        (comes script start false done left l lines entries changed seen states name text was is_act (runs_askable script can) is_said.1) numbers.below numbers.begun))

    -- a line at whose entry the node goes down keeps the run so far
    pub fallen_keeps : (after : SessionAt) (lines' : List Line) (entries' : List EntryLine) (changed' : List (List Change)) (seen' : SeenRows) →
        IsFallen (world script start entries changed seen) name (turn (world script start entries changed seen) site text) after lines lines' entries entries' changed' seen' → state_of name script.sessions sites' ≡ after →
        SoFar script start true (done ++ l ∷ []) left lines' entries' changed' seen' sites'
    fallen_keeps after lines' entries' changed' seen' fall own =
        subst (λ (ls : List Line). SoFar script start true (done ++ l ∷ []) left ls entries' changed' seen' sites') (sym fall.lines_are)
        (subst (λ (es : List EntryLine). SoFar script start true (done ++ l ∷ []) left (lines ++ mine) es changed' seen' sites') (sym fall.still.entries_are)
        (subst (λ (ts : List (List Change)). SoFar script start true (done ++ l ∷ []) left (lines ++ mine) entries ts seen' sites') (sym fall.still.changed_are)
        (subst (λ (a : SeenRows). SoFar script start true (done ++ l ∷ []) left (lines ++ mine) entries changed a sites') (sym fall.still.rows_are)
        (went script start false true done left l lines mine entries changed seen states sites' name text was is_act entries changed seen
        (adds_lines script start false true done left l lines mine entries changed seen states sites' name text was is_act adds) others))))
      where
        t : Turned
        t = turn_there site.number site.level

        mine : List Line
        mine = fallen_lines name t.number fall.outcome.front

        its : Falls script start entries seen lines name (next_place sql_language place text) (number_by place.number (kind_of_text text) place.pending) (kind_of_text text) place.pending t fall.outcome.front
        its = falls_there fall.outcome fall.commits

        gone : (m : List ℕ) → IsGone (state_of m script.sessions sites').doing (told m (lines_of name t.number (reply.Lost 1 1 ∷ [])))
        gone = each_session (λ m. IsGone (state_of m script.sessions sites').doing (told m (lines_of name t.number (reply.Lost 1 1 ∷ []))))
            (subst (λ (d : Doing). IsGone d (told name (lines_of name t.number (reply.Lost 1 1 ∷ [])))) (sym (ap (λ (x : SessionAt). x.doing) (own ∙ fall.after_is) ∙ its.idle)) tt)
            (λ m differs. subst (λ (ls : List Numbered). IsGone (state_of m script.sessions sites').doing ls) (sym (told_other m name t.number (reply.Lost 1 1 ∷ []) differs)) (none_gone (state_of m script.sessions sites').doing))

        adds : AddsLines script start true done l lines mine entries seen name text sites'
        adds = record {
          stands = subst (λ (x : SessionAt). Standing script start entries seen.next name (next_place sql_language place text) (told name lines ++ told name mine) x) (sym (own ∙ fall.after_is)) its.stands;
          others = λ m differs. fallen_other name m t.number fall.outcome.front differs;
          fresh = its.told_so.fresh;
          placed = its.told_so.placed;
          named = its.told_so.named;
          turn = subst (λ (a : Act). IsTurnOf (from_start script start) (now_of start entries) done lines a mine []) (sym is_act) its.told_so.said;
          node = its.down sites' gone;
        }

  module _ (was : SoFar script start true done (l ∷ left) lines entries changed seen states) where
    -- what the line does on a node that is down, by the same
    abbrev pub down_there : ℕ → Level → Turned
    down_there n level = turn_down n level (kind_of_text text) site.doing

    abbrev pub TellsThere : ℕ → Level → Type 0
    TellsThere n level = IsToldSo script (from_start script start).origin (now_of start entries) lines name (number_by place.number (kind_of_text text) place.pending) (kind_of_text text) place.pending (lines_of name (down_there n level).number (down_there n level).replies)

    abbrev pub StandsThere : ℕ → Level → Type 0
    StandsThere n level = DownStands script start entries seen name (next_place sql_language place text) (told name lines) (number_by place.number (kind_of_text text) place.pending) (down_there n level)

    comes_there : Comes script start entries changed seen name place place.pending site.doing text (kind_of_text text) (told name lines)
    comes_there = comes script start true done left l lines entries changed seen states name text was is_act (runs_askable script can) is_said.1

    tells_there : TellsThere site.number site.level
    tells_there =
        subst (λ (v : Level). TellsThere site.number v) (sym (was.standing name).level)
        (subst (λ (n : ℕ). TellsThere n place.level) (sym (was.standing name).number)
        (tells script start entries changed seen name place text lines states can is_said.0 was.placed was.node (kind_of_text text) place.pending site.doing comes_there (was.node.gone name) numbers.below numbers.begun))

    stands_there : StandsThere site.number site.level
    stands_there =
        subst (λ (v : Level). StandsThere site.number v) (sym (was.standing name).level)
        (subst (λ (n : ℕ). StandsThere n place.level) (sym (was.standing name).number)
        (stands_down script start entries changed seen name place text (told name lines) (kind_of_text text) place.pending site.doing comes_there))

    -- and so does a line on a node that is down
    pub down_keeps : (after : SessionAt) (lines' : List Line) (entries' : List EntryLine) (changed' : List (List Change)) (seen' : SeenRows) →
        IsDoneDown (world script start entries changed seen) name site text after lines lines' entries entries' changed' seen' → state_of name script.sessions sites' ≡ after →
        SoFar script start true (done ++ l ∷ []) left lines' entries' changed' seen' sites'
    down_keeps after lines' entries' changed' seen' run own =
        subst (λ (ls : List Line). SoFar script start true (done ++ l ∷ []) left ls entries' changed' seen' sites') (sym run.told.lines_are)
        (subst (λ (es : List EntryLine). SoFar script start true (done ++ l ∷ []) left (lines ++ mine) es changed' seen' sites') (sym run.still.entries_are)
        (subst (λ (ts : List (List Change)). SoFar script start true (done ++ l ∷ []) left (lines ++ mine) entries ts seen' sites') (sym run.still.changed_are)
        (subst (λ (a : SeenRows). SoFar script start true (done ++ l ∷ []) left (lines ++ mine) entries changed a sites') (sym run.still.rows_are)
        (went script start true true done left l lines mine entries changed seen states sites' name text was is_act entries changed seen
        (adds_lines script start true true done left l lines mine entries changed seen states sites' name text was is_act adds) others))))
      where
        t : Turned
        t = down_there site.number site.level

        mine : List Line
        mine = lines_of name t.number t.replies

        same_gone : (m : List ℕ) → bytes_eq name m ≡ false → IsGone (state_of m script.sessions sites').doing (told m (was.node.back ++ mine))
        same_gone m differs =
            subst (λ (x : SessionAt). IsGone x.doing (told m (was.node.back ++ mine))) (sym (others m differs))
            (subst (λ (ls : List Numbered). IsGone (state_of m script.sessions states).doing ls)
            (sym (told_append m was.node.back mine ∙ ap (λ (ls : List Numbered). told m was.node.back ++ ls) (told_other m name t.number t.replies differs) ∙ append-nil (told m was.node.back))) (was.node.gone m))

        node : IsDown script (lines ++ mine) sites'
        node = record {
          front = was.node.front;
          back = was.node.back ++ mine;
          is = ap (λ (ls : List Line). ls ++ mine) was.node.is ∙ append_assoc was.node.front (down_line ∷ was.node.back) mine;
          unhurt = was.node.unhurt;
          once = downs_more was.node.back name t.number t.replies was.node.once;
          few = few_more script.nodes lines name t.number t.replies ∙ was.node.few;
          gone = each_session (λ m. IsGone (state_of m script.sessions sites').doing (told m (was.node.back ++ mine)))
              (subst (λ (x : SessionAt). IsGone x.doing (told name (was.node.back ++ mine))) (sym (own ∙ run.told.after_is)) (shut_behind site.number site.level (kind_of_text text) site.doing (told name (was.node.back ++ mine))))
              same_gone;
        }

        adds : AddsLines script start true done l lines mine entries seen name text sites'
        adds = record {
          stands = subst (λ (x : SessionAt). Standing script start entries seen.next name (next_place sql_language place text) (told name lines ++ told name mine) x) (sym (own ∙ run.told.after_is))
              (subst (λ (ls : List Numbered). Standing script start entries seen.next name (next_place sql_language place text) (told name lines ++ ls) t.after) (sym (told_own name name t.number t.replies (same_itself name))) stands_there.stands);
          others = λ m differs. told_other m name t.number t.replies differs;
          fresh = tells_there.fresh;
          placed = tells_there.placed;
          named = tells_there.named;
          turn = subst (λ (a : Act). IsTurnOf (from_start script start) (now_of start entries) done lines a mine []) (sym is_act) tells_there.said;
          node = node;
        }

-- a session whose line was done is put back: it is there, and every other one is where it was
pub record IsBack (script : Script) (states : List SessionAt) (name text : List ℕ) (at : ℕ) (x after : SessionAt) : Type 0 where
  pub said : IsDeclared name script.sessions × (is_utf8 text ≡ true)
  pub its : state_of name script.sessions states ≡ x
  pub own : state_of name script.sessions (slice_set states at after) ≡ after
  pub others : (m : List ℕ) → bytes_eq name m ≡ false → state_of m script.sessions (slice_set states at after) ≡ state_of m script.sessions states

module _ (script : Script) (start : Start) (down : Bool) (left : List BodyLine) (l : BodyLine) (lines : List Line) (entries : List EntryLine) (changed : List (List Change)) (seen : SeenRows) (states : List SessionAt)
    (before : IsBefore script start down (l ∷ left) lines entries changed seen states) where
  is_back : (name text : List ℕ) (at : ℕ) (x after : SessionAt) → l.act ≡ Say name text → session_at name script.sessions ≡ Some at → slice_get states at ≡ Some x → IsBack script states name text at x after
  is_back name text at x after is_act found has = record {
    said = subst (λ (a : Act). IsDeclaredText script.sessions a) is_act before.said.0;
    its = found_state 0 name script.sessions states at at x found (omega arith) has;
    own = set_state 0 name script.sessions states at at after found (omega arith) (let w = within 0 name script.sessions at found in let same = before.same in omega (arith, w, same));
    others = λ m differs. other_state 0 name m script.sessions states at at after found (omega arith) differs;
  }

  put_back : (at : ℕ) (after : SessionAt) (down' : Bool) (lines' : List Line) (entries' : List EntryLine) (changed' : List (List Change)) (seen' : SeenRows) → SoFar script start down' (before.done ++ l ∷ []) left lines' entries' changed' seen' (slice_set states at after) →
      IsBefore script start down' left lines' entries' changed' seen' (slice_set states at after)
  put_back at after down' lines' entries' changed' seen' so_far = record {
    can_run = before.can_run;
    said = before.said.1;
    same = length-set states at after ∙ before.same;
    done = before.done ++ l ∷ [];
    so_far = so_far;
  }

-- a line that was taken keeps the run so far, wherever the node stands before it and behind it
pub taken_on : (script : Script) (start : Start) (down down' : Bool) (left : List BodyLine) (l : BodyLine) (lines lines' : List Line) (entries entries' : List EntryLine) (changed changed' : List (List Change)) (seen seen' : SeenRows) (states : List SessionAt) (name text : List ℕ) (at : ℕ) (x after : SessionAt) →
    IsBefore script start down (l ∷ left) lines entries changed seen states → l.act ≡ Say name text → session_at name script.sessions ≡ Some at → slice_get states at ≡ Some x →
    IsTakenOn down down' (world_of (script_tables script) seen changed (now_of start entries)) name x text after lines lines' entries entries' changed' seen' →
    IsBefore script start down' left lines' entries' changed' seen' (slice_set states at after)
taken_on script start false false left l lines lines' entries entries' changed changed' seen seen' states name text at x after before is_act found has run =
    put_back script start false left l lines entries changed seen states before at after false lines' entries' changed' seen'
    (go (subst (λ (y : SessionAt). IsTaken (world script start entries changed seen) name y text after lines lines' entries entries' changed' seen') (sym back.its) run))
  where
    back : IsBack script states name text at x after
    back = is_back script start false left l lines entries changed seen states before name text at x after is_act found has

    go : IsTaken (world script start entries changed seen) name (state_of name script.sessions states) text after lines lines' entries entries' changed' seen' →
        SoFar script start false (before.done ++ l ∷ []) left lines' entries' changed' seen' (slice_set states at after)
    go (inl (done, there)) = turned_keeps script start before.done left l lines entries changed seen states (slice_set states at after) name text before.so_far is_act (runs_askable script before.can_run) back.said.1
        lines' entries' changed' seen' done (back.own ∙ there) back.others
    go (inr (c, is, short, there)) = cut_keeps script start before.done left l lines entries changed seen states (slice_set states at after) name text before.so_far is_act (runs_askable script before.can_run) back.said.1
        lines' entries' changed' seen' c is short (back.own ∙ there) back.others
taken_on script start true false left l lines lines' entries entries' changed changed' seen seen' states name text at x after before is_act found has run = absurd run
taken_on script start false true left l lines lines' entries entries' changed changed' seen seen' states name text at x after before is_act found has run =
    put_back script start false left l lines entries changed seen states before at after true lines' entries' changed' seen'
    (fallen_keeps script start before.done left l lines entries changed seen states (slice_set states at after) name text before.can_run is_act back.said back.others before.so_far after lines' entries' changed' seen'
    (subst (λ (y : SessionAt). IsFallen (world script start entries changed seen) name (turn (world script start entries changed seen) y text) after lines lines' entries entries' changed' seen') (sym back.its) run) back.own)
  where
    back : IsBack script states name text at x after
    back = is_back script start false left l lines entries changed seen states before name text at x after is_act found has
taken_on script start true true left l lines lines' entries entries' changed changed' seen seen' states name text at x after before is_act found has run =
    put_back script start true left l lines entries changed seen states before at after true lines' entries' changed' seen'
    (down_keeps script start before.done left l lines entries changed seen states (slice_set states at after) name text before.can_run is_act back.said back.others before.so_far after lines' entries' changed' seen'
    (subst (λ (y : SessionAt). IsDoneDown (world script start entries changed seen) name y text after lines lines' entries entries' changed' seen') (sym back.its) run) back.own)
  where
    back : IsBack script states name text at x after
    back = is_back script start true left l lines entries changed seen states before name text at x after is_act found has

-- A run on a node that is down from the opening on: each line keeps what holds of it, and it ends with a report that is lawful
-- and in the order of play.
use Rattle.std.proofs.Common.{◌≡◌, ℕ, ◌+◌, ◌<◌, List, [], ◌∷◌, ◌++◌, length, map, refl, sym, subst, ap, arith, Option, Some, None, ◌∙◌, Bool, true, false, append_assoc, inl, inr, if◌then◌else◌, slice_set}
use Rattle.std.proofs.lemmas.List.{append-nil, length-set}
use Rattle.std.specs.List.{slice_get}
use Rattle.std.specs.Str.{bytes_eq}
use Rattle.cdb_values.specs.declared.rows.Level.{Level}
use Rattle.cdb_values.specs.declared.rows.StatementError.TheVariants.{State}
use Rattle.script_form.specs.CanRun.{CanRun, IsDeclaredText}
use Rattle.script_form.specs.declared.scripts.Act.{Act}
use Rattle.script_form.specs.declared.scripts.Act.TheVariants.{Say}
use Rattle.script_form.specs.declared.scripts.BodyLine.{BodyLine}
use Rattle.script_form.specs.declared.scripts.Script.{Script}
use Rattle.script_form.specs.declared.scripts.SessionLine.{SessionLine}
use Rattle.session_language.specs.Each.{EachAfter}
use Rattle.session_language.specs.Language.{Kind, BeginText, CommitText, RollbackText, LevelText, OtherText}
use Rattle.session_language.proofs.EachLaws.{each_append}
use Rattle.report_laws.specs.History.{Origin, last_position, view_of}
use Rattle.report_laws.specs.Lawful.{IsFreshLine, Lawful}
use Rattle.report_laws.specs.Nodes.{downs, is_up, are_few, BeginsDown}
use Rattle.report_laws.specs.Places.{HasItsPlace}
use Rattle.report_laws.specs.Play.{number_by, opened_behind, opening, was_cut, InPlayOrder, InTurns, IsTurnOf}
use Rattle.report_laws.specs.Told.{Along, Numbered, IsCut, IsTold, alone_at, lines_of, numbered, told}
use Rattle.report_laws.specs.Work.{Transaction, WorkItem, Does, Lone, Place, End, ByCommit, ByRollback, WithItsLine, Nowhere, items_at, next_by, next_place, number_of, open_item, place_after, transaction, with_open, work, start as place_first}
use Rattle.report_laws.proofs.DownLaws.{none_go_down}
use Rattle.report_laws.proofs.EntryToldLaws.{told_stands}
use Rattle.report_laws.proofs.LineLaws.{in_turns_more}
use Rattle.report_laws.proofs.NodesLaws.{downs_more, is_down_behind, none_up}
use Rattle.report_laws.proofs.PieceLaws.{cut_at}
use Rattle.report_laws.proofs.ToldLaws.{along_append, along_one, told_append, told_other, told_own}
use Rattle.report_laws.proofs.WorkLaws.{after_own, after_other}
use Rattle.report_text.specs.declared.reports.EntryLine.{EntryLine}
use Rattle.report_text.specs.declared.reports.Line.{Line}
use Rattle.cdb_values.specs.declared.replies.Reply.{Reply}
use Rattle.report_text.specs.declared.reports.Report.{Report}
use Rattle.cdb_values.specs.declared.replies.Reply.TheVariants as reply
use Rattle.query_laws.specs.Alone.{sql_language}
use Rattle.sql_answer.specs.Reading.{kind_of_text}
use Rattle.script_play.specs.Basis.{from_origin}
use Rattle.session_turns.specs.Doing.{SessionAt, Doing}
use Rattle.session_turns.specs.Doing as doing
use Rattle.script_play.specs.Down.{down_line, turn_down, IsToldDown}
use Rattle.script_play.specs.SoFar.{at_start, report_of, session_at, state_of}
use Rattle.script_play.specs.SoFarDown.{IsBeforeDown, IsDoingDown, SoFarDown, StandingDown}
use Rattle.session_turns.specs.Step.{Turned, state}
use Rattle.script_play.proofs.ComesLemmas.{same_itself, same_name}
use Rattle.script_play.proofs.SiteLemmas.{declared, found_state, other_state, set_state, within}
use Rattle.script_play.proofs.LossLemmas.{few_down}
use Rattle.script_play.proofs.ToldLemmas.{IsToldSo, told_lone, told_nothing, told_short}
use Rattle.script_play.proofs.WholeLemmas.{starts}

-- ---- where a session stands behind a line of its own

-- a transaction that was not begun
none_begun : (script : Script) (origin : Origin) (t : Transaction) → IsCut (from_origin script origin) (view_of (from_origin script origin) []) t (reply.NoMajority 0 1 ∷ [])
none_begun script origin t = record {
  begin = origin.position;
  base = omega arith;
  within = omega arith;
  ran = alone_at (from_origin script origin) (view_of (from_origin script origin) []) t origin.position;
  is_ran = refl;
  front = [];
  rest = reply.Begin origin.position ∷ (alone_at (from_origin script origin) (view_of (from_origin script origin) []) t origin.position).replies;
  fits = refl;
  cause = reply.NoMajority 0 1;
  is_cause = refl;
  may = inl refl;
  says = refl;
}

module _ (script : Script) (origin : Origin) (name text : List ℕ) (p : Place) (lines before : List Numbered) (mine : List Reply)
    (is : lines ≡ before ++ numbered p.number mine) (past : Along (IsTold (from_origin script origin) (view_of (from_origin script origin) []) name) p.over before) where
  abbrev pub IsToldOf : WorkItem → List Reply → Type 0
  IsToldOf item replies = IsTold (from_origin script origin) (view_of (from_origin script origin) []) name item replies

  -- the session did something more, and is in no transaction
  goes_idle : (item : WorkItem) (replies : List Reply) (number : ℕ) (level : Level) (all : List Numbered) → IsToldOf item replies → all ≡ before ++ numbered (number_of item) replies →
      StandingDown (from_origin script origin) name (record { over = p.over ++ item ∷ []; number = number; level = level; pending = None }) all (state number level doing.No)
  goes_idle item replies number level all told_so says = record {
    before = before ++ numbered (number_of item) replies;
    mine = [];
    is = says ∙ sym (append-nil (before ++ numbered (number_of item) replies));
    past = along_append IsToldOf p.over (item ∷ []) before (numbered (number_of item) replies) past (along_one IsToldOf item replies told_so);
    number = refl;
    level = refl;
    doing = refl;
  }

  -- a session in no transaction was told what is over
  outside : mine ≡ [] → (number : ℕ) (replies : List Reply) → lines ++ numbered number replies ≡ before ++ numbered number replies
  outside none number replies = ap (λ (ls : List Numbered). ls ++ numbered number replies) (is ∙ ap (λ (rs : List Reply). before ++ numbered p.number rs) none ∙ append-nil before)

  -- it asks for one
  asks : mine ≡ [] → StandingDown (from_origin script origin) name (with_open p (Some []) (p.number + 1)) (lines ++ numbered (p.number + 1) (reply.NoMajority 0 1 ∷ [])) (state (p.number + 1) p.level doing.Aborted)
  asks none = record {
    before = before;
    mine = reply.NoMajority 0 1 ∷ [];
    is = outside none (p.number + 1) (reply.NoMajority 0 1 ∷ []);
    past = past;
    number = refl;
    level = refl;
    doing = refl;
  }

  -- a line is skipped
  skips : (texts : List (List ℕ)) → mine ≡ reply.NoMajority 0 1 ∷ [] → StandingDown (from_origin script origin) name (with_open p (Some texts) p.number) (lines ++ []) (state p.number p.level doing.Aborted)
  skips texts so = record {
    before = before;
    mine = mine;
    is = append-nil lines ∙ is;
    past = past;
    number = refl;
    level = refl;
    doing = so;
  }

  -- the transaction that was not begun is over
  ends : (texts : List (List ℕ)) (end : End) → mine ≡ reply.NoMajority 0 1 ∷ [] →
      StandingDown (from_origin script origin) name (record { over = p.over ++ Does (transaction p.number texts p.level end) ∷ []; number = p.number; level = p.level; pending = None }) (lines ++ []) (state p.number p.level doing.No)
  ends texts end so = goes_idle (Does (transaction p.number texts p.level end)) (reply.NoMajority 0 1 ∷ []) p.number p.level (lines ++ []) (inr (none_begun script origin (transaction p.number texts p.level end)))
      (append-nil lines ∙ is ∙ ap (λ (rs : List Reply). before ++ numbered p.number rs) so)

  abbrev pub StandsBehind : Kind → Option (List (List ℕ)) → Turned → Type 0
  StandsBehind k pending t = StandingDown (from_origin script origin) name (next_by p text k pending) (lines ++ numbered t.number t.replies) t.after

  stands_behind : (k : Kind) (pending : Option (List (List ℕ))) (what : Doing) → IsDoingDown pending what mine → StandsBehind k pending (turn_down p.number p.level k what)
  stands_behind BeginText None doing.No none = asks none
  stands_behind CommitText None doing.No none = goes_idle (Lone (reply.Error State)) (reply.Error State ∷ []) p.number p.level _ refl (outside none 0 (reply.Error State ∷ []))
  stands_behind RollbackText None doing.No none = goes_idle (Lone (reply.Error State)) (reply.Error State ∷ []) p.number p.level _ refl (outside none 0 (reply.Error State ∷ []))
  stands_behind (LevelText later) None doing.No none = goes_idle (Lone (reply.Level later)) (reply.Level later ∷ []) p.number later _ refl (outside none 0 (reply.Level later ∷ []))
  stands_behind OtherText None doing.No none = goes_idle (Does (transaction (p.number + 1) (text ∷ []) p.level WithItsLine)) (reply.NoMajority 0 1 ∷ []) (p.number + 1) p.level _
      (inr (none_begun script origin (transaction (p.number + 1) (text ∷ []) p.level WithItsLine))) (outside none (p.number + 1) (reply.NoMajority 0 1 ∷ []))
  stands_behind BeginText (Some texts) doing.Aborted so = skips (texts ++ text ∷ []) so
  stands_behind CommitText (Some texts) doing.Aborted so = ends texts ByCommit so
  stands_behind RollbackText (Some texts) doing.Aborted so = ends texts ByRollback so
  stands_behind (LevelText later) (Some texts) doing.Aborted so = skips (texts ++ text ∷ []) so
  stands_behind OtherText (Some texts) doing.Aborted so = skips (texts ++ text ∷ []) so
  stands_behind k None (doing.Open begin ops uses ranges) so = absurd so
  stands_behind k None doing.Aborted so = absurd so
  stands_behind k (Some texts) doing.No so = absurd so
  stands_behind k (Some texts) (doing.Open begin ops uses ranges) so = absurd so

  -- all that a session did, where the script ends there
  along_all : (pending : Option (List (List ℕ))) (what : Doing) → IsDoingDown pending what mine → Along IsToldOf (p.over ++ open_item p pending) (before ++ numbered p.number mine)
  along_all None doing.No none = subst (λ (rs : List Reply). Along IsToldOf (p.over ++ []) (before ++ numbered p.number rs)) (sym none) (along_append IsToldOf p.over [] before [] past refl)
  along_all None (doing.Open begin ops uses ranges) so = absurd so
  along_all None doing.Aborted so = absurd so
  along_all (Some texts) doing.No so = absurd so
  along_all (Some texts) (doing.Open begin ops uses ranges) so = absurd so
  along_all (Some texts) doing.Aborted so = subst (λ (rs : List Reply). Along IsToldOf (p.over ++ Does (transaction p.number texts p.level Nowhere) ∷ []) (before ++ numbered p.number rs)) (sym so)
      (along_append IsToldOf p.over (Does (transaction p.number texts p.level Nowhere) ∷ []) before (numbered p.number (reply.NoMajority 0 1 ∷ [])) past
      (along_one IsToldOf (Does (transaction p.number texts p.level Nowhere)) (reply.NoMajority 0 1 ∷ []) (inr (none_begun script origin (transaction p.number texts p.level Nowhere)))))

-- ---- what a line is told while no node is up

module _ (script : Script) (origin : Origin) (one : script.nodes ≡ 1) (now : ℕ) (lines : List Line) (down : is_up 1 lines ≡ false) (name : List ℕ) where
  was_cut_there : (before : List Numbered) (number : ℕ) (mine : List Reply) → told name lines ≡ before ++ numbered number mine → mine ≡ reply.NoMajority 0 1 ∷ [] → was_cut lines name number ≡ true
  was_cut_there before number mine is so =
      cut_at lines name number (reply.NoMajority 0 1) refl (told_stands name number (reply.NoMajority 0 1) lines (before, [], is ∙ ap (λ (rs : List Reply). before ++ numbered number rs) so))

  told_right : (p : Place) (before : List Numbered) (mine : List Reply) → told name lines ≡ before ++ numbered p.number mine → (k : Kind) (pending : Option (List (List ℕ))) (what : Doing) → IsDoingDown pending what mine →
      IsToldSo script origin now lines name (number_by p.number k pending) k pending (lines_of name (turn_down p.number p.level k what).number (turn_down p.number p.level k what).replies)
  told_right p before mine is BeginText None doing.No none = told_short script origin one now lines (few_down lines down) name BeginText None (p.number + 1) refl
  told_right p before mine is CommitText None doing.No none = told_lone script origin now lines name CommitText (reply.Error State) refl refl tt tt tt tt
  told_right p before mine is RollbackText None doing.No none = told_lone script origin now lines name RollbackText (reply.Error State) refl refl tt tt tt tt
  told_right p before mine is (LevelText later) None doing.No none = told_lone script origin now lines name (LevelText later) (reply.Level later) refl refl tt tt tt tt
  told_right p before mine is OtherText None doing.No none = told_short script origin one now lines (few_down lines down) name OtherText None (p.number + 1) refl
  told_right p before mine is BeginText (Some texts) doing.Aborted so = told_nothing script origin now lines name BeginText texts p.number refl (was_cut_there before p.number mine is so)
  told_right p before mine is CommitText (Some texts) doing.Aborted so = told_nothing script origin now lines name CommitText texts p.number refl (was_cut_there before p.number mine is so)
  told_right p before mine is RollbackText (Some texts) doing.Aborted so = told_nothing script origin now lines name RollbackText texts p.number refl (was_cut_there before p.number mine is so)
  told_right p before mine is (LevelText later) (Some texts) doing.Aborted so = told_nothing script origin now lines name (LevelText later) texts p.number refl (was_cut_there before p.number mine is so)
  told_right p before mine is OtherText (Some texts) doing.Aborted so = told_nothing script origin now lines name OtherText texts p.number refl (was_cut_there before p.number mine is so)
  told_right p before mine is k None (doing.Open begin ops uses ranges) so = absurd so
  told_right p before mine is k None doing.Aborted so = absurd so
  told_right p before mine is k (Some texts) doing.No so = absurd so
  told_right p before mine is k (Some texts) (doing.Open begin ops uses ranges) so = absurd so

-- ---- the run behind a line more

module _ (script : Script) (origin : Origin) (one : script.nodes ≡ 1) (done left : List BodyLine) (l : BodyLine) (lines : List Line) (states sites' : List SessionAt) (name text : List ℕ)
    (was : SoFarDown (from_origin script origin) done (l ∷ left) lines states) (is_act : l.act ≡ Say name text) where
  abbrev pub place : Place
  place = place_after sql_language name done

  abbrev pub site : SessionAt
  site = state_of name script.sessions states

  -- what the line does
  abbrev pub its_turn : Turned
  its_turn = turn_down site.number site.level (kind_of_text text) site.doing

  turn_there : turn_down place.number place.level (kind_of_text text) site.doing ≡ its_turn
  turn_there =
      ap (λ (n : ℕ). turn_down n place.level (kind_of_text text) site.doing) (sym (was.standing name).number)
      ∙ ap (λ (v : Level). turn_down site.number v (kind_of_text text) site.doing) (sym (was.standing name).level)

  -- the node is down since the first line
  down_there : is_up 1 lines ≡ false
  down_there = subst (λ (ls : List Line). is_up 1 ls ≡ false) (sym was.lines_are)
      (is_down_behind 1 1 true [] was.rest (none_up script (down_line ∷ []) was.rest (subst (λ (ls : List Line). EachAfter (HasItsPlace script) [] ls) was.lines_are was.placed).1))

  right : IsToldSo script origin (last_position origin []) lines name (number_by place.number (kind_of_text text) place.pending) (kind_of_text text) place.pending (lines_of name its_turn.number its_turn.replies)
  right = subst (λ (t : Turned). IsToldSo script origin (last_position origin []) lines name (number_by place.number (kind_of_text text) place.pending) (kind_of_text text) place.pending (lines_of name t.number t.replies)) turn_there
      (told_right script origin one (last_position origin []) lines down_there name place (was.standing name).before (was.standing name).mine (was.standing name).is (kind_of_text text) place.pending site.doing (was.standing name).doing)

  behind : StandingDown (from_origin script origin) name (next_place sql_language place text) (told name lines ++ numbered its_turn.number its_turn.replies) its_turn.after
  behind = subst (λ (t : Turned). StandingDown (from_origin script origin) name (next_place sql_language place text) (told name lines ++ numbered t.number t.replies) t.after) turn_there
      (stands_behind script origin name text place (told name lines) (was.standing name).before (was.standing name).mine (was.standing name).is (was.standing name).past (kind_of_text text) place.pending site.doing (was.standing name).doing)

  abbrev pub added : List Line
  added = lines_of name its_turn.number its_turn.replies

  module _ (own : state_of name script.sessions sites' ≡ its_turn.after) (others : (m : List ℕ) → bytes_eq name m ≡ false → state_of m script.sessions sites' ≡ state_of m script.sessions states) where
    abbrev pub StandsAt : List ℕ → Type 0
    StandsAt m = StandingDown (from_origin script origin) m (place_after sql_language m (done ++ l ∷ [])) (told m (lines ++ added)) (state_of m script.sessions sites')

    own_stands : StandsAt name
    own_stands =
        subst (λ (p : Place). StandingDown (from_origin script origin) name p (told name (lines ++ added)) (state_of name script.sessions sites')) (sym (after_own sql_language name name text l done is_act (same_itself name)))
        (subst (λ (ls : List Numbered). StandingDown (from_origin script origin) name (next_place sql_language place text) ls (state_of name script.sessions sites'))
        (sym (told_append name lines added ∙ ap (λ (ls : List Numbered). told name lines ++ ls) (told_own name name its_turn.number its_turn.replies (same_itself name))))
        (subst (λ (x : SessionAt). StandingDown (from_origin script origin) name (next_place sql_language place text) (told name lines ++ numbered its_turn.number its_turn.replies) x) (sym own) behind))

    other_stands : (m : List ℕ) → bytes_eq name m ≡ false → StandsAt m
    other_stands m differs =
        subst (λ (p : Place). StandingDown (from_origin script origin) m p (told m (lines ++ added)) (state_of m script.sessions sites')) (sym (after_other sql_language m name text l done is_act differs))
        (subst (λ (ls : List Numbered). StandingDown (from_origin script origin) m (place_after sql_language m done) ls (state_of m script.sessions sites'))
        (sym (told_append m lines added ∙ ap (λ (ls : List Numbered). told m lines ++ ls) (told_other m name its_turn.number its_turn.replies differs) ∙ append-nil (told m lines)))
        (subst (λ (x : SessionAt). StandingDown (from_origin script origin) m (place_after sql_language m done) (told m lines) x) (sym (others m differs)) (was.standing m)))

    all_stand : (m : List ℕ) → StandsAt m
    all_stand m = pick (bytes_eq name m) refl
      where
        pick : (b : Bool) → bytes_eq name m ≡ b → StandsAt m
        pick true same = subst (λ (n : List ℕ). StandsAt n) (same_name name m same) own_stands
        pick false differs = other_stands m differs

    its_turn_of : IsTurnOf (from_origin script origin) (last_position origin []) done (down_line ∷ was.rest) l.act added []
    its_turn_of = subst (λ (ls : List Line). IsTurnOf (from_origin script origin) (last_position origin []) done ls l.act added []) was.lines_are
        (subst (λ (a : Act). IsTurnOf (from_origin script origin) (last_position origin []) done lines a added []) (sym is_act) right.said)

    pub stays_down : SoFarDown (from_origin script origin) (done ++ l ∷ []) left (lines ++ added) sites'
    stays_down = record {
      body = was.body ∙ sym (append_assoc done (l ∷ []) left);
      rest = was.rest ++ added;
      lines_are = ap (λ (ls : List Line). ls ++ added) was.lines_are;
      once = downs_more was.rest name its_turn.number its_turn.replies was.once;
      standing = all_stand;
      fresh = each_append (IsFreshLine origin) [] lines added was.fresh right.fresh;
      order = in_turns_more (from_origin script origin) [] done l (down_line ∷ []) was.rest [] [] added [] was.order its_turn_of;
      placed = each_append (HasItsPlace script) [] lines added was.placed right.placed;
    }

-- a line that was told so keeps the run so far
pub went_down : (script : Script) (left : List BodyLine) (l : BodyLine) (lines lines' : List Line) (states : List SessionAt) (name text : List ℕ) (at : ℕ) (x after : SessionAt) →
    IsBeforeDown script (l ∷ left) lines states → l.act ≡ Say name text → session_at name script.sessions ≡ Some at → slice_get states at ≡ Some x →
    IsToldDown name (turn_down x.number x.level (kind_of_text text) x.doing) after lines lines' → IsBeforeDown script left lines' (slice_set states at after)
went_down script left l lines lines' states name text at x after before is_act found has so = record {
  can_run = before.can_run;
  said = before.said.1;
  same = length-set states at after ∙ before.same;
  done = before.done ++ l ∷ [];
  so_far = λ origin. subst (λ (ls : List Line). SoFarDown (from_origin script origin) (before.done ++ l ∷ []) left ls (slice_set states at after)) (sym so_its.lines_are)
      (stays_down script origin before.can_run.one_node before.done left l lines states (slice_set states at after) name text (before.so_far origin) is_act (own ∙ so_its.after_is) others);
}
  where
    its : state_of name script.sessions states ≡ x
    its = found_state 0 name script.sessions states at at x found (omega arith) has

    inside : at < length states
    inside = let w = within 0 name script.sessions at found in let same = before.same in omega (arith, w, same)

    own : state_of name script.sessions (slice_set states at after) ≡ after
    own = set_state 0 name script.sessions states at at after found (omega arith) inside

    others : (m : List ℕ) → bytes_eq name m ≡ false → state_of m script.sessions (slice_set states at after) ≡ state_of m script.sessions states
    others m differs = other_state 0 name m script.sessions states at at after found (omega arith) differs

    so_its : IsToldDown name (turn_down (state_of name script.sessions states).number (state_of name script.sessions states).level (kind_of_text text) (state_of name script.sessions states).doing) after lines lines'
    so_its = subst (λ (y : SessionAt). IsToldDown name (turn_down y.number y.level (kind_of_text text) y.doing) after lines lines') (sym its) so

-- the session of a line is one of the script's
pub is_found : (script : Script) (left : List BodyLine) (l : BodyLine) (lines : List Line) (states : List SessionAt) (name text : List ℕ) → IsBeforeDown script (l ∷ left) lines states → l.act ≡ Say name text → session_at name script.sessions ≡ None → ⊥
is_found script left l lines states name text before is_act none = declared 0 name script.sessions (subst (λ (a : Act). IsDeclaredText script.sessions a) is_act before.said.0).0 none

pub is_inside : (script : Script) (left : List BodyLine) (l : BodyLine) (lines : List Line) (states : List SessionAt) (name : List ℕ) (at : ℕ) → IsBeforeDown script (l ∷ left) lines states → session_at name script.sessions ≡ Some at → at < length states
is_inside script left l lines states name at before found = let w = within 0 name script.sessions at found in let same = before.same in omega (arith, w, same)

-- ---- its opening and its end

-- the run as it begins, with the line that the node went down
begins_down : (script : Script) (origin : Origin) → CanRun script → SoFarDown (from_origin script origin) [] script.body (down_line ∷ []) (map (λ _. at_start) script.sessions)
begins_down script origin can = record {
  body = refl;
  rest = [];
  lines_are = refl;
  once = refl;
  standing = λ name. subst (λ (x : SessionAt). StandingDown (from_origin script origin) name place_first [] x) (sym (starts name script.sessions))
      (record { before = []; mine = []; is = refl; past = refl; number = refl; level = refl; doing = refl });
  fresh = (tt, tt);
  order = (refl, refl);
  placed = (record { counted = refl; of_script = (omega arith, let n = can.one_node in omega (arith, n)); was_up = refl; by_fault = refl }, tt);
}

as_many : (ss : List SessionLine) → length (map (λ _. at_start) ss) ≡ length ss
as_many [] = refl
as_many (s ∷ ss) = let rest = as_many ss in omega (arith, rest)

pub first_down_is : (script : Script) (lines : List Line) (states : List SessionAt) → CanRun script → lines ≡ down_line ∷ [] → states ≡ map (λ _. at_start) script.sessions → IsBeforeDown script script.body lines states
first_down_is script lines states can one starts_so =
    subst (λ (ls : List Line). IsBeforeDown script script.body ls states) (sym one)
    (subst (λ (ss : List SessionAt). IsBeforeDown script script.body (down_line ∷ []) ss) (sym starts_so) (record {
      can_run = can;
      said = can.said;
      same = as_many script.sessions;
      done = [];
      so_far = λ origin. begins_down script origin can;
    }))

-- what a run on a node that is down tells
record IsToldOut (script : Script) (origin : Origin) (lines : List Line) : Type 0 where
  pub lawful : Lawful (from_origin script origin) (report_of origin.position origin.position lines [])
  pub in_order : InPlayOrder (from_origin script origin) (report_of origin.position origin.position lines [])
  pub first : BeginsDown lines
  pub once : downs lines ≡ 1

module _ (script : Script) (origin : Origin) (can : CanRun script) (done : List BodyLine) (lines : List Line) (states : List SessionAt) (was : SoFarDown (from_origin script origin) done [] lines states) where
  all_done : script.body ≡ done
  all_done = was.body ∙ append-nil done

  told_along : (name : List ℕ) → Along (IsTold (from_origin script origin) (view_of (from_origin script origin) []) name) (work sql_language name script.body) (told name lines)
  told_along name =
      subst (λ (b : List BodyLine). Along (IsTold (from_origin script origin) (view_of (from_origin script origin) []) name) (work sql_language name b) (told name lines)) (sym all_done)
      (subst (λ (ls : List Numbered). Along (IsTold (from_origin script origin) (view_of (from_origin script origin) []) name) (items_at (place_after sql_language name done)) ls) (sym (was.standing name).is)
      (along_all script origin name [] (place_after sql_language name done) (told name lines) (was.standing name).before (was.standing name).mine (was.standing name).is (was.standing name).past
      (place_after sql_language name done).pending (state_of name script.sessions states).doing (was.standing name).doing))

  -- no majority is up at the opening, so no entry stands there
  none_opened : opened_behind (from_origin script origin) (down_line ∷ []) ≡ []
  none_opened = ap (λ (n : ℕ). if are_few n (down_line ∷ []) then [] else opening origin) can.one_node

  ends_down : IsToldOut script origin lines
  ends_down = record {
    lawful = record {
      replies = told_along;
      begins = was.fresh;
      history = tt;
      answered = tt;
      places = was.placed;
      feeds = refl;
      base = refl;
      end = omega arith;
    };
    in_order = record {
      first = down_line ∷ [];
      go_down = (tt, tt);
      rest = was.rest;
      lines_are = was.lines_are;
      later = [];
      opened = sym (append-nil (opened_behind (from_origin script origin) (down_line ∷ [])) ∙ none_opened);
      order = subst (λ (es : List EntryLine). InTurns (from_origin script origin) [] (down_line ∷ []) es script.body was.rest []) (sym none_opened)
          (subst (λ (body : List BodyLine). InTurns (from_origin script origin) [] (down_line ∷ []) [] body was.rest []) (sym all_done) was.order);
      changes = none_go_down (from_origin script origin) (view_of (from_origin script origin) []) (down_line ∷ []) was.rest was.once;
    };
    first = (was.rest, was.lines_are);
    once = ap downs was.lines_are ∙ ap (λ (n : ℕ). n + 1) was.once;
  }

-- the report of a run of which no line is left
pub record IsOutReport (script : Script) (origin : Origin) (report : Report) : Type 0 where
  pub lawful : Lawful (from_origin script origin) report
  pub in_order : InPlayOrder (from_origin script origin) report
  pub first : BeginsDown report.lines
  pub once : downs report.lines ≡ 1
  pub none : report.entries ≡ []

none_left : (left : List BodyLine) → length left ≡ 0 → left ≡ []
none_left [] is = refl
none_left (l ∷ ls) is = absurd (omega (arith, is))

pub reports_out : (script : Script) (origin : Origin) (left : List BodyLine) (lines : List Line) (states : List SessionAt) (entries : List EntryLine) (report : Report) →
    IsBeforeDown script left lines states → length left ≡ 0 → entries ≡ [] → report ≡ report_of origin.position origin.position lines entries → IsOutReport script origin report
reports_out script origin left lines states entries report before ends none is = subst (λ (r : Report). IsOutReport script origin r) (sym report_is) (record { lawful = out.lawful; in_order = out.in_order; first = out.first; once = out.once; none = refl })
  where
    report_is : report ≡ report_of origin.position origin.position lines []
    report_is = is ∙ ap (λ (es : List EntryLine). report_of origin.position origin.position lines es) none

    at_end : IsBeforeDown script [] lines states
    at_end = subst (λ (bs : List BodyLine). IsBeforeDown script bs lines states) (none_left left ends) before

    out : IsToldOut script origin lines
    out = ends_down script origin at_end.can_run at_end.done lines states (at_end.so_far origin)

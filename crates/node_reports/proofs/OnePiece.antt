-- On one node a piece of a session's line is one of four: it is answered, or lost, or no majority is up, or the node goes
-- down at its commit.
use Rattle.std.proofs.Common.{◌≡◌, ℕ, ◌+◌, ◌≤◌, ◌==◌, ◌&&◌, List, [], ◌∷◌, ◌++◌, refl, sym, subst, ap, arith, ◌∙◌, Option, Some, None, append_assoc, Bool, true, false, if◌then◌else◌, ◌⊎◌, inl, inr, map, length}
use Rattle.std.proofs.lemmas.Bool.{eq-eqb, both_ways, false≢true, true≢false, false_from_ne_true, and_from, and_left, and_right}
use Rattle.std.proofs.lemmas.List.{append-nil}
use Rattle.std.proofs.lemmas.Slice.Eq.{bytes_eq-Decides}
use Rattle.std.specs.List.{AllByRecursion}
use Rattle.std.specs.Str.{bytes_eq}
use Rattle.session_language.specs.Each.{EachAfter, StandsIn}
use Rattle.session_language.specs.Language.{Kind, BeginText, CommitText, RollbackText, LevelText, OtherText}
use Rattle.session_language.specs.Replies.{are_up_to, are_none, is_last_of, is_outcome, is_row}
use Rattle.session_language.proofs.EachLaws.{all_append, each_append}
use Rattle.session_language.proofs.UpToLaws.{up_to_one, up_to_last}
use Rattle.report_laws.specs.Nodes.{downs, is_up, up_count, are_few, first_down}
use Rattle.report_laws.specs.Places.{survives}
use Rattle.report_laws.specs.Play.{GoDownAtChanges, HasChanges, IsOrMemory, IsSaid, FailsThere, IsAppended, IsTimely, node_of, was_cut, since_begin, is_begin, is_begin_of, loss_of, lacks_majority, begins, commits, is_own_by}
use Rattle.report_laws.specs.Told.{told, lines_of}
use Rattle.report_text.specs.declared.reports.EntryLine.{EntryLine}
use Rattle.report_text.specs.declared.reports.Line.{Line}
use Rattle.report_text.specs.declared.reports.Line.TheVariants as line
use Rattle.cdb_values.specs.declared.replies.Reply.{Reply}
use Rattle.cdb_values.specs.declared.replies.Reply.TheVariants as reply
use Rattle.report_laws.proofs.NodesLaws.{IsNoUp, downs_append, downs_of, is_down_behind}
use Rattle.report_laws.proofs.PieceLaws.{commit_is_last, all_at}
use Rattle.report_laws.proofs.ToldLaws.{told_append, lines_append}
use Rattle.report_laws.proofs.BeginLaws.{same_up, same_few}
use Rattle.node_reports.specs.Arms.{of_commit, stops, is_last_a_down, is_row_due}
use Rattle.node_reports.specs.Piece.{Saying, replies_in, site_at, since_by, since_at, loss_at, few_at, moves_at, are_ready, commits_at, lacks_at, wanes_at, IsLostAt, IsGiven, FallsAtCommit, StopsAtRow, IsDue, IsUnacknowledged, Appends, IsSkipped, IsPiece}
use Rattle.node_reports.proofs.OneNode.{IsFirstIfBegin, IsOnes, site_one, first_none, first_append, first_quiet, none_of_ones, ones_of, ones_since, told_lines}
use Rattle.node_reports.proofs.PieceLines.{none_some, same_some, and_one, no_down, not_last_down, none_due, last_one, outcome_is_last, not_true, outcome_not_ready, line_same, lacks_same, not_later, ready_first, ready_not_up, told_some, ready_quiet, count_none, map_two, each_front, begins_none, first_ready, open_front, front_timely, enough, no_stops, or_outcome, or_row, or_not_committed, FallAtChanges, quiet_falls, fall_falls}

module _ (s : Saying) (one : s.basis.script.nodes ≡ 1) (home : node_of s.basis.script s.session ≡ 1) (stays : survives s.basis.script s.session ≡ false) (bare : s.arms ≡ []) (ones : AllByRecursion IsOnes s.before) where
  -- lines of the session in its piece
  abbrev mine_of : List Reply → List Line
  mine_of rs = lines_of s.session s.number rs

  node_at : (front : List Line) → (site_at s front).node ≡ 1
  node_at front = site_one s.basis.script s.session (s.before ++ front) one home

  loss_is : (front : List Line) → loss_at s front ≡ first_down 1 (since_at s front)
  loss_is front =
      ap (λ (b : Bool). if b then None else first_down (site_at s front).node (since_at s front)) stays
      ∙ ap (λ (k : ℕ). first_down k (since_at s front)) (node_at front)

  quiet_lines : (k : ℕ) (rs : List Reply) → first_down k (mine_of rs) ≡ None
  quiet_lines k rs = first_none k (mine_of rs) (downs_of s.session s.number rs)

  quiet_since : (k : ℕ) (rs : List Reply) → first_down k (since_begin s.session s.number (mine_of rs)) ≡ None
  quiet_since k [] = refl
  quiet_since k (r ∷ rs) = go (is_begin_of s.session s.number (line.Session s.session s.number r)) (quiet_since k rs)
    where
      go : (b : Bool) → first_down k (since_begin s.session s.number (mine_of rs)) ≡ None → first_down k (if b then mine_of rs else since_begin s.session s.number (mine_of rs)) ≡ None
      go true more = quiet_lines k rs
      go false more = more

  loss_by : (rs : List Reply) (pending : Option (List (List ℕ))) → first_down 1 (since_by s (mine_of rs) pending) ≡ loss_of s.basis.script s.before s.session s.number pending
  loss_by rs None = quiet_since 1 rs
  loss_by rs (Some texts) = go (was_cut s.before s.session s.number)
    where
      go : (b : Bool) → first_down 1 (if b then [] else since_begin s.session s.number s.before ++ mine_of rs) ≡ (if b then None else first_down (node_of s.basis.script s.session) (since_begin s.session s.number s.before))
      go true = refl
      go false = first_quiet 1 (since_begin s.session s.number s.before) (mine_of rs) (quiet_lines 1 rs) ∙ ap (λ (k : ℕ). first_down k (since_begin s.session s.number s.before)) (sym home)

  loss_lines : (rs : List Reply) → loss_at s (mine_of rs) ≡ loss_of s.basis.script s.before s.session s.number s.pending
  loss_lines rs = loss_is (mine_of rs) ∙ loss_by rs s.pending

  ones_by : (front : List Line) → AllByRecursion IsOnes front → (pending : Option (List (List ℕ))) → AllByRecursion IsOnes (since_by s front pending)
  ones_by front all None = ones_since s.session s.number front all
  ones_by front all (Some texts) = go (was_cut s.before s.session s.number)
    where
      go : (b : Bool) → AllByRecursion IsOnes (if b then [] else since_begin s.session s.number s.before ++ front)
      go true = tt
      go false = all_append IsOnes (since_begin s.session s.number s.before) front (ones_since s.session s.number s.before ones) all

  no_wane : (front : List Line) → AllByRecursion IsOnes front → loss_at s front ≡ None → wanes_at s front ≡ true → ⊥
  no_wane front all kept wanes =
      let some : (downs (since_at s front) == 0) ≡ false = not_true (downs (since_at s front) == 0) (and_one (few_at s front) _ (and_one (commits_at s front) _ wanes).1).1 in
      let none : downs (since_at s front) ≡ 0 = none_of_ones (since_at s front) (ones_by front all s.pending) (sym (loss_is front) ∙ kept) in
      both_ways (downs (since_at s front) == 0) some (eq-eqb (downs (since_at s front)) 0 none)

  no_move : (front : List Line) → moves_at s front ≡ false
  no_move front = and_left (survives s.basis.script s.session) _ stays

  lacks_first : lacks_at s [] ≡ lacks_majority s.basis.script s.before s.kind s.pending
  lacks_first = lacks_same (begins s.kind s.pending) (moves_at s []) (few_at s []) (are_few s.basis.script.nodes s.before) (no_move []) (ap (are_few s.basis.script.nodes) (append-nil s.before))

  lacks_later : (rs : List Reply) → are_none rs ≡ false → lacks_at s (mine_of rs) ≡ true → ⊥
  lacks_later rs some = not_later (begins s.kind s.pending) (are_none (replies_in s.session (mine_of rs))) (moves_at s (mine_of rs)) (few_at s (mine_of rs)) (ap are_none (told_lines s.session s.number rs) ∙ some) (no_move (mine_of rs))

  -- behind lines of the session no loss is due where it goes down
  kept_of : (rs : List Reply) (fault : Bool) → FallsAtCommit s (mine_of rs) fault → loss_at s (mine_of rs) ≡ None
  kept_of rs fault falls = go falls.kept
    where
      go : (loss_at s (mine_of rs) ≡ None) ⊎ (is_last_a_down (mine_of rs) ≡ true) → loss_at s (mine_of rs) ≡ None
      go (inl e) = e
      go (inr e) = absurd (both_ways (is_last_a_down (mine_of rs)) (not_last_down s.session s.number rs) e)

  -- a node that goes down behind lines of the session does so at the commit, by a fault
  falls_behind : (rs : List Reply) (fault : Bool) (node : ℕ) → FallsAtCommit s (mine_of rs) fault ⊎ (StopsAtRow s (mine_of rs) node fault ⊎ ((fault ≡ true) × (is_last_a_down (mine_of rs) ≡ true))) → (fault ≡ true) × FallsAtCommit s (mine_of rs) fault
  falls_behind rs fault node (inl is) = (by is.by, is)
    where
      none : of_commit s.arms ≡ 0
      none = ap of_commit bare

      by : (fault ≡ true) ⊎ (stops (mine_of rs) + 1 ≤ of_commit s.arms) → fault ≡ true
      by (inl e) = e
      by (inr few) = absurd (omega (arith, few, none))
  falls_behind rs fault node (inr (inl is)) = absurd (both_ways (is_row_due s.arms s.session (mine_of rs)) (none_due s.arms s.session (mine_of rs) bare) is.due)
  falls_behind rs fault node (inr (inr is)) = absurd (both_ways (is_last_a_down (mine_of rs)) (not_last_down s.session s.number rs) is.1)

  -- what is left of a piece: lines that are answered
  record Further (now after : ℕ) (rest : List Line) : Type 0 where
    more : List Reply
    says : rest ≡ mine_of more
    timely : AllByRecursion (IsTimely now after) more

  -- or some, and then the line that the node went down, and others
  record Falls (now after : ℕ) (rs : List Reply) (rest : List Line) : Type 0 where
    more : List Reply
    count : ℕ
    tail : List Line
    says : rest ≡ mine_of more ++ line.Down count 1 true ∷ tail
    timely : AllByRecursion (IsTimely now after) more
    counted : count ≡ downs (s.before ++ mine_of (rs ++ more)) + 1
    was_up : is_up 1 (s.before ++ mine_of (rs ++ more)) ≡ true
    falls : FallsAtCommit s (mine_of (rs ++ more)) true
    each : EachAfter (IsDue s now after) (mine_of (rs ++ more) ++ line.Down count 1 true ∷ []) tail

  only_one : (node : ℕ) → (1 ≤ node) × (node ≤ s.basis.script.nodes) → node ≡ 1
  only_one node of = omega (arith, of.0, of.1, one)

  later_given : (now after : ℕ) (rs : List Reply) (r : Reply) → are_none rs ≡ false → loss_of s.basis.script s.before s.session s.number s.pending ≡ None → IsGiven s now after (mine_of rs) r → IsTimely now after r
  later_given now after rs r some kept (inl is) = absurd (none_some is.down (sym kept ∙ sym (loss_lines rs) ∙ is.is_lost))
  later_given now after rs r some kept (inr (inl is)) = absurd (no_down s.session s.number rs is.fell.0 is.fell.1 is.down is.node is.fault is.fell.2)
  later_given now after rs r some kept (inr (inr (inl is))) = absurd (go is.lacks)
    where
      go : (lacks_at s (mine_of rs) ≡ true) ⊎ ((wanes_at s (mine_of rs) ≡ true) × HasChanges s.basis s.view (s.before ++ mine_of rs) s.session s.number) → ⊥
      go (inl e) = lacks_later rs some e
      go (inr (e, changes)) = no_wane (mine_of rs) (ones_of s.session s.number rs) is.kept.kept e
  later_given now after rs r some kept (inr (inr (inr is))) = is.timely

  some_more : (rs : List Reply) (r : Reply) → are_none (rs ++ r ∷ []) ≡ false
  some_more [] r = refl
  some_more (x ∷ rs) r = refl

  -- the node goes down behind them
  fall : (now after : ℕ) (rs : List Reply) (count node : ℕ) (fault : Bool) (rest : List Line) → EachAfter (IsDue s now after) (mine_of rs) (line.Down count node fault ∷ rest) → Falls now after rs (line.Down count node fault ∷ rest)
  fall now after rs count node fault rest each = record {
    more = [];
    count = count;
    tail = rest;
    says = ap (λ (l : Line). l ∷ rest) same;
    timely = tt;
    counted = each.0.counted ∙ ap (λ (x : List Reply). downs (s.before ++ mine_of x) + 1) (sym (append-nil rs));
    was_up = ap (λ (x : List Reply). is_up 1 (s.before ++ mine_of x)) (append-nil rs) ∙ ap (λ (k : ℕ). is_up k (s.before ++ mine_of rs)) (sym first) ∙ each.0.was_up;
    falls = subst (λ (x : List Reply). FallsAtCommit s (mine_of x) true) (sym (append-nil rs)) (subst (λ (b : Bool). FallsAtCommit s (mine_of rs) b) cause.0 cause.1);
    each = subst (λ (x : List Reply). EachAfter (IsDue s now after) (mine_of x ++ line.Down count 1 true ∷ []) rest) (sym (append-nil rs)) (subst (λ (l : Line). EachAfter (IsDue s now after) (mine_of rs ++ l ∷ []) rest) same each.1);
  }
    where
      first : node ≡ 1
      first = only_one node each.0.of_script

      cause : (fault ≡ true) × FallsAtCommit s (mine_of rs) fault
      cause = falls_behind rs fault node each.0.cause

      same : line.Down count node fault ≡ line.Down count 1 true
      same = ap (λ (k : ℕ). line.Down count k fault) first ∙ ap (λ (b : Bool). line.Down count 1 b) cause.0

  -- the lines of a piece behind some of the session
  walk : (now after : ℕ) (rs : List Reply) (rest : List Line) → are_none rs ≡ false → loss_of s.basis.script s.before s.session s.number s.pending ≡ None →
      EachAfter (IsDue s now after) (mine_of rs) rest → Further now after rest ⊎ Falls now after rs rest
  walk now after rs [] some kept each = inl (record { more = []; says = refl; timely = tt })
  walk now after rs (line.Session name txn r ∷ rest) some kept each =
      go (walk now after (rs ++ r ∷ []) rest (some_more rs r) kept
      (subst (λ (front : List Line). EachAfter (IsDue s now after) front rest) (ap (λ (l : Line). mine_of rs ++ l ∷ []) same ∙ sym (lines_append s.session s.number rs (r ∷ []))) each.1))
    where
      same : line.Session name txn r ≡ line.Session s.session s.number r
      same = line_same name s.session txn s.number r each.0.0 each.0.1

      its : IsTimely now after r
      its = later_given now after rs r some kept each.0.3

      behind_it : (more : List Reply) → (rs ++ r ∷ []) ++ more ≡ rs ++ r ∷ more
      behind_it more = append_assoc rs (r ∷ []) more

      go : Further now after rest ⊎ Falls now after (rs ++ r ∷ []) rest → Further now after (line.Session name txn r ∷ rest) ⊎ Falls now after rs (line.Session name txn r ∷ rest)
      go (inl is) = inl (record { more = r ∷ is.more; says = ap (λ (l : Line). l ∷ rest) same ∙ ap (λ (ls : List Line). line.Session s.session s.number r ∷ ls) is.says; timely = (its, is.timely) })
      go (inr is) = inr (record {
        more = r ∷ is.more;
        count = is.count;
        tail = is.tail;
        says = ap (λ (l : Line). l ∷ rest) same ∙ ap (λ (ls : List Line). line.Session s.session s.number r ∷ ls) is.says;
        timely = (its, is.timely);
        counted = is.counted ∙ ap (λ (x : List Reply). downs (s.before ++ mine_of x) + 1) (behind_it is.more);
        was_up = ap (λ (x : List Reply). is_up 1 (s.before ++ mine_of x)) (sym (behind_it is.more)) ∙ is.was_up;
        falls = subst (λ (x : List Reply). FallsAtCommit s (mine_of x) true) (behind_it is.more) is.falls;
        each = subst (λ (x : List Reply). EachAfter (IsDue s now after) (mine_of x ++ line.Down is.count 1 true ∷ []) is.tail) (behind_it is.more) is.each;
      })
  walk now after rs (line.Down count node fault ∷ rest) some kept each = inr (fall now after rs count node fault rest each)
  walk now after rs (line.Up node ∷ rest) some kept each = absurd each.0
  walk now after rs (line.Barrier ∷ rest) some kept each = absurd each.0
  walk now after rs (line.Fed position ∷ rest) some kept each = absurd each.0

  -- behind replies that are ready the begin is found
  since_found : (rs : List Reply) (more : List Line) → are_ready true rs ≡ true → since_begin s.session s.number (mine_of rs ++ more) ≡ since_begin s.session s.number (mine_of rs) ++ more
  since_found [] more is = absurd (false≢true is)
  since_found (r ∷ rs) more is = go (is_begin_of s.session s.number (line.Session s.session s.number r)) found
    where
      found : is_begin_of s.session s.number (line.Session s.session s.number r) ≡ true
      found = and_from (bytes_eq s.session s.session) _ ((bytes_eq-Decides s.session s.session).1 refl) (and_from (s.number == s.number) (is_begin r) (eq-eqb s.number s.number refl) (and_one (is_begin r) _ is).0)

      go : (b : Bool) → b ≡ true → (if b then mine_of rs ++ more else since_begin s.session s.number (mine_of rs ++ more)) ≡ (if b then mine_of rs else since_begin s.session s.number (mine_of rs)) ++ more
      go true e = refl
      go false e = absurd (false≢true e)

  since_more : (rs : List Reply) (more : List Line) (kind : Kind) (pending : Option (List (List ℕ))) → commits kind pending ≡ true → are_ready (is_own_by kind pending) rs ≡ true →
      was_cut s.before s.session s.number ≡ false → since_by s (mine_of rs ++ more) pending ≡ since_by s (mine_of rs) pending ++ more
  since_more rs more OtherText None is ready uncut = since_found rs more ready
  since_more rs more BeginText None is ready uncut = absurd (false≢true is)
  since_more rs more CommitText None is ready uncut = absurd (false≢true is)
  since_more rs more RollbackText None is ready uncut = absurd (false≢true is)
  since_more rs more (LevelText level) None is ready uncut = absurd (false≢true is)
  since_more rs more kind (Some texts) is ready uncut = go (was_cut s.before s.session s.number) uncut
    where
      go : (b : Bool) → b ≡ false → (if b then [] else since_begin s.session s.number s.before ++ (mine_of rs ++ more)) ≡ (if b then [] else since_begin s.session s.number s.before ++ mine_of rs) ++ more
      go true e = absurd (true≢false e)
      go false e = sym (append_assoc (since_begin s.session s.number s.before) (mine_of rs) more)

  module _ (now : ℕ) (added : List EntryLine) (mine others : List Line) (piece : IsPiece s now mine others added) (no_up : AllByRecursion IsNoUp others) where
    abbrev end_at : ℕ
    end_at = now + length added

    abbrev own : Bool
    own = is_own_by s.kind s.pending

    abbrev Said : Type 0
    Said = IsSaid s.basis.script now s.before s.session s.number s.kind s.pending mine added

    -- and where a node goes down in it, it does so at a transaction with operations
    abbrev Both : Type 0
    Both = Said × ((later : List Line) → FallAtChanges s.basis s.view (s.before ++ mine) later → FallAtChanges s.basis s.view s.before (mine ++ later))

    quiet_both : (rs : List Reply) → mine ≡ mine_of rs → Said → Both
    quiet_both rs says said = (
      said,
      λ later more. subst (λ (ls : List Line). FallAtChanges s.basis s.view s.before (ls ++ later)) (sym says) (quiet_falls s.basis s.view s.before s.session s.number rs later
          (subst (λ (ls : List Line). FallAtChanges s.basis s.view (s.before ++ ls) later) says more)),
    )

    module _ (rs : List Reply) (count : ℕ) (tail : List Line) (says : mine ≡ mine_of rs ++ line.Down count 1 true ∷ tail) (timely : AllByRecursion (IsTimely now end_at) rs)
        (counted : count ≡ downs (s.before ++ mine_of rs) + 1) (was_up : is_up 1 (s.before ++ mine_of rs) ≡ true) (falls : FallsAtCommit s (mine_of rs) true)
        (each : EachAfter (IsDue s now end_at) (mine_of rs ++ line.Down count 1 true ∷ []) tail) where
      at_commit : commits s.kind s.pending ≡ true
      at_commit = (and_one (commits s.kind s.pending) _ falls.at_commit).0

      ready : are_ready own rs ≡ true
      ready = ap (are_ready own) (sym (told_lines s.session s.number rs)) ∙ (and_one (commits s.kind s.pending) _ falls.at_commit).1

      -- what is told behind the line
      is_lost : loss_at s (mine_of rs ++ line.Down count 1 true ∷ []) ≡ Some count
      is_lost = loss_is (mine_of rs ++ line.Down count 1 true ∷ [])
          ∙ ap (first_down 1) (since_more rs (line.Down count 1 true ∷ []) s.kind s.pending at_commit ready falls.uncut)
          ∙ first_append 1 (since_at s (mine_of rs)) (line.Down count 1 true ∷ []) (sym (loss_is (mine_of rs)) ∙ kept_of rs true falls)

      not_kept : loss_at s (mine_of rs ++ line.Down count 1 true ∷ []) ≡ None → ⊥
      not_kept e = none_some count (sym e ∙ is_lost)

      given : (r : Reply) → IsGiven s now end_at (mine_of rs ++ line.Down count 1 true ∷ []) r → IsOrMemory (reply.Lost 1 count) r
      given r (inl is) = subst (λ (answer : Reply). IsOrMemory answer r) (ap (λ (k : ℕ). reply.Lost k is.down) (node_at (mine_of rs ++ line.Down count 1 true ∷ [])) ∙ ap (reply.Lost 1) (same_some is.down count (sym is.is_lost ∙ is_lost))) is.says
      given r (inr (inl is)) = absurd (not_kept is.kept)
      given r (inr (inr (inl is))) = absurd (not_kept is.kept.kept)
      given r (inr (inr (inr is))) = absurd (not_kept is.kept.kept)

      told_mine : replies_in s.session mine ≡ rs ++ replies_in s.session tail
      told_mine = ap (replies_in s.session) says ∙ ap (map (λ t. t.1)) (told_append s.session (mine_of rs) (line.Down count 1 true ∷ tail)) ∙ map_two (told s.session (mine_of rs)) (told s.session tail)
          ∙ ap (λ (x : List Reply). x ++ replies_in s.session tail) (told_lines s.session s.number rs)

      told_first : (name : List ℕ) (txn : ℕ) (r : Reply) (ls : List Line) → name ≡ s.session → replies_in s.session (line.Session name txn r ∷ ls) ≡ r ∷ replies_in s.session ls
      told_first name txn r ls same = ap (λ (b : Bool). map (λ t. t.1) ((if b then (txn, r) ∷ [] else []) ++ told s.session ls)) ((bytes_eq-Decides name s.session).1 same)

      some_mine : mine ≡ [] → ⊥
      some_mine none = let e : downs (mine_of rs) + (downs tail + 1) ≡ 0 = sym (downs_append (mine_of rs) (line.Down count 1 true ∷ tail)) ∙ ap downs (sym says ∙ none) in omega (arith, e)

      up_to : are_up_to (is_last_of own) (replies_in s.session mine) ≡ true
      up_to = go piece.up_to
        where
          go : (are_up_to (is_last_of own) (replies_in s.session mine) ≡ true) ⊎ IsSkipped s mine → are_up_to (is_last_of own) (replies_in s.session mine) ≡ true
          go (inl e) = e
          go (inr e) = absurd (some_mine e.none)

      down_behind : (back : List Line) → AllByRecursion IsNoUp back → is_up 1 (s.before ++ ((mine_of rs ++ line.Down count 1 true ∷ []) ++ back)) ≡ false
      down_behind back none = ap (λ (ls : List Line). is_up 1 (s.before ++ ls)) (append_assoc (mine_of rs) (line.Down count 1 true ∷ []) back)
          ∙ ap (is_up 1) (sym (append_assoc s.before (mine_of rs) (line.Down count 1 true ∷ back))) ∙ is_down_behind count 1 true (s.before ++ mine_of rs) back none

      -- the line behind it is the loss, and the last one
      ends : (ls : List Line) → EachAfter (IsDue s now end_at) (mine_of rs ++ line.Down count 1 true ∷ []) ls → replies_in s.session mine ≡ rs ++ replies_in s.session ls → (r : Reply) × IsOrMemory (reply.Lost 1 count) r × (ls ≡ mine_of (r ∷ []))
      ends [] due told_is = absurd (ready_not_up own rs ready (ap (are_up_to (is_last_of own)) (sym (told_is ∙ append-nil rs)) ∙ up_to))
      ends (line.Session name txn r ∷ []) due told_is = (r, given r due.0.3, ap (λ (l : Line). l ∷ []) (line_same name s.session txn s.number r due.0.0 due.0.1))
      ends (line.Session name txn r ∷ line.Session other number q ∷ ls) due told_is = absurd (told_some s.session other number q ls due.1.0.0 (last_one (is_last_of own) rs r (replies_in s.session (line.Session other number q ∷ ls)) more last))
        where
          more : are_up_to (is_last_of own) (rs ++ r ∷ replies_in s.session (line.Session other number q ∷ ls)) ≡ true
          more = ap (are_up_to (is_last_of own)) (sym (told_is ∙ ap (λ (x : List Reply). rs ++ x) (told_first name txn r (line.Session other number q ∷ ls) due.0.0))) ∙ up_to

          last : is_last_of own r ≡ true
          last = outcome_is_last own r (or_outcome (reply.Lost 1 count) r (given r due.0.3) refl) (or_row (reply.Lost 1 count) r (given r due.0.3) refl)
      ends (line.Session name txn r ∷ line.Down again node fault ∷ ls) due told_is =
          absurd (both_ways (is_up 1 (s.before ++ ((mine_of rs ++ line.Down count 1 true ∷ []) ++ line.Session name txn r ∷ []))) (down_behind (line.Session name txn r ∷ []) (tt, tt))
          (ap (λ (k : ℕ). is_up k (s.before ++ ((mine_of rs ++ line.Down count 1 true ∷ []) ++ line.Session name txn r ∷ []))) (sym (only_one node due.1.0.of_script)) ∙ due.1.0.was_up))
      ends (line.Session name txn r ∷ line.Up node ∷ ls) due told_is = absurd due.1.0
      ends (line.Session name txn r ∷ line.Barrier ∷ ls) due told_is = absurd due.1.0
      ends (line.Session name txn r ∷ line.Fed position ∷ ls) due told_is = absurd due.1.0
      ends (line.Down again node fault ∷ ls) due told_is =
          absurd (both_ways (is_up 1 (s.before ++ (mine_of rs ++ line.Down count 1 true ∷ []))) (ap (λ (ls : List Line). is_up 1 (s.before ++ ls)) (sym (append-nil (mine_of rs ++ line.Down count 1 true ∷ []))) ∙ down_behind [] tt)
          (ap (λ (k : ℕ). is_up k (s.before ++ (mine_of rs ++ line.Down count 1 true ∷ []))) (sym (only_one node due.0.of_script)) ∙ due.0.was_up))
      ends (line.Up node ∷ ls) due told_is = absurd due.0
      ends (line.Barrier ∷ ls) due told_is = absurd due.0
      ends (line.Fed position ∷ ls) due told_is = absurd due.0

      end_is : (r : Reply) × IsOrMemory (reply.Lost 1 count) r × (tail ≡ mine_of (r ∷ []))
      end_is = ends tail each told_mine

      abbrev last : Reply
      last = end_is.0

      tail_is : tail ≡ mine_of (last ∷ [])
      tail_is = end_is.2

      same_number : count ≡ downs s.before + 1
      same_number = let e : downs (s.before ++ mine_of rs) ≡ downs s.before + downs (mine_of rs) = downs_append s.before (mine_of rs) in let f : downs (mine_of rs) ≡ 0 = downs_of s.session s.number rs in omega (arith, counted, e, f)

      says_all : mine ≡ mine_of rs ++ line.Down (downs s.before + 1) 1 true ∷ mine_of (last ∷ [])
      says_all = says ∙ ap (λ (ls : List Line). mine_of rs ++ line.Down count 1 true ∷ ls) tail_is ∙ ap (λ (k : ℕ). mine_of rs ++ line.Down k 1 true ∷ mine_of (last ∷ [])) same_number

      lost_no_commit : (position : ℕ) → reply.Lost 1 count ≡ reply.Committed position → ⊥
      lost_no_commit position is = cc

      -- and no entry is appended
      none_added : (es : List EntryLine) → Appends s now mine others es → es ≡ []
      none_added [] is = refl
      none_added (e ∷ es) is = absurd (go is.4)
        where
          go : StandsIn (replies_in s.session mine) (reply.Committed (now + 1)) ⊎ IsUnacknowledged s mine others → ⊥
          go (inl stands) = or_not_committed (reply.Lost 1 count) last end_is.1 lost_no_commit (now + 1) (commit_is_last rs last (now + 1) (ready_quiet own rs ready)
              (subst (λ (x : List Reply). StandsIn x (reply.Committed (now + 1))) (told_mine ∙ ap (λ (ls : List Line). rs ++ replies_in s.session ls) tail_is ∙ ap (λ (x : List Reply). rs ++ x) (told_lines s.session s.number (last ∷ []))) stands))
          go (inr un) = all_at IsNoUp others (line.Up 1) no_up (un.comes_up (mine_of rs) tail count 1 says
              (count_none s.basis.script.nodes (s.before ++ (mine_of rs ++ line.Down count 1 true ∷ [])) one
              (ap (λ (ls : List Line). is_up 1 (s.before ++ ls)) (sym (append-nil (mine_of rs ++ line.Down count 1 true ∷ []))) ∙ down_behind [] tt)))

      fails : FailsThere s.basis.script now s.before s.session s.number s.kind s.pending mine added
      fails = record {
        at_commit = at_commit;
        uncut = falls.uncut;
        kept = sym (loss_lines rs) ∙ kept_of rs true falls;
        majority = and_right (begins s.kind s.pending) (are_few s.basis.script.nodes s.before) (sym (same_few s.basis.script.nodes s.before s.session s.number rs) ∙ falls.majority);
        front = rs;
        first = ready_first own now end_at rs ready timely;
        node = 1;
        of_script = (omega arith, omega (arith, one));
        was_up = sym (same_up 1 s.before s.session s.number rs) ∙ was_up;
        told = last;
        is_told = subst (λ (k : ℕ). IsOrMemory (reply.Lost 1 k) last) same_number end_is.1;
        says = says_all;
        none = none_added added piece.appended;
      }

      fails_both : Both
      fails_both = (
        inr (inr (inr fails)),
        λ later more. subst (λ (ls : List Line). FallAtChanges s.basis s.view s.before (ls ++ later)) (sym says_all) (fall_falls s.basis s.view s.before s.session s.number rs (downs s.before + 1) 1 true last later falls.changes
            (subst (λ (ls : List Line). FallAtChanges s.basis s.view (s.before ++ ls) later) says_all more)),
      )

    -- entries of a piece without a line that the node went down
    appended_is : (rs : List Reply) → mine ≡ mine_of rs → (es : List EntryLine) → Appends s now mine others es → IsAppended now s.session s.number rs es
    appended_is rs says [] is = tt
    appended_is rs says (e ∷ es) is = (is.0, is.1, is.2, is.3, go is.4)
      where
        go : StandsIn (replies_in s.session mine) (reply.Committed (now + 1)) ⊎ IsUnacknowledged s mine others → StandsIn rs (reply.Committed (now + 1))
        go (inl stands) = subst (λ (x : List Reply). StandsIn x (reply.Committed (now + 1))) (ap (replies_in s.session) says ∙ told_lines s.session s.number rs) stands
        go (inr un) = absurd (no_down s.session s.number rs un.fell.0 un.fell.1 un.fell.2 un.fell.3 un.fell.4 (sym says ∙ un.fell.5))

    added_none : (o : Reply) → mine ≡ mine_of (o ∷ []) → ((position : ℕ) → o ≡ reply.Committed position → ⊥) → (es : List EntryLine) → Appends s now mine others es → es ≡ []
    added_none o says never [] is = refl
    added_none o says never (e ∷ es) is = absurd (never (now + 1) (commit_is_last [] o (now + 1) tt (appended_is (o ∷ []) says (e ∷ es) is).4))

    up_to_some : (l : Line) (ls : List Line) → mine ≡ l ∷ ls → are_up_to (is_last_of own) (replies_in s.session mine) ≡ true
    up_to_some l ls says = go piece.up_to
      where
        go : (are_up_to (is_last_of own) (replies_in s.session mine) ≡ true) ⊎ IsSkipped s mine → are_up_to (is_last_of own) (replies_in s.session mine) ≡ true
        go (inl e) = e
        go (inr e) = absurd (let none : l ∷ ls ≡ [] = sym says ∙ e.none in cc)

    -- behind an outcome that stands first nothing stands
    closed : (r : Reply) (rest : List Line) → is_outcome r ≡ true → is_row r ≡ false → mine ≡ line.Session s.session s.number r ∷ rest → EachAfter (IsDue s now end_at) (mine_of (r ∷ [])) rest → rest ≡ []
    closed r [] is row says each = refl
    closed r (line.Session name txn q ∷ ls) is row says each = absurd (told_some s.session name txn q ls each.0.0 (last_one (is_last_of own) [] r (replies_in s.session (line.Session name txn q ∷ ls)) up (outcome_is_last own r is row)))
      where
        up : are_up_to (is_last_of own) (r ∷ replies_in s.session (line.Session name txn q ∷ ls)) ≡ true
        up = ap (are_up_to (is_last_of own)) (sym (ap (replies_in s.session) says ∙ ap (λ (b : Bool). map (λ t. t.1) ((if b then (s.number, r) ∷ [] else []) ++ told s.session (line.Session name txn q ∷ ls))) ((bytes_eq-Decides s.session s.session).1 refl)))
            ∙ up_to_some (line.Session s.session s.number r) (line.Session name txn q ∷ ls) says
    closed r (line.Down count node fault ∷ ls) is row says each =
        absurd (outcome_not_ready own r is (ap (are_ready own) (sym (told_lines s.session s.number (r ∷ []))) ∙ (and_one (commits s.kind s.pending) _ (falls_behind (r ∷ []) fault node each.0.cause).1.at_commit).1))
    closed r (line.Up node ∷ ls) is row says each = absurd each.0
    closed r (line.Barrier ∷ ls) is row says each = absurd each.0
    closed r (line.Fed position ∷ ls) is row says each = absurd each.0

    skip_kept : (pending : Option (List (List ℕ))) → was_cut s.before s.session s.number ≡ true → loss_of s.basis.script s.before s.session s.number pending ≡ None
    skip_kept None cut = refl
    skip_kept (Some texts) cut = ap (λ (b : Bool). if b then None else first_down (node_of s.basis.script s.session) (since_begin s.session s.number s.before)) cut

    answered : (rs : List Reply) → mine ≡ mine_of rs → AllByRecursion (IsTimely now end_at) rs → ((are_up_to (is_last_of own) rs ≡ true) ⊎ ((rs ≡ []) × (was_cut s.before s.session s.number ≡ true))) →
        loss_of s.basis.script s.before s.session s.number s.pending ≡ None → lacks_majority s.basis.script s.before s.kind s.pending ≡ false → Both
    answered rs says timely told_up kept majority =
        quiet_both rs says (inl (record { replies = rs; says = says; turn = record { told = told_up; timely = timely; appended = appended_is rs says added piece.appended }; kept = kept; majority = majority }))

    lost_not_committed : (node down position : ℕ) → reply.Lost node down ≡ reply.Committed position → ⊥
    lost_not_committed node down position e = cc

    short_not_committed : (up nodes position : ℕ) → reply.NoMajority up nodes ≡ reply.Committed position → ⊥
    short_not_committed up nodes position e = cc

    -- a piece whose first line is the session's
    begun : (r : Reply) (rest : List Line) → mine ≡ line.Session s.session s.number r ∷ rest → IsGiven s now end_at [] r → EachAfter (IsDue s now end_at) (mine_of (r ∷ [])) rest → Both
    begun r rest says (inl is) each = quiet_both (r ∷ []) alone (inr (inl (record {
      down = is.down;
      is_lost = sym (loss_lines []) ∙ is.is_lost;
      told = r;
      is_told = subst (λ (k : ℕ). IsOrMemory (reply.Lost k is.down) r) (node_at [] ∙ sym home) is.says;
      says = alone;
      none = added_none r alone (or_not_committed its r is.says (lost_not_committed (site_at s []).node is.down)) added piece.appended;
    })))
      where
        its : Reply
        its = reply.Lost (site_at s []).node is.down

        alone : mine ≡ mine_of (r ∷ [])
        alone = says ∙ ap (λ (ls : List Line). line.Session s.session s.number r ∷ ls) (closed r rest (or_outcome its r is.says refl) (or_row its r is.says refl) says each)
    begun r rest says (inr (inl is)) each = absurd (no_down s.session s.number [] is.fell.0 is.fell.1 is.down is.node is.fault is.fell.2)
    begun r rest says (inr (inr (inl is))) each = quiet_both (r ∷ []) alone (inr (inr (inl (record {
      lacks = sym lacks_first ∙ lacks is.lacks;
      told = r;
      is_told = subst (λ (ls : List Line). IsOrMemory (reply.NoMajority (up_count s.basis.script.nodes ls) s.basis.script.nodes) r) (append-nil s.before) is.says;
      says = alone;
      none = added_none r alone (or_not_committed its r is.says (short_not_committed _ s.basis.script.nodes)) added piece.appended;
    }))))
      where
        its : Reply
        its = reply.NoMajority (up_count s.basis.script.nodes (s.before ++ [])) s.basis.script.nodes

        alone : mine ≡ mine_of (r ∷ [])
        alone = says ∙ ap (λ (ls : List Line). line.Session s.session s.number r ∷ ls) (closed r rest (or_outcome its r is.says refl) (or_row its r is.says refl) says each)

        lacks : (lacks_at s [] ≡ true) ⊎ ((wanes_at s [] ≡ true) × HasChanges s.basis s.view (s.before ++ []) s.session s.number) → lacks_at s [] ≡ true
        lacks (inl e) = e
        lacks (inr (e, changes)) = absurd (no_wane [] tt is.kept.kept e)
    begun r rest says (inr (inr (inr is))) each = go (walk now end_at (r ∷ []) rest refl (sym (loss_lines []) ∙ is.kept.kept) each)
      where
        go : Further now end_at rest ⊎ Falls now end_at (r ∷ []) rest → Both
        go (inl further) = answered (r ∷ further.more) all (is.timely, further.timely)
            (inl (ap (are_up_to (is_last_of own)) (sym (ap (replies_in s.session) all ∙ told_lines s.session s.number (r ∷ further.more))) ∙ up_to_some (line.Session s.session s.number r) rest says))
            (sym (loss_lines []) ∙ is.kept.kept) (sym lacks_first ∙ is.majority)
          where
            all : mine ≡ mine_of (r ∷ further.more)
            all = says ∙ ap (λ (ls : List Line). line.Session s.session s.number r ∷ ls) further.says
        go (inr fallen) = fails_both (r ∷ fallen.more) fallen.count fallen.tail (says ∙ ap (λ (ls : List Line). line.Session s.session s.number r ∷ ls) fallen.says)
            (is.timely, fallen.timely) fallen.counted fallen.was_up fallen.falls fallen.each

    -- a piece on one node is one of four
    pieces : (ls : List Line) → mine ≡ ls → EachAfter (IsDue s now end_at) [] ls → Both
    pieces [] says each = go piece.up_to
      where
        go : (are_up_to (is_last_of own) (replies_in s.session mine) ≡ true) ⊎ IsSkipped s mine → Both
        go (inl e) = absurd (false≢true (ap (λ (l : List Line). are_up_to (is_last_of own) (replies_in s.session l)) (sym says) ∙ e))
        go (inr skip) = answered [] says tt (inr (refl, skip.cut)) (skip_kept s.pending skip.cut) skip.majority
    pieces (line.Session name txn r ∷ rest) says each = begun r rest (says ∙ ap (λ (l : Line). l ∷ rest) same) each.0.3 (subst (λ (l : Line). EachAfter (IsDue s now end_at) (l ∷ []) rest) same each.1)
      where
        same : line.Session name txn r ≡ line.Session s.session s.number r
        same = line_same name s.session txn s.number r each.0.0 each.0.1
    pieces (line.Down count node fault ∷ rest) says each = go (fall now end_at [] count node fault rest each)
      where
        go : Falls now end_at [] (line.Down count node fault ∷ rest) → Both
        go fallen = fails_both fallen.more fallen.count fallen.tail (says ∙ fallen.says) fallen.timely fallen.counted fallen.was_up fallen.falls fallen.each
    pieces (line.Up node ∷ rest) says each = absurd each.0
    pieces (line.Barrier ∷ rest) says each = absurd each.0
    pieces (line.Fed position ∷ rest) says each = absurd each.0

    pub one_piece : Both
    one_piece = pieces mine refl piece.each

  -- the other way: what the order of play of one node tells is due

  lacks_none : (rs : List Reply) → lacks_majority s.basis.script s.before s.kind s.pending ≡ false → lacks_at s (mine_of rs) ≡ false
  lacks_none [] majority = lacks_first ∙ majority
  lacks_none (r ∷ rs) majority = false_from_ne_true (lacks_at s (mine_of (r ∷ rs))) (λ e. lacks_later (r ∷ rs) refl e)

  quiet_due : (front : List Line) → (is_row_due s.arms s.session front && is_up (site_at s front).node (s.before ++ front)) ≡ false
  quiet_due front = and_left (is_row_due s.arms s.session front) _ (none_due s.arms s.session front bare)

  line_due : (now after : ℕ) (rs : List Reply) (r : Reply) → loss_of s.basis.script s.before s.session s.number s.pending ≡ None → lacks_majority s.basis.script s.before s.kind s.pending ≡ false → IsTimely now after r →
      IsDue s now after (mine_of rs) (line.Session s.session s.number r)
  line_due now after rs r kept majority timely = (
    refl,
    refl,
    quiet_due (mine_of rs),
    inr (inr (inr (record {
      kept = record { kept = loss_lines rs ∙ kept; unstopped = inr (no_stops s.session s.number rs) };
      majority = lacks_none rs majority;
      unsent = λ e. absurd (no_wane (mine_of rs) (ones_of s.session s.number rs) (loss_lines rs ∙ kept) e);
      sent = λ e. absurd (both_ways (is_last_a_down (mine_of rs)) (not_last_down s.session s.number rs) (and_one (commits_at s (mine_of rs)) (is_last_a_down (mine_of rs)) e).1);
      timely = timely;
    }))),
  )

  lines_due : (now after : ℕ) (rs more : List Reply) → loss_of s.basis.script s.before s.session s.number s.pending ≡ None → lacks_majority s.basis.script s.before s.kind s.pending ≡ false → AllByRecursion (IsTimely now after) more →
      EachAfter (IsDue s now after) (mine_of rs) (mine_of more)
  lines_due now after rs [] kept majority timely = tt
  lines_due now after rs (r ∷ more) kept majority timely = (
    line_due now after rs r kept majority timely.0,
    subst (λ (front : List Line). EachAfter (IsDue s now after) front (mine_of more)) (lines_append s.session s.number rs (r ∷ [])) (lines_due now after (rs ++ r ∷ []) more kept majority timely.1),
  )

  lost_behind : (rs : List Reply) (count : ℕ) → FallsAtCommit s (mine_of rs) true → loss_at s (mine_of rs ++ line.Down count 1 true ∷ []) ≡ Some count
  lost_behind rs count falls = loss_is (mine_of rs ++ line.Down count 1 true ∷ [])
      ∙ ap (first_down 1) (since_more rs (line.Down count 1 true ∷ []) s.kind s.pending at_commit ready falls.uncut)
      ∙ first_append 1 (since_at s (mine_of rs)) (line.Down count 1 true ∷ []) (sym (loss_is (mine_of rs)) ∙ kept_of rs true falls)
    where
      at_commit : commits s.kind s.pending ≡ true
      at_commit = (and_one (commits s.kind s.pending) _ falls.at_commit).0

      ready : are_ready (is_own_by s.kind s.pending) rs ≡ true
      ready = ap (are_ready (is_own_by s.kind s.pending)) (sym (told_lines s.session s.number rs)) ∙ (and_one (commits s.kind s.pending) _ falls.at_commit).1

  -- entries
  appends_is : (now : ℕ) (mine others : List Line) (rs : List Reply) (added : List EntryLine) → mine ≡ mine_of rs → IsAppended now s.session s.number rs added → Appends s now mine others added
  appends_is now mine others rs [] says is = tt
  appends_is now mine others rs (e ∷ es) says is = (is.0, is.1, is.2, is.3, inl (subst (λ (x : List Reply). StandsIn x (reply.Committed (now + 1))) (sym (ap (replies_in s.session) says ∙ told_lines s.session s.number rs)) is.4))

  appends_none : (now : ℕ) (mine others : List Line) (added : List EntryLine) → added ≡ [] → Appends s now mine others added
  appends_none now mine others [] none = tt
  appends_none now mine others (e ∷ es) none = absurd (let no_such : e ∷ es ≡ [] = none in cc)

  no_commit_arms : of_commit s.arms ≡ 0
  no_commit_arms = ap of_commit bare

  -- a piece of one line that ends it
  alone_piece : (now : ℕ) (mine others : List Line) (added : List EntryLine) (r : Reply) → mine ≡ mine_of (r ∷ []) → added ≡ [] → is_outcome r ≡ true → is_row r ≡ false → IsGiven s now (now + length added) [] r → IsPiece s now mine others added
  alone_piece now mine others added r says none is row given = record {
    up_to = inl (ap (are_up_to (is_last_of (is_own_by s.kind s.pending))) (ap (replies_in s.session) says ∙ told_lines s.session s.number (r ∷ [])) ∙ up_to_one (is_last_of (is_own_by s.kind s.pending)) r (outcome_is_last (is_own_by s.kind s.pending) r is row));
    each = subst (EachAfter (IsDue s now (now + length added)) []) (sym says) ((refl, refl, quiet_due [], given), tt);
    appended = appends_none now mine others added none;
    fires = inl none;
    fired = λ told. inl no_commit_arms;
    moment = λ armed front back count node is at. absurd (omega (arith, armed, no_commit_arms));
  }

  -- the node goes down at the commit
  fails_back : (now : ℕ) (mine others : List Line) (added : List EntryLine) → EachAfter IsFirstIfBegin s.before mine → GoDownAtChanges s.basis s.view s.before mine → FailsThere s.basis.script now s.before s.session s.number s.kind s.pending mine added → IsPiece s now mine others added
  fails_back now mine others added firsts changes is = record {
    up_to = inl (ap (are_up_to (is_last_of own)) told_is ∙ up_to_last (is_last_of own) is.front is.told (open_front own is.front ready) (outcome_is_last own is.told (or_outcome (reply.Lost is.node count) is.told is.is_told refl) (or_row (reply.Lost is.node count) is.told is.is_told refl)));
    each = subst (EachAfter (IsDue s now (now + length added)) []) (sym says) (each_append (IsDue s now (now + length added)) [] (mine_of is.front) (line.Down count 1 true ∷ lost ∷ [])
        (lines_due now (now + length added) [] is.front is.kept is.majority timely) (falling, ((refl, refl, quiet_due (mine_of is.front ++ line.Down count 1 true ∷ []), inl losing), tt)));
    appended = appends_none now mine others added is.none;
    fires = inl is.none;
    fired = λ told. inl no_commit_arms;
    moment = λ armed front back count node is at. absurd (omega (arith, armed, no_commit_arms));
  }
    where
      own : Bool
      own = is_own_by s.kind s.pending

      count : ℕ
      count = downs s.before + 1

      lost : Line
      lost = line.Session s.session s.number is.told

      first : is.node ≡ 1
      first = only_one is.node is.of_script

      says : mine ≡ mine_of is.front ++ line.Down count 1 true ∷ lost ∷ []
      says = is.says ∙ ap (λ (k : ℕ). mine_of is.front ++ line.Down count k true ∷ mine_of (is.told ∷ [])) first

      ready : are_ready own is.front ≡ true
      ready = first_ready now own is.front is.first

      told_is : replies_in s.session mine ≡ is.front ++ is.told ∷ []
      told_is = ap (replies_in s.session) says ∙ ap (map (λ t. t.1)) (told_append s.session (mine_of is.front) (line.Down count 1 true ∷ lost ∷ [])) ∙ map_two (told s.session (mine_of is.front)) (told s.session (lost ∷ []))
          ∙ ap (λ (x : List Reply). x ++ replies_in s.session (lost ∷ [])) (told_lines s.session s.number is.front)
          ∙ ap (λ (x : List Reply). is.front ++ x) (told_lines s.session s.number (is.told ∷ []))

      up_there : is_up 1 s.before ≡ true
      up_there = ap (λ (k : ℕ). is_up k s.before) (sym first) ∙ is.was_up

      falls : FallsAtCommit s (mine_of is.front) true
      falls = record {
        at_commit = and_from (commits s.kind s.pending) (are_ready own (replies_in s.session (mine_of is.front))) is.at_commit (ap (are_ready own) (told_lines s.session s.number is.front) ∙ ready);
        uncut = is.uncut;
        kept = inl (loss_lines is.front ∙ is.kept);
        majority = same_few s.basis.script.nodes s.before s.session s.number is.front ∙ enough s.basis.script.nodes s.before one up_there;
        changes = changes (mine_of is.front) [] count 1 true s.session s.number is.told says;
        by = inl refl;
      }

      counted : count ≡ downs (s.before ++ mine_of is.front) + 1
      counted = let e : downs (s.before ++ mine_of is.front) ≡ downs s.before + downs (mine_of is.front) = downs_append s.before (mine_of is.front) in let f : downs (mine_of is.front) ≡ 0 = downs_of s.session s.number is.front in omega (arith, e, f)

      falling : IsDue s now (now + length added) (mine_of is.front) (line.Down count 1 true)
      falling = record { counted = counted; of_script = (omega arith, omega (arith, one)); was_up = same_up 1 s.before s.session s.number is.front ∙ up_there; cause = inl falls }

      losing : IsLostAt s (mine_of is.front ++ line.Down count 1 true ∷ []) is.told
      losing = record { down = count; is_lost = lost_behind is.front count falls; says = subst (λ (k : ℕ). IsOrMemory (reply.Lost k count) is.told) (first ∙ sym (node_at (mine_of is.front ++ line.Down count 1 true ∷ []))) is.is_told }

      timely : AllByRecursion (IsTimely now (now + length added)) is.front
      timely = front_timely now (now + length added) own s.session s.number s.before is.front is.first (each_front IsFirstIfBegin s.before (mine_of is.front) (line.Down count 1 true ∷ lost ∷ []) (subst (EachAfter IsFirstIfBegin s.before) says firsts))

  -- each of the four forms is a piece
  pub back_piece : (now : ℕ) (mine others : List Line) (added : List EntryLine) → EachAfter IsFirstIfBegin s.before mine → GoDownAtChanges s.basis s.view s.before mine → IsSaid s.basis.script now s.before s.session s.number s.kind s.pending mine added → IsPiece s now mine others added
  back_piece now mine others added firsts changes (inl is) = record {
    up_to = told_up is.turn.told;
    each = subst (EachAfter (IsDue s now (now + length added)) []) (sym is.says) (lines_due now (now + length added) [] is.replies is.kept is.majority is.turn.timely);
    appended = appends_is now mine others is.replies added is.says is.turn.appended;
    fires = inr (inl no_commit_arms);
    fired = λ told. inl no_commit_arms;
    moment = λ armed front back count node is at. absurd (omega (arith, armed, no_commit_arms));
  }
    where
      told_up : (are_up_to (is_last_of (is_own_by s.kind s.pending)) is.replies ≡ true) ⊎ ((is.replies ≡ []) × (was_cut s.before s.session s.number ≡ true)) →
          (are_up_to (is_last_of (is_own_by s.kind s.pending)) (replies_in s.session mine) ≡ true) ⊎ IsSkipped s mine
      told_up (inl up) = inl (ap (are_up_to (is_last_of (is_own_by s.kind s.pending))) (ap (replies_in s.session) is.says ∙ told_lines s.session s.number is.replies) ∙ up)
      told_up (inr (none, cut)) = inr (record { none = is.says ∙ ap mine_of none; cut = cut; majority = is.majority })
  back_piece now mine others added firsts changes (inr (inl is)) =
      alone_piece now mine others added is.told is.says is.none (or_outcome (reply.Lost (node_of s.basis.script s.session) is.down) is.told is.is_told refl) (or_row (reply.Lost (node_of s.basis.script s.session) is.down) is.told is.is_told refl)
      (inl (record { down = is.down; is_lost = loss_lines [] ∙ is.is_lost; says = subst (λ (k : ℕ). IsOrMemory (reply.Lost k is.down) is.told) (home ∙ sym (node_at [])) is.is_told }))
  back_piece now mine others added firsts changes (inr (inr (inl is))) =
      alone_piece now mine others added is.told is.says is.none (or_outcome (reply.NoMajority (up_count s.basis.script.nodes s.before) s.basis.script.nodes) is.told is.is_told refl) (or_row (reply.NoMajority (up_count s.basis.script.nodes s.before) s.basis.script.nodes) is.told is.is_told refl)
      (inr (inr (inl (record {
        kept = record { kept = loss_lines [] ∙ begins_none s.kind s.pending s.basis.script s.before s.session s.number (and_one (begins s.kind s.pending) _ is.lacks).0; unstopped = inr refl };
        lacks = inl (lacks_first ∙ is.lacks);
        says = subst (λ (ls : List Line). IsOrMemory (reply.NoMajority (up_count s.basis.script.nodes ls) s.basis.script.nodes) is.told) (sym (append-nil s.before)) is.is_told;
      }))))
  back_piece now mine others added firsts changes (inr (inr (inr is))) = fails_back now mine others added firsts changes is

-- Two pieces of a session's line behind the same lines are the same, where no arm of a commit waits and nothing fails, and append the
-- same.
use Rattle.std.proofs.Common.{◌≡◌, ℕ, zero, suc, ◌+◌, ◌-◌, ◌≤◌, List, [], ◌∷◌, ◌++◌, length, refl, sym, subst, ap, arith, ◌∙◌, Some, append_assoc, Bool, true, false, ◌⊎◌, inl, inr}
use Rattle.std.proofs.lemmas.Bool.{and_from, both_ways, false≢true, true≢false}
use Rattle.std.proofs.lemmas.List.{append-nil, length-append}
use Rattle.std.specs.List.{AllByRecursion}
use Rattle.cdb_values.specs.declared.replies.Reply.{Reply}
use Rattle.cdb_values.specs.declared.replies.Reply.TheVariants as reply
use Rattle.cdb_values.specs.Rows.{Rows}
use Rattle.cdb_values.specs.declared.rows.Level.{Level}
use Rattle.report_laws.specs.Cut.{cuts}
use Rattle.report_laws.specs.History.{Basis, IsCommitAfter, IsEntryAfter, alone_on, last_position, view_of}
use Rattle.report_laws.specs.Nodes.{is_up}
use Rattle.report_laws.specs.Play.{HasChanges, IsTimely, is_own_by, was_cut}
use Rattle.report_laws.specs.Told.{Along, told}
use Rattle.report_laws.specs.View.{View}
use Rattle.report_laws.specs.Work.{Does, Transaction, numbered_among, transaction_of, work}
use Rattle.report_laws.proofs.DecideLemmas.{IsOutcomes}
use Rattle.report_laws.proofs.EntryToldLaws.{told_stands}
use Rattle.report_laws.proofs.FrontLemmas.{rows_front}
use Rattle.report_laws.proofs.LawLemmas.{each_at}
use Rattle.report_laws.proofs.PieceLaws.{all_at, commit_is_last, under, under_append}
use Rattle.report_laws.proofs.RestLemmas.{lones}
use Rattle.report_text.specs.declared.reports.EntryLine.{EntryLine}
use Rattle.report_text.specs.declared.reports.EntryLine.TheVariants.{Commit}
use Rattle.report_text.specs.declared.reports.Line.{Line}
use Rattle.report_text.specs.declared.reports.Line.TheVariants as line
use Rattle.script_form.specs.declared.scripts.BodyLine.{BodyLine}
use Rattle.session_language.proofs.AllLaws.{all_behind, all_standing}
use Rattle.session_language.proofs.EachLaws.{all_append, all_front, all_map, stands_added, stands_more}
use Rattle.session_language.proofs.UpToLaws.{up_to_same}
use Rattle.session_language.specs.Answers.{Answers}
use Rattle.session_language.specs.Each.{EachAfter, StandsIn}
use Rattle.session_language.specs.Replies.{are_up_to, is_last_of}
use Rattle.node_reports.specs.Arms.{is_row_due, of_commit}
use Rattle.node_reports.specs.Order.{saying}
use Rattle.node_reports.specs.Piece.{Appends, FallsAt, IsDue, IsPiece, IsSkipped, IsUnacknowledged, Saying, StopsAtRow, commits_at, lacks_at, replies_in, site_at, wanes_at}
use Rattle.node_reports.specs.Told.{IsEntryHeard, IsHeard, IsToldAlong}
use Rattle.node_laws.specs.Unhurt.{IsUnhurtLine, is_wanting}
use Rattle.node_laws.proofs.Known.{BeginUpTo, IsAcknowledged, Known, acknowledged_more, begin_of, begin_told, known_more}
use Rattle.node_laws.proofs.Next.{IsQuiet, begin_first, cut_is_last, head_begin}
use Rattle.node_laws.proofs.Reply.{HasNoFall, IsAnswer, IsMissing, IsOneOf, Telling, no_changes, none_zero, not_some, one_of, same_answer, same_some}
use Rattle.node_laws.proofs.RowStops.{no_master, none_at_commit, none_at_end, row_due, stop_in, Piece}
use Rattle.node_laws.proofs.Split.{no_longer, none_left}
use Rattle.node_laws.proofs.Under.{IsIts, IsOf, cut_stands, line_of, lones_uncut, replies_are, told_outside, told_under, under_at, under_stands, work_rises}

-- what a report says, of which these are the lines and the entries
pub record Whole (basis : Basis) (lines : List Line) (entries : List EntryLine) : Type 0 where
  pub replies : (name : List ℕ) → Along (IsToldAlong basis (view_of basis entries) name) (work basis.language name basis.script.body) (told name lines)
  pub history : EachAfter (IsEntryAfter basis) [] entries
  pub answered : AllByRecursion (IsHeard basis (view_of basis entries) lines) entries
  pub unhurt : AllByRecursion IsUnhurtLine lines

-- in a piece are lines of its session, and stops

of_session : (s : Saying) (now after : ℕ) (front mine : List Line) → EachAfter (IsDue s now after) front mine → AllByRecursion (IsOf s.session s.number) mine
of_session s now after front [] each = tt
of_session s now after front (line.Session name txn r ∷ ls) each = ((each.0.0, each.0.1), of_session s now after (front ++ line.Session name txn r ∷ []) ls each.1)
of_session s now after front (line.Down count node fault ∷ ls) each = (tt, of_session s now after (front ++ line.Down count node fault ∷ []) ls each.1)
of_session s now after front (line.Up node ∷ ls) each = absurd each.0
of_session s now after front (line.Barrier ∷ ls) each = absurd each.0
of_session s now after front (line.Fed position ∷ ls) each = absurd each.0

-- where an entry is appended it is told
appended_told : (s : Saying) (now after : ℕ) (mine others : List Line) (e : EntryLine) (es : List EntryLine) → Piece s now after mine → Appends s now mine others (e ∷ es) → StandsIn (replies_in s.session mine) (reply.Committed (now + 1))
appended_told s now after mine others e es piece is = go is.4
  where
    go : StandsIn (replies_in s.session mine) (reply.Committed (now + 1)) ⊎ IsUnacknowledged s mine others → StandsIn (replies_in s.session mine) (reply.Committed (now + 1))
    go (inl stands) = stands
    go (inr un) = absurd (none_at_commit s now after mine piece un.fell)

-- the entries of a piece are those of its last reply
outcomes_of : (s : Saying) (now after : ℕ) (u : List Reply) (r : Reply) (mine others : List Line) (added : List EntryLine) → Piece s now after mine → Appends s now mine others added → AllByRecursion IsQuiet u →
    ((q : Reply) → StandsIn (under s.session s.number mine) q → StandsIn (u ++ r ∷ []) q) → IsOutcomes now s.session s.number r added
outcomes_of s now after u r mine others [] piece is quiet among = inl refl
outcomes_of s now after u r mine others (e ∷ es) piece is quiet among =
    inr (
      is.1,
      is.2,
      ap (λ (rest : List EntryLine). e ∷ rest) is.0 ∙ ap (λ (d : EntryLine). d ∷ []) is.3,
      commit_is_last u r (now + 1) quiet (among (reply.Committed (now + 1)) (subst (λ (rs : List Reply). StandsIn rs (reply.Committed (now + 1))) (replies_are s.session s.number mine piece.of_it) (appended_told s now after mine others e es piece is))),
    )

module _ (basis : Basis) (answers : Answers basis.language) (done : List BodyLine) (before : List Line) (history : List EntryLine) (session text : List ℕ) (known : Known basis.origin before history) where
  abbrev now : ℕ
  now = last_position basis.origin history

  -- the line as two reports say it: they may see other histories
  abbrev as_said : View → Saying
  as_said view = saying basis view done before session text

  abbrev number : ℕ
  number = (as_said (view_of basis history)).number

  -- one of the two reports
  record Side (mine others : List Line) (added later : List EntryLine) : Type 0 where
    whole : Whole basis (before ++ (mine ++ others)) (history ++ (added ++ later))
    piece : Piece (as_said (view_of basis (history ++ (added ++ later)))) now (now + length added) mine
    appended : Appends (as_said (view_of basis (history ++ (added ++ later)))) now mine others added

  side_of : (mine others : List Line) (added later : List EntryLine) → Whole basis (before ++ (mine ++ others)) (history ++ (added ++ later)) → of_commit (as_said (view_of basis history)).arms ≡ 0 → IsPiece (as_said (view_of basis (history ++ (added ++ later)))) now mine others added → Side mine others added later
  side_of mine others added later whole bare piece = record {
    whole = whole;
    piece = record { bare = bare; of_it = of_session (as_said (view_of basis (history ++ (added ++ later)))) now (now + length added) [] mine piece.each; unhurt = unhurt; each = piece.each };
    appended = piece.appended;
  }
    where
      unhurt : AllByRecursion IsUnhurtLine mine
      unhurt = all_front IsUnhurtLine mine others (all_behind IsUnhurtLine before (mine ++ others) whole.unhurt)

  -- a reply of the piece
  telling_of : (mine others : List Line) (added later : List EntryLine) (front rest : List Line) (r : Reply) → mine ≡ front ++ line.Session session number r ∷ rest → Side mine others added later →
      Telling basis history session number now (under session number (before ++ front)) r added later
  telling_of mine others added later front rest r is side = record {
    lines = before ++ (mine ++ others);
    tail = under session number (rest ++ others);
    told_there = there;
    replies = side.whole.replies session;
    outcomes = λ none quiet. outcomes_of (as_said (view_of basis (history ++ (added ++ later)))) now (now + length added) (under session number (before ++ front)) r mine others added side.piece side.appended quiet (among none);
  }
    where
      split : before ++ (mine ++ others) ≡ (before ++ front) ++ line.Session session number r ∷ (rest ++ others)
      split = ap (λ (ls : List Line). before ++ (ls ++ others)) is ∙ ap (λ (ls : List Line). before ++ ls) (append_assoc front (line.Session session number r ∷ rest) others) ∙ sym (append_assoc before front (line.Session session number r ∷ (rest ++ others)))

      there : under session number (before ++ (mine ++ others)) ≡ under session number (before ++ front) ++ r ∷ under session number (rest ++ others)
      there = ap (under session number) split ∙ under_at session number r (before ++ front) (rest ++ others)

      among : under session number (rest ++ others) ≡ [] → (q : Reply) → StandsIn (under session number mine) q → StandsIn (under session number (before ++ front) ++ r ∷ []) q
      among none q stands =
          subst (λ (rs : List Reply). StandsIn rs q) (there ∙ ap (λ (rs : List Reply). under session number (before ++ front) ++ r ∷ rs) none)
          (subst (λ (rs : List Reply). StandsIn rs q) (sym (under_append session number before (mine ++ others) ∙ ap (λ (rs : List Reply). under session number before ++ rs) (under_append session number mine others)))
          (stands_added (under session number before) (under session number mine ++ under session number others) q (stands_more (under session number mine) (under session number others) q stands)))

  -- begins of lines that are given are at most the last position
  given_begin : (s : Saying) (after : ℕ) (front : List Line) (r : Reply) → IsOneOf s now after front r → begin_of r ≤ now
  given_begin s after front r (inl (down, lost, says)) = let none : begin_of r ≡ 0 = ap begin_of says in omega (arith, none)
  given_begin s after front r (inr (inl is)) = let none : begin_of r ≡ 0 = ap begin_of is.says in omega (arith, none)
  given_begin s after front r (inr (inr is)) = go r is.timely
    where
      go : (q : Reply) → IsTimely now after q → begin_of q ≤ now
      go (reply.Begin position) is = let same : position ≡ now = is in omega (arith, same)
      go (reply.Row row) is = omega arith
      go (reply.Done rows) is = omega arith
      go (reply.Changed rows) is = omega arith
      go (reply.Error cause) is = omega arith
      go (reply.Level level) is = omega arith
      go reply.RolledBack is = omega arith
      go (reply.Committed position) is = omega arith
      go (reply.ConflictGenid position table genid) is = omega arith
      go (reply.ConflictRange position table key) is = omega arith
      go (reply.Duplicate position table key) is = omega arith
      go (reply.Lost node down) is = omega arith
      go (reply.NoMajority up nodes) is = omega arith
      go reply.NoMemory is = omega arith

  module _ (mine others : List Line) (added later : List EntryLine) (side : Side mine others added later) where
    abbrev its_view : View
    its_view = view_of basis (history ++ (added ++ later))

    -- what stands in the piece is told there
    one_at : (front rest : List Line) (r : Reply) → mine ≡ front ++ line.Session session number r ∷ rest → is_wanting r ≡ false → IsOneOf (as_said its_view) now (now + length added) front r
    one_at front rest r is unhurt =
        one_of (as_said its_view) now (now + length added) front r none unhurt
        (each_at (IsDue (as_said its_view) now (now + length added)) [] front (line.Session session number r) rest (subst (EachAfter (IsDue (as_said its_view) now (now + length added)) []) is side.piece.each)).3
      where
        none : HasNoFall (as_said its_view) front
        none stays there down node true (f0, f1, at) =
            true≢false (all_standing IsUnhurtLine f0 (f1 ++ line.Session session number r ∷ rest) (line.Down down node true)
            (subst (AllByRecursion IsUnhurtLine) (is ∙ ap (λ (ls : List Line). ls ++ line.Session session number r ∷ rest) at ∙ append_assoc f0 (line.Down down node true ∷ f1) (line.Session session number r ∷ rest)) side.piece.unhurt))
        none stays there down node false (f0, f1, at) =
            no_master (as_said its_view) now (now + length added) mine f0 down node side.piece stays f1 (line.Session session number r ∷ rest)
            (is ∙ ap (λ (ls : List Line). ls ++ line.Session session number r ∷ rest) at ∙ append_assoc f0 (line.Down down node false ∷ f1) (line.Session session number r ∷ rest))
            (subst (λ (ls : List Line). commits_at (as_said its_view) ls ≡ true) at there)

    begins_in : (front rest : List Line) → mine ≡ front ++ rest → AllByRecursion (IsOf session number) rest → AllByRecursion IsUnhurtLine rest → BeginUpTo now rest
    begins_in front [] is all unhurt = tt
    begins_in front (line.Session name txn r ∷ ls) is all unhurt =
        (given_begin (as_said its_view) (now + length added) front r (one_at front ls r (is ∙ ap (λ (l : Line). front ++ l ∷ ls) its) unhurt.0), begins_in (front ++ line.Session name txn r ∷ []) ls (is ∙ sym (append_assoc front (line.Session name txn r ∷ []) ls)) all.1 unhurt.1)
      where
        its : line.Session name txn r ≡ line.Session session number r
        its = ap (λ (s : List ℕ). line.Session s txn r) all.0.0 ∙ ap (λ (k : ℕ). line.Session session k r) all.0.1
    begins_in front (line.Down count node fault ∷ ls) is all unhurt = (omega arith, begins_in (front ++ line.Down count node fault ∷ []) ls (is ∙ sym (append_assoc front (line.Down count node fault ∷ []) ls)) all.1 unhurt.1)
    begins_in front (line.Up node ∷ ls) is all unhurt = absurd all.0
    begins_in front (line.Barrier ∷ ls) is all unhurt = absurd all.0
    begins_in front (line.Fed position ∷ ls) is all unhurt = absurd all.0

    commit_line : (e : EntryLine) (es : List EntryLine) → added ≡ e ∷ es → StandsIn mine (line.Session session number (reply.Committed (now + 1)))
    commit_line e es is = line_of session number (reply.Committed (now + 1)) mine side.piece.of_it (appended_told (as_said its_view) now (now + length added) mine others e es side.piece (subst (Appends (as_said its_view) now mine others) is side.appended))

    -- what is known goes on
    known_next : Known basis.origin (before ++ mine) (history ++ added)
    known_next = known_more basis.origin before mine history added known (all_map (λ (l : Line). begin_told l ≤ now) (λ (l : Line). begin_told l ≤ last_position basis.origin (history ++ added)) grows mine (begins_in [] mine refl side.piece.of_it side.piece.unhurt)) (acked added refl side.appended)
      where
        grows : (l : Line) → begin_told l ≤ now → begin_told l ≤ last_position basis.origin (history ++ added)
        grows l is = omega (arith, is, length-append history added)

        acked : (es : List EntryLine) → added ≡ es → Appends (as_said its_view) now mine others es → AllByRecursion (IsAcknowledged (before ++ mine)) es
        acked [] is appended = tt
        acked (e ∷ es) is appended =
            (subst (IsAcknowledged (before ++ mine)) (sym appended.3) (stands_added before mine _ (commit_line e es is)), subst (AllByRecursion (IsAcknowledged (before ++ mine))) (sym appended.0) tt)

    -- where its transaction was cut short before, nothing is told
    skipped : was_cut before session number ≡ true → mine ≡ []
    skipped cut = go mine refl side.piece.of_it
      where
        c : (c : Reply) × (cuts c ≡ true) × StandsIn before (line.Session session number c)
        c = cut_stands session number before cut

        told_so : StandsIn (under session number before) c.0
        told_so = under_stands session number c.0 before c.2

        at : (r : Reply) (rest : List Line) → mine ≡ line.Session session number r ∷ rest → ⊥
        at r rest is = by number refl
          where
            t : Telling basis history session number now (under session number (before ++ [])) r added later
            t = telling_of mine others added later [] rest r is side

            split : under session number t.lines ≡ told_so.0 ++ c.0 ∷ (told_so.1 ++ r ∷ t.tail)
            split = t.told_there ∙ ap (λ (ls : List Line). under session number ls ++ r ∷ t.tail) (append-nil before) ∙ ap (λ (rs : List Reply). rs ++ r ∷ t.tail) told_so.2 ∙ append_assoc told_so.0 (c.0 ∷ told_so.1) (r ∷ t.tail)

            by : (n : ℕ) → number ≡ n → ⊥
            by zero is_zero =
                true≢false (sym c.1 ∙ all_at (λ (q : Reply). cuts q ≡ false) (lones (work basis.language session basis.script.body)) c.0 (lones_uncut basis.language session basis.script.body)
                (told_so.0, told_so.1 ++ r ∷ t.tail, sym (told_outside basis.language session basis.script.body (IsToldAlong basis its_view session) t.lines (λ answer mine told. told) t.replies) ∙ ap (λ (n : ℕ). under session n t.lines) (sym is_zero) ∙ split))
            by (suc n) is_more = its (told_under basis.language session basis.script.body (IsToldAlong basis its_view session) t.lines number (omega (arith, is_more)) t.replies)
              where
                its : (under session number t.lines ≡ []) ⊎ IsIts (IsToldAlong basis its_view session) (work basis.language session basis.script.body) number (under session number t.lines) → ⊥
                its (inl none) = none_left c.0 told_so.0 (told_so.1 ++ r ∷ t.tail) (sym none ∙ split)
                its (inr is) = none_left r told_so.1 t.tail (sym (cut_is_last basis (history ++ (added ++ later)) session is.transaction answers told_so.0 c.0 (told_so.1 ++ r ∷ t.tail) c.1 (subst (IsToldAlong basis its_view session (Does is.transaction)) split is.told)))

        go : (ls : List Line) → mine ≡ ls → AllByRecursion (IsOf session number) ls → mine ≡ []
        go [] is all = is
        go (line.Session name txn r ∷ ls) is all = absurd (at r ls (is ∙ ap (λ (s : List ℕ). line.Session s txn r ∷ ls) all.0.0 ∙ ap (λ (k : ℕ). line.Session session k r ∷ ls) all.0.1))
        go (line.Down count node fault ∷ ls) is all = absurd (false≢true (row_due (as_said its_view) [] node fault (stop_in (as_said its_view) now (now + length added) mine [] ls count node fault side.piece is)))
        go (line.Up node ∷ ls) is all = absurd all.0
        go (line.Barrier ∷ ls) is all = absurd all.0
        go (line.Fed position ∷ ls) is all = absurd all.0

    -- the entry that is appended begins where its transaction was told to begin, and has its level
    record IsItsEntry (e : EntryLine) : Type 0 where
      begin : ℕ
      level : Level
      says : e ≡ Commit (now + 1) session number begin level
      begun : head_begin (under session number (before ++ mine)) ≡ begin
      transaction : Transaction
      is_its : transaction_of basis.language session number basis.script.body ≡ Some transaction
      is_level : level ≡ transaction.level

    its_entry : (e : EntryLine) (es : List EntryLine) → added ≡ e ∷ es → IsItsEntry e
    its_entry e es is = record { begin = begin; level = level; says = says; begun = begun; transaction = after.transaction; is_its = after.is_its; is_level = after.is_level }
      where
        appended : Appends (as_said its_view) now mine others (e ∷ es)
        appended = subst (Appends (as_said its_view) now mine others) is side.appended

        begin : ℕ
        begin = appended.1

        level : Level
        level = appended.2

        says : e ≡ Commit (now + 1) session number begin level
        says = appended.3

        entries : history ++ (added ++ later) ≡ history ++ Commit (now + 1) session number begin level ∷ (es ++ later)
        entries = ap (λ (xs : List EntryLine). history ++ (xs ++ later)) is ∙ ap (λ (d : EntryLine). history ++ d ∷ (es ++ later)) says

        after : IsCommitAfter basis (view_of basis history) (now + 1) session number begin level
        after = each_at (IsEntryAfter basis) [] history (Commit (now + 1) session number begin level) (es ++ later) (subst (EachAfter (IsEntryAfter basis) []) entries side.whole.history)

        heard : IsEntryHeard basis its_view (before ++ (mine ++ others)) (now + 1) session number begin
        heard = all_standing (IsHeard basis its_view (before ++ (mine ++ others))) history (es ++ later) (Commit (now + 1) session number begin level) (subst (AllByRecursion (IsHeard basis its_view (before ++ (mine ++ others)))) entries side.whole.answered)

        begin_told_there : StandsIn (under session number (before ++ (mine ++ others))) (reply.Begin begin)
        begin_told_there = under_stands session number (reply.Begin begin) (before ++ (mine ++ others)) (told_stands session number (reply.Begin begin) (before ++ (mine ++ others)) (heard.before, _, heard.says))

        some : StandsIn (under session number (before ++ mine)) (reply.Committed (now + 1))
        some = under_stands session number (reply.Committed (now + 1)) (before ++ mine) (stands_added before mine _ (commit_line e es is))

        split : under session number (before ++ (mine ++ others)) ≡ under session number (before ++ mine) ++ under session number others
        split = ap (under session number) (sym (append_assoc before mine others)) ∙ under_append session number (before ++ mine) others

        first_of : (xs ys : List Reply) (q : Reply) → StandsIn xs q → head_begin (xs ++ ys) ≡ head_begin xs
        first_of [] ys q ([], back, e) = absurd (let no_such : [] ≡ q ∷ back = e in cc)
        first_of [] ys q (x ∷ front, back, e) = absurd (let no_such : [] ≡ x ∷ (front ++ q ∷ back) = e in cc)
        first_of (x ∷ xs) ys q stands = refl

        begun : head_begin (under session number (before ++ mine)) ≡ begin
        begun = sym (first_of (under session number (before ++ mine)) (under session number others) (reply.Committed (now + 1)) some) ∙ ap head_begin (sym split) ∙ by number refl
          where
            by : (n : ℕ) → number ≡ n → head_begin (under session number (before ++ (mine ++ others))) ≡ begin
            by zero is_zero = absurd (none_zero (work basis.language session basis.script.body) 1 after.transaction (omega arith) (work_rises basis.language session basis.script.body) (ap (λ (n : ℕ). numbered_among n (work basis.language session basis.script.body)) (sym is_zero) ∙ after.is_its))
            by (suc n) is_more = its (told_under basis.language session basis.script.body (IsToldAlong basis its_view session) (before ++ (mine ++ others)) number (omega (arith, is_more)) (side.whole.replies session))
              where
                its : (under session number (before ++ (mine ++ others)) ≡ []) ⊎ IsIts (IsToldAlong basis its_view session) (work basis.language session basis.script.body) number (under session number (before ++ (mine ++ others))) → head_begin (under session number (before ++ (mine ++ others))) ≡ begin
                its (inl none) = absurd (none_left (reply.Begin begin) begin_told_there.0 begin_told_there.1 (sym none ∙ begin_told_there.2))
                its (inr is) = begin_first basis (history ++ (added ++ later)) session is.transaction answers (under session number (before ++ (mine ++ others))) begin is.told begin_told_there

  -- two of them

  module _ (mine mine' others others' : List Line) (added added' later later' : List EntryLine) (side : Side mine others added later) (side' : Side mine' others' added' later') where
    abbrev one_view : View
    one_view = view_of basis (history ++ (added ++ later))

    abbrev other_view : View
    other_view = view_of basis (history ++ (added' ++ later'))

    same_down : (d d' : ℕ) → Some d ≡ Some d' → d ≡ d'
    same_down d d' is = cc

    same_reply : (front rest rest' : List Line) (r q : Reply) → mine ≡ front ++ line.Session session number r ∷ rest → mine' ≡ front ++ line.Session session number q ∷ rest' → BeginUpTo now front →
        IsOneOf (as_said one_view) now (now + length added) front r → IsOneOf (as_said other_view) now (now + length added') front q → r ≡ q
    same_reply front rest rest' r q is is' begins one other = go one other
      where
        all_begins : BeginUpTo now (before ++ front)
        all_begins = all_append (λ (l : Line). begin_told l ≤ now) before front known.begins begins

        told_so : AllByRecursion (IsAcknowledged (before ++ front)) history
        told_so = all_map (IsAcknowledged before) (IsAcknowledged (before ++ front)) (acknowledged_more before front) history known.told

        t : Telling basis history session number now (under session number (before ++ front)) r added later
        t = telling_of mine others added later front rest r is side

        t' : Telling basis history session number now (under session number (before ++ front)) q added' later'
        t' = telling_of mine' others' added' later' front rest' q is' side'

        missing : IsMissing (as_said one_view) front r → IsAnswer (as_said other_view) now (now + length added') front q → ⊥
        missing m a = by m.lacks
          where
            by : (lacks_at (as_said one_view) front ≡ true) ⊎ ((wanes_at (as_said one_view) front ≡ true) × HasChanges basis one_view (before ++ front) session number) → ⊥
            by (inl e) = both_ways _ a.majority e
            by (inr (w, changes)) =
                let unsent = a.unsent w in
                no_changes basis answers history session number (before ++ front) all_begins told_so (now + length added') unsent.1.0 added' later' one_view
                (subst (λ (p : Reply). Telling basis history session number now (under session number (before ++ front)) p added' later') unsent.1.1 t')
                (subst (IsTimely now (now + length added')) unsent.1.1 a.timely) refl unsent.0
                (λ t begin le. ap (λ (rows : Rows). alone_on basis rows t.texts) (rows_front basis history (added ++ later) begin le)) changes

        missing' : IsMissing (as_said other_view) front q → IsAnswer (as_said one_view) now (now + length added) front r → ⊥
        missing' m a = by m.lacks
          where
            by : (lacks_at (as_said other_view) front ≡ true) ⊎ ((wanes_at (as_said other_view) front ≡ true) × HasChanges basis other_view (before ++ front) session number) → ⊥
            by (inl e) = both_ways _ a.majority e
            by (inr (w, changes)) =
                let unsent = a.unsent w in
                no_changes basis answers history session number (before ++ front) all_begins told_so (now + length added) unsent.1.0 added later other_view
                (subst (λ (p : Reply). Telling basis history session number now (under session number (before ++ front)) p added later) unsent.1.1 t)
                (subst (IsTimely now (now + length added)) unsent.1.1 a.timely) refl unsent.0
                (λ t begin le. ap (λ (rows : Rows). alone_on basis rows t.texts) (rows_front basis history (added' ++ later') begin le)) changes

        go : IsOneOf (as_said one_view) now (now + length added) front r → IsOneOf (as_said other_view) now (now + length added') front q → r ≡ q
        go (inl (d, lost, says)) (inl (d', lost', says')) = says ∙ ap (λ (k : ℕ). reply.Lost (site_at (as_said one_view) front).node k) (same_down d d' (sym lost ∙ lost')) ∙ sym says'
        go (inl (d, lost, says)) (inr (inl m)) = absurd (not_some d (sym lost ∙ m.kept))
        go (inl (d, lost, says)) (inr (inr a)) = absurd (not_some d (sym lost ∙ a.kept))
        go (inr (inl m)) (inl (d, lost, says)) = absurd (not_some d (sym lost ∙ m.kept))
        go (inr (inl m)) (inr (inl m')) = m.says ∙ sym m'.says
        go (inr (inl m)) (inr (inr a)) = absurd (missing m a)
        go (inr (inr a)) (inl (d, lost, says)) = absurd (not_some d (sym lost ∙ a.kept))
        go (inr (inr a)) (inr (inl m)) = absurd (missing' m a)
        go (inr (inr a)) (inr (inr b)) =
            same_answer basis answers history session number (before ++ front) all_begins told_so (now + length added) (now + length added') r q added later added' later' t t' a.timely a.uncut refl b.timely b.uncut refl

    -- one of them is not longer than the other
    abbrev up : Reply → Bool
    up = is_last_of (is_own_by (as_said one_view).kind (as_said one_view).pending)

    no_more : (view : View) (after : ℕ) (front rest : List Line) (xs ys : List Line) (l : Line) → AllByRecursion (IsOf session number) xs → Piece (as_said view) now after ys → are_up_to up (replies_in session xs) ≡ true → are_up_to up (replies_in session ys) ≡ true → xs ≡ front ++ [] → ys ≡ front ++ l ∷ rest → ⊥
    no_more view after front rest xs ys l all piece ends ends' is is' = go l (all_standing (IsOf session number) front rest l (subst (AllByRecursion (IsOf session number)) is' piece.of_it)) is'
      where
        go : (x : Line) → IsOf session number x → ys ≡ front ++ x ∷ rest → ⊥
        go (line.Session name txn q) (same, number_is) at =
            no_longer (under session number front) q (under session number rest) (sym (replies_are session number xs all ∙ ap (under session number) (is ∙ append-nil front)) ∙ equal ∙ there)
          where
            there : replies_in session ys ≡ under session number front ++ q ∷ under session number rest
            there = replies_are session number ys piece.of_it ∙ ap (under session number) at ∙ ap (λ (s : List ℕ). under session number (front ++ line.Session s txn q ∷ rest)) same ∙ ap (λ (k : ℕ). under session number (front ++ line.Session session k q ∷ rest)) number_is ∙ under_at session number q front rest

            equal : replies_in session xs ≡ replies_in session ys
            equal = up_to_same up (replies_in session xs) (replies_in session ys) (q ∷ under session number rest) [] ends ends'
                (ap (λ (rs : List Reply). rs ++ q ∷ under session number rest) (replies_are session number xs all ∙ ap (under session number) (is ∙ append-nil front)) ∙ sym there ∙ sym (append-nil (replies_in session ys)))
        go (line.Down count node fault) its at =
            none_at_end (as_said view) now after ys front rest count node fault (is_own_by (as_said one_view).kind (as_said one_view).pending) piece at
            (subst (λ (ls : List Line). are_up_to up (replies_in session ls) ≡ true) (is ∙ append-nil front) ends)
        go (line.Up node) its at = absurd its
        go line.Barrier its at = absurd its
        go (line.Fed position) its at = absurd its

    -- no line is told where a node is to be stopped
    not_both : (view view' : View) (after after' : ℕ) (front rest rest' xs ys : List Line) (name : List ℕ) (txn : ℕ) (r : Reply) (count node : ℕ) (fault : Bool) → Piece (as_said view) now after xs → Piece (as_said view') now after' ys → xs ≡ front ++ line.Session name txn r ∷ rest →
        ys ≡ front ++ line.Down count node fault ∷ rest' → ⊥
    not_both view view' after after' front rest rest' xs ys name txn r count node fault piece piece' is is' =
        both_ways _ (each_at (IsDue (as_said view) now after) [] front (line.Session name txn r) rest (subst (EachAfter (IsDue (as_said view) now after) []) is piece.each)).2
        (and_from (is_row_due (as_said view).arms session front) (is_up (site_at (as_said view) front).node (before ++ front)) stop.due
        (ap (λ (k : ℕ). is_up k (before ++ front)) (sym stop.its) ∙ falls.was_up))
      where
        stop : StopsAtRow (as_said view') front node fault
        stop = stop_in (as_said view') now after' ys front rest' count node fault piece' is'

        falls : FallsAt (as_said view') front count node fault
        falls = each_at (IsDue (as_said view') now after') [] front (line.Down count node fault) rest' (subst (EachAfter (IsDue (as_said view') now after') []) is' piece'.each)

    same_rest : are_up_to up (replies_in session mine) ≡ true → are_up_to up (replies_in session mine') ≡ true → (front rest rest' : List Line) → mine ≡ front ++ rest → mine' ≡ front ++ rest' → BeginUpTo now front →
        AllByRecursion (IsOf session number) rest → AllByRecursion (IsOf session number) rest' → AllByRecursion IsUnhurtLine rest → AllByRecursion IsUnhurtLine rest' → rest ≡ rest'
    same_rest ends ends' front [] [] is is' begins all all' unhurt unhurt' = refl
    same_rest ends ends' front [] (l ∷ ls) is is' begins all all' unhurt unhurt' = absurd (no_more other_view (now + length added') front ls mine mine' l side.piece.of_it side'.piece ends ends' is is')
    same_rest ends ends' front (l ∷ ls) [] is is' begins all all' unhurt unhurt' = absurd (no_more one_view (now + length added) front ls mine' mine l side'.piece.of_it side.piece ends' ends is' is)
    same_rest ends ends' front (line.Session name txn r ∷ ls) (line.Session name' txn' q ∷ ls') is is' begins all all' unhurt unhurt' =
        ap (λ (x : Line). x ∷ ls) same ∙ ap (λ (xs : List Line). line.Session name' txn' q ∷ xs) (same_rest ends ends' (front ++ line.Session name txn r ∷ []) ls ls' (is ∙ sym (append_assoc front (line.Session name txn r ∷ []) ls)) (is' ∙ ap (λ (x : Line). front ++ x ∷ ls') (sym same) ∙ sym (append_assoc front (line.Session name txn r ∷ []) ls'))
        (all_append (λ (x : Line). begin_told x ≤ now) front (line.Session name txn r ∷ []) begins (given_begin (as_said one_view) (now + length added) front r one, tt)) all.1 all'.1 unhurt.1 unhurt'.1)
      where
        its : line.Session name txn r ≡ line.Session session number r
        its = ap (λ (s : List ℕ). line.Session s txn r) all.0.0 ∙ ap (λ (k : ℕ). line.Session session k r) all.0.1

        its' : line.Session name' txn' q ≡ line.Session session number q
        its' = ap (λ (s : List ℕ). line.Session s txn' q) all'.0.0 ∙ ap (λ (k : ℕ). line.Session session k q) all'.0.1

        at : mine ≡ front ++ line.Session session number r ∷ ls
        at = is ∙ ap (λ (x : Line). front ++ x ∷ ls) its

        at' : mine' ≡ front ++ line.Session session number q ∷ ls'
        at' = is' ∙ ap (λ (x : Line). front ++ x ∷ ls') its'

        one : IsOneOf (as_said one_view) now (now + length added) front r
        one = one_at mine others added later side front ls r at unhurt.0

        other : IsOneOf (as_said other_view) now (now + length added') front q
        other = one_at mine' others' added' later' side' front ls' q at' unhurt'.0

        same : line.Session name txn r ≡ line.Session name' txn' q
        same = its ∙ ap (λ (p : Reply). line.Session session number p) (same_reply front ls ls' r q at at' begins one other) ∙ sym its'
    same_rest ends ends' front (line.Session name txn r ∷ ls) (line.Down count node fault ∷ ls') is is' begins all all' unhurt unhurt' = absurd (not_both one_view other_view (now + length added) (now + length added') front ls ls' mine mine' name txn r count node fault side.piece side'.piece is is')
    same_rest ends ends' front (line.Session name txn r ∷ ls) (line.Up node ∷ ls') is is' begins all all' unhurt unhurt' = absurd all'.0
    same_rest ends ends' front (line.Session name txn r ∷ ls) (line.Barrier ∷ ls') is is' begins all all' unhurt unhurt' = absurd all'.0
    same_rest ends ends' front (line.Session name txn r ∷ ls) (line.Fed position ∷ ls') is is' begins all all' unhurt unhurt' = absurd all'.0
    same_rest ends ends' front (line.Down count node fault ∷ ls) (line.Session name txn r ∷ ls') is is' begins all all' unhurt unhurt' = absurd (not_both other_view one_view (now + length added') (now + length added) front ls' ls mine' mine name txn r count node fault side'.piece side.piece is' is)
    same_rest ends ends' front (line.Down count node fault ∷ ls) (line.Down again other fault' ∷ ls') is is' begins all all' unhurt unhurt' =
        ap (λ (x : Line). x ∷ ls) same ∙ ap (λ (xs : List Line). line.Down again other fault' ∷ xs) (same_rest ends ends' (front ++ line.Down count node fault ∷ []) ls ls' (is ∙ sym (append_assoc front (line.Down count node fault ∷ []) ls)) (is' ∙ ap (λ (x : Line). front ++ x ∷ ls') (sym same) ∙ sym (append_assoc front (line.Down count node fault ∷ []) ls'))
        (all_append (λ (x : Line). begin_told x ≤ now) front (line.Down count node fault ∷ []) begins (omega arith, tt)) all.1 all'.1 unhurt.1 unhurt'.1)
      where
        falls : FallsAt (as_said one_view) front count node fault
        falls = each_at (IsDue (as_said one_view) now (now + length added)) [] front (line.Down count node fault) ls (subst (EachAfter (IsDue (as_said one_view) now (now + length added)) []) is side.piece.each)

        falls' : FallsAt (as_said other_view) front again other fault'
        falls' = each_at (IsDue (as_said other_view) now (now + length added')) [] front (line.Down again other fault') ls' (subst (EachAfter (IsDue (as_said other_view) now (now + length added')) []) is' side'.piece.each)

        stop : StopsAtRow (as_said one_view) front node fault
        stop = stop_in (as_said one_view) now (now + length added) mine front ls count node fault side.piece is

        stop' : StopsAtRow (as_said other_view) front other fault'
        stop' = stop_in (as_said other_view) now (now + length added') mine' front ls' again other fault' side'.piece is'

        same : line.Down count node fault ≡ line.Down again other fault'
        same = ap (λ (k : ℕ). line.Down k node fault) (falls.counted ∙ sym falls'.counted) ∙ ap (λ (k : ℕ). line.Down again k fault) (stop.its ∙ sym stop'.its) ∙ ap (λ (b : Bool). line.Down again other b) (stop.stopped ∙ sym stop'.stopped)
    same_rest ends ends' front (line.Down count node fault ∷ ls) (line.Up other ∷ ls') is is' begins all all' unhurt unhurt' = absurd all'.0
    same_rest ends ends' front (line.Down count node fault ∷ ls) (line.Barrier ∷ ls') is is' begins all all' unhurt unhurt' = absurd all'.0
    same_rest ends ends' front (line.Down count node fault ∷ ls) (line.Fed position ∷ ls') is is' begins all all' unhurt unhurt' = absurd all'.0
    same_rest ends ends' front (line.Up node ∷ ls) (l ∷ ls') is is' begins all all' unhurt unhurt' = absurd all.0
    same_rest ends ends' front (line.Barrier ∷ ls) (l ∷ ls') is is' begins all all' unhurt unhurt' = absurd all.0
    same_rest ends ends' front (line.Fed position ∷ ls) (l ∷ ls') is is' begins all all' unhurt unhurt' = absurd all.0

    same_mine : (up_to : (are_up_to up (replies_in session mine) ≡ true) ⊎ IsSkipped (as_said one_view) mine) (up_to' : (are_up_to up (replies_in session mine') ≡ true) ⊎ IsSkipped (as_said other_view) mine') → mine ≡ mine'
    same_mine up_to up_to' = go (was_cut before session number) refl
      where
        ends : (view : View) (xs : List Line) → was_cut before session number ≡ false → (are_up_to up (replies_in session xs) ≡ true) ⊎ IsSkipped (as_said view) xs → are_up_to up (replies_in session xs) ≡ true
        ends view xs uncut (inl e) = e
        ends view xs uncut (inr skip) = absurd (both_ways _ uncut skip.cut)

        go : (b : Bool) → was_cut before session number ≡ b → mine ≡ mine'
        go true cut = skipped mine others added later side cut ∙ sym (skipped mine' others' added' later' side' cut)
        go false uncut = same_rest (ends one_view mine uncut up_to) (ends other_view mine' uncut up_to') [] mine mine' refl refl tt side.piece.of_it side'.piece.of_it side.piece.unhurt side'.piece.unhurt

    -- where the one appends an entry, so does the other
    not_none : (e : EntryLine) (es : List EntryLine) → mine ≡ mine' → added ≡ e ∷ es → added' ≡ [] → ⊥
    not_none e es same is none = go (commit_line mine others added later side e es is)
      where
        go : StandsIn mine (line.Session session number (reply.Committed (now + 1))) → ⊥
        go (front, back, at) = by (one_at mine' others' added' later' side' front back (reply.Committed (now + 1)) (sym same ∙ at) refl)
          where
            by : IsOneOf (as_said other_view) now (now + length added') front (reply.Committed (now + 1)) → ⊥
            by (inl (d, lost, says)) = cc
            by (inr (inl m)) = let says = m.says in cc
            by (inr (inr a)) = let le : now + 1 ≤ now + length added' = a.timely in let no_more : length added' ≡ 0 = ap length none in omega (arith, le, no_more)

    both_entries : (e e' : EntryLine) (es es' : List EntryLine) → mine ≡ mine' → added ≡ e ∷ es → added' ≡ e' ∷ es' → added ≡ added'
    both_entries e e' es es' same is is' =
        let a : IsItsEntry mine others added later side e = its_entry mine others added later side e es is in
        let b : IsItsEntry mine' others' added' later' side' e' = its_entry mine' others' added' later' side' e' es' is' in
        let begins : a.begin ≡ b.begin = sym a.begun ∙ ap (λ (ls : List Line). head_begin (under session number (before ++ ls))) same ∙ b.begun in
        let levels : a.level ≡ b.level = a.is_level ∙ ap (λ (t : Transaction). t.level) (same_some a.transaction b.transaction (sym a.is_its ∙ b.is_its)) ∙ sym b.is_level in
        let one : e ≡ e' = a.says ∙ ap (λ (k : ℕ). Commit (now + 1) session number k a.level) begins ∙ ap (λ (v : Level). Commit (now + 1) session number b.begin v) levels ∙ sym b.says in
        is ∙ ap (λ (d : EntryLine). d ∷ es) one ∙ ap (λ (ds : List EntryLine). e' ∷ ds) (alone mine others (history ++ (added ++ later)) e es (subst (Appends (as_said one_view) now mine others) is side.appended) ∙ sym (alone mine' others' (history ++ (added' ++ later')) e' es' (subst (Appends (as_said other_view) now mine' others') is' side'.appended))) ∙ sym is'
      where
        alone : (xs ys : List Line) (gs : List EntryLine) (d : EntryLine) (rest : List EntryLine) → Appends (as_said (view_of basis gs)) now xs ys (d ∷ rest) → rest ≡ []
        alone xs ys gs d rest appended = appended.0

    same_added : mine ≡ mine' → added ≡ added'
    same_added same = go added added' refl refl
      where
        go : (ds ds' : List EntryLine) → added ≡ ds → added' ≡ ds' → added ≡ added'
        go [] [] is is' = is ∙ sym is'
        go (e ∷ es) [] is is' = absurd (not_none e es same is is')
        go [] (e ∷ es) is is' = absurd (other e es is' is)
          where
            other : (d : EntryLine) (ds : List EntryLine) → added' ≡ d ∷ ds → added ≡ [] → ⊥
            other d ds at none = by (commit_line mine' others' added' later' side' d ds at)
              where
                by : StandsIn mine' (line.Session session number (reply.Committed (now + 1))) → ⊥
                by (front, back, there) = it (one_at mine others added later side front back (reply.Committed (now + 1)) (same ∙ there) refl)
                  where
                    it : IsOneOf (as_said one_view) now (now + length added) front (reply.Committed (now + 1)) → ⊥
                    it (inl (d, lost, says)) = cc
                    it (inr (inl m)) = let says = m.says in cc
                    it (inr (inr a)) = let le : now + 1 ≤ now + length added = a.timely in let no_more : length added ≡ 0 = ap length none in omega (arith, le, no_more)
        go (e ∷ es) (e' ∷ es') is is' = both_entries e e' es es' same is is'

  -- so two pieces are one, and what is known goes on
  pub one_piece : (mine mine' others others' : List Line) (added added' later later' : List EntryLine) → of_commit (as_said (view_of basis history)).arms ≡ 0 →
      Whole basis (before ++ (mine ++ others)) (history ++ (added ++ later)) → Whole basis (before ++ (mine' ++ others')) (history ++ (added' ++ later')) →
      IsPiece (as_said (view_of basis (history ++ (added ++ later)))) now mine others added → IsPiece (as_said (view_of basis (history ++ (added' ++ later')))) now mine' others' added' →
      (mine ≡ mine') × (added ≡ added') × Known basis.origin (before ++ mine) (history ++ added)
  one_piece mine mine' others others' added added' later later' bare whole whole' piece piece' =
      let side : Side mine others added later = side_of mine others added later whole bare piece in
      let side' : Side mine' others' added' later' = side_of mine' others' added' later' whole' bare piece' in
      let same : mine ≡ mine' = same_mine mine mine' others others' added added' later later' side side' piece.up_to piece'.up_to in
      (same, same_added mine mine' others others' added added' later later' side side' same, known_next mine others added later side)

-- A reply to a session is determined by what stands before it: the step to the law of one report of several nodes.
use Rattle.std.proofs.Common.{◌≡◌, ℕ, zero, suc, ◌+◌, ◌-◌, ◌<◌, ◌≤◌, ◌==◌, List, [], ◌∷◌, ◌++◌, length, refl, sym, subst, ap, arith, ◌∙◌, Some, None, Bool, true, false, if◌then◌else◌, ◌⊎◌, inl, inr}
use Rattle.std.specs.Prelude.{◌≢◌}
use Rattle.std.proofs.lemmas.Bool.{eqb-true, true≢false}
use Rattle.std.specs.List.{AllByRecursion}
use Rattle.cdb_values.specs.Rows.{Rows}
use Rattle.cdb_values.specs.declared.rows.Level.{Level}
use Rattle.cdb_values.specs.declared.rows.RowOp.{RowOp}
use Rattle.cdb_values.specs.declared.replies.Reply.{Reply}
use Rattle.cdb_values.specs.declared.replies.Reply.TheVariants as reply
use Rattle.report_laws.specs.Cut.{cuts}
use Rattle.report_laws.specs.History.{Basis, alone_on, entry_at, last_position, rows_at, view_of}
use Rattle.report_laws.specs.Nodes.{up_count}
use Rattle.report_laws.specs.Outcome.{Ends, IsDecided, IsRight}
use Rattle.report_laws.specs.Places.{survives}
use Rattle.report_laws.specs.Play.{HasChanges, IsOrMemory, IsTimely}
use Rattle.report_laws.specs.Told.{alone_at, told, Along}
use Rattle.report_laws.specs.View.{View}
use Rattle.report_laws.specs.Work.{numbered_among, transaction_of, work, ByCommit, ByRollback, Does, End, WorkItem, Lone, Nowhere, Transaction, WithItsLine}
use Rattle.report_laws.proofs.DecideLemmas.{Decides, IsOutcomes, decided, one_decision}
use Rattle.report_laws.proofs.FrontLemmas.{entry_front, rows_front}
use Rattle.report_laws.proofs.PieceLaws.{all_at, under}
use Rattle.report_laws.proofs.PlainLaws.{plain_alone}
use Rattle.report_laws.proofs.RestLemmas.{Rising, lones}
use Rattle.report_text.specs.declared.reports.EntryLine.{EntryLine}
use Rattle.report_text.specs.declared.reports.EntryLine.TheVariants.{Commit}
use Rattle.report_text.specs.declared.reports.Line.{Line}
use Rattle.report_text.specs.declared.reports.Line.TheVariants as line
use Rattle.session_language.proofs.UpToLaws.{same_head}
use Rattle.session_language.proofs.EachLaws.{all_found, all_map}
use Rattle.session_language.specs.Answers.{Answers, IsPlain}
use Rattle.session_language.specs.Each.{StandsIn}
use Rattle.session_language.specs.Language.{Answered}
use Rattle.session_language.specs.Touched.{used_at}
use Rattle.node_reports.specs.Piece.{IsGiven, IsUnsent, Saying, commits_at, lacks_at, loss_at, site_at, wanes_at}
use Rattle.node_reports.specs.Told.{IsToldAlong}
use Rattle.node_laws.specs.Unhurt.{is_wanting}
use Rattle.node_laws.proofs.Known.{BeginUpTo, IsAcknowledged, begin_of, begins_under}
use Rattle.node_laws.proofs.Next.{head_begin, head_same, IsEnding, IsQuiet, IsReplied, all_at_begin, next_is, only_begin, plain_quiet}
use Rattle.node_laws.proofs.Split.{no_longer, none_left, same_next}
use Rattle.node_laws.proofs.Under.{IsIts, told_outside, told_under, under_stands, work_rises}

-- what a session's line tells there: a loss, a missing majority, or an answer

pub record IsAnswer (s : Saying) (now after : ℕ) (front : List Line) (r : Reply) : Type 0 where
  pub kept : loss_at s front ≡ None
  pub majority : lacks_at s front ≡ false
  pub unsent : wanes_at s front ≡ true → (after ≡ now) × ((position : ℕ) × (r ≡ reply.Committed position))
  pub timely : IsTimely now after r
  pub uncut : cuts r ≡ false

pub record IsMissing (s : Saying) (front : List Line) (r : Reply) : Type 0 where
  pub kept : loss_at s front ≡ None
  pub lacks : (lacks_at s front ≡ true) ⊎ ((wanes_at s front ≡ true) × HasChanges s.basis s.view (s.before ++ front) s.session s.number)
  pub says : r ≡ reply.NoMajority (up_count s.basis.script.nodes (s.before ++ front)) s.basis.script.nodes

abbrev pub IsLoss : Saying → List Line → Reply → Type 0
IsLoss s front r = (down : ℕ) × (loss_at s front ≡ Some down) × (r ≡ reply.Lost (site_at s front).node down)

abbrev pub IsOneOf : Saying → ℕ → ℕ → List Line → Reply → Type 0
IsOneOf s now after front r = IsLoss s front r ⊎ (IsMissing s front r ⊎ IsAnswer s now after front r)

-- no want of memory
without : (answer r : Reply) → is_wanting r ≡ false → IsOrMemory answer r → r ≡ answer
without answer r unhurt (inl is) = is
without answer r unhurt (inr is) = absurd (true≢false (sym (ap is_wanting is) ∙ unhurt))

timely_uncut : (now after : ℕ) (r : Reply) → is_wanting r ≡ false → IsTimely now after r → cuts r ≡ false
timely_uncut now after (reply.Begin position) unhurt is = refl
timely_uncut now after (reply.Row row) unhurt is = refl
timely_uncut now after (reply.Done rows) unhurt is = refl
timely_uncut now after (reply.Changed rows) unhurt is = refl
timely_uncut now after (reply.Error cause) unhurt is = refl
timely_uncut now after (reply.Level level) unhurt is = refl
timely_uncut now after reply.RolledBack unhurt is = refl
timely_uncut now after (reply.Committed position) unhurt is = refl
timely_uncut now after (reply.ConflictGenid position table genid) unhurt is = refl
timely_uncut now after (reply.ConflictRange position table key) unhurt is = refl
timely_uncut now after (reply.Duplicate position table key) unhurt is = refl
timely_uncut now after (reply.Lost node down) unhurt is = absurd is
timely_uncut now after (reply.NoMajority up nodes) unhurt is = absurd is
timely_uncut now after reply.NoMemory unhurt is = absurd (true≢false unhurt)

-- of what a session that does not go on is told at its commit: no node went down in its piece before
abbrev pub HasNoFall : Saying → List Line → Type 0
HasNoFall s front = survives s.basis.script s.session ≡ false → commits_at s front ≡ true → (down node : ℕ) (fault : Bool) → StandsIn front (line.Down down node fault) → ⊥

pub one_of : (s : Saying) (now after : ℕ) (front : List Line) (r : Reply) → HasNoFall s front → is_wanting r ≡ false → IsGiven s now after front r → IsOneOf s now after front r
one_of s now after front r none unhurt (inl is) = inl (is.down, is.is_lost, without _ r unhurt is.says)
one_of s now after front r none unhurt (inr (inl is)) = absurd (none is.stays is.at_commit is.down is.node is.fault is.fell)
one_of s now after front r none unhurt (inr (inr (inl is))) = inr (inl (record { kept = is.kept.kept; lacks = is.lacks; says = without _ r unhurt is.says }))
one_of s now after front r none unhurt (inr (inr (inr is))) = inr (inr (record { kept = is.kept.kept; majority = is.majority; unsent = unsent; timely = is.timely; uncut = timely_uncut now after r unhurt is.timely }))
  where
    committed : (q : Reply) → is_wanting q ≡ false → IsUnsent q → (position : ℕ) × (q ≡ reply.Committed position)
    committed (reply.Begin position) w e = absurd e
    committed (reply.Row row) w e = absurd e
    committed (reply.Done rows) w e = absurd e
    committed (reply.Changed rows) w e = absurd e
    committed (reply.Error cause) w e = absurd e
    committed (reply.Level level) w e = absurd e
    committed reply.RolledBack w e = absurd e
    committed (reply.Committed position) w e = (position, refl)
    committed (reply.ConflictGenid position table genid) w e = absurd e
    committed (reply.ConflictRange position table key) w e = absurd e
    committed (reply.Duplicate position table key) w e = absurd e
    committed (reply.Lost node down) w e = absurd e
    committed (reply.NoMajority up nodes) w e = absurd e
    committed reply.NoMemory w e = absurd (true≢false w)

    unsent : wanes_at s front ≡ true → (after ≡ now) × ((position : ℕ) × (r ≡ reply.Committed position))
    unsent e = ((is.unsent e).0, committed r unhurt (is.unsent e).1)

-- what a report says of one reply: it is told behind these replies under a number, and before those
pub record Telling (basis : Basis) (history : List EntryLine) (name : List ℕ) (n now : ℕ) (u : List Reply) (r : Reply) (added later : List EntryLine) : Type 0 where
  pub lines : List Line
  pub tail : List Reply
  pub told_there : under name n lines ≡ u ++ r ∷ tail
  pub replies : Along (IsToldAlong basis (view_of basis (history ++ (added ++ later))) name) (work basis.language name basis.script.body) (told name lines)
  -- where it is the last reply, the entries are those of an outcome
  pub outcomes : tail ≡ [] → AllByRecursion IsQuiet u → IsOutcomes now name n r added

begin_is_now : (now after begin : ℕ) (r : Reply) → reply.Begin begin ≡ r → IsTimely now after r → begin ≡ now
begin_is_now now after begin r is timely = subst (IsTimely now after) (sym is) timely

pub same_some : (t u : Transaction) → Some t ≡ Some u → t ≡ u
same_some t u is = cc

pub not_some : (d : ℕ) → Some d ≡ None → ⊥
not_some d is = cc

-- no transaction has the number 0
pub none_zero : (items : List WorkItem) (bound : ℕ) (t : Transaction) → 1 ≤ bound → Rising bound items → numbered_among 0 items ≡ Some t → ⊥
none_zero [] bound t first rising is = cc
none_zero (Lone answer ∷ items) bound t first rising is = none_zero items bound t first rising is
none_zero (Does d ∷ items) bound t first rising is =
    go (d.number == 0) refl is (λ later. none_zero items (d.number + 1) t (omega arith) rising.1 later)
  where
    go : (b : Bool) → (d.number == 0) ≡ b → (if b then Some d else numbered_among 0 items) ≡ Some t → (numbered_among 0 items ≡ Some t → ⊥) → ⊥
    go true at found later = let zero_is : d.number ≡ 0 = eqb-true d.number 0 at in let least : bound ≤ d.number = rising.0 in omega (arith, zero_is, least, first)
    go false at found later = later found

module _ (basis : Basis) (answers : Answers basis.language) (history : List EntryLine) (name : List ℕ) (n : ℕ) (front : List Line)
    (begins : BeginUpTo (last_position basis.origin history) front) (told_so : AllByRecursion (IsAcknowledged front) history) where
  abbrev now : ℕ
  now = last_position basis.origin history

  abbrev u : List Reply
  u = under name n front

  -- a transaction run alone at a begin so far
  abbrev here : Transaction → ℕ → Answered
  here t begin = alone_on basis (rows_at basis history begin) t.texts

  abbrev all_here : Transaction → ℕ → List Reply
  all_here t begin = reply.Begin begin ∷ (here t begin).replies

  here_is : (more : List EntryLine) (t : Transaction) (begin : ℕ) → begin ≤ now → alone_at basis (view_of basis (history ++ more)) t begin ≡ here t begin
  here_is more t begin within = ap (λ (rows : Rows). alone_on basis rows t.texts) (rows_front basis history more begin within)

  quiet_here : (t : Transaction) (begin : ℕ) → AllByRecursion IsQuiet (all_here t begin)
  quiet_here t begin = (refl, all_map IsPlain IsQuiet plain_quiet _ (plain_alone basis.language answers basis.origin.tables _ [] t.texts))

  -- a begin that was told is at most the last position
  within : (x : Reply) (us : List Reply) (begin : ℕ) → u ≡ x ∷ us → reply.Begin begin ≡ x → begin ≤ now
  within x us begin is at =
      let le : begin_of x ≤ now = (subst (AllByRecursion (λ (r : Reply). begin_of r ≤ now)) is (begins_under now name n front begins)).0 in
      let same : begin ≡ begin_of x = ap begin_of at in omega (arith, le, same)

  -- no entry of a transaction stands that was told its begin and its replies alone
  is_new : (t : Transaction) (begin : ℕ) → t.number ≡ n → u ≡ all_here t begin → (k : ℕ) (level : Level) → entry_at basis.origin history k ≡ Some (Commit k name t.number begin level) → ⊥
  is_new t begin number is k level at =
      let stands : StandsIn front (line.Session name t.number (reply.Committed k)) = all_found (IsAcknowledged front) history (k - (basis.origin.position + 1)) (Commit k name t.number begin level) told_so at in
      let there : StandsIn u (reply.Committed k) = under_stands name n (reply.Committed k) front (subst (λ (m : ℕ). StandsIn front (line.Session name m (reply.Committed k))) number stands) in
      true≢false (all_at IsQuiet u (reply.Committed k) (subst (AllByRecursion IsQuiet) (sym is) (quiet_here t begin)) there)

  -- an answer in a transaction is the next reply at its begin, or ends it
  record Ended (t : Transaction) (begin : ℕ) (r : Reply) (added later : List EntryLine) : Type 0 where
    is : u ≡ all_here t begin
    ends : Ends t.end (r ∷ [])
    right : IsRight basis (view_of basis (history ++ (added ++ later))) name t begin (used_at t.level (here t begin)) (here t begin).ops r
    decides : IsDecided r → Decides basis history name t begin (used_at t.level (here t begin)) (here t begin).ops r added

  record Answer (t : Transaction) (r : Reply) (added later : List EntryLine) : Type 0 where
    begin : ℕ
    base : basis.origin.position ≤ begin
    so_far : begin ≤ now
    first : head_begin (u ++ r ∷ []) ≡ begin
    new : u ≡ [] → (begin ≡ now) × (r ≡ reply.Begin begin)
    next : ((more : List Reply) × (all_here t begin ≡ u ++ r ∷ more)) ⊎ Ended t begin r added later

  module _ (after : ℕ) (r : Reply) (added later : List EntryLine) (telling : Telling basis history name n now u r added later) (timely : IsTimely now after r) (uncut : cuts r ≡ false) (is_after : after ≡ now + length added) where
    abbrev whole : List EntryLine
    whole = history ++ (added ++ later)

    replied : (t : Transaction) → IsReplied basis whole name t u r → Answer t r added later
    replied t is = record { begin = begin; base = is.base; so_far = le u refl is.is; first = sym (ap head_begin is.is ∙ head_same u r is.more); new = new; next = inl (is.more, ap (λ (a : Answered). reply.Begin begin ∷ a.replies) (sym (here_is (added ++ later) t begin (le u refl is.is))) ∙ is.is) }
      where
        begin : ℕ
        begin = is.begin

        le : (v : List Reply) → u ≡ v → all_at_begin basis whole name t begin ≡ v ++ r ∷ is.more → begin ≤ now
        le [] at all = let same : begin ≡ now = begin_is_now now after begin r (same_head (reply.Begin begin) r _ is.more all) timely in omega (arith, same)
        le (x ∷ us) at all = within x us begin at (same_head (reply.Begin begin) x _ (us ++ r ∷ is.more) all)

        new : u ≡ [] → (begin ≡ now) × (r ≡ reply.Begin begin)
        new none =
            let is_r : reply.Begin begin ≡ r = same_head (reply.Begin begin) r _ is.more (is.is ∙ ap (λ (v : List Reply). v ++ r ∷ is.more) none) in
            (begin_is_now now after begin r is_r timely, sym is_r)

    ended : (t : Transaction) → t.number ≡ n → transaction_of basis.language name t.number basis.script.body ≡ Some t → IsEnding basis whole name t u r telling.tail → Answer t r added later
    ended t number its is = record { begin = begin; base = is.base; so_far = le; first = ap (λ (v : List Reply). head_begin (v ++ r ∷ [])) is.is; new = λ none. absurd (let no_such : [] ≡ all_at_begin basis whole name t begin = sym none ∙ is.is in cc); next = inr (record { is = is_here; ends = is.ends; right = right; decides = decides }) }
      where
        begin : ℕ
        begin = is.begin

        le : begin ≤ now
        le = within (reply.Begin begin) _ begin is.is refl

        same : alone_at basis (view_of basis whole) t begin ≡ here t begin
        same = here_is (added ++ later) t begin le

        is_here : u ≡ all_here t begin
        is_here = is.is ∙ ap (λ (a : Answered). reply.Begin begin ∷ a.replies) same

        right : IsRight basis (view_of basis whole) name t begin (used_at t.level (here t begin)) (here t begin).ops r
        right = subst (λ (a : Answered). IsRight basis (view_of basis whole) name t begin (used_at t.level a) a.ops r) same is.right

        quiet : AllByRecursion IsQuiet u
        quiet = subst (AllByRecursion IsQuiet) (sym is_here) (quiet_here t begin)

        decides : IsDecided r → Decides basis history name t begin (used_at t.level (here t begin)) (here t begin).ops r added
        decides decision =
            decided basis history added later name t begin (used_at t.level (here t begin)) is.base le its (is_new t begin number is_here) r decision
            (subst (λ (k : ℕ). IsTimely now k r) is_after timely)
            (subst (λ (m : ℕ). IsOutcomes now name m r added) (sym number) (telling.outcomes is.last quiet)) right

    answer_of : (t : Transaction) → t.number ≡ n → numbered_among n (work basis.language name basis.script.body) ≡ Some t → IsToldAlong basis (view_of basis whole) name (Does t) (under name n telling.lines) → Answer t r added later
    answer_of t number among is = go (next_is basis whole name t u r telling.tail uncut (subst (IsToldAlong basis (view_of basis whole) name (Does t)) telling.told_there is))
      where
        its : transaction_of basis.language name t.number basis.script.body ≡ Some t
        its = ap (λ (m : ℕ). transaction_of basis.language name m basis.script.body) number ∙ among

        go : IsReplied basis whole name t u r ⊎ IsEnding basis whole name t u r telling.tail → Answer t r added later
        go (inl is) = replied t is
        go (inr is) = ended t number its is

  -- two reports answer the same
  ends_same : (end : End) (r q : Reply) → Ends end (r ∷ []) → Ends end (q ∷ []) → (IsDecided r → IsDecided q → r ≡ q) → r ≡ q
  ends_same ByCommit r q is is' decides = decides is is'
  ends_same ByRollback r q is is' decides = same_head r reply.RolledBack [] [] is ∙ sym (same_head q reply.RolledBack [] [] is')
  ends_same WithItsLine r q is is' decides = decides is is'
  ends_same Nowhere r q is is' decides = absurd (none_left r [] [] (sym is))

  same_at : (t : Transaction) (begin : ℕ) (r q : Reply) (added later added' later' : List EntryLine) → ((more : List Reply) × (all_here t begin ≡ u ++ r ∷ more)) ⊎ Ended t begin r added later → ((more : List Reply) × (all_here t begin ≡ u ++ q ∷ more)) ⊎ Ended t begin q added' later' → r ≡ q
  same_at t begin r q added later added' later' (inl (more, is)) (inl (others, is')) = same_next u r q more others (sym is ∙ is')
  same_at t begin r q added later added' later' (inl (more, is)) (inr e) = absurd (no_longer u r more (e.is ∙ is))
  same_at t begin r q added later added' later' (inr e) (inl (others, is')) = absurd (no_longer u q others (e.is ∙ is'))
  same_at t begin r q added later added' later' (inr e) (inr e') =
      ends_same t.end r q e.ends e'.ends (λ d d'. (one_decision basis history name t begin (used_at t.level (here t begin)) (here t begin).ops r q added added' (e.decides d) (e'.decides d')).0)

  same_of : (t : Transaction) (r q : Reply) (added later added' later' : List EntryLine) → Answer t r added later → Answer t q added' later' → r ≡ q
  same_of t r q added later added' later' a b = go u refl
    where
      go : (v : List Reply) → u ≡ v → r ≡ q
      go [] none = (a.new none).1 ∙ ap reply.Begin ((a.new none).0 ∙ sym (b.new none).0) ∙ sym (b.new none).1
      go (x ∷ us) is = same_at t a.begin r q added later added' later' a.next
          (subst (λ (k : ℕ). ((more : List Reply) × (all_here t k ≡ u ++ q ∷ more)) ⊎ Ended t k q added' later') (sym same) b.next)
        where
          same : a.begin ≡ b.begin
          same = sym a.first ∙ ap (λ (v : List Reply). head_begin (v ++ r ∷ [])) is ∙ sym (ap (λ (v : List Reply). head_begin (v ++ q ∷ [])) is) ∙ b.first

  -- what a reply under the number is told by: nothing, or a transaction
  abbrev IsSaid : Reply → List EntryLine → List EntryLine → Type 0
  IsSaid r added later = (t : Transaction) × (t.number ≡ n) × (numbered_among n (work basis.language name basis.script.body) ≡ Some t) × Answer t r added later

  said_of : (after : ℕ) (r : Reply) (added later : List EntryLine) (telling : Telling basis history name n now u r added later) → IsTimely now after r → cuts r ≡ false → after ≡ now + length added → 1 ≤ n → IsSaid r added later
  said_of after r added later telling timely uncut is_after some = go (told_under basis.language name basis.script.body (IsToldAlong basis (view_of basis (history ++ (added ++ later))) name) telling.lines n some telling.replies)
    where
      go : (under name n telling.lines ≡ []) ⊎ IsIts (IsToldAlong basis (view_of basis (history ++ (added ++ later))) name) (work basis.language name basis.script.body) n (under name n telling.lines) → IsSaid r added later
      go (inl none) = absurd (none_left r u telling.tail (sym none ∙ telling.told_there))
      go (inr its) = (its.transaction, its.number, its.among, answer_of after r added later telling timely uncut is_after its.transaction its.number its.among its.told)

  same_said : (r q : Reply) (added later added' later' : List EntryLine) → IsSaid r added later → IsSaid q added' later' → r ≡ q
  same_said r q added later added' later' (t, number, among, a) (t', number', among', b) =
      same_of t r q added later added' later' a (subst (λ (x : Transaction). Answer x q added' later') (sym (same_some t t' (sym among ∙ among'))) b)

  -- outside transactions
  outside : (r : Reply) (added later : List EntryLine) (telling : Telling basis history name n now u r added later) → n ≡ 0 → u ++ r ∷ telling.tail ≡ lones (work basis.language name basis.script.body)
  outside r added later telling zero_is = sym telling.told_there ∙ ap (λ (m : ℕ). under name m telling.lines) zero_is
      ∙ told_outside basis.language name basis.script.body (IsToldAlong basis (view_of basis (history ++ (added ++ later))) name) telling.lines (λ answer mine told. told) telling.replies

  pub same_answer : (after after' : ℕ) (r q : Reply) (added later added' later' : List EntryLine) → Telling basis history name n now u r added later → Telling basis history name n now u q added' later' →
      IsTimely now after r → cuts r ≡ false → after ≡ now + length added → IsTimely now after' q → cuts q ≡ false → after' ≡ now + length added' → r ≡ q
  same_answer after after' r q added later added' later' telling telling' timely uncut is_after timely' uncut' is_after' = go n refl
    where
      go : (m : ℕ) → n ≡ m → r ≡ q
      go zero is = same_next u r q telling.tail telling'.tail (outside r added later telling is ∙ sym (outside q added' later' telling' is))
      go (suc m) is =
          let some : 1 ≤ n = omega (arith, is) in
          same_said r q added later added' later' (said_of after r added later telling timely uncut is_after some) (said_of after' q added' later' telling' timely' uncut' is_after' some)

  -- a commit that is not sent has no operations
  pub no_changes : (after : ℕ) (position : ℕ) (added later : List EntryLine) (view : View) → Telling basis history name n now u (reply.Committed position) added later → IsTimely now after (reply.Committed position) → after ≡ now + length added → after ≡ now →
      ((t : Transaction) (begin : ℕ) → begin ≤ now → alone_at basis view t begin ≡ here t begin) → HasChanges basis view front name n → ⊥
  no_changes after position added later view telling timely is_after same_after is_here changes = go n refl
    where
      its : numbered_among n (work basis.language name basis.script.body) ≡ Some changes.transaction
      its = changes.is_its

      begun : StandsIn u (reply.Begin changes.begin)
      begun = under_stands name n (reply.Begin changes.begin) front changes.begun

      entered : (t : Transaction) (begin : ℕ) (ops : List RowOp) → t.number ≡ n → u ≡ all_here t begin → ops ≢ [] → IsRight basis (view_of basis (history ++ (added ++ later))) name t begin (used_at t.level (here t begin)) ops (reply.Committed position) → basis.origin.position ≤ begin → ⊥
      entered t begin [] number is some right base = some refl
      entered t begin (o ∷ ops) number is some right base =
          let later_on : begin < position = right.later in
          let le : position ≤ after = timely in
          is_new t begin number is position t.level (sym (entry_front basis history (added ++ later) position (omega (arith, base, later_on)) (omega (arith, le, same_after))) ∙ right.stands)

      at : (t : Transaction) → changes.transaction ≡ t → t.number ≡ n → Answer t (reply.Committed position) added later → ⊥
      at t same number a = by a.next
        where
          by : ((more : List Reply) × (all_here t a.begin ≡ u ++ reply.Committed position ∷ more)) ⊎ Ended t a.begin (reply.Committed position) added later → ⊥
          by (inl (more, is)) = true≢false (all_at IsQuiet (all_here t a.begin) (reply.Committed position) (quiet_here t a.begin) (u, more, is))
          by (inr e) = entered t a.begin (here t a.begin).ops number e.is some e.right a.base
            where
              begin_is : changes.begin ≡ a.begin
              begin_is = only_begin basis history name t answers a.begin changes.begin (subst (λ (rs : List Reply). StandsIn rs (reply.Begin changes.begin)) e.is begun)

              some : (here t a.begin).ops ≢ []
              some none = changes.has_ops (ap (λ (x : Transaction). (alone_at basis view x changes.begin).ops) same ∙ ap (λ (k : ℕ). (alone_at basis view t k).ops) begin_is ∙ ap (λ (w : Answered). w.ops) (is_here t a.begin a.so_far) ∙ none)

      go : (m : ℕ) → n ≡ m → ⊥
      go zero is = none_zero (work basis.language name basis.script.body) 1 changes.transaction (omega arith) (work_rises basis.language name basis.script.body) (ap (λ (k : ℕ). numbered_among k (work basis.language name basis.script.body)) (sym is) ∙ its)
      go (suc m) is =
          let some : 1 ≤ n = omega (arith, is) in
          let said = said_of after (reply.Committed position) added later telling timely refl is_after some in
          at said.0 (same_some changes.transaction said.0 (sym its ∙ said.2)) said.1 said.3

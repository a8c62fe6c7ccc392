-- A stop by the arm of a row stands right behind that row: so at no commit, at no end of a piece, and where its session does not go on,
-- right before the loss.
use Rattle.std.proofs.Common.{◌≡◌, ℕ, ◌+◌, ◌≤◌, ◌&&◌, ◌||◌, List, [], ◌∷◌, ◌++◌, refl, sym, subst, ap, arith, ◌∙◌, append_assoc, Bool, true, false, not, if◌then◌else◌, ◌⊎◌, inl, inr}
use Rattle.std.proofs.lemmas.Bool.{and_parts, both_ways, false≢true, true≢false}
use Rattle.std.specs.List.{AllByRecursion, list_any}
use Rattle.cdb_values.specs.declared.replies.Reply.{Reply}
use Rattle.cdb_values.specs.declared.replies.Reply.TheVariants as reply
use Rattle.report_laws.specs.Places.{survives}
use Rattle.report_laws.specs.Play.{commits, is_begin, is_own_by, IsOrMemory}
use Rattle.report_laws.proofs.GrowLaws.{same_last}
use Rattle.report_laws.proofs.LawLemmas.{each_at}
use Rattle.report_laws.proofs.PieceLaws.{under, under_append}
use Rattle.report_text.specs.declared.reports.Line.{Line}
use Rattle.report_text.specs.declared.reports.Line.TheVariants as line
use Rattle.session_language.proofs.AllLaws.{all_standing}
use Rattle.session_language.proofs.EachLaws.{all_front}
use Rattle.session_language.specs.Each.{EachAfter}
use Rattle.session_language.specs.Replies.{are_none, are_up_to, is_last_of, is_outcome, is_row}
use Rattle.node_reports.specs.Arms.{is_last_a_down, is_last_a_row, of_commit, stops}
use Rattle.node_reports.specs.Piece.{FallsAt, FallsAtCommit, FellAtCommit, IsDue, IsGiven, Saying, StopsAtRow, are_ready, commits_at, replies_in}
use Rattle.node_laws.specs.Unhurt.{IsUnhurtLine}
use Rattle.node_laws.proofs.Under.{IsOf, replies_are, under_at}

-- the last line, where it tells a row

record IsRowLine (l : Line) : Type 0 where
  name : List ℕ
  txn : ℕ
  answer : Reply
  says : l ≡ line.Session name txn answer
  row : is_row answer ≡ true

one_row : (l : Line) → is_last_a_row (l ∷ []) ≡ true → IsRowLine l
one_row (line.Session name txn (reply.Begin position)) is = absurd (false≢true is)
one_row (line.Session name txn (reply.Row row)) is = record { name = name; txn = txn; answer = reply.Row row; says = refl; row = refl }
one_row (line.Session name txn (reply.Done rows)) is = absurd (false≢true is)
one_row (line.Session name txn (reply.Changed rows)) is = absurd (false≢true is)
one_row (line.Session name txn (reply.Error cause)) is = absurd (false≢true is)
one_row (line.Session name txn (reply.Level level)) is = absurd (false≢true is)
one_row (line.Session name txn reply.RolledBack) is = absurd (false≢true is)
one_row (line.Session name txn (reply.Committed position)) is = absurd (false≢true is)
one_row (line.Session name txn (reply.ConflictGenid position table genid)) is = absurd (false≢true is)
one_row (line.Session name txn (reply.ConflictRange position table key)) is = absurd (false≢true is)
one_row (line.Session name txn (reply.Duplicate position table key)) is = absurd (false≢true is)
one_row (line.Session name txn (reply.Lost node down)) is = absurd (false≢true is)
one_row (line.Session name txn (reply.NoMajority up nodes)) is = absurd (false≢true is)
one_row (line.Session name txn reply.NoMemory) is = absurd (false≢true is)
one_row (line.Down count node fault) is = absurd (false≢true is)
one_row (line.Up node) is = absurd (false≢true is)
one_row line.Barrier is = absurd (false≢true is)
one_row (line.Fed position) is = absurd (false≢true is)

row_later : (x y : Line) (ls : List Line) → is_last_a_row (x ∷ y ∷ ls) ≡ is_last_a_row (y ∷ ls)
row_later (line.Session name txn (reply.Begin position)) y ls = refl
row_later (line.Session name txn (reply.Row row)) y ls = refl
row_later (line.Session name txn (reply.Done rows)) y ls = refl
row_later (line.Session name txn (reply.Changed rows)) y ls = refl
row_later (line.Session name txn (reply.Error cause)) y ls = refl
row_later (line.Session name txn (reply.Level level)) y ls = refl
row_later (line.Session name txn reply.RolledBack) y ls = refl
row_later (line.Session name txn (reply.Committed position)) y ls = refl
row_later (line.Session name txn (reply.ConflictGenid position table genid)) y ls = refl
row_later (line.Session name txn (reply.ConflictRange position table key)) y ls = refl
row_later (line.Session name txn (reply.Duplicate position table key)) y ls = refl
row_later (line.Session name txn (reply.Lost node down)) y ls = refl
row_later (line.Session name txn (reply.NoMajority up nodes)) y ls = refl
row_later (line.Session name txn reply.NoMemory) y ls = refl
row_later (line.Down count node fault) y ls = refl
row_later (line.Up node) y ls = refl
row_later line.Barrier y ls = refl
row_later (line.Fed position) y ls = refl

record EndsInRow (ls : List Line) : Type 0 where
  front : List Line
  last : Line
  says : ls ≡ front ++ last ∷ []
  is_row_line : IsRowLine last

last_row : (ls : List Line) → is_last_a_row ls ≡ true → EndsInRow ls
last_row [] is = absurd (false≢true is)
last_row (x ∷ []) is = record { front = []; last = x; says = refl; is_row_line = one_row x is }
last_row (x ∷ y ∷ ls) is =
    let later = last_row (y ∷ ls) (sym (row_later x y ls) ∙ is) in
    record { front = x ∷ later.front; last = later.last; says = ap (λ (zs : List Line). x ∷ zs) later.says; is_row_line = later.is_row_line }

-- a row is no begin and no outcome, and so the last reply to no line

row_quiet : (r : Reply) → is_row r ≡ true → (is_begin r ≡ false) × (is_outcome r ≡ false)
row_quiet (reply.Begin position) is = absurd (false≢true is)
row_quiet (reply.Row row) is = (refl, refl)
row_quiet (reply.Done rows) is = absurd (false≢true is)
row_quiet (reply.Changed rows) is = absurd (false≢true is)
row_quiet (reply.Error cause) is = absurd (false≢true is)
row_quiet (reply.Level level) is = absurd (false≢true is)
row_quiet reply.RolledBack is = absurd (false≢true is)
row_quiet (reply.Committed position) is = absurd (false≢true is)
row_quiet (reply.ConflictGenid position table genid) is = absurd (false≢true is)
row_quiet (reply.ConflictRange position table key) is = absurd (false≢true is)
row_quiet (reply.Duplicate position table key) is = absurd (false≢true is)
row_quiet (reply.Lost node down) is = absurd (false≢true is)
row_quiet (reply.NoMajority up nodes) is = absurd (false≢true is)
row_quiet reply.NoMemory is = absurd (false≢true is)

row_not_last : (own : Bool) (r : Reply) → is_row r ≡ true → is_last_of own r ≡ false
row_not_last true r is = (row_quiet r is).1
row_not_last false r is = ap not is

some_none : (us more : List Reply) (r : Reply) → are_none (us ++ r ∷ more) ≡ true → ⊥
some_none [] more r is = false≢true is
some_none (x ∷ us) more r is = false≢true is

up_to_row : (up : Reply → Bool) (us : List Reply) (r : Reply) → up r ≡ false → are_up_to up (us ++ r ∷ []) ≡ true → ⊥
up_to_row up [] r never is = false≢true (sym (ap (λ (b : Bool). if b then true else false) never) ∙ is)
up_to_row up (x ∷ us) r never is = go (up x) is (λ later. up_to_row up us r never later)
  where
    go : (b : Bool) → (if b then are_none (us ++ r ∷ []) else are_up_to up (us ++ r ∷ [])) ≡ true → (are_up_to up (us ++ r ∷ []) ≡ true → ⊥) → ⊥
    go true e later = some_none us [] r e
    go false e later = later e

any_there : (xs more : List Reply) (q : Reply) → is_outcome q ≡ true → list_any is_outcome (xs ++ q ∷ more) ≡ true
any_there [] more q is = ap (λ (b : Bool). b || list_any is_outcome more) is
any_there (x ∷ xs) more q is = go (is_outcome x) (any_there xs more q is)
  where
    go : (b : Bool) → list_any is_outcome (xs ++ q ∷ more) ≡ true → (b || list_any is_outcome (xs ++ q ∷ more)) ≡ true
    go true e = refl
    go false e = e

-- what stands behind a row: nothing, or an outcome
abbrev IsNoneOrOutcome : List Reply → Type 0
IsNoneOrOutcome more = (more ≡ []) ⊎ ((q : Reply) × (rest : List Reply) × (more ≡ q ∷ rest) × (is_outcome q ≡ true))

-- then no commit is there
not_ready : (own : Bool) (us more : List Reply) (r : Reply) → is_row r ≡ true → IsNoneOrOutcome more → are_ready own (us ++ r ∷ more) ≡ true → ⊥
not_ready false us more r row behind ready = some_none us more r ready
not_ready true [] more r row behind ready = both_ways (is_begin r) (row_quiet r row).0 (and_parts (is_begin r) _ ready).0
not_ready true (x ∷ us) more r row behind ready = go behind (and_parts (is_begin x) _ ready).1
  where
    go : IsNoneOrOutcome more → (are_up_to (is_last_of false) (us ++ r ∷ more) && not (list_any is_outcome (us ++ r ∷ more))) ≡ true → ⊥
    go (inl none) e = up_to_row (is_last_of false) us r (ap not row) (subst (λ (rs : List Reply). are_up_to (is_last_of false) (us ++ r ∷ rs) ≡ true) none (and_parts _ _ e).0)
    go (inr (q, rest, is, outcome)) e =
        let some : list_any is_outcome (us ++ r ∷ more) ≡ true = ap (λ (rs : List Reply). list_any is_outcome (us ++ r ∷ rs)) is ∙ ap (list_any is_outcome) (sym (append_assoc us (r ∷ []) (q ∷ rest))) ∙ any_there (us ++ r ∷ []) rest q outcome in
        false≢true (sym (ap not some) ∙ (and_parts (are_up_to (is_last_of false) (us ++ r ∷ more)) _ e).1)

-- the replies of such lines of a session end in that row
pub record RowReplies (session : List ℕ) (front : List Line) : Type 0 where
  pub rest : List Reply
  pub answer : Reply
  pub says : replies_in session front ≡ rest ++ answer ∷ []
  pub row : is_row answer ≡ true

pub row_replies : (session : List ℕ) (n : ℕ) (front : List Line) → AllByRecursion (IsOf session n) front → is_last_a_row front ≡ true → RowReplies session front
row_replies session n front all is = record { rest = under session n e.front; answer = r.answer; says = says; row = r.row }
  where
    e : EndsInRow front
    e = last_row front is

    r : IsRowLine e.last
    r = e.is_row_line

    of_it : IsOf session n (line.Session r.name r.txn r.answer)
    of_it = subst (IsOf session n) r.says (all_standing (IsOf session n) e.front [] e.last (subst (AllByRecursion (IsOf session n)) e.says all))

    line_is : e.last ≡ line.Session session n r.answer
    line_is = r.says ∙ ap (λ (s : List ℕ). line.Session s r.txn r.answer) of_it.0 ∙ ap (λ (k : ℕ). line.Session session k r.answer) of_it.1

    says : replies_in session front ≡ under session n e.front ++ r.answer ∷ []
    says = replies_are session n front all ∙ ap (under session n) (e.says ∙ ap (λ (l : Line). e.front ++ l ∷ []) line_is) ∙ under_at session n r.answer e.front []

-- lines that end with a line that a node went down end with no row
down_last : (front : List Line) (count node : ℕ) → is_last_a_row (front ++ line.Down count node false ∷ []) ≡ true → ⊥
down_last front count node is =
    let e = last_row (front ++ line.Down count node false ∷ []) is in
    let no_such : line.Down count node false ≡ line.Session e.is_row_line.name e.is_row_line.txn e.is_row_line.answer = same_last front e.front (line.Down count node false) e.last e.says ∙ e.is_row_line.says in cc

some_stop : (front rest : List Line) (count node : ℕ) → stops (front ++ line.Down count node false ∷ rest) ≡ 0 → ⊥
some_stop [] rest count node none = let no_such : stops rest + 1 ≡ 0 = none in omega (arith, no_such)
some_stop (line.Session name txn r ∷ ls) rest count node none = some_stop ls rest count node none
some_stop (line.Down other again false ∷ ls) rest count node none = let no_such : stops (ls ++ line.Down count node false ∷ rest) + 1 ≡ 0 = none in omega (arith, no_such)
some_stop (line.Down other again true ∷ ls) rest count node none = some_stop ls rest count node none
some_stop (line.Up again ∷ ls) rest count node none = some_stop ls rest count node none
some_stop (line.Barrier ∷ ls) rest count node none = some_stop ls rest count node none
some_stop (line.Fed position ∷ ls) rest count node none = some_stop ls rest count node none

-- a node that goes down, by no fault and where no arm of the commit waits, is stopped by the arm of a row
pub by_row : (s : Saying) (front : List Line) (count node : ℕ) (fault : Bool) → of_commit s.arms ≡ 0 → fault ≡ false → FallsAt s front count node fault → StopsAtRow s front node fault
by_row s front count node fault bare unhurt falls = go falls.cause
  where
    by : (fault ≡ true) ⊎ (stops front + 1 ≤ of_commit s.arms) → ⊥
    by (inl e) = true≢false (sym e ∙ unhurt)
    by (inr some) = omega (arith, some, bare)

    go : FallsAtCommit s front fault ⊎ (StopsAtRow s front node fault ⊎ ((fault ≡ true) × (is_last_a_down front ≡ true))) → StopsAtRow s front node fault
    go (inl is) = absurd (by is.by)
    go (inr (inl is)) = is
    go (inr (inr is)) = absurd (true≢false (sym is.0 ∙ unhurt))

pub row_due : (s : Saying) (front : List Line) (node : ℕ) (fault : Bool) → StopsAtRow s front node fault → is_last_a_row front ≡ true
row_due s front node fault stop = (and_parts (is_last_a_row front) _ stop.due).0

-- such a piece of a session
pub record Piece (s : Saying) (now after : ℕ) (mine : List Line) : Type 0 where
  pub bare : of_commit s.arms ≡ 0
  pub of_it : AllByRecursion (IsOf s.session s.number) mine
  pub unhurt : AllByRecursion IsUnhurtLine mine
  pub each : EachAfter (IsDue s now after) [] mine

pub stop_in : (s : Saying) (now after : ℕ) (mine front back : List Line) (count node : ℕ) (fault : Bool) → Piece s now after mine → mine ≡ front ++ line.Down count node fault ∷ back → StopsAtRow s front node fault
stop_in s now after mine front back count node fault piece is =
    by_row s front count node fault piece.bare (all_standing IsUnhurtLine front back (line.Down count node fault) (subst (AllByRecursion IsUnhurtLine) is piece.unhurt))
    (each_at (IsDue s now after) [] front (line.Down count node fault) back (subst (EachAfter (IsDue s now after) []) is piece.each))

pub replies_at : (s : Saying) (now after : ℕ) (mine front back : List Line) (count node : ℕ) (fault : Bool) → Piece s now after mine → mine ≡ front ++ line.Down count node fault ∷ back → RowReplies s.session front
replies_at s now after mine front back count node fault piece is =
    row_replies s.session s.number front (all_front (IsOf s.session s.number) front (line.Down count node fault ∷ back) (subst (AllByRecursion (IsOf s.session s.number)) is piece.of_it))
    (row_due s front node fault (stop_in s now after mine front back count node fault piece is))

-- none went down at the commit
pub none_at_commit : (s : Saying) (now after : ℕ) (mine : List Line) → Piece s now after mine → FellAtCommit s mine → ⊥
none_at_commit s now after mine piece (front, back, count, node, fault, is, there) =
    let r = replies_at s now after mine front back count node fault piece is in
    not_ready (is_own_by s.kind s.pending) r.rest [] r.answer r.row (inl refl)
    (subst (λ (rs : List Reply). are_ready (is_own_by s.kind s.pending) rs ≡ true) r.says (and_parts (commits s.kind s.pending) _ there).1)

-- a piece does not end right before such a stop
pub none_at_end : (s : Saying) (now after : ℕ) (mine front back : List Line) (count node : ℕ) (fault own : Bool) → Piece s now after mine → mine ≡ front ++ line.Down count node fault ∷ back → are_up_to (is_last_of own) (replies_in s.session front) ≡ true → ⊥
none_at_end s now after mine front back count node fault own piece is ends =
    let r = replies_at s now after mine front back count node fault piece is in
    up_to_row (is_last_of own) r.rest r.answer (row_not_last own r.answer r.row) (subst (λ (rs : List Reply). are_up_to (is_last_of own) rs ≡ true) r.says ends)

-- behind it a session that does not go on is told an outcome

or_outcome : (answer r : Reply) → is_outcome answer ≡ true → IsOrMemory answer r → is_outcome r ≡ true
or_outcome answer r outcome (inl is) = ap is_outcome is ∙ outcome
or_outcome answer r outcome (inr is) = ap is_outcome is

outcome_behind : (s : Saying) (now after : ℕ) (front : List Line) (q : Reply) → survives s.basis.script s.session ≡ false → (stops front ≡ 0 → ⊥) → IsGiven s now after front q → is_outcome q ≡ true
outcome_behind s now after front q stays stopped given = go given
  where
    never : (survives s.basis.script s.session ≡ true) ⊎ (stops front ≡ 0) → ⊥
    never (inl goes_on) = true≢false (sym goes_on ∙ stays)
    never (inr none) = stopped none

    go : IsGiven s now after front q → is_outcome q ≡ true
    go (inl is) = or_outcome _ q refl is.says
    go (inr (inl is)) = or_outcome _ q refl is.says
    go (inr (inr (inl is))) = absurd (never is.kept.unstopped)
    go (inr (inr (inr is))) = absurd (never is.kept.unstopped)

-- so it is not lost by the master's fall

module _ (s : Saying) (now after : ℕ) (mine f0 : List Line) (count node : ℕ) (piece : Piece s now after mine) (stays : survives s.basis.script s.session ≡ false) where
  behind_stop : (f1 back : List Line) → mine ≡ f0 ++ line.Down count node false ∷ (f1 ++ back) → IsNoneOrOutcome (under s.session s.number f1)
  behind_stop [] back is = inl refl
  behind_stop (line.Session name txn q ∷ f1) back is = inr (q, under s.session s.number f1, there, outcome)
    where
      split : mine ≡ (f0 ++ line.Down count node false ∷ []) ++ line.Session name txn q ∷ (f1 ++ back)
      split = is ∙ sym (append_assoc f0 (line.Down count node false ∷ []) (line.Session name txn q ∷ (f1 ++ back)))

      of_it : IsOf s.session s.number (line.Session name txn q)
      of_it = all_standing (IsOf s.session s.number) (f0 ++ line.Down count node false ∷ []) (f1 ++ back) (line.Session name txn q) (subst (AllByRecursion (IsOf s.session s.number)) split piece.of_it)

      there : under s.session s.number (line.Session name txn q ∷ f1) ≡ q ∷ under s.session s.number f1
      there = ap (λ (n : List ℕ). under s.session s.number (line.Session n txn q ∷ f1)) of_it.0 ∙ ap (λ (k : ℕ). under s.session s.number (line.Session s.session k q ∷ f1)) of_it.1 ∙ under_at s.session s.number q [] f1

      outcome : is_outcome q ≡ true
      outcome = outcome_behind s now after (f0 ++ line.Down count node false ∷ []) q stays (some_stop f0 [] count node)
          (each_at (IsDue s now after) [] (f0 ++ line.Down count node false ∷ []) (line.Session name txn q) (f1 ++ back) (subst (EachAfter (IsDue s now after) []) split piece.each)).3
  behind_stop (line.Down again other fault ∷ f1) back is =
      absurd (down_last f0 count node (row_due s (f0 ++ line.Down count node false ∷ []) other fault
      (stop_in s now after mine (f0 ++ line.Down count node false ∷ []) (f1 ++ back) again other fault piece (is ∙ sym (append_assoc f0 (line.Down count node false ∷ []) (line.Down again other fault ∷ (f1 ++ back)))))))
  behind_stop (line.Up other ∷ f1) back is = absurd (all_standing (IsOf s.session s.number) (f0 ++ line.Down count node false ∷ []) (f1 ++ back) (line.Up other) (subst (AllByRecursion (IsOf s.session s.number)) (is ∙ sym (append_assoc f0 (line.Down count node false ∷ []) (line.Up other ∷ (f1 ++ back)))) piece.of_it))
  behind_stop (line.Barrier ∷ f1) back is = absurd (all_standing (IsOf s.session s.number) (f0 ++ line.Down count node false ∷ []) (f1 ++ back) line.Barrier (subst (AllByRecursion (IsOf s.session s.number)) (is ∙ sym (append_assoc f0 (line.Down count node false ∷ []) (line.Barrier ∷ (f1 ++ back)))) piece.of_it))
  behind_stop (line.Fed position ∷ f1) back is = absurd (all_standing (IsOf s.session s.number) (f0 ++ line.Down count node false ∷ []) (f1 ++ back) (line.Fed position) (subst (AllByRecursion (IsOf s.session s.number)) (is ∙ sym (append_assoc f0 (line.Down count node false ∷ []) (line.Fed position ∷ (f1 ++ back)))) piece.of_it))

  pub no_master : (f1 back : List Line) → mine ≡ f0 ++ line.Down count node false ∷ (f1 ++ back) → commits_at s (f0 ++ line.Down count node false ∷ f1) ≡ true → ⊥
  no_master f1 back is there =
      not_ready (is_own_by s.kind s.pending) r.rest (under s.session s.number f1) r.answer r.row (behind_stop f1 back is)
      (subst (λ (rs : List Reply). are_ready (is_own_by s.kind s.pending) rs ≡ true) replies (and_parts (commits s.kind s.pending) _ there).1)
    where
      r : RowReplies s.session f0
      r = replies_at s now after mine f0 (f1 ++ back) count node false piece is

      all : AllByRecursion (IsOf s.session s.number) (f0 ++ line.Down count node false ∷ f1)
      all = all_front (IsOf s.session s.number) (f0 ++ line.Down count node false ∷ f1) back
          (subst (AllByRecursion (IsOf s.session s.number)) (is ∙ sym (append_assoc f0 (line.Down count node false ∷ f1) back)) piece.of_it)

      replies : replies_in s.session (f0 ++ line.Down count node false ∷ f1) ≡ r.rest ++ r.answer ∷ under s.session s.number f1
      replies = replies_are s.session s.number (f0 ++ line.Down count node false ∷ f1) all
          ∙ under_append s.session s.number f0 (line.Down count node false ∷ f1)
          ∙ ap (λ (rs : List Reply). rs ++ under s.session s.number f1) (sym (replies_are s.session s.number f0 (all_front (IsOf s.session s.number) f0 (line.Down count node false ∷ f1) all)) ∙ r.says)
          ∙ append_assoc r.rest (r.answer ∷ []) (under s.session s.number f1)

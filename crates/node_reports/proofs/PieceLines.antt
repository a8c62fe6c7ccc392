-- What the forms of a piece on one node use: lines of a session, and what is told in them.
use Rattle.std.proofs.Common.{◌≡◌, ℕ, ◌+◌, ◌*◌, ◌≤◌, ◌==◌, ◌&&◌, ◌||◌, List, [], ◌∷◌, ◌++◌, refl, sym, subst, ap, arith, ◌∙◌, Option, Some, None, append_assoc, Bool, true, false, not, if◌then◌else◌, ◌⊎◌, inl, inr, leb, map, length}
use Rattle.std.proofs.lemmas.Bool.{eq-eqb, both_ways, false≢true, true≢false, false_from_ne_true, and_from, and_right, or_left, or_right}
use Rattle.std.proofs.lemmas.List.{append-nil}
use Rattle.std.proofs.lemmas.Slice.Eq.{bytes_eq-Decides}
use Rattle.std.specs.List.{AllByRecursion, list_any}
use Rattle.std.specs.Str.{bytes_eq}
use Rattle.script_form.specs.declared.scripts.Moment.{Moment}
use Rattle.script_form.specs.declared.scripts.Script.{Script}
use Rattle.session_language.specs.Each.{EachAfter}
use Rattle.session_language.specs.Language.{Kind, BeginText, CommitText, RollbackText, LevelText, OtherText}
use Rattle.session_language.specs.Replies.{are_up_to, are_none, is_last_of, is_outcome, is_row}
use Rattle.session_language.proofs.UpToLaws.{none_only}
use Rattle.report_laws.specs.Nodes.{downs, is_up, up_count, are_few}
use Rattle.report_laws.specs.Play.{GoDownAtChanges, HasChanges, IsOrMemory, IsToldFirst, IsTimely, is_begin, loss_of, begins}
use Rattle.report_laws.specs.History.{Basis}
use Rattle.report_laws.specs.Told.{Numbered, told, lines_of}
use Rattle.report_laws.specs.View.{View}
use Rattle.report_text.specs.declared.reports.Line.{Line}
use Rattle.report_text.specs.declared.reports.Line.TheVariants as line
use Rattle.cdb_values.specs.declared.replies.Reply.{Reply}
use Rattle.cdb_values.specs.declared.replies.Reply.TheVariants as reply
use Rattle.report_laws.proofs.NodesLaws.{downs_append, downs_of}
use Rattle.node_reports.specs.Arms.{stops, is_last_a_row, is_last_a_down, is_row_due, is_of_row, rows_of}
use Rattle.node_reports.specs.Site.{is_line_of}
use Rattle.node_reports.specs.Piece.{replies_in, are_ready}
use Rattle.node_reports.proofs.OneNode.{IsFirstIfBegin}

pub none_some : (down : ℕ) → None ≡ Some down → ⊥
none_some down is = cc

pub same_some : (a b : ℕ) → Some a ≡ Some b → a ≡ b
same_some a b is = cc

pub and_one : (a b : Bool) → (a && b) ≡ true → (a ≡ true) × (b ≡ true)
and_one true b is = (refl, is)
and_one false b is = absurd (false≢true is)

-- no line of a session tells that a node went down
pub no_down : (name : List ℕ) (number : ℕ) (rs : List Reply) (front back : List Line) (count node : ℕ) (fault : Bool) → lines_of name number rs ≡ front ++ line.Down count node fault ∷ back → ⊥
no_down name number rs front back count node fault is =
    let none : downs (lines_of name number rs) ≡ 0 = downs_of name number rs in
    let same : downs (lines_of name number rs) ≡ downs (front ++ line.Down count node fault ∷ back) = ap downs is in
    let parts : downs (front ++ line.Down count node fault ∷ back) ≡ downs front + (downs back + 1) = downs_append front (line.Down count node fault ∷ back) in
    omega (arith, none, same, parts)

pub not_last_down : (name : List ℕ) (number : ℕ) (rs : List Reply) → is_last_a_down (lines_of name number rs) ≡ false
not_last_down name number [] = refl
not_last_down name number (r ∷ []) = refl
not_last_down name number (r ∷ q ∷ rs) = not_last_down name number (q ∷ rs)

pub none_due : (arms : List Moment) (session : List ℕ) (front : List Line) → arms ≡ [] → is_row_due arms session front ≡ false
none_due arms session front bare = and_right (is_last_a_row front) (list_any (is_of_row (rows_of session front)) arms) (ap (list_any (is_of_row (rows_of session front))) bare)

-- behind a last reply there is none
pub last_one : (f : Reply → Bool) (rs : List Reply) (r : Reply) (more : List Reply) → are_up_to f (rs ++ r ∷ more) ≡ true → f r ≡ true → more ≡ []
last_one f [] r more is last = none_only more (sym (ap (λ (b : Bool). if b then are_none more else are_up_to f more) last) ∙ is)
last_one f (x ∷ rs) r more is last = go (f x) (λ e. last_one f rs r more e last) is
  where
    none_none : (rs : List Reply) → are_none (rs ++ r ∷ more) ≡ false
    none_none [] = refl
    none_none (y ∷ ys) = refl

    go : (b : Bool) → (are_up_to f (rs ++ r ∷ more) ≡ true → more ≡ []) → (if b then are_none (rs ++ r ∷ more) else are_up_to f (rs ++ r ∷ more)) ≡ true → more ≡ []
    go true further e = absurd (both_ways (are_none (rs ++ r ∷ more)) (none_none rs) e)
    go false further e = further e

pub outcome_is_last : (own : Bool) (r : Reply) → is_outcome r ≡ true → is_row r ≡ false → is_last_of own r ≡ true
outcome_is_last true r is row = is
outcome_is_last false r is row = ap not row

-- replies that are ready are not up to a last one
pub quiet_not_up : (rs : List Reply) → list_any is_outcome rs ≡ false → are_up_to is_outcome rs ≡ false
quiet_not_up [] none = refl
quiet_not_up (r ∷ rs) none = go (is_outcome r) (λ e. quiet_not_up rs e) none
  where
    go : (b : Bool) → (list_any is_outcome rs ≡ false → are_up_to is_outcome rs ≡ false) → (b || list_any is_outcome rs) ≡ false → (if b then are_none rs else are_up_to is_outcome rs) ≡ false
    go true more is = absurd (true≢false is)
    go false more is = more is

pub not_true : (b : Bool) → not b ≡ true → b ≡ false
not_true true is = absurd (false≢true is)
not_true false is = refl

pub begin_no_outcome : (r : Reply) → is_begin r ≡ true → is_outcome r ≡ false
begin_no_outcome (reply.Begin position) is = refl
begin_no_outcome (reply.Row row) is = refl
begin_no_outcome (reply.Done rows) is = refl
begin_no_outcome (reply.Changed rows) is = refl
begin_no_outcome (reply.Error cause) is = refl
begin_no_outcome (reply.Level level) is = refl
begin_no_outcome reply.RolledBack is = absurd (false≢true is)
begin_no_outcome (reply.Committed position) is = absurd (false≢true is)
begin_no_outcome (reply.ConflictGenid position table genid) is = absurd (false≢true is)
begin_no_outcome (reply.ConflictRange position table key) is = absurd (false≢true is)
begin_no_outcome (reply.Duplicate position table key) is = absurd (false≢true is)
begin_no_outcome (reply.Lost node down) is = absurd (false≢true is)
begin_no_outcome (reply.NoMajority up nodes) is = absurd (false≢true is)
begin_no_outcome reply.NoMemory is = absurd (false≢true is)

-- behind an outcome alone nothing is ready
pub outcome_not_ready : (own : Bool) (r : Reply) → is_outcome r ≡ true → are_ready own (r ∷ []) ≡ true → ⊥
outcome_not_ready false r is ready = false≢true ready
outcome_not_ready true r is ready = both_ways (is_outcome r) (begin_no_outcome r (and_one (is_begin r) _ ready).0) is

pub line_same : (name session : List ℕ) (txn number : ℕ) (r : Reply) → name ≡ session → txn ≡ number → line.Session name txn r ≡ line.Session session number r
line_same name session txn number r is_name is_txn = ap (λ (n : List ℕ). line.Session n txn r) is_name ∙ ap (λ (t : ℕ). line.Session session t r) is_txn

pub lacks_same : (b m f g : Bool) → m ≡ false → f ≡ g → (((b && true) || m) && f) ≡ (b && g)
lacks_same true m f g none is = is
lacks_same false true f g none is = absurd (true≢false none)
lacks_same false false f g none is = refl

pub not_later : (b n m f : Bool) → n ≡ false → m ≡ false → (((b && n) || m) && f) ≡ true → ⊥
not_later b true m f is none e = true≢false is
not_later b false true f is none e = true≢false none
not_later true false false f is none e = false≢true e
not_later false false false f is none e = false≢true e

pub begin_is : (r : Reply) → is_begin r ≡ true → (p : ℕ) × (r ≡ reply.Begin p)
begin_is (reply.Begin position) is = (position, refl)
begin_is (reply.Row row) is = absurd (false≢true is)
begin_is (reply.Done rows) is = absurd (false≢true is)
begin_is (reply.Changed rows) is = absurd (false≢true is)
begin_is (reply.Error cause) is = absurd (false≢true is)
begin_is (reply.Level level) is = absurd (false≢true is)
begin_is reply.RolledBack is = absurd (false≢true is)
begin_is (reply.Committed position) is = absurd (false≢true is)
begin_is (reply.ConflictGenid position table genid) is = absurd (false≢true is)
begin_is (reply.ConflictRange position table key) is = absurd (false≢true is)
begin_is (reply.Duplicate position table key) is = absurd (false≢true is)
begin_is (reply.Lost node down) is = absurd (false≢true is)
begin_is (reply.NoMajority up nodes) is = absurd (false≢true is)
begin_is reply.NoMemory is = absurd (false≢true is)

-- what is told before a commit
pub ready_first : (own : Bool) (now after : ℕ) (rs : List Reply) → are_ready own rs ≡ true → AllByRecursion (IsTimely now after) rs → IsToldFirst now own rs
ready_first false now after rs is timely = none_only rs is
ready_first true now after [] is timely = absurd (false≢true is)
ready_first true now after (r ∷ rs) is timely = (rs, ap (λ (x : Reply). x ∷ rs) (begun.1 ∙ ap reply.Begin at), parts.0, not_true (list_any is_outcome rs) parts.1)
  where
    begun : (p : ℕ) × (r ≡ reply.Begin p)
    begun = begin_is r (and_one (is_begin r) _ is).0

    at : begun.0 ≡ now
    at = subst (IsTimely now after) begun.1 timely.0

    parts : (are_up_to (is_last_of false) rs ≡ true) × (not (list_any is_outcome rs) ≡ true)
    parts = and_one (are_up_to (is_last_of false) rs) _ (and_one (is_begin r) _ is).1

-- it is not all that is told, and tells of no commit
pub ready_not_up : (own : Bool) (rs : List Reply) → are_ready own rs ≡ true → are_up_to (is_last_of own) rs ≡ true → ⊥
ready_not_up false rs is up = false≢true (subst (λ (x : List Reply). are_up_to (is_last_of false) x ≡ true) (none_only rs is) up)
ready_not_up true [] is up = false≢true is
ready_not_up true (r ∷ rs) is up = both_ways (are_up_to is_outcome (r ∷ rs)) (quiet_not_up (r ∷ rs) quiet) up
  where
    quiet : list_any is_outcome (r ∷ rs) ≡ false
    quiet = ap (λ (b : Bool). b || list_any is_outcome rs) (begin_no_outcome r (and_one (is_begin r) _ is).0) ∙ not_true (list_any is_outcome rs) (and_one (are_up_to (is_last_of false) rs) _ (and_one (is_begin r) _ is).1).1

-- a line of a session tells it something
pub told_some : (session name : List ℕ) (txn : ℕ) (r : Reply) (ls : List Line) → name ≡ session → replies_in session (line.Session name txn r ∷ ls) ≡ [] → ⊥
told_some session name txn r ls same is =
    let more : r ∷ replies_in session ls ≡ [] = sym (ap (λ (b : Bool). map (λ t. t.1) ((if b then (txn, r) ∷ [] else []) ++ told session ls)) ((bytes_eq-Decides name session).1 same)) ∙ is in cc

-- replies that are ready have no outcome among them
pub quiet_all : (rs : List Reply) → list_any is_outcome rs ≡ false → AllByRecursion (λ r. is_outcome r ≡ false) rs
quiet_all [] none = tt
quiet_all (r ∷ rs) none = go (is_outcome r) refl (λ e. quiet_all rs e) none
  where
    go : (b : Bool) → is_outcome r ≡ b → (list_any is_outcome rs ≡ false → AllByRecursion (λ r. is_outcome r ≡ false) rs) → (b || list_any is_outcome rs) ≡ false → (is_outcome r ≡ false) × AllByRecursion (λ r. is_outcome r ≡ false) rs
    go true e more is = absurd (true≢false is)
    go false e more is = (e, more is)

pub ready_quiet : (own : Bool) (rs : List Reply) → are_ready own rs ≡ true → AllByRecursion (λ r. is_outcome r ≡ false) rs
ready_quiet false rs is = subst (λ (x : List Reply). AllByRecursion (λ r. is_outcome r ≡ false) x) (sym (none_only rs is)) tt
ready_quiet true [] is = tt
ready_quiet true (r ∷ rs) is = (begin_no_outcome r (and_one (is_begin r) _ is).0, quiet_all rs (not_true (list_any is_outcome rs) (and_one (are_up_to (is_last_of false) rs) _ (and_one (is_begin r) _ is).1).1))

-- of one node that is down none is up
pub count_none : (n : ℕ) (lines : List Line) → n ≡ 1 → is_up 1 lines ≡ false → up_count n lines ≡ 0
count_none n lines is down = subst (λ (k : ℕ). up_count k lines ≡ 0) (sym is) (ap (λ (b : Bool). 0 + (if b then 1 else 0)) down)

pub map_two : (xs ys : List Numbered) → map (λ t. t.1) (xs ++ ys) ≡ map (λ t. t.1) xs ++ map (λ t. t.1) ys
map_two [] ys = refl
map_two (x ∷ xs) ys = ap (λ (rest : List Reply). x.1 ∷ rest) (map_two xs ys)

-- what is told before an outcome and is no begin is timely
pub timely_quiet : (now after : ℕ) (r : Reply) → is_begin r ≡ false → is_outcome r ≡ false → IsTimely now after r
timely_quiet now after (reply.Begin position) is quiet = absurd (true≢false is)
timely_quiet now after (reply.Row row) is quiet = tt
timely_quiet now after (reply.Done rows) is quiet = tt
timely_quiet now after (reply.Changed rows) is quiet = tt
timely_quiet now after (reply.Error cause) is quiet = tt
timely_quiet now after (reply.Level level) is quiet = tt
timely_quiet now after reply.RolledBack is quiet = absurd (true≢false quiet)
timely_quiet now after (reply.Committed position) is quiet = absurd (true≢false quiet)
timely_quiet now after (reply.ConflictGenid position table genid) is quiet = absurd (true≢false quiet)
timely_quiet now after (reply.ConflictRange position table key) is quiet = absurd (true≢false quiet)
timely_quiet now after (reply.Duplicate position table key) is quiet = absurd (true≢false quiet)
timely_quiet now after (reply.Lost node down) is quiet = absurd (true≢false quiet)
timely_quiet now after (reply.NoMajority up nodes) is quiet = absurd (true≢false quiet)
timely_quiet now after reply.NoMemory is quiet = absurd (true≢false quiet)

pub all_timely : (now after : ℕ) (rs : List Reply) → AllByRecursion (λ r. is_begin r ≡ false) rs → AllByRecursion (λ r. is_outcome r ≡ false) rs → AllByRecursion (IsTimely now after) rs
all_timely now after [] begins quiet = tt
all_timely now after (r ∷ rs) begins quiet = (timely_quiet now after r begins.0 quiet.0, all_timely now after rs begins.1 quiet.1)

-- each member after those before, in two parts
pub each_front : {A : Type 0} (P : List A → A → Type 0) (before xs ys : List A) → EachAfter P before (xs ++ ys) → EachAfter P before xs
each_front P before [] ys a = tt
each_front P before (x ∷ xs) ys a = (a.0, each_front P (before ++ x ∷ []) xs ys a.1)

pub each_back : {A : Type 0} (P : List A → A → Type 0) (before xs ys : List A) → EachAfter P before (xs ++ ys) → EachAfter P (before ++ xs) ys
each_back P before [] ys a = subst (λ (l : List _). EachAfter P l ys) (sym (append-nil before)) a
each_back P before (x ∷ xs) ys a = subst (λ (l : List _). EachAfter P l ys) (append_assoc before (x ∷ []) xs) (each_back P (before ++ x ∷ []) xs ys a.1)

-- a session that was told something was so
pub any_more : (p : Line → Bool) (xs ys : List Line) → list_any p xs ≡ true → list_any p (xs ++ ys) ≡ true
any_more p [] ys is = absurd (false≢true is)
any_more p (x ∷ xs) ys is = go (p x) is (λ e. any_more p xs ys e)
  where
    go : (b : Bool) → (b || list_any p xs) ≡ true → (list_any p xs ≡ true → list_any p (xs ++ ys) ≡ true) → (b || list_any p (xs ++ ys)) ≡ true
    go true e more = refl
    go false e more = more e

pub any_last : (p : Line → Bool) (xs : List Line) (x : Line) → p x ≡ true → list_any p (xs ++ x ∷ []) ≡ true
any_last p [] x is = or_left (p x) false is
any_last p (y ∷ ys) x is = or_right (p y) (list_any p (ys ++ x ∷ [])) (any_last p ys x is)

-- behind a line of its transaction no begin is told
pub later_begins : (session : List ℕ) (number : ℕ) (before : List Line) (rs : List Reply) → list_any (is_line_of session number) before ≡ true → EachAfter IsFirstIfBegin before (lines_of session number rs) → AllByRecursion (λ r. is_begin r ≡ false) rs
later_begins session number before [] was each = tt
later_begins session number before (r ∷ rs) was each = (false_from_ne_true (is_begin r) (λ e. both_ways (list_any (is_line_of session number) before) (each.0 e) was), later_begins session number (before ++ line.Session session number r ∷ []) rs (any_more (is_line_of session number) before (line.Session session number r ∷ []) was) each.1)

pub begins_none : (kind : Kind) (pending : Option (List (List ℕ))) (script : Script) (before : List Line) (session : List ℕ) (number : ℕ) → begins kind pending ≡ true → loss_of script before session number pending ≡ None
begins_none kind None script before session number is = refl
begins_none BeginText (Some texts) script before session number is = absurd (false≢true is)
begins_none CommitText (Some texts) script before session number is = absurd (false≢true is)
begins_none RollbackText (Some texts) script before session number is = absurd (false≢true is)
begins_none (LevelText level) (Some texts) script before session number is = absurd (false≢true is)
begins_none OtherText (Some texts) script before session number is = absurd (false≢true is)

pub first_ready : (now : ℕ) (own : Bool) (rs : List Reply) → IsToldFirst now own rs → are_ready own rs ≡ true
first_ready now false rs is = ap are_none is
first_ready now true rs (replies, says, up, quiet) = ap (are_ready true) says ∙ and_from (are_up_to (is_last_of false) replies) (not (list_any is_outcome replies)) up (ap not quiet)

-- what is told before the outcome is not up to a last one
pub open_front : (own : Bool) (rs : List Reply) → are_ready own rs ≡ true → AllByRecursion (λ r. is_last_of own r ≡ false) rs
open_front false rs is = subst (λ (x : List Reply). AllByRecursion (λ r. is_last_of false r ≡ false) x) (sym (none_only rs is)) tt
open_front true rs is = ready_quiet true rs is

pub front_timely : (now after : ℕ) (own : Bool) (session : List ℕ) (number : ℕ) (before : List Line) (rs : List Reply) → IsToldFirst now own rs → EachAfter IsFirstIfBegin before (lines_of session number rs) → AllByRecursion (IsTimely now after) rs
front_timely now after false session number before rs is firsts = subst (λ (x : List Reply). AllByRecursion (IsTimely now after) x) (sym is) tt
front_timely now after true session number before rs (replies, says, up, quiet) firsts =
    subst (λ (x : List Reply). AllByRecursion (IsTimely now after) x) (sym says) (
      refl,
      all_timely now after replies
          (later_begins session number (before ++ line.Session session number (reply.Begin now) ∷ []) replies (any_last (is_line_of session number) before (line.Session session number (reply.Begin now)) its) (subst (λ (x : List Reply). EachAfter IsFirstIfBegin before (lines_of session number x)) says firsts).1)
          (quiet_all replies quiet),
    )
  where
    its : is_line_of session number (line.Session session number (reply.Begin now)) ≡ true
    its = and_from (bytes_eq session session) (number == number) ((bytes_eq-Decides session session).1 refl) (eq-eqb number number refl)

-- one node that is up is not few
pub enough : (n : ℕ) (lines : List Line) → n ≡ 1 → is_up 1 lines ≡ true → are_few n lines ≡ false
enough n lines is up = subst (λ (k : ℕ). are_few k lines ≡ false) (sym is) (ap (λ (b : Bool). leb 1 1 && leb (2 * (0 + (if b then 1 else 0))) 1) up)

pub no_stops : (name : List ℕ) (number : ℕ) (rs : List Reply) → stops (lines_of name number rs) ≡ 0
no_stops name number [] = refl
no_stops name number (r ∷ rs) = no_stops name number rs

-- a reply in the place of an outcome that is none of a commit is an outcome too, and no row
pub or_outcome : (answer r : Reply) → IsOrMemory answer r → is_outcome answer ≡ true → is_outcome r ≡ true
or_outcome answer r (inl is) out = ap is_outcome is ∙ out
or_outcome answer r (inr is) out = ap is_outcome is

pub or_row : (answer r : Reply) → IsOrMemory answer r → is_row answer ≡ false → is_row r ≡ false
or_row answer r (inl is) row = ap is_row is ∙ row
or_row answer r (inr is) row = ap is_row is

pub or_not_committed : (answer r : Reply) → IsOrMemory answer r → ((position : ℕ) → answer ≡ reply.Committed position → ⊥) → (position : ℕ) → r ≡ reply.Committed position → ⊥
or_not_committed answer r (inl is) never position e = never position (sym is ∙ e)
or_not_committed answer r (inr is) never position e = cc

-- a line that a node went down stands right before a line of a transaction that was told its begin and has operations, line by
-- line
abbrev pub FallsHere : Basis → View → List Line → Line → List Line → Type 0
FallsHere basis view before (line.Session name txn answer) ls = Unit {0}
FallsHere basis view before (line.Down count node fault) [] = Unit {0}
FallsHere basis view before (line.Down count node fault) (line.Session name txn answer ∷ ls) = HasChanges basis view before name txn
FallsHere basis view before (line.Down count node fault) (line.Down next other again ∷ ls) = Unit {0}
FallsHere basis view before (line.Down count node fault) (line.Up other ∷ ls) = Unit {0}
FallsHere basis view before (line.Down count node fault) (line.Barrier ∷ ls) = Unit {0}
FallsHere basis view before (line.Down count node fault) (line.Fed position ∷ ls) = Unit {0}
FallsHere basis view before (line.Up node) ls = Unit {0}
FallsHere basis view before line.Barrier ls = Unit {0}
FallsHere basis view before (line.Fed position) ls = Unit {0}

abbrev pub FallAtChanges : Basis → View → List Line → List Line → Type 0
FallAtChanges basis view before [] = Unit {0}
FallAtChanges basis view before (l ∷ ls) = FallsHere basis view before l ls × FallAtChanges basis view (before ++ l ∷ []) ls

pub falls_are : (basis : Basis) (view : View) (before lines : List Line) → FallAtChanges basis view before lines → GoDownAtChanges basis view before lines
falls_are basis view before lines all [] back count node fault session number told is =
    subst (λ (ls : List Line). HasChanges basis view ls session number) (sym (append-nil before)) (subst (FallAtChanges basis view before) is all).0
falls_are basis view before lines all (x ∷ front) back count node fault session number told is =
    subst (λ (ls : List Line). HasChanges basis view ls session number) (append_assoc before (x ∷ []) front)
    (falls_are basis view (before ++ x ∷ []) (front ++ line.Down count node fault ∷ line.Session session number told ∷ back) (subst (FallAtChanges basis view before) is all).1 front back count node fault session number told refl)

-- lines of a session before others
pub quiet_falls : (basis : Basis) (view : View) (before : List Line) (name : List ℕ) (number : ℕ) (rs : List Reply) (others : List Line) → FallAtChanges basis view (before ++ lines_of name number rs) others → FallAtChanges basis view before (lines_of name number rs ++ others)
quiet_falls basis view before name number [] others more = subst (λ (ls : List Line). FallAtChanges basis view ls others) (append-nil before) more
quiet_falls basis view before name number (r ∷ rs) others more = (
  tt,
  quiet_falls basis view (before ++ line.Session name number r ∷ []) name number rs others
      (subst (λ (ls : List Line). FallAtChanges basis view ls others) (sym (append_assoc before (line.Session name number r ∷ []) (lines_of name number rs))) more),
)

-- lines of a session with a line that its node went down before the last of them
pub fall_falls : (basis : Basis) (view : View) (before : List Line) (name : List ℕ) (number : ℕ) (rs : List Reply) (count node : ℕ) (fault : Bool) (told : Reply) (others : List Line) → HasChanges basis view (before ++ lines_of name number rs) name number →
    FallAtChanges basis view (before ++ (lines_of name number rs ++ line.Down count node fault ∷ line.Session name number told ∷ [])) others → FallAtChanges basis view before ((lines_of name number rs ++ line.Down count node fault ∷ line.Session name number told ∷ []) ++ others)
fall_falls basis view before name number rs count node fault told others changes more =
    subst (FallAtChanges basis view before) (sym (append_assoc (lines_of name number rs) (line.Down count node fault ∷ line.Session name number told ∷ []) others))
    (quiet_falls basis view before name number rs (line.Down count node fault ∷ line.Session name number told ∷ others) (changes, (tt, subst (λ (ls : List Line). FallAtChanges basis view ls others) (sym place) more)))
  where
    place : ((before ++ lines_of name number rs) ++ line.Down count node fault ∷ []) ++ line.Session name number told ∷ [] ≡ before ++ (lines_of name number rs ++ line.Down count node fault ∷ line.Session name number told ∷ [])
    place = append_assoc (before ++ lines_of name number rs) (line.Down count node fault ∷ []) (line.Session name number told ∷ []) ∙ append_assoc before (lines_of name number rs) (line.Down count node fault ∷ line.Session name number told ∷ [])

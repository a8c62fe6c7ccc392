-- How a story is shown to be lawful: what can be decided of its lines is computed, and the rest is given. The lines are fresh
-- and have their places, and the operator's lines have theirs, so many lines of the report each.
use Rattle.std.proofs.Common.{◌≡◌, ℕ, ◌+◌, ◌≤◌, ◌==◌, ◌&&◌, ◌||◌, List, [], ◌∷◌, ◌++◌, refl, sym, subst, ap, ◌∙◌, arith, Option, Some, None, Bool, true, false, not, if◌then◌else◌, ◌⊎◌, inl, inr, codes, append_assoc, take, drop}
use Rattle.std.specs.Prelude.{leb, ◌≢◌}
use Rattle.std.specs.List.{AllByRecursion, list_any}
use Rattle.std.specs.Str.{bytes_eq}
use Rattle.std.proofs.lemmas.Bool.{true≢false, false≢true, and_parts, leb-true, eqb-true, not-true}
use Rattle.std.proofs.lemmas.List.{take-append-drop, append-nil}
use Rattle.std.proofs.lemmas.Slice.Eq.{bytes_eq-Decides}
use Rattle.cdb_values.specs.Good.{IsGood}
use Rattle.cdb_values.specs.Rows.{apply_all}
use Rattle.cdb_values.specs.declared.replies.Reply.{Reply}
use Rattle.cdb_values.specs.declared.replies.Reply.TheVariants as reply
use Rattle.script_form.specs.declared.scripts.Script.{Script}
use Rattle.script_form.specs.declared.scripts.Act.{Act}
use Rattle.script_form.specs.declared.scripts.Act.TheVariants as act
use Rattle.script_form.specs.declared.scripts.BodyLine.{BodyLine}
use Rattle.session_language.proofs.UpToLaws.{same_head, same_tail}
use Rattle.session_language.specs.Each.{EachAfter, StandsIn}
use Rattle.session_language.specs.Touched.{used_at}
use Rattle.report_laws.proofs.HistoryLaws.{none_stands}
use Rattle.report_laws.proofs.LineLaws.{fresh_begin}
use Rattle.report_laws.specs.Cut.{cuts}
use Rattle.report_laws.specs.History.{Basis, Origin, IsCommitAfter, IsEntryAfter, alone_on, is_entry_of, last_position, rows_at, view_of}
use Rattle.report_laws.specs.Lawful.{base_line, positions, IsFreshAnswer, IsFreshLine, NameUpTo}
use Rattle.report_laws.specs.Nodes.{are_few, downs, is_up, up_count}
use Rattle.report_laws.specs.Outcome.{Ends, IsEntered, IsRight}
use Rattle.report_laws.specs.Places.{HasItsCause, IsLost, is_loss_by, survives}
use Rattle.report_laws.specs.Play.{is_begin, is_begin_of}
use Rattle.report_laws.specs.Told.{alone_at, numbered, told, Along, Numbered}
use Rattle.report_laws.specs.View.{View}
use Rattle.report_laws.specs.Work.{work, transaction_of, Does, Transaction}
use Rattle.report_text.specs.declared.reports.EntryLine.{EntryLine}
use Rattle.report_text.specs.declared.reports.EntryLine.TheVariants.{Commit}
use Rattle.report_text.specs.declared.reports.Line.{Line}
use Rattle.report_text.specs.declared.reports.Line.TheVariants as line
use Rattle.report_text.specs.declared.reports.Report.{Report}
use Rattle.report_worked.specs.Small.{from_nothing, small_language}
use Rattle.script_form.specs.CanRun.{script_tables}
use Rattle.report_worked.proofs.WorkedLemmas.{IsTheirs}
use Rattle.node_reports.specs.Fed.{AreFeeds}
use Rattle.node_reports.specs.Lawful.{LawfulOfNodes}
use Rattle.node_reports.specs.Operator.{operators, AreHeeded, Closes, IsArmed, IsHeeded}
use Rattle.node_reports.specs.Order.{last_fed}
use Rattle.node_reports.specs.Places.{HasPlace}
use Rattle.node_reports.specs.Told.{IsEntryHeard, IsHeard, IsToldAlong, MayBeCut, MayEnd}
use Rattle.node_stories.specs.Stories.{lost_stands, lost_stands_report}
use Rattle.node_stories.proofs.HeardLemmas.{IsSaidByThem, IsToThem, along_them, never_armed, no_arms}

-- whose lines they are

abbrev pub is_theirs : List ℕ → Bool
is_theirs name = bytes_eq name (codes "a") || bytes_eq name (codes "b")

theirs_is : (name : List ℕ) → is_theirs name ≡ true → IsTheirs name
theirs_is name is = go (bytes_eq name (codes "a")) refl is
  where
    go : (b : Bool) → bytes_eq name (codes "a") ≡ b → (b || bytes_eq name (codes "b")) ≡ true → IsTheirs name
    go true at is = inl ((bytes_eq-Decides name (codes "a")).0 at)
    go false at is = inr ((bytes_eq-Decides name (codes "b")).0 is)

abbrev pub is_said_by_them : Act → Bool
is_said_by_them (act.Say session text) = is_theirs session
is_said_by_them (act.Stop node) = true
is_said_by_them (act.Start node) = true
is_said_by_them (act.Arm session moment) = true
is_said_by_them act.Barrier = true
is_said_by_them act.Feed = true

abbrev pub are_said_by_them : List BodyLine → Bool
are_said_by_them [] = true
are_said_by_them (b ∷ bs) = is_said_by_them b.act && are_said_by_them bs

said_by_them : (bs : List BodyLine) → are_said_by_them bs ≡ true → AllByRecursion (λ (b : BodyLine). IsSaidByThem b.act) bs
said_by_them [] is = tt
said_by_them (b ∷ bs) is = (go b.act (and_parts (is_said_by_them b.act) (are_said_by_them bs) is).0, said_by_them bs (and_parts (is_said_by_them b.act) (are_said_by_them bs) is).1)
  where
    go : (a : Act) → is_said_by_them a ≡ true → IsSaidByThem a
    go (act.Say session text) is = theirs_is session is
    go (act.Stop node) is = tt
    go (act.Start node) is = tt
    go (act.Arm session moment) is = tt
    go act.Barrier is = tt
    go act.Feed is = tt

abbrev pub is_to_them : Line → Bool
is_to_them (line.Session session txn answer) = is_theirs session
is_to_them (line.Down count node fault) = true
is_to_them (line.Up node) = true
is_to_them line.Barrier = true
is_to_them (line.Fed position) = true

abbrev pub are_to_them : List Line → Bool
are_to_them [] = true
are_to_them (l ∷ ls) = is_to_them l && are_to_them ls

to_them : (ls : List Line) → are_to_them ls ≡ true → AllByRecursion IsToThem ls
to_them [] is = tt
to_them (l ∷ ls) is = (go l (and_parts (is_to_them l) (are_to_them ls) is).0, to_them ls (and_parts (is_to_them l) (are_to_them ls) is).1)
  where
    go : (x : Line) → is_to_them x ≡ true → IsToThem x
    go (line.Session session txn answer) is = theirs_is session is
    go (line.Down count node fault) is = tt
    go (line.Up node) is = tt
    go line.Barrier is = tt
    go (line.Fed position) is = tt

-- begins

abbrev pub up_to : ℕ → List ℕ → Bool
up_to b [] = true
up_to b (p ∷ ps) = leb p b && up_to b ps

abbrev pub name_up_to : ℕ → List Line → Bool
name_up_to b [] = true
name_up_to b (l ∷ ls) = up_to b (positions l) && name_up_to b ls

up_to_is : (b : ℕ) (ps : List ℕ) → up_to b ps ≡ true → AllByRecursion (λ p. p ≤ b) ps
up_to_is b [] is = tt
up_to_is b (p ∷ ps) is = (leb-true p b (and_parts (leb p b) (up_to b ps) is).0, up_to_is b ps (and_parts (leb p b) (up_to b ps) is).1)

name_up_to_is : (b : ℕ) (ls : List Line) → name_up_to b ls ≡ true → NameUpTo b ls
name_up_to_is b [] is = tt
name_up_to_is b (l ∷ ls) is = (up_to_is b (positions l) (and_parts (up_to b (positions l)) (name_up_to b ls) is).0, name_up_to_is b ls (and_parts (up_to b (positions l)) (name_up_to b ls) is).1)

abbrev pub is_fresh_answer : ℕ → List Line → Reply → Bool
is_fresh_answer base before (reply.Begin position) = leb 1 position && (leb base position && name_up_to position before)
is_fresh_answer base before _ = true

fresh_answer : (origin : Origin) (before : List Line) (name : List ℕ) (answer : Reply) → is_fresh_answer origin.position before answer ≡ true → IsFreshAnswer origin before name answer
fresh_answer origin before name (reply.Begin position) is =
    let first = and_parts (leb 1 position) (leb origin.position position && name_up_to position before) is in
    let later = and_parts (leb origin.position position) (name_up_to position before) first.1 in
    fresh_begin origin before name position (leb-true 1 position first.0) (leb-true origin.position position later.0) (name_up_to_is position before later.1)
fresh_answer origin before name (reply.Row row) is = tt
fresh_answer origin before name (reply.Done rows) is = tt
fresh_answer origin before name (reply.Changed rows) is = tt
fresh_answer origin before name (reply.Error cause) is = tt
fresh_answer origin before name (reply.Level level) is = tt
fresh_answer origin before name reply.RolledBack is = tt
fresh_answer origin before name (reply.Committed position) is = tt
fresh_answer origin before name (reply.ConflictGenid position table genid) is = tt
fresh_answer origin before name (reply.ConflictRange position table key) is = tt
fresh_answer origin before name (reply.Duplicate position table key) is = tt
fresh_answer origin before name (reply.Lost node down) is = tt
fresh_answer origin before name (reply.NoMajority up nodes) is = tt
fresh_answer origin before name reply.NoMemory is = tt

abbrev pub is_fresh_line : ℕ → List Line → Line → Bool
is_fresh_line base before (line.Session name txn answer) = is_fresh_answer base before answer
is_fresh_line base before (line.Down count node fault) = true
is_fresh_line base before (line.Up node) = true
is_fresh_line base before line.Barrier = true
is_fresh_line base before (line.Fed position) = true

abbrev pub are_fresh : ℕ → List Line → List Line → Bool
are_fresh base before [] = true
are_fresh base before (l ∷ ls) = is_fresh_line base before l && are_fresh base (before ++ l ∷ []) ls

fresh_line : (origin : Origin) (before : List Line) (l : Line) → is_fresh_line origin.position before l ≡ true → IsFreshLine origin before l
fresh_line origin before (line.Session name txn answer) is = fresh_answer origin before name answer is
fresh_line origin before (line.Down count node fault) is = tt
fresh_line origin before (line.Up node) is = tt
fresh_line origin before line.Barrier is = tt
fresh_line origin before (line.Fed position) is = tt

fresh_lines : (origin : Origin) (before ls : List Line) → are_fresh origin.position before ls ≡ true → EachAfter (IsFreshLine origin) before ls
fresh_lines origin before [] is = tt
fresh_lines origin before (l ∷ ls) is =
    let both = and_parts (is_fresh_line origin.position before l) (are_fresh origin.position (before ++ l ∷ []) ls) is in
    (fresh_line origin before l both.0, fresh_lines origin (before ++ l ∷ []) ls both.1)

-- places

abbrev pub is_fall : ℕ → ℕ → Line → Bool
is_fall down node (line.Session name txn answer) = false
is_fall down node (line.Down count other fault) = (count == down) && (other == node)
is_fall down node (line.Up other) = false
is_fall down node line.Barrier = false
is_fall down node (line.Fed position) = false

-- the lines behind the first such line
abbrev pub behind_fall : ℕ → ℕ → List Line → List Line
behind_fall down node [] = []
behind_fall down node (l ∷ ls) = if is_fall down node l then ls else behind_fall down node ls

fall_stands : (down node : ℕ) (ls : List Line) → list_any (is_fall down node) ls ≡ true → (fault : Bool) × (front : List Line) × (ls ≡ front ++ line.Down down node fault ∷ behind_fall down node ls)
fall_stands down node [] is = absurd (false≢true is)
fall_stands down node (l ∷ ls) is = go l (is_fall down node l) refl is (λ more. fall_stands down node ls more)
  where
    go : (x : Line) (b : Bool) → is_fall down node x ≡ b → (b || list_any (is_fall down node) ls) ≡ true →
        (list_any (is_fall down node) ls ≡ true → (fault : Bool) × (front : List Line) × (ls ≡ front ++ line.Down down node fault ∷ behind_fall down node ls)) →
        (fault : Bool) × (front : List Line) × (x ∷ ls ≡ front ++ line.Down down node fault ∷ (if b then ls else behind_fall down node ls))
    go x false at is more = let later = more is in (later.0, x ∷ later.1, ap (λ (xs : List Line). x ∷ xs) later.2)
    go (line.Session name txn answer) true at is more = absurd (false≢true at)
    go (line.Down count other fault) true at is more =
        let both = and_parts (count == down) (other == node) at in
        (fault, [], ap (λ (k : ℕ). line.Down k other fault ∷ ls) (eqb-true count down both.0) ∙ ap (λ (k : ℕ). line.Down down k fault ∷ ls) (eqb-true other node both.1))
    go (line.Up other) true at is more = absurd (false≢true at)
    go line.Barrier true at is more = absurd (false≢true at)
    go (line.Fed position) true at is more = absurd (false≢true at)

begin_stands : (session : List ℕ) (txn : ℕ) (ls : List Line) → list_any (is_begin_of session txn) ls ≡ true → (begin : ℕ) × StandsIn ls (line.Session session txn (reply.Begin begin))
begin_stands session txn [] is = absurd (false≢true is)
begin_stands session txn (l ∷ ls) is = go l (is_begin_of session txn l) refl is (λ more. begin_stands session txn ls more)
  where
    first : (name : List ℕ) (number : ℕ) (answer : Reply) → is_begin answer ≡ true → name ≡ session → number ≡ txn → (begin : ℕ) × StandsIn (line.Session name number answer ∷ ls) (line.Session session txn (reply.Begin begin))
    first name number (reply.Begin position) is same number_is = (position, ([], ls, ap (λ (n : List ℕ). line.Session n number (reply.Begin position) ∷ ls) same ∙ ap (λ (k : ℕ). line.Session session k (reply.Begin position) ∷ ls) number_is))
    first name number (reply.Row row) is same number_is = absurd (false≢true is)
    first name number (reply.Done rows) is same number_is = absurd (false≢true is)
    first name number (reply.Changed rows) is same number_is = absurd (false≢true is)
    first name number (reply.Error cause) is same number_is = absurd (false≢true is)
    first name number (reply.Level level) is same number_is = absurd (false≢true is)
    first name number reply.RolledBack is same number_is = absurd (false≢true is)
    first name number (reply.Committed position) is same number_is = absurd (false≢true is)
    first name number (reply.ConflictGenid position table genid) is same number_is = absurd (false≢true is)
    first name number (reply.ConflictRange position table key) is same number_is = absurd (false≢true is)
    first name number (reply.Duplicate position table key) is same number_is = absurd (false≢true is)
    first name number (reply.Lost node down) is same number_is = absurd (false≢true is)
    first name number (reply.NoMajority up nodes) is same number_is = absurd (false≢true is)
    first name number reply.NoMemory is same number_is = absurd (false≢true is)

    go : (x : Line) (b : Bool) → is_begin_of session txn x ≡ b → (b || list_any (is_begin_of session txn) ls) ≡ true → (list_any (is_begin_of session txn) ls ≡ true → (begin : ℕ) × StandsIn ls (line.Session session txn (reply.Begin begin))) → (begin : ℕ) × StandsIn (x ∷ ls) (line.Session session txn (reply.Begin begin))
    go x false at is more = let later = more is in (later.0, (x ∷ later.1.0, later.1.1, ap (λ (xs : List Line). x ∷ xs) later.1.2))
    go (line.Session name number answer) true at is more =
        let both = and_parts (bytes_eq name session) ((number == txn) && is_begin answer) at in
        let parts = and_parts (number == txn) (is_begin answer) both.1 in
        first name number answer parts.1 ((bytes_eq-Decides name session).0 both.0) (eqb-true number txn parts.0)
    go (line.Down count node fault) true at is more = absurd (false≢true at)
    go (line.Up node) true at is more = absurd (false≢true at)
    go line.Barrier true at is more = absurd (false≢true at)
    go (line.Fed position) true at is more = absurd (false≢true at)

abbrev pub are_of : ℕ → List Numbered → Bool
are_of txn [] = true
are_of txn (l ∷ ls) = (l.0 == txn) && are_of txn ls

are_of_is : (txn : ℕ) (ls : List Numbered) → are_of txn ls ≡ true → AllByRecursion (λ (l : Numbered). l.0 ≡ txn) ls
are_of_is txn [] is = tt
are_of_is txn (l ∷ ls) is = (eqb-true l.0 txn (and_parts (l.0 == txn) (are_of txn ls) is).0, are_of_is txn ls (and_parts (l.0 == txn) (are_of txn ls) is).1)

abbrev pub tell_no_loss : ℕ → List Numbered → Bool
tell_no_loss down [] = true
tell_no_loss down (l ∷ ls) = not (is_loss_by down l.1) && tell_no_loss down ls

no_loss_is : (down : ℕ) (ls : List Numbered) → tell_no_loss down ls ≡ true → AllByRecursion (λ (l : Numbered). is_loss_by down l.1 ≡ false) ls
no_loss_is down [] is = tt
no_loss_is down (l ∷ ls) is =
    let both = and_parts (not (is_loss_by down l.1)) (tell_no_loss down ls) is in
    (not-true (is_loss_by down l.1) both.0, no_loss_is down ls both.1)

abbrev pub is_lost : List Line → List ℕ → ℕ → ℕ → ℕ → Bool
is_lost before session txn node down =
    list_any (is_fall down node) before && (are_of txn (told session (behind_fall down node before)) && (list_any (is_begin_of session txn) before && tell_no_loss down (told session before)))

lost_is : (before : List Line) (session : List ℕ) (txn node down : ℕ) → is_lost before session txn node down ≡ true → IsLost before session txn node down
lost_is before session txn node down is =
    let first = and_parts (list_any (is_fall down node) before) _ is in
    let second = and_parts (are_of txn (told session (behind_fall down node before))) _ first.1 in
    let third = and_parts (list_any (is_begin_of session txn) before) (tell_no_loss down (told session before)) second.1 in
    let falls = fall_stands down node before first.0 in
    let begun = begin_stands session txn before third.0 in
    record {
      fault = falls.0;
      front = falls.1;
      back = behind_fall down node before;
      stands = falls.2;
      since = are_of_is txn (told session (behind_fall down node before)) second.0;
      begin = begun.0;
      begun = begun.1;
      once = no_loss_is down (told session before) third.1;
    }

-- a majority is missing right before the line
abbrev pub is_caused : Script → List Line → List ℕ → ℕ → Reply → Bool
is_caused script before session txn (reply.Lost node down) = not (survives script session) && is_lost before session txn node down
is_caused script before session txn (reply.NoMajority up nodes) = (nodes == script.nodes) && ((up == up_count nodes before) && are_few nodes before)
is_caused script before session txn _ = true

caused : (script : Script) (before : List Line) (session : List ℕ) (txn : ℕ) (answer : Reply) → is_caused script before session txn answer ≡ true → HasItsCause script before session txn answer
caused script before session txn (reply.Begin position) is = tt
caused script before session txn (reply.Row row) is = tt
caused script before session txn (reply.Done rows) is = tt
caused script before session txn (reply.Changed rows) is = tt
caused script before session txn (reply.Error cause) is = tt
caused script before session txn (reply.Level level) is = tt
caused script before session txn reply.RolledBack is = tt
caused script before session txn (reply.Committed position) is = tt
caused script before session txn (reply.ConflictGenid position table genid) is = tt
caused script before session txn (reply.ConflictRange position table key) is = tt
caused script before session txn (reply.Duplicate position table key) is = tt
caused script before session txn (reply.Lost node down) is =
    let both = and_parts (not (survives script session)) (is_lost before session txn node down) is in
    (not-true (survives script session) both.0, lost_is before session txn node down both.1)
caused script before session txn (reply.NoMajority up nodes) is =
    let both = and_parts (nodes == script.nodes) ((up == up_count nodes before) && are_few nodes before) is in
    let more = and_parts (up == up_count nodes before) (are_few nodes before) both.1 in
    record {
      are_all = eqb-true nodes script.nodes both.0;
      front = before;
      back = [];
      stands = sym (append-nil before);
      since = refl;
      are_up = eqb-true up (up_count nodes before) more.0;
      few = more.1;
    }
caused script before session txn reply.NoMemory is = tt

abbrev pub is_placed : Script → List Line → Line → Bool
is_placed script before (line.Session session txn answer) = is_caused script before session txn answer
is_placed script before (line.Down count node fault) = (count == (downs before + 1)) && (leb 1 node && (leb node script.nodes && (fault || is_up node before)))
is_placed script before (line.Up node) = leb 1 node && (leb node script.nodes && not (is_up node before))
is_placed script before line.Barrier = true
is_placed script before (line.Fed position) = true

placed : (script : Script) (before : List Line) (l : Line) → is_placed script before l ≡ true → HasPlace script before l
placed script before (line.Session session txn answer) is = caused script before session txn answer is
placed script before (line.Down count node fault) is =
    let first = and_parts (count == (downs before + 1)) (leb 1 node && (leb node script.nodes && (fault || is_up node before))) is in
    let second = and_parts (leb 1 node) (leb node script.nodes && (fault || is_up node before)) first.1 in
    let third = and_parts (leb node script.nodes) (fault || is_up node before) second.1 in
    record { counted = eqb-true count (downs before + 1) first.0; of_script = (leb-true 1 node second.0, leb-true node script.nodes third.0); was_up = stopped fault third.1 }
  where
    stopped : (b : Bool) → (b || is_up node before) ≡ true → b ≡ false → is_up node before ≡ true
    stopped true e stop = absurd (true≢false stop)
    stopped false e stop = e
placed script before (line.Up node) is =
    let first = and_parts (leb 1 node) (leb node script.nodes && not (is_up node before)) is in
    let second = and_parts (leb node script.nodes) (not (is_up node before)) first.1 in
    record { of_script = (leb-true 1 node first.0, leb-true node script.nodes second.0); was_down = not-true (is_up node before) second.1 }
placed script before line.Barrier is = tt
placed script before (line.Fed position) is = tt

abbrev pub are_placed : Script → List Line → List Line → Bool
are_placed script before [] = true
are_placed script before (l ∷ ls) = is_placed script before l && are_placed script (before ++ l ∷ []) ls

places : (script : Script) (before ls : List Line) → are_placed script before ls ≡ true → EachAfter (HasPlace script) before ls
places script before [] is = tt
places script before (l ∷ ls) is =
    let both = and_parts (is_placed script before l) (are_placed script (before ++ l ∷ []) ls) is in
    (placed script before l both.0, places script (before ++ l ∷ []) ls both.1)

-- the operator

abbrev pub are_no_lines : List Line → Bool
are_no_lines [] = true
are_no_lines (l ∷ ls) = false

no_lines : (ls : List Line) → are_no_lines ls ≡ true → ls ≡ []
no_lines [] is = refl
no_lines (l ∷ ls) is = absurd (false≢true is)

-- whether these are no line, or the one that the node was stopped, or came up
abbrev pub is_stop_of : ℕ → List Line → Bool
is_stop_of node [] = true
is_stop_of node (line.Down count other false ∷ []) = other == node
is_stop_of node _ = false

abbrev pub is_start_of : ℕ → List Line → Bool
is_start_of node [] = true
is_start_of node (line.Up other ∷ []) = other == node
is_start_of node _ = false

stop_told : (node : ℕ) (ls : List Line) → is_stop_of node ls ≡ true → (ls ≡ []) ⊎ ((count : ℕ) × (ls ≡ line.Down count node false ∷ []))
stop_told node [] is = inl refl
stop_told node (line.Session name txn answer ∷ ls) is = absurd (false≢true is)
stop_told node (line.Down count other true ∷ ls) is = absurd (false≢true is)
stop_told node (line.Down count other false ∷ []) is = inr (count, ap (λ (k : ℕ). line.Down count k false ∷ []) (eqb-true other node is))
stop_told node (line.Down count other false ∷ l ∷ ls) is = absurd (false≢true is)
stop_told node (line.Up other ∷ ls) is = absurd (false≢true is)
stop_told node (line.Barrier ∷ ls) is = absurd (false≢true is)
stop_told node (line.Fed position ∷ ls) is = absurd (false≢true is)

start_told : (node : ℕ) (ls : List Line) → is_start_of node ls ≡ true → (ls ≡ []) ⊎ (ls ≡ line.Up node ∷ [])
start_told node [] is = inl refl
start_told node (line.Session name txn answer ∷ ls) is = absurd (false≢true is)
start_told node (line.Down count other fault ∷ ls) is = absurd (false≢true is)
start_told node (line.Up other ∷ []) is = inr (ap (λ (k : ℕ). line.Up k ∷ []) (eqb-true other node is))
start_told node (line.Up other ∷ l ∷ ls) is = absurd (false≢true is)
start_told node (line.Barrier ∷ ls) is = absurd (false≢true is)
start_told node (line.Fed position ∷ ls) is = absurd (false≢true is)

-- whether the last of these lines tells that the node went down by a fault
abbrev pub ends_down : ℕ → List Line → Bool
ends_down node [] = false
ends_down node (line.Down count other true ∷ []) = other == node
ends_down node (_ ∷ []) = false
ends_down node (_ ∷ l ∷ ls) = ends_down node (l ∷ ls)

down_told : (node : ℕ) (ls : List Line) → ends_down node ls ≡ true → (front : List Line) × (count : ℕ) × (ls ≡ front ++ line.Down count node true ∷ [])
down_told node [] is = absurd (false≢true is)
down_told node (line.Session name txn answer ∷ []) is = absurd (false≢true is)
down_told node (line.Down count other true ∷ []) is = ([], count, ap (λ (k : ℕ). line.Down count k true ∷ []) (eqb-true other node is))
down_told node (line.Down count other false ∷ []) is = absurd (false≢true is)
down_told node (line.Up other ∷ []) is = absurd (false≢true is)
down_told node (line.Barrier ∷ []) is = absurd (false≢true is)
down_told node (line.Fed position ∷ []) is = absurd (false≢true is)
down_told node (x ∷ l ∷ ls) is = let later = down_told node (l ∷ ls) (go x is) in (x ∷ later.0, later.1, ap (λ (xs : List Line). x ∷ xs) later.2)
  where
    go : (y : Line) → ends_down node (y ∷ l ∷ ls) ≡ true → ends_down node (l ∷ ls) ≡ true
    go (line.Session name txn answer) e = e
    go (line.Down count other true) e = e
    go (line.Down count other false) e = e
    go (line.Up other) e = e
    go line.Barrier e = e
    go (line.Fed position) e = e

abbrev pub is_heeded : (ℕ → Option ℕ) → Act → List Line → List Line → Bool
is_heeded arms (act.Say session text) before mine = are_no_lines mine
is_heeded arms (act.Stop node) before mine = is_stop_of node (operators arms mine) && not (is_up node (before ++ mine))
is_heeded arms (act.Start node) before mine = is_start_of node (operators arms mine) && (is_up node (before ++ mine) || ends_down node mine)
is_heeded arms (act.Arm session moment) before mine = are_no_lines mine
is_heeded arms act.Barrier before mine = false
is_heeded arms act.Feed before mine = false

-- each line of the script has the next so many lines of the report
abbrev pub are_heeded : (ℕ → Option ℕ) → List ℕ → List BodyLine → List Line → List Line → Bool
are_heeded arms counts [] before rest = are_no_lines (operators arms rest)
are_heeded arms [] (b ∷ bs) before rest = false
are_heeded arms (k ∷ counts) (b ∷ bs) before rest = is_heeded arms b.act before (take k rest) && are_heeded arms counts bs (before ++ take k rest) (drop k rest)

module _ (basis : Basis) (view : View) (arms : ℕ → Option ℕ) (unwatched : basis.script.watches ≡ []) where
  heed : (done : List BodyLine) (before mine : List Line) (a : Act) → is_heeded arms a before mine ≡ true → IsHeeded basis view arms done before a mine
  heed done before mine (act.Say session text) is = no_lines mine is
  heed done before mine (act.Stop node) is =
      let both = and_parts (is_stop_of node (operators arms mine)) (not (is_up node (before ++ mine))) is in
      record { told = stop_told node (operators arms mine) both.0; is_down = not-true (is_up node (before ++ mine)) both.1 }
  heed done before mine (act.Start node) is =
      let both = and_parts (is_start_of node (operators arms mine)) (is_up node (before ++ mine) || ends_down node mine) is in
      record { told = start_told node (operators arms mine) both.0; there = there (is_up node (before ++ mine)) refl both.1 }
    where
      there : (b : Bool) → is_up node (before ++ mine) ≡ b → (b || ends_down node mine) ≡ true → (is_up node (before ++ mine) ≡ true) ⊎ ((front : List Line) × (count : ℕ) × (mine ≡ front ++ line.Down count node true ∷ []))
      there true at e = inl at
      there false at e = inr (down_told node mine e)
  heed done before mine (act.Arm session moment) is = no_lines mine is
  heed done before mine act.Barrier is = absurd (false≢true is)
  heed done before mine act.Feed is = absurd (false≢true is)

  heeded : (counts : List ℕ) (done bs : List BodyLine) (before rest : List Line) → are_heeded arms counts bs before rest ≡ true → AreHeeded basis view arms done bs before rest
  heeded counts done [] before rest is = subst (λ ws. Closes basis view arms ws before rest) (sym unwatched) (no_lines (operators arms rest) is)
  heeded [] done (b ∷ bs) before rest is = absurd (false≢true is)
  heeded (k ∷ counts) done (b ∷ bs) before rest is =
      let both = and_parts (is_heeded arms b.act before (take k rest)) (are_heeded arms counts bs (before ++ take k rest) (drop k rest)) is in
      (take k rest, drop k rest, sym (take-append-drop k rest), heed done before (take k rest) b.act both.0, heeded counts (done ++ b ∷ []) bs (before ++ take k rest) (drop k rest) both.1)

-- what holds of each line that a node was stopped, by the lines before and behind it and its number

abbrev pub EachStop : (List Line → List Line → ℕ → Type 0) → List Line → List Line → Type 0
EachStop P front [] = Unit {0}
EachStop P front (line.Session name txn answer ∷ ls) = EachStop P (front ++ line.Session name txn answer ∷ []) ls
EachStop P front (line.Down count node false ∷ ls) = P front ls count × EachStop P (front ++ line.Down count node false ∷ []) ls
EachStop P front (line.Down count node true ∷ ls) = EachStop P (front ++ line.Down count node true ∷ []) ls
EachStop P front (line.Up node ∷ ls) = EachStop P (front ++ line.Up node ∷ []) ls
EachStop P front (line.Barrier ∷ ls) = EachStop P (front ++ line.Barrier ∷ []) ls
EachStop P front (line.Fed position ∷ ls) = EachStop P (front ++ line.Fed position ∷ []) ls

stop_at : (P : List Line → List Line → ℕ → Type 0) (front ls before after : List Line) (count node : ℕ) → EachStop P front ls → ls ≡ before ++ line.Down count node false ∷ after → P (front ++ before) after count
stop_at P front [] [] after count node each is = absurd (let no_such : [] ≡ line.Down count node false ∷ after = is in cc)
stop_at P front [] (x ∷ before) after count node each is = absurd (let no_such : [] ≡ x ∷ (before ++ line.Down count node false ∷ after) = is in cc)
stop_at P front (l ∷ ls) [] after count node each is =
    subst (λ (xs : List Line). P xs after count) (sym (append-nil front))
    (subst (λ (xs : List Line). P front xs count) (same_tail l (line.Down count node false) ls after is)
    (first (subst (λ (x : Line). EachStop P front (x ∷ ls)) (same_head l (line.Down count node false) ls after is) each)))
  where
    first : EachStop P front (line.Down count node false ∷ ls) → P front ls count
    first each = each.0
stop_at P front (l ∷ ls) (x ∷ before) after count node each is =
    subst (λ (xs : List Line). P xs after count) (append_assoc front (l ∷ []) before ∙ ap (λ (y : Line). front ++ y ∷ before) (same_head l x ls (before ++ line.Down count node false ∷ after) is))
    (stop_at P (front ++ l ∷ []) ls before after count node (rest l each) (same_tail l x ls (before ++ line.Down count node false ∷ after) is))
  where
    rest : (y : Line) → EachStop P front (y ∷ ls) → EachStop P (front ++ y ∷ []) ls
    rest (line.Session name txn answer) each = each
    rest (line.Down count node false) each = each.1
    rest (line.Down count node true) each = each
    rest (line.Up node) each = each
    rest line.Barrier each = each
    rest (line.Fed position) each = each

-- how a transaction is told

pub told_whole : {basis : Basis} {view : View} {name : List ℕ} {t : Transaction} {mine : List Reply} (begin : ℕ) (o : Reply) → basis.origin.position ≤ begin → begin ≤ view.last → Ends t.end (o ∷ []) →
    IsRight basis view name t begin (used_at t.level (alone_at basis view t begin)) (alone_at basis view t begin).ops o → mine ≡ reply.Begin begin ∷ ((alone_at basis view t begin).replies ++ o ∷ []) → IsToldAlong basis view name (Does t) mine
told_whole {basis} {view} {name} {t} {mine} begin o base within ends right says =
    inl (record { begin = begin; base = base; within = within; ran = alone_at basis view t begin; is_ran = refl; last = o ∷ []; ends = ends; right = (right, tt); says = says })

pub told_cut : {basis : Basis} {view : View} {name : List ℕ} {t : Transaction} {mine : List Reply} (begin : ℕ) (front rest : List Reply) (cause : Reply) → basis.origin.position ≤ begin → begin ≤ view.last →
    front ++ rest ≡ reply.Begin begin ∷ (alone_at basis view t begin).replies → cuts cause ≡ true → MayBeCut (survives basis.script name) t.end (alone_at basis view t begin).ops front rest cause → mine ≡ front ++ cause ∷ [] → IsToldAlong basis view name (Does t) mine
told_cut {basis} {view} {name} {t} {mine} begin front rest cause base within fits is may says =
    inr (record { begin = begin; base = base; within = within; ran = alone_at basis view t begin; is_ran = refl; front = front; rest = rest; fits = fits; cause = cause; is_cause = is; may = may; says = says })

-- entered at the position right behind its begin
pub entered : {basis : Basis} {view : View} {name : List ℕ} {t : Transaction} {begin : ℕ} → view.entry (begin + 1) ≡ Some (Commit (begin + 1) name t.number begin t.level) → IsGood basis.origin.tables (view.rows (begin + 1)).tables →
    IsEntered basis view name t begin (begin + 1) (used_at t.level (alone_at basis view t begin))
entered {basis} {view} {name} {t} {begin} stands good = record { later = omega arith; stands = stands; untouched = λ j after before. absurd (omega (arith, after, before)); is_good = good }

-- the entry of a transaction that began at the last position
pub next_entry : (basis : Basis) (history : List EntryLine) (session : List ℕ) (t : Transaction) → 1 ≤ last_position basis.origin history → transaction_of basis.language session t.number basis.script.body ≡ Some t →
    AllByRecursion (λ (e : EntryLine). is_entry_of session t.number e ≡ false) history → (alone_on basis ((view_of basis history).rows (last_position basis.origin history)) t.texts).ops ≢ [] →
    IsGood basis.origin.tables (apply_all ((view_of basis history).rows (last_position basis.origin history)) (alone_on basis ((view_of basis history).rows (last_position basis.origin history)) t.texts).ops).tables →
    IsCommitAfter basis (view_of basis history) (last_position basis.origin history + 1) session t.number (last_position basis.origin history) t.level
next_entry basis history session t some its new ops good = record {
  placed = refl;
  once = none_stands basis.origin history session t.number new;
  begun = (some, omega arith, omega arith);
  transaction = t;
  is_its = its;
  is_level = refl;
  ran = alone_on basis ((view_of basis history).rows (last_position basis.origin history)) t.texts;
  is_ran = refl;
  has_ops = ops;
  untouched = λ j after before. absurd (omega (arith, after, before));
  is_good = good;
}

-- what an entry's transaction was told
pub heard : {basis : Basis} {view : View} {lines : List Line} {position : ℕ} {session : List ℕ} {txn begin : ℕ} (t : Transaction) (outcome : Reply) (before after : List Numbered) → transaction_of basis.language session txn basis.script.body ≡ Some t → begin ≤ view.last →
    MayEnd position t.end outcome → told session lines ≡ before ++ (numbered txn (reply.Begin begin ∷ ((alone_at basis view t begin).replies ++ outcome ∷ [])) ++ after) → IsEntryHeard basis view lines position session txn begin
heard {basis} {view} {lines} {position} {session} {txn} {begin} t outcome before after its within ends says =
    record { transaction = t; is_its = its; within = within; ran = alone_at basis view t begin; is_ran = refl; outcome = outcome; ends = ends; before = before; after = after; says = says }

-- the rows of two inserts are good
pub good_two : IsGood (script_tables lost_stands) (rows_at (from_nothing lost_stands) lost_stands_report.entries 3).tables
good_two = record {
  rows_fit = ((record { columns = (refl, (refl, tt)); size = omega arith; keys = (omega arith, tt) }, (record { columns = (refl, (refl, tt)); size = omega arith; keys = (omega arith, tt) }, tt)), tt);
  keys_kept = refl;
}

-- a story is lawful

abbrev pub over : Script → Origin → Basis
over script origin = record { language = small_language; script = script; origin = origin }

abbrev pub IsArmedBy : Basis → (ℕ → Option ℕ) → List Line → List Line → ℕ → Type 0
IsArmedBy basis arms before after count = (place : ℕ) → arms count ≡ Some place → IsArmed basis before after place

abbrev pub is_well_told : Script → ℕ → List Line → Bool
is_well_told script position lines = are_said_by_them script.body && (are_to_them lines && (are_fresh position [] lines && are_placed script [] lines))

pub armed_story : (script : Script) (origin : Origin) (report : Report) (arms : ℕ → Option ℕ) (counts : List ℕ) → is_well_told script origin.position report.lines ≡ true → are_heeded arms counts script.body [] report.lines ≡ true →
    Along (IsToldAlong (over script origin) (view_of (over script origin) report.entries) (codes "a")) (work small_language (codes "a") script.body) (told (codes "a") report.lines) →
    Along (IsToldAlong (over script origin) (view_of (over script origin) report.entries) (codes "b")) (work small_language (codes "b") script.body) (told (codes "b") report.lines) →
    EachAfter (IsEntryAfter (over script origin)) [] report.entries → AllByRecursion (IsHeard (over script origin) (view_of (over script origin) report.entries) report.lines) report.entries →
    EachStop (IsArmedBy (over script origin) arms) [] report.lines → ((count other place : ℕ) → arms count ≡ Some place → arms other ≡ Some place → count ≡ other) →
    script.watches ≡ [] → report.feeds ≡ [] → report.base ≡ base_line origin.position → report.end ≡ last_position origin report.entries → LawfulOfNodes (over script origin) report
armed_story script origin report arms counts well operates of_a of_b history answered stops apart unwatched unfed base end =
    let first = and_parts (are_said_by_them script.body) _ well in
    let second = and_parts (are_to_them report.lines) _ first.1 in
    let third = and_parts (are_fresh origin.position [] report.lines) (are_placed script [] report.lines) second.1 in
    record {
      replies = along_them (IsToldAlong (over script origin) (view_of (over script origin) report.entries)) script.body report.lines (said_by_them script.body first.0) (to_them report.lines second.0) of_a of_b;
      begins = fresh_lines origin [] report.lines third.0;
      history = history;
      answered = answered;
      places = places script [] report.lines third.1;
      operator = record {
        arms = arms;
        armed = λ before after count node place stands arm. stop_at (IsArmedBy (over script origin) arms) [] report.lines before after count node stops stands place arm;
        apart = apart;
        heeded = heeded (over script origin) (view_of (over script origin) report.entries) arms unwatched counts [] script.body [] report.lines operates;
      };
      feeds = fed;
      base = base;
      end = end;
    }
  where
    fed : AreFeeds (over script origin) (view_of (over script origin) report.entries) (last_fed 0 report.lines) 1 script.watches report.feeds
    fed = subst (λ ws. AreFeeds (over script origin) (view_of (over script origin) report.entries) (last_fed 0 report.lines) 1 ws report.feeds) (sym unwatched) unfed

-- where no arm fires
never_fires : (script : Script) (origin : Origin) (front ls : List Line) → EachStop (IsArmedBy (over script origin) no_arms) front ls
never_fires script origin front [] = tt
never_fires script origin front (line.Session name txn answer ∷ ls) = never_fires script origin (front ++ line.Session name txn answer ∷ []) ls
never_fires script origin front (line.Down count node false ∷ ls) = (λ place is. never_armed place is, never_fires script origin (front ++ line.Down count node false ∷ []) ls)
never_fires script origin front (line.Down count node true ∷ ls) = never_fires script origin (front ++ line.Down count node true ∷ []) ls
never_fires script origin front (line.Up node ∷ ls) = never_fires script origin (front ++ line.Up node ∷ []) ls
never_fires script origin front (line.Barrier ∷ ls) = never_fires script origin (front ++ line.Barrier ∷ []) ls
never_fires script origin front (line.Fed position ∷ ls) = never_fires script origin (front ++ line.Fed position ∷ []) ls

pub story : (script : Script) (origin : Origin) (report : Report) (counts : List ℕ) → is_well_told script origin.position report.lines ≡ true → are_heeded no_arms counts script.body [] report.lines ≡ true →
    Along (IsToldAlong (over script origin) (view_of (over script origin) report.entries) (codes "a")) (work small_language (codes "a") script.body) (told (codes "a") report.lines) →
    Along (IsToldAlong (over script origin) (view_of (over script origin) report.entries) (codes "b")) (work small_language (codes "b") script.body) (told (codes "b") report.lines) →
    EachAfter (IsEntryAfter (over script origin)) [] report.entries → AllByRecursion (IsHeard (over script origin) (view_of (over script origin) report.entries) report.lines) report.entries →
    script.watches ≡ [] → report.feeds ≡ [] → report.base ≡ base_line origin.position → report.end ≡ last_position origin report.entries → LawfulOfNodes (over script origin) report
story script origin report counts well operates of_a of_b history answered unwatched unfed base end =
    armed_story script origin report no_arms counts well operates of_a of_b history answered (never_fires script origin [] report.lines) (λ count other place is again. never_armed place is) unwatched unfed base end

-- an arm that fires by one line that a node went down
abbrev pub one_arm : ℕ → ℕ → ℕ → Option ℕ
one_arm count place other = if other == count then Some place else None

pub one_apart : (count place : ℕ) (other again at : ℕ) → one_arm count place other ≡ Some at → one_arm count place again ≡ Some at → other ≡ again
one_apart count place other again at is is' = its other is ∙ sym (its again is')
  where
    its : (k : ℕ) → one_arm count place k ≡ Some at → k ≡ count
    its k e = go (k == count) refl e
      where
        go : (b : Bool) → (k == count) ≡ b → (if b then Some place else None) ≡ Some at → k ≡ count
        go true same found = eqb-true k count same
        go false same found = absurd (let no_such : None ≡ Some at = found in cc)

-- that line
pub armed_by : (P : ℕ → Type 0) (place : ℕ) → P place → (at : ℕ) → Some place ≡ Some at → P at
armed_by P place p at is = subst P (let it : place ≡ at = cc in it) p

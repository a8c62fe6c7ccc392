-- Where a session is, by its place among the sessions, and that a line of its own changes no other.
use Rattle.std.proofs.Common.{◌≡◌, ℕ, zero, suc, ◌+◌, ◌≤◌, ◌<◌, List, [], ◌∷◌, length, map, refl, sym, subst, ap, arith, Option, Some, None, ◌∙◌, Bool, true, false, ◌⊎◌, inl, inr, if◌then◌else◌, slice_set}
use Rattle.std.proofs.lemmas.List.{length-append, length-set}
use Rattle.std.specs.List.{AllByRecursion, slice_get}
use Rattle.std.specs.Str.{bytes_eq}
use Rattle.cdb_values.specs.Rows.{Rows}
use Rattle.cdb_values.specs.declared.rows.RowOp.{RowOp}
use Rattle.live_operations.specs.Live.{AreLive}
use Rattle.block_processor.specs.Changed.{changed_in}
use Rattle.log_rows.specs.History.{rows_over}
use Rattle.phys_log.specs.Logs.{page_at}
use Rattle.phys_log.specs.declared.entries.Entry.{Entry}
use Rattle.session_language.specs.Language.{alone, alone_from}
use Rattle.table_store.specs.Stored.{Stands}
use Rattle.script_play.specs.RunViews.{seen_in, AreOwn}
use Rattle.session_turns.specs.Views.{IsOwn}
use Rattle.session_turns.specs.declared.states.SessionState.{SessionState}
use Rattle.script_play.specs.EntryLines.{AreTold, lines_from}
use Rattle.script_play.specs.Start.{Start, ground_of}
use Rattle.script_form.specs.CanRun.{CanRun, IsDeclared, IsDeclaredText, script_tables}
use Rattle.script_form.specs.declared.scripts.Script.{Script}
use Rattle.script_form.specs.declared.scripts.Act.{Act}
use Rattle.script_form.specs.declared.scripts.Act.TheVariants.{Say}
use Rattle.script_form.specs.declared.scripts.BodyLine.{BodyLine}
use Rattle.script_form.specs.declared.scripts.SessionLine.{SessionLine}
use Rattle.report_text.specs.declared.reports.EntryLine.{EntryLine}
use Rattle.report_text.specs.declared.reports.Line.{Line}
use Rattle.cdb_values.specs.declared.replies.Reply.{Reply}
use Rattle.report_laws.specs.Work.{Place, place_after}
use Rattle.query_laws.specs.Alone.{sql_language}
use Rattle.cdb_values.specs.declared.items.GenidItem.{GenidItem}
use Rattle.cdb_values.specs.declared.items.Interval.{Interval}
use Rattle.script_play.proofs.LiveLemmas.{alone_leaves_live, stands_distinct}
use Rattle.script_play.proofs.SoundLaws.{distinct}
use Rattle.script_play.specs.Ready.{IsAble, IsAskable, IsLogged, IsReady, IsReadyToGo}
use Rattle.script_play.specs.SoFar.{now_of, IsBefore, IsDoing, IsOpen, IsStoredSoFar, state_of, session_from, session_at}
use Rattle.session_turns.specs.Doing.{SessionAt, Doing}
use Rattle.session_turns.specs.Doing as doing
use Rattle.script_play.proofs.ComesLemmas.{same_itself, same_name}

-- the place is counted on from a number
from_least : (k : ℕ) (name : List ℕ) (ss : List SessionLine) (at : ℕ) → session_from k name ss ≡ Some at → k ≤ at
from_least k name [] at is = absurd cc
from_least k name (s ∷ ss) at is = pick (bytes_eq s.name name) (from_least (k + 1) name ss at) is
  where
    pick : (b : Bool) → (session_from (k + 1) name ss ≡ Some at → k + 1 ≤ at) → (if b then Some k else session_from (k + 1) name ss) ≡ Some at → k ≤ at
    pick true more found = let same : k ≡ at = cc in omega (arith, same)
    pick false more found = let le = more found in omega (arith, le)

pub within : (k : ℕ) (name : List ℕ) (ss : List SessionLine) (at : ℕ) → session_from k name ss ≡ Some at → at < k + length ss
within k name [] at is = absurd cc
within k name (s ∷ ss) at is = pick (bytes_eq s.name name) (within (k + 1) name ss at) is
  where
    pick : (b : Bool) → (session_from (k + 1) name ss ≡ Some at → at < k + 1 + length ss) → (if b then Some k else session_from (k + 1) name ss) ≡ Some at → at < k + length (s ∷ ss)
    pick true more found = let same : k ≡ at = cc in omega (arith, same)
    pick false more found = let le = more found in omega (arith, le)

-- a declared session has a place
pub declared : (k : ℕ) (name : List ℕ) (ss : List SessionLine) → IsDeclared name ss → session_from k name ss ≡ None → ⊥
declared k name [] is none = is
declared k name (s ∷ ss) (inl same) none = pick (bytes_eq s.name name) refl none
  where
    pick : (b : Bool) → bytes_eq s.name name ≡ b → (if b then Some k else session_from (k + 1) name ss) ≡ None → ⊥
    pick true same_ found = absurd cc
    pick false other found = let itself : bytes_eq s.name name ≡ true = ap (λ n. bytes_eq n name) same ∙ same_itself name in absurd cc
declared k name (s ∷ ss) (inr more) none = pick (bytes_eq s.name name) (declared (k + 1) name ss more) none
  where
    pick : (b : Bool) → (session_from (k + 1) name ss ≡ None → ⊥) → (if b then Some k else session_from (k + 1) name ss) ≡ None → ⊥
    pick true later found = absurd cc
    pick false later found = later found

-- the session at its place is there
pub found_state : (k : ℕ) (name : List ℕ) (ss : List SessionLine) (states : List SessionAt) (at i : ℕ) (x : SessionAt) → session_from k name ss ≡ Some at → at ≡ k + i → slice_get states i ≡ Some x → state_of name ss states ≡ x
found_state k name [] states at i x is place has = absurd cc
found_state k name (s ∷ ss) [] at i x is place has = absurd cc
found_state k name (s ∷ ss) (y ∷ ys) at zero x is place has = pick (bytes_eq s.name name) is
  where
    pick : (b : Bool) → (if b then Some k else session_from (k + 1) name ss) ≡ Some at → (if b then y else state_of name ss ys) ≡ x
    pick true found = cc
    pick false found = let least = from_least (k + 1) name ss at found in absurd (omega (arith, least, place))
found_state k name (s ∷ ss) (y ∷ ys) at (suc i) x is place has = pick (bytes_eq s.name name) (λ found. found_state (k + 1) name ss ys at i x found (omega (arith, place)) has) is
  where
    pick : (b : Bool) → (session_from (k + 1) name ss ≡ Some at → state_of name ss ys ≡ x) → (if b then Some k else session_from (k + 1) name ss) ≡ Some at → (if b then y else state_of name ss ys) ≡ x
    pick true later found = let same : k ≡ at = cc in absurd (omega (arith, same, place))
    pick false later found = later found

-- a session that is put there is there
pub set_state : (k : ℕ) (name : List ℕ) (ss : List SessionLine) (states : List SessionAt) (at i : ℕ) (x : SessionAt) → session_from k name ss ≡ Some at → at ≡ k + i → i < length states → state_of name ss (slice_set states i x) ≡ x
set_state k name [] states at i x is place inside = absurd cc
set_state k name (s ∷ ss) [] at i x is place inside = absurd (omega (arith, inside))
set_state k name (s ∷ ss) (y ∷ ys) at zero x is place inside = pick (bytes_eq s.name name) is
  where
    pick : (b : Bool) → (if b then Some k else session_from (k + 1) name ss) ≡ Some at → (if b then x else state_of name ss ys) ≡ x
    pick true found = refl
    pick false found = let least = from_least (k + 1) name ss at found in absurd (omega (arith, least, place))
set_state k name (s ∷ ss) (y ∷ ys) at (suc i) x is place inside = pick (bytes_eq s.name name) (λ found. set_state (k + 1) name ss ys at i x found (omega (arith, place)) (omega (arith, inside))) is
  where
    pick : (b : Bool) → (session_from (k + 1) name ss ≡ Some at → state_of name ss (slice_set ys i x) ≡ x) → (if b then Some k else session_from (k + 1) name ss) ≡ Some at → (if b then y else state_of name ss (slice_set ys i x)) ≡ x
    pick true later found = let same : k ≡ at = cc in absurd (omega (arith, same, place))
    pick false later found = later found

-- and every other session is where it was
pub other_state : (k : ℕ) (name m : List ℕ) (ss : List SessionLine) (states : List SessionAt) (at i : ℕ) (x : SessionAt) → session_from k name ss ≡ Some at → at ≡ k + i → bytes_eq name m ≡ false → state_of m ss (slice_set states i x) ≡ state_of m ss states
other_state k name m [] states at i x is place differs = absurd cc
other_state k name m (s ∷ ss) [] at i x is place differs = refl
other_state k name m (s ∷ ss) (y ∷ ys) at zero x is place differs = pick (bytes_eq s.name name) refl is
  where
    pick : (b : Bool) → bytes_eq s.name name ≡ b → (if b then Some k else session_from (k + 1) name ss) ≡ Some at → (if bytes_eq s.name m then x else state_of m ss ys) ≡ (if bytes_eq s.name m then y else state_of m ss ys)
    pick true same found = let no : bytes_eq s.name m ≡ false = ap (λ n. bytes_eq n m) (same_name s.name name same) ∙ differs in rw no refl
    pick false other found = let least = from_least (k + 1) name ss at found in absurd (omega (arith, least, place))
other_state k name m (s ∷ ss) (y ∷ ys) at (suc i) x is place differs = pick (bytes_eq s.name name) (λ found. other_state (k + 1) name m ss ys at i x found (omega (arith, place)) differs) is
  where
    go : (b : Bool) → state_of m ss (slice_set ys i x) ≡ state_of m ss ys → (if b then y else state_of m ss (slice_set ys i x)) ≡ (if b then y else state_of m ss ys)
    go true same = refl
    go false same = same

    pick : (b : Bool) → (session_from (k + 1) name ss ≡ Some at → state_of m ss (slice_set ys i x) ≡ state_of m ss ys) → (if b then Some k else session_from (k + 1) name ss) ≡ Some at →
        (if bytes_eq s.name m then y else state_of m ss (slice_set ys i x)) ≡ (if bytes_eq s.name m then y else state_of m ss ys)
    pick true later found = let same : k ≡ at = cc in absurd (omega (arith, same, place))
    pick false later found = go (bytes_eq s.name m) (later found)

-- the tables of a script that runs are as texts ask for them
pub runs_askable : (script : Script) → CanRun script → AllByRecursion IsAskable (script_tables script)
runs_askable script can = distinct [] (script_tables script) can.tables_lawful

-- the rows are ready for a line
pub ready : (script : Script) (start : Start) (entries : List EntryLine) (log : List Entry) → AllByRecursion IsAskable (script_tables script) → IsStoredSoFar script start entries (changed_in log) (seen_in start log) → IsLogged start (script_tables script) (now_of start entries) log →
    IsReady start (script_tables script) (now_of start entries) log
ready script start entries log askable stored logged = record {
  opened = stored.opened;
  askable = askable;
  logged = logged;
  kept = stored.sound;
}

-- a transaction that is open can go on: what its texts left is there at its begin position
open_able : (script : Script) (start : Start) (entries : List EntryLine) (log : List Entry) (texts : List (List ℕ)) (begin : ℕ) (ops : List RowOp) (uses : List GenidItem) (ranges : List Interval) (mine : List Reply) →
    IsStoredSoFar script start entries (changed_in log) (seen_in start log) → IsLogged start (script_tables script) (now_of start entries) log → IsOpen script start entries (rows_over (ground_of start) log).next texts begin ops uses ranges mine → IsAble start (script_tables script) (now_of start entries) log begin ops
open_able script start entries log texts begin ops uses ranges mine stored logged is = record {
  first = is.first;
  within = is.within;
  kept = is.sound;
  live = subst (λ (o : List RowOp). AreLive (log_rows_at begin).tables o) (sym ops_are)
      (alone_leaves_live (script_tables script) (log_rows_at begin).tables texts (stands_distinct (script_tables script) (log_rows_at begin) stands));
}
  where
    log_rows_at : ℕ → Rows
    log_rows_at k = (seen_in start log).at k

    stands : Stands (page_at log begin) (script_tables script) (log_rows_at begin)
    stands = logged.stands begin is.first (let w = is.within in let n = logged.count in omega (arith, w, n))

    ops_are : ops ≡ (alone sql_language (script_tables script) (log_rows_at begin) texts).ops
    ops_are = is.ops_are ∙ ap (λ (r : Rows). (alone_from sql_language (script_tables script) r.tables [] texts).ops) (sym (stored.rows_are begin is.first is.within))

doing_ready : (script : Script) (start : Start) (entries : List EntryLine) (log : List Entry) (p : Place) (q : Option (List (List ℕ))) (d : Doing) (mine : List Reply) →
    IsStoredSoFar script start entries (changed_in log) (seen_in start log) → IsLogged start (script_tables script) (now_of start entries) log → IsDoing script start entries (rows_over (ground_of start) log).next p q d mine → IsReadyToGo start (script_tables script) (now_of start entries) log d
doing_ready script start entries log p None doing.No mine stored logged is = tt
doing_ready script start entries log p None (doing.Open begin ops uses ranges) mine stored logged is = absurd is
doing_ready script start entries log p None doing.Aborted mine stored logged is = tt
doing_ready script start entries log p (Some texts) doing.No mine stored logged is = tt
doing_ready script start entries log p (Some texts) (doing.Open begin ops uses ranges) mine stored logged is = open_able script start entries log texts begin ops uses ranges mine stored logged is
doing_ready script start entries log p (Some texts) doing.Aborted mine stored logged is = tt

-- a log has as many entries as the one before the run and the history
lines_length : (position : ℕ) (made : List Entry) → length (lines_from position made) ≡ length made
lines_length position [] = refl
lines_length position (e ∷ made) = let rest = lines_length (position + 1) made in omega (arith, rest)

pub told_count : (before : List Entry) (generation : ℕ) (entries : List EntryLine) (log : List Entry) → AreTold before generation entries log → length log ≡ length before + length entries
told_count before generation entries log is =
    let all = ap (λ (es : List Entry). length es) is.behind in
    let many : length entries ≡ length is.made = ap (λ (es : List EntryLine). length es) is.told ∙ lines_length (length before + 1) is.made in
    omega (arith, all, many, length-append before is.made)

-- the run before a line of a session
pub record Turn (script : Script) (start : Start) (name text : List ℕ) (entries : List EntryLine) (log : List Entry) (states : List SessionAt) : Type 0 where
  pub ready : IsReady start (script_tables script) (now_of start entries) log
  pub to_go : (at : ℕ) (x : SessionAt) → session_at name script.sessions ≡ Some at → slice_get states at ≡ Some x → IsReadyToGo start (script_tables script) (now_of start entries) log x.doing
  pub is_declared : session_at name script.sessions ≡ None → ⊥
  pub inside : (at : ℕ) → session_at name script.sessions ≡ Some at → at < length states

pub turn_is : (script : Script) (start : Start) (down : Bool) (left : List BodyLine) (l : BodyLine) (lines : List Line) (entries : List EntryLine) (log : List Entry) (states : List SessionAt) (name text : List ℕ) →
    IsBefore script start down (l ∷ left) lines entries (changed_in log) (seen_in start log) states → IsLogged start (script_tables script) (now_of start entries) log → l.act ≡ Say name text → Turn script start name text entries log states
turn_is script start down left l lines entries log states name text before logged is_act = record {
  ready = ready script start entries log (runs_askable script before.can_run) before.so_far.stored logged;
  to_go = λ at x found has. subst (λ (y : SessionAt). IsReadyToGo start (script_tables script) (now_of start entries) log y.doing) (found_state 0 name script.sessions states at at x found (omega arith) has)
      (doing_ready script start entries log (place_after sql_language name before.done) (place_after sql_language name before.done).pending (state_of name script.sessions states).doing _ before.so_far.stored logged (before.so_far.standing name).doing);
  is_declared = declared 0 name script.sessions said;
  inside = λ at found. let w = within 0 name script.sessions at found in let same = before.same in omega (arith, w, same);
}
  where
    said : IsDeclared name script.sessions
    said = (subst (λ (a : Act). IsDeclaredText script.sessions a) is_act before.said.0).0

-- what is put at a place twice is what was put there last
pub set_again : {A : Type 0} (xs : List A) (i : ℕ) (x y : A) → slice_set (slice_set xs i x) i y ≡ slice_set xs i y
set_again [] i x y = refl
set_again (z ∷ zs) zero x y = refl
set_again (z ∷ zs) (suc i) x y = ap (λ rest. z ∷ rest) (set_again zs i x y)

-- a place is inside a list still, where something is put there
pub inside_set : {A : Type 0} (xs ys : List A) (i : ℕ) (x : A) → ys ≡ slice_set xs i x → i < length xs → i < length ys
inside_set {A} xs ys i x is inside = subst (λ (zs : List A). i < length zs) (sym is) (subst (λ (n : ℕ). i < n) (sym (length-set xs i x)) inside)

-- the line of a session at its place has its name
pub found_line : (k : ℕ) (name : List ℕ) (ss : List SessionLine) (at i : ℕ) → session_from k name ss ≡ Some at → at ≡ k + i → (s : SessionLine) × (slice_get ss i ≡ Some s) × (s.name ≡ name)
found_line k name [] at i is place = absurd cc
found_line k name (s ∷ ss) at zero is place = pick (bytes_eq s.name name) refl is
  where
    pick : (b : Bool) → bytes_eq s.name name ≡ b → (if b then Some k else session_from (k + 1) name ss) ≡ Some at → (l : SessionLine) × (slice_get (s ∷ ss) 0 ≡ Some l) × (l.name ≡ name)
    pick true same found = (s, refl, same_name s.name name same)
    pick false other found = let least = from_least (k + 1) name ss at found in absurd (omega (arith, least, place))
found_line k name (s ∷ ss) at (suc i) is place = pick (bytes_eq s.name name) (λ found. found_line (k + 1) name ss at i found (omega (arith, place))) is
  where
    pick : (b : Bool) → (session_from (k + 1) name ss ≡ Some at → (l : SessionLine) × (slice_get ss i ≡ Some l) × (l.name ≡ name)) → (if b then Some k else session_from (k + 1) name ss) ≡ Some at → (l : SessionLine) × (slice_get (s ∷ ss) (suc i) ≡ Some l) × (l.name ≡ name)
    pick true later found = let same : k ≡ at = cc in absurd (omega (arith, same, place))
    pick false later found = later found

-- what is found in a list with one exchanged
get_set : {A : Type 0} (xs : List A) (i j : ℕ) (x y : A) → slice_get (slice_set xs i x) j ≡ Some y → ((i ≡ j) × (x ≡ y)) ⊎ (slice_get xs j ≡ Some y)
get_set [] i j x y is = inr is
get_set (z ∷ zs) zero zero x y is = let same : x ≡ y = cc in inl (refl, same)
get_set (z ∷ zs) zero (suc j) x y is = inr is
get_set (z ∷ zs) (suc i) zero x y is = inr is
get_set (z ∷ zs) (suc i) (suc j) x y is = later (get_set zs i j x y is)
  where
    later : ((i ≡ j) × (x ≡ y)) ⊎ (slice_get zs j ≡ Some y) → ((suc i ≡ suc j) × (x ≡ y)) ⊎ (slice_get zs j ≡ Some y)
    later (inl (at, same)) = let up : suc i ≡ suc j = omega (arith, at) in inl (up, same)
    later (inr found) = inr found

-- the session whose line comes has an open transaction of its own, and so have all when it is put back
pub own_there : (generation : ℕ) (sessions : List SessionLine) (states : List SessionState) (name : List ℕ) (at : ℕ) (x : SessionState) → AreOwn generation sessions states → session_at name sessions ≡ Some at → slice_get states at ≡ Some x → IsOwn generation name x
own_there generation sessions states name at x own found has =
    let line : (s : SessionLine) × (slice_get sessions at ≡ Some s) × (s.name ≡ name) = found_line 0 name sessions at at found (omega arith) in
    subst (λ (n : List ℕ). IsOwn generation n x) line.2 (own at line.0 x line.1 has)

pub own_after : (generation : ℕ) (sessions : List SessionLine) (states : List SessionState) (name : List ℕ) (at : ℕ) (x : SessionState) → AreOwn generation sessions states → session_at name sessions ≡ Some at → IsOwn generation name x → AreOwn generation sessions (slice_set states at x)
own_after generation sessions states name at x own found is place s y line has = go (get_set states at place x y has)
  where
    there : (l : SessionLine) × (slice_get sessions at ≡ Some l) × (l.name ≡ name)
    there = found_line 0 name sessions at at found (omega arith)

    go : ((at ≡ place) × (x ≡ y)) ⊎ (slice_get states place ≡ Some y) → IsOwn generation s.name y
    go (inl (same, put)) =
        let same_line : there.0 ≡ s = let here : slice_get sessions place ≡ Some there.0 = subst (λ n. slice_get sessions n ≡ Some there.0) same there.1 in cc in
        subst (λ (z : SessionState). IsOwn generation s.name z) put (subst (λ (n : List ℕ). IsOwn generation n x) (sym there.2 ∙ ap (λ (l : SessionLine). l.name) same_line) is)
    go (inr before) = own place s y line before

-- views of sessions, one by one
pub map_length : {A B : Type 0} (f : A → B) (xs : List A) → length (map f xs) ≡ length xs
map_length f [] = refl
map_length f (x ∷ xs) = let rest : length (map f xs) ≡ length xs = map_length f xs in omega (arith, rest)

pub map_set : {A B : Type 0} (f : A → B) (xs : List A) (i : ℕ) (x : A) → map f (slice_set xs i x) ≡ slice_set (map f xs) i (f x)
map_set f [] i x = refl
map_set f (y ∷ ys) zero x = refl
map_set f (y ∷ ys) (suc i) x = ap (λ rest. f y ∷ rest) (map_set f ys i x)

pub map_get : {A B : Type 0} (f : A → B) (xs : List A) (i : ℕ) (x : A) → slice_get xs i ≡ Some x → slice_get (map f xs) i ≡ Some (f x)
map_get f [] i x is = absurd cc
map_get f (y ∷ ys) zero x is = let same : y ≡ x = cc in ap (λ z. Some (f z)) same
map_get f (y ∷ ys) (suc i) x is = map_get f ys i x is

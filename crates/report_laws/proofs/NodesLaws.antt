-- Which nodes are up: behind lines of which none tells that a node went down all are; and a node that went down stays
-- down where no line tells that one came up.
use Rattle.std.proofs.Common.{◌≡◌, ℕ, zero, suc, ◌+◌, ◌*◌, ◌==◌, ◌&&◌, List, [], ◌∷◌, ◌++◌, refl, ap, arith, ◌∙◌, Bool, true, false, if◌then◌else◌, leb, Option, Some, None}
use Rattle.std.proofs.lemmas.Bool.{eq-eqb, lt-leb, and_right, false≢true, both_ways}
use Rattle.std.specs.List.{AllByRecursion}
use Rattle.session_language.specs.Each.{EachAfter}
use Rattle.session_language.specs.Language.{Kind}
use Rattle.script_form.specs.declared.scripts.Script.{Script}
use Rattle.report_laws.specs.Nodes.{downs, up_after, up_from, is_up, up_count, are_few, first_down}
use Rattle.report_laws.specs.Places.{HasItsPlace, IsLost, IsShort}
use Rattle.report_laws.specs.Play.{is_begin_of, since_begin, was_cut, loss_of, begins, lacks_majority, node_of}
use Rattle.report_laws.specs.Told.{lines_of}
use Rattle.report_text.specs.declared.reports.Line.{Line}
use Rattle.report_text.specs.declared.reports.Line.TheVariants as line
use Rattle.cdb_values.specs.declared.replies.Reply.{Reply}

-- down lines are counted one after the other
pub downs_append : (xs ys : List Line) → downs (xs ++ ys) ≡ downs xs + downs ys
downs_append [] ys = omega arith
downs_append (line.Session name txn answer ∷ xs) ys = downs_append xs ys
downs_append (line.Down count node fault ∷ xs) ys = let more : downs (xs ++ ys) ≡ downs xs + downs ys = downs_append xs ys in omega (arith, more)
downs_append (line.Up node ∷ xs) ys = downs_append xs ys
downs_append (line.Barrier ∷ xs) ys = downs_append xs ys
downs_append (line.Fed position ∷ xs) ys = downs_append xs ys

-- the lines of a session tell of no node
pub downs_of : (name : List ℕ) (number : ℕ) (rs : List Reply) → downs (lines_of name number rs) ≡ 0
downs_of name number [] = refl
downs_of name number (r ∷ rs) = downs_of name number rs

pub downs_more : (lines : List Line) (name : List ℕ) (number : ℕ) (rs : List Reply) → downs lines ≡ 0 → downs (lines ++ lines_of name number rs) ≡ 0
downs_more lines name number rs none =
    let more : downs (lines ++ lines_of name number rs) ≡ downs lines + downs (lines_of name number rs) = downs_append lines (lines_of name number rs) in
    let its : downs (lines_of name number rs) ≡ 0 = downs_of name number rs in
    omega (arith, more, its, none)

-- behind lines without a down line each node is up
stays_up : (node : ℕ) (lines : List Line) → downs lines ≡ 0 → up_from node true lines ≡ true
stays_up node [] none = refl
stays_up node (line.Session name txn answer ∷ ls) none = stays_up node ls none
stays_up node (line.Down count other fault ∷ ls) none = absurd (omega (arith, none))
stays_up node (line.Up other ∷ ls) none = pick (other == node) (stays_up node ls none)
  where
    pick : (b : Bool) → up_from node true ls ≡ true → up_from node (if b then true else true) ls ≡ true
    pick true is = is
    pick false is = is
stays_up node (line.Barrier ∷ ls) none = stays_up node ls none
stays_up node (line.Fed position ∷ ls) none = stays_up node ls none

one_more : (b : Bool) (m n : ℕ) → m ≡ n → b ≡ true → m + (if b then 1 else 0) ≡ suc n
one_more true m n same is = omega (arith, same)
one_more false m n same is = absurd (false≢true is)

all_up : (n : ℕ) (lines : List Line) → downs lines ≡ 0 → up_count n lines ≡ n
all_up zero lines none = refl
all_up (suc n) lines none = one_more (is_up (suc n) lines) (up_count n lines) n (all_up n lines none) (stays_up (suc n) lines none)

few_no : (n up : ℕ) → up ≡ n → (leb 1 n && leb (2 * up) n) ≡ false
few_no zero up is = refl
few_no (suc n) up is = and_right (leb 1 (suc n)) (leb (2 * up) (suc n)) (lt-leb (2 * up) (suc n) (omega (arith, is)))

-- and so they are not few
pub none_few : (n : ℕ) (lines : List Line) → downs lines ≡ 0 → are_few n lines ≡ false
none_few n lines none = few_no n (up_count n lines) (all_up n lines none)

-- no such line tells that a node went down
none_first : (node : ℕ) (lines : List Line) → downs lines ≡ 0 → first_down node lines ≡ None
none_first node [] none = refl
none_first node (line.Session name txn answer ∷ ls) none = none_first node ls none
none_first node (line.Down count other fault ∷ ls) none = absurd (omega (arith, none))
none_first node (line.Up other ∷ ls) none = none_first node ls none
none_first node (line.Barrier ∷ ls) none = none_first node ls none
none_first node (line.Fed position ∷ ls) none = none_first node ls none

tail_none : (l : Line) (ls : List Line) → downs (l ∷ ls) ≡ 0 → downs ls ≡ 0
tail_none (line.Session name txn answer) ls none = none
tail_none (line.Down count other fault) ls none = absurd (omega (arith, none))
tail_none (line.Up other) ls none = none
tail_none line.Barrier ls none = none
tail_none (line.Fed position) ls none = none

none_since : (session : List ℕ) (number : ℕ) (lines : List Line) → downs lines ≡ 0 → downs (since_begin session number lines) ≡ 0
none_since session number [] none = refl
none_since session number (l ∷ ls) none = pick (is_begin_of session number l) (tail_none l ls none) (none_since session number ls (tail_none l ls none))
  where
    pick : (b : Bool) → downs ls ≡ 0 → downs (since_begin session number ls) ≡ 0 → downs (if b then ls else since_begin session number ls) ≡ 0
    pick true is later = is
    pick false is later = later

-- behind lines without a down line no transaction is lost, and no majority is wanting
pub none_lost : (script : Script) (before : List Line) (session : List ℕ) (number : ℕ) (pending : Option (List (List ℕ))) → downs before ≡ 0 → loss_of script before session number pending ≡ None
none_lost script before session number None none = refl
none_lost script before session number (Some texts) none = pick (was_cut before session number)
  where
    pick : (b : Bool) → (if b then None else first_down (node_of script session) (since_begin session number before)) ≡ None
    pick true = refl
    pick false = none_first (node_of script session) (since_begin session number before) (none_since session number before none)

pub none_lacks : (script : Script) (before : List Line) (kind : Kind) (pending : Option (List (List ℕ))) → downs before ≡ 0 → lacks_majority script before kind pending ≡ false
none_lacks script before kind pending none = and_right (begins kind pending) (are_few script.nodes before) (none_few script.nodes before none)

-- without a down line nothing is lost, and no majority is wanting
pub lost_needs_down : (before : List Line) (session : List ℕ) (txn node down : ℕ) → downs before ≡ 0 → IsLost before session txn node down → ⊥
lost_needs_down before session txn node down none is =
    let split : downs before ≡ downs (is.front ++ line.Down down node is.fault ∷ is.back) = ap downs is.stands in
    let parts : downs (is.front ++ line.Down down node is.fault ∷ is.back) ≡ downs is.front + (downs is.back + 1) = downs_append is.front (line.Down down node is.fault ∷ is.back) in
    omega (arith, none, split, parts)

pub short_needs_down : (script : Script) (before : List Line) (session : List ℕ) (up nodes : ℕ) → downs before ≡ 0 → IsShort script before session up nodes → ⊥
short_needs_down script before session up nodes none is =
    let split : downs before ≡ downs (is.front ++ is.back) = ap downs is.stands in
    let parts : downs (is.front ++ is.back) ≡ downs is.front + downs is.back = downs_append is.front is.back in
    both_ways (are_few nodes is.front) (none_few nodes is.front (omega (arith, none, split, parts))) is.few

-- a line that no node came up
abbrev pub IsNoUp : Line → Type 0
IsNoUp (line.Session name txn answer) = Unit {0}
IsNoUp (line.Down count node fault) = Unit {0}
IsNoUp (line.Up node) = ⊥
IsNoUp line.Barrier = Unit {0}
IsNoUp (line.Fed position) = Unit {0}

-- where each line has its place none comes up
pub none_up : (script : Script) (before lines : List Line) → EachAfter (HasItsPlace script) before lines → AllByRecursion IsNoUp lines
none_up script before [] each = tt
none_up script before (line.Session name txn answer ∷ ls) each = (tt, none_up script _ ls each.1)
none_up script before (line.Down count node fault ∷ ls) each = (tt, none_up script _ ls each.1)
none_up script before (line.Up node ∷ ls) each = absurd each.0
none_up script before (line.Barrier ∷ ls) each = absurd each.0
none_up script before (line.Fed position ∷ ls) each = absurd each.0

-- a node that is down stays so
pub stays_down : (node : ℕ) (lines : List Line) → AllByRecursion IsNoUp lines → up_from node false lines ≡ false
stays_down node [] all = refl
stays_down node (line.Session name txn answer ∷ ls) all = stays_down node ls all.1
stays_down node (line.Down count other fault ∷ ls) all = pick (other == node) (stays_down node ls all.1)
  where
    pick : (b : Bool) → up_from node false ls ≡ false → up_from node (if b then false else false) ls ≡ false
    pick true is = is
    pick false is = is
stays_down node (line.Up other ∷ ls) all = absurd all.0
stays_down node (line.Barrier ∷ ls) all = stays_down node ls all.1
stays_down node (line.Fed position ∷ ls) all = stays_down node ls all.1

pub up_append : (node : ℕ) (was : Bool) (xs ys : List Line) → up_from node was (xs ++ ys) ≡ up_from node (up_from node was xs) ys
up_append node was [] ys = refl
up_append node was (x ∷ xs) ys = up_append node (up_after node was x) xs ys

-- behind a line that a node went down it is down
pub is_down_behind : (count node : ℕ) (fault : Bool) (front back : List Line) → AllByRecursion IsNoUp back → is_up node (front ++ line.Down count node fault ∷ back) ≡ false
is_down_behind count node fault front back all =
    up_append node true front (line.Down count node fault ∷ back)
    ∙ ap (λ b. up_from node (if b then false else up_from node true front) back) (eq-eqb node node refl)
    ∙ stays_down node back all

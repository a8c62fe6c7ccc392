-- Behind the line that the node went down: a transaction that was begun before it and not cut short is lost by it, once, and
-- no majority is up. Before it no session was told of a loss.
use Rattle.std.proofs.Common.{◌≡◌, ℕ, zero, suc, ◌+◌, ◌*◌, ◌≤◌, ◌<◌, ◌==◌, ◌&&◌, ◌||◌, List, [], ◌∷◌, ◌++◌, refl, sym, subst, ap, arith, ◌∙◌, Bool, true, false, if◌then◌else◌, leb, Some, append_assoc, ◌⊎◌, inl, inr}
use Rattle.std.proofs.lemmas.Bool.{and_left, and_right, both_ways, eq-eqb, ne_eqb, or_from}
use Rattle.std.specs.List.{AllByRecursion, list_any}
use Rattle.std.specs.Str.{bytes_eq}
use Rattle.session_language.specs.Answers.{IsPlain, ArePlain}
use Rattle.session_language.specs.Each.{EachAfter, StandsIn}
use Rattle.session_language.proofs.EachLaws.{all_append, all_map}
use Rattle.report_laws.specs.Cut.{cuts}
use Rattle.report_laws.specs.Nodes.{downs, up_from, is_up, up_count, are_few, first_down}
use Rattle.report_laws.specs.Places.{HasItsCause, HasItsPlace, is_loss_by}
use Rattle.report_laws.specs.Play.{is_begin_of, since_begin, was_cut, node_among}
use Rattle.report_laws.specs.Told.{Along, Numbered, told, told_by, numbered, lines_of}
use Rattle.report_laws.specs.Work.{WorkItem, Does, Lone, number_of}
use Rattle.report_laws.proofs.AlongLaws.{AllOther}
use Rattle.report_laws.proofs.NodesLaws.{downs_append, lost_needs_down, none_few, up_append, is_down_behind}
use Rattle.report_laws.proofs.WorkLaws.{IsBelow}
use Rattle.report_text.specs.declared.reports.Line.{Line}
use Rattle.report_text.specs.declared.reports.Line.TheVariants as line
use Rattle.cdb_values.specs.declared.replies.Reply.{Reply}
use Rattle.cdb_values.specs.declared.replies.Reply.TheVariants as reply
use Rattle.script_form.specs.CanRun.{IsDeclared}
use Rattle.script_form.specs.declared.scripts.Script.{Script}
use Rattle.script_form.specs.declared.scripts.SessionLine.{SessionLine}
use Rattle.script_play.specs.Down.{down_line}
use Rattle.script_play.proofs.ComesLemmas.{same_itself}

-- the down line is the first behind lines without one
reaches : (front back : List Line) → downs front ≡ 0 → first_down 1 (front ++ down_line ∷ back) ≡ Some 1
reaches [] back none = refl
reaches (line.Session name txn answer ∷ ls) back none = reaches ls back none
reaches (line.Down count node fault ∷ ls) back none = absurd (omega (arith, none))
reaches (line.Up node ∷ ls) back none = reaches ls back none
reaches (line.Barrier ∷ ls) back none = reaches ls back none
reaches (line.Fed position ∷ ls) back none = reaches ls back none

tail_unhurt : (l : Line) (ls : List Line) → downs (l ∷ ls) ≡ 0 → downs ls ≡ 0
tail_unhurt (line.Session name txn answer) ls none = none
tail_unhurt (line.Down count node fault) ls none = absurd (omega (arith, none))
tail_unhurt (line.Up node) ls none = none
tail_unhurt line.Barrier ls none = none
tail_unhurt (line.Fed position) ls none = none

begins_it : (name : List ℕ) (number begin : ℕ) → is_begin_of name number (line.Session name number (reply.Begin begin)) ≡ true
begins_it name number begin = rw (same_itself name, eq-eqb number number refl) refl

-- a transaction that was begun before it is lost by it
pub loses : (name : List ℕ) (number begin : ℕ) (front back : List Line) → StandsIn front (line.Session name number (reply.Begin begin)) → downs front ≡ 0 →
    first_down 1 (since_begin name number (front ++ down_line ∷ back)) ≡ Some 1
loses name number begin [] back ([], more, is) none = absurd cc
loses name number begin [] back (x ∷ xs, more, is) none = absurd cc
loses name number begin (l ∷ ls) back stands none = pick (is_begin_of name number l) refl (λ there. loses name number begin ls back there (tail_unhurt l ls none))
  where
    later : is_begin_of name number l ≡ false → StandsIn (l ∷ ls) (line.Session name number (reply.Begin begin)) → StandsIn ls (line.Session name number (reply.Begin begin))
    later other ([], more, at) =
        let first : l ≡ line.Session name number (reply.Begin begin) = cc in
        absurd (both_ways (is_begin_of name number l) other (ap (λ x. is_begin_of name number x) first ∙ begins_it name number begin))
    later other (x ∷ xs, more, at) = (xs, more, cc)

    pick : (b : Bool) → is_begin_of name number l ≡ b → (StandsIn ls (line.Session name number (reply.Begin begin)) → first_down 1 (since_begin name number (ls ++ down_line ∷ back)) ≡ Some 1) →
        first_down 1 (if b then ls ++ down_line ∷ back else since_begin name number (ls ++ down_line ∷ back)) ≡ Some 1
    pick true is rest = reaches ls back (tail_unhurt l ls none)
    pick false is rest = rest (later is stands)

-- where the one node is down, no majority is up
pub few_down : (lines : List Line) → is_up 1 lines ≡ false → are_few 1 lines ≡ true
few_down lines down = pick (is_up 1 lines) down
  where
    pick : (b : Bool) → b ≡ false → (leb 1 1 && leb (2 * (0 + (if b then 1 else 0))) 1) ≡ true
    pick true is = absurd cc
    pick false is = refl

-- behind the down line no majority is up
pub few_behind : (front : List Line) (name : List ℕ) (number : ℕ) (answer : Reply) → are_few 1 (front ++ down_line ∷ line.Session name number answer ∷ []) ≡ true
few_behind front name number answer = few_down (front ++ down_line ∷ line.Session name number answer ∷ []) (is_down_behind 1 1 true front (line.Session name number answer ∷ []) (tt, tt))

-- and so no node is up at all
pub none_up_there : (lines : List Line) → are_few 1 lines ≡ true → up_count 1 lines ≡ 0
none_up_there lines few = pick (is_up 1 lines) few
  where
    pick : (b : Bool) → (leb 1 1 && leb (2 * (0 + (if b then 1 else 0))) 1) ≡ true → 0 + (if b then 1 else 0) ≡ 0
    pick true is = absurd cc
    pick false is = refl

-- behind lines without a down line it is up
pub up_unhurt : (lines : List Line) → downs lines ≡ 0 → is_up 1 lines ≡ true
up_unhurt lines none = pick (is_up 1 lines) (none_few 1 lines none)
  where
    pick : (b : Bool) → (leb 1 1 && leb (2 * (0 + (if b then 1 else 0))) 1) ≡ false → b ≡ true
    pick true is = refl
    pick false is = absurd cc

-- the lines of a session change nothing of it
up_of : (node : ℕ) (was : Bool) (name : List ℕ) (number : ℕ) (rs : List Reply) → up_from node was (lines_of name number rs) ≡ was
up_of node was name number [] = refl
up_of node was name number (r ∷ rs) = up_of node was name number rs

up_more : (node : ℕ) (lines : List Line) (name : List ℕ) (number : ℕ) (rs : List Reply) → is_up node (lines ++ lines_of name number rs) ≡ is_up node lines
up_more node lines name number rs = up_append node true lines (lines_of name number rs) ∙ up_of node (up_from node true lines) name number rs

up_count_more : (n : ℕ) (lines : List Line) (name : List ℕ) (number : ℕ) (rs : List Reply) → up_count n (lines ++ lines_of name number rs) ≡ up_count n lines
up_count_more zero lines name number rs = refl
up_count_more (suc n) lines name number rs =
    ap (λ m. m + (if is_up (suc n) (lines ++ lines_of name number rs) then 1 else 0)) (up_count_more n lines name number rs)
    ∙ ap (λ b. up_count n lines + (if b then 1 else 0)) (up_more (suc n) lines name number rs)

pub few_more : (n : ℕ) (lines : List Line) (name : List ℕ) (number : ℕ) (rs : List Reply) → are_few n (lines ++ lines_of name number rs) ≡ are_few n lines
few_more n lines name number rs = ap (λ m. leb 1 n && leb (2 * m) n) (up_count_more n lines name number rs)

-- a session of a script that runs is at the one node, and does not survive it
pub at_the_node : (name : List ℕ) (ss : List SessionLine) → AllByRecursion (λ s. (s.node ≡ 1) × (s.hasql ≡ false)) ss → IsDeclared name ss → node_among name ss ≡ 1
at_the_node name [] all is = absurd is
at_the_node name (s ∷ ss) all is = pick (bytes_eq s.name name) refl is (λ more. at_the_node name ss all.1 more)
  where
    pick : (b : Bool) → bytes_eq s.name name ≡ b → (s.name ≡ name) ⊎ IsDeclared name ss → (IsDeclared name ss → node_among name ss ≡ 1) → (if b then s.node else node_among name ss) ≡ 1
    pick true same there later = all.0.0
    pick false differs (inl same) later = absurd (both_ways (bytes_eq s.name name) differs (ap (λ n. bytes_eq n name) same ∙ same_itself name))
    pick false differs (inr more) later = later more

pub none_survives : (name : List ℕ) (ss : List SessionLine) → AllByRecursion (λ s. (s.node ≡ 1) × (s.hasql ≡ false)) ss → list_any (λ (s : SessionLine). bytes_eq s.name name && s.hasql) ss ≡ false
none_survives name [] all = refl
none_survives name (s ∷ ss) all = or_from (bytes_eq s.name name && s.hasql) (list_any (λ (x : SessionLine). bytes_eq x.name name && x.hasql) ss) (and_right (bytes_eq s.name name) s.hasql all.0.1) (none_survives name ss all.1)

-- a reply that has its cause behind lines without a down line tells of no loss
no_loss : (script : Script) (before : List Line) (session : List ℕ) (txn down : ℕ) (r : Reply) → downs before ≡ 0 → HasItsCause script before session txn r → is_loss_by down r ≡ false
no_loss script before session txn down (reply.Lost node other) none is = absurd (lost_needs_down before session txn node other none is.1)
no_loss script before session txn down r none is = refl

-- so no session was told of one
pub none_told_lost : (script : Script) (name : List ℕ) (down : ℕ) (before lines : List Line) → downs (before ++ lines) ≡ 0 → EachAfter (HasItsPlace script) before lines → AllByRecursion (λ (l : Numbered). is_loss_by down l.1 ≡ false) (told name lines)
none_told_lost script name down before [] none each = tt
none_told_lost script name down before (line.Session session txn answer ∷ ls) none each =
    all_append (λ (l : Numbered). is_loss_by down l.1 ≡ false) (told_by name (line.Session session txn answer)) (told name ls) (own (bytes_eq session name))
    (none_told_lost script name down (before ++ line.Session session txn answer ∷ []) ls (ap downs (append_assoc before (line.Session session txn answer ∷ []) ls) ∙ none) each.1)
  where
    unhurt : downs before ≡ 0
    unhurt = let parts : downs (before ++ line.Session session txn answer ∷ ls) ≡ downs before + downs (line.Session session txn answer ∷ ls) = downs_append before (line.Session session txn answer ∷ ls) in omega (arith, parts, none)

    own : (b : Bool) → AllByRecursion (λ (l : Numbered). is_loss_by down l.1 ≡ false) (if b then (txn, answer) ∷ [] else [])
    own true = (no_loss script before session txn down answer unhurt each.0, tt)
    own false = tt
none_told_lost script name down before (line.Down count node fault ∷ ls) none each =
    let parts : downs (before ++ line.Down count node fault ∷ ls) ≡ downs before + (downs ls + 1) = downs_append before (line.Down count node fault ∷ ls) in absurd (omega (arith, parts, none))
none_told_lost script name down before (line.Up node ∷ ls) none each = absurd each.0
none_told_lost script name down before (line.Barrier ∷ ls) none each = absurd each.0
none_told_lost script name down before (line.Fed position ∷ ls) none each = absurd each.0

-- a line that does not cut a transaction of that number short
abbrev pub IsUncutUnder : ℕ → Numbered → Type 0
IsUncutUnder n l = ((l.0 == n) && cuts l.1) ≡ false

-- a transaction was not cut short where no line of its session did it
pub uncut_where : (name : List ℕ) (n : ℕ) (lines : List Line) → AllByRecursion (IsUncutUnder n) (told name lines) → was_cut lines name n ≡ false
uncut_where name n [] all = refl
uncut_where name n (line.Session session txn answer ∷ ls) all = pick (bytes_eq session name) all (λ more. uncut_where name n ls more)
  where
    pick : (b : Bool) → AllByRecursion (IsUncutUnder n) ((if b then (txn, answer) ∷ [] else []) ++ told name ls) → (AllByRecursion (IsUncutUnder n) (told name ls) → was_cut ls name n ≡ false) →
        ((b && ((txn == n) && cuts answer)) || was_cut ls name n) ≡ false
    pick true more later = or_from ((txn == n) && cuts answer) (was_cut ls name n) more.0 (later more.1)
    pick false more later = or_from false (was_cut ls name n) refl (later more)
uncut_where name n (line.Down count node fault ∷ ls) all = or_from false (was_cut ls name n) refl (uncut_where name n ls all)
uncut_where name n (line.Up node ∷ ls) all = or_from false (was_cut ls name n) refl (uncut_where name n ls all)
uncut_where name n (line.Barrier ∷ ls) all = or_from false (was_cut ls name n) refl (uncut_where name n ls all)
uncut_where name n (line.Fed position ∷ ls) all = or_from false (was_cut ls name n) refl (uncut_where name n ls all)

-- lines of another number do not
other_uncut : (n m : ℕ) (rs : List Reply) → (m == n) ≡ false → AllByRecursion (IsUncutUnder n) (numbered m rs)
other_uncut n m [] is = tt
other_uncut n m (r ∷ rs) is = (and_left (m == n) (cuts r) is, other_uncut n m rs is)

-- nor do replies of which none cuts
pub none_cuts : (n m : ℕ) (rs : List Reply) → AllByRecursion (λ r. cuts r ≡ false) rs → AllByRecursion (IsUncutUnder n) (numbered m rs)
none_cuts n m [] all = tt
none_cuts n m (r ∷ rs) all = (and_right (m == n) (cuts r) all.0, none_cuts n m rs all.1)

-- plain ones are such
plain_cuts_none : (r : Reply) → IsPlain r → cuts r ≡ false
plain_cuts_none (reply.Lost node down) is = absurd is
plain_cuts_none (reply.NoMajority up nodes) is = absurd is
plain_cuts_none reply.NoMemory is = absurd is
plain_cuts_none r is = refl

pub plain_cut_none : (rs : List Reply) → ArePlain rs → AllByRecursion (λ r. cuts r ≡ false) rs
plain_cut_none rs all = all_map IsPlain (λ r. cuts r ≡ false) plain_cuts_none rs all

-- what is over has other numbers than a transaction that is not
pub over_other : (bound n : ℕ) (items : List WorkItem) → bound ≤ n → 1 ≤ n → AllByRecursion (IsBelow bound) items → AllOther n items
over_other bound n items le first all = all_map (IsBelow bound) (λ item. (number_of item == n) ≡ false) other items all
  where
    other : (item : WorkItem) → IsBelow bound item → (number_of item == n) ≡ false
    other (Does t) is = ne_eqb t.number n (λ same. let less : t.number < bound = is.1 in omega (arith, less, le, same))
    other (Lone answer) is = ne_eqb 0 n (λ same. omega (arith, first, same))

-- so the lines of what is over do not cut that one short
pub over_uncut : (P : WorkItem → List Reply → Type 0) (n : ℕ) (items : List WorkItem) (lines : List Numbered) → AllOther n items → Along P items lines → AllByRecursion (IsUncutUnder n) lines
over_uncut P n [] lines all is = subst (λ (ls : List Numbered). AllByRecursion (IsUncutUnder n) ls) (sym is) tt
over_uncut P n (item ∷ items) lines all (mine, others, splits, p, rest) =
    subst (λ (ls : List Numbered). AllByRecursion (IsUncutUnder n) ls) (sym splits)
    (all_append (IsUncutUnder n) (numbered (number_of item) mine) others (other_uncut n (number_of item) mine all.0) (over_uncut P n items others all.1 rest))

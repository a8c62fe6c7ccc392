-- The nodes have their turns one after the other.
use Rattle.std.proofs.Common.{◌≡◌, inl, ℕ, suc, ◌+◌, ◌<◌, ◌≤◌, List, [], ◌∷◌, ◌++◌, length, length-append, append_assoc, refl, sym, subst, ap, ◌∙◌, arith, get_or, set, take, drop}
use Rattle.actor_trace.specs.Actors.{Knows}
use Rattle.actor_trace.specs.Lists.{Begins}
use Rattle.cluster_consensus.specs.Enabled.{Fit}
use Rattle.cluster_consensus.specs.Facts.{Admit}
use Rattle.cluster_events.specs.Settings.{Setting}
use Rattle.cluster_steps.specs.Guards.{AreLegalSteps, IsPlan}
use Rattle.cluster_steps.specs.declared.events.Event.{Event}
use Rattle.core_lists.specs.Lists.{In}
use Rattle.core_lists.specs.Lists.In.{here, there}
use Rattle.node_openings.specs.Judged.{admit_of as admits_in, admits_of}
use Rattle.node_openings.specs.declared.found.StoreFound.{StoreFound}
use Rattle.node_openings.specs.declared.found.StoreFound.TheVariants as store
use Rattle.node_state.specs.Stores.{Stored}
use Rattle.node_state.proofs.CallLaws.{begins_on}
use Rattle.node_state.specs.Nodes.{events_of}
use Rattle.node_starts.specs.Admits.{AdmitsBelow, admission, deeds_at, deeds_from}
use Rattle.node_starts.specs.News.{AreNew, IsNew, IsReady}
use Rattle.node_starts.specs.Order.{AllGoOn, GoesOn}
use Rattle.node_starts.specs.Turns.{TurnOver, TurnSafe}
use Rattle.node_starts.proofs.AdmitLaws.{deeds_more}
use Rattle.node_starts.proofs.OrderLaws.{all_go_on, goes_from, made_there, none_yet}
use Rattle.node_starts.specs.News.AreNew.{new_none, new_more}
use Rattle.node_starts.specs.Starts.{AreKept, AreStarted, CanStart, HasTurn, IsAmong, KeepsStore, StartsAs}
use Rattle.node_starts.specs.Starts.AreKept.{kept_none, kept_more}
use Rattle.node_starts.specs.Starts.AreStarted.{started_none, started_more}

-- the nodes of a loop: those that had their turn, and those that are left, with what was found of their stores
pub record Turns (G : Setting) (first : Knows Event) (all : List Admit) (olds news : List Stored) (ss left : List StoreFound) (i : ℕ) (o : Knows Event) : Type 0 where
  pub before : List Stored
  pub after : List Stored
  pub rest : List Stored
  pub gone : List StoreFound
  pub were : olds ≡ before ++ rest
  pub are : news ≡ after ++ rest
  pub stores : ss ≡ gone ++ left
  pub at : length after ≡ i
  pub passed : length gone ≡ i
  pub started : AreStarted o.seen gone before after
  pub kept : AreKept before after
  pub new : AreNew (i + 1) left rest
  pub below : AdmitsBelow G all (i + 1) o
  pub room : length left ≤ o.room
  pub did : events_of o.made ≡ deeds_from 1 gone
  pub order : AllGoOn first olds o news

pub first_turn : (G : Setting) (all : List Admit) (ns : List Stored) (ss left : List StoreFound) (o : Knows Event) → left ≡ ss → AreNew 1 ss ns → AdmitsBelow G all 1 o → length ss ≤ 7 → 7 ≤ o.room → o.made ≡ [] → Turns G o all ns ns ss left 0 o
first_turn G all ns ss left o same new below few room made =
    let at_first : Turns G o all ns ns ss ss 0 o = record {
      before = [];
      after = [];
      rest = ns;
      gone = [];
      were = refl;
      are = refl;
      stores = refl;
      at = refl;
      passed = refl;
      started = started_none;
      kept = kept_none;
      new = new;
      below = below;
      room = (let r : length ss ≤ o.room = omega arith in r);
      did = ap events_of made;
      order = none_yet o ns;
    } in
    subst (λ l. Turns G o all ns ns ss l 0 o) (sym same) at_first

keeps_itself : (n : Stored) → KeepsStore n.over n.over
keeps_itself n = inl (λ ks h. h)

kept_all : (ns : List Stored) → AreKept ns ns
kept_all [] = kept_none
kept_all (n ∷ ns) = kept_more (keeps_itself n) (kept_all ns)

pub all_kept : (ns : List Stored) → AreKept ns ns
all_kept ns = kept_all ns

join_kept : {os ns : List Stored} (rest : List Stored) → AreKept os ns → AreKept (os ++ rest) (ns ++ rest)
join_kept rest kept_none = kept_all rest
join_kept rest (kept_more x xs) = kept_more x (join_kept rest xs)

add_kept : {os ns : List Stored} (o n : Stored) → KeepsStore o.over n.over → AreKept os ns → AreKept (os ++ o ∷ []) (ns ++ n ∷ [])
add_kept o n x kept_none = kept_more x kept_none
add_kept o n x (kept_more y ys) = kept_more y (add_kept o n x ys)

more_started : {seen now : List (ℕ × Event)} {ss : List StoreFound} {os ns : List Stored} → Begins seen now → AreStarted seen ss os ns → AreStarted now ss os ns
more_started b started_none = started_none
more_started b (started_more x k xs) = started_more x (begins_on k b) (more_started b xs)

add_started : {seen : List (ℕ × Event)} {ss : List StoreFound} {os ns : List Stored} (s : StoreFound) (o n : Stored) → StartsAs s o n → Begins n.actor.seen seen → AreStarted seen ss os ns
    → AreStarted seen (ss ++ s ∷ []) (os ++ o ∷ []) (ns ++ n ∷ [])
add_started s o n x k started_none = started_more x k started_none
add_started s o n x k (started_more y l ys) = started_more y l (add_started s o n x k ys)

-- what is left, all has a place
in_behind : (k : ℕ) (gone : List StoreFound) (s : StoreFound) (left : List StoreFound) (x : Admit) → In x (admits_in (k + length gone) s) → In x (admits_of k (gone ++ s ∷ left))
in_behind k [] s left x h = in_front (admits_in k s) (admits_of (k + 1) left) x (subst (λ j. In x (admits_in j s)) (zero_more k) h)
  where
    zero_more : (k : ℕ) → k + 0 ≡ k
    zero_more k = omega arith

    in_front : (xs ys : List Admit) (x : Admit) → In x xs → In x (xs ++ ys)
    in_front (y ∷ xs) ys x here = here
    in_front (y ∷ xs) ys x (there m) = there (in_front xs ys x m)
    in_front [] ys x m = absurd (elim m [ ])
in_behind k (g ∷ gone) s left x h = in_back (admits_in k g) (admits_of (k + 1) (gone ++ s ∷ left)) x (in_behind (k + 1) gone s left x (subst (λ j. In x (admits_in j s)) (one_more k (length gone)) h))
  where
    one_more : (k l : ℕ) → k + suc l ≡ (k + 1) + l
    one_more k l = omega arith

    in_back : (xs ys : List Admit) (x : Admit) → In x ys → In x (xs ++ ys)
    in_back [] ys x m = m
    in_back (y ∷ xs) ys x m = there (in_back xs ys x m)

among : (gone : List StoreFound) (s : StoreFound) (left ss : List StoreFound) (i : ℕ) → length gone ≡ i → ss ≡ gone ++ s ∷ left → IsAmong (i + 1) s (admits_of 1 ss)
among gone store.Failed left ss i at is = tt
among gone (store.Bad place) left ss i at is = tt
among gone store.NotSound left ss i at is = tt
among gone (store.Whole r) left ss i at is =
    subst (λ l. In (admission (i + 1) r.promised r.accepted) (admits_of 1 l)) (sym is)
    (in_behind 1 gone (store.Whole r) left (admission (i + 1) r.promised r.accepted) (subst (λ j. In (admission (i + 1) r.promised r.accepted) (admits_in j (store.Whole r))) (number (length gone) i at) here))
  where
    number : (l i : ℕ) → l ≡ i → i + 1 ≡ 1 + l
    number l i e = omega arith

get_behind : {A : Type 0} (xs rest : List A) (x d : A) → get_or (xs ++ x ∷ rest) (length xs) d ≡ x
get_behind [] rest x d = refl
get_behind (y ∷ xs) rest x d = get_behind xs rest x d

set_behind : {A : Type 0} (xs rest : List A) (x y : A) → set (xs ++ x ∷ rest) (length xs) y ≡ xs ++ y ∷ rest
set_behind [] rest x y = refl
set_behind (z ∷ xs) rest x y = ap (λ l. z ∷ l) (set_behind xs rest x y)

moved : {A : Type 0} (before : List A) (o : A) (behind : List A) → before ++ o ∷ behind ≡ (before ++ o ∷ []) ++ behind
moved before o behind = sym (append_assoc before (o ∷ []) behind)

-- the next node has its turn
pub record NextTurn (k : ℕ) (rest : List Stored) (s : StoreFound) (left : List StoreFound) : Type 0 where
  pub node : Stored
  pub behind : List Stored
  pub rest_is : rest ≡ node ∷ behind
  pub new : IsNew k node
  pub ready : IsReady s node.over
  pub others : AreNew (k + 1) left behind

next_turn : {k : ℕ} {rest : List Stored} {s : StoreFound} {left : List StoreFound} → AreNew k (s ∷ left) rest → NextTurn k rest s left
next_turn (new_more {n = n} {ns = ns} a b c) = record { node = n; behind = ns; rest_is = refl; new = a; ready = b; others = c }

-- as many are left as stores
none_left : {k : ℕ} {rest : List Stored} → AreNew k [] rest → rest ≡ []
none_left new_none = refl

pub never_short : (G : Setting) (first : Knows Event) (all : List Admit) (olds news : List Stored) (ss left : List StoreFound) (i : ℕ) (o : Knows Event) → left ≡ [] → Turns G first all olds news ss left i o → i < length news → ⊥
never_short G first all olds news ss left i o none t below =
    let rest_is : t.rest ≡ [] = none_left (subst (λ l. AreNew (i + 1) l t.rest) none t.new) in
    let e : length news ≡ length t.after + 0 = ap length (t.are ∙ ap (λ r. t.after ++ r) rest_is) ∙ length-append t.after [] in
    let at : length t.after ≡ i = t.at in
    omega arith

node_at : (G : Setting) (first : Knows Event) (all : List Admit) (olds news : List Stored) (ss left : List StoreFound) (s : StoreFound) (i : ℕ) (o : Knows Event) (d : Stored) (t : Turns G first all olds news ss (s ∷ left) i o)
    → get_or news i d ≡ (next_turn t.new).node
node_at G first all olds news ss left s i o d t =
    let n = next_turn t.new in
    ap (λ l. get_or l i d) (t.are ∙ ap (λ r. t.after ++ r) n.rest_is) ∙ (ap (λ k. get_or (t.after ++ n.node ∷ n.behind) k d) (sym t.at) ∙ get_behind t.after n.behind n.node d)

its_turn : (G : Setting) (first : Knows Event) (olds news : List Stored) (ss left : List StoreFound) (s : StoreFound) (i : ℕ) (o : Knows Event) (d : Stored) → IsPlan G → Fit G.nodes (admits_of 1 ss)
    → Turns G first (admits_of 1 ss) olds news ss (s ∷ left) i o → HasTurn G (admits_of 1 ss) (i + 1) s o (get_or news i d)
its_turn G first olds news ss left s i o d plan fit t =
    let n = next_turn t.new in
    let same = node_at G first (admits_of 1 ss) olds news ss left s i o d t in
    record {
      plan = plan;
      fit = fit;
      below = t.below;
      among = among t.gone s left ss i t.passed t.stores;
      new = subst (λ x. IsNew (i + 1) x) (sym same) n.new;
      ready = subst (λ (x : Stored). IsReady s x.over) (sym same) n.ready;
    }

next_number : (i : ℕ) → i + 1 ≡ suc i
next_number i = omega arith

kept_size : {os ns : List Stored} → AreKept os ns → length os ≡ length ns
kept_size kept_none = refl
kept_size (kept_more x xs) = ap suc (kept_size xs)

-- the nodes of a loop that ends early are put back whole
whole_front : {A : Type 0} (xs ys : List A) → length xs ≡ length ys → take (length xs) (ys ++ drop (length ys) xs) ≡ ys
whole_front [] [] e = refl
whole_front [] (y ∷ ys) e = absurd (let m : 0 ≡ suc (length ys) = e in omega arith)
whole_front (x ∷ xs) [] e = absurd (let m : suc (length xs) ≡ 0 = e in omega arith)
whole_front (x ∷ xs) (y ∷ ys) e = ap (λ l. y ∷ l) (whole_front xs ys (let m : suc (length xs) ≡ suc (length ys) = e in omega arith))

pub put_back : (n : ℕ) (olds news : List Stored) → n ≡ length olds → AreKept olds news → AreKept olds (take n (news ++ drop (length news) olds))
put_back n olds news many kept =
    subst (λ l. AreKept olds l) (sym (ap (λ k. take k (news ++ drop (length news) olds)) many ∙ whole_front olds news (kept_size kept))) kept

-- all of them, where the loop is over
pub whole_nodes : (n : ℕ) (olds news : List Stored) → n ≡ length olds → length olds ≡ length news → take n (news ++ drop (length news) olds) ≡ news
whole_nodes n olds news many same = ap (λ k. take k (news ++ drop (length news) olds)) many ∙ whole_front olds news same

pub same_size : (G : Setting) (first : Knows Event) (all : List Admit) (olds news : List Stored) (ss left : List StoreFound) (i : ℕ) (o : Knows Event) → Turns G first all olds news ss left i o → length olds ≡ length news
same_size G first all olds news ss left i o t =
    let e : length olds ≡ length t.before + length t.rest = ap length t.were ∙ length-append t.before t.rest in
    let f : length news ≡ length t.after + length t.rest = ap length t.are ∙ length-append t.after t.rest in
    let k : length t.before ≡ length t.after = kept_size t.kept in
    omega arith

-- of the node that is at hand
at_hand : (G : Setting) (first : Knows Event) (olds news : List Stored) (ss left : List StoreFound) (s : StoreFound) (i : ℕ) (o : Knows Event) (x : Stored) → IsPlan G → Fit G.nodes (admits_of 1 ss) → x ≡ get_or news i x
    → Turns G first (admits_of 1 ss) olds news ss (s ∷ left) i o → HasTurn G (admits_of 1 ss) x.vote.node s o x
at_hand G first olds news ss left s i o x plan fit item t =
    let h : HasTurn G (admits_of 1 ss) (i + 1) s o x = subst (λ (y : Stored). HasTurn G (admits_of 1 ss) (i + 1) s o y) (sym item) (its_turn G first olds news ss left s i o x plan fit t) in
    subst (λ k. HasTurn G (admits_of 1 ss) k s o x) (sym h.new.number) h

is_numbered : (G : Setting) (first : Knows Event) (all : List Admit) (olds news : List Stored) (ss left : List StoreFound) (s : StoreFound) (i : ℕ) (o : Knows Event) (x : Stored) → x ≡ get_or news i x → Turns G first all olds news ss (s ∷ left) i o → x.vote.node ≡ i + 1
is_numbered G first all olds news ss left s i o x item t =
    let n = next_turn t.new in
    ap (λ (y : Stored). y.vote.node) (item ∙ node_at G first all olds news ss left s i o x t) ∙ n.new.number

pub can_start : (G : Setting) (first : Knows Event) (olds news : List Stored) (ss all left : List StoreFound) (s : StoreFound) (i : ℕ) (o : Knows Event) (x : Stored) → x ≡ get_or news i x → all ≡ s ∷ left
    → Turns G first (admits_of 1 ss) olds news ss all i o → IsPlan G → Fit G.nodes (admits_of 1 ss) → CanStart G s o x
can_start G first olds news ss all left s i o x item is t plan fit =
    record { all = admits_of 1 ss; turn = at_hand G first olds news ss left s i o x plan fit item (subst (λ l. Turns G first (admits_of 1 ss) olds news ss l i o) is t) }

pub has_room : (G : Setting) (first : Knows Event) (some : List Admit) (olds news : List Stored) (ss all left : List StoreFound) (s : StoreFound) (i : ℕ) (o : Knows Event) → all ≡ s ∷ left → Turns G first some olds news ss all i o → 1 ≤ o.room
has_room G first some olds news ss all left s i o is t =
    let size : length all ≡ suc (length left) = ap length is in
    let room : length all ≤ o.room = t.room in
    omega arith

-- its turn is over
turn_over : (G : Setting) (first : Knows Event) (olds news : List Stored) (ss left : List StoreFound) (s : StoreFound) (i : ℕ) (o now : Knows Event) (x n : Stored) → IsPlan G → Fit G.nodes (admits_of 1 ss) → x ≡ get_or news i x → i < length news
    → Turns G first (admits_of 1 ss) olds news ss (s ∷ left) i o → TurnSafe G s o x now n → TurnOver G s o x now n → Turns G first (admits_of 1 ss) olds (set news i n) ss left (i + 1) now
turn_over G first olds news ss left s i o now x n plan fit item inside t safe over =
    let y = next_turn t.new in
    let x_is : x ≡ y.node = item ∙ node_at G first (admits_of 1 ss) olds news ss left s i o x t in
    let rest_is : t.rest ≡ x ∷ y.behind = y.rest_is ∙ ap (λ z. z ∷ y.behind) (sym x_is) in
    let number : x.vote.node ≡ i + 1 = is_numbered G first (admits_of 1 ss) olds news ss left s i o x item t in
    let h = at_hand G first olds news ss left s i o x plan fit item t in
    record {
      before = t.before ++ x ∷ [];
      after = t.after ++ n ∷ [];
      rest = y.behind;
      gone = t.gone ++ s ∷ [];
      were = t.were ∙ (ap (λ r. t.before ++ r) rest_is ∙ moved t.before x y.behind);
      are = ap (λ l. set l i n) (t.are ∙ ap (λ r. t.after ++ r) rest_is) ∙ (ap (λ k. set (t.after ++ x ∷ y.behind) k n) (sym t.at) ∙ (set_behind t.after y.behind x n ∙ moved t.after n y.behind));
      stores = t.stores ∙ moved t.gone s left;
      at = length-append t.after (n ∷ []) ∙ ap (λ k. k + 1) t.at;
      passed = length-append t.gone (s ∷ []) ∙ ap (λ k. k + 1) t.passed;
      started = add_started s x n over.starts over.knows (more_started safe.more t.started);
      kept = add_kept x n safe.kept t.kept;
      new = y.others;
      below = subst (λ k. AdmitsBelow G (admits_of 1 ss) (k + 1) now) number (safe.below (admits_of 1 ss) h);
      room = (let was : length (s ∷ left) ≤ o.room = t.room in let size : length (s ∷ left) ≡ suc (length left) = refl in let less : o.room ≤ now.room + 1 = safe.room in let r : length left ≤ now.room = omega arith in r);
      did = over.did ∙ (ap (λ l. l ++ deeds_at x.vote.node s) t.did ∙ (ap (λ k. deeds_from 1 t.gone ++ deeds_at k s) (number ∙ behind_gone (length t.gone) i t.passed) ∙ sym (deeds_more 1 t.gone s)));
      order = all_go_on first olds news i o now x.actor n inside (same_size G first (admits_of 1 ss) olds news ss (s ∷ left) i o t) (λ others. made_there news others i x inside ∙ ap (λ (z : Stored). z.actor.made) (sym item)) t.order
          (subst (λ k. GoesOn k o x.actor now n.actor) (number ∙ next_number i) over.order);
    }
  where
    behind_gone : (l i : ℕ) → l ≡ i → i + 1 ≡ 1 + l
    behind_gone l i e = omega arith

pub turn_done : (G : Setting) (first : Knows Event) (olds news : List Stored) (ss all left : List StoreFound) (s : StoreFound) (i : ℕ) (o now : Knows Event) (x n : Stored) → x ≡ get_or news i x → all ≡ s ∷ left
    → Turns G first (admits_of 1 ss) olds news ss all i o → TurnSafe G s o x now n → TurnOver G s o x now n → IsPlan G → Fit G.nodes (admits_of 1 ss) → i < length news → Turns G first (admits_of 1 ss) olds (set news i n) ss left (i + 1) now
turn_done G first olds news ss all left s i o now x n item is t safe over plan fit inside =
    turn_over G first olds news ss left s i o now x n plan fit item inside (subst (λ l. Turns G first (admits_of 1 ss) olds news ss l i o) is t) safe over

-- memory was wanted at its turn
pub turn_stops : (G : Setting) (first : Knows Event) (some : List Admit) (olds news : List Stored) (ss all left : List StoreFound) (s : StoreFound) (i : ℕ) (o now : Knows Event) (x n : Stored) → x ≡ get_or news i x → all ≡ s ∷ left
    → Turns G first some olds news ss all i o → TurnSafe G s o x now n → AreKept olds (set news i n)
turn_stops G first some olds news ss all left s i o now x n item is u safe =
    let t : Turns G first some olds news ss (s ∷ left) i o = subst (λ l. Turns G first some olds news ss l i o) is u in
    let y = next_turn t.new in
    let x_is : x ≡ y.node = item ∙ node_at G first some olds news ss left s i o x t in
    let rest_is : t.rest ≡ x ∷ y.behind = y.rest_is ∙ ap (λ z. z ∷ y.behind) (sym x_is) in
    let were : olds ≡ (t.before ++ x ∷ []) ++ y.behind = t.were ∙ (ap (λ r. t.before ++ r) rest_is ∙ moved t.before x y.behind) in
    let are : set news i n ≡ (t.after ++ n ∷ []) ++ y.behind = ap (λ l. set l i n) (t.are ∙ ap (λ r. t.after ++ r) rest_is) ∙ (ap (λ k. set (t.after ++ x ∷ y.behind) k n) (sym t.at) ∙ (set_behind t.after y.behind x n ∙ moved t.after n y.behind)) in
    subst (λ v. AreKept v (set news i n)) (sym were) (subst (λ w. AreKept ((t.before ++ x ∷ []) ++ y.behind) w) (sym are) (join_kept y.behind (add_kept x n safe.kept t.kept)))

pub all_so_far : (G : Setting) (first : Knows Event) (all : List Admit) (olds news : List Stored) (ss left : List StoreFound) (i : ℕ) (o : Knows Event) → Turns G first all olds news ss left i o → AreKept olds news
all_so_far G first all olds news ss left i o t = subst (λ v. AreKept v news) (sym t.were) (subst (λ w. AreKept (t.before ++ t.rest) w) (sym t.are) (join_kept t.rest t.kept))

-- all had theirs
nil_behind : {A : Type 0} (xs : List A) → xs ++ [] ≡ xs
nil_behind [] = refl
nil_behind (x ∷ xs) = ap (λ l. x ∷ l) (nil_behind xs)

no_store_left : {k : ℕ} {left : List StoreFound} → AreNew k left [] → left ≡ []
no_store_left new_none = refl

pub all_started : (G : Setting) (first : Knows Event) (all : List Admit) (olds news : List Stored) (ss left : List StoreFound) (i : ℕ) (o : Knows Event) → Turns G first all olds news ss left i o → length news ≤ i → AreStarted o.seen ss olds news
all_started G first all olds news ss left i o t over = go t.rest refl
  where
    go : (rest : List Stored) → t.rest ≡ rest → AreStarted o.seen ss olds news
    go [] is =
        let none : left ≡ [] = no_store_left (subst (λ r. AreNew (i + 1) left r) is t.new) in
        let a : olds ≡ t.before = t.were ∙ (ap (λ r. t.before ++ r) is ∙ nil_behind t.before) in
        let b : news ≡ t.after = t.are ∙ (ap (λ r. t.after ++ r) is ∙ nil_behind t.after) in
        let c : ss ≡ t.gone = t.stores ∙ (ap (λ r. t.gone ++ r) none ∙ nil_behind t.gone) in
        subst (λ x. AreStarted o.seen x olds news) (sym c) (subst (λ y. AreStarted o.seen t.gone y news) (sym a) (subst (λ z. AreStarted o.seen t.gone t.before z) (sym b) t.started))
    go (n ∷ ns) is =
        let l : length news ≡ length t.after + length (n ∷ ns) = ap length (t.are ∙ ap (λ r. t.after ++ r) is) ∙ length-append t.after (n ∷ ns) in
        let one : length (n ∷ ns) ≡ suc (length ns) = refl in
        let at : length t.after ≡ i = t.at in
        absurd (omega arith)

no_more : (G : Setting) (first : Knows Event) (all : List Admit) (olds news : List Stored) (ss left : List StoreFound) (i : ℕ) (o : Knows Event) (t : Turns G first all olds news ss left i o) → length news ≤ i → ss ≡ t.gone
no_more G first all olds news ss left i o t over = t.stores ∙ (ap (λ l. t.gone ++ l) (none_of t.rest refl) ∙ nil_behind t.gone)
  where
    none_of : (rest : List Stored) → t.rest ≡ rest → left ≡ []
    none_of [] is = no_store_left (subst (λ r. AreNew (i + 1) left r) is t.new)
    none_of (n ∷ ns) is =
        let l : length news ≡ length t.after + length (n ∷ ns) = ap length (t.are ∙ ap (λ r. t.after ++ r) is) ∙ length-append t.after (n ∷ ns) in
        let one : length (n ∷ ns) ≡ suc (length ns) = refl in
        let at : length t.after ≡ i = t.at in
        absurd (omega arith)

pub all_did : (G : Setting) (first : Knows Event) (all : List Admit) (olds news : List Stored) (ss left : List StoreFound) (i : ℕ) (o : Knows Event) → Turns G first all olds news ss left i o → length news ≤ i → events_of o.made ≡ deeds_from 1 ss
all_did G first all olds news ss left i o t over = t.did ∙ ap (λ l. deeds_from 1 l) (sym (no_more G first all olds news ss left i o t over))

pub all_admitted : (G : Setting) (first : Knows Event) (all : List Admit) (olds news : List Stored) (ss left : List StoreFound) (i : ℕ) (o : Knows Event) → Turns G first all olds news ss left i o → length news ≤ i → AdmitsBelow G all (length ss + 1) o
all_admitted G first all olds news ss left i o t over = subst (λ k. AdmitsBelow G all (k + 1) o) (sym (ap length (no_more G first all olds news ss left i o t over) ∙ t.passed)) t.below

-- the operator got room before the first turn
pub all_in_order : (G : Setting) (o first : Knows Event) (all : List Admit) (olds news : List Stored) (ss left : List StoreFound) (i : ℕ) (now : Knows Event) → first.seen ≡ o.seen → first.made ≡ o.made → Turns G first all olds news ss left i now → AllGoOn o olds now news
all_in_order G o first all olds news ss left i now seen made t = goes_from o first olds now news seen made t.order

pub still_operator : (G : Setting) (first : Knows Event) (all : List Admit) (olds news : List Stored) (ss left : List StoreFound) (i : ℕ) (o : Knows Event) → Turns G first all olds news ss left i o → (o.number ≡ 0) × AreLegalSteps G o.seen
still_operator G first all olds news ss left i o t = (t.below.operator, t.below.legal)

pub still_legal : (G : Setting) (was seen : List (ℕ × Event)) → seen ≡ was → AreLegalSteps G was → AreLegalSteps G seen
still_legal G was seen same legal = subst (λ l. AreLegalSteps G l) (sym same) legal

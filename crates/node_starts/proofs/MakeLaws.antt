-- Nodes that are made over logs whose stores were read.
use Rattle.std.proofs.Common.{◌≡◌, ℕ, suc, ◌+◌, ◌≤◌, true, false, List, [], ◌∷◌, ◌++◌, length, length-append, append_assoc, Some, None, refl, sym, subst, ap, ◌∙◌, arith}
use Rattle.actor_trace.specs.Actors.{Knows}
use Rattle.cdb_values.specs.declared.tables.TableDef.{TableDef}
use Rattle.cluster_steps.specs.declared.events.Event.{Event}
use Rattle.election_core.specs.declared.votes.NodeVote.{NodeVote}
use Rattle.kept_log.specs.Kept.{OverStore}
use Rattle.node_state.specs.Stores.{IsKeptBy, Stored}
use Rattle.node_state.specs.Nodes.{blank_vote}
use Rattle.node_openings.specs.Found.{AreFound, AreUnopened, IsFoundAs, IsUnopened}
use Rattle.node_openings.specs.Found.AreFound.{found_none, found_more}
use Rattle.node_openings.specs.Found.AreUnopened.{unopened_more}
use Rattle.node_openings.specs.declared.found.StoreFound.{StoreFound}
use Rattle.node_openings.specs.declared.found.StoreFound.TheVariants as store
use Rattle.node_openings.specs.declared.found.WhyNotOpened.TheVariants as why
use Rattle.node_openings.specs.Judged.{bad_from, bad_place, is_unsound, unsound_from}
use Rattle.node_openings.specs.Told.{MayPlayOf}
use Rattle.node_openings.proofs.FoundLemmas.{findings_of}
use Rattle.node_openings.proofs.SeenLemmas.{bad_seen, bad_told, unsound_seen}
use Rattle.node_starts.specs.News.{AreIdle, AreMadeOf, AreNew, IsIdle, IsMadeOf, IsNew, IsReady}
use Rattle.node_starts.specs.News.AreIdle.{idle_more}
use Rattle.node_starts.specs.News.AreMadeOf.{made_none, made_more}
use Rattle.node_starts.specs.News.AreNew.{new_none, new_more}

some_none : {A : Type 0} (x : A) → Some x ≡ None → ⊥
some_none x e = let no_such : Some x ≡ None = e in cc

is_new : (nodes k : ℕ) (o : OverStore) (a : Knows Event) (n : Stored) → IsIdle k a → IsMadeOf nodes k o a n → IsNew k n
is_new nodes k o a n idle made = record {
  number = ap (λ (v : NodeVote). v.node) made.vote;
  down = ap (λ (v : NodeVote). v.up) made.vote;
  made = ap (λ (x : Knows Event). x.made) made.actor ∙ idle.made;
}

-- none of the stores is bad, and none has a log that is not sound
abbrev AreRead : List StoreFound → Type 0
AreRead [] = Unit {0}
AreRead (s ∷ ss) = (bad_place s ≡ None) × (is_unsound s ≡ false) × AreRead ss

read_of : (k : ℕ) (ss : List StoreFound) → bad_from k ss ≡ None → unsound_from k ss ≡ None → AreRead ss
read_of k [] whole sound = tt
read_of k (store.Failed ∷ ss) whole sound = (refl, refl, read_of (k + 1) ss whole sound)
read_of k (store.Bad at ∷ ss) whole sound = absurd (some_none (why.StoreRefused k at) whole)
read_of k (store.NotSound ∷ ss) whole sound = absurd (some_none k sound)
read_of k (store.Whole r ∷ ss) whole sound = (refl, refl, read_of (k + 1) ss whole sound)

all_read : (given : List TableDef) (ss : List StoreFound) (old new : List OverStore) → AreFound ss old new → MayPlayOf given ss → AreRead ss
all_read given ss old new found may =
    let h = findings_of found in
    let m = may.over h.findings h.seen in
    read_of 1 ss (bad_seen 1 ss h.findings h.seen ∙ ap bad_told m.fit.0.0) (unsound_seen 1 ss h.findings h.seen ∙ m.fit.0.1)

ready_as : (s : StoreFound) (old o : OverStore) → bad_place s ≡ None → is_unsound s ≡ false → IsFoundAs s old o → IsReady s o
ready_as store.Failed old o whole sound x = tt
ready_as (store.Bad at) old o whole sound x = some_none at whole
ready_as store.NotSound old o whole sound x = (let no_such : true ≡ false = sound in cc)
ready_as (store.Whole r) old o whole sound x = record { entries = x.0.was.entries; holds = x.0.was.holds; may = x.0.was.may }

new_from : {nodes k : ℕ} {found : List StoreFound} {old logs : List OverStore} {actors : List (Knows Event)} {made : List Stored} → AreRead found → AreFound found old logs → AreMadeOf nodes k logs actors made → AreNew k found made
new_from read found_none made_none = new_none
new_from {nodes} {k} read (found_more {f = s} {o = o} {n = l} x xs) (made_more {a = a} {n = n} i m ms) =
    new_more (is_new nodes k l a n i m) (subst (λ (y : OverStore). IsReady s y) (sym m.over) (ready_as s o l read.0 read.1 x)) (new_from {k = k + 1} read.2 xs ms)

pub made_are_new : (nodes : ℕ) (given : List TableDef) (found : List StoreFound) (old logs : List OverStore) (actors : List (Knows Event)) (made : List Stored) → AreFound found old logs → MayPlayOf given found → AreMadeOf nodes 1 logs actors made → AreNew 1 found made
made_are_new nodes given found old logs actors made f may m = new_from (all_read given found old logs f may) f m

-- the loop that makes so many
pub record Making (count : ℕ) (logs left : List OverStore) (actors rest : List (Knows Event)) (made : List Stored) (k : ℕ) : Type 0 where
  pub used : List OverStore
  pub busy : List (Knows Event)
  pub logs_are : logs ≡ used ++ left
  pub actors_are : actors ≡ busy ++ rest
  pub so_far : AreMadeOf count 1 used busy made
  pub next : 1 + length made ≡ k
  pub unopened : AreUnopened k left
  pub idle : AreIdle k rest
  pub even : length rest ≡ length left

pub first_made : (count : ℕ) (logs left : List OverStore) (actors rest : List (Knows Event)) (made : List Stored) → left ≡ logs → rest ≡ actors → made ≡ [] → AreUnopened 1 logs → AreIdle 1 actors → length actors ≡ length logs → Making count logs left actors rest made 1
first_made count logs left actors rest made logs_same actors_same none u i e =
    let m : Making count logs logs actors actors [] 1 = record { used = []; busy = []; logs_are = refl; actors_are = refl; so_far = made_none; next = refl; unopened = u; idle = i; even = e } in
    subst (λ l. Making count logs l actors rest made 1) (sym logs_same)
    (subst (λ r. Making count logs logs actors r made 1) (sym actors_same) (subst (λ x. Making count logs logs actors actors x 1) (sym none) m))

add_made : {nodes k : ℕ} {os : List OverStore} {others : List (Knows Event)} {ns : List Stored} (o : OverStore) (a : Knows Event) (n : Stored) (at : ℕ) → k + length ns ≡ at → IsIdle at a → IsMadeOf nodes at o a n
    → AreMadeOf nodes k os others ns → AreMadeOf nodes k (os ++ o ∷ []) (others ++ a ∷ []) (ns ++ n ∷ [])
add_made {nodes = nodes} {k = k} o a n at e i m made_none =
    let same : at ≡ k = (let z : k + 0 ≡ at = e in omega arith) in
    made_more (subst (λ j. IsIdle j a) same i) (subst (λ j. IsMadeOf nodes j o a n) same m) made_none
add_made {k = k} o a n at e i x (made_more {ns = ms} j y ys) = made_more j y (add_made o a n at (let f : k + suc (length ms) ≡ at = e in let g : (k + 1) + length ms ≡ at = omega arith in g) i x ys)

front_unopened : {k : ℕ} {o : OverStore} {os : List OverStore} → AreUnopened k (o ∷ os) → IsUnopened k o
front_unopened (unopened_more x xs) = x

rest_unopened : {k : ℕ} {o : OverStore} {os : List OverStore} → AreUnopened k (o ∷ os) → AreUnopened (k + 1) os
rest_unopened (unopened_more x xs) = xs

front_idle : {k : ℕ} {a : Knows Event} {others : List (Knows Event)} → AreIdle k (a ∷ others) → IsIdle k a
front_idle (idle_more x xs) = x

rest_idle : {k : ℕ} {a : Knows Event} {others : List (Knows Event)} → AreIdle k (a ∷ others) → AreIdle (k + 1) others
rest_idle (idle_more x xs) = xs

moved : {A : Type 0} (before : List A) (o : A) (behind : List A) → before ++ o ∷ behind ≡ (before ++ o ∷ []) ++ behind
moved before o behind = sym (append_assoc before (o ∷ []) behind)

made_one : (count : ℕ) (logs left : List OverStore) (actors rest : List (Knows Event)) (made : List Stored) (k : ℕ) (o : OverStore) (a : Knows Event) (n : Stored) → Making count logs (o ∷ left) actors (a ∷ rest) made k
    → n.vote ≡ blank_vote k count → n.over ≡ o → n.actor ≡ a → Making count logs left actors rest (made ++ n ∷ []) (k + 1)
made_one count logs left actors rest made k o a n m vote over actor = record {
  used = m.used ++ o ∷ [];
  busy = m.busy ++ a ∷ [];
  logs_are = m.logs_are ∙ moved m.used o left;
  actors_are = m.actors_are ∙ moved m.busy a rest;
  so_far = add_made o a n k m.next (front_idle m.idle) (record { vote = vote; over = over; actor = actor }) m.so_far;
  next = (let l : length (made ++ n ∷ []) ≡ length made + 1 = length-append made (n ∷ []) in let was : 1 + length made ≡ k = m.next in let now : 1 + length (made ++ n ∷ []) ≡ k + 1 = omega arith in now);
  unopened = rest_unopened m.unopened;
  idle = rest_idle m.idle;
  even = (let e : suc (length rest) ≡ suc (length left) = m.even in let f : length rest ≡ length left = omega arith in f);
}

pub made_more_of : (count : ℕ) (logs all left : List OverStore) (actors others rest : List (Knows Event)) (made now : List Stored) (k : ℕ) (o : OverStore) (a : Knows Event) (n : Stored) → all ≡ o ∷ left → others ≡ a ∷ rest → Making count logs all actors others made k
    → n.vote ≡ blank_vote k count → n.over ≡ o → n.actor ≡ a → now ≡ made ++ n ∷ [] → Making count logs left actors rest now (k + 1)
made_more_of count logs all left actors others rest made now k o a n logs_is actors_is m vote over actor more =
    subst (λ l. Making count logs left actors rest l (k + 1)) (sym more)
    (made_one count logs left actors rest made k o a n (subst (λ r. Making count logs (o ∷ left) actors r made k) actors_is (subst (λ l. Making count logs l actors others made k) logs_is m)) vote over actor)

-- what the next node is made of
pub log_fits : (count : ℕ) (logs all left : List OverStore) (actors rest : List (Knows Event)) (made : List Stored) (k : ℕ) (o : OverStore) → all ≡ o ∷ left → Making count logs all actors rest made k → IsKeptBy (blank_vote k count) o × (o.entries ≡ [])
log_fits count logs all left actors rest made k o is m =
    let x = front_unopened (subst (λ l. AreUnopened k l) is m.unopened) in
    (record { node = x.node; promised = x.promise; accepted = x.acceptance; is_open = x.shut }, x.none)

pub actor_fits : (count : ℕ) (logs all : List OverStore) (actors others rest : List (Knows Event)) (made : List Stored) (k : ℕ) (a : Knows Event) → others ≡ a ∷ rest → Making count logs all actors others made k → (a.number ≡ k) × (a.made ≡ [])
actor_fits count logs all actors others rest made k a is m = let x = front_idle (subst (λ l. AreIdle k l) is m.idle) in (x.number, x.made)

made_size : {nodes k : ℕ} {os : List OverStore} {others : List (Knows Event)} {ns : List Stored} → AreMadeOf nodes k os others ns → length ns ≡ length os
made_size made_none = refl
made_size (made_more i m xs) = ap suc (made_size xs)

pub run_fits : (nodes count k : ℕ) (logs slice all left : List OverStore) (o : OverStore) (actors rest : List (Knows Event)) (made : List Stored) → all ≡ o ∷ left → Making count logs all actors rest made k → slice ≡ logs → count ≡ length slice → length logs ≡ nodes → length logs ≤ 7
    → (count ≡ nodes) × (count ≤ 7) × (1 ≤ k) × (k ≤ count)
run_fits nodes count k logs slice all left o actors rest made is m same many each few =
    let size : length slice ≡ length logs = ap length same in
    let next : 1 + length made ≡ k = m.next in
    let used : length made ≡ length m.used = made_size m.so_far in
    let whole : length logs ≡ length m.used + length all = ap length m.logs_are ∙ length-append m.used all in
    let some : length all ≡ suc (length left) = ap length is in
    ((let a : count ≡ nodes = omega arith in a), (let b : count ≤ 7 = omega arith in b), (let c : 1 ≤ k = omega arith in c), (let d : k ≤ count = omega arith in d))

-- as many actors are left as logs
pub never_alone : (count : ℕ) (logs all left : List OverStore) (actors rest : List (Knows Event)) (made : List Stored) (k : ℕ) (o : OverStore) → all ≡ o ∷ left → rest ≡ [] → Making count logs all actors rest made k → ⊥
never_alone count logs all left actors rest made k o is none m =
    let some : length all ≡ suc (length left) = ap length is in
    let nothing : length rest ≡ 0 = ap length none in
    let even : length rest ≡ length all = m.even in
    omega arith

nil_behind : {A : Type 0} (xs : List A) → xs ++ [] ≡ xs
nil_behind [] = refl
nil_behind (x ∷ xs) = ap (λ l. x ∷ l) (nil_behind xs)

pub none_of : {A : Type 0} (xs : List A) → length xs ≡ 0 → xs ≡ []
none_of [] e = refl
none_of (x ∷ xs) e = absurd (let n : suc (length xs) ≡ 0 = e in omega arith)

pub all_made : (nodes count k : ℕ) (logs slice all : List OverStore) (actors rest : List (Knows Event)) (made : List Stored) → all ≡ [] → Making count logs all actors rest made k → slice ≡ logs → count ≡ length slice → length logs ≡ nodes → AreMadeOf nodes 1 logs actors made
all_made nodes count k logs slice all actors rest made none m same many each =
    let left : rest ≡ [] = none_of rest (m.even ∙ ap length none) in
    let a : logs ≡ m.used = m.logs_are ∙ (ap (λ l. m.used ++ l) none ∙ nil_behind m.used) in
    let b : actors ≡ m.busy = m.actors_are ∙ (ap (λ l. m.busy ++ l) left ∙ nil_behind m.busy) in
    let c : count ≡ nodes = many ∙ (ap length same ∙ each) in
    subst (λ n. AreMadeOf n 1 logs actors made) c (subst (λ l. AreMadeOf count 1 l actors made) (sym a) (subst (λ r. AreMadeOf count 1 m.used r made) (sym b) m.so_far))

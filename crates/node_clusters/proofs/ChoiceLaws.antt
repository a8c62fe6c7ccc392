-- Who of the nodes is up, who of them is the best, and whether it is known who leads.
use Rattle.std.proofs.Common.{ℕ, ◌≡◌, ◌+◌, ◌-◌, ◌<◌, ◌≤◌, List, length, get_or, arith, refl, sym, subst, ap, ◌∙◌, add-one}
use Rattle.std.specs.Prelude.{zero, suc, Bool, true, false, cond, Option, None, Some}
use Rattle.std.proofs.lemmas.List.{get_or_read}
use mathlib.Core.Logic.{◌⊎◌, inl, inr}
use Rattle.cluster_events.specs.Settings.{Setting}
use Rattle.core_lists.proofs.Numbers.{lt_or_eq}
use Rattle.core_lists.specs.Majorities.{count}
use Rattle.election_core.specs.declared.votes.NodeVote.{NodeVote}
use Rattle.node_clusters.proofs.PlaceLaws.{beyond, placed}
use Rattle.node_clusters.specs.Best.{IsBelow, IsBestOf, IsBetter}
use Rattle.node_clusters.specs.Changes.{MayFollow}
use Rattle.node_clusters.specs.Clusters.{IsAlone, IsOther, IsStill}
use Rattle.node_clusters.specs.Elections.{IsIfLeading}
use Rattle.node_clusters.specs.Places.{no_node, node_at, votes}
use Rattle.node_state.specs.Nodes.{IsOwn}
use Rattle.node_state.specs.Stores.{Stored, held_of}
use Rattle.quiet_cluster.specs.Led.{NobodyAbove}

-- the next node
pub next_placed : (vs : List Stored) (i : ℕ) (v : Stored) → i < length vs → v ≡ get_or vs i v → node_at vs (i + 1) ≡ v
next_placed vs i v lt at = subst (λ k. node_at vs k ≡ v) (sym (add-one i)) (sym (get_or_read vs i v lt at no_node))

next_vote : (vs : List Stored) (i : ℕ) (v : Stored) (u : NodeVote) → i < length vs → v ≡ get_or vs i v → u ≡ v.vote → u ≡ votes vs (i + 1)
next_vote vs i v u lt at e = e ∙ ap (λ (t : Stored). t.vote) (sym (next_placed vs i v lt at))

count_next : (q : ℕ → Bool) (i : ℕ) (b : Bool) → q (i + 1) ≡ b → count (i + 1) q ≡ cond b 1 0 + count i q
count_next q i b e = subst (λ k. q k ≡ b → count k q ≡ cond b 1 0 + count i q) (sym (add-one i)) (λ f. ap (λ t. cond t 1 0 + count i q) f) e

-- how many are up
pub count_more : (vs : List Stored) (i n m k : ℕ) (v : Stored) (u : NodeVote) → i < length vs → v ≡ get_or vs i v → u ≡ v.vote → k ≡ cond u.up 1 0 → n ≡ count i (λ j. (votes vs j).up) → m ≡ n + k → m ≡ count (i + 1) (λ j. (votes vs j).up)
count_more vs i n m k v u lt at e is old more =
    let c : count (i + 1) (λ j. (votes vs j).up) ≡ cond u.up 1 0 + count i (λ j. (votes vs j).up) = count_next (λ j. (votes vs j).up) i u.up (ap (λ (t : NodeVote). t.up) (sym (next_vote vs i v u lt at e))) in
    omega arith

-- what holds of the first nodes that are up, and of the next one
pub holds_next : (P : NodeVote → Type 0) (vs : List Stored) (i : ℕ) (v : Stored) (u : NodeVote) → i < length vs → v ≡ get_or vs i v → u ≡ v.vote → ((k : ℕ) → k ≤ i → (votes vs k).up ≡ true → P (votes vs k)) → (u.up ≡ true → P u)
    → (k : ℕ) → k ≤ i + 1 → (votes vs k).up ≡ true → P (votes vs k)
holds_next P vs i v u lt at e old new k le up = go (lt_or_eq k (i + 1) le)
  where
    go : (k < i + 1) ⊎ (k ≡ i + 1) → P (votes vs k)
    go (inl less) = old k (omega arith) up
    go (inr eq) =
        let w : u ≡ votes vs k = next_vote vs i v u lt at e ∙ ap (λ j. votes vs j) (sym eq) in
        subst P w (new (ap (λ (t : NodeVote). t.up) w ∙ up))

le_or_more : (a b : ℕ) → (a ≤ b) ⊎ (b < a)
le_or_more zero b = inl (omega arith)
le_or_more (suc a) zero = inr (omega arith)
le_or_more (suc a) (suc b) = elim (le_or_more a b) [ inl x ↦ inl (omega arith) | inr x ↦ inr (omega arith) ]

-- of all of them
pub holds_all : (P : NodeVote → Type 0) (vs : List Stored) (n : ℕ) → length vs ≤ n → ((k : ℕ) → k ≤ n → (votes vs k).up ≡ true → P (votes vs k)) → (k : ℕ) → (votes vs k).up ≡ true → P (votes vs k)
holds_all P vs n all old k up = go (le_or_more k n)
  where
    go : (k ≤ n) ⊎ (n < k) → P (votes vs k)
    go (inl le) = old k le up
    go (inr lt) =
        let x : (votes vs k).up ≡ false = ap (λ (t : Stored). t.vote.up) (beyond vs k (inr (omega arith))) in
        absurd (cc)

pub none_first : (P : NodeVote → Type 0) (vs : List Stored) (k : ℕ) → k ≤ 0 → (votes vs k).up ≡ true → P (votes vs k)
none_first P vs zero le up = absurd (let x : false ≡ true = up in cc)
none_first P vs (suc k) le up = absurd (omega arith)

-- pairs
below_on : (v u w : NodeVote) → IsBelow v u → IsBelow u w → IsBelow v w
below_on v u w (inl a) (inl b) = inl (omega arith)
below_on v u w (inl a) (inr b) = inl (let e : u.accepted ≡ w.accepted = b.0 in omega arith)
below_on v u w (inr a) (inl b) = inl (let e : v.accepted ≡ u.accepted = a.0 in omega arith)
below_on v u w (inr a) (inr b) = inr (a.0 ∙ b.0, let x : v.length ≤ u.length = a.1 in let y : u.length ≤ w.length = b.1 in omega arith)

below_self : (v : NodeVote) → IsBelow v v
below_self v = inr (refl, omega arith)

positive : (n : ℕ) → (n ≡ 0 → ⊥) → 0 < n
positive zero h = absurd (h refl)
positive (suc n) h = omega arith

-- the next node is down
pub best_skips : (vs : List Stored) (i c : ℕ) (v : Stored) (u : NodeVote) → i < length vs → v ≡ get_or vs i v → u ≡ v.vote → u.up ≡ false → IsBestOf vs i c → IsBestOf vs (i + 1) c
best_skips vs i c v u lt at e down old = record {
  within = (let w = old.within in omega arith);
  up = old.up;
  best = λ k le up. go k up (lt_or_eq k (i + 1) le);
}
  where
    go : (k : ℕ) → (votes vs k).up ≡ true → (k < i + 1) ⊎ (k ≡ i + 1) → (0 < c) × IsBelow (votes vs k) (votes vs c)
    go k up (inl less) = old.best k (omega arith) up
    go k up (inr eq) =
        let w : (votes vs k).up ≡ u.up = ap (λ j. (votes vs j).up) eq ∙ ap (λ (t : NodeVote). t.up) (sym (next_vote vs i v u lt at e)) in
        absurd (cc)

-- the next node is better
better : (vs : List Stored) (i c : ℕ) (v : Stored) (u : NodeVote) → i < length vs → v ≡ get_or vs i v → u ≡ v.vote → u.up ≡ true → (0 < c → IsBelow (votes vs c) u) → IsBestOf vs i c → IsBestOf vs (i + 1) (i + 1)
better vs i c v u lt at e up above old = record {
  within = omega arith;
  up = λ low. ap (λ (t : NodeVote). t.up) (sym mine) ∙ up;
  best = λ k le is. go k is (lt_or_eq k (i + 1) le);
}
  where
    mine : u ≡ votes vs (i + 1)
    mine = next_vote vs i v u lt at e

    go : (k : ℕ) → (votes vs k).up ≡ true → (k < i + 1) ⊎ (k ≡ i + 1) → (0 < i + 1) × IsBelow (votes vs k) (votes vs (i + 1))
    go k is (inl less) =
        let b = old.best k (omega arith) is in
        (omega arith, subst (λ t. IsBelow (votes vs k) t) mine (below_on (votes vs k) (votes vs c) u b.1 (above b.0)))
    go k is (inr eq) = (omega arith, subst (λ j. IsBelow (votes vs j) (votes vs (i + 1))) (sym eq) (below_self (votes vs (i + 1))))

pub best_first : (vs : List Stored) (i c : ℕ) (v : Stored) (u : NodeVote) → i < length vs → v ≡ get_or vs i v → u ≡ v.vote → u.up ≡ true → c ≡ 0 → IsBestOf vs i c → IsBestOf vs (i + 1) (i + 1)
best_first vs i c v u lt at e up none old = better vs i c v u lt at e up (λ low. absurd (omega arith)) old

-- the numbers of the best so far
theirs : (vs : List Stored) (i c : ℕ) (z : Stored) (w : NodeVote) → i < length vs → (c ≡ 0 → ⊥) → z ≡ get_or vs (c - 1) z → w ≡ z.vote → IsBestOf vs i c → w ≡ votes vs c
theirs vs i c z w lt some there f old = f ∙ ap (λ (t : Stored). t.vote) (sym (placed vs c z (positive c some) (let x = old.within in omega arith) there))

pub best_takes : (vs : List Stored) (i c : ℕ) (v z : Stored) (u w : NodeVote) → i < length vs → v ≡ get_or vs i v → u ≡ v.vote → u.up ≡ true
    → (c ≡ 0 → ⊥) → z ≡ get_or vs (c - 1) z → w ≡ z.vote → IsBetter u w true → IsBestOf vs i c → IsBestOf vs (i + 1) (i + 1)
best_takes vs i c v z u w lt at e up some there f b old =
    better vs i c v u lt at e up (λ low. subst (λ t. IsBelow t u) (theirs vs i c z w lt some there f old) b) old

pub best_keeps : (vs : List Stored) (i c : ℕ) (v z : Stored) (u w : NodeVote) → i < length vs → v ≡ get_or vs i v → u ≡ v.vote → u.up ≡ true
    → (c ≡ 0 → ⊥) → z ≡ get_or vs (c - 1) z → w ≡ z.vote → IsBetter u w false → IsBestOf vs i c → IsBestOf vs (i + 1) c
best_keeps vs i c v z u w lt at e up some there f b old = record {
  within = (let x = old.within in omega arith);
  up = old.up;
  best = λ k le is. go k is (lt_or_eq k (i + 1) le);
}
  where
    mine : u ≡ votes vs (i + 1)
    mine = next_vote vs i v u lt at e

    go : (k : ℕ) → (votes vs k).up ≡ true → (k < i + 1) ⊎ (k ≡ i + 1) → (0 < c) × IsBelow (votes vs k) (votes vs c)
    go k is (inl less) = old.best k (omega arith) is
    go k is (inr eq) = (positive c some, subst (λ j. IsBelow (votes vs j) (votes vs c)) (sym eq) (subst (λ t. IsBelow t (votes vs c)) mine (subst (λ t. IsBelow u t) (theirs vs i c z w lt some there f old) b)))

pub best_none : (vs : List Stored) → IsBestOf vs 0 0
best_none vs = record { within = omega arith; up = λ low. absurd (omega arith); best = λ k le up. absurd (none_first (λ v. ⊥) vs k le up) }

-- each of the first nodes is the history's node
pub own_first : (G : Setting) (vs : List Stored) (k : ℕ) → 0 < k → k ≤ 0 → IsOwn G (held_of (node_at vs k))
own_first G vs k low high = absurd (omega arith)

pub own_next : (G : Setting) (vs : List Stored) (i : ℕ) (v : Stored) → i < length vs → v ≡ get_or vs i v → IsOwn G (held_of v) → ((k : ℕ) → 0 < k → k ≤ i → IsOwn G (held_of (node_at vs k)))
    → (k : ℕ) → 0 < k → k ≤ i + 1 → IsOwn G (held_of (node_at vs k))
own_next G vs i v lt at own old k low le = go (lt_or_eq k (i + 1) le)
  where
    go : (k < i + 1) ⊎ (k ≡ i + 1) → IsOwn G (held_of (node_at vs k))
    go (inl less) = old k low (omega arith)
    go (inr eq) = subst (λ (t : Stored). IsOwn G (held_of t)) (sym (ap (λ j. node_at vs j) eq ∙ next_placed vs i v lt at)) own

-- none of them that is up promised above a number
pub high_first : (vs : List Stored) (n k : ℕ) → k ≤ 0 → (votes vs k).up ≡ true → (votes vs k).promised ≤ n
high_first vs n k le up = none_first (λ v. v.promised ≤ n) vs k le up

pub high_next : (vs : List Stored) (i n m : ℕ) (v : Stored) (u : NodeVote) → i < length vs → v ≡ get_or vs i v → u ≡ v.vote → ((k : ℕ) → k ≤ i → (votes vs k).up ≡ true → (votes vs k).promised ≤ n) → n ≤ m → (u.up ≡ true → u.promised ≤ m)
    → (k : ℕ) → k ≤ i + 1 → (votes vs k).up ≡ true → (votes vs k).promised ≤ m
high_next vs i n m v u lt at e old le new = holds_next (λ w. w.promised ≤ m) vs i v u lt at e (λ j top up. (let x = old j top up in omega arith)) new

pub high_all : (vs : List Stored) (i n : ℕ) → length vs ≤ i → ((k : ℕ) → k ≤ i → (votes vs k).up ≡ true → (votes vs k).promised ≤ n) → (k : ℕ) → (votes vs k).up ≡ true → (votes vs k).promised ≤ n
high_all vs i n all old = holds_all (λ w. w.promised ≤ n) vs i all old

-- one that is up did
pub somebody_above : (vs : List Stored) (i n : ℕ) (v : Stored) (u : NodeVote) → i < length vs → v ≡ get_or vs i v → u ≡ v.vote → (u.up ≡ true) × (n < u.promised) → ((k : ℕ) → (votes vs k).up ≡ true → (votes vs k).promised ≤ n) → ⊥
somebody_above vs i n v u lt at e above none =
    let w : u ≡ votes vs (i + 1) = next_vote vs i v u lt at e in
    let x : (votes vs (i + 1)).promised ≤ n = none (i + 1) (ap (λ (t : NodeVote). t.up) (sym w) ∙ above.0) in
    let y : u.promised ≡ (votes vs (i + 1)).promised = ap (λ (t : NodeVote). t.promised) w in
    let z : n < u.promised = above.1 in
    omega arith

-- it is known who leads
pub led_alone : (vs : List Stored) (master : Option ℕ) (m : ℕ) (u : NodeVote) → master ≡ Some m → u ≡ votes vs m → NobodyAbove (votes vs) u.accepted → IsAlone vs master
led_alone vs master m u is at none = subst (λ z. IsAlone vs z) (sym is) (subst (λ (t : NodeVote). NobodyAbove (votes vs) t.accepted) at none)

pub not_alone : (vs : List Stored) (master : Option ℕ) (m : ℕ) (u : NodeVote) → master ≡ Some m → u ≡ votes vs m → (NobodyAbove (votes vs) u.accepted → ⊥) → IsAlone vs master → ⊥
not_alone vs master m u is at some alone = some (subst (λ (t : NodeVote). NobodyAbove (votes vs) t.accepted) (sym at) (subst (λ z. IsAlone vs z) is alone))

pub not_led : (vs : List Stored) (master : Option ℕ) → master ≡ None → IsAlone vs master → ⊥
not_led vs master is alone = subst (λ z. IsAlone vs z) is alone

-- pairs that are compared
pub below_less : (v u : NodeVote) → v.accepted < u.accepted → IsBelow v u
below_less v u lt = inl lt

pub below_same : (v u : NodeVote) → v.accepted ≤ u.accepted → u.accepted ≤ v.accepted → v.length ≤ u.length → IsBelow v u
below_same v u a b le = inr (let e : v.accepted ≡ u.accepted = omega arith in e, le)

-- whether a leader may be followed
pub follows_other : (v u : NodeVote) → v.accepted ≤ v.promised → (v.accepted ≡ u.accepted → ⊥) → MayFollow v u
follows_other v u le ne = record { covered = le; short = λ e. absurd (ne e) }

pub follows_shorter : (v u : NodeVote) → v.accepted ≤ v.promised → v.length ≤ u.length → MayFollow v u
follows_shorter v u le short = record { covered = le; short = λ e. short }

pub not_covered : (v u : NodeVote) → v.promised < v.accepted → MayFollow v u → ⊥
not_covered v u lt may = let le : v.accepted ≤ v.promised = may.covered in omega arith

pub not_shorter : (v u : NodeVote) → v.accepted ≡ u.accepted → u.length < v.length → MayFollow v u → ⊥
not_shorter v u e lt may = let le : v.length ≤ u.length = may.short e in omega arith

pub joins_so : (vs : List Stored) (i m : ℕ) (v u : NodeVote) → v ≡ votes vs i → u ≡ votes vs m → (i ≡ m → ⊥) → MayFollow v u → (i ≡ m → ⊥) × MayFollow (votes vs i) (votes vs m)
joins_so vs i m v u a b ne may = (ne, subst (λ t. MayFollow t (votes vs m)) a (subst (λ t. MayFollow v t) b may))

pub joins_not : (vs : List Stored) (i m : ℕ) (v u : NodeVote) → v ≡ votes vs i → u ≡ votes vs m → (MayFollow v u → ⊥) → MayFollow (votes vs i) (votes vs m) → ⊥
joins_not vs i m v u a b apart may = apart (subst (λ t. MayFollow v t) (sym b) (subst (λ t. MayFollow t (votes vs m)) (sym a) may))

-- who led, where it is up, or is another node
pub still_here : (vs : List Stored) (master r : Option ℕ) (m : ℕ) → master ≡ Some m → (votes vs m).up ≡ true → r ≡ Some m → IsStill vs master r
still_here vs master r m is up to = subst (λ z. IsStill vs z r) (sym is) (inl (up, to))

pub still_gone : (vs : List Stored) (master r : Option ℕ) (m : ℕ) → master ≡ Some m → (votes vs m).up ≡ false → r ≡ None → IsStill vs master r
still_gone vs master r m is down to = subst (λ z. IsStill vs z r) (sym is) (inr (down, to))

pub still_none : (vs : List Stored) (master r : Option ℕ) → master ≡ None → r ≡ None → IsStill vs master r
still_none vs master r is to = subst (λ z. IsStill vs z r) (sym is) to

pub other_here : (master r : Option ℕ) (k m : ℕ) → master ≡ Some m → (m ≡ k → ⊥) → r ≡ Some m → IsOther master k r
other_here master r k m is ne to = subst (λ z. IsOther z k r) (sym is) (inl (ne, to))

pub other_gone : (master r : Option ℕ) (k m : ℕ) → master ≡ Some m → m ≡ k → r ≡ None → IsOther master k r
other_gone master r k m is e to = subst (λ z. IsOther z k r) (sym is) (inr (e, to))

pub other_none : (master r : Option ℕ) (k : ℕ) → master ≡ None → r ≡ None → IsOther master k r
other_none master r k is to = subst (λ z. IsOther z k r) (sym is) to

-- a node, where it is up and leads
pub leading_is : (v : NodeVote) (k : ℕ) (r : Option ℕ) → v.up ≡ true → v.leading ≡ true → r ≡ Some k → IsIfLeading v k r
leading_is v k r up on to = inl (up, on, to)

pub leading_down : (v : NodeVote) (k : ℕ) (r : Option ℕ) → v.up ≡ false → r ≡ None → IsIfLeading v k r
leading_down v k r down to = inr ((λ up on. absurd (cc)), to)

pub leading_off : (v : NodeVote) (k : ℕ) (r : Option ℕ) → v.leading ≡ false → r ≡ None → IsIfLeading v k r
leading_off v k r off to = inr ((λ up on. absurd (cc)), to)

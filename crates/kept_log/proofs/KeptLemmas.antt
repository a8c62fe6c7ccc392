-- What a store holds, by the logs of its node.
use Rattle.std.proofs.Common.{◌≡◌, inl, inr, ℕ, ◌+◌, ◌≤◌, true, false, List, [], ◌∷◌, ◌++◌, length, length-append, take, map, arith, refl, sym, ap, ◌∙◌, subst, Result, Ok, Err, OnOk}
use Rattle.std.specs.List.{AllByRecursion}
use Rattle.std.proofs.Math.Seq.{take-append_seam}
use mathlib.Core.Logic.{∥∥₁_map}
use Rattle.node_log.specs.Logged.{Logged, Stand, StandForOne}
use Rattle.node_log.specs.Same.{IsOfNode, IsOneOf, IsSameLog}
use Rattle.store_log.specs.declared.opens.OpenFault.{OpenFault}
use Rattle.stopped_log.specs.Stopped.{Excuses, HoldsOne, Stopped}
use Rattle.cdb_outside.specs.Faults.{Rose}
use Rattle.phys_log.specs.declared.entries.Entry.{Entry}
use Rattle.kept_log.specs.Kept.{Fails, HoldsAny, IsAny, Kept, OverStore, StandForAny, kept, kept_by, opened_over, stopped_from, stopped_over}

-- the log of a node that has this
abbrev pub logged_of : ℕ → ℕ → Kept → Logged
logged_of node cluster k = record {
  node = node;
  cluster = cluster;
  promised = k.promised;
  accepted = k.accepted;
  entries = k.entries;
  store = record { synced = []; pending = []; faults = 0; writes = 0 };
  failed = false;
}

any_stand : (node cluster : ℕ) (bytes : List ℕ) (ks : List Kept) → StandForAny node cluster bytes ks → StandForOne bytes (map (logged_of node cluster) ks)
any_stand node cluster bytes [] s = s
any_stand node cluster bytes (k ∷ ks) (inl s) = inl s
any_stand node cluster bytes (k ∷ ks) (inr s) = inr (any_stand node cluster bytes ks s)

all_of_node : (node cluster : ℕ) (ks : List Kept) → AllByRecursion (IsOfNode node cluster) (map (logged_of node cluster) ks)
all_of_node node cluster [] = tt
all_of_node node cluster (k ∷ ks) = (record { node = refl; cluster = refl }, all_of_node node cluster ks)

same_of : (l k : Logged) → IsSameLog l k → kept l.promised l.accepted l.entries ≡ kept k.promised k.accepted k.entries
same_of l k s =
    ap (λ p. kept p l.accepted l.entries) s.promised ∙ ap (λ a. kept k.promised a l.entries) s.accepted ∙ ap (λ e. kept k.promised k.accepted e) s.entries

one_any : (node cluster : ℕ) (n : Logged) (ks : List Kept) → IsOneOf n (map (logged_of node cluster) ks) → IsAny (kept n.promised n.accepted n.entries) ks
one_any node cluster n [] s = s
one_any node cluster n (k ∷ ks) (inl s) = inl (same_of (logged_of node cluster k) n s)
one_any node cluster n (k ∷ ks) (inr s) = inr (one_any node cluster n ks s)

-- a store that stopped holds one of the logs
pub holds_one : (s : Stopped) (ks : List Kept) → ∥ StandForAny s.node s.cluster s.synced ks ∥₁ → HoldsOne s (map (logged_of s.node s.cluster) ks)
holds_one s ks h = record { of_node = all_of_node s.node s.cluster ks; one = ∥∥₁_map h (any_stand s.node s.cluster s.synced ks) }

stand_any : (node cluster : ℕ) (bytes : List ℕ) (ks : List Kept) → StandForOne bytes (map (logged_of node cluster) ks) → StandForAny node cluster bytes ks
stand_any node cluster bytes [] s = s
stand_any node cluster bytes (k ∷ ks) (inl s) = inl s
stand_any node cluster bytes (k ∷ ks) (inr s) = inr (stand_any node cluster bytes ks s)

-- and back
pub holds_any : (s : Stopped) (ks : List Kept) → HoldsOne s (map (logged_of s.node s.cluster) ks) → ∥ StandForAny s.node s.cluster s.synced ks ∥₁
holds_any s ks h = ∥∥₁_map h.one (stand_any s.node s.cluster s.synced ks)

-- what is found is one of them
pub found_any : (node cluster : ℕ) (n : Logged) (ks : List Kept) → ∥ IsOneOf n (map (logged_of node cluster) ks) ∥₁ → ∥ IsAny (kept n.promised n.accepted n.entries) ks ∥₁
found_any node cluster n ks h = ∥∥₁_map h (one_any node cluster n ks)

-- what a call of an open log leaves of it, where it is open still
ok_over : (l m : Logged) (n : OverStore) (p a : ℕ) (es : List Entry) → n ≡ opened_over m → m ≡ record l { promised = p; accepted = a; entries = es; store = m.store } → m.store.faults ≡ l.store.faults
    → n ≡ record (opened_over l) { promised = p; accepted = a; entries = es; synced = n.synced }
ok_over l m n p a es b e calm =
    b ∙ (ap opened_over e
    ∙ (ap (λ f. record (opened_over l) { promised = p; accepted = a; entries = es; synced = m.store.synced; faults = f }) calm
    ∙ ap (λ s. record (opened_over l) { promised = p; accepted = a; entries = es; synced = s }) (sym (ap (λ (x : OverStore). x.synced) b))))

pub promised_over : (l m : Logged) (o n : OverStore) (g : ℕ) → o ≡ opened_over l → n ≡ opened_over m → m ≡ record l { promised = g; store = m.store } → m.store.faults ≡ l.store.faults
    → n ≡ record o { promised = g; synced = n.synced }
promised_over l m o n g a b e calm = subst (λ (x : OverStore). n ≡ record x { promised = g; synced = n.synced }) (sym a) (ok_over l m n g l.accepted l.entries b e calm)

pub accepted_over : (l m : Logged) (o n : OverStore) → o ≡ opened_over l → n ≡ opened_over m → m ≡ record l { accepted = l.promised; store = m.store } → m.store.faults ≡ l.store.faults
    → n ≡ record o { accepted = o.promised; synced = n.synced }
accepted_over l m o n a b e calm = subst (λ (x : OverStore). n ≡ record x { accepted = x.promised; synced = n.synced }) (sym a) (ok_over l m n l.promised l.promised l.entries b e calm)

pub entries_over : (l m : Logged) (o n : OverStore) (f : List Entry → List Entry) → o ≡ opened_over l → n ≡ opened_over m → m ≡ record l { entries = f l.entries; store = m.store } → m.store.faults ≡ l.store.faults
    → n ≡ record o { entries = f o.entries; synced = n.synced }
entries_over l m o n f a b e calm = subst (λ (x : OverStore). n ≡ record x { entries = f x.entries; synced = n.synced }) (sym a) (ok_over l m n l.promised l.accepted (f l.entries) b e calm)

pub taken_over : (l m : Logged) (o n : OverStore) (g : ℕ) (f : List Entry → List Entry) → o ≡ opened_over l → n ≡ opened_over m → m ≡ record l { promised = g; accepted = g; entries = f l.entries; store = m.store } → m.store.faults ≡ l.store.faults
    → n ≡ record o { promised = g; accepted = g; entries = f o.entries; synced = n.synced }
taken_over l m o n g f a b e calm = subst (λ (x : OverStore). n ≡ record x { promised = g; accepted = g; entries = f x.entries; synced = n.synced }) (sym a) (ok_over l m n g g (f l.entries) b e calm)

pub same_over : (l m : Logged) (o n : OverStore) → o ≡ opened_over l → n ≡ opened_over m → m ≡ l → n ≡ o
same_over l m o n a b e = b ∙ (ap opened_over e ∙ sym a)

pub is_failed : (l m : Logged) → m ≡ record l { store = m.store; failed = true } → m.failed ≡ true
is_failed l m e = ap (λ (x : Logged). x.failed) e

-- and where its store failed
pub fails_over : (l m : Logged) (o n : OverStore) (ks : OverStore → List Kept) → o ≡ opened_over l → m ≡ record l { store = m.store; failed = true } → n ≡ stopped_from (opened_over m) n.synced m.store.faults
    → Rose l.store.faults m.store.faults → ∥ StandForAny l.node l.cluster n.synced (ks (opened_over l)) ∥₁ → Fails o n (ks o)
fails_over l m o n ks a e s rose holds = subst (λ (x : OverStore). Fails x n (ks x)) (sym a) fails
  where
    faults : n.faults ≡ m.store.faults
    faults = ap (λ (x : OverStore). x.faults) s

    was : stopped_from (opened_over m) n.synced m.store.faults ≡ stopped_from (opened_over l) n.synced m.store.faults
    was = ap (λ (x : Logged). stopped_from (opened_over x) n.synced m.store.faults) e

    stopped : n ≡ stopped_from (opened_over l) n.synced n.faults
    stopped = s ∙ (was ∙ ap (λ f. stopped_from (opened_over l) n.synced f) (sym faults))

    fails : Fails (opened_over l) n (ks (opened_over l))
    fails = record {
      stopped = stopped;
      rose = subst (λ f. Rose l.store.faults f) (sym faults) rose;
      holds = subst (λ k. ∥ StandForAny k n.cluster n.synced (ks (opened_over l)) ∥₁) (sym (ap (λ (x : OverStore). x.node) stopped))
          (subst (λ k. ∥ StandForAny l.node k n.synced (ks (opened_over l)) ∥₁) (sym (ap (λ (x : OverStore). x.cluster) stopped)) holds);
    }

-- two facts about an `Ok`
pub both_ok : {T E : Type 0} (r : Result T E) (P Q R : Type 0) → (P → Q → R) → OnOk r P → OnOk r Q → OnOk r R
both_ok (Ok x) P Q R f p q = f p q
both_ok (Err e) P Q R f p q = tt

-- a stop of an open log
pub stop_is : (l : Logged) (o n : OverStore) → o ≡ opened_over l → n ≡ stopped_from (opened_over l) n.synced l.store.faults → n ≡ stopped_from o n.synced o.faults
stop_is l o n a s = subst (λ (x : OverStore). n ≡ stopped_from x n.synced x.faults) (sym a) s

pub stop_holds : (l : Logged) (o n : OverStore) → o ≡ opened_over l → n ≡ stopped_from (opened_over l) n.synced l.store.faults → ∥ Stand n.synced l ∥₁ → HoldsAny n (kept_by o ∷ [])
stop_holds l o n a s t =
    let one : ∥ StandForAny l.node l.cluster n.synced (kept l.promised l.accepted l.entries ∷ []) ∥₁ = ∥∥₁_map t (λ x. inl x) in
    subst (λ (x : OverStore). HoldsAny n (kept_by x ∷ [])) (sym a)
    (subst (λ k. ∥ StandForAny k n.cluster n.synced (kept l.promised l.accepted l.entries ∷ []) ∥₁) (sym (ap (λ (x : OverStore). x.node) s))
    (subst (λ k. ∥ StandForAny l.node k n.synced (kept l.promised l.accepted l.entries ∷ []) ∥₁) (sym (ap (λ (x : OverStore). x.cluster) s)) one))

-- an entry that was under way is dropped
pub entry_back : (l m n : Logged) (e : Entry) (k : ℕ) → m ≡ record l { entries = l.entries ++ e ∷ []; store = m.store; failed = true } → n ≡ record m { entries = take k m.entries } → k ≡ length l.entries
    → n ≡ record l { store = n.store; failed = true }
entry_back l m n e k a b had =
    let first : take k m.entries ≡ l.entries =
    ap (λ (x : Logged). take k x.entries) a ∙ (ap (λ j. take j (l.entries ++ e ∷ [])) had ∙ take-append_seam l.entries (e ∷ [])) in
    b ∙ (ap (λ es. record m { entries = es }) first ∙ (ap (λ (x : Logged). record x { entries = l.entries }) a
    ∙ ap (λ s. record l { store = s; failed = true }) (sym (ap (λ (x : Logged). x.store) b))))

pub within_back : (l m : Logged) (e : Entry) (k : ℕ) → m ≡ record l { entries = l.entries ++ e ∷ []; store = m.store; failed = true } → k ≡ length l.entries → k ≤ length m.entries
within_back l m e k a had =
    let same : length m.entries ≡ length (l.entries ++ e ∷ []) = ap (λ (x : Logged). length x.entries) a in
    let more : length (l.entries ++ e ∷ []) ≡ length l.entries + length (e ∷ []) = length-append l.entries (e ∷ []) in
    omega arith

-- a log that is stopped, by its parts
abbrev laid : ℕ → ℕ → ℕ → ℕ → List Entry → List ℕ → ℕ → OverStore
laid n c p a es bytes f = record { node = n; cluster = c; promised = p; accepted = a; entries = es; is_open = false; synced = bytes; faults = f }

pub stopped_same : (l : Logged) (p a : ℕ) (es : List Entry) (s : Stopped) → p ≡ l.promised → a ≡ l.accepted → es ≡ l.entries → s.node ≡ l.node → s.cluster ≡ l.cluster → s.faults ≡ l.store.faults
    → stopped_over p a es s ≡ stopped_from (opened_over l) s.synced l.store.faults
stopped_same l p a es s ep ea ee en ec ef =
    ap (λ k. laid k s.cluster p a es s.synced s.faults) en
    ∙ (ap (λ k. laid l.node k p a es s.synced s.faults) ec
    ∙ (ap (λ k. laid l.node l.cluster k a es s.synced s.faults) ep
    ∙ (ap (λ k. laid l.node l.cluster l.promised k es s.synced s.faults) ea
    ∙ (ap (λ xs. laid l.node l.cluster l.promised l.accepted xs s.synced s.faults) ee
    ∙ ap (λ k. laid l.node l.cluster l.promised l.accepted l.entries s.synced k) ef))))

-- it is opened again, or is stopped still
pub open_found : (s : Stopped) (n : Logged) (o : OverStore) (p a : ℕ) (es : List Entry) → o ≡ stopped_over p a es s → ((logs : List Logged) → HoldsOne s logs → ∥ IsOneOf n logs ∥₁)
    → (ks : List Kept) → HoldsAny o ks → ∥ IsAny (kept n.promised n.accepted n.entries) ks ∥₁
open_found s n o p a es e found ks h =
    let holds : HoldsAny (stopped_over p a es s) ks = subst (λ (x : OverStore). HoldsAny x ks) e h in
    found_any s.node s.cluster n ks (found (map (logged_of s.node s.cluster) ks) (holds_one s ks holds))

pub still_same : (s u : Stopped) (o : OverStore) (p a : ℕ) (es : List Entry) → o ≡ stopped_over p a es s → u.node ≡ s.node → u.cluster ≡ s.cluster → stopped_over p a es u ≡ stopped_from o u.synced u.faults
still_same s u o p a es e en ec = subst (λ (x : OverStore). stopped_over p a es u ≡ stopped_from x u.synced u.faults) (sym e)
    (ap (λ k. laid k u.cluster p a es u.synced u.faults) en ∙ ap (λ k. laid s.node k p a es u.synced u.faults) ec)

pub still_holds : (s u : Stopped) (o : OverStore) (p a : ℕ) (es : List Entry) → o ≡ stopped_over p a es s → u.node ≡ s.node → u.cluster ≡ s.cluster → ((logs : List Logged) → HoldsOne s logs → HoldsOne u logs)
    → (ks : List Kept) → HoldsAny o ks → HoldsAny (stopped_over p a es u) ks
still_holds s u o p a es e en ec still ks h =
    let holds : HoldsAny (stopped_over p a es s) ks = subst (λ (x : OverStore). HoldsAny x ks) e h in
    let there = still (map (logged_of s.node s.cluster) ks) (holds_one s ks holds) in
    let one : ∥ StandForAny s.node s.cluster u.synced ks ∥₁ = ∥∥₁_map there.one (stand_any s.node s.cluster u.synced ks) in
    subst (λ k. ∥ StandForAny k u.cluster u.synced ks ∥₁) (sym en) (subst (λ k. ∥ StandForAny s.node k u.synced ks ∥₁) (sym ec) one)

pub still_why : (why : OpenFault) (s u : Stopped) (o : OverStore) (p a : ℕ) (es : List Entry) → o ≡ stopped_over p a es s → ((logs : List Logged) → HoldsOne s logs → Excuses why s.faults u.faults)
    → (ks : List Kept) → HoldsAny o ks → Excuses why o.faults u.faults
still_why why s u o p a es e told ks h =
    let holds : HoldsAny (stopped_over p a es s) ks = subst (λ (x : OverStore). HoldsAny x ks) e h in
    subst (λ k. Excuses why k u.faults) (sym (ap (λ (x : OverStore). x.faults) e)) (told (map (logged_of s.node s.cluster) ks) (holds_one s ks holds))

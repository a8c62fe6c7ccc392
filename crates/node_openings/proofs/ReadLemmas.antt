-- Stores that are read one after the other.
use Rattle.std.proofs.Common.{◌≡◌, ℕ, suc, ◌+◌, ◌<◌, ◌≤◌, List, [], ◌∷◌, ◌++◌, length, length-append, append_assoc, false, arith, refl, sym, subst, ap, ◌∙◌, get_or, set, take, drop}
use Rattle.std.specs.List.{AllByRecursion}
use Rattle.kept_log.specs.Kept.{OverStore, StandsStill, stopped_from, unread_over}
use Rattle.node_reading.specs.Reading.{WasFound}
use Rattle.node_reading.specs.declared.readings.Found.{Found}
use Rattle.node_openings.specs.declared.found.ReadLog.{ReadLog}
use Rattle.node_openings.specs.declared.found.StoreFound.{StoreFound}
use Rattle.node_openings.specs.declared.found.StoreFound.TheVariants as store
use Rattle.node_openings.specs.Found.{AreFound, AreStill, AreStopped, AreUnopened, IsFoundAs, IsReadOf, IsStill, IsUnopened, unread_from}
use Rattle.node_openings.specs.Found.AreFound.{found_none, found_more}
use Rattle.node_openings.specs.Found.AreStill.{still_none, still_more}
use Rattle.node_openings.specs.Found.AreUnopened.{unopened_none, unopened_more}

-- the logs of a loop: those that were read, and those that are left
pub record Halfway (olds news : List OverStore) (found : List StoreFound) (i : ℕ) : Type 0 where
  pub before : List OverStore
  pub after : List OverStore
  pub rest : List OverStore
  pub were : olds ≡ before ++ rest
  pub are : news ≡ after ++ rest
  pub at : length after ≡ i
  pub found_so : AreFound found before after
  pub still : AreStill before after
  pub stopped : AreStopped rest

pub at_first : (os : List OverStore) (fs : List StoreFound) → fs ≡ [] → AreStopped os → Halfway os os fs 0
at_first os fs none s =
    let h : Halfway os os [] 0 = record { before = []; after = []; rest = os; were = refl; are = refl; at = refl; found_so = found_none; still = still_none; stopped = s } in
    subst (λ l. Halfway os os l 0) (sym none) h

-- a log that is stopped is still where nobody did anything
still_itself : (o : OverStore) → o.is_open ≡ false → IsStill o o
still_itself o shut = record { same = same_of o shut; still = λ s x. ∣ x ∣₁ }
  where
    same_of : (o : OverStore) → o.is_open ≡ false → o ≡ stopped_from o o.synced o.faults
    same_of o shut = ap (λ b. record o { is_open = b }) shut

all_still : (os : List OverStore) → AreStopped os → AreStill os os
all_still [] s = still_none
all_still (o ∷ os) s = still_more (still_itself o s.0) (all_still os s.1)

join_still : {os ns : List OverStore} (rest : List OverStore) → AreStopped rest → AreStill os ns → AreStill (os ++ rest) (ns ++ rest)
join_still rest s still_none = all_still rest s
join_still rest s (still_more x xs) = still_more x (join_still rest s xs)

add_still : {os ns : List OverStore} (o n : OverStore) → IsStill o n → AreStill os ns → AreStill (os ++ o ∷ []) (ns ++ n ∷ [])
add_still o n x still_none = still_more x still_none
add_still o n x (still_more y ys) = still_more y (add_still o n x ys)

add_found : {fs : List StoreFound} {os ns : List OverStore} (f : StoreFound) (o n : OverStore) → IsFoundAs f o n → AreFound fs os ns → AreFound (fs ++ f ∷ []) (os ++ o ∷ []) (ns ++ n ∷ [])
add_found f o n x found_none = found_more x found_none
add_found f o n x (found_more y ys) = found_more y (add_found f o n x ys)

pub whole_still : (olds news : List OverStore) (found : List StoreFound) (i : ℕ) → Halfway olds news found i → AreStill olds news
whole_still olds news found i h = subst (λ x. AreStill x news) (sym h.were) (subst (λ y. AreStill (h.before ++ h.rest) y) (sym h.are) (join_still h.rest h.stopped h.still))

-- the log at a place behind a front
get_behind : {A : Type 0} (xs rest : List A) (x d : A) → get_or (xs ++ x ∷ rest) (length xs) d ≡ x
get_behind [] rest x d = refl
get_behind (y ∷ xs) rest x d = get_behind xs rest x d

set_behind : {A : Type 0} (xs rest : List A) (x y : A) → set (xs ++ x ∷ rest) (length xs) y ≡ xs ++ y ∷ rest
set_behind [] rest x y = refl
set_behind (z ∷ xs) rest x y = ap (λ l. z ∷ l) (set_behind xs rest x y)

-- the next one
next_in : (olds news : List OverStore) (found : List StoreFound) (i : ℕ) (d : OverStore) (h : Halfway olds news found i) → i < length news → (behind : List OverStore) × (h.rest ≡ get_or news i d ∷ behind)
next_in olds news found i d h below = go h.rest refl
  where
    go : (rest : List OverStore) → h.rest ≡ rest → (behind : List OverStore) × (h.rest ≡ get_or news i d ∷ behind)
    go [] is =
        let e : news ≡ h.after ++ [] = h.are ∙ ap (λ r. h.after ++ r) is in
        let l : length news ≡ length h.after + 0 = ap length e ∙ length-append h.after [] in
        let at : length h.after ≡ i = h.at in
        absurd (omega arith)
    go (o ∷ behind) is =
        let e : news ≡ h.after ++ o ∷ behind = h.are ∙ ap (λ r. h.after ++ r) is in
        let g : get_or news i d ≡ o = ap (λ l. get_or l i d) e ∙ (ap (λ k. get_or (h.after ++ o ∷ behind) k d) (sym h.at) ∙ get_behind h.after behind o d) in
        (behind, is ∙ ap (λ x. x ∷ behind) (sym g))

-- the log that is read next is stopped
pub next_stopped : (olds news : List OverStore) (found : List StoreFound) (i : ℕ) (o : OverStore) → o ≡ get_or news i o → Halfway olds news found i → i < length news → o.is_open ≡ false
next_stopped olds news found i o is h below =
    let n = next_in olds news found i o h below in
    let s : AreStopped (get_or news i o ∷ n.0) = subst AreStopped n.1 h.stopped in
    ap (λ (x : OverStore). x.is_open) is ∙ s.0

moved : (before : List OverStore) (o : OverStore) (behind : List OverStore) → before ++ o ∷ behind ≡ (before ++ o ∷ []) ++ behind
moved before o behind = sym (append_assoc before (o ∷ []) behind)

-- one more was read
pub read_more : (olds news : List OverStore) (found now : List StoreFound) (i : ℕ) (o n : OverStore) (f : StoreFound) → o ≡ get_or news i o → Halfway olds news found i → i < length news
    → IsFoundAs f o n → IsStill o n → now ≡ found ++ f ∷ [] → Halfway olds (set news i n) now (i + 1)
read_more olds news found now i o n f item h below is still more =
    let x = next_in olds news found i o h below in
    let rest_is : h.rest ≡ o ∷ x.0 = x.1 ∙ ap (λ y. y ∷ x.0) (sym item) in
    record {
      before = h.before ++ o ∷ [];
      after = h.after ++ n ∷ [];
      rest = x.0;
      were = h.were ∙ (ap (λ r. h.before ++ r) rest_is ∙ moved h.before o x.0);
      are = ap (λ l. set l i n) (h.are ∙ ap (λ r. h.after ++ r) rest_is) ∙ (ap (λ k. set (h.after ++ o ∷ x.0) k n) (sym h.at) ∙ (set_behind h.after x.0 o n ∙ moved h.after n x.0));
      at = length-append h.after (n ∷ []) ∙ ap (λ k. k + 1) h.at;
      found_so = subst (λ fs. AreFound fs (h.before ++ o ∷ []) (h.after ++ n ∷ [])) (sym more) (add_found f o n is h.found_so);
      still = add_still o n still h.still;
      stopped = (let s : AreStopped (o ∷ x.0) = subst AreStopped rest_is h.stopped in s.1);
    }

-- one was read, and memory was wanted
pub stops_still : (olds news : List OverStore) (found : List StoreFound) (i : ℕ) (o n : OverStore) → o ≡ get_or news i o → Halfway olds news found i → i < length news → IsStill o n → AreStill olds (set news i n)
stops_still olds news found i o n item h below still =
    let x = next_in olds news found i o h below in
    let rest_is : h.rest ≡ o ∷ x.0 = x.1 ∙ ap (λ y. y ∷ x.0) (sym item) in
    let s : AreStopped (o ∷ x.0) = subst AreStopped rest_is h.stopped in
    let were : olds ≡ (h.before ++ o ∷ []) ++ x.0 = h.were ∙ (ap (λ r. h.before ++ r) rest_is ∙ moved h.before o x.0) in
    let are : set news i n ≡ (h.after ++ n ∷ []) ++ x.0 = ap (λ l. set l i n) (h.are ∙ ap (λ r. h.after ++ r) rest_is) ∙ (ap (λ k. set (h.after ++ o ∷ x.0) k n) (sym h.at) ∙ (set_behind h.after x.0 o n ∙ moved h.after n x.0)) in
    subst (λ v. AreStill v (set news i n)) (sym were) (subst (λ w. AreStill ((h.before ++ o ∷ []) ++ x.0) w) (sym are) (join_still x.0 s.1 (add_still o n still h.still)))

-- the logs of a loop that ends early are put back whole
still_size : {os ns : List OverStore} → AreStill os ns → length os ≡ length ns
still_size still_none = refl
still_size (still_more x xs) = ap suc (still_size xs)

whole_front : (xs ys : List OverStore) → length xs ≡ length ys → take (length xs) (ys ++ drop (length ys) xs) ≡ ys
whole_front [] [] e = refl
whole_front [] (y ∷ ys) e = absurd (let m : 0 ≡ suc (length ys) = e in omega arith)
whole_front (x ∷ xs) [] e = absurd (let m : suc (length xs) ≡ 0 = e in omega arith)
whole_front (x ∷ xs) (y ∷ ys) e = ap (λ l. y ∷ l) (whole_front xs ys (let m : suc (length xs) ≡ suc (length ys) = e in omega arith))

pub put_back : (n : ℕ) (olds news : List OverStore) → n ≡ length olds → AreStill olds news → AreStill olds (take n (news ++ drop (length news) olds))
put_back n olds news many still =
    subst (λ l. AreStill olds l) (sym (ap (λ k. take k (news ++ drop (length news) olds)) many ∙ whole_front olds news (still_size still))) still

nil_behind : (xs : List OverStore) → xs ++ [] ≡ xs
nil_behind [] = refl
nil_behind (x ∷ xs) = ap (λ l. x ∷ l) (nil_behind xs)

-- all were read
pub all_found : (olds news : List OverStore) (found : List StoreFound) (i : ℕ) → Halfway olds news found i → length news ≤ i → AreFound found olds news
all_found olds news found i h over = go h.rest refl
  where
    go : (rest : List OverStore) → h.rest ≡ rest → AreFound found olds news
    go [] is =
        let o : olds ≡ h.before = h.were ∙ (ap (λ r. h.before ++ r) is ∙ nil_behind h.before) in
        let n : news ≡ h.after = h.are ∙ (ap (λ r. h.after ++ r) is ∙ nil_behind h.after) in
        subst (λ x. AreFound found x news) (sym o) (subst (λ y. AreFound found h.before y) (sym n) h.found_so)
    go (x ∷ xs) is =
        let l : length news ≡ length h.after + length (x ∷ xs) = ap length (h.are ∙ ap (λ r. h.after ++ r) is) ∙ length-append h.after (x ∷ xs) in
        let one : length (x ∷ xs) ≡ suc (length xs) = refl in
        let at : length h.after ≡ i = h.at in
        absurd (omega arith)

-- the stores are as many as was found of them
pub found_count : {found : List StoreFound} {os ns : List OverStore} → AreFound found os ns → length found ≡ length os
found_count found_none = refl
found_count (found_more x xs) = ap suc (found_count xs)

-- a log more that was not read
pub unread_more : {D : Type 0} (synced : D → List ℕ) (faults : D → ℕ) (cluster node : ℕ) (done now : List OverStore) (log : OverStore) (d : D) (rest left : List D) (all : List OverStore)
    → left ≡ d ∷ rest → log ≡ unread_over node cluster (synced d) (faults d) → now ≡ done ++ log ∷ [] → done ++ unread_from synced faults cluster node left ≡ all
    → now ++ unread_from synced faults cluster (node + 1) rest ≡ all
unread_more synced faults cluster node done now log d rest left all is made more e =
    ap (λ l. l ++ unread_from synced faults cluster (node + 1) rest) (more ∙ ap (λ x. done ++ x ∷ []) made)
    ∙ (append_assoc done (unread_over node cluster (synced d) (faults d) ∷ []) (unread_from synced faults cluster (node + 1) rest)
    ∙ (sym (ap (λ l. done ++ unread_from synced faults cluster node l) is) ∙ e))

-- nothing is pending in the next store, and in those behind it
pub settled_next : {D : Type 0} (pending : D → List ℕ) (d : D) (rest left : List D) → left ≡ d ∷ rest → AllByRecursion (λ s. pending s ≡ []) left → pending d ≡ []
settled_next pending d rest left is all = (let a : AllByRecursion (λ s. pending s ≡ []) (d ∷ rest) = subst (λ l. AllByRecursion (λ s. pending s ≡ []) l) is all in a.0)

pub settled_rest : {D : Type 0} (pending : D → List ℕ) (d : D) (rest left : List D) → left ≡ d ∷ rest → AllByRecursion (λ s. pending s ≡ []) left → AllByRecursion (λ s. pending s ≡ []) rest
settled_rest pending d rest left is all = (let a : AllByRecursion (λ s. pending s ≡ []) (d ∷ rest) = subst (λ l. AllByRecursion (λ s. pending s ≡ []) l) is all in a.1)

-- logs that were not opened are stopped, and a reading leaves them so
stopped_from_of : {k : ℕ} {os : List OverStore} → AreUnopened k os → AreStopped os
stopped_from_of unopened_none = tt
stopped_from_of (unopened_more x xs) = (x.shut, stopped_from_of xs)

pub stopped_of : (os : List OverStore) → AreUnopened 1 os → AreStopped os
stopped_of os u = stopped_from_of u

unopened_one : (k : ℕ) (o n : OverStore) → IsUnopened k o → IsStill o n → IsUnopened k n
unopened_one k o n u s = record {
  node = ap (λ (x : OverStore). x.node) s.same ∙ u.node;
  promise = ap (λ (x : OverStore). x.promised) s.same ∙ u.promise;
  acceptance = ap (λ (x : OverStore). x.accepted) s.same ∙ u.acceptance;
  none = ap (λ (x : OverStore). x.entries) s.same ∙ u.none;
  shut = ap (λ (x : OverStore). x.is_open) s.same;
}

unopened_from : {k : ℕ} {os ns : List OverStore} → AreUnopened k os → AreStill os ns → AreUnopened k ns
unopened_from unopened_none still_none = unopened_none
unopened_from {k} (unopened_more {o = o} x xs) (still_more {n = n} y ys) = unopened_more (unopened_one k o n x y) (unopened_from xs ys)

pub unopened_still : (os ns : List OverStore) → AreUnopened 1 os → AreStill os ns → AreUnopened 1 ns
unopened_still os ns u s = unopened_from u s

unread_unopened : {D : Type 0} (synced : D → List ℕ) (faults : D → ℕ) (cluster node : ℕ) (ds : List D) → AreUnopened node (unread_from synced faults cluster node ds)
unread_unopened synced faults cluster node [] = unopened_none
unread_unopened synced faults cluster node (d ∷ ds) = unopened_more (record { node = refl; promise = refl; acceptance = refl; none = refl; shut = refl }) (unread_unopened synced faults cluster (node + 1) ds)

pub unread_end : {D : Type 0} (synced : D → List ℕ) (faults : D → ℕ) (cluster node : ℕ) (done all : List OverStore) (left : List D) → length left ≡ 0 → done ++ unread_from synced faults cluster node left ≡ all → done ≡ all
unread_end synced faults cluster node done all [] none e = sym (nil_behind done) ∙ e
unread_end synced faults cluster node done all (d ∷ left) none e = absurd (let m : suc (length left) ≡ 0 = none in omega arith)

pub all_unopened : {D : Type 0} (synced : D → List ℕ) (faults : D → ℕ) (cluster : ℕ) (ds : List D) (logs : List OverStore) → logs ≡ unread_from synced faults cluster 1 ds → AreUnopened 1 logs
all_unopened synced faults cluster ds logs is = subst (λ l. AreUnopened 1 l) (sym is) (unread_unopened synced faults cluster 1 ds)

-- one log that was read
pub still_is : (old new : OverStore) → new ≡ stopped_from old new.synced new.faults → StandsStill old.node old.cluster old.synced new.synced → IsStill old new
still_is old new same still = record { same = same; still = still }

pub read_whole : (f : Found) (r : ReadLog) (old new : OverStore) → IsReadOf f r → WasFound old new f.promised f.accepted f.length f.tables f.state → new.faults ≡ old.faults → IsFoundAs (store.Whole r) old new
read_whole f r old new is was calm = (
  subst (λ p. WasFound old new p r.accepted r.length r.tables r.rows.value) (sym is.promise)
      (subst (λ a. WasFound old new f.promised a r.length r.tables r.rows.value) (sym is.acceptance)
      (subst (λ l. WasFound old new f.promised f.accepted l r.tables r.rows.value) (sym is.had)
      (subst (λ t. WasFound old new f.promised f.accepted f.length t r.rows.value) (sym is.tables_are)
      (subst (λ s. WasFound old new f.promised f.accepted f.length f.tables s) (sym is.rows_are) was)))),
  calm,
)

-- A key's tree lists the versions exactly where it has as many pairs, and one for each version.
use Rattle.std.proofs.Common.{◌≡◌, ◌⊎◌, inl, inr, ℕ, zero, suc, ◌^◌, ◌≤◌, ◌<◌, Bool, true, false, List, [], ◌∷◌, ◌++◌, map, take, drop, length, Option, refl, sym, ap, ◌∙◌, subst, arith, length-append, get_or, Result, Ok, Err}
use Rattle.std.specs.Bool.{Decides}
use Rattle.std.proofs.lemmas.Bool.{false≢true}
use Rattle.std.specs.List.{AllByRecursion}
use Rattle.btree_index.specs.Keys.{Key, before}
use Rattle.btree_index.specs.Cells.{key_of_cell}
use Rattle.btree_index.specs.Trees.{pair_of}
use Rattle.std.specs.List.Sorted.{IsPartitionPoint, IsPartitionedBy}
use Rattle.std.specs.Result.{IfOk}
use Rattle.btree_index.proofs.KeyLaws.{irreflexive, before_before}
use Rattle.cdb_values.specs.declared.rows.Version.{Version}
use Rattle.cdb_values.specs.declared.tables.KeyDef.{KeyDef}
use Rattle.table_store.specs.Forests.{Pair}
use Rattle.table_store.specs.Listings.{IsAmong, pair_of_version, Lists}
use Rattle.table_store.specs.States.{Rise}
use Rattle.table_store.proofs.AmongLaws.{among_either, among_left, among_right, among_all, all_among}
use Rattle.table_store.proofs.ListingLaws.{pair_tells}
use Rattle.table_store.proofs.StateLaws.{rise_below}
use Rattle.table_state.specs.Listed.{Climb, IsPlaceOf}

-- no item is there twice
abbrev pub Differ : List Pair → Type 0
Differ [] = Unit {0}
Differ (x ∷ xs) = (IsAmong x xs → ⊥) × Differ xs

record Cut (x : Pair) (ys : List Pair) : Type 0 where
  front : List Pair
  back : List Pair
  is : ys ≡ front ++ (x ∷ back)

cut : (x : Pair) (ys : List Pair) → IsAmong x ys → Cut x ys
cut x [] i = absurd i
cut x (y ∷ ys) (inl e) = record { front = []; back = ys; is = ap (λ (z : Pair). z ∷ ys) (sym e) }
cut x (y ∷ ys) (inr i) = let c = cut x ys i in record { front = y ∷ c.front; back = c.back; is = ap (λ (l : List Pair). y ∷ l) c.is }

among_more : (p : Pair) (front : List Pair) (x : Pair) (back : List Pair) → IsAmong p (front ++ (x ∷ back)) → IsAmong p (front ++ back) ⊎ (p ≡ x)
among_more p front x back i = go (among_either p front (x ∷ back) i)
  where
    go : IsAmong p front ⊎ IsAmong p (x ∷ back) → IsAmong p (front ++ back) ⊎ (p ≡ x)
    go (inl j) = inl (among_left p front back j)
    go (inr (inl e)) = inr e
    go (inr (inr j)) = inl (among_right p front back j)

cut_long : (x : Pair) (ys : List Pair) (c : Cut x ys) → length ys ≡ suc (length (c.front ++ c.back))
cut_long x ys c =
    let a = length-append c.front c.back in
    let b = length-append c.front (x ∷ c.back) in
    let d : length ys ≡ length (c.front ++ (x ∷ c.back)) = ap length c.is in
    let e : length (x ∷ c.back) ≡ suc (length c.back) = refl in
    omega (arith, a, b, d, e)

inside_cut : (x : Pair) (xs ys : List Pair) (c : Cut x ys) → (IsAmong x xs → ⊥) → ((p : Pair) → IsAmong p xs → IsAmong p ys) → (p : Pair) → IsAmong p xs
    → IsAmong p (c.front ++ c.back)
inside_cut x xs ys c off inside p i = go (among_more p c.front x c.back (subst (λ (l : List Pair). IsAmong p l) c.is (inside p i)))
  where
    go : IsAmong p (c.front ++ c.back) ⊎ (p ≡ x) → IsAmong p (c.front ++ c.back)
    go (inl j) = j
    go (inr e) = absurd (off (subst (λ (q : Pair). IsAmong q xs) e i))

-- items that differ, among others, are no more than these
fewer : (xs ys : List Pair) → Differ xs → ((p : Pair) → IsAmong p xs → IsAmong p ys) → length xs ≤ length ys
fewer [] ys d inside = omega arith
fewer (x ∷ xs) ys d inside =
    let c = cut x ys (inside x (inl refl)) in
    let less : length xs ≤ length (c.front ++ c.back) = fewer xs (c.front ++ c.back) d.1 (inside_cut x xs ys c d.0 (λ p i. inside p (inr i))) in
    let long = cut_long x ys c in
    omega (arith, less, long)

-- and where they are as many, these are among them
all_inside : (xs ys : List Pair) → Differ xs → ((p : Pair) → IsAmong p xs → IsAmong p ys) → length ys ≤ length xs → (p : Pair) → IsAmong p ys → IsAmong p xs
all_inside [] [] d inside few p i = absurd i
all_inside [] (y ∷ ys) d inside few p i = absurd (none (length ys) few)
  where
    none : (n : ℕ) → suc n ≤ 0 → ⊥
    none n h = omega arith
all_inside (x ∷ xs) ys d inside few p i =
    let c = cut x ys (inside x (inl refl)) in
    let long = cut_long x ys c in
    let count : length (x ∷ xs) ≡ suc (length xs) = refl in
    go c (all_inside xs (c.front ++ c.back) d.1 (inside_cut x xs ys c d.0 (λ q j. inside q (inr j))) (omega (arith, few, long, count)) p)
    (among_more p c.front x c.back (subst (λ (l : List Pair). IsAmong p l) c.is i))
  where
    go : (c : Cut x ys) → (IsAmong p (c.front ++ c.back) → IsAmong p xs) → IsAmong p (c.front ++ c.back) ⊎ (p ≡ x) → IsAmong p (x ∷ xs)
    go c more (inl j) = inr (more j)
    go c more (inr e) = inl e

-- the pairs of versions
abbrev pairs_of : Option KeyDef → List Version → List Pair
pairs_of key [] = []
pairs_of key (v ∷ vs) = pair_of_version key v ∷ pairs_of key vs

record IsPairOf (key : Option KeyDef) (p : Pair) (vs : List Version) : Type 0 where
  found : Version
  among : IsAmong found vs
  is : p ≡ pair_of_version key found

pair_some : (key : Option KeyDef) (p : Pair) (vs : List Version) → IsAmong p (pairs_of key vs) → IsPairOf key p vs
pair_some key p [] i = absurd i
pair_some key p (v ∷ vs) (inl e) = record { found = v; among = inl refl; is = e }
pair_some key p (v ∷ vs) (inr i) = let m = pair_some key p vs i in record { found = m.found; among = inr m.among; is = m.is }

pair_there : (key : Option KeyDef) (v : Version) (vs : List Version) → IsAmong v vs → IsAmong (pair_of_version key v) (pairs_of key vs)
pair_there key v [] i = absurd i
pair_there key v (w ∷ ws) (inl e) = inl (ap (pair_of_version key) e)
pair_there key v (w ∷ ws) (inr i) = inr (pair_there key v ws i)

pairs_long : (key : Option KeyDef) (vs : List Version) → length (pairs_of key vs) ≡ length vs
pairs_long key [] = refl
pairs_long key (v ∷ vs) = ap (λ (n : ℕ). suc n) (pairs_long key vs)

-- those of rising versions differ
pairs_differ : (key : Option KeyDef) (vs : List Version) (next : ℕ) → next < 2 ^ 62 → Rise vs next → Differ (pairs_of key vs)
pairs_differ key [] next small h = tt
pairs_differ key (v ∷ vs) next small h = (λ i. clash (pair_some key (pair_of_version key v) vs i), pairs_differ key vs next small h.2)
  where
    below : (w : Version) → w.genid < next → w.genid < 2 ^ 64
    below w b = omega arith

    itself : (w : Version) → v.genid < w.genid → v.genid ≡ w.genid → ⊥
    itself w a b = omega arith

    clash : IsPairOf key (pair_of_version key v) vs → ⊥
    clash m =
        itself m.found (among_all (λ (w : Version). v.genid < w.genid) m.found vs h.1 m.among)
        (pair_tells key v m.found (below v h.0) (below m.found (rise_below m.found vs next h.2 m.among)) m.is)

-- those of climbing cells differ
behind_cell : (key : Key) (cells : List (List ℕ)) (q : Pair) → AllByRecursion (λ d. before key (key_of_cell d) ≡ true) cells → IsAmong q (map pair_of cells) → before key q.0 ≡ true
behind_cell key [] q h i = absurd i
behind_cell key (c ∷ cs) q h (inl e) = ap (λ (p : Pair). before key p.0) e ∙ h.0
behind_cell key (c ∷ cs) q h (inr i) = behind_cell key cs q h.1 i

cells_differ : (cells : List (List ℕ)) → Climb cells → Differ (map pair_of cells)
cells_differ [] h = tt
cells_differ (c ∷ cs) h = (λ i. false≢true (sym (irreflexive (key_of_cell c)) ∙ behind_cell (key_of_cell c) cs (pair_of c) h.0 i), cells_differ cs h.1)

-- as many pairs, and one for each version
pub listed_all : (key : Option KeyDef) (cells : List (List ℕ)) (vs : List Version) (next : ℕ) → next < 2 ^ 62 → Rise vs next → length cells ≡ length vs
    → AllByRecursion (λ v. IsAmong (pair_of_version key v) (map pair_of cells)) vs → Lists key vs (map pair_of cells)
listed_all key cells vs next small rise e h = record {
  all = λ v i. among_all (λ (w : Version). IsAmong (pair_of_version key w) (map pair_of cells)) v vs h i;
  only = λ p i. (let m = pair_some key p vs (all_inside (pairs_of key vs) (map pair_of cells) (pairs_differ key vs next small rise) inside few p i) in (m.found, m.among, m.is));
}
  where
    inside : (p : Pair) → IsAmong p (pairs_of key vs) → IsAmong p (map pair_of cells)
    inside p i =
        let m = pair_some key p vs i in
        subst (λ (q : Pair). IsAmong q (map pair_of cells)) (sym m.is) (among_all (λ (w : Version). IsAmong (pair_of_version key w) (map pair_of cells)) m.found vs h m.among)

    long : (cs : List (List ℕ)) → length (map pair_of cs) ≡ length cs
    long [] = refl
    long (c ∷ cs) = ap (λ (n : ℕ). suc n) (long cs)

    few : length (map pair_of cells) ≤ length (pairs_of key vs)
    few = let a = long cells in let b = pairs_long key vs in omega (arith, a, b, e)

pub all_listed : (key : Option KeyDef) (cells : List (List ℕ)) (vs : List Version) → Lists key vs (map pair_of cells)
    → AllByRecursion (λ v. IsAmong (pair_of_version key v) (map pair_of cells)) vs
all_listed key cells vs h = all_among (λ (v : Version). IsAmong (pair_of_version key v) (map pair_of cells)) vs h.all

pub listed_long : (key : Option KeyDef) (cells : List (List ℕ)) (vs : List Version) (next : ℕ) → next < 2 ^ 62 → Rise vs next → Climb cells
    → Lists key vs (map pair_of cells) → length cells ≡ length vs
listed_long key cells vs next small rise climb h =
    let there : length (pairs_of key vs) ≤ length (map pair_of cells) = fewer (pairs_of key vs) (map pair_of cells) (pairs_differ key vs next small rise) inside in
    let here : length (map pair_of cells) ≤ length (pairs_of key vs) = fewer (map pair_of cells) (pairs_of key vs) (cells_differ cells climb) outside in
    let a = long cells in
    let b = pairs_long key vs in
    omega (arith, there, here, a, b)
  where
    inside : (p : Pair) → IsAmong p (pairs_of key vs) → IsAmong p (map pair_of cells)
    inside p i = let m = pair_some key p vs i in subst (λ (q : Pair). IsAmong q (map pair_of cells)) (sym m.is) (h.all m.found m.among)

    outside : (p : Pair) → IsAmong p (map pair_of cells) → IsAmong p (pairs_of key vs)
    outside p i = let m = h.only p i in subst (λ (q : Pair). IsAmong q (pairs_of key vs)) (sym m.2) (pair_there key m.0 vs m.1)

    long : (cs : List (List ℕ)) → length (map pair_of cs) ≡ length cs
    long [] = refl
    long (c ∷ cs) = ap (λ (n : ℕ). suc n) (long cs)

-- a pair is among cells exactly where the first cell from its place on has it
not_in_front : (key : Key) (value : List ℕ) (cells : List (List ℕ)) → AllByRecursion (λ c. before (key_of_cell c) key ≡ true) cells → IsAmong (key, value) (map pair_of cells) → ⊥
not_in_front key value [] h i = absurd i
not_in_front key value (c ∷ cs) h (inl e) =
    false≢true (sym (irreflexive key) ∙ ap (λ (p : Pair). before p.0 key) e ∙ h.0)
not_in_front key value (c ∷ cs) h (inr i) = not_in_front key value cs h.1 i

map_split : (n : ℕ) (cells : List (List ℕ)) → map pair_of cells ≡ map pair_of (take n cells) ++ map pair_of (drop n cells)
map_split zero cells = refl
map_split (suc n) [] = refl
map_split (suc n) (c ∷ cs) = ap (λ (l : List Pair). pair_of c ∷ l) (map_split n cs)

climb_drop : (n : ℕ) (cells : List (List ℕ)) → Climb cells → Climb (drop n cells)
climb_drop zero cells h = h
climb_drop (suc n) [] h = tt
climb_drop (suc n) (c ∷ cs) h = climb_drop n cs h.1

pub in_back : (cells : List (List ℕ)) (key : Key) (value : List ℕ) (place : ℕ) → IsPlaceOf cells key place → IsAmong (key, value) (map pair_of cells)
    → IsAmong (key, value) (map pair_of (drop place cells))
in_back cells key value place h i =
    go (among_either (key, value) (map pair_of (take place cells)) (map pair_of (drop place cells)) (subst (λ (l : List Pair). IsAmong (key, value) l) (map_split place cells) i))
  where
    go : IsAmong (key, value) (map pair_of (take place cells)) ⊎ IsAmong (key, value) (map pair_of (drop place cells)) → IsAmong (key, value) (map pair_of (drop place cells))
    go (inl j) = absurd (not_in_front key value (take place cells) h.front j)
    go (inr j) = j

pub from_back : (cells : List (List ℕ)) (key : Key) (value : List ℕ) (place : ℕ) → IsAmong (key, value) (map pair_of (drop place cells))
    → IsAmong (key, value) (map pair_of cells)
from_back cells key value place i =
    subst (λ (l : List Pair). IsAmong (key, value) l) (sym (map_split place cells)) (among_right (key, value) (map pair_of (take place cells)) (map pair_of (drop place cells)) i)

is_first : (key : Key) (value : List ℕ) (c : List ℕ) (cs : List (List ℕ)) → Climb (c ∷ cs) → before (key_of_cell c) key ≡ false → IsAmong (key, value) (map pair_of (c ∷ cs))
    → (key, value) ≡ pair_of c
is_first key value c cs climb late (inl e) = e
is_first key value c cs climb late (inr i) = absurd (false≢true (sym late ∙ behind_cell (key_of_cell c) cs (key, value) climb.0 i))

pub none_found : (cells rest : List (List ℕ)) (key : Key) (value : List ℕ) (place : ℕ) → IsPlaceOf cells key place → rest ≡ drop place cells → rest ≡ []
    → Decides false (IsAmong (key, value) (map pair_of cells))
none_found cells rest key value place h e f =
    (λ k. absurd (false≢true k), λ i. absurd (subst (λ (l : List (List ℕ)). IsAmong (key, value) (map pair_of l)) (sym e ∙ f) (in_back cells key value place h i)))

pub first_found : (cells rest others : List (List ℕ)) (c : List ℕ) (key : Key) (value : List ℕ) (place : ℕ) (t : Bool) → Climb cells → IsPlaceOf cells key place
    → rest ≡ drop place cells → rest ≡ c ∷ others → Decides t ((key, value) ≡ pair_of c) → Decides t (IsAmong (key, value) (map pair_of cells))
first_found cells rest others c key value place t climb h e f d = (
  λ k. from_back cells key value place (subst (λ (l : List (List ℕ)). IsAmong (key, value) (map pair_of l)) (sym is) (inl (d.0 k))),
  λ i. d.1 (is_first key value c others (subst Climb is (climb_drop place cells climb))
      (subst (λ (l : List (List ℕ)). AllByRecursion (λ x. before (key_of_cell x) key ≡ false) l) is h.back).0
      (subst (λ (l : List (List ℕ)). IsAmong (key, value) (map pair_of l)) is (in_back cells key value place h i))),
)
  where
    is : drop place cells ≡ c ∷ others
    is = sym e ∙ f

-- what the number of pairs tells, and what is left where it is right
pub unlike_lists : (key : Option KeyDef) (cells : List (List ℕ)) (vs : List Version) (next : ℕ) → next < 2 ^ 62 → Rise vs next → Climb cells
    → (length cells ≡ length vs → ⊥) → Decides false (Lists key vs (map pair_of cells))
unlike_lists key cells vs next small rise climb other =
    (λ k. absurd (false≢true k), λ h. absurd (other (listed_long key cells vs next small rise climb h)))

pub like_lists : {E : Type 0} (key : Option KeyDef) (cells : List (List ℕ)) (vs : List Version) (next : ℕ) (answer : Result Bool E) → next < 2 ^ 62 → Rise vs next
    → length cells ≡ length vs → IfOk answer (λ t. Decides t (AllByRecursion (λ v. IsAmong (pair_of_version key v) (map pair_of cells)) vs))
    → IfOk answer (λ t. Decides t (Lists key vs (map pair_of cells)))
like_lists key cells vs next (Ok t) small rise e d = (λ k. listed_all key cells vs next small rise e (d.0 k), λ h. d.1 (all_listed key cells vs h))
like_lists key cells vs next (Err f) small rise e d = tt

-- the cells before a place, and those from there on
front_all : (cells : List (List ℕ)) (key : Key) (place : ℕ) → place ≤ length cells → ((k : ℕ) (d : List ℕ) → k < place → before (key_of_cell (get_or cells k d)) key ≡ true)
    → AllByRecursion (λ c. before (key_of_cell c) key ≡ true) (take place cells)
front_all cells key zero within h = tt
front_all [] key (suc place) within h = tt
front_all (c ∷ cs) key (suc place) within h = (h 0 [] (omega arith), front_all cs key place (omega (arith, within)) (λ k d less. h (suc k) d (omega (arith, less))))

back_all : (cells : List (List ℕ)) (key : Key) (place : ℕ) → ((k : ℕ) (d : List ℕ) → place ≤ k → k < length cells → before (key_of_cell (get_or cells k d)) key ≡ false)
    → AllByRecursion (λ c. before (key_of_cell c) key ≡ false) (drop place cells)
back_all [] key zero h = tt
back_all [] key (suc place) h = tt
back_all (c ∷ cs) key zero h = (h 0 [] (omega arith) (omega arith), back_all cs key zero (λ k d late less. h (suc k) d (omega arith) (omega (arith, less))))
back_all (c ∷ cs) key (suc place) h = back_all cs key place (λ k d late less. h (suc k) d (omega (arith, late)) (omega (arith, less)))

pub place_there : (cells : List (List ℕ)) (key : Key) (place : ℕ) → place ≤ length cells
    → IsPartitionPoint (λ c. before (key_of_cell c) key ≡ true) (λ c. before (key_of_cell c) key ≡ false) cells place → IsPlaceOf cells key place
place_there cells key place within h = record {
  within = within;
  front = front_all cells key place within (λ k d less. h.0 k d (omega arith) less);
  back = back_all cells key place (λ k d late less. h.1 k d late less);
}

all_at : (P : List ℕ → Type 0) (cells : List (List ℕ)) (k : ℕ) (d : List ℕ) → k < length cells → AllByRecursion P cells → P (get_or cells k d)
all_at P [] k d less a = absurd (none k less)
  where
    none : (n : ℕ) → n < 0 → ⊥
    none n h = omega arith
all_at P (c ∷ cs) zero d less a = a.0
all_at P (c ∷ cs) (suc k) d less a = all_at P cs k d (omega (arith, less)) a.1

-- climbing cells split at every key
pub cells_split : (cells : List (List ℕ)) (key : Key) → Climb cells → IsPartitionedBy (λ c. before (key_of_cell c) key) cells
cells_split [] key climb i j d less within h = absurd (none j within)
  where
    none : (n : ℕ) → n < 0 → ⊥
    none n h = omega arith
cells_split (c ∷ cs) key climb zero zero d less within h = h
cells_split (c ∷ cs) key climb zero (suc j) d less within h =
    before_before (key_of_cell c) (key_of_cell (get_or cs j d)) key (all_at (λ (x : List ℕ). before (key_of_cell c) (key_of_cell x) ≡ true) cs j d (omega (arith, within)) climb.0) h
cells_split (c ∷ cs) key climb (suc i) zero d less within h = absurd (none i less)
  where
    none : (n : ℕ) → suc n ≤ 0 → ⊥
    none n h = omega arith
cells_split (c ∷ cs) key climb (suc i) (suc j) d less within h = cells_split cs key climb.1 i j d (omega (arith, less)) (omega (arith, within)) h

-- A pair more, and one less, in the list of a tree.
use Rattle.std.proofs.Common.{◌≡◌, ℕ, zero, suc, not, Bool, true, false, List, [], ◌∷◌, ◌++◌, map, None, Some, if◌then◌else◌, refl, sym, ap, ◌∙◌, subst}
use Rattle.std.proofs.lemmas.Option.{none-some, same_Some}
use Rattle.std.specs.List.{AllByRecursion, slice_get, insert, remove}
use Rattle.page_store.specs.Image.{Image}
use Rattle.btree_index.specs.Keys.{Key, before, same_key}
use Rattle.btree_index.specs.Cells.{key_of_cell, value_of_cell}
use Rattle.btree_index.specs.Pairs.{with_pair, without_key, place_in, cell_value}
use Rattle.btree_index.specs.Trees.{Entry, cells_of, IsUnder, IsUpTo, Ascends, IsFenced, AreFenced, pair_of}
use Rattle.btree_index.proofs.KeyLaws.{before_atmost, atmost_before, before_before, not_back, not_same_before, not_same_behind, same_not_before, same_not_behind, else_before}
use Rattle.btree_index.proofs.WayLemmas.{begins_below}
use Rattle.btree_index.proofs.RowLemmas.{front_low, pairs-append}

pub all_join : (P : List ℕ → Type 0) (xs ys : List (List ℕ)) → AllByRecursion P xs → AllByRecursion P ys → AllByRecursion P (xs ++ ys)
all_join P [] ys a b = b
all_join P (x ∷ xs) ys a b = (a.0, all_join P xs ys a.1 b)

pub all_insert : (P : List ℕ → Type 0) (xs : List (List ℕ)) (at : ℕ) (x : List ℕ) → AllByRecursion P xs → P x → AllByRecursion P (insert xs at x)
all_insert P [] zero x a p = (p, tt)
all_insert P [] (suc at) x a p = (p, tt)
all_insert P (y ∷ ys) zero x a p = (p, a)
all_insert P (y ∷ ys) (suc at) x a p = (a.0, all_insert P ys at x a.1 p)

pub all_remove : (P : List ℕ → Type 0) (xs : List (List ℕ)) (at : ℕ) → AllByRecursion P xs → AllByRecursion P (remove xs at)
all_remove P [] zero a = tt
all_remove P [] (suc at) a = tt
all_remove P (y ∷ ys) zero a = a.1
all_remove P (y ∷ ys) (suc at) a = (a.0, all_remove P ys at a.1)

-- the cells of the leaves in front are before the key
pub front_before : (pages : ℕ → Image) (key low : Key) (page : ℕ) (front others : List Entry)
    → AreFenced pages (front ++ (record { low = low; page = page } ∷ others)) → before key low ≡ false
    → AllByRecursion (λ c. before (key_of_cell c) key ≡ true) (cells_of pages front)
front_before pages key low page [] others fenced from = tt
front_before pages key low page (f ∷ fs) others fenced from =
    all_join (λ c. before (key_of_cell c) key ≡ true) (pages f.page).cells (cells_of pages fs)
    (front_low key (pages f.page).cells (fs ++ (record { low = low; page = page } ∷ others)) fenced.0.to (begins_below pages key low page fs others fenced.1 from))
    (front_before pages key low page fs others fenced.1 from)

-- those of the leaves behind come after it
pub behind_after : (pages : ℕ → Image) (key : Key) (others : List Entry) → AreFenced pages others → IsUnder key others
    → AllByRecursion (λ c. before key (key_of_cell c) ≡ true) (cells_of pages others)
behind_after pages key [] fenced to = tt
behind_after pages key (e ∷ es) fenced to =
    all_join (λ c. before key (key_of_cell c) ≡ true) (pages e.page).cells (cells_of pages es)
    (here (pages e.page).cells fenced.0.from) (behind_after pages key es fenced.1 (further es fenced.0.next))
  where
    here : (cells : List (List ℕ)) → AllByRecursion (λ c. before (key_of_cell c) e.low ≡ false) cells → AllByRecursion (λ c. before key (key_of_cell c) ≡ true) cells
    here [] from = tt
    here (c ∷ cs) from = (before_atmost key e.low (key_of_cell c) to from.0, here cs from.1)

    further : (es : List Entry) → IsUpTo e.low es → IsUnder key es
    further [] h = tt
    further (f ∷ fs) h = before_atmost key e.low f.low to h

-- a pair goes behind the cells before its key
with_pair-front : (key : Key) (value : List ℕ) (cells : List (List ℕ)) (rest : List (Key × List ℕ)) → AllByRecursion (λ c. before (key_of_cell c) key ≡ true) cells
    → with_pair key value (map pair_of cells ++ rest) ≡ map pair_of cells ++ with_pair key value rest
with_pair-front key value [] rest h = refl
with_pair-front key value (c ∷ cs) rest h =
    ap (λ (t : Bool). if t then (key, value) ∷ pair_of c ∷ (map pair_of cs ++ rest) else pair_of c ∷ with_pair key value (map pair_of cs ++ rest)) (not_back (key_of_cell c) key h.0)
    ∙ ap (λ (l : List (Key × List ℕ)). pair_of c ∷ l) (with_pair-front key value cs rest h.1)

-- and before those after it
with_pair-back : (key : Key) (value : List ℕ) (pairs : List (Key × List ℕ)) (cells : List (List ℕ)) → AllByRecursion (λ c. before key (key_of_cell c) ≡ true) cells
    → with_pair key value (pairs ++ map pair_of cells) ≡ with_pair key value pairs ++ map pair_of cells
with_pair-back key value [] [] h = refl
with_pair-back key value [] (c ∷ cs) h =
    ap (λ (t : Bool). if t then (key, value) ∷ pair_of c ∷ map pair_of cs else pair_of c ∷ with_pair key value (map pair_of cs)) h.0
with_pair-back key value (p ∷ ps) cells h = go (before key p.0) (with_pair-back key value ps cells h)
  where
    go : (t : Bool) → with_pair key value (ps ++ map pair_of cells) ≡ with_pair key value ps ++ map pair_of cells
        → (if t then (key, value) ∷ p ∷ (ps ++ map pair_of cells) else p ∷ with_pair key value (ps ++ map pair_of cells))
        ≡ (if t then (key, value) ∷ p ∷ ps else p ∷ with_pair key value ps) ++ map pair_of cells
    go true ih = refl
    go false ih = ap (λ (l : List (Key × List ℕ)). p ∷ l) ih

-- within a leaf that has not the key
with_pair-here : (key : Key) (value : List ℕ) (cell : List ℕ) (cells : List (List ℕ)) → pair_of cell ≡ (key, value) → cell_value key cells ≡ None
    → map pair_of (insert cells (place_in key cells) cell) ≡ with_pair key value (map pair_of cells)
with_pair-here key value cell [] is none = ap (λ p. p ∷ []) is
with_pair-here key value cell (c ∷ cs) is none = go (λ h. with_pair-here key value cell cs is h) (before (key_of_cell c) key) refl (same_key key (key_of_cell c)) refl none
  where
    go : (cell_value key cs ≡ None → map pair_of (insert cs (place_in key cs) cell) ≡ with_pair key value (map pair_of cs))
        → (t : Bool) → before (key_of_cell c) key ≡ t → (s : Bool) → same_key key (key_of_cell c) ≡ s
        → (if s then Some (value_of_cell c) else cell_value key cs) ≡ None
        → map pair_of (insert (c ∷ cs) (if t then suc (place_in key cs) else zero) cell)
        ≡ (if before key (key_of_cell c) then (key, value) ∷ pair_of c ∷ map pair_of cs else pair_of c ∷ with_pair key value (map pair_of cs))
    go more t e true same none = absurd (none-some (value_of_cell c) (sym none))
    go more true e false same none =
        ap (λ (l : List (Key × List ℕ)). pair_of c ∷ l) (more none)
        ∙ sym (ap (λ (t : Bool). if t then (key, value) ∷ pair_of c ∷ map pair_of cs else pair_of c ∷ with_pair key value (map pair_of cs)) (not_back (key_of_cell c) key e))
    go more false e false same none =
        ap (λ p. p ∷ pair_of c ∷ map pair_of cs) is
        ∙ sym (ap (λ (t : Bool). if t then (key, value) ∷ pair_of c ∷ map pair_of cs else pair_of c ∷ with_pair key value (map pair_of cs))
        (else_before key (key_of_cell c) same e))

-- so in the whole tree
pub with_pair-cells : (key : Key) (value : List ℕ) (cell : List ℕ) (front cells behind : List (List ℕ)) → pair_of cell ≡ (key, value)
    → cell_value key cells ≡ None → AllByRecursion (λ c. before (key_of_cell c) key ≡ true) front → AllByRecursion (λ c. before key (key_of_cell c) ≡ true) behind
    → map pair_of (front ++ (insert cells (place_in key cells) cell ++ behind)) ≡ with_pair key value (map pair_of (front ++ (cells ++ behind)))
with_pair-cells key value cell front cells behind is none before_all after_all =
    let more = insert cells (place_in key cells) cell in
    pairs-append front (more ++ behind)
    ∙ ap (λ (l : List (Key × List ℕ)). map pair_of front ++ l) (pairs-append more behind)
    ∙ ap (λ (l : List (Key × List ℕ)). map pair_of front ++ (l ++ map pair_of behind)) (with_pair-here key value cell cells is none)
    ∙ sym (ap (λ (l : List (Key × List ℕ)). map pair_of front ++ l) (with_pair-back key value (map pair_of cells) behind after_all))
    ∙ sym (ap (λ (l : List (Key × List ℕ)). map pair_of front ++ with_pair key value l) (pairs-append cells behind))
    ∙ sym (with_pair-front key value front (map pair_of (cells ++ behind)) before_all)
    ∙ sym (ap (with_pair key value) (pairs-append front (cells ++ behind)))

-- the key of a place is above those before it
pub ascends_to : (cells : List (List ℕ)) (at : ℕ) (first found : List ℕ) → Ascends (first ∷ cells) → slice_get cells at ≡ Some found
    → before (key_of_cell first) (key_of_cell found) ≡ true
ascends_to [] at first found up h = absurd (none-some found h)
ascends_to (c ∷ cs) zero first found up h = ap (λ (x : List ℕ). before (key_of_cell first) (key_of_cell x)) (sym (same_Some c found h)) ∙ up.0
ascends_to (c ∷ cs) (suc at) first found up h = before_before (key_of_cell first) (key_of_cell c) (key_of_cell found) up.0 (ascends_to cs at c found up.1 h)

pub ascends_rest : (c : List ℕ) (cells : List (List ℕ)) → Ascends (c ∷ cells) → Ascends cells
ascends_rest c [] h = tt
ascends_rest c (d ∷ ds) h = h.1

-- all behind a cell are above it
pub ascends_all : (c : List ℕ) (cells : List (List ℕ)) → Ascends (c ∷ cells) → AllByRecursion (λ d. before (key_of_cell c) (key_of_cell d) ≡ true) cells
ascends_all c [] h = tt
ascends_all c (d ∷ ds) h = (h.0, go ds (ascends_all d ds h.1))
  where
    go : (ds : List (List ℕ)) → AllByRecursion (λ x. before (key_of_cell d) (key_of_cell x) ≡ true) ds → AllByRecursion (λ x. before (key_of_cell c) (key_of_cell x) ≡ true) ds
    go [] k = tt
    go (x ∷ xs) k = (before_before (key_of_cell c) (key_of_cell d) (key_of_cell x) h.0 k.0, go xs k.1)

pub ascends_of : (c : List ℕ) (cells : List (List ℕ)) → AllByRecursion (λ d. before (key_of_cell c) (key_of_cell d) ≡ true) cells → Ascends cells → Ascends (c ∷ cells)
ascends_of c [] h up = tt
ascends_of c (d ∷ ds) h up = (h.0, up)

pub ascends_remove : (cells : List (List ℕ)) (at : ℕ) → Ascends cells → Ascends (remove cells at)
ascends_remove [] zero up = tt
ascends_remove [] (suc at) up = tt
ascends_remove (c ∷ cs) zero up = ascends_rest c cs up
ascends_remove (c ∷ cs) (suc at) up =
    ascends_of c (remove cs at) (all_remove (λ d. before (key_of_cell c) (key_of_cell d) ≡ true) cs at (ascends_all c cs up)) (ascends_remove cs at (ascends_rest c cs up))

-- a cell in its place
pub ascends_insert : (key : Key) (cell : List ℕ) (cells : List (List ℕ)) → key_of_cell cell ≡ key → cell_value key cells ≡ None → Ascends cells
    → Ascends (insert cells (place_in key cells) cell)
ascends_insert key cell [] is none up = tt
ascends_insert key cell (c ∷ cs) is none up = go (λ h. ascends_insert key cell cs is h (ascends_rest c cs up)) (before (key_of_cell c) key) refl (same_key key (key_of_cell c)) refl none
  where
    go : (cell_value key cs ≡ None → Ascends (insert cs (place_in key cs) cell)) → (t : Bool) → before (key_of_cell c) key ≡ t → (s : Bool)
        → same_key key (key_of_cell c) ≡ s → (if s then Some (value_of_cell c) else cell_value key cs) ≡ None
        → Ascends (insert (c ∷ cs) (if t then suc (place_in key cs) else zero) cell)
    go more t e true same none = absurd (none-some (value_of_cell c) (sym none))
    go more true e false same none =
        ascends_of c (insert cs (place_in key cs) cell)
        (all_insert (λ d. before (key_of_cell c) (key_of_cell d) ≡ true) cs (place_in key cs) cell (ascends_all c cs up)
        (ap (before (key_of_cell c)) is ∙ e)) (more none)
    go more false e false same none = (ap (λ (k : Key). before k (key_of_cell c)) is ∙ else_before key (key_of_cell c) same e, up)

pub fenced_insert : (key low : Key) (cell : List ℕ) (cells : List (List ℕ)) (others : List Entry) → key_of_cell cell ≡ key → cell_value key cells ≡ None
    → before key low ≡ false → IsUnder key others → IsFenced low cells others → IsFenced low (insert cells (place_in key cells) cell) others
fenced_insert key low cell cells others is none from to h = record {
  from = all_insert (λ c. before (key_of_cell c) low ≡ false) cells (place_in key cells) cell h.from (ap (λ (k : Key). before k low) is ∙ from);
  to = all_insert (λ c. IsUnder (key_of_cell c) others) cells (place_in key cells) cell h.to (subst (λ (k : Key). IsUnder k others) (sym is) to);
  ascends = ascends_insert key cell cells is none h.ascends;
  next = h.next;
}

pub fenced_remove : (low : Key) (cells : List (List ℕ)) (at : ℕ) (others : List Entry) → IsFenced low cells others → IsFenced low (remove cells at) others
fenced_remove low cells at others h = record {
  from = all_remove (λ c. before (key_of_cell c) low ≡ false) cells at h.from;
  to = all_remove (λ c. IsUnder (key_of_cell c) others) cells at h.to;
  ascends = ascends_remove cells at h.ascends;
  next = h.next;
}

-- the list without a key that is in no cell
without-none : (key : Key) (cells : List (List ℕ)) → AllByRecursion (λ c. same_key key (key_of_cell c) ≡ false) cells
    → without_key key (map pair_of cells) ≡ map pair_of cells
without-none key [] h = refl
without-none key (c ∷ cs) h =
    ap (λ (t : Bool). if (not t) then pair_of c ∷ without_key key (map pair_of cs) else without_key key (map pair_of cs)) h.0
    ∙ ap (λ (l : List (Key × List ℕ)). pair_of c ∷ l) (without-none key cs h.1)

without-append : (key : Key) (xs ys : List (Key × List ℕ)) → without_key key (xs ++ ys) ≡ without_key key xs ++ without_key key ys
without-append key [] ys = refl
without-append key (x ∷ xs) ys = go (not (same_key key x.0)) (without-append key xs ys)
  where
    go : (t : Bool) → without_key key (xs ++ ys) ≡ without_key key xs ++ without_key key ys
        → (if t then x ∷ without_key key (xs ++ ys) else without_key key (xs ++ ys)) ≡ (if t then x ∷ without_key key xs else without_key key xs) ++ without_key key ys
    go true ih = ap (λ (l : List (Key × List ℕ)). x ∷ l) ih
    go false ih = ih

not_same_front : (key : Key) (cells : List (List ℕ)) → AllByRecursion (λ c. before (key_of_cell c) key ≡ true) cells → AllByRecursion (λ c. same_key key (key_of_cell c) ≡ false) cells
not_same_front key [] h = tt
not_same_front key (c ∷ cs) h = (not_same_behind key (key_of_cell c) h.0, not_same_front key cs h.1)

not_same_after : (key : Key) (cells : List (List ℕ)) → AllByRecursion (λ c. before key (key_of_cell c) ≡ true) cells → AllByRecursion (λ c. same_key key (key_of_cell c) ≡ false) cells
not_same_after key [] h = tt
not_same_after key (c ∷ cs) h = (not_same_before key (key_of_cell c) h.0, not_same_after key cs h.1)

-- all above a cell of the key
same_after : (key : Key) (c : List ℕ) (cells : List (List ℕ)) → same_key key (key_of_cell c) ≡ true → AllByRecursion (λ d. before (key_of_cell c) (key_of_cell d) ≡ true) cells
    → AllByRecursion (λ d. same_key key (key_of_cell d) ≡ false) cells
same_after key c [] same h = tt
same_after key c (d ∷ ds) same h =
    (not_same_before key (key_of_cell d) (atmost_before key (key_of_cell c) (key_of_cell d) (same_not_behind key (key_of_cell c) same) h.0), same_after key c ds same h.1)

-- within the leaf that has it
without-here : (key : Key) (cells : List (List ℕ)) (at : ℕ) (found : List ℕ) → Ascends cells → slice_get cells at ≡ Some found → same_key key (key_of_cell found) ≡ true
    → without_key key (map pair_of cells) ≡ map pair_of (remove cells at)
without-here key [] at found up h same = absurd (none-some found h)
without-here key (c ∷ cs) zero found up h same =
    let here : same_key key (key_of_cell c) ≡ true = ap (λ (x : List ℕ). same_key key (key_of_cell x)) (same_Some c found h) ∙ same in
    ap (λ (t : Bool). if (not t) then pair_of c ∷ without_key key (map pair_of cs) else without_key key (map pair_of cs)) here
    ∙ without-none key cs (same_after key c cs here (ascends_all c cs up))
without-here key (c ∷ cs) (suc at) found up h same =
    let less : before (key_of_cell c) key ≡ true =
    before_atmost (key_of_cell c) (key_of_cell found) key (ascends_to cs at c found up h) (same_not_before key (key_of_cell found) same) in
    ap (λ (t : Bool). if (not t) then pair_of c ∷ without_key key (map pair_of cs) else without_key key (map pair_of cs)) (not_same_behind key (key_of_cell c) less)
    ∙ ap (λ (l : List (Key × List ℕ)). pair_of c ∷ l) (without-here key cs at found (ascends_rest c cs up) h same)

-- and in the whole tree
pub without-cells : (key : Key) (front cells behind : List (List ℕ)) (at : ℕ) (found : List ℕ) → Ascends cells → slice_get cells at ≡ Some found
    → same_key key (key_of_cell found) ≡ true → AllByRecursion (λ c. before (key_of_cell c) key ≡ true) front → AllByRecursion (λ c. before key (key_of_cell c) ≡ true) behind
    → map pair_of (front ++ (remove cells at ++ behind)) ≡ without_key key (map pair_of (front ++ (cells ++ behind)))
without-cells key front cells behind at found up h same before_all after_all =
    pairs-append front (remove cells at ++ behind)
    ∙ ap (λ (l : List (Key × List ℕ)). map pair_of front ++ l) (pairs-append (remove cells at) behind)
    ∙ sym (ap (λ (l : List (Key × List ℕ)). map pair_of front ++ (l ++ map pair_of behind)) (without-here key cells at found up h same))
    ∙ sym (ap (λ (l : List (Key × List ℕ)). map pair_of front ++ (without_key key (map pair_of cells) ++ l)) (without-none key behind (not_same_after key behind after_all)))
    ∙ sym (ap (λ (l : List (Key × List ℕ)). map pair_of front ++ l) (without-append key (map pair_of cells) (map pair_of behind)))
    ∙ sym (ap (λ (l : List (Key × List ℕ)). map pair_of front ++ without_key key l) (pairs-append cells behind))
    ∙ sym (ap (λ (l : List (Key × List ℕ)). l ++ without_key key (map pair_of (cells ++ behind))) (without-none key front (not_same_front key front before_all)))
    ∙ sym (without-append key (map pair_of front) (map pair_of (cells ++ behind)))
    ∙ sym (ap (without_key key) (pairs-append front (cells ++ behind)))

-- where the key is in no cell, the list is as before
pub without-absent : (key : Key) (cells : List (List ℕ)) → cell_value key cells ≡ None → without_key key (map pair_of cells) ≡ map pair_of cells
without-absent key cells h = without-none key cells (absent key cells h)
  where
    absent : (key : Key) (cells : List (List ℕ)) → cell_value key cells ≡ None → AllByRecursion (λ c. same_key key (key_of_cell c) ≡ false) cells
    absent key [] h = tt
    absent key (c ∷ cs) h = go (same_key key (key_of_cell c)) refl (absent key cs) h
      where
        go : (t : Bool) → same_key key (key_of_cell c) ≡ t → (cell_value key cs ≡ None → AllByRecursion (λ d. same_key key (key_of_cell d) ≡ false) cs)
            → (if t then Some (value_of_cell c) else cell_value key cs) ≡ None → AllByRecursion (λ d. same_key key (key_of_cell d) ≡ false) (c ∷ cs)
        go true e more h = absurd (none-some (value_of_cell c) (sym h))
        go false e more h = (e, more h)

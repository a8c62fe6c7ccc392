-- The place of a key among cells whose keys rise.
use Rattle.std.proofs.Common.{◌≡◌, ℕ, zero, suc, ◌+◌, ◌-◌, ◌/◌, ◌≤◌, ◌<◌, ◌&&◌, not, Bool, true, false, List, [], ◌∷◌, ◌++◌, length, map, drop, Option, None, Some, if◌then◌else◌, refl, sym, ap, ◌∙◌, subst, arith, add-one, append_assoc}
use Rattle.std.proofs.lemmas.Bool.{false≢true}
use Rattle.std.proofs.lemmas.List.{append-nil}
use Rattle.std.proofs.lemmas.Option.{none-some, same_Some}
use Rattle.std.specs.List.{AllByRecursion, slice_get}
use Rattle.page_store.specs.Image.{Image}
use Rattle.page_store.specs.declared.pages.PageKind.TheVariants.{Leaf}
use Rattle.btree_index.specs.Keys.{Key, before, same_key}
use Rattle.btree_index.specs.Cells.{key_of_cell, value_of_cell}
use Rattle.btree_index.specs.Pairs.{cell_value, place_in, between, is_below}
use Rattle.btree_index.specs.Trees.{Entry, Ascends, AreFenced, pair_of}
use Rattle.btree_index.specs.Ways.{OnWay}
use Rattle.btree_index.specs.Changes.{TreeStands, Leads}
use Rattle.btree_index.proofs.FindLemmas.{cell_at, drop_here}
use Rattle.btree_index.proofs.KeyLaws.{before_before, not_back, not_same_before, same_not_behind, else_before, atmost_atmost}
use Rattle.btree_index.proofs.LeafLaws.{Replaces, replaces, fenced_at}
use Rattle.btree_index.proofs.PairLemmas.{ascends_to, ascends_rest, ascends_all}
use Rattle.btree_index.proofs.RowLemmas.{none_high}
use Rattle.btree_index.proofs.WayLemmas.{way_ends}

-- a cell that comes before the key is below the place, and one that does not is not
pub place_above : (key : Key) (cells : List (List ℕ)) (i : ℕ) (c : List ℕ) → Ascends cells → slice_get cells i ≡ Some c → before (key_of_cell c) key ≡ true
    → i < place_in key cells
place_above key [] i c up here less = absurd (none-some c here)
place_above key (d ∷ ds) zero c up here less =
    let first : before (key_of_cell d) key ≡ true = ap (λ (x : List ℕ). before (key_of_cell x) key) (same_Some d c here) ∙ less in
    let is : place_in key (d ∷ ds) ≡ suc (place_in key ds) = ap (λ (t : Bool). if t then suc (place_in key ds) else zero) first in
    omega (arith, is)
place_above key (d ∷ ds) (suc i) c up here less =
    let first : before (key_of_cell d) key ≡ true = before_before (key_of_cell d) (key_of_cell c) key (ascends_to ds i d c up here) less in
    let is : place_in key (d ∷ ds) ≡ suc (place_in key ds) = ap (λ (t : Bool). if t then suc (place_in key ds) else zero) first in
    let rest : i < place_in key ds = place_above key ds i c (ascends_rest d ds up) here less in
    omega (arith, is, rest)

pub place_up_to : (key : Key) (cells : List (List ℕ)) (i : ℕ) (c : List ℕ) → slice_get cells i ≡ Some c → before (key_of_cell c) key ≡ false
    → place_in key cells ≤ i
place_up_to key [] i c here less = absurd (none-some c here)
place_up_to key (d ∷ ds) zero c here less =
    let first : before (key_of_cell d) key ≡ false = ap (λ (x : List ℕ). before (key_of_cell x) key) (same_Some d c here) ∙ less in
    let is : place_in key (d ∷ ds) ≡ zero = ap (λ (t : Bool). if t then suc (place_in key ds) else zero) first in
    omega (arith, is)
place_up_to key (d ∷ ds) (suc i) c here less = go (before (key_of_cell d) key) (place_up_to key ds i c here less)
  where
    go : (t : Bool) → place_in key ds ≤ i → (if t then suc (place_in key ds) else zero) ≤ suc i
    go true rest = omega arith
    go false rest = omega arith

-- from the place on, no cell comes before the key
pub place_from : (key : Key) (cells : List (List ℕ)) (i : ℕ) (c : List ℕ) → Ascends cells → slice_get cells i ≡ Some c → place_in key cells ≤ i
    → before (key_of_cell c) key ≡ false
place_from key cells i c up here from = go (before (key_of_cell c) key) refl
  where
    go : (t : Bool) → before (key_of_cell c) key ≡ t → before (key_of_cell c) key ≡ false
    go false e = e
    go true e = (let above : i < place_in key cells = place_above key cells i c up here e in absurd (past above))
      where
        past : i < place_in key cells → ⊥
        past above = omega arith

-- the value of the cell at the place, where it has the key
abbrev pub value_here : Key → Option (List ℕ) → Option (List ℕ)
value_here key None = None
value_here key (Some c) = if same_key key (key_of_cell c) then Some (value_of_cell c) else None

none_later : (key : Key) (c : List ℕ) (cells : List (List ℕ)) → before key (key_of_cell c) ≡ true → AllByRecursion (λ d. before (key_of_cell c) (key_of_cell d) ≡ true) cells
    → cell_value key cells ≡ None
none_later key c [] less above = refl
none_later key c (d ∷ ds) less above =
    ap (λ (t : Bool). if t then Some (value_of_cell d) else cell_value key ds) (not_same_before key (key_of_cell d) (before_before key (key_of_cell c) (key_of_cell d) less above.0))
    ∙ none_later key c ds less above.1

place_value : (key : Key) (cells : List (List ℕ)) → Ascends cells → cell_value key cells ≡ value_here key (slice_get cells (place_in key cells))
place_value key [] up = refl
place_value key (c ∷ cs) up = go (before (key_of_cell c) key) refl (same_key key (key_of_cell c)) refl (place_value key cs (ascends_rest c cs up))
  where
    go : (t : Bool) → before (key_of_cell c) key ≡ t → (s : Bool) → same_key key (key_of_cell c) ≡ s
        → cell_value key cs ≡ value_here key (slice_get cs (place_in key cs))
        → (if s then Some (value_of_cell c) else cell_value key cs) ≡ value_here key (slice_get (c ∷ cs) (if t then suc (place_in key cs) else zero))
    go true e true same rest = absurd (false≢true (sym (same_not_behind key (key_of_cell c) same) ∙ e))
    go true e false same rest = rest
    go false e true same rest = sym (ap (λ (t : Bool). if t then Some (value_of_cell c) else None) same)
    go false e false same rest =
        none_later key c cs (else_before key (key_of_cell c) same e) (ascends_all c cs up)
        ∙ sym (ap (λ (t : Bool). if t then Some (value_of_cell c) else None) same)

-- so the cell at the place decides
placed : (key : Key) (cells : List (List ℕ)) (at : ℕ) (found : Option (List ℕ)) → Ascends cells → at ≡ place_in key cells → slice_get cells at ≡ found
    → cell_value key cells ≡ value_here key found
placed key cells at found up is here =
    place_value key cells up ∙ ap (λ (n : ℕ). value_here key (slice_get cells n)) (sym is) ∙ ap (value_here key) here

pub value_past : (key : Key) (cells : List (List ℕ)) (at : ℕ) → Ascends cells → at ≡ place_in key cells → slice_get cells at ≡ None → cell_value key cells ≡ None
value_past key cells at up is here = placed key cells at None up is here

pub value_same : (key : Key) (cells : List (List ℕ)) (at : ℕ) (c : List ℕ) → Ascends cells → at ≡ place_in key cells → slice_get cells at ≡ Some c
    → same_key key (key_of_cell c) ≡ true → cell_value key cells ≡ Some (value_of_cell c)
value_same key cells at c up is here same =
    placed key cells at (Some c) up is here ∙ ap (λ (t : Bool). if t then Some (value_of_cell c) else None) same

pub value_other : (key : Key) (cells : List (List ℕ)) (at : ℕ) (c : List ℕ) → Ascends cells → at ≡ place_in key cells → slice_get cells at ≡ Some c
    → same_key key (key_of_cell c) ≡ false → cell_value key cells ≡ None
value_other key cells at c up is here off =
    placed key cells at (Some c) up is here ∙ ap (λ (t : Bool). if t then Some (value_of_cell c) else None) off

-- nothing in front of the place is between
pub between_from : (low : Key) (high : Option Key) (cells : List (List ℕ))
    → between low high (map pair_of cells) ≡ between low high (map pair_of (drop (place_in low cells) cells))
between_from low high [] = refl
between_from low high (c ∷ cs) = go (before (key_of_cell c) low) refl (between_from low high cs)
  where
    go : (t : Bool) → before (key_of_cell c) low ≡ t → between low high (map pair_of cs) ≡ between low high (map pair_of (drop (place_in low cs) cs))
        → (if (not (before (key_of_cell c) low) && is_below high (key_of_cell c)) then pair_of c ∷ between low high (map pair_of cs) else between low high (map pair_of cs))
        ≡ between low high (map pair_of (drop (if t then suc (place_in low cs) else zero) (c ∷ cs)))
    go true e rest =
        ap (λ (t : Bool). if (not t && is_below high (key_of_cell c)) then pair_of c ∷ between low high (map pair_of cs) else between low high (map pair_of cs)) e ∙ rest
    go false e rest = refl

-- a cell that is between
pub between_next : (low : Key) (high : Option Key) (cells : List (List ℕ)) (i : ℕ) (c : List ℕ) (out more all : List (Key × List ℕ)) → Ascends cells
    → slice_get cells i ≡ Some c → place_in low cells ≤ i → is_below high (key_of_cell c) ≡ true → more ≡ out ++ pair_of c ∷ []
    → out ++ between low high (map pair_of (drop i cells)) ≡ all → more ++ between low high (map pair_of (drop (i + 1) cells)) ≡ all
between_next low high cells i c out more all up here from below is so_far =
    let rest = between low high (map pair_of (drop (suc i) cells)) in
    let one : between low high (map pair_of (drop i cells)) ≡ pair_of c ∷ rest =
    ap (λ (l : List (List ℕ)). between low high (map pair_of l)) (drop_here cells i c here)
    ∙ ap (λ (t : Bool). if (not t && is_below high (key_of_cell c)) then pair_of c ∷ rest else rest) (place_from low cells i c up here from)
    ∙ ap (λ (t : Bool). if t then pair_of c ∷ rest else rest) below in
    ap (λ (l : List (Key × List ℕ)). l ++ between low high (map pair_of (drop (i + 1) cells))) is
    ∙ ap (λ (n : ℕ). (out ++ pair_of c ∷ []) ++ between low high (map pair_of (drop n cells))) (add-one i)
    ∙ append_assoc out (pair_of c ∷ []) rest ∙ ap (λ (l : List (Key × List ℕ)). out ++ l) (sym one) ∙ so_far

-- and behind one that is not below the high key, none is
ascends_drop : (cells : List (List ℕ)) (i : ℕ) → Ascends cells → Ascends (drop i cells)
ascends_drop [] zero up = tt
ascends_drop [] (suc i) up = tt
ascends_drop (c ∷ cs) zero up = up
ascends_drop (c ∷ cs) (suc i) up = ascends_drop cs i (ascends_rest c cs up)

past_all : (high : Option Key) (c : List ℕ) (cells : List (List ℕ)) → is_below high (key_of_cell c) ≡ false
    → AllByRecursion (λ d. before (key_of_cell c) (key_of_cell d) ≡ true) cells → AllByRecursion (λ d. is_below high (key_of_cell d) ≡ false) cells
past_all high c [] past above = tt
past_all None c (d ∷ ds) past above = absurd (false≢true (sym past))
past_all (Some high) c (d ∷ ds) past above =
    (atmost_atmost high (key_of_cell c) (key_of_cell d) past (not_back (key_of_cell c) (key_of_cell d) above.0), past_all (Some high) c ds past above.1)

pub between_end : (low : Key) (high : Option Key) (cells : List (List ℕ)) (i : ℕ) (c : List ℕ) (out all : List (Key × List ℕ)) → Ascends cells
    → slice_get cells i ≡ Some c → is_below high (key_of_cell c) ≡ false → out ++ between low high (map pair_of (drop i cells)) ≡ all → out ≡ all
between_end low high cells i c out all up here past so_far =
    let e : drop i cells ≡ c ∷ drop (suc i) cells = drop_here cells i c here in
    let rises : Ascends (c ∷ drop (suc i) cells) = subst Ascends e (ascends_drop cells i up) in
    let none : between low high (map pair_of (c ∷ drop (suc i) cells)) ≡ [] =
    none_high low high (c ∷ drop (suc i) cells) (past, past_all high c (drop (suc i) cells) past (ascends_all c (drop (suc i) cells) rises)) in
    sym (append-nil out) ∙ ap (λ (l : List (Key × List ℕ)). out ++ l) (sym none)
    ∙ ap (λ (l : List (List ℕ)). out ++ between low high (map pair_of l)) (sym e) ∙ so_far

-- behind the last cell none is, either
pub between_none : (low : Key) (high : Option Key) (cells : List (List ℕ)) (i : ℕ) (out all : List (Key × List ℕ)) → slice_get cells i ≡ None
    → out ++ between low high (map pair_of (drop i cells)) ≡ all → out ≡ all
between_none low high cells i out all past so_far =
    sym (append-nil out) ∙ ap (λ (l : List (List ℕ)). out ++ between low high (map pair_of l)) (sym (drop_past cells i past)) ∙ so_far
  where
    drop_past : (cells : List (List ℕ)) (i : ℕ) → slice_get cells i ≡ None → drop i cells ≡ []
    drop_past [] zero h = refl
    drop_past [] (suc i) h = refl
    drop_past (c ∷ cs) zero h = absurd (none-some c (sym h))
    drop_past (c ∷ cs) (suc i) h = drop_past cs i h

-- the keys of the leaf of a way rise
pub way_rises : (pages : ℕ → Image) (key : Key) (page : ℕ) (list : List (Key × List ℕ)) → OnWay pages key page list → (pages page).head.kind ≡ Leaf
    → Ascends (pages page).cells
way_rises pages key page list way leaf =
    let there = way_ends pages key page list way leaf in
    let e : Entry = record { low = there.at.low; page = page } in
    let F : List Entry → Type 0 = λ l. AreFenced pages l in
    (fenced_at pages there.at.front e there.at.others (subst F there.at.is there.fenced)).ascends

pub leaf_rises : (old : ℕ → Image) (root : ℕ) (key : Key) (page : ℕ) → Leads old root key page → (old page).head.kind ≡ Leaf
    → (own free : List ℕ) (list : List (Key × List ℕ)) → TreeStands old root own free list → Ascends (old page).cells
leaf_rises old root key page leads leaf own free list stands =
    let cells = (old page).cells in
    let r : Replaces old old root key page stands.height stands.cells cells =
    replaces old old root key page stands.height stands.cells cells stands.holds (leads stands.height stands.cells stands.holds) leaf
    (record { is = refl; head = refl; others = λ n off. refl }) in
    (fenced_at old r.front (record { low = r.low; page = page }) r.others r.fenced).ascends

-- the cell in the middle of what is left tells on which side of it the place is
pub half_above : (key : Key) (cells : List (List ℕ)) (low high : ℕ) (told : Bool) → low < high → high ≤ length cells
    → ((c : List ℕ) → slice_get cells (low + (high - low) / 2) ≡ Some c → told ≡ before (key_of_cell c) key) → told ≡ true → Ascends cells
    → low + (high - low) / 2 + 1 ≤ place_in key cells
half_above key cells low high told some most tells is up =
    let middle : low + (high - low) / 2 < length cells = omega arith in
    let found = cell_at cells (low + (high - low) / 2) middle in
    let above : low + (high - low) / 2 < place_in key cells =
    place_above key cells (low + (high - low) / 2) found.0 up found.1 (sym (tells found.0 found.1) ∙ is) in
    omega (arith, above)

pub half_up_to : (key : Key) (cells : List (List ℕ)) (low high : ℕ) (told : Bool) → low < high → high ≤ length cells
    → ((c : List ℕ) → slice_get cells (low + (high - low) / 2) ≡ Some c → told ≡ before (key_of_cell c) key) → told ≡ false
    → place_in key cells ≤ low + (high - low) / 2
half_up_to key cells low high told some most tells off =
    let middle : low + (high - low) / 2 < length cells = omega arith in
    let found = cell_at cells (low + (high - low) / 2) middle in
    place_up_to key cells (low + (high - low) / 2) found.0 found.1 (sym (tells found.0 found.1) ∙ off)

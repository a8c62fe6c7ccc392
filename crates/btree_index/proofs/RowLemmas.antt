-- The row of leaves, walked by right links.
use Rattle.std.proofs.Common.{◌≡◌, inl, inr, ℕ, zero, suc, ◌&&◌, not, Bool, true, false, List, [], ◌∷◌, ◌++◌, map, Option, None, Some, if◌then◌else◌, refl, sym, ap, ◌∙◌, subst, append_assoc}
use Rattle.std.proofs.lemmas.Bool.{false≢true}
use Rattle.std.proofs.lemmas.List.{append-nil}
use Rattle.std.specs.List.{AllByRecursion, slice_get}
use Rattle.page_store.specs.Image.{Image}
use Rattle.page_store.specs.declared.pages.PageKind.TheVariants.{Leaf}
use Rattle.btree_index.specs.Keys.{Key, before}
use Rattle.btree_index.specs.Cells.{key_of_cell}
use Rattle.btree_index.specs.Pairs.{is_below, is_key_between, between, HasBeyond}
use Rattle.btree_index.specs.Trees.{Entry, cells_of, IsUnder, AreFenced, AreLinked, pair_of}
use Rattle.btree_index.specs.Ways.{OnWay, OnRow}
use Rattle.btree_index.proofs.KeyLaws.{atmost_atmost, before_atmost, not_back}
use Rattle.std.proofs.lemmas.Option.{none-some, same_Some}
use Rattle.btree_index.proofs.WayLemmas.{BeginsBelow, begins_below, way_ends}

-- what is between in joined lists
pub between-append : (low : Key) (high : Option Key) (xs ys : List (Key × List ℕ)) → between low high (xs ++ ys) ≡ between low high xs ++ between low high ys
between-append low high [] ys = refl
between-append low high (x ∷ xs) ys = go (is_key_between low high x.0) (between-append low high xs ys)
  where
    go : (t : Bool) → between low high (xs ++ ys) ≡ between low high xs ++ between low high ys
        → (if t then x ∷ between low high (xs ++ ys) else between low high (xs ++ ys))
        ≡ (if t then x ∷ between low high xs else between low high xs) ++ between low high ys
    go true e = ap (λ l. x ∷ l) e
    go false e = e

pub pairs-append : (xs ys : List (List ℕ)) → map pair_of (xs ++ ys) ≡ map pair_of xs ++ map pair_of ys
pairs-append [] ys = refl
pairs-append (x ∷ xs) ys = ap (λ l. pair_of x ∷ l) (pairs-append xs ys)

-- what is between in the cells of one page and of those behind it
cells-between : (low : Key) (high : Option Key) (xs ys : List (List ℕ))
    → between low high (map pair_of (xs ++ ys)) ≡ between low high (map pair_of xs) ++ between low high (map pair_of ys)
cells-between low high xs ys =
    ap (between low high) (pairs-append xs ys) ∙ between-append low high (map pair_of xs) (map pair_of ys)

-- cells before the low key
none_low : (low : Key) (high : Option Key) (cells : List (List ℕ)) → AllByRecursion (λ c. before (key_of_cell c) low ≡ true) cells
    → between low high (map pair_of cells) ≡ []
none_low low high [] h = refl
none_low low high (c ∷ cs) h =
    ap (λ (t : Bool). if (not t && is_below high (key_of_cell c)) then pair_of c ∷ between low high (map pair_of cs) else between low high (map pair_of cs)) h.0
    ∙ none_low low high cs h.1

-- cells that are not below the high key
pub none_high : (low : Key) (high : Option Key) (cells : List (List ℕ)) → AllByRecursion (λ c. is_below high (key_of_cell c) ≡ false) cells
    → between low high (map pair_of cells) ≡ []
none_high low high [] h = refl
none_high low high (c ∷ cs) h =
    ap (λ (t : Bool). if (not (before (key_of_cell c) low) && t) then pair_of c ∷ between low high (map pair_of cs) else between low high (map pair_of cs)) h.0
    ∙ off (not (before (key_of_cell c) low)) ∙ none_high low high cs h.1
  where
    off : (t : Bool) → (if (t && false) then pair_of c ∷ between low high (map pair_of cs) else between low high (map pair_of cs)) ≡ between low high (map pair_of cs)
    off true = refl
    off false = refl

-- cells under leaves that begin at most at the low key are before it
pub front_low : (low : Key) (cells : List (List ℕ)) (level : List Entry) → AllByRecursion (λ c. IsUnder (key_of_cell c) level) cells
    → BeginsBelow low level → AllByRecursion (λ c. before (key_of_cell c) low ≡ true) cells
front_low low [] level to begins = tt
front_low low (c ∷ cs) [] to begins = absurd begins
front_low low (c ∷ cs) (e ∷ es) to begins =
    (before_atmost (key_of_cell c) e.low low to.0 begins, front_low low cs (e ∷ es) to.1 begins)

-- so nothing before the leaf that was found is between
front_none : (pages : ℕ → Image) (key low : Key) (high : Option Key) (page : ℕ) (front others : List Entry)
    → AreFenced pages (front ++ (record { low = low; page = page } ∷ others)) → before key low ≡ false
    → between key high (map pair_of (cells_of pages (front ++ (record { low = low; page = page } ∷ others))))
    ≡ between key high (map pair_of (cells_of pages (record { low = low; page = page } ∷ others)))
front_none pages key low high page [] others fenced from = refl
front_none pages key low high page (f ∷ fs) others fenced from =
    let begins = begins_below pages key low page fs others fenced.1 from in
    let none = none_low key high (pages f.page).cells (front_low key (pages f.page).cells (fs ++ (record { low = low; page = page } ∷ others)) fenced.0.to begins) in
    cells-between key high (pages f.page).cells (cells_of pages (fs ++ (record { low = low; page = page } ∷ others)))
    ∙ ap (λ l. l ++ between key high (map pair_of (cells_of pages (fs ++ (record { low = low; page = page } ∷ others))))) none
    ∙ front_none pages key low high page fs others fenced.1 from

-- the next leaf of the row
pub row_next : (pages : ℕ → Image) (low : Key) (high : Option Key) (page : ℕ) (out all : List (Key × List ℕ)) → OnRow pages low high page out all
    → ((pages page).head.right ≡ 0 → ⊥)
    → OnRow pages low high (pages page).head.right (out ++ between low high (map pair_of (pages page).cells)) all
row_next pages low high page out all row some = go row.others row.fenced row.linked row.past row.is
  where
    go : (others : List Entry) → AreFenced pages (record { low = row.least; page = page } ∷ others)
        → AreLinked pages (record { low = row.least; page = page } ∷ others) → AllByRecursion (λ e. e.page ≡ 0 → ⊥) others
        → out ++ between low high (map pair_of (cells_of pages (record { low = row.least; page = page } ∷ others))) ≡ all
        → OnRow pages low high (pages page).head.right (out ++ between low high (map pair_of (pages page).cells)) all
    go [] fenced linked past is = absurd (some linked)
    go (f ∷ fs) fenced linked past is =
        let P : ℕ → Type 0 = λ n. OnRow pages low high n (out ++ between low high (map pair_of (pages page).cells)) all in
        subst P (sym linked.0) (record {
          least = f.low;
          others = fs;
          fenced = fenced.1;
          linked = linked.1;
          past = past.1;
          is = append_assoc out (between low high (map pair_of (pages page).cells)) (between low high (map pair_of (cells_of pages (f ∷ fs))))
              ∙ ap (λ l. out ++ l) (sym (cells-between low high (pages page).cells (cells_of pages (f ∷ fs)))) ∙ is;
        })

-- the end of the row
pub row_end : (pages : ℕ → Image) (low : Key) (high : Option Key) (page : ℕ) (out all : List (Key × List ℕ)) → OnRow pages low high page out all
    → (pages page).head.right ≡ 0 → out ++ between low high (map pair_of (pages page).cells) ≡ all
row_end pages low high page out all row last = go row.others row.linked row.past row.is
  where
    go : (others : List Entry) → AreLinked pages (record { low = row.least; page = page } ∷ others)
        → AllByRecursion (λ e. e.page ≡ 0 → ⊥) others
        → out ++ between low high (map pair_of (cells_of pages (record { low = row.least; page = page } ∷ others))) ≡ all
        → out ++ between low high (map pair_of (pages page).cells) ≡ all
    go [] linked past is = ap (λ l. out ++ between low high (map pair_of l)) (sym (append-nil (pages page).cells)) ∙ is
    go (f ∷ fs) linked past is = absurd (past.0 (sym linked.0 ∙ last))

-- keys from a least one on that is beyond the high one are not below it
beyond_all : (high : Option Key) (low : Key) (cells : List (List ℕ)) → is_below high low ≡ false
    → AllByRecursion (λ c. before (key_of_cell c) low ≡ false) cells → AllByRecursion (λ c. is_below high (key_of_cell c) ≡ false) cells
beyond_all high low [] h from = tt
beyond_all None low (c ∷ cs) h from = absurd (false≢true (sym h))
beyond_all (Some high) low (c ∷ cs) h from = (atmost_atmost high low (key_of_cell c) h from.0, beyond_all (Some high) low cs h from.1)

beyond_leaves : (pages : ℕ → Image) (low : Key) (high : Option Key) (e : Entry) (es : List Entry) → AreFenced pages (e ∷ es)
    → is_below high e.low ≡ false → between low high (map pair_of (cells_of pages (e ∷ es))) ≡ []
beyond_leaves pages low high e [] fenced h =
    cells-between low high (pages e.page).cells []
    ∙ ap (λ l. l ++ []) (none_high low high (pages e.page).cells (beyond_all high e.low (pages e.page).cells h fenced.0.from))
beyond_leaves pages low high e (f ∷ fs) fenced h =
    cells-between low high (pages e.page).cells (cells_of pages (f ∷ fs))
    ∙ ap (λ l. l ++ between low high (map pair_of (cells_of pages (f ∷ fs)))) (none_high low high (pages e.page).cells (beyond_all high e.low (pages e.page).cells h fenced.0.from))
    ∙ beyond_leaves pages low high f fs fenced.1 (further high h)
  where
    further : (high : Option Key) → is_below high e.low ≡ false → is_below high f.low ≡ false
    further None h = h
    further (Some high) h = atmost_atmost high e.low f.low h fenced.0.next

-- a leaf with a cell beyond the high key is the last one that is wanted
pub row_stop : (pages : ℕ → Image) (low : Key) (high : Option Key) (page : ℕ) (out all : List (Key × List ℕ)) → OnRow pages low high page out all
    → HasBeyond high (pages page).cells → out ++ between low high (map pair_of (pages page).cells) ≡ all
row_stop pages low high page out all row beyond = go row.others row.fenced row.is
  where
    next_low : (cells : List (List ℕ)) (f : Entry) (fs : List Entry) → AllByRecursion (λ c. IsUnder (key_of_cell c) (f ∷ fs)) cells → HasBeyond high cells
        → is_below high f.low ≡ false
    next_low [] f fs to beyond = absurd beyond
    next_low (c ∷ cs) f fs to (inl here) = one high here
      where
        one : (high : Option Key) → is_below high (key_of_cell c) ≡ false → is_below high f.low ≡ false
        one None h = h
        one (Some high) h = atmost_atmost high (key_of_cell c) f.low h (not_back (key_of_cell c) f.low to.0)
    next_low (c ∷ cs) f fs to (inr later) = next_low cs f fs to.1 later

    go : (others : List Entry) → AreFenced pages (record { low = row.least; page = page } ∷ others)
        → out ++ between low high (map pair_of (cells_of pages (record { low = row.least; page = page } ∷ others))) ≡ all
        → out ++ between low high (map pair_of (pages page).cells) ≡ all
    go [] fenced is = ap (λ l. out ++ between low high (map pair_of l)) (sym (append-nil (pages page).cells)) ∙ is
    go (f ∷ fs) fenced is =
        let none = beyond_leaves pages low high f fs fenced.1 (next_low (pages page).cells f fs fenced.0.to beyond) in
        sym (ap (λ l. out ++ l)
        (cells-between low high (pages page).cells (cells_of pages (f ∷ fs))
        ∙ ap (λ l. between low high (map pair_of (pages page).cells) ++ l) none ∙ append-nil (between low high (map pair_of (pages page).cells))))
        ∙ is

linked_rest : (pages : ℕ → Image) (front : List Entry) (e : Entry) (others : List Entry) → AreLinked pages (front ++ (e ∷ others)) → AreLinked pages (e ∷ others)
linked_rest pages [] e others linked = linked
linked_rest pages (f ∷ []) e others linked = linked.1
linked_rest pages (f ∷ g ∷ gs) e others linked = linked_rest pages (g ∷ gs) e others linked.1

pub fenced_rest : (pages : ℕ → Image) (front : List Entry) (e : Entry) (others : List Entry) → AreFenced pages (front ++ (e ∷ others)) → AreFenced pages (e ∷ others)
fenced_rest pages [] e others fenced = fenced
fenced_rest pages (f ∷ fs) e others fenced = fenced_rest pages fs e others fenced.1

past_rest : (front : List Entry) (e : Entry) (others : List Entry) → AllByRecursion (λ e. e.page ≡ 0 → ⊥) (front ++ (e ∷ others))
    → AllByRecursion (λ e. e.page ≡ 0 → ⊥) others
past_rest [] e others past = past.1
past_rest (f ∷ fs) e others past = past_rest fs e others past.1

-- the row begins at the leaf that was found
pub row_begins : (pages : ℕ → Image) (low : Key) (high : Option Key) (page : ℕ) (list : List (Key × List ℕ)) → OnWay pages low page list
    → (pages page).head.kind ≡ Leaf → OnRow pages low high page [] (between low high list)
row_begins pages low high page list way leaf =
    let there = way_ends pages low page list way leaf in
    let at = there.at in
    let e : Entry = record { low = at.low; page = page } in
    let F : List Entry → Type 0 = λ l. AreFenced pages l in
    let L : List Entry → Type 0 = λ l. AreLinked pages l in
    let P : List Entry → Type 0 = λ l. AllByRecursion (λ e. e.page ≡ 0 → ⊥) l in
    let fenced = subst F at.is there.fenced in
    record {
      least = at.low;
      others = at.others;
      fenced = fenced_rest pages at.front e at.others fenced;
      linked = linked_rest pages at.front e at.others (subst L at.is there.linked);
      past = past_rest at.front e at.others (subst P at.is there.past);
      is =
          sym (front_none pages low at.low high page at.front at.others fenced at.from)
          ∙ ap (λ (l : List Entry). between low high (map pair_of (cells_of pages l))) (sym at.is) ∙ ap (between low high) there.is;
    }

-- a cell that is beyond the high key
pub beyond_here : (high : Option Key) (cells : List (List ℕ)) (i : ℕ) (c : List ℕ) → slice_get cells i ≡ Some c → is_below high (key_of_cell c) ≡ false
    → HasBeyond high cells
beyond_here high [] i c here h = let e : ◌≡◌ {A = Option (List ℕ)} None (Some c) = here in absurd (none-some c e)
beyond_here high (x ∷ xs) zero c here h = inl (ap (λ (k : List ℕ). is_below high (key_of_cell k)) (same_Some x c here) ∙ h)
beyond_here high (x ∷ xs) (suc i) c here h = inr (beyond_here high xs i c here h)

-- the same steps, over the page that was read
pub leaf_next : (pages : ℕ → Image) (low : Key) (high : Option Key) (id : ℕ) (out more all : List (Key × List ℕ)) (image : Image)
    → OnRow pages low high id out all → image ≡ pages id → (image.head.right ≡ 0 → ⊥) → more ≡ out ++ between low high (map pair_of image.cells)
    → OnRow pages low high image.head.right more all
leaf_next pages low high id out more all image row now some added =
    let P : List (Key × List ℕ) → Type 0 = λ l. OnRow pages low high image.head.right l all in
    let Q : Image → Type 0 = λ i. OnRow pages low high i.head.right (out ++ between low high (map pair_of i.cells)) all in
    subst P (sym added) (subst Q (sym now) (row_next pages low high id out all row (λ z. some (ap (λ (i : Image). i.head.right) now ∙ z))))

pub leaf_end : (pages : ℕ → Image) (low : Key) (high : Option Key) (id : ℕ) (out more all : List (Key × List ℕ)) (image : Image)
    → OnRow pages low high id out all → image ≡ pages id → image.head.right ≡ 0 → more ≡ out ++ between low high (map pair_of image.cells)
    → more ≡ all
leaf_end pages low high id out more all image row now last added =
    added ∙ ap (λ (i : Image). out ++ between low high (map pair_of i.cells)) now
    ∙ row_end pages low high id out all row (sym (ap (λ (i : Image). i.head.right) now) ∙ last)

pub leaf_stop : (pages : ℕ → Image) (low : Key) (high : Option Key) (id : ℕ) (out more all : List (Key × List ℕ)) (image : Image)
    → OnRow pages low high id out all → image ≡ pages id → HasBeyond high image.cells → more ≡ out ++ between low high (map pair_of image.cells)
    → more ≡ all
leaf_stop pages low high id out more all image row now beyond added =
    let P : Image → Type 0 = λ i. HasBeyond high i.cells in
    added ∙ ap (λ (i : Image). out ++ between low high (map pair_of i.cells)) now
    ∙ row_stop pages low high id out all row (subst P now beyond)

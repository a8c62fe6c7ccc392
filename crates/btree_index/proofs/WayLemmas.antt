-- The way down to a key: at each level, the page below which it may stand.
use Rattle.std.proofs.Common.{◌≡◌, inl, inr, ℕ, zero, suc, ◌≤◌, true, false, List, [], ◌∷◌, ◌++◌, map, Option, None, Some, if◌then◌else◌, refl, sym, ap, ◌∙◌, subst, append_assoc, arith}
use Rattle.std.specs.List.{AllByRecursion}
use Rattle.page_store.specs.Image.{Image}
use Rattle.page_store.specs.declared.pages.PageKind.TheVariants.{Leaf, Inner}
use Rattle.page_workspace.specs.Spare.{IsIn}
use Rattle.btree_index.specs.Keys.{Key, before, same_key}
use Rattle.btree_index.specs.Cells.{key_of_cell, value_of_cell, child_of}
use Rattle.btree_index.specs.Pairs.{value_at, cell_value, turn, child_from, choice}
use Rattle.btree_index.specs.Trees.{AreLinked, page_of, tree_pages, Entry, entry_of, below, spread, leaves, cells_of, IsShaped, IsLeafPage, IsInnerPage, BeginsEmpty, IsUnder, IsUpTo, AreFenced, top, pair_of, TreeList}
use Rattle.btree_index.specs.Ways.{IsAt, OnWay}
use Rattle.btree_index.proofs.ApartLaws.{in_right}
use Rattle.btree_index.proofs.ChoiceLemmas.{IsTurn, is_turn, turn_later}
use Rattle.btree_index.proofs.KeyLaws.{atmost_atmost, before_atmost, not_same_before, not_same_behind, none_before_empty}

at_more : (ys xs : List Entry) (key : Key) (page : ℕ) → IsAt xs key page → IsAt (ys ++ xs) key page
at_more ys xs key page h = record {
  front = ys ++ h.front;
  low = h.low;
  others = h.others;
  is = ap (λ (l : List Entry). ys ++ l) h.is ∙ sym (append_assoc ys h.front (record { low = h.low; page = page } ∷ h.others));
  from = h.from;
  to = h.to;
}

-- the page that is chosen among cells
child_at : (cells : List (List ℕ)) (key low : Key) (child : ℕ) (others : List Entry) (at : ℕ) → IsTurn key cells at → (at ≡ 0 → before key low ≡ false)
    → IsUnder key others → IsAt (record { low = low; page = child } ∷ (map entry_of cells ++ others)) key (child_from child cells at)
child_at [] key low child others zero turn from to = record { front = []; low = low; others = others; is = refl; from = from refl; to = to }
child_at [] key low child others (suc at) turn from to = absurd (none turn.within)
  where
    none : suc at ≤ 0 → ⊥
    none h = omega arith
child_at (c ∷ cs) key low child others zero turn from to =
    record { front = []; low = low; others = map entry_of (c ∷ cs) ++ others; is = refl; from = from refl; to = turn.to c refl }
child_at (c ∷ cs) key low child others (suc at) turn from to =
    at_more (record { low = low; page = child } ∷ []) (map entry_of (c ∷ cs) ++ others) key (child_from (child_of c) cs at)
    (child_at cs key (key_of_cell c) (child_of c) others at (turn_later key c cs at turn) (λ z. turn.from 0 c (ap (λ (n : ℕ). suc n) (sym z)) refl) to)

choice_at : (cells : List (List ℕ)) (key low : Key) (others : List Entry) → BeginsEmpty cells → before key low ≡ false
    → IsUnder key others → IsAt (below low cells ++ others) key (choice key cells)
choice_at [] key low others some from to = absurd some
choice_at (c ∷ cs) key low others some from to = child_at cs key low (child_of c) others (turn key cs) (is_turn key cs) (λ z. from) to

under_below : (low key : Key) (cells : List (List ℕ)) (others : List Entry) → BeginsEmpty cells → before key low ≡ true
    → IsUnder key (below low cells ++ others)
under_below low key [] others some h = absurd some
under_below low key (c ∷ cs) others some h = h

under_spread : (pages : ℕ → Image) (h : ℕ) (key : Key) (level : List Entry)
    → AllByRecursion (λ e. IsInnerPage (suc h) (pages e.page)) level → IsUnder key level → IsUnder key (spread pages level)
under_spread pages h key [] shaped to = tt
under_spread pages h key (e ∷ es) shaped to = under_below e.low key (pages e.page).cells (spread pages es) shaped.0.first to

descend_from : (pages : ℕ → Image) (h : ℕ) (key : Key) (front : List Entry) (low : Key) (page : ℕ) (others : List Entry)
    → AllByRecursion (λ e. IsInnerPage (suc h) (pages e.page)) (front ++ (record { low = low; page = page } ∷ others))
    → before key low ≡ false → IsUnder key others
    → IsAt (spread pages (front ++ (record { low = low; page = page } ∷ others))) key (choice key (pages page).cells)
descend_from pages h key [] low page others shaped from to =
    choice_at (pages page).cells key low (spread pages others) shaped.0.first from (under_spread pages h key others shaped.1 to)
descend_from pages h key (f ∷ fs) low page others shaped from to =
    at_more (below f.low (pages f.page).cells) (spread pages (fs ++ (record { low = low; page = page } ∷ others))) key (choice key (pages page).cells)
    (descend_from pages h key fs low page others shaped.1 from to)

-- one level down
pub descend : (pages : ℕ → Image) (h : ℕ) (level : List Entry) (key : Key) (page : ℕ)
    → AllByRecursion (λ e. IsInnerPage (suc h) (pages e.page)) level → IsAt level key page
    → IsAt (spread pages level) key (choice key (pages page).cells)
descend pages h level key page shaped at =
    let P : List Entry → Type 0 = λ l. AllByRecursion (λ e. IsInnerPage (suc h) (pages e.page)) l in
    let Q : List Entry → Type 0 = λ l. IsAt (spread pages l) key (choice key (pages page).cells) in
    subst Q (sym at.is) (descend_from pages h key at.front at.low page at.others (subst P at.is shaped) at.from at.to)

-- cells none of which has the key
no_cell : (key : Key) (cells : List (List ℕ)) → AllByRecursion (λ c. same_key key (key_of_cell c) ≡ false) cells → cell_value key cells ≡ None
no_cell key [] h = refl
no_cell key (c ∷ cs) h = let e = h.0 in rw e (no_cell key cs h.1)

value-append : (key : Key) (xs ys : List (List ℕ)) → cell_value key ys ≡ None → cell_value key (xs ++ ys) ≡ cell_value key xs
value-append key [] ys h = h
value-append key (x ∷ xs) ys h =
    ap (λ (o : Option (List ℕ)). if same_key key (key_of_cell x) then Some (value_of_cell x) else o) (value-append key xs ys h)

value-append_none : (key : Key) (xs ys : List (List ℕ)) → cell_value key xs ≡ None → AllByRecursion (λ c. same_key key (key_of_cell c) ≡ false) xs
    → cell_value key (xs ++ ys) ≡ cell_value key ys
value-append_none key [] ys h none = refl
value-append_none key (x ∷ xs) ys h none = let e = none.0 in rw e (value-append_none key xs ys (no_cell key xs none.1) none.1)

-- cells from a least key that is above the key
pub above : (key low : Key) (cells : List (List ℕ)) → before key low ≡ true → AllByRecursion (λ c. before (key_of_cell c) low ≡ false) cells
    → AllByRecursion (λ c. same_key key (key_of_cell c) ≡ false) cells
above key low [] h from = tt
above key low (c ∷ cs) h from = (not_same_before key (key_of_cell c) (before_atmost key low (key_of_cell c) h from.0), above key low cs h from.1)

-- no leaf behind the key has it
pub none_behind : (pages : ℕ → Image) (key : Key) (level : List Entry) → AreFenced pages level → IsUnder key level
    → cell_value key (cells_of pages level) ≡ None
none_behind pages key [] fenced to = refl
none_behind pages key (e ∷ es) fenced to =
    let others = none_behind pages key es fenced.1 (further es fenced.0.next) in
    value-append key (pages e.page).cells (cells_of pages es) others
    ∙ no_cell key (pages e.page).cells (above key e.low (pages e.page).cells to fenced.0.from)
  where
    further : (es : List Entry) → IsUpTo e.low es → IsUnder key es
    further [] h = tt
    further (f ∷ fs) h = before_atmost key e.low f.low to h

-- the first of these leaves begins at most at the key
abbrev pub BeginsBelow : Key → List Entry → Type 0
BeginsBelow key [] = ⊥
BeginsBelow key (e ∷ _) = before key e.low ≡ false

pub begins_below : (pages : ℕ → Image) (key low : Key) (page : ℕ) (front others : List Entry)
    → AreFenced pages (front ++ (record { low = low; page = page } ∷ others)) → before key low ≡ false
    → BeginsBelow key (front ++ (record { low = low; page = page } ∷ others))
begins_below pages key low page [] others fenced from = from
begins_below pages key low page (f ∷ fs) others fenced from =
    step (fs ++ (record { low = low; page = page } ∷ others)) fenced.0.next (begins_below pages key low page fs others fenced.1 from)
  where
    step : (level : List Entry) → IsUpTo f.low level → BeginsBelow key level → before key f.low ≡ false
    step [] up begins = absurd begins
    step (g ∷ gs) up begins = atmost_atmost f.low g.low key up begins

-- cells under a level that begins at most at the key
pub under_all : (key : Key) (cells : List (List ℕ)) (level : List Entry) → AllByRecursion (λ c. IsUnder (key_of_cell c) level) cells
    → BeginsBelow key level → AllByRecursion (λ c. same_key key (key_of_cell c) ≡ false) cells
under_all key [] level to begins = tt
under_all key (c ∷ cs) [] to begins = absurd begins
under_all key (c ∷ cs) (e ∷ es) to begins =
    (not_same_behind key (key_of_cell c) (before_atmost (key_of_cell c) e.low key to.0 begins), under_all key cs (e ∷ es) to.1 begins)

-- the leaf that was found has the key's value, if there is one
pub here_from : (pages : ℕ → Image) (key low : Key) (page : ℕ) (front others : List Entry)
    → AreFenced pages (front ++ (record { low = low; page = page } ∷ others)) → before key low ≡ false → IsUnder key others
    → cell_value key (cells_of pages (front ++ (record { low = low; page = page } ∷ others))) ≡ cell_value key (pages page).cells
here_from pages key low page [] others fenced from to =
    value-append key (pages page).cells (cells_of pages others) (none_behind pages key others fenced.1 to)
here_from pages key low page (f ∷ fs) others fenced from to =
    let begins = begins_below pages key low page fs others fenced.1 from in
    let none = under_all key (pages f.page).cells (fs ++ (record { low = low; page = page } ∷ others)) fenced.0.to begins in
    value-append_none key (pages f.page).cells (cells_of pages (fs ++ (record { low = low; page = page } ∷ others))) (no_cell key (pages f.page).cells none) none
    ∙ here_from pages key low page fs others fenced.1 from to

pub here : (pages : ℕ → Image) (level : List Entry) (key : Key) (page : ℕ) → AreFenced pages level → IsAt level key page
    → cell_value key (cells_of pages level) ≡ cell_value key (pages page).cells
here pages level key page fenced at =
    let P : List Entry → Type 0 = λ l. AreFenced pages l in
    let Q : List Entry → Type 0 = λ l. cell_value key (cells_of pages l) ≡ cell_value key (pages page).cells in
    subst Q (sym at.is) (here_from pages key at.low page at.front at.others (subst P at.is fenced) at.from at.to)

-- the value in cells is that in their pairs
pub value-pairs : (key : Key) (cells : List (List ℕ)) → value_at key (map pair_of cells) ≡ cell_value key cells
value-pairs key [] = refl
value-pairs key (c ∷ cs) = ap (λ (o : Option (List ℕ)). if same_key key (key_of_cell c) then Some (value_of_cell c) else o) (value-pairs key cs)

all_off : (level : List Entry) → (IsIn 0 (map page_of level) → ⊥) → AllByRecursion (λ e. e.page ≡ 0 → ⊥) level
all_off [] off = tt
all_off (e ∷ es) off = (λ h. off (inl (sym h)), all_off es (λ i. off (inr i)))

-- no leaf is page 0
past_leaves : (pages : ℕ → Image) (height : ℕ) (level : List Entry) → (IsIn 0 (tree_pages pages height level) → ⊥)
    → AllByRecursion (λ e. e.page ≡ 0 → ⊥) (leaves pages height level)
past_leaves pages zero level off = all_off level off
past_leaves pages (suc h) level off =
    past_leaves pages h (spread pages level) (λ i. off (in_right 0 (map page_of level) (tree_pages pages h (spread pages level)) i))

pub way_begins : (pages : ℕ → Image) (key : Key) (root : ℕ) (list : List (Key × List ℕ)) → TreeList pages root list → OnWay pages key root list
way_begins pages key root list tree = record {
  height = tree.height;
  level = top root;
  shaped = tree.holds.shaped;
  fenced = tree.holds.fenced;
  at = record { front = []; low = []; others = []; is = refl; from = none_before_empty key; to = tt };
  linked = tree.holds.linked;
  past = past_leaves pages tree.height (top root) tree.off_meta;
  is = ap (λ (cs : List (List ℕ)). map pair_of cs) tree.holds.is ∙ tree.pairs;
}

-- no leaf stands above the leaves
pub not_leaf : (pages : ℕ → Image) (page : ℕ) (low : Key) (front others : List Entry) → (pages page).head.kind ≡ Inner
    → AllByRecursion (λ e. IsLeafPage (pages e.page)) (front ++ (record { low = low; page = page } ∷ others)) → ⊥
not_leaf pages page low [] others inner shaped = let e = sym inner ∙ shaped.0.kind in cc
not_leaf pages page low (f ∷ fs) others inner shaped = not_leaf pages page low fs others inner shaped.1

pub not_inner : (pages : ℕ → Image) (page h : ℕ) (low : Key) (front others : List Entry) → (pages page).head.kind ≡ Leaf
    → AllByRecursion (λ e. IsInnerPage (suc h) (pages e.page)) (front ++ (record { low = low; page = page } ∷ others)) → ⊥
not_inner pages page h low [] others leaf shaped = let e = sym leaf ∙ shaped.0.kind in cc
not_inner pages page h low (f ∷ fs) others leaf shaped = not_inner pages page h low fs others leaf shaped.1

-- above the leaves, the way goes on below the chosen child
pub way_on : (pages : ℕ → Image) (key : Key) (page : ℕ) (list : List (Key × List ℕ)) → OnWay pages key page list
    → (pages page).head.kind ≡ Inner → OnWay pages key (choice key (pages page).cells) list
way_on pages key page list way inner = go way.height way.level way.shaped way.fenced way.at way.linked way.past way.is
  where
    go : (height : ℕ) (level : List Entry) → IsShaped pages height level → AreFenced pages (leaves pages height level) → IsAt level key page
        → AreLinked pages (leaves pages height level) → AllByRecursion (λ e. e.page ≡ 0 → ⊥) (leaves pages height level)
        → map pair_of (cells_of pages (leaves pages height level)) ≡ list → OnWay pages key (choice key (pages page).cells) list
    go zero level shaped fenced at linked past is =
        let P : List Entry → Type 0 = λ l. AllByRecursion (λ e. IsLeafPage (pages e.page)) l in
        absurd (not_leaf pages page at.low at.front at.others inner (subst P at.is shaped))
    go (suc h) level shaped fenced at linked past is = record {
      height = h;
      level = spread pages level;
      shaped = shaped.1;
      fenced = fenced;
      at = descend pages h level key page shaped.0 at;
      linked = linked;
      past = past;
      is = is;
    }

-- where the way has come to a leaf: the row of the leaves
pub record AtLeaf (pages : ℕ → Image) (key : Key) (page : ℕ) (list : List (Key × List ℕ)) : Type 0 where
  pub level : List Entry
  pub fenced : AreFenced pages level
  pub at : IsAt level key page
  pub linked : AreLinked pages level
  pub past : AllByRecursion (λ e. e.page ≡ 0 → ⊥) level
  pub is : map pair_of (cells_of pages level) ≡ list

pub way_ends : (pages : ℕ → Image) (key : Key) (page : ℕ) (list : List (Key × List ℕ)) → OnWay pages key page list
    → (pages page).head.kind ≡ Leaf → AtLeaf pages key page list
way_ends pages key page list way leaf = go way.height way.level way.shaped way.fenced way.at way.linked way.past way.is
  where
    go : (height : ℕ) (level : List Entry) → IsShaped pages height level → AreFenced pages (leaves pages height level) → IsAt level key page
        → AreLinked pages (leaves pages height level) → AllByRecursion (λ e. e.page ≡ 0 → ⊥) (leaves pages height level)
        → map pair_of (cells_of pages (leaves pages height level)) ≡ list → AtLeaf pages key page list
    go zero level shaped fenced at linked past is = record { level = level; fenced = fenced; at = at; linked = linked; past = past; is = is }
    go (suc h) level shaped fenced at linked past is =
        let P : List Entry → Type 0 = λ l. AllByRecursion (λ e. IsInnerPage (suc h) (pages e.page)) l in
        absurd (not_inner pages page h at.low at.front at.others leaf (subst P at.is shaped.0))

-- at a leaf, its cells have the key's value
pub leaf_value : (pages : ℕ → Image) (key : Key) (page : ℕ) (list : List (Key × List ℕ)) → OnWay pages key page list
    → (pages page).head.kind ≡ Leaf → value_at key list ≡ cell_value key (pages page).cells
leaf_value pages key page list way leaf =
    let there = way_ends pages key page list way leaf in
    ap (value_at key) (sym there.is) ∙ value-pairs key (cells_of pages there.level) ∙ here pages there.level key page there.fenced there.at

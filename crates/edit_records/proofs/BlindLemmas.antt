-- Nothing but its LSN tells apart pages that are alike: not in trees, not among the free ones.
use Rattle.std.proofs.Common.{◌≡◌, ℕ, zero, suc, ◌+◌, ◌<◌, ◌≤◌, true, List, [], ◌∷◌, ◌++◌, map, length, drop, refl, sym, ap, ◌∙◌, subst, arith}
use Rattle.std.proofs.lemmas.Bool.{and_parts, ltb-true}
use Rattle.std.specs.Prelude.{nat_lt}
use Rattle.std.specs.List.{AllByRecursion, list_all}
use Rattle.byteorder.specs.Endian.{big_number}
use Rattle.page_store.specs.Image.{Image, blank_image, HasRoom}
use Rattle.page_store.specs.declared.pages.Head.{Head}
use Rattle.page_store.specs.declared.edits.Edit.{Edit}
use Rattle.page_workspace.specs.Drafts.{edited_by}
use Rattle.page_workspace.specs.Spare.{IsMeta, IsChain, IsFreePage, AreFree, AreApart, first_cell, next_genid, count_of, first_free}
use Rattle.phys_log.specs.Logs.{replayed}
use Rattle.btree_index.specs.Cells.{IsLeafCell, IsInnerCell}
use Rattle.btree_index.specs.Trees.{Entry, page_of, below, spread, leaves, cells_of, tree_pages, IsLeafPage, IsInnerPage, BeginsEmpty, IsShaped, IsFenced, AreFenced, AreLinked, Holds, top}
use Rattle.cdb_values.specs.Rows.{Rows}
use Rattle.cdb_values.specs.declared.tables.TableDef.{TableDef}
use Rattle.table_store.specs.Forests.{Pair, IsTree, AreTrees}
use Rattle.table_store.specs.Stored.{Stands}
use Rattle.edit_records.specs.Alike.{IsAlike, AreAlike}
use Rattle.edit_records.specs.Numbered.{lsns_of, numbered, IsUnedited, are_below}
use Rattle.edit_records.proofs.AlikeLemmas.{records_alike, records_others, edits_others}

leaf_alike : (a b : Image) → IsAlike a b → IsLeafPage a → IsLeafPage b
leaf_alike a b like p = record {
  kind = ap (λ (h : Head). h.kind) like.head ∙ p.kind;
  level = ap (λ (h : Head). h.level) like.head ∙ p.level;
  cells = subst (λ (c : List (List ℕ)). AllByRecursion IsLeafCell c) (sym like.cells) p.cells;
  fits = subst (λ (c : List (List ℕ)). HasRoom c) (sym like.cells) p.fits;
}

inner_alike : (height : ℕ) (a b : Image) → IsAlike a b → IsInnerPage height a → IsInnerPage height b
inner_alike height a b like p = record {
  kind = ap (λ (h : Head). h.kind) like.head ∙ p.kind;
  level = ap (λ (h : Head). h.level) like.head ∙ p.level;
  first = subst (λ (c : List (List ℕ)). BeginsEmpty c) (sym like.cells) p.first;
  cells = subst (λ (c : List (List ℕ)). AllByRecursion IsInnerCell c) (sym like.cells) p.cells;
  fits = subst (λ (c : List (List ℕ)). HasRoom c) (sym like.cells) p.fits;
}

leaves_each : (old new : ℕ → Image) (level : List Entry) → AreAlike old new
    → AllByRecursion (λ e. IsLeafPage (old e.page)) level → AllByRecursion (λ e. IsLeafPage (new e.page)) level
leaves_each old new [] like h = tt
leaves_each old new (e ∷ es) like h = (leaf_alike (old e.page) (new e.page) (like e.page) h.0, leaves_each old new es like h.1)

inner_each : (height : ℕ) (old new : ℕ → Image) (level : List Entry) → AreAlike old new
    → AllByRecursion (λ e. IsInnerPage height (old e.page)) level → AllByRecursion (λ e. IsInnerPage height (new e.page)) level
inner_each height old new [] like h = tt
inner_each height old new (e ∷ es) like h =
    (inner_alike height (old e.page) (new e.page) (like e.page) h.0, inner_each height old new es like h.1)

-- the levels of a tree, and its pages
spread_alike : (old new : ℕ → Image) (level : List Entry) → AreAlike old new → spread new level ≡ spread old level
spread_alike old new [] like = refl
spread_alike old new (e ∷ es) like =
    ap (λ (c : List (List ℕ)). below e.low c ++ spread new es) (like e.page).cells
    ∙ ap (λ (l : List Entry). below e.low (old e.page).cells ++ l) (spread_alike old new es like)

leaves_alike : (old new : ℕ → Image) (height : ℕ) (level : List Entry) → AreAlike old new → leaves new height level ≡ leaves old height level
leaves_alike old new zero level like = refl
leaves_alike old new (suc height) level like =
    ap (λ (l : List Entry). leaves new height l) (spread_alike old new level like) ∙ leaves_alike old new height (spread old level) like

pages_alike : (old new : ℕ → Image) (height : ℕ) (level : List Entry) → AreAlike old new → tree_pages new height level ≡ tree_pages old height level
pages_alike old new zero level like = refl
pages_alike old new (suc height) level like =
    ap (λ (l : List Entry). map page_of level ++ tree_pages new height l) (spread_alike old new level like)
    ∙ ap (λ (l : List ℕ). map page_of level ++ l) (pages_alike old new height (spread old level) like)

cells_alike : (old new : ℕ → Image) (level : List Entry) → AreAlike old new → cells_of new level ≡ cells_of old level
cells_alike old new [] like = refl
cells_alike old new (e ∷ es) like =
    ap (λ (c : List (List ℕ)). c ++ cells_of new es) (like e.page).cells
    ∙ ap (λ (l : List (List ℕ)). (old e.page).cells ++ l) (cells_alike old new es like)

shaped_alike : (old new : ℕ → Image) (height : ℕ) (level : List Entry) → AreAlike old new → IsShaped old height level → IsShaped new height level
shaped_alike old new zero level like h = leaves_each old new level like h
shaped_alike old new (suc height) level like h = (
  inner_each (suc height) old new level like h.0,
  subst (λ (l : List Entry). IsShaped new height l) (sym (spread_alike old new level like)) (shaped_alike old new height (spread old level) like h.1),
)

fenced_alike : (old new : ℕ → Image) (level : List Entry) → AreAlike old new → AreFenced old level → AreFenced new level
fenced_alike old new [] like h = tt
fenced_alike old new (e ∷ es) like h = (
  subst (λ (c : List (List ℕ)). IsFenced e.low c es) (sym (like e.page).cells) h.0,
  fenced_alike old new es like h.1,
)

right_alike : (a b : Image) → IsAlike a b → b.head.right ≡ a.head.right
right_alike a b like = ap (λ (h : Head). h.right) like.head

linked_alike : (old new : ℕ → Image) (level : List Entry) → AreAlike old new → AreLinked old level → AreLinked new level
linked_alike old new [] like h = tt
linked_alike old new (e ∷ []) like h = right_alike (old e.page) (new e.page) (like e.page) ∙ h
linked_alike old new (e ∷ f ∷ es) like h =
    (right_alike (old e.page) (new e.page) (like e.page) ∙ h.0, linked_alike old new (f ∷ es) like h.1)

holds_alike : (old new : ℕ → Image) (height : ℕ) (level : List Entry) (cells : List (List ℕ)) → AreAlike old new
    → Holds old height level cells → Holds new height level cells
holds_alike old new height level cells like h =
    let same : leaves old height level ≡ leaves new height level = sym (leaves_alike old new height level like) in
    record {
      shaped = shaped_alike old new height level like h.shaped;
      fenced = subst (λ (l : List Entry). AreFenced new l) same (fenced_alike old new (leaves old height level) like h.fenced);
      linked = subst (λ (l : List Entry). AreLinked new l) same (linked_alike old new (leaves old height level) like h.linked);
      apart = subst (λ (l : List ℕ). AreApart l) (sym (pages_alike old new height level like)) h.apart;
      is = ap (λ (l : List Entry). cells_of new l) (sym same) ∙ cells_alike old new (leaves old height level) like ∙ h.is;
    }

-- the trees of a forest
tree_alike : (old new : ℕ → Image) (root : ℕ) (own : List ℕ) (list : List Pair) → AreAlike old new → IsTree old root own list → IsTree new root own list
tree_alike old new root own list like t = record {
  height = t.height;
  cells = t.cells;
  holds = holds_alike old new t.height (top root) t.cells like t.holds;
  own_is = pages_alike old new t.height (top root) like ∙ t.own_is;
  pairs = t.pairs;
}

trees_alike : (old new : ℕ → Image) (root : ℕ) (owns : List (List ℕ)) (lists : List (List Pair)) → AreAlike old new
    → AreTrees old root owns lists → AreTrees new root owns lists
trees_alike old new root [] [] like t = tt
trees_alike old new root [] (l ∷ ls) like t = absurd t
trees_alike old new root (o ∷ os) [] like t = absurd t
trees_alike old new root (o ∷ os) (l ∷ ls) like t = (tree_alike old new root o l like t.0, trees_alike old new (suc root) os ls like t.1)

-- the free pages, and the meta page
chain_alike : (old new : ℕ → Image) (next : ℕ) (ids : List ℕ) → AreAlike old new → IsChain old next ids → IsChain new next ids
chain_alike old new next [] like h = h
chain_alike old new next (id ∷ ids) like h = (
  h.0,
  h.1,
  subst (λ (n : ℕ). IsChain new n ids) (sym (right_alike (old id) (new id) (like id))) (chain_alike old new (old id).head.right ids like h.2),
)

free_alike : (a b : Image) → IsAlike a b → IsFreePage a → IsFreePage b
free_alike a b like p = record {
  kind = ap (λ (h : Head). h.kind) like.head ∙ p.kind;
  level = ap (λ (h : Head). h.level) like.head ∙ p.level;
  cells = like.cells ∙ p.cells;
}

free_each : (old new : ℕ → Image) (ids : List ℕ) → AreAlike old new
    → AllByRecursion (λ id. IsFreePage (old id)) ids → AllByRecursion (λ id. IsFreePage (new id)) ids
free_each old new [] like h = tt
free_each old new (id ∷ ids) like h = (free_alike (old id) (new id) (like id) h.0, free_each old new ids like h.1)

meta_alike : (a b : Image) → IsAlike a b → IsMeta a → IsMeta b
meta_alike a b like m = record {
  kind = ap (λ (h : Head). h.kind) like.head ∙ m.kind;
  one = subst (λ (c : List (List ℕ)). c ≡ first_cell c ∷ []) (sym like.cells) m.one;
  size = subst (λ (c : List (List ℕ)). length (first_cell c) ≡ 24) (sym like.cells) m.size;
}

count_alike : (old new : ℕ → Image) → AreAlike old new → count_of new ≡ count_of old
count_alike old new like = ap (λ (c : List (List ℕ)). big_number 8 (drop 8 (first_cell c))) (like 0).cells

first_alike : (old new : ℕ → Image) → AreAlike old new → first_free new ≡ first_free old
first_alike old new like = ap (λ (c : List (List ℕ)). big_number 8 (drop 16 (first_cell c))) (like 0).cells

genid_alike : (old new : ℕ → Image) → AreAlike old new → next_genid new ≡ next_genid old
genid_alike old new like = ap (λ (c : List (List ℕ)). big_number 8 (first_cell c)) (like 0).cells

spare_alike : (old new : ℕ → Image) (free : List ℕ) → AreAlike old new → ((n : ℕ) → count_of new ≤ n → new n ≡ blank_image)
    → AreFree old free → AreFree new free
spare_alike old new free like past f = record {
  meta = meta_alike (old 0) (new 0) (like 0) f.meta;
  chain = subst (λ (n : ℕ). IsChain new n free) (sym (first_alike old new like)) (chain_alike old new (first_free old) free like f.chain);
  apart = f.apart;
  written = subst (λ (n : ℕ). AllByRecursion (λ id. id < n) free) (sym (count_alike old new like)) f.written;
  kept = free_each old new free like f.kept;
  past = past;
}

pub stands_alike : (old new : ℕ → Image) (tables : List TableDef) (rows : Rows) → AreAlike old new
    → ((n : ℕ) → count_of new ≤ n → new n ≡ blank_image) → Stands old tables rows → Stands new tables rows
stands_alike old new tables rows like past s = record {
  owns = s.owns;
  free = s.free;
  lists = s.lists;
  forest = record {
    trees = trees_alike old new 1 s.owns s.lists like s.forest.trees;
    apart = s.forest.apart;
    spare = spare_alike old new s.free like past s.forest.spare;
    off_meta = s.forest.off_meta;
    off_free = s.forest.off_free;
    below = λ n i. subst (λ (k : ℕ). n < k) (sym (count_alike old new like)) (s.forest.below n i);
  };
  listed = s.listed;
  genid = genid_alike old new like ∙ s.genid;
  state = s.state;
}

-- no edit of pages below a number is one of a page from there on
unedited : (count : ℕ) (es : List (ℕ × Edit)) (n : ℕ) → are_below count es ≡ true → count ≤ n → IsUnedited n es
unedited count [] n h past = tt
unedited count (e ∷ es) n h past =
    let both = and_parts (nat_lt e.0 count) (list_all (λ (x : ℕ × Edit). nat_lt x.0 count) es) h in
    let low : e.0 < count = ltb-true e.0 count both.0 in
    (λ same. absurd (let same_page : n ≡ e.0 = same in omega arith), unedited count es n both.1 past)

pub records_still : (p : ℕ → Image) (last : ℕ) (es : List (ℕ × Edit)) (tables : List TableDef) (rows : Rows)
    → Stands (edited_by es p) tables rows → are_below (count_of (edited_by es p)) es ≡ true
    → Stands (replayed p (numbered (lsns_of p) (last + 1) es)) tables rows
records_still p last es tables rows s within =
    let old = edited_by es p in
    let new = replayed p (numbered (lsns_of p) (last + 1) es) in
    let like : AreAlike old new = records_alike p last es in
    let past : (n : ℕ) → count_of new ≤ n → new n ≡ blank_image = λ n h.
    let high : count_of old ≤ n = subst (λ (k : ℕ). k ≤ n) (count_alike old new like) h in
    let off : IsUnedited n es = unedited (count_of old) es n within high in
    records_others p last es n off ∙ sym (edits_others p es n off) ∙ s.forest.spare.past n high in
    stands_alike old new tables rows like past s

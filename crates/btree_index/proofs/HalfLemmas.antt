-- A level in which a page was halved, and the level above it.
use Rattle.std.proofs.Common.{◌≡◌, ◌⊎◌, inl, inr, ℕ, zero, suc, ◌+◌, List, [], ◌∷◌, ◌++◌, map, length, refl, sym, ap, ◌∙◌, subst, append_assoc, arith, lit≤}
use Rattle.std.proofs.lemmas.List.Sums.{sum_by-append, sum_by-cons}
use Rattle.std.specs.List.{AllByRecursion}
use Rattle.page_store.specs.Image.{Image, HasRoom, taken, cell_size}
use Rattle.page_store.specs.declared.pages.Head.{Head}
use Rattle.page_workspace.specs.Spare.{IsIn, AreApart}
use Rattle.btree_index.specs.Keys.{Key}
use Rattle.btree_index.specs.Cells.{key_size, key_of_cell, child_of, inner_cell, IsLeafCell, IsInnerCell}
use Rattle.btree_index.specs.Trees.{Entry, page_of, below, spread, cells_of, tree_pages, IsLeafPage, IsInnerPage, BeginsEmpty, IsFenced, Holds}
use Rattle.btree_index.specs.Steps.{Halves}
use Rattle.btree_index.proofs.ApartLaws.{in_left, in_right, in_either, in_more, apart_left, apart_right, apart_cross, apart_join, apart_more}
use Rattle.btree_index.proofs.CellLemmas.{child_of-cell, inner_key_is, inner_cell_is, inner_length}
use Rattle.btree_index.proofs.LevelLemmas.{Grown, SameOn, spread-same}
use Rattle.btree_index.proofs.LeafLaws.{pages-append, cells-append, cells-same, holds_same, beside, each_at, fenced_at}
use Rattle.btree_index.proofs.SplitLemmas.{each_split, fenced_split, linked_split, fence_halves, below_halves, spread-append, all_append}

-- the numbers of a level with one entry more
pages_more : (front : List Entry) (m x : Entry) (others : List Entry)
    → map page_of (front ++ (m ∷ (x ∷ others))) ≡ (map page_of front ++ (m.page ∷ [])) ++ (x.page ∷ map page_of others)
pages_more front m x others =
    pages-append front (m ∷ (x ∷ others)) ∙ sym (append_assoc (map page_of front) (m.page ∷ []) (x.page ∷ map page_of others))

pages_once : (front : List Entry) (m : Entry) (others : List Entry)
    → map page_of (front ++ (m ∷ others)) ≡ (map page_of front ++ (m.page ∷ [])) ++ map page_of others
pages_once front m others = pages-append front (m ∷ others) ∙ sym (append_assoc (map page_of front) (m.page ∷ []) (map page_of others))

level_apart : (front : List Entry) (m x : Entry) (others : List Entry) → AreApart (map page_of (front ++ (m ∷ others)))
    → (IsIn x.page (map page_of (front ++ (m ∷ others))) → ⊥) → AreApart (map page_of (front ++ (m ∷ (x ∷ others))))
level_apart front m x others apart off =
    subst AreApart (sym (pages_more front m x others))
    (apart_more (map page_of front ++ (m.page ∷ [])) x.page (map page_of others) (subst AreApart (pages_once front m others) apart)
    (λ i. off (subst (λ (l : List ℕ). IsIn x.page l) (sym (pages_once front m others)) i)))

level_in : (n : ℕ) (front : List Entry) (m x : Entry) (others : List Entry) → IsIn n (map page_of (front ++ (m ∷ (x ∷ others))))
    → IsIn n (map page_of (front ++ (m ∷ others))) ⊎ (n ≡ x.page)
level_in n front m x others i =
    go (in_more n (map page_of front ++ (m.page ∷ [])) x.page (map page_of others) (subst (λ (l : List ℕ). IsIn n l) (pages_more front m x others) i))
  where
    go : IsIn n ((map page_of front ++ (m.page ∷ [])) ++ map page_of others) ⊎ (n ≡ x.page) → IsIn n (map page_of (front ++ (m ∷ others))) ⊎ (n ≡ x.page)
    go (inl i) = inl (subst (λ (l : List ℕ). IsIn n l) (sym (pages_once front m others)) i)
    go (inr e) = inr e

level_keeps : (n : ℕ) (front : List Entry) (m x : Entry) (others : List Entry) → IsIn n (map page_of (front ++ (m ∷ others))) ⊎ (n ≡ x.page)
    → IsIn n (map page_of (front ++ (m ∷ (x ∷ others))))
level_keeps n front m x others i = subst (λ (l : List ℕ). IsIn n l) (sym (pages_more front m x others)) (go i)
  where
    either : IsIn n (map page_of front ++ (m.page ∷ [])) ⊎ IsIn n (map page_of others)
        → IsIn n ((map page_of front ++ (m.page ∷ [])) ++ (x.page ∷ map page_of others))
    either (inl j) = in_left n (map page_of front ++ (m.page ∷ [])) (x.page ∷ map page_of others) j
    either (inr j) = in_right n (map page_of front ++ (m.page ∷ [])) (x.page ∷ map page_of others) (inr j)

    go : IsIn n (map page_of (front ++ (m ∷ others))) ⊎ (n ≡ x.page) → IsIn n ((map page_of front ++ (m.page ∷ [])) ++ (x.page ∷ map page_of others))
    go (inl j) =
        either (in_either n (map page_of front ++ (m.page ∷ [])) (map page_of others)
        (subst (λ (l : List ℕ). IsIn n l) (pages_once front m others) j))
    go (inr e) = in_right n (map page_of front ++ (m.page ∷ [])) (x.page ∷ map page_of others) (inl e)

front_in : (n : ℕ) (front : List Entry) (m : Entry) (others : List Entry) → IsIn n (map page_of front) → IsIn n (map page_of (front ++ (m ∷ others)))
front_in n front m others i = subst (λ (l : List ℕ). IsIn n l) (sym (pages-append front (m ∷ others))) (in_left n (map page_of front) (m.page ∷ map page_of others) i)

others_in : (n : ℕ) (front : List Entry) (m : Entry) (others : List Entry) → IsIn n (map page_of others) → IsIn n (map page_of (front ++ (m ∷ others)))
others_in n front m others i = subst (λ (l : List ℕ). IsIn n l) (sym (pages-append front (m ∷ others))) (in_right n (map page_of front) (m.page ∷ map page_of others) (inr i))

-- parts of cells take no more than all
room_left : (xs ys : List (List ℕ)) → HasRoom (xs ++ ys) → HasRoom xs
room_left xs ys h = let e : taken (xs ++ ys) ≡ taken xs + taken ys = sum_by-append cell_size xs ys in omega (arith, e)

room_right : (xs ys : List (List ℕ)) → HasRoom (xs ++ ys) → HasRoom ys
room_right xs ys h = let e : taken (xs ++ ys) ≡ taken xs + taken ys = sum_by-append cell_size xs ys in omega (arith, e)

-- the pages of a level beside the halved one, and off the fresh one, are as before
beside_same : (old new : ℕ → Image) (front : List Entry) (m : Entry) (others : List Entry) (fresh : ℕ) (separator : Key)
    → Halves old new m.page fresh separator → AreApart (map page_of (front ++ (m ∷ others))) → (IsIn fresh (map page_of (front ++ (m ∷ others))) → ⊥)
    → (n : ℕ) → IsIn n (map page_of front) ⊎ IsIn n (map page_of others) → new n ≡ old n
beside_same old new front m others fresh separator halves apart off n i =
    halves.others n (beside front m others apart n i) (λ e. off (subst (λ (k : ℕ). IsIn k (map page_of (front ++ (m ∷ others)))) e (up i)))
  where
    up : IsIn n (map page_of front) ⊎ IsIn n (map page_of others) → IsIn n (map page_of (front ++ (m ∷ others)))
    up (inl i) = front_in n front m others i
    up (inr i) = others_in n front m others i

-- a leaf halved
half_leaf : (old new : ℕ → Image) (front : List Entry) (m : Entry) (others : List Entry) (fresh : ℕ) (separator : Key) (cells : List (List ℕ))
    → Halves old new m.page fresh separator → (IsIn fresh (map page_of (front ++ (m ∷ others))) → ⊥) → Holds old 0 (front ++ (m ∷ others)) cells
    → Grown old new (λ n. n ≡ fresh) 0 (front ++ (m ∷ others)) (front ++ (m ∷ (record { low = separator; page = fresh } ∷ others))) cells
half_leaf old new front m others fresh separator cells halves off h =
    let x : Entry = record { low = separator; page = fresh } in
    let same = beside_same old new front m others fresh separator halves h.apart off in
    let left : SameOn old new (map page_of front) = λ n i. same n (inl i) in
    let right : SameOn old new (map page_of others) = λ n i. same n (inr i) in
    let leaf : IsLeafPage (old m.page) = each_at (λ e. IsLeafPage (old e.page)) front m others h.shaped in
    let first : halves.first ≡ halves.middle = halves.leaf leaf.kind in
    let behind : (new fresh).cells ≡ halves.middle ∷ halves.right = halves.right_cells ∙ ap (λ (c : List ℕ). c ∷ halves.right) first in
    let each = all_append IsLeafCell (halves.start ∷ halves.left) (halves.middle ∷ halves.right)
    (subst (λ (l : List (List ℕ)). AllByRecursion IsLeafCell l) halves.cells leaf.cells) in
    let room : HasRoom ((halves.start ∷ halves.left) ++ (halves.middle ∷ halves.right)) = subst HasRoom halves.cells leaf.fits in
    let fences = fence_halves m.low separator halves.start halves.left halves.middle halves.right fresh others halves.separator_is
    (subst (λ (l : List (List ℕ)). IsFenced m.low l others) halves.cells (fenced_at old front m others h.fenced)) in
    let here : IsLeafPage (new m.page) = record {
      kind = ap (λ (h : Head). h.kind) halves.left_head ∙ leaf.kind;
      level = ap (λ (h : Head). h.level) halves.left_head ∙ leaf.level;
      cells = subst (λ (l : List (List ℕ)). AllByRecursion IsLeafCell l) (sym halves.left_cells) each.0;
      fits = subst HasRoom (sym halves.left_cells) (room_left (halves.start ∷ halves.left) (halves.middle ∷ halves.right) room);
    } in
    let there : IsLeafPage (new fresh) = record {
      kind = ap (λ (h : Head). h.kind) halves.right_head ∙ leaf.kind;
      level = ap (λ (h : Head). h.level) halves.right_head ∙ leaf.level;
      cells = subst (λ (l : List (List ℕ)). AllByRecursion IsLeafCell l) (sym behind) each.1;
      fits = subst HasRoom (sym behind) (room_right (halves.start ∷ halves.left) (halves.middle ∷ halves.right) room);
    } in
    record {
      holds = record {
        shaped = each_split (λ e. IsLeafPage (old e.page)) (λ e. IsLeafPage (new e.page)) front m x others
            (λ e i p. subst (λ (i : Image). IsLeafPage i) (sym (same e.page i)) p) here there h.shaped;
        fenced = fenced_split old new front m x others left right h.fenced
            (subst (λ (l : List (List ℕ)). IsFenced m.low l (x ∷ others)) (sym halves.left_cells) fences.0)
            (subst (λ (l : List (List ℕ)). IsFenced separator l others) (sym behind) fences.1);
        linked = linked_split old new front m x others left right h.linked
            (ap (λ (h : Head). h.right) halves.left_head) (ap (λ (h : Head). h.right) halves.right_head);
        apart = level_apart front m x others h.apart off;
        is = cells-append new front (m ∷ (x ∷ others))
            ∙ ap (λ (l : List (List ℕ)). l ++ ((new m.page).cells ++ ((new fresh).cells ++ cells_of new others))) (cells-same old new front left)
            ∙ ap (λ (l : List (List ℕ)). cells_of old front ++ (l ++ ((new fresh).cells ++ cells_of new others))) halves.left_cells
            ∙ ap (λ (l : List (List ℕ)). cells_of old front ++ ((halves.start ∷ halves.left) ++ (l ++ cells_of new others))) behind
            ∙ ap (λ (l : List (List ℕ)). cells_of old front ++ ((halves.start ∷ halves.left) ++ ((halves.middle ∷ halves.right) ++ l))) (cells-same old new others right)
            ∙ ap (λ (l : List (List ℕ)). cells_of old front ++ l) (sym (append_assoc (halves.start ∷ halves.left) (halves.middle ∷ halves.right) (cells_of old others)))
            ∙ ap (λ (l : List (List ℕ)). cells_of old front ++ (l ++ cells_of old others)) (sym halves.cells)
            ∙ sym (cells-append old front (m ∷ others)) ∙ h.is;
      };
      from = λ n i. level_in n front m x others i;
      keeps = λ n i. level_keeps n front m x others (inl i);
      has = λ n e. level_keeps n front m x others (inr e);
    }

-- a page above the leaves halved: the level below stays
half_inner : (old new : ℕ → Image) (height : ℕ) (front : List Entry) (m : Entry) (others : List Entry) (fresh : ℕ) (separator : Key) (cells : List (List ℕ))
    → Halves old new m.page fresh separator
    → (IsIn fresh (tree_pages old (suc height) (front ++ (m ∷ others))) → ⊥)
    → Holds old (suc height) (front ++ (m ∷ others)) cells
    → Grown old new (λ n. n ≡ fresh) (suc height) (front ++ (m ∷ others)) (front ++ (m ∷ (record { low = separator; page = fresh } ∷ others))) cells
half_inner old new height front m others fresh separator cells halves off h =
    let x : Entry = record { low = separator; page = fresh } in
    let level = front ++ (m ∷ others) in
    let here_pages = map page_of level in
    let deeper = tree_pages old height (spread old level) in
    let apart : AreApart here_pages = apart_left here_pages deeper h.apart in
    let off_here : IsIn fresh here_pages → ⊥ = λ i. off (in_left fresh here_pages deeper i) in
    let same = beside_same old new front m others fresh separator halves apart off_here in
    let inside : IsIn m.page here_pages =
    subst (λ (l : List ℕ). IsIn m.page l) (sym (pages-append front (m ∷ others))) (in_right m.page (map page_of front) (m.page ∷ map page_of others) (inl refl)) in
    let inner : IsInnerPage (suc height) (old m.page) = each_at (λ e. IsInnerPage (suc height) (old e.page)) front m others h.shaped.0 in
    let first : halves.first ≡ inner_cell [] (child_of halves.middle) = halves.inner inner.kind in
    let child : child_of halves.first ≡ child_of halves.middle = ap child_of first ∙ child_of-cell [] (child_of halves.middle) (lit≤ tt) (halves.small inner.kind) in
    let each = all_append IsInnerCell (halves.start ∷ halves.left) (halves.middle ∷ halves.right)
    (subst (λ (l : List (List ℕ)). AllByRecursion IsInnerCell l) halves.cells inner.cells) in
    let room : HasRoom ((halves.start ∷ halves.left) ++ (halves.middle ∷ halves.right)) = subst HasRoom halves.cells inner.fits in
    let here : IsInnerPage (suc height) (new m.page) = record {
      kind = ap (λ (h : Head). h.kind) halves.left_head ∙ inner.kind;
      level = ap (λ (h : Head). h.level) halves.left_head ∙ inner.level;
      first = subst BeginsEmpty (sym halves.left_cells) (subst BeginsEmpty halves.cells inner.first);
      cells = subst (λ (l : List (List ℕ)). AllByRecursion IsInnerCell l) (sym halves.left_cells) each.0;
      fits = subst HasRoom (sym halves.left_cells) (room_left (halves.start ∷ halves.left) (halves.middle ∷ halves.right) room);
    } in
    let there : IsInnerPage (suc height) (new fresh) = record {
      kind = ap (λ (h : Head). h.kind) halves.right_head ∙ inner.kind;
      level = ap (λ (h : Head). h.level) halves.right_head ∙ inner.level;
      first = subst BeginsEmpty (sym halves.right_cells) (ap key_of_cell first ∙ inner_key_is [] (child_of halves.middle) (lit≤ tt));
      cells = subst (λ (l : List (List ℕ)). AllByRecursion IsInnerCell l) (sym halves.right_cells)
          (subst (λ (c : List ℕ). IsInnerCell c) (sym first) (inner_cell_is [] (child_of halves.middle) (lit≤ tt)), each.1.1);
      fits = subst HasRoom (sym halves.right_cells)
          (shorter first each.1.0 (room_right (halves.start ∷ halves.left) (halves.middle ∷ halves.right) room));
    } in
    let below_is : spread new (front ++ (m ∷ (x ∷ others))) ≡ spread old level =
    spread-append new front (m ∷ (x ∷ others))
    ∙ ap (λ (l : List Entry). l ++ (below m.low (new m.page).cells ++ (below separator (new fresh).cells ++ spread new others))) (spread-same old new front (λ n i. same n (inl i)))
    ∙ ap (λ (l : List (List ℕ)). spread old front ++ (below m.low l ++ (below separator (new fresh).cells ++ spread new others))) halves.left_cells
    ∙ ap (λ (l : List (List ℕ)). spread old front ++ (below m.low (halves.start ∷ halves.left) ++ (below separator l ++ spread new others))) halves.right_cells
    ∙ ap (λ (l : List Entry). spread old front ++ (below m.low (halves.start ∷ halves.left) ++ (below separator (halves.first ∷ halves.right) ++ l))) (spread-same old new others (λ n i. same n (inr i)))
    ∙ ap (λ (l : List Entry). spread old front ++ l) (sym (append_assoc (below m.low (halves.start ∷ halves.left)) (below separator (halves.first ∷ halves.right)) (spread old others)))
    ∙ ap (λ (l : List Entry). spread old front ++ (l ++ spread old others))
    (below_halves m.low separator halves.start halves.left halves.middle halves.first halves.right halves.separator_is child)
    ∙ ap (λ (l : List (List ℕ)). spread old front ++ (below m.low l ++ spread old others)) (sym halves.cells)
    ∙ sym (spread-append old front (m ∷ others)) in
    let kept : Grown old new (λ _. ⊥) height (spread old level) (spread old level) cells =
    holds_same old new height (spread old level) cells
    (λ n i. halves.others n (λ e. apart_cross n here_pages deeper h.apart (subst (λ (k : ℕ). IsIn k here_pages) (sym e) inside) i)
    (λ e. off (subst (λ (k : ℕ). IsIn k (tree_pages old (suc height) level)) e (in_right n here_pages deeper i))))
    (record { shaped = h.shaped.1; fenced = h.fenced; linked = h.linked; apart = apart_right here_pages deeper h.apart; is = h.is }) in
    let next = spread new (front ++ (m ∷ (x ∷ others))) in
    let holds : Holds new height next cells = subst (λ (l : List Entry). Holds new height l cells) (sym below_is) kept.holds in
    let from : (n : ℕ) → IsIn n (tree_pages new height next) → IsIn n deeper ⊎ ⊥ =
    subst (λ (l : List Entry). (n : ℕ) → IsIn n (tree_pages new height l) → IsIn n deeper ⊎ ⊥) (sym below_is) kept.from in
    let keeps : (n : ℕ) → IsIn n deeper → IsIn n (tree_pages new height next) =
    subst (λ (l : List Entry). (n : ℕ) → IsIn n deeper → IsIn n (tree_pages new height l)) (sym below_is) kept.keeps in
    record {
      holds = record {
        shaped = (
          each_split (λ e. IsInnerPage (suc height) (old e.page)) (λ e. IsInnerPage (suc height) (new e.page)) front m x others
              (λ e i p. subst (λ (i : Image). IsInnerPage (suc height) i) (sym (same e.page i)) p) here there h.shaped.0,
          holds.shaped,
        );
        fenced = holds.fenced;
        linked = holds.linked;
        apart = apart_join (map page_of (front ++ (m ∷ (x ∷ others)))) (tree_pages new height next) (level_apart front m x others apart off_here) holds.apart
            (λ n i j. clash n (level_in n front m x others i) (from n j));
        is = holds.is;
      };
      from = λ n i. up n from (in_either n (map page_of (front ++ (m ∷ (x ∷ others)))) (tree_pages new height next) i);
      keeps = λ n i. stay n keeps (in_either n here_pages deeper i);
      has = λ n e. in_left n (map page_of (front ++ (m ∷ (x ∷ others)))) (tree_pages new height next) (level_keeps n front m x others (inr e));
    }
  where
    shorter : halves.first ≡ inner_cell [] (child_of halves.middle) → IsInnerCell halves.middle → HasRoom (halves.middle ∷ halves.right) → HasRoom (halves.first ∷ halves.right)
    shorter first whole room =
        let short : length halves.first ≡ 10 = ap length first ∙ inner_length [] (child_of halves.middle) in
        let long : length halves.middle ≡ 2 + key_size halves.middle + 8 = whole.whole in
        let a : taken (halves.first ∷ halves.right) ≡ (4 + length halves.first) + taken halves.right = sum_by-cons cell_size halves.first halves.right in
        let b : taken (halves.middle ∷ halves.right) ≡ (4 + length halves.middle) + taken halves.right = sum_by-cons cell_size halves.middle halves.right in
        omega arith

    clash : (n : ℕ) → IsIn n (map page_of (front ++ (m ∷ others))) ⊎ (n ≡ fresh) → IsIn n (tree_pages old height (spread old (front ++ (m ∷ others)))) ⊎ ⊥ → ⊥
    clash n (inl i) (inl j) = apart_cross n (map page_of (front ++ (m ∷ others))) (tree_pages old height (spread old (front ++ (m ∷ others)))) h.apart i j
    clash n (inr e) (inl j) =
        off (subst (λ (k : ℕ). IsIn k (tree_pages old (suc height) (front ++ (m ∷ others)))) e
        (in_right n (map page_of (front ++ (m ∷ others))) (tree_pages old height (spread old (front ++ (m ∷ others)))) j))
    clash n i (inr f) = f

    up : (n : ℕ)
        → ((n : ℕ) → IsIn n (tree_pages new height (spread new (front ++ (m ∷ (record { low = separator; page = fresh } ∷ others)))))
        → IsIn n (tree_pages old height (spread old (front ++ (m ∷ others)))) ⊎ ⊥)
        → IsIn n (map page_of (front ++ (m ∷ (record { low = separator; page = fresh } ∷ others))))
        ⊎ IsIn n (tree_pages new height (spread new (front ++ (m ∷ (record { low = separator; page = fresh } ∷ others)))))
        → IsIn n (tree_pages old (suc height) (front ++ (m ∷ others))) ⊎ (n ≡ fresh)
    up n from (inl i) = here (level_in n front m (record { low = separator; page = fresh }) others i)
      where
        here : IsIn n (map page_of (front ++ (m ∷ others))) ⊎ (n ≡ fresh) → IsIn n (tree_pages old (suc height) (front ++ (m ∷ others))) ⊎ (n ≡ fresh)
        here (inl i) = inl (in_left n (map page_of (front ++ (m ∷ others))) (tree_pages old height (spread old (front ++ (m ∷ others)))) i)
        here (inr e) = inr e
    up n from (inr i) = there (from n i)
      where
        there : IsIn n (tree_pages old height (spread old (front ++ (m ∷ others)))) ⊎ ⊥ → IsIn n (tree_pages old (suc height) (front ++ (m ∷ others))) ⊎ (n ≡ fresh)
        there (inl j) = inl (in_right n (map page_of (front ++ (m ∷ others))) (tree_pages old height (spread old (front ++ (m ∷ others)))) j)
        there (inr f) = absurd f

    stay : (n : ℕ)
        → ((n : ℕ) → IsIn n (tree_pages old height (spread old (front ++ (m ∷ others))))
        → IsIn n (tree_pages new height (spread new (front ++ (m ∷ (record { low = separator; page = fresh } ∷ others))))))
        → IsIn n (map page_of (front ++ (m ∷ others))) ⊎ IsIn n (tree_pages old height (spread old (front ++ (m ∷ others))))
        → IsIn n (tree_pages new (suc height) (front ++ (m ∷ (record { low = separator; page = fresh } ∷ others))))
    stay n keeps (inl i) =
        in_left n (map page_of (front ++ (m ∷ (record { low = separator; page = fresh } ∷ others))))
        (tree_pages new height (spread new (front ++ (m ∷ (record { low = separator; page = fresh } ∷ others)))))
        (level_keeps n front m (record { low = separator; page = fresh }) others (inl i))
    stay n keeps (inr i) =
        in_right n (map page_of (front ++ (m ∷ (record { low = separator; page = fresh } ∷ others))))
        (tree_pages new height (spread new (front ++ (m ∷ (record { low = separator; page = fresh } ∷ others))))) (keeps n i)

-- a page halved, at any height
pub half_level : (old new : ℕ → Image) (height : ℕ) (front : List Entry) (m : Entry) (others : List Entry) (fresh : ℕ) (separator : Key) (cells : List (List ℕ))
    → Halves old new m.page fresh separator → (IsIn fresh (tree_pages old height (front ++ (m ∷ others))) → ⊥) → Holds old height (front ++ (m ∷ others)) cells
    → Grown old new (λ n. n ≡ fresh) height (front ++ (m ∷ others)) (front ++ (m ∷ (record { low = separator; page = fresh } ∷ others))) cells
half_level old new zero front m others fresh separator cells halves off h = half_leaf old new front m others fresh separator cells halves off h
half_level old new (suc height) front m others fresh separator cells halves off h = half_inner old new height front m others fresh separator cells halves off h

-- A page above the leaves that loses one of its children, seen from its level and from those above.
use Rattle.std.proofs.Common.{◌≡◌, ◌⊎◌, inl, inr, ℕ, zero, suc, ◌<◌, ◌≤◌, ◌^◌, Bool, true, false, List, [], ◌∷◌, ◌++◌, map, take, drop, length, Option, None, Some, refl, sym, ap, ◌∙◌, subst, append_assoc, append-nil, arith, lit≤}
use Rattle.std.proofs.lemmas.Option.{none-some, same_Some, slice_get_within}
use Rattle.std.specs.List.{AllByRecursion, slice_get, remove}
use Rattle.page_store.specs.Image.{Image}
use Rattle.page_store.specs.declared.pages.Head.{Head}
use Rattle.page_store.specs.declared.pages.PageKind.TheVariants.{Leaf, Inner}
use Rattle.page_workspace.specs.Spare.{IsIn, AreApart, first_cell}
use Rattle.btree_index.specs.Keys.{Key}
use Rattle.btree_index.specs.Cells.{key_of_cell, child_of, IsInnerCell}
use Rattle.btree_index.specs.Trees.{Entry, page_of, entry_of, below, spread, leaves, tree_pages, IsLeafPage, IsInnerPage, BeginsEmpty, Holds}
use Rattle.btree_index.proofs.ApartLaws.{in_left, in_right, in_either, apart_left, apart_right, apart_cross}
use Rattle.btree_index.proofs.CellLemmas.{child_of-cell, inner_key_is, inner_cell_is}
use Rattle.btree_index.proofs.LevelLemmas.{SameOn, spread-same, each_same}
use Rattle.btree_index.proofs.LeafLaws.{pages-append, beside, each_with, each_at}
use Rattle.btree_index.proofs.PairLemmas.{all_remove}
use Rattle.btree_index.proofs.ParentLemmas.{cut_at, level_inside}
use Rattle.btree_index.proofs.SplitLemmas.{spread-append, entries-append}
use Rattle.btree_index.proofs.WayLemmas.{not_leaf, not_inner}
use Rattle.btree_index.specs.Prunes.{last_page, relow, without_child, IsLone, lone_pages, lone_leaf, Shrunk, Unlinks, IsFork, IsFound, IsBeside, hung_found}
use Rattle.btree_index.specs.Steps.{IsBelow}
use Rattle.btree_index.specs.declared.finds.Below.{Below}
use Rattle.btree_index.specs.declared.prunes.Found.{Found}
use Rattle.btree_index.specs.declared.prunes.Fork.{Fork}
use Rattle.btree_index.specs.declared.prunes.LoneLeaf.{LoneLeaf}
use Rattle.btree_index.specs.declared.prunes.Found.TheVariants.{Full, Lone, Forked}
use Rattle.btree_index.proofs.LoneLemmas.{last_in, lone_out, shrunk_up}

relow_same : (low : Key) (level : List Entry) → relow false low level ≡ level
relow_same low [] = refl
relow_same low (e ∷ es) = refl

remove_cut : (cells : List (List ℕ)) (at : ℕ) (cell : List ℕ) → slice_get cells at ≡ Some cell
    → map entry_of (remove cells at) ≡ map entry_of (take at cells) ++ map entry_of (drop (suc at) cells)
remove_cut [] at cell here = absurd (none-some cell here)
remove_cut (c ∷ cs) zero cell here = refl
remove_cut (c ∷ cs) (suc at) cell here = ap (λ (l : List Entry). entry_of c ∷ l) (remove_cut cs at cell here)

-- the entries below a page that loses a cell
record Cut (low : Key) (cells : List (List ℕ)) (at : ℕ) (cell : List ℕ) : Type 0 where
  first : Bool
  least : Key
  behind : List Entry
  once : below low cells ≡ below low (take at cells) ++ (record { low = least; page = child_of cell } ∷ behind)
  now : (at ≡ 0 → (next : List ℕ) → slice_get cells 1 ≡ Some next → child_of next < 2 ^ 64) → (more : List Entry)
      → below low (without_child at cells) ++ more ≡ below low (take at cells) ++ relow first least (behind ++ more)
  begins : BeginsEmpty cells → BeginsEmpty (without_child at cells)
  inner : AllByRecursion IsInnerCell cells → AllByRecursion IsInnerCell (without_child at cells)

cut_child : (low : Key) (cells : List (List ℕ)) (at : ℕ) (cell : List ℕ) → slice_get cells at ≡ Some cell → 1 < length cells → Cut low cells at cell
cut_child low [] at cell here several = absurd (none-some cell here)
cut_child low (c ∷ []) zero cell here several = absurd (none several)
  where
    none : 1 < 1 → ⊥
    none h = omega arith
cut_child low (c ∷ d ∷ ds) zero cell here several = record {
  first = true;
  least = low;
  behind = map entry_of (d ∷ ds);
  once = ap (λ (x : List ℕ). record { low = low; page = child_of x } ∷ map entry_of (d ∷ ds)) (same_Some c cell here);
  now = λ small more. ap (λ (n : ℕ). record { low = low; page = n } ∷ (map entry_of ds ++ more)) (child_of-cell [] (child_of d) (lit≤ tt) (small refl d refl));
  begins = λ h. inner_key_is [] (child_of d) (lit≤ tt);
  inner = λ h. (inner_cell_is [] (child_of d) (lit≤ tt), h.1.1);
}
cut_child low (c ∷ cs) (suc at) cell here several =
    let e : Entry = record { low = low; page = child_of c } in
    let front = map entry_of (take at cs) in
    let behind = map entry_of (drop (suc at) cs) in
    record {
      first = false;
      least = key_of_cell cell;
      behind = behind;
      once = ap (λ (l : List Entry). e ∷ l) (ap (λ (l : List (List ℕ)). map entry_of l) (cut_at cs at cell here) ∙ entries-append (take at cs) (cell ∷ drop (suc at) cs));
      now = λ small more. ap (λ (l : List Entry). e ∷ (l ++ more)) (remove_cut cs at cell here)
          ∙ ap (λ (l : List Entry). e ∷ l) (append_assoc front behind more)
          ∙ ap (λ (l : List Entry). (e ∷ front) ++ l) (sym (relow_same (key_of_cell cell) (behind ++ more)));
      begins = λ h. h;
      inner = λ h. (h.0, all_remove IsInnerCell cs at h.1);
    }

-- the entries below a page, at one of its cells
record Once (low : Key) (cells : List (List ℕ)) (at : ℕ) (cell : List ℕ) : Type 0 where
  least : Key
  behind : List Entry
  once : below low cells ≡ below low (take at cells) ++ (record { low = least; page = child_of cell } ∷ behind)

once_at : (low : Key) (cells : List (List ℕ)) (at : ℕ) (cell : List ℕ) → slice_get cells at ≡ Some cell → Once low cells at cell
once_at low [] at cell here = absurd (none-some cell here)
once_at low (c ∷ cs) zero cell here = record {
  least = low;
  behind = map entry_of cs;
  once = ap (λ (x : List ℕ). record { low = low; page = child_of x } ∷ map entry_of cs) (same_Some c cell here);
}
once_at low (c ∷ cs) (suc at) cell here = record {
  least = key_of_cell cell;
  behind = map entry_of (drop (suc at) cs);
  once = ap (λ (l : List Entry). record { low = low; page = child_of c } ∷ l)
      (ap (λ (l : List (List ℕ)). map entry_of l) (cut_at cs at cell here) ∙ entries-append (take at cs) (cell ∷ drop (suc at) cs));
}

-- the level below, cut at a child
spread_cut : (pages : ℕ → Image) (front : List Entry) (low : Key) (page : ℕ) (others : List Entry) (at : ℕ) (cell : List ℕ)
    → (c : Once low (pages page).cells at cell)
    → spread pages (front ++ (record { low = low; page = page } ∷ others))
    ≡ (spread pages front ++ below low (take at (pages page).cells)) ++ (record { low = c.least; page = child_of cell } ∷ (c.behind ++ spread pages others))
spread_cut pages front low page others at cell c =
    let q : Entry = record { low = low; page = page } in
    let e : Entry = record { low = c.least; page = child_of cell } in
    let mine = below low (take at (pages page).cells) in
    spread-append pages front (q ∷ others)
    ∙ ap (λ (l : List Entry). spread pages front ++ (l ++ spread pages others)) c.once
    ∙ ap (λ (l : List Entry). spread pages front ++ l) (append_assoc mine (e ∷ c.behind) (spread pages others))
    ∙ sym (append_assoc (spread pages front) mine (e ∷ (c.behind ++ spread pages others)))

-- the pages from a lone one on are pages of its level and below
pub lone_in : (pages : ℕ → Image) (height : ℕ) (front : List Entry) (e : Entry) (others : List Entry) (n : ℕ) → IsLone pages height e.page
    → IsIn n (lone_pages pages height e.page) → IsIn n (tree_pages pages height (front ++ (e ∷ others)))
lone_in pages zero front e others n lone (inl k) =
    subst (λ (j : ℕ). IsIn j (tree_pages pages zero (front ++ (e ∷ others)))) (sym k) (level_inside pages 0 front e others)
lone_in pages zero front e others n lone (inr k) = absurd k
lone_in pages (suc height) front e others n lone (inl k) =
    subst (λ (j : ℕ). IsIn j (tree_pages pages (suc height) (front ++ (e ∷ others)))) (sym k) (level_inside pages (suc height) front e others)
lone_in pages (suc height) front e others n lone (inr i) =
    let e' : Entry = record { low = e.low; page = child_of (first_cell (pages e.page).cells) } in
    let s : spread pages (front ++ (e ∷ others)) ≡ spread pages front ++ (e' ∷ spread pages others) =
    spread-append pages front (e ∷ others) ∙ ap (λ (l : List (List ℕ)). spread pages front ++ (below e.low l ++ spread pages others)) lone.1 in
    in_right n (map page_of (front ++ (e ∷ others))) (tree_pages pages height (spread pages (front ++ (e ∷ others))))
    (subst (λ (l : List Entry). IsIn n (tree_pages pages height l)) (sym s) (lone_in pages height (spread pages front) e' (spread pages others) n lone.2 i))

lone_apart : (pages : ℕ → Image) (height : ℕ) (front : List Entry) (e : Entry) (others : List Entry) → IsLone pages height e.page
    → AreApart (tree_pages pages height (front ++ (e ∷ others))) → AreApart (lone_pages pages height e.page)
lone_apart pages zero front e others lone apart = (λ i. i, tt)
lone_apart pages (suc height) front e others lone apart =
    let e' : Entry = record { low = e.low; page = child_of (first_cell (pages e.page).cells) } in
    let level = front ++ (e ∷ others) in
    let s : spread pages level ≡ spread pages front ++ (e' ∷ spread pages others) =
    spread-append pages front (e ∷ others) ∙ ap (λ (l : List (List ℕ)). spread pages front ++ (below e.low l ++ spread pages others)) lone.1 in
    let deep = tree_pages pages height (spread pages level) in (
      λ i. apart_cross e.page (map page_of level) deep apart (level_inside pages 0 front e others)
          (subst (λ (l : List Entry). IsIn e.page (tree_pages pages height l)) (sym s) (lone_in pages height (spread pages front) e' (spread pages others) e.page lone.2 i)),
      lone_apart pages height (spread pages front) e' (spread pages others) lone.2
          (subst (λ (l : List Entry). AreApart (tree_pages pages height l)) s (apart_right (map page_of level) deep apart)),
    )

-- the page that loses a child
fork_cut : (pages : ℕ → Image) (height : ℕ) (front : List Entry) (low : Key) (others : List Entry) (fork : Fork) (cell : List ℕ) (cells : List (List ℕ))
    → Holds pages (suc height) (front ++ (record { low = low; page = fork.page } ∷ others)) cells
    → (c : Cut low (pages fork.page).cells fork.at cell) → IsLone pages height (child_of cell)
    → last_page (leaves pages height (spread pages front ++ below low (take fork.at (pages fork.page).cells))) ≡ fork.left
    → fork.right ≡ (pages (lone_leaf pages height (child_of cell))).head.right
    → (new : ℕ → Image) → Unlinks pages new fork
    → Shrunk pages new (suc height) (front ++ (record { low = low; page = fork.page } ∷ others)) (front ++ (record { low = low; page = fork.page } ∷ others))
    (lone_pages pages height (child_of cell)) fork.left cells
fork_cut old height front low others fork cell cells h c lone last is new u =
    let q : Entry = record { low = low; page = fork.page } in
    let level = front ++ (q ∷ others) in
    let here = map page_of level in
    let deep = tree_pages old height (spread old level) in
    let mine = below low (take fork.at (old fork.page).cells) in
    let a = spread old front ++ mine in
    let e : Entry = record { low = c.least; page = child_of cell } in
    let b = c.behind ++ spread old others in
    let ids = lone_pages old height (child_of cell) in
    let apart : AreApart here = apart_left here deep h.apart in
    let s1 : spread old level ≡ a ++ (e ∷ b) = spread_cut old front low fork.page others fork.at cell (record { least = c.least; behind = c.behind; once = c.once }) in
    let down : Holds old height (spread old level) cells =
    record { shaped = h.shaped.1; fenced = h.fenced; linked = h.linked; apart = apart_right here deep h.apart; is = h.is } in
    let page_here : IsIn fork.page here = level_inside old 0 front q others in
    let m : Shrunk old new height (a ++ (e ∷ b)) (a ++ relow c.first c.least b) ids fork.left cells =
    lone_out old new height c.first a e b fork.left fork.right cells (subst (λ (l : List Entry). Holds old height l cells) s1 down) lone last is
    (record {
      others = λ n i k. u.others n
          (λ j. apart_cross fork.page here deep h.apart page_here
          (subst (λ (n : ℕ). IsIn n deep) j (subst (λ (l : List Entry). IsIn n (tree_pages old height l)) (sym s1) i))) k;
      cells = u.left_cells;
      head = u.left_head;
    }) in
    let off_left : (n : ℕ) → IsIn n here → fork.left ≡ Some n → ⊥ =
    λ n i k. apart_cross n here deep h.apart i (subst (λ (l : List Entry). IsIn n (tree_pages old height l)) (sym s1) (m.from n (m.beside n k))) in
    let in_left_here : (n : ℕ) → IsIn n (map page_of front) → IsIn n here =
    λ n i. subst (λ (l : List ℕ). IsIn n l) (sym (pages-append front (q ∷ others))) (in_left n (map page_of front) (fork.page ∷ map page_of others) i) in
    let in_right_here : (n : ℕ) → IsIn n (map page_of others) → IsIn n here =
    λ n i. subst (λ (l : List ℕ). IsIn n l) (sym (pages-append front (q ∷ others))) (in_right n (map page_of front) (fork.page ∷ map page_of others) (inr i)) in
    let left : SameOn old new (map page_of front) = λ n i. u.others n (beside front q others apart n (inl i)) (off_left n (in_left_here n i)) in
    let right : SameOn old new (map page_of others) = λ n i. u.others n (beside front q others apart n (inr i)) (off_left n (in_right_here n i)) in
    let s2 : spread new level ≡ a ++ relow c.first c.least b =
    spread-append new front (q ∷ others)
    ∙ ap (λ (l : List Entry). l ++ (below low (new fork.page).cells ++ spread new others)) (spread-same old new front left)
    ∙ ap (λ (l : List (List ℕ)). spread old front ++ (below low l ++ spread new others)) u.cells
    ∙ ap (λ (l : List Entry). spread old front ++ (below low (without_child fork.at (old fork.page).cells) ++ l)) (spread-same old new others right)
    ∙ ap (λ (l : List Entry). spread old front ++ l) (c.now u.small (spread old others))
    ∙ sym (append_assoc (spread old front) mine (relow c.first c.least b)) in
    let inner : IsInnerPage (suc height) (old fork.page) = each_at (λ x. IsInnerPage (suc height) (old x.page)) front q others h.shaped.0 in
    let now : IsInnerPage (suc height) (new fork.page) = record {
      kind = ap (λ (h : Head). h.kind) u.head ∙ inner.kind;
      level = ap (λ (h : Head). h.level) u.head ∙ inner.level;
      first = subst BeginsEmpty (sym u.cells) (c.begins inner.first);
      cells = subst (λ (l : List (List ℕ)). AllByRecursion IsInnerCell l) (sym u.cells) (c.inner inner.cells);
      fits = u.room;
    } in
    shrunk_up old new height level level [] ids fork.left cells
    (each_with old new (λ i. IsInnerPage (suc height) i) front q others left right h.shaped.0 now) apart (λ n i. i) (λ n i g. g) (λ n i. inl i) (λ n g. absurd g) h.apart
    (subst (λ (l : List Entry). Shrunk old new height (spread old level) l ids fork.left cells) (sym s2)
    (subst (λ (l : List Entry). Shrunk old new height l (a ++ relow c.first c.least b) ids fork.left cells) (sym s1) m))

-- the leaves below a level are among its pages, and so are the pages below a front of it
leaves_inside : (pages : ℕ → Image) (height : ℕ) (level : List Entry) (n : ℕ) → IsIn n (map page_of (leaves pages height level))
    → IsIn n (tree_pages pages height level)
leaves_inside pages zero level n i = i
leaves_inside pages (suc height) level n i =
    in_right n (map page_of level) (tree_pages pages height (spread pages level)) (leaves_inside pages height (spread pages level) n i)

front_inside : (pages : ℕ → Image) (height : ℕ) (xs ys : List Entry) (n : ℕ) → IsIn n (tree_pages pages height xs) → IsIn n (tree_pages pages height (xs ++ ys))
front_inside pages zero xs ys n i = subst (λ (l : List ℕ). IsIn n l) (sym (pages-append xs ys)) (in_left n (map page_of xs) (map page_of ys) i)
front_inside pages (suc height) xs ys n i =
    go (in_either n (map page_of xs) (tree_pages pages height (spread pages xs)) i) (front_inside pages height (spread pages xs) (spread pages ys) n)
  where
    go : IsIn n (map page_of xs) ⊎ IsIn n (tree_pages pages height (spread pages xs))
        → (IsIn n (tree_pages pages height (spread pages xs)) → IsIn n (tree_pages pages height (spread pages xs ++ spread pages ys)))
        → IsIn n (map page_of (xs ++ ys) ++ tree_pages pages height (spread pages (xs ++ ys)))
    go (inl j) deeper =
        in_left n (map page_of (xs ++ ys)) (tree_pages pages height (spread pages (xs ++ ys)))
        (subst (λ (l : List ℕ). IsIn n l) (sym (pages-append xs ys)) (in_left n (map page_of xs) (map page_of ys) j))
    go (inr j) deeper =
        in_right n (map page_of (xs ++ ys)) (tree_pages pages height (spread pages (xs ++ ys)))
        (subst (λ (l : List Entry). IsIn n (tree_pages pages height l)) (sym (spread-append pages xs ys)) (deeper j))

pub fork_here : (pages : ℕ → Image) (height : ℕ) (front : List Entry) (low : Key) (others : List Entry) (fork : Fork) (cell : List ℕ) (cells : List (List ℕ))
    → Holds pages (suc height) (front ++ (record { low = low; page = fork.page } ∷ others)) cells
    → slice_get (pages fork.page).cells fork.at ≡ Some cell → 1 < length (pages fork.page).cells → fork.child ≡ child_of cell
    → IsLone pages height fork.child
    → last_page (leaves pages height (spread pages front ++ below low (take fork.at (pages fork.page).cells))) ≡ fork.left
    → fork.right ≡ (pages (lone_leaf pages height fork.child)).head.right
    → IsFork pages (suc height) (front ++ (record { low = low; page = fork.page } ∷ others)) cells fork
fork_here pages height front low others fork cell cells h here several child lone last is =
    let q : Entry = record { low = low; page = fork.page } in
    let level = front ++ (q ∷ others) in
    let c : Cut low (pages fork.page).cells fork.at cell = cut_child low (pages fork.page).cells fork.at cell here several in
    let deep = tree_pages pages height (spread pages level) in
    let s1 = spread_cut pages front low fork.page others fork.at cell (record { least = c.least; behind = c.behind; once = c.once }) in
    let a = spread pages front ++ below low (take fork.at (pages fork.page).cells) in
    let lone' : IsLone pages height (child_of cell) = subst (λ (k : ℕ). IsLone pages height k) child lone in
    let in_deep : (n : ℕ) → IsIn n (lone_pages pages height (child_of cell)) → IsIn n deep =
    λ n i. subst (λ (l : List Entry). IsIn n (tree_pages pages height l)) (sym s1)
    (lone_in pages height (spread pages front ++ below low (take fork.at (pages fork.page).cells)) (record { low = c.least; page = child_of cell })
    (c.behind ++ spread pages others) n lone' i) in
    record {
      depth = height;
      lone = lone;
      apart = subst (λ (k : ℕ). AreApart (lone_pages pages height k)) (sym child)
          (lone_apart pages height (spread pages front ++ below low (take fork.at (pages fork.page).cells)) (record { low = c.least; page = child_of cell })
          (c.behind ++ spread pages others) lone'
          (subst (λ (l : List Entry). AreApart (tree_pages pages height l)) s1 (apart_right (map page_of level) deep h.apart)));
      inside = level_inside pages (suc height) front q others;
      off = λ i. apart_cross fork.page (map page_of level) deep h.apart (level_inside pages 0 front q others)
          (in_deep fork.page (subst (λ (k : ℕ). IsIn fork.page (lone_pages pages height k)) child i));
      able = record {
        loses = record {
          height = suc height;
          inner = each_at (λ x. IsInnerPage (suc height) (pages x.page)) front q others h.shaped.0;
          there = slice_get_within (pages fork.page).cells fork.at cell here;
          several = several;
        };
        off = λ k. apart_cross fork.page (map page_of level) deep h.apart (level_inside pages 0 front q others)
            (subst (λ (l : List Entry). IsIn fork.page (tree_pages pages height l)) (sym s1)
            (front_inside pages height a (record { low = c.least; page = child_of cell } ∷ (c.behind ++ spread pages others)) fork.page
            (leaves_inside pages height a fork.page (last_in (leaves pages height a) fork.page (last ∙ k)))));
      };
      out = λ new u. subst (λ (k : ℕ). Shrunk pages new (suc height) level level (lone_pages pages height k) fork.left cells) (sym child)
          (fork_cut pages height front low others fork cell cells h c lone' last
          (is ∙ ap (λ (k : ℕ). (pages (lone_leaf pages height k)).head.right) child) new u);
    }

-- one level up
pub fork_up : (pages : ℕ → Image) (height : ℕ) (level : List Entry) (cells : List (List ℕ)) (fork : Fork) → Holds pages (suc height) level cells
    → IsFork pages height (spread pages level) cells fork → IsFork pages (suc height) level cells fork
fork_up old height level cells fork h f =
    let here = map page_of level in
    let deep = tree_pages old height (spread old level) in
    let ids = lone_pages old f.depth fork.child in
    record {
      depth = f.depth;
      lone = f.lone;
      apart = f.apart;
      inside = in_right fork.page here deep f.inside;
      off = f.off;
      able = f.able;
      out = λ new u.
          (let s : Shrunk old new height (spread old level) (spread old level) ids fork.left cells = f.out new u in
          let same : SameOn old new here = λ n i. u.others n
          (λ k. apart_cross n here deep h.apart i (subst (λ (j : ℕ). IsIn j deep) (sym k) f.inside))
          (λ k. apart_cross n here deep h.apart i (s.from n (s.beside n k))) in
          shrunk_up old new height level level [] ids fork.left cells (each_same old new (λ i. IsInnerPage (suc height) i) level same h.shaped.0)
          (apart_left here deep h.apart) (λ n i. i) (λ n i g. g) (λ n i. inl i) (λ n g. absurd g) h.apart
          (subst (λ (l : List Entry). Shrunk old new height (spread old level) l ids fork.left cells) (sym (spread-same old new level same)) s));
    }

-- the last page of joined levels, and of the level below
last_append : (xs : List Entry) (e : Entry) (es : List Entry) → last_page (xs ++ (e ∷ es)) ≡ last_page (e ∷ es)
last_append [] e es = refl
last_append (x ∷ []) e es = refl
last_append (x ∷ y ∷ xs) e es = last_append (y ∷ xs) e es

last_map : (c : List ℕ) (cells : List (List ℕ)) (low : Key) (at : ℕ) (cell : List ℕ) → slice_get (c ∷ cells) at ≡ Some cell
    → last_page (record { low = low; page = child_of c } ∷ map entry_of (take at cells)) ≡ Some (child_of cell)
last_map c cells low zero cell here = ap (λ (x : List ℕ). Some (child_of x)) (same_Some c cell here)
last_map c [] low (suc at) cell here = absurd (none-some cell here)
last_map c (d ∷ ds) low (suc at) cell here = last_map d ds (key_of_cell d) at cell here

last_below : (xs : List Entry) (low : Key) (cells : List (List ℕ)) (at : ℕ) (cell : List ℕ) → slice_get cells at ≡ Some cell
    → last_page (xs ++ below low (take (suc at) cells)) ≡ Some (child_of cell)
last_below xs low [] at cell here = absurd (none-some cell here)
last_below xs low (c ∷ cs) at cell here =
    last_append xs (record { low = low; page = child_of c }) (map entry_of (take at cs)) ∙ last_map c cs low at cell here

take_none : (cells : List (List ℕ)) → take 0 cells ≡ []
take_none [] = refl
take_none (c ∷ cs) = refl

take_whole : (cells : List (List ℕ)) → take (length cells) cells ≡ cells
take_whole [] = refl
take_whole (c ∷ cs) = ap (λ (l : List (List ℕ)). c ∷ l) (take_whole cs)

-- the last page of a level that is not empty stands behind the others
record LastOf (level : List Entry) (page : ℕ) : Type 0 where
  front : List Entry
  low : Key
  is : level ≡ front ++ (record { low = low; page = page } ∷ [])

last_of : (level : List Entry) (page : ℕ) → last_page level ≡ Some page → LastOf level page
last_of [] page h = absurd (none-some page h)
last_of (a ∷ []) page h = record { front = []; low = a.low; is = ap (λ (n : ℕ). record { low = a.low; page = n } ∷ []) (same_Some a.page page h) }
last_of (a ∷ b ∷ level) page h =
    let more = last_of (b ∷ level) page h in
    record { front = a ∷ more.front; low = more.low; is = ap (λ (l : List Entry). a ∷ l) more.is }

last_none : (level : List Entry) → last_page level ≡ None → level ≡ []
last_none [] h = refl
last_none (a ∷ []) h = absurd (none-some a.page (sym h))
last_none (a ∷ b ∷ level) h = absurd (more (b ∷ level) (last_none (b ∷ level) h))
  where
    more : (l : List Entry) → b ∷ level ≡ [] → ⊥
    more l e = cc

-- the page before a child is the last one before it on its level
pub beside_last : (pages : ℕ → Image) (page at : ℕ) (low : Key) (front : List Entry) (left found : Option ℕ) → last_page front ≡ left
    → IsBeside pages page at left found → last_page (spread pages front ++ below low (take at (pages page).cells)) ≡ found
beside_last pages page zero low front None found last h =
    ap (λ (l : List (List ℕ)). last_page (spread pages front ++ below low l)) (take_none (pages page).cells)
    ∙ ap (λ (l : List Entry). last_page (spread pages l ++ [])) (last_none front last) ∙ sym h
beside_last pages page zero low front (Some left) found last (child, is, end_is) =
    let end : LastOf front left = last_of front left last in
    let cells = (pages left).cells in
    ap (λ (l : List (List ℕ)). last_page (spread pages front ++ below low l)) (take_none (pages page).cells)
    ∙ ap (λ (l : List Entry). last_page l) (append-nil (spread pages front))
    ∙ ap (λ (l : List Entry). last_page (spread pages l)) end.is
    ∙ ap (λ (l : List Entry). last_page l) (spread-append pages end.front (record { low = end.low; page = left } ∷ []))
    ∙ ap (λ (l : List Entry). last_page (spread pages end.front ++ l)) (append-nil (below end.low cells))
    ∙ ap (λ (l : List (List ℕ)). last_page (spread pages end.front ++ below end.low l)) (sym (take_whole cells))
    ∙ ap (λ (n : ℕ). last_page (spread pages end.front ++ below end.low (take n cells))) (sym end_is.all)
    ∙ last_below (spread pages end.front) end.low cells end_is.last end_is.there.cell end_is.there.here ∙ ap (λ (n : ℕ). Some n) (sym end_is.there.is) ∙ sym is
beside_last pages page (suc at) low front left found last (child, is, there) =
    last_below (spread pages front) low (pages page).cells at there.cell there.here ∙ ap (λ (n : ℕ). Some n) (sym there.is) ∙ sym is

-- what the way came to at a leaf without cells
pub found_leaf : (pages : ℕ → Image) (height : ℕ) (front : List Entry) (low : Key) (page : ℕ) (others : List Entry) (cells : List (List ℕ)) (left : Option ℕ)
    → Holds pages height (front ++ (record { low = low; page = page } ∷ others)) cells → last_page front ≡ left → (pages page).head.kind ≡ Leaf
    → (pages page).cells ≡ [] → IsFound pages height front low page others cells (Lone (record { left = left; right = (pages page).head.right }))
found_leaf pages zero front low page others cells left h last kind none = ((kind, none), last, refl)
found_leaf pages (suc height) front low page others cells left h last kind none = absurd (not_inner pages page height low front others kind h.shaped.0)

-- a page of a level is of its kind, and so is the one before it
pub level_kind : (pages : ℕ → Image) (height : ℕ) (front : List Entry) (low : Key) (page : ℕ) (others : List Entry) (cells : List (List ℕ))
    → Holds pages height (front ++ (record { low = low; page = page } ∷ others)) cells → ((pages page).head.kind ≡ Leaf) ⊎ ((pages page).head.kind ≡ Inner)
level_kind pages zero front low page others cells h =
    inl (each_at (λ x. IsLeafPage (pages x.page)) front (record { low = low; page = page }) others h.shaped).kind
level_kind pages (suc height) front low page others cells h =
    inr (each_at (λ x. IsInnerPage (suc height) (pages x.page)) front (record { low = low; page = page }) others h.shaped.0).kind

pub level_inner : (pages : ℕ → Image) (height : ℕ) (front : List Entry) (low : Key) (page : ℕ) (others : List Entry) (cells : List (List ℕ))
    → Holds pages height (front ++ (record { low = low; page = page } ∷ others)) cells → (pages page).head.kind ≡ Inner → IsInnerPage height (pages page)
level_inner pages zero front low page others cells h kind = absurd (not_leaf pages page low front others kind h.shaped)
level_inner pages (suc height) front low page others cells h kind =
    each_at (λ x. IsInnerPage (suc height) (pages x.page)) front (record { low = low; page = page }) others h.shaped.0

pub level_before : (pages : ℕ → Image) (height : ℕ) (front : List Entry) (low : Key) (page : ℕ) (others : List Entry) (cells : List (List ℕ)) (left : ℕ)
    → Holds pages height (front ++ (record { low = low; page = page } ∷ others)) cells → (pages page).head.kind ≡ Inner → last_page front ≡ Some left
    → IsInnerPage height (pages left)
level_before pages zero front low page others cells left h kind last = absurd (not_leaf pages page low front others kind h.shaped)
level_before pages (suc height) front low page others cells left h kind last =
    let q : Entry = record { low = low; page = page } in
    let end : LastOf front left = last_of front left last in
    let e : Entry = record { low = end.low; page = left } in
    let P : List Entry → Type 0 = λ l. AllByRecursion (λ x. IsInnerPage (suc height) (pages x.page)) l in
    each_at (λ x. IsInnerPage (suc height) (pages x.page)) end.front e (q ∷ others)
    (subst P (append_assoc end.front (e ∷ []) (q ∷ others)) (subst (λ (l : List Entry). P (l ++ (q ∷ others))) end.is h.shaped.0))

-- what it came to at a page above the leaves, by what it came to at a child
pub record UnderChild (pages : ℕ → Image) (height : ℕ) (front : List Entry) (low : Key) (page : ℕ) (others : List Entry) (cells : List (List ℕ)) (at child : ℕ)
    (beside : Option ℕ) : Type 0 where
  pub under : ℕ
  pub tall : height ≡ suc under
  pub before : List Entry
  pub least : Key
  pub behind : List Entry
  pub holds : Holds pages under (before ++ (record { low = least; page = child } ∷ behind)) cells
  pub last : last_page before ≡ beside
  pub forked : (fork : Fork) → IsFound pages under before least child behind cells (Forked fork) → IsFound pages height front low page others cells (Forked fork)
  pub single : (lone : LoneLeaf) → IsFound pages under before least child behind cells (Lone lone) → length (pages page).cells ≡ 1
      → IsFound pages height front low page others cells (Lone lone)
  pub several : (lone : LoneLeaf) → IsFound pages under before least child behind cells (Lone lone) → 1 < length (pages page).cells
      → IsFound pages height front low page others cells (Forked (record { page = page; at = at; child = child; left = lone.left; right = lone.right }))

one_cell : (cells : List (List ℕ)) (at : ℕ) (cell : List ℕ) → slice_get cells at ≡ Some cell → length cells ≡ 1
    → (cells ≡ first_cell cells ∷ []) × (at ≡ 0) × (cell ≡ first_cell cells)
one_cell [] at cell here one = absurd (none-some cell here)
one_cell (c ∷ []) zero cell here one = (refl, refl, sym (same_Some c cell here))
one_cell (c ∷ []) (suc at) cell here one = absurd (none-some cell here)
one_cell (c ∷ d ∷ ds) at cell here one = absurd (more (length ds) one)
  where
    more : (n : ℕ) → suc (suc n) ≡ 1 → ⊥
    more n e = omega arith

pub found_below : (pages : ℕ → Image) (height : ℕ) (front : List Entry) (low : Key) (page : ℕ) (others : List Entry) (cells : List (List ℕ)) (at child : ℕ)
    (left next : Option ℕ) (cell : List ℕ) → Holds pages height (front ++ (record { low = low; page = page } ∷ others)) cells → last_page front ≡ left
    → (pages page).head.kind ≡ Inner → slice_get (pages page).cells at ≡ Some cell → child ≡ child_of cell → IsBeside pages page at left next
    → UnderChild pages height front low page others cells at child next
found_below pages zero front low page others cells at child left next cell h last kind here is by = absurd (not_leaf pages page low front others kind h.shaped)
found_below pages (suc height) front low page others cells at child left next cell h last kind here is by =
    let q : Entry = record { low = low; page = page } in
    let level = front ++ (q ∷ others) in
    let c : Once low (pages page).cells at cell = once_at low (pages page).cells at cell here in
    let before = spread pages front ++ below low (take at (pages page).cells) in
    let behind = c.behind ++ spread pages others in
    let s : spread pages level ≡ before ++ (record { low = c.least; page = child } ∷ behind) =
    spread_cut pages front low page others at cell c ∙ ap (λ (n : ℕ). before ++ (record { low = c.least; page = n } ∷ behind)) (sym is) in
    let inner : IsInnerPage (suc height) (pages page) = each_at (λ x. IsInnerPage (suc height) (pages x.page)) front q others h.shaped.0 in
    let down : Holds pages height (spread pages level) cells = record {
      shaped = h.shaped.1;
      fenced = h.fenced;
      linked = h.linked;
      apart = apart_right (map page_of level) (tree_pages pages height (spread pages level)) h.apart;
      is = h.is;
    } in
    record {
      under = height;
      tall = refl;
      before = before;
      least = c.least;
      behind = behind;
      holds = subst (λ (l : List Entry). Holds pages height l cells) s down;
      last = beside_last pages page at low front left next last by;
      forked = λ fork f. fork_up pages height level cells fork h (subst (λ (l : List Entry). IsFork pages height l cells fork) (sym s) f);
      single = λ lone f one.
          (let o = one_cell (pages page).cells at cell here one in
          let first : child ≡ child_of (first_cell (pages page).cells) = is ∙ ap child_of o.2 in (
            (kind, o.0, subst (λ (n : ℕ). IsLone pages height n) first f.0, (subst (λ (l : List (List ℕ)). AllByRecursion IsInnerCell l) o.0 inner.cells).0),
            ap (λ (l : List Entry). last_page (leaves pages height l))
                (sym (append-nil (spread pages front))
                ∙ ap (λ (l : List (List ℕ)). spread pages front ++ below low l) (sym (take_none (pages page).cells))
                ∙ ap (λ (n : ℕ). spread pages front ++ below low (take n (pages page).cells)) (sym o.1))
                ∙ f.1,
            f.2 ∙ ap (λ (n : ℕ). (pages (lone_leaf pages height n)).head.right) first,
          ));
      several = λ lone f more.
          fork_here pages height front low others (record { page = page; at = at; child = child; left = lone.left; right = lone.right }) cell cells h here more is f.0 f.1 f.2;
    }

-- what the way came to at a leaf
pub found_at_leaf : (pages : ℕ → Image) (height : ℕ) (front : List Entry) (low : Key) (page : ℕ) (others : List Entry) (cells : List (List ℕ)) (left : Option ℕ)
    (found : Found) → Holds pages height (front ++ (record { low = low; page = page } ∷ others)) cells → last_page front ≡ left → (pages page).head.kind ≡ Leaf
    → ((pages page).cells ≡ [] → found ≡ Lone (record { left = left; right = (pages page).head.right })) → (((pages page).cells ≡ [] → ⊥) → found ≡ Full)
    → IsFound pages height front low page others cells found
found_at_leaf pages height front low page others cells left found h last kind none some = go (pages page).cells refl
  where
    go : (l : List (List ℕ)) → (pages page).cells ≡ l → IsFound pages height front low page others cells found
    go [] e =
        subst (λ (f : Found). IsFound pages height front low page others cells f) (sym (none e))
        (found_leaf pages height front low page others cells left h last kind e)
    go (c ∷ cs) e = subst (λ (f : Found). IsFound pages height front low page others cells f) (sym (some (λ k. more (sym e ∙ k)))) tt
      where
        more : c ∷ cs ≡ [] → ⊥
        more k = cc

-- what it came to at a page above the leaves, by what it came to at the child on the way
pub found_hung : (pages : ℕ → Image) (height : ℕ) (front : List Entry) (low : Key) (page : ℕ) (others : List Entry) (cells : List (List ℕ)) (left next : Option ℕ)
    (child : Below) (found : Found) (several : Bool) → Holds pages height (front ++ (record { low = low; page = page } ∷ others)) cells → last_page front ≡ left
    → (pages page).head.kind ≡ Inner → IsBelow (pages page) child → IsBeside pages page child.at left next
    → (several ≡ true → 1 < length (pages page).cells) → (several ≡ false → length (pages page).cells ≤ 1)
    → ((height : ℕ) (front others : List Entry) (low : Key) (cells : List (List ℕ)) → Holds pages height (front ++ (record { low = low; page = child.child } ∷ others)) cells
    → last_page front ≡ next → IsFound pages height front low child.child others cells found)
    → IsFound pages height front low page others cells (hung_found found page child several)
found_hung pages height front low page others cells left next child found several h last kind at by more less rec =
    let u : UnderChild pages height front low page others cells child.at child.child next =
    found_below pages height front low page others cells child.at child.child left next at.cell h last kind at.here at.child by in
    let within : child.at < length (pages page).cells = slice_get_within (pages page).cells child.at at.cell at.here in
    go u within found several more less (rec u.under u.before u.behind u.least cells u.holds u.last)
  where
    go : (u : UnderChild pages height front low page others cells child.at child.child next) → child.at < length (pages page).cells → (found : Found)
        (several : Bool) → (several ≡ true → 1 < length (pages page).cells) → (several ≡ false → length (pages page).cells ≤ 1)
        → IsFound pages u.under u.before u.least child.child u.behind cells found
        → IsFound pages height front low page others cells (hung_found found page child several)
    go u within Full several more less f = tt
    go u within (Forked fork) several more less f = u.forked fork f
    go u within (Lone lone) true more less f = u.several lone f (more refl)
    go u within (Lone lone) false more less f =
        let few : length (pages page).cells ≤ 1 = less refl in
        u.single lone f (omega arith)

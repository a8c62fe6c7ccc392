-- The page above a halved one, with a cell more.
use Rattle.std.proofs.Common.{◌≡◌, ◌⊎◌, inl, inr, ℕ, zero, suc, List, [], ◌∷◌, ◌++◌, map, take, drop, Some, refl, sym, ap, ◌∙◌, subst, append_assoc}
use Rattle.std.proofs.lemmas.Option.{none-some, same_Some}
use Rattle.std.specs.List.{AllByRecursion, insert, slice_get}
use Rattle.page_store.specs.Image.{Image, HasRoom}
use Rattle.page_store.specs.declared.pages.Head.{Head}
use Rattle.page_workspace.specs.Spare.{IsIn, AreApart}
use Rattle.btree_index.specs.Keys.{Key}
use Rattle.btree_index.specs.Cells.{key_of_cell, child_of, IsInnerCell}
use Rattle.btree_index.specs.Trees.{Entry, page_of, entry_of, below, spread, tree_pages, IsInnerPage, BeginsEmpty, Holds}
use Rattle.btree_index.proofs.ApartLaws.{in_left, in_right, in_either, apart_left, apart_cross, apart_join}
use Rattle.btree_index.proofs.LevelLemmas.{Grown, SameOn, spread-same}
use Rattle.btree_index.proofs.LeafLaws.{pages-append, beside, each_with, each_at}
use Rattle.btree_index.proofs.SplitLemmas.{spread-append, entries-append}
use Rattle.btree_index.proofs.PairLemmas.{all_insert}

-- a list cut at a place
pub cut_at : (cells : List (List ℕ)) (at : ℕ) (cell : List ℕ) → slice_get cells at ≡ Some cell → cells ≡ take at cells ++ (cell ∷ drop (suc at) cells)
cut_at [] at cell h = absurd (none-some cell h)
cut_at (c ∷ cs) zero cell h = ap (λ (x : List ℕ). x ∷ cs) (same_Some c cell h)
cut_at (c ∷ cs) (suc at) cell h = ap (λ (l : List (List ℕ)). c ∷ l) (cut_at cs at cell h)

pub put_at : (cells : List (List ℕ)) (at : ℕ) (cell more : List ℕ) → slice_get cells at ≡ Some cell
    → insert cells (suc at) more ≡ take at cells ++ (cell ∷ (more ∷ drop (suc at) cells))
put_at [] at cell more h = absurd (none-some cell h)
put_at (c ∷ cs) zero cell more h = ap (λ (x : List ℕ). x ∷ (more ∷ cs)) (same_Some c cell h)
put_at (c ∷ cs) (suc at) cell more h = ap (λ (l : List (List ℕ)). c ∷ l) (put_at cs at cell more h)

-- the entries below a page, at one of its cells
pub record BelowAt (low : Key) (front : List (List ℕ)) (cell : List ℕ) : Type 0 where
  pub before : List Entry
  pub least : Key
  pub once : (behind : List (List ℕ)) → below low (front ++ (cell ∷ behind)) ≡ before ++ (record { low = least; page = child_of cell } ∷ map entry_of behind)
  pub begins : (some more : List (List ℕ)) → BeginsEmpty (front ++ (cell ∷ some)) → BeginsEmpty (front ++ (cell ∷ more))

pub below_at : (low : Key) (front : List (List ℕ)) (cell : List ℕ) → BelowAt low front cell
below_at low [] cell = record { before = []; least = low; once = λ behind. refl; begins = λ some more h. h }
below_at low (c ∷ cs) cell = record {
  before = record { low = low; page = child_of c } ∷ map entry_of cs;
  least = key_of_cell cell;
  once = λ behind. ap (λ (l : List Entry). record { low = low; page = child_of c } ∷ l) (entries-append cs (cell ∷ behind));
  begins = λ some more h. h;
}

-- a page of a level is among the pages from there down
pub level_inside : (pages : ℕ → Image) (height : ℕ) (front : List Entry) (e : Entry) (others : List Entry) → IsIn e.page (tree_pages pages height (front ++ (e ∷ others)))
level_inside pages zero front e others =
    subst (λ (l : List ℕ). IsIn e.page l) (sym (pages-append front (e ∷ others))) (in_right e.page (map page_of front) (e.page ∷ map page_of others) (inl refl))
level_inside pages (suc height) front e others =
    in_left e.page (map page_of (front ++ (e ∷ others))) (tree_pages pages height (spread pages (front ++ (e ∷ others))))
    (subst (λ (l : List ℕ). IsIn e.page l) (sym (pages-append front (e ∷ others))) (in_right e.page (map page_of front) (e.page ∷ map page_of others) (inl refl)))

pub child_inside : (pages : ℕ → Image) (height : ℕ) (front : List Entry) (e : Entry) (others : List Entry) (at : ℕ) (cell : List ℕ)
    → slice_get (pages e.page).cells at ≡ Some cell → IsIn (child_of cell) (tree_pages pages height (spread pages (front ++ (e ∷ others))))
child_inside pages height front e others at cell here =
    let a = take at (pages e.page).cells in
    let b = drop (suc at) (pages e.page).cells in
    let point : BelowAt e.low a cell = below_at e.low a cell in
    let m : Entry = record { low = point.least; page = child_of cell } in
    let is : spread pages (front ++ (e ∷ others)) ≡ (spread pages front ++ point.before) ++ (m ∷ (map entry_of b ++ spread pages others)) =
    spread-append pages front (e ∷ others)
    ∙ ap (λ (l : List (List ℕ)). spread pages front ++ (below e.low l ++ spread pages others)) (cut_at (pages e.page).cells at cell here)
    ∙ ap (λ (l : List Entry). spread pages front ++ (l ++ spread pages others)) (point.once b)
    ∙ ap (λ (l : List Entry). spread pages front ++ l) (append_assoc point.before (m ∷ map entry_of b) (spread pages others))
    ∙ sym (append_assoc (spread pages front) point.before (m ∷ (map entry_of b ++ spread pages others))) in
    subst (λ (l : List Entry). IsIn (child_of cell) (tree_pages pages height l)) (sym is)
    (level_inside pages height (spread pages front ++ point.before) m (map entry_of b ++ spread pages others))

-- one level up from a halved page
pub half_parent : (old new : ℕ → Image) (height : ℕ) (front : List Entry) (e : Entry) (others : List Entry) (at : ℕ) (cell : List ℕ) (fresh : ℕ)
    (separator : Key) (cells : List (List ℕ)) (more : List ℕ) → Holds old (suc height) (front ++ (e ∷ others)) cells → slice_get (old e.page).cells at ≡ Some cell
    → key_of_cell more ≡ separator → child_of more ≡ fresh → IsInnerCell more → HasRoom (new e.page).cells
    → (new e.page).head ≡ (old e.page).head → (new e.page).cells ≡ insert (old e.page).cells (suc at) more
    → (IsIn fresh (tree_pages old (suc height) (front ++ (e ∷ others))) → ⊥)
    → ((n : ℕ) → (n ≡ e.page → ⊥) → (n ≡ child_of cell → ⊥) → (n ≡ fresh → ⊥) → new n ≡ old n)
    → ((before : List Entry) (m : Entry) (behind : List Entry) → m.page ≡ child_of cell → spread old (front ++ (e ∷ others)) ≡ before ++ (m ∷ behind)
    → Grown old new (λ n. n ≡ fresh) height (spread old (front ++ (e ∷ others))) (before ++ (m ∷ (record { low = separator; page = fresh } ∷ behind))) cells)
    → Grown old new (λ n. n ≡ fresh) (suc height) (front ++ (e ∷ others)) (front ++ (e ∷ others)) cells
half_parent old new height front e others at cell fresh separator cells more h here key child inner_more room head put off same below_grown =
    let level = front ++ (e ∷ others) in
    let here_pages = map page_of level in
    let deeper = tree_pages old height (spread old level) in
    let apart : AreApart here_pages = apart_left here_pages deeper h.apart in
    let x : Entry = record { low = separator; page = fresh } in
    let a = take at (old e.page).cells in
    let b = drop (suc at) (old e.page).cells in
    let was : (old e.page).cells ≡ a ++ (cell ∷ b) = cut_at (old e.page).cells at cell here in
    let now : (new e.page).cells ≡ a ++ (cell ∷ (more ∷ b)) = put ∙ put_at (old e.page).cells at cell more here in
    let point : BelowAt e.low a cell = below_at e.low a cell in
    let m : Entry = record { low = point.least; page = child_of cell } in
    let before = spread old front ++ point.before in
    let behind = map entry_of b ++ spread old others in
    let old_is : spread old level ≡ before ++ (m ∷ behind) =
    spread-append old front (e ∷ others)
    ∙ ap (λ (l : List (List ℕ)). spread old front ++ (below e.low l ++ spread old others)) was
    ∙ ap (λ (l : List Entry). spread old front ++ (l ++ spread old others)) (point.once b)
    ∙ ap (λ (l : List Entry). spread old front ++ l) (append_assoc point.before (m ∷ map entry_of b) (spread old others))
    ∙ sym (append_assoc (spread old front) point.before (m ∷ behind)) in
    let child_in : IsIn (child_of cell) deeper = deep height (spread old level) before m behind old_is in
    let off_here : (n : ℕ) → IsIn n (map page_of front) ⊎ IsIn n (map page_of others) → new n ≡ old n =
    λ n i. same n (beside front e others apart n i)
    (λ k. apart_cross n here_pages deeper h.apart (up n i) (subst (λ (j : ℕ). IsIn j deeper) (sym k) child_in))
    (λ k. off (subst (λ (j : ℕ). IsIn j (tree_pages old (suc height) level)) k (in_left n here_pages deeper (up n i)))) in
    let left : SameOn old new (map page_of front) = λ n i. off_here n (inl i) in
    let right : SameOn old new (map page_of others) = λ n i. off_here n (inr i) in
    let more_entry : entry_of more ≡ x =
    ap (λ (k : Key). record { low = k; page = child_of more }) key ∙ ap (λ (n : ℕ). record { low = separator; page = n }) child in
    let new_is : spread new level ≡ before ++ (m ∷ (x ∷ behind)) =
    spread-append new front (e ∷ others)
    ∙ ap (λ (l : List Entry). l ++ (below e.low (new e.page).cells ++ spread new others)) (spread-same old new front left)
    ∙ ap (λ (l : List (List ℕ)). spread old front ++ (below e.low l ++ spread new others)) now
    ∙ ap (λ (l : List Entry). spread old front ++ (l ++ spread new others)) (point.once (more ∷ b))
    ∙ ap (λ (y : Entry). spread old front ++ ((point.before ++ (m ∷ (y ∷ map entry_of b))) ++ spread new others)) more_entry
    ∙ ap (λ (l : List Entry). spread old front ++ ((point.before ++ (m ∷ (x ∷ map entry_of b))) ++ l)) (spread-same old new others right)
    ∙ ap (λ (l : List Entry). spread old front ++ l) (append_assoc point.before (m ∷ (x ∷ map entry_of b)) (spread old others))
    ∙ sym (append_assoc (spread old front) point.before (m ∷ (x ∷ behind))) in
    let grown = below_grown before m behind refl old_is in
    let inner : IsInnerPage (suc height) (old e.page) = each_at (λ e. IsInnerPage (suc height) (old e.page)) front e others h.shaped.0 in
    let there : IsInnerPage (suc height) (new e.page) = record {
      kind = ap (λ (h : Head). h.kind) head ∙ inner.kind;
      level = ap (λ (h : Head). h.level) head ∙ inner.level;
      first = subst BeginsEmpty (sym now) (point.begins b (more ∷ b) (subst BeginsEmpty was inner.first));
      cells = subst (λ (l : List (List ℕ)). AllByRecursion IsInnerCell l) (sym put) (all_insert IsInnerCell (old e.page).cells (suc at) more inner.cells inner_more);
      fits = room;
    } in
    let next = spread new level in
    let holds : Holds new height next cells = subst (λ (l : List Entry). Holds new height l cells) (sym new_is) grown.holds in
    let from : (n : ℕ) → IsIn n (tree_pages new height next) → IsIn n deeper ⊎ (n ≡ fresh) =
    subst (λ (l : List Entry). (n : ℕ) → IsIn n (tree_pages new height l) → IsIn n deeper ⊎ (n ≡ fresh)) (sym new_is) grown.from in
    let keeps : (n : ℕ) → IsIn n deeper → IsIn n (tree_pages new height next) =
    subst (λ (l : List Entry). (n : ℕ) → IsIn n deeper → IsIn n (tree_pages new height l)) (sym new_is) grown.keeps in
    let has : (n : ℕ) → n ≡ fresh → IsIn n (tree_pages new height next) =
    subst (λ (l : List Entry). (n : ℕ) → n ≡ fresh → IsIn n (tree_pages new height l)) (sym new_is) grown.has in
    record {
      holds = record {
        shaped = (each_with old new (λ i. IsInnerPage (suc height) i) front e others left right h.shaped.0 there, holds.shaped);
        fenced = holds.fenced;
        linked = holds.linked;
        apart = apart_join here_pages (tree_pages new height next) apart holds.apart (λ n i j. clash n i (from n j));
        is = holds.is;
      };
      from = λ n i. rise n from (in_either n here_pages (tree_pages new height next) i);
      keeps = λ n i. stay n keeps (in_either n here_pages deeper i);
      has = λ n k. in_right n here_pages (tree_pages new height next) (has n k);
    }
  where
    deep : (height : ℕ) (level before : List Entry) (m : Entry) (behind : List Entry) → level ≡ before ++ (m ∷ behind) → IsIn m.page (tree_pages old height level)
    deep zero level before m behind is =
        subst (λ (l : List Entry). IsIn m.page (map page_of l)) (sym is)
        (subst (λ (l : List ℕ). IsIn m.page l) (sym (pages-append before (m ∷ behind))) (in_right m.page (map page_of before) (m.page ∷ map page_of behind) (inl refl)))
    deep (suc height) level before m behind is =
        in_left m.page (map page_of level) (tree_pages old height (spread old level))
        (subst (λ (l : List Entry). IsIn m.page (map page_of l)) (sym is)
        (subst (λ (l : List ℕ). IsIn m.page l) (sym (pages-append before (m ∷ behind))) (in_right m.page (map page_of before) (m.page ∷ map page_of behind) (inl refl))))

    up : (n : ℕ) → IsIn n (map page_of front) ⊎ IsIn n (map page_of others) → IsIn n (map page_of (front ++ (e ∷ others)))
    up n (inl i) = subst (λ (l : List ℕ). IsIn n l) (sym (pages-append front (e ∷ others))) (in_left n (map page_of front) (e.page ∷ map page_of others) i)
    up n (inr i) = subst (λ (l : List ℕ). IsIn n l) (sym (pages-append front (e ∷ others))) (in_right n (map page_of front) (e.page ∷ map page_of others) (inr i))

    clash : (n : ℕ) → IsIn n (map page_of (front ++ (e ∷ others))) → IsIn n (tree_pages old height (spread old (front ++ (e ∷ others)))) ⊎ (n ≡ fresh) → ⊥
    clash n i (inl j) = apart_cross n (map page_of (front ++ (e ∷ others))) (tree_pages old height (spread old (front ++ (e ∷ others)))) h.apart i j
    clash n i (inr k) =
        off (subst (λ (j : ℕ). IsIn j (tree_pages old (suc height) (front ++ (e ∷ others)))) k
        (in_left n (map page_of (front ++ (e ∷ others))) (tree_pages old height (spread old (front ++ (e ∷ others)))) i))

    rise : (n : ℕ) → ((n : ℕ) → IsIn n (tree_pages new height (spread new (front ++ (e ∷ others)))) → IsIn n (tree_pages old height (spread old (front ++ (e ∷ others)))) ⊎ (n ≡ fresh))
        → IsIn n (map page_of (front ++ (e ∷ others))) ⊎ IsIn n (tree_pages new height (spread new (front ++ (e ∷ others))))
        → IsIn n (tree_pages old (suc height) (front ++ (e ∷ others))) ⊎ (n ≡ fresh)
    rise n from (inl i) = inl (in_left n (map page_of (front ++ (e ∷ others))) (tree_pages old height (spread old (front ++ (e ∷ others)))) i)
    rise n from (inr i) = deeper (from n i)
      where
        deeper : IsIn n (tree_pages old height (spread old (front ++ (e ∷ others)))) ⊎ (n ≡ fresh) → IsIn n (tree_pages old (suc height) (front ++ (e ∷ others))) ⊎ (n ≡ fresh)
        deeper (inl j) = inl (in_right n (map page_of (front ++ (e ∷ others))) (tree_pages old height (spread old (front ++ (e ∷ others)))) j)
        deeper (inr k) = inr k

    stay : (n : ℕ) → ((n : ℕ) → IsIn n (tree_pages old height (spread old (front ++ (e ∷ others)))) → IsIn n (tree_pages new height (spread new (front ++ (e ∷ others)))))
        → IsIn n (map page_of (front ++ (e ∷ others))) ⊎ IsIn n (tree_pages old height (spread old (front ++ (e ∷ others))))
        → IsIn n (tree_pages new (suc height) (front ++ (e ∷ others)))
    stay n keeps (inl i) = in_left n (map page_of (front ++ (e ∷ others))) (tree_pages new height (spread new (front ++ (e ∷ others)))) i
    stay n keeps (inr i) = in_right n (map page_of (front ++ (e ∷ others))) (tree_pages new height (spread new (front ++ (e ∷ others)))) (keeps n i)

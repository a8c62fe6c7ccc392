-- The steps of an insert, put together from edits of single pages.
use Rattle.std.proofs.Common.{◌≡◌, ◌≢◌, ℕ, zero, suc, ◌+◌, ◌<◌, ◌≤◌, ◌^◌, min, List, [], ◌∷◌, ◌++◌, take, drop, length, Some, refl, sym, ap, ◌∙◌, subst, append_assoc, add-one, arith}
use Rattle.std.proofs.lemmas.Option.{none-some}
use Rattle.std.proofs.lemmas.List.{append-nil}
use Rattle.std.proofs.Math.ListN.{drop_of_length-le}
use Rattle.std.specs.List.{insert, remove, slice_get}
use Rattle.page_store.specs.Image.{Image}
use Rattle.page_store.specs.declared.pages.Head.{Head}
use Rattle.page_store.specs.declared.pages.PageKind.TheVariants.{Inner}
use Rattle.page_workspace.specs.Takes.{TakesPage}
use Rattle.btree_index.specs.Keys.{Key, before}
use Rattle.btree_index.specs.Cells.{inner_cell}
use Rattle.btree_index.specs.Pairs.{place_in}
use Rattle.btree_index.specs.Steps.{Alters, CopiesCell, TakesAt, Filling, Trimming, IsHalf, Halves, Crowns}
use Rattle.btree_index.specs.declared.halves.Half.{Half}
use Rattle.btree_index.proofs.FindLemmas.{drop_here}
use Rattle.btree_index.proofs.ParentLemmas.{cut_at}

pub place_end : (key : Key) (cells : List (List ℕ)) (i : ℕ) → length cells ≤ i → place_in key cells ≡ i + place_in key (drop i cells) → i ≡ place_in key cells
place_end key cells i all so_far =
    let none : place_in key (drop i cells) ≡ 0 = ap (place_in key) (drop_of_length-le cells all) in omega arith

insert_last : (cells : List (List ℕ)) (cell : List ℕ) → insert cells (length cells) cell ≡ cells ++ (cell ∷ [])
insert_last [] cell = refl
insert_last (c ∷ cs) cell = ap (λ (l : List (List ℕ)). c ∷ l) (insert_last cs cell)

pub alters_after : (a b c : ℕ → Image) (page : ℕ) (h k : Head) (xs ys : List (List ℕ)) → Alters a b page h xs → Alters b c page k ys → Alters a c page k ys
alters_after a b c page h k xs ys one two = record {
  head_is = two.head_is;
  is = two.is;
  others = λ n off. two.others n off ∙ one.others n off;
}

pub filling_begins : (old new : ℕ → Image) (page to start : ℕ) → new ≡ old → Filling old new page to start start
filling_begins old new page to start same =
    subst (λ (f : ℕ → Image). Filling old f page to start start) (sym same)
    (record { alters = record { head_is = refl; is = refl; others = λ n off. refl }; rest = refl })

pub filling_more : (old now next : ℕ → Image) (page to start at : ℕ) → page ≢ to → Filling old now page to start at → CopiesCell now next page at to
    → Filling old next page to start (at + 1)
filling_more old now next page to start at off so_far copied =
    let here : slice_get (old page).cells at ≡ Some copied.cell =
    ap (λ (i : Image). slice_get i.cells at) (sym (so_far.alters.others page off)) ∙ copied.here in
    let more : (next to).cells ≡ (now to).cells ++ (copied.cell ∷ []) = copied.alters.is ∙ insert_last (now to).cells copied.cell in
    record {
      alters = record {
        head_is = copied.alters.head_is ∙ so_far.alters.head_is;
        is = refl;
        others = λ n away. copied.alters.others n away ∙ so_far.alters.others n away;
      };
      rest =
          ap (λ (n : ℕ). (next to).cells ++ drop n (old page).cells) (add-one at)
          ∙ ap (λ (l : List (List ℕ)). l ++ drop (suc at) (old page).cells) more
          ∙ append_assoc (now to).cells (copied.cell ∷ []) (drop (suc at) (old page).cells)
          ∙ ap (λ (l : List (List ℕ)). (now to).cells ++ l) (sym (drop_here (old page).cells at copied.cell here)) ∙ so_far.rest;
    }

pub filling_ends : (old now : ℕ → Image) (page to start at : ℕ) → Filling old now page to start at → length (old page).cells ≤ at
    → Alters old now to (old to).head ((old to).cells ++ drop start (old page).cells)
filling_ends old now page to start at so_far all = record {
  head_is = so_far.alters.head_is;
  is = sym (append-nil (now to).cells) ∙ ap (λ (l : List (List ℕ)). (now to).cells ++ l) (sym (drop_of_length-le (old page).cells all)) ∙ so_far.rest;
  others = so_far.alters.others;
}

take_remove : (cells : List (List ℕ)) (at : ℕ) (cell : List ℕ) → slice_get cells at ≡ Some cell → take at (remove cells at) ≡ take at cells
take_remove [] at cell h = absurd (none-some cell h)
take_remove (c ∷ cs) zero cell h = refl
take_remove (c ∷ cs) (suc at) cell h = ap (λ (l : List (List ℕ)). c ∷ l) (take_remove cs at cell h)

pub trimming_begins : (pages : ℕ → Image) (page at : ℕ) → Trimming pages pages page at at
trimming_begins pages page at = record { alters = record { head_is = refl; is = refl; others = λ n off. refl }; same = refl; less = refl }

less_remove : (cells : List (List ℕ)) (at : ℕ) (cell : List ℕ) → slice_get cells at ≡ Some cell → length (remove cells at) + 1 ≡ length cells
less_remove [] at cell h = absurd (none-some cell h)
less_remove (c ∷ cs) zero cell h = omega arith
less_remove (c ∷ cs) (suc at) cell h = omega (arith, less_remove cs at cell h)

pub trimming_more : (old now next : ℕ → Image) (page at turn : ℕ) → Trimming old now page at turn → TakesAt now next page at → Trimming old next page at (turn + 1)
trimming_more old now next page at turn so_far took =
    let less : length (remove (now page).cells at) + 1 ≡ length (now page).cells = less_remove (now page).cells at took.cell took.here in
    let is : length (next page).cells ≡ length (remove (now page).cells at) = ap length took.alters.is in
    let before : length (now page).cells + turn ≡ length (old page).cells + at = so_far.less in
    record {
      alters = record {
        head_is = took.alters.head_is ∙ so_far.alters.head_is;
        is = refl;
        others = λ n away. took.alters.others n away ∙ so_far.alters.others n away;
      };
      same = ap (take at) took.alters.is ∙ take_remove (now page).cells at took.cell took.here ∙ so_far.same;
      less = omega arith;
    }

pub trimming_ends : (old now : ℕ → Image) (page at turn : ℕ) → Trimming old now page at turn → length (old page).cells ≤ turn
    → Alters old now page (old page).head (take at (old page).cells)
trimming_ends old now page at turn so_far all =
    let before : length (now page).cells + turn ≡ length (old page).cells + at = so_far.less in
    record {
      head_is = so_far.alters.head_is;
      is = take_all (now page).cells at (omega arith) ∙ so_far.same;
      others = so_far.alters.others;
    }
  where
    take_all : (cells : List (List ℕ)) (at : ℕ) → length cells ≤ at → cells ≡ take at cells
    take_all [] zero h = refl
    take_all [] (suc at) h = refl
    take_all (c ∷ cs) zero h = absurd (omega arith)
    take_all (c ∷ cs) (suc at) h = ap (λ (l : List (List ℕ)). c ∷ l) (take_all cs at (omega arith))

take_some : (cells : List (List ℕ)) (at : ℕ) (cell : List ℕ) → 0 < at → slice_get cells at ≡ Some cell
    → (start : List ℕ) × (left : List (List ℕ)) × (take at cells ≡ start ∷ left)
take_some [] at cell some h = absurd (none-some cell h)
take_some (c ∷ cs) zero cell some h = absurd (omega arith)
take_some (c ∷ cs) (suc at) cell some h = (c, take at cs, refl)

-- a page halved by edits of itself and of a fresh one
pub halved : (p0 p1 p2 p3 p4 p5 : ℕ → Image) (image : Image) (id fresh behind : ℕ) (half : Half) → (id ≡ fresh → ⊥) → image ≡ p0 id → IsHalf image half
    → behind ≡ half.at + 1 → Alters p0 p1 fresh half.head [] → Alters p1 p2 fresh (p1 fresh).head (insert (p1 fresh).cells 0 half.first)
    → Alters p2 p3 fresh (p2 fresh).head ((p2 fresh).cells ++ drop behind (p2 id).cells)
    → Alters p3 p4 id (p3 id).head (take half.at (p3 id).cells)
    → Alters p4 p5 id (record half.head { right = fresh }) (p4 id).cells → Halves p0 p5 id fresh half.separator
halved p0 p1 p2 p3 p4 p5 image id fresh behind half off is said next a1 a2 a3 a4 a5 =
    let off_fresh : fresh ≡ id → ⊥ = λ e. off (sym e) in
    let cells = (p0 id).cells in
    let at = half.at in
    let here : slice_get cells at ≡ Some said.middle = ap (λ (i : Image). slice_get i.cells at) (sym is) ∙ said.here in
    let some = take_some cells at said.middle said.some here in
    let two : p2 id ≡ p0 id = a2.others id off ∙ a1.others id off in
    let three : p3 id ≡ p0 id = a3.others id off ∙ two in
    let left : (p4 id).cells ≡ some.0 ∷ some.1 = a4.is ∙ ap (λ (i : Image). take at i.cells) three ∙ some.2 in
    let right : (p3 fresh).cells ≡ half.first ∷ drop (suc at) cells =
    a3.is ∙ ap (λ (l : List (List ℕ)). l ++ drop behind (p2 id).cells) a2.is
    ∙ ap (λ (l : List (List ℕ)). insert l 0 half.first ++ drop behind (p2 id).cells) a1.is
    ∙ ap (λ (n : ℕ). half.first ∷ drop n (p2 id).cells) (next ∙ add-one at)
    ∙ ap (λ (i : Image). half.first ∷ drop (suc at) i.cells) two in
    let last : p5 fresh ≡ p3 fresh = a5.others fresh off_fresh ∙ a4.others fresh off_fresh in
    let head : half.head ≡ (p0 id).head = said.head ∙ ap (λ (i : Image). i.head) is in
    record {
      start = some.0;
      left = some.1;
      middle = said.middle;
      first = half.first;
      right = drop (suc at) cells;
      cells = cut_at cells at said.middle here ∙ ap (λ (l : List (List ℕ)). l ++ (said.middle ∷ drop (suc at) cells)) some.2;
      separator_is = said.separator;
      leaf = λ k. said.first.leaf (ap (λ (i : Image). i.head.kind) is ∙ k);
      inner = λ k. said.first.inner (ap (λ (i : Image). i.head.kind) is ∙ k);
      small = λ k. said.first.small (ap (λ (i : Image). i.head.kind) is ∙ k);
      left_cells = a5.is ∙ left;
      left_head = a5.head_is ∙ ap (λ (h : Head). record h { right = fresh }) head;
      right_cells = ap (λ (i : Image). i.cells) last ∙ right;
      right_head = ap (λ (i : Image). i.head) last ∙ a3.head_is ∙ a2.head_is ∙ a1.head_is ∙ head;
      off = off;
      others = λ n away far. a5.others n away ∙ a4.others n away ∙ a3.others n far ∙ a2.others n far ∙ a1.others n far;
    }

-- a root raised by edits of itself and of a fresh page
pub crown_made : (old mid p1 p2 p3 p4 p5 : ℕ → Image) (root fresh : ℕ) (before after : Head) (cell : List ℕ) → TakesPage old mid fresh → fresh < 2 ^ 64
    → (root ≡ fresh → ⊥) → before ≡ (mid root).head → after.kind ≡ Inner → after.level ≡ min (before.level + 1) 255 → cell ≡ inner_cell [] fresh
    → Alters mid p1 fresh before [] → Alters p1 p2 fresh (p1 fresh).head ((p1 fresh).cells ++ drop 0 (p1 root).cells)
    → Alters p2 p3 root (p2 root).head (take 0 (p2 root).cells) → Alters p3 p4 root after (p3 root).cells
    → Alters p4 p5 root (p4 root).head (insert (p4 root).cells 0 cell) → Crowns old p5 root
crown_made old mid p1 p2 p3 p4 p5 root fresh before after cell takes small off head kind level is a1 a2 a3 a4 a5 =
    let off_fresh : fresh ≡ root → ⊥ = λ e. off (sym e) in
    let low : p5 fresh ≡ p2 fresh = a5.others fresh off_fresh ∙ a4.others fresh off_fresh ∙ a3.others fresh off_fresh in
    let one : p1 root ≡ mid root = a1.others root off in
    let top_head : (p5 root).head ≡ after = a5.head_is ∙ a4.head_is in
    record {
      taken = mid;
      fresh = fresh;
      takes = takes;
      small = small;
      off = off;
      low_head = ap (λ (i : Image). i.head) low ∙ a2.head_is ∙ a1.head_is ∙ head;
      low_cells = ap (λ (i : Image). i.cells) low ∙ a2.is ∙ ap (λ (l : List (List ℕ)). l ++ (p1 root).cells) a1.is ∙ ap (λ (i : Image). i.cells) one;
      kind = ap (λ (h : Head). h.kind) top_head ∙ kind;
      level = ap (λ (h : Head). h.level) top_head ∙ level ∙ ap (λ (h : Head). min (h.level + 1) 255) head;
      cells = a5.is ∙ ap (λ (l : List (List ℕ)). insert l 0 cell) (a4.is ∙ a3.is) ∙ ap (λ (x : List ℕ). x ∷ []) is;
      others = λ n away far. a5.others n away ∙ a4.others n away ∙ a3.others n away ∙ a2.others n far ∙ a1.others n far;
    }

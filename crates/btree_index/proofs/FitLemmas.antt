-- What the cells of a page take, and why the edits of each step fit.
use Rattle.std.proofs.Common.{◌≡◌, ◌⊎◌, inl, inr, ℕ, zero, suc, ◌+◌, ◌*◌, ◌<◌, ◌≤◌, Bool, true, false, if◌then◌else◌, List, [], ◌∷◌, ◌++◌, take, drop, length, None, Some, Result, Ok, Err, get_or, refl, sym, ap, ◌∙◌, subst, add-one, append_assoc, arith, length-drop, length-take}
use Rattle.std.proofs.lemmas.Option.{none-some, same_Some, slice_get-get_or, slice_get_within}
use Rattle.std.proofs.lemmas.List.Sums.{sum_by-cons, sum_by-append, sum_by-take-drop}
use Rattle.std.specs.List.{AllByRecursion, insert, remove, slice_get}
use Rattle.page_store.specs.Image.{Image, HasRoom, taken, cell_size}
use Rattle.page_store.specs.Edits.{IsFit}
use Rattle.page_store.specs.declared.edits.Edit.TheVariants.{PutCell, TakeCell, SetHead}
use Rattle.page_store.specs.declared.pages.Head.{Head}
use Rattle.page_store.specs.declared.pages.PageKind.TheVariants.{Leaf, Inner}
use Rattle.page_store.proofs.RoomLaws.{slots_taken, taken_insert, taken_remove}
use Rattle.page_workspace.specs.declared.workspaces.EditFault.{EditFault}
use Rattle.page_workspace.specs.declared.workspaces.EditFault.TheVariants.{Unfit, Gone, NoMemory}
use Rattle.page_workspace.specs.Drafts.{TellsEditFit, IsNotUnfit}
use Rattle.page_workspace.specs.Takes.{TakesNew, TakesFree, TakesPage}
use Rattle.btree_index.specs.Keys.{Key, before}
use Rattle.btree_index.specs.Cells.{key_of_cell, value_of_cell, child_of, key_size, inner_cell, IsLeafCell, IsInnerCell}
use Rattle.btree_index.specs.Pairs.{place_in}
use Rattle.btree_index.specs.Trees.{BeginsEmpty}
use Rattle.btree_index.specs.Fits.{HasSpare, IsTreePage, IsHalvable, HasNext, Stays}
use Rattle.btree_index.specs.Steps.{Alters, Filling, IsHalf, IsFirstFor, Halves}
use Rattle.btree_index.specs.declared.halves.Half.{Half}
use Rattle.btree_index.proofs.CellLemmas.{inner_length}
use Rattle.btree_index.proofs.FindLemmas.{drop_here}
use Rattle.btree_index.proofs.ParentLemmas.{cut_at}

-- a place of a cell has one
pub none_past : (cells : List (List ℕ)) (i : ℕ) → i < length cells → slice_get cells i ≡ None → ⊥
none_past cells i h none = none-some (get_or cells i []) (sym none ∙ slice_get-get_or cells i [] h)

pub all_at : (P : List ℕ → Type 0) (cells : List (List ℕ)) (i : ℕ) (c : List ℕ) → AllByRecursion P cells → slice_get cells i ≡ Some c → P c
all_at P [] i c all h = absurd (none-some c h)
all_at P (x ∷ xs) zero c all h = subst P (same_Some x c h) all.0
all_at P (x ∷ xs) (suc i) c all h = all_at P xs i c all.1 h

all_behind : (P : List ℕ → Type 0) (xs ys : List (List ℕ)) (m : List ℕ) → AllByRecursion P (xs ++ (m ∷ ys)) → P m
all_behind P [] ys m all = all.0
all_behind P (x ∷ xs) ys m all = all_behind P xs ys m all.1

pub begins_some : (cells : List (List ℕ)) → BeginsEmpty cells → slice_get cells 0 ≡ None → ⊥
begins_some [] begins none = begins
begins_some (c ∷ cs) begins none = none-some c (sym none)

-- a cell above the leaves has a child
pub child_some : (cell : List ℕ) → IsInnerCell cell → length (value_of_cell cell) < 8 → ⊥
child_some cell is short =
    let long : length cell ≡ 2 + key_size cell + 8 = is.whole in
    omega (arith, length-drop (2 + key_size cell) cell)

-- what the cells of a leaf take, and those above
leaf_size : (cells : List (List ℕ)) → AllByRecursion IsLeafCell cells → taken cells ≤ 1644 * length cells
leaf_size [] all = omega arith
leaf_size (c ∷ cs) all = omega (arith, leaf_size cs all.1, sum_by-cons cell_size c cs, all.0.size)

inner_size : (cells : List (List ℕ)) → AllByRecursion IsInnerCell cells → taken cells ≤ 1644 * length cells
inner_size [] all = omega arith
inner_size (c ∷ cs) all =
    let long : length c ≡ 2 + key_size c + 8 = all.0.whole in
    let short : key_size c ≤ 1630 = all.0.key in
    omega (arith, inner_size cs all.1, sum_by-cons cell_size c cs)

pub tree_room : (image : Image) → IsTreePage image → HasRoom image.cells
tree_room image (inl leaf) = leaf.fits
tree_room image (inr (height, inner)) = inner.fits

-- a page has fewer cells than numbers of two bytes
pub few_cells : (cells : List (List ℕ)) → HasRoom cells → length cells ≤ 1018
few_cells cells room = omega (arith, slots_taken cells, room)

tree_size : (image : Image) → IsTreePage image → taken image.cells ≤ 1644 * length image.cells
tree_size image (inl leaf) = leaf_size image.cells leaf.cells
tree_size image (inr (height, inner)) = inner_size image.cells inner.cells

-- a full page has two cells
pub full_two : (image : Image) → IsHalvable image → length image.cells < 2 → ⊥
full_two image half short =
    let size : taken image.cells ≤ 1644 * length image.cells = tree_size image half.page in
    let full : 4072 < taken image.cells + 1644 = half.full in
    omega arith

pub first_kind : (image : Image) (at : ℕ) (middle : List ℕ) → IsTreePage image → slice_get image.cells at ≡ Some middle
    → (image.head.kind ≡ Leaf) ⊎ ((image.head.kind ≡ Inner) × IsInnerCell middle)
first_kind image at middle (inl leaf) h = inl leaf.kind
first_kind image at middle (inr (height, inner)) h = inr (inner.kind, all_at IsInnerCell image.cells at middle inner.cells h)

key_short : (cell : List ℕ) → key_size cell ≤ 1630 → length (key_of_cell cell) ≤ 1630
key_short cell h = omega (arith, length-take (key_size cell) (drop 2 cell))

-- the first cell of the fresh page is not longer than the one where the page was cut
first_small : (image : Image) (at : ℕ) (middle first : List ℕ) → IsTreePage image → slice_get image.cells at ≡ Some middle
    → IsFirstFor image.head.kind middle first → length first ≤ length middle
first_small image at middle first (inl leaf) h said = let e : length first ≡ length middle = ap length (said.leaf leaf.kind) in omega arith
first_small image at middle first (inr (height, inner)) h said =
    let e : length first ≡ length (inner_cell [] (child_of middle)) = ap length (said.inner inner.kind) in
    let long : length middle ≡ 2 + key_size middle + 8 = (all_at IsInnerCell image.cells at middle inner.cells h).whole in
    omega (arith, inner_length [] (child_of middle))

-- what a half takes
half_room : (cells : List (List ℕ)) (at : ℕ) (middle first : List ℕ) → HasRoom cells → slice_get cells at ≡ Some middle
    → length first ≤ length middle → HasRoom (first ∷ drop (suc at) cells)
half_room cells at middle first room h small =
    let rest = drop (suc at) cells in
    let whole : taken cells ≡ taken (take at cells ++ (middle ∷ rest)) = ap taken (cut_at cells at middle h) in
    let joined : taken (take at cells ++ (middle ∷ rest)) ≡ taken (take at cells) + taken (middle ∷ rest) =
    sum_by-append cell_size (take at cells) (middle ∷ rest) in
    let all : taken cells ≤ 4072 = room in
    omega (arith, sum_by-cons cell_size middle rest, sum_by-cons cell_size first rest)

one_room : (first : List ℕ) (rest : List (List ℕ)) → HasRoom (first ∷ rest) → HasRoom (first ∷ [])
one_room first rest room =
    let one : taken (first ∷ []) ≡ 0 + (4 + length first) = refl in
    let all : taken (first ∷ rest) ≤ 4072 = room in
    omega (arith, sum_by-cons cell_size first rest)

pub take_room : (cells : List (List ℕ)) (at : ℕ) → HasRoom cells → HasRoom (take at cells)
take_room cells at room =
    let all : taken cells ≤ 4072 = room in
    omega (arith, sum_by-take-drop cell_size cells at)

-- the front of cells that fit
pub front_room : (xs ys : List (List ℕ)) → HasRoom (xs ++ ys) → HasRoom xs
front_room xs ys room =
    let all : taken (xs ++ ys) ≤ 4072 = room in
    omega (arith, sum_by-append cell_size xs ys)

-- without a cell, those that fit fit
pub take_fits : (image : Image) (at : ℕ) (cell : List ℕ) → HasRoom image.cells → slice_get image.cells at ≡ Some cell → IsFit image (TakeCell at cell)
take_fits image at cell room here =
    let within : at < length image.cells = slice_get_within image.cells at cell here in
    let all : taken image.cells ≤ 4072 = room in
    let less : taken (remove image.cells at) + (4 + length (get_or image.cells at [])) ≡ taken image.cells = taken_remove image.cells at within in
    record { found = here; fits = omega arith }

-- a cell behind the others
pub last_fits : (image : Image) (at : ℕ) (cell : List ℕ) → at ≡ length image.cells → HasRoom (image.cells ++ (cell ∷ [])) → IsFit image (PutCell at cell)
last_fits image at cell last room =
    let all : taken (image.cells ++ (cell ∷ [])) ≤ 4072 = room in
    let one : taken (cell ∷ []) ≡ 0 + (4 + length cell) = refl in
    let both : taken (image.cells ++ (cell ∷ [])) ≡ taken image.cells + taken (cell ∷ []) = sum_by-append cell_size image.cells (cell ∷ []) in
    record { found = omega arith; fits = omega (arith, taken_insert image.cells at cell) }

-- a cell that goes into the room that is left
pub put_fits : (image : Image) (at : ℕ) (cell : List ℕ) → at ≤ length image.cells → taken image.cells + (4 + length cell) ≤ 4072 → IsFit image (PutCell at cell)
put_fits image at cell within room = record { found = within; fits = omega (arith, taken_insert image.cells at cell) }

pub place_within : (key : Key) (cells : List (List ℕ)) → place_in key cells ≤ length cells
place_within key [] = omega arith
place_within key (c ∷ cs) = go (before (key_of_cell c) key) (place_within key cs)
  where
    go : (t : Bool) → place_in key cs ≤ length cs → (if t then suc (place_in key cs) else zero) ≤ suc (length cs)
    go true rest = omega arith
    go false rest = omega arith

-- another head on cells that fit
pub head_fits : (image : Image) (before after : Head) → image.head ≡ before → HasRoom image.cells → IsFit image (SetHead before after)
head_fits image before after is room = record { found = is; fits = room }

-- a page without cells
empty_room : (cells : List (List ℕ)) → cells ≡ [] → HasRoom cells
empty_room cells is = subst HasRoom (sym is) (let none : taken [] ≡ 0 = refl in omega arith)

pub claim_fits : (image : Image) (before after : Head) → image.head ≡ before → image.cells ≡ [] → IsFit image (SetHead before after)
claim_fits image before after is none = head_fits image before after is (empty_room image.cells none)

-- the edits of a page that is halved
pub half_first : (p0 p1 : ℕ → Image) (image : Image) (id fresh : ℕ) (half : Half) → image ≡ p0 id → IsHalvable (p0 id) → IsHalf image half
    → Alters p0 p1 fresh half.head [] → IsFit (p1 fresh) (PutCell 0 half.first)
half_first p0 p1 image id fresh half is can said a1 =
    let page : IsTreePage image = subst IsTreePage (sym is) can.page in
    let small : length half.first ≤ length said.middle = first_small image half.at said.middle half.first page said.here said.first in
    let rest = drop (suc half.at) image.cells in
    let one : HasRoom (half.first ∷ []) =
    one_room half.first rest (half_room image.cells half.at said.middle half.first (tree_room image page) said.here small) in
    record { found = omega arith; fits = subst (λ (l : List (List ℕ)). HasRoom (insert l 0 half.first)) (sym a1.is) one }

pub half_rest : (p0 p1 p2 : ℕ → Image) (image : Image) (id fresh behind : ℕ) (half : Half) → (id ≡ fresh → ⊥) → image ≡ p0 id → IsHalvable (p0 id)
    → IsHalf image half → behind ≡ half.at + 1 → Alters p0 p1 fresh half.head []
    → Alters p1 p2 fresh (p1 fresh).head (insert (p1 fresh).cells 0 half.first) → HasRoom ((p2 fresh).cells ++ drop behind (p2 id).cells)
half_rest p0 p1 p2 image id fresh behind half off is can said next a1 a2 =
    let page : IsTreePage image = subst IsTreePage (sym is) can.page in
    let small : length half.first ≤ length said.middle = first_small image half.at said.middle half.first page said.here said.first in
    let two : p2 id ≡ image = a2.others id off ∙ a1.others id off ∙ sym is in
    let cells : (p2 fresh).cells ++ drop behind (p2 id).cells ≡ half.first ∷ drop (suc half.at) image.cells =
    ap (λ (l : List (List ℕ)). l ++ drop behind (p2 id).cells) a2.is
    ∙ ap (λ (l : List (List ℕ)). insert l 0 half.first ++ drop behind (p2 id).cells) a1.is
    ∙ ap (λ (n : ℕ). half.first ∷ drop n (p2 id).cells) (next ∙ add-one half.at)
    ∙ ap (λ (i : Image). half.first ∷ drop (suc half.at) i.cells) two in
    subst HasRoom (sym cells) (half_room image.cells half.at said.middle half.first (tree_room image page) said.here small)

pub half_head : (p0 p1 p2 p3 p4 : ℕ → Image) (image : Image) (id fresh : ℕ) (half : Half) (after : Head) (xs ys : List (List ℕ)) → (id ≡ fresh → ⊥)
    → image ≡ p0 id → IsHalvable (p0 id) → IsHalf image half → Alters p0 p1 fresh half.head []
    → Alters p1 p2 fresh (p1 fresh).head xs → Alters p2 p3 fresh (p2 fresh).head ys → Alters p3 p4 id (p3 id).head (take half.at (p3 id).cells)
    → IsFit (p4 id) (SetHead half.head after)
half_head p0 p1 p2 p3 p4 image id fresh half after xs ys off is can said a1 a2 a3 a4 =
    let page : IsTreePage image = subst IsTreePage (sym is) can.page in
    let three : p3 id ≡ image = a3.others id off ∙ a2.others id off ∙ a1.others id off ∙ sym is in
    let room : HasRoom (take half.at (p3 id).cells) =
    take_room (p3 id).cells half.at (subst (λ (i : Image). HasRoom i.cells) (sym three) (tree_room image page)) in
    head_fits (p4 id) half.head after (a4.head_is ∙ ap (λ (i : Image). i.head) three ∙ sym said.head) (subst HasRoom (sym a4.is) room)

-- the separator of a halved page
pub separator_short : (old new : ℕ → Image) (page fresh : ℕ) (separator : Key) → IsTreePage (old page) → Halves old new page fresh separator → length separator ≤ 1630
separator_short old new page fresh separator tree h =
    let e : length separator ≡ length (key_of_cell h.middle) = ap length h.separator_is in
    let short : length (key_of_cell h.middle) ≤ 1630 = key_short h.middle (go tree) in
    omega arith
  where
    go : IsTreePage (old page) → key_size h.middle ≤ 1630
    go (inl leaf) =
        (all_behind IsLeafCell (h.start ∷ h.left) h.right h.middle (subst (λ (l : List (List ℕ)). AllByRecursion IsLeafCell l) h.cells leaf.cells)).key
    go (inr (height, inner)) =
        (all_behind IsInnerCell (h.start ∷ h.left) h.right h.middle (subst (λ (l : List (List ℕ)). AllByRecursion IsInnerCell l) h.cells inner.cells)).key

-- taking a page leaves one that stays, and is another
pub stays_same : (old mid : ℕ → Image) (fresh page : ℕ) → TakesPage old mid fresh → Stays old page → mid page ≡ old page
stays_same old mid fresh page takes stays = takes.others page stays.some

pub stays_off : (old mid : ℕ → Image) (fresh page : ℕ) → TakesPage old mid fresh → Stays old page → page ≡ fresh → ⊥
stays_off old mid fresh page takes stays e = go takes.way
  where
    go : TakesFree old mid fresh ⊎ TakesNew old mid fresh → ⊥
    go (inl w) = stays.off_free (e ∙ w.number)
    go (inr w) = stays.off (e ∙ w.number)

-- and the taken one has no cells
pub fresh_blank : (old mid : ℕ → Image) (fresh : ℕ) → TakesPage old mid fresh → HasNext old → (mid fresh).cells ≡ []
fresh_blank old mid fresh takes next = go takes.way
  where
    go : TakesFree old mid fresh ⊎ TakesNew old mid fresh → (mid fresh).cells ≡ []
    go (inl w) =
        ap (λ (i : Image). i.cells) (takes.others fresh w.some) ∙ ap (λ (n : ℕ). (old n).cells) w.number ∙ next.kept (λ e. w.some (w.number ∙ e))
    go (inr w) =
        ap (λ (i : Image). i.cells) (takes.others fresh (λ e. next.some (sym w.number ∙ e))) ∙ ap (λ (n : ℕ). (old n).cells) w.number ∙ next.blank

-- the edits of a root that is raised
pub raise_fill : (mid p1 : ℕ → Image) (root fresh : ℕ) (before : Head) → (root ≡ fresh → ⊥) → IsTreePage (mid root) → Alters mid p1 fresh before []
    → HasRoom ((p1 fresh).cells ++ drop 0 (p1 root).cells)
raise_fill mid p1 root fresh before off page a1 =
    let cells : (p1 fresh).cells ++ drop 0 (p1 root).cells ≡ (mid root).cells =
    ap (λ (l : List (List ℕ)). l ++ (p1 root).cells) a1.is ∙ ap (λ (i : Image). i.cells) (a1.others root off) in
    subst HasRoom (sym cells) (tree_room (mid root) page)

pub raise_head : (mid p1 p2 p3 : ℕ → Image) (root fresh : ℕ) (before after : Head) (xs : List (List ℕ)) → (root ≡ fresh → ⊥) → before ≡ (mid root).head
    → Alters mid p1 fresh before [] → Alters p1 p2 fresh (p1 fresh).head xs → Alters p2 p3 root (p2 root).head (take 0 (p2 root).cells)
    → IsFit (p3 root) (SetHead before after)
raise_head mid p1 p2 p3 root fresh before after xs off head a1 a2 a3 =
    claim_fits (p3 root) before after
    (a3.head_is ∙ ap (λ (i : Image). i.head) (a2.others root off ∙ a1.others root off) ∙ sym head) a3.is

pub raise_put : (p2 p3 p4 : ℕ → Image) (root fresh : ℕ) (after : Head) (cell : List ℕ) → cell ≡ inner_cell [] fresh
    → Alters p2 p3 root (p2 root).head (take 0 (p2 root).cells) → Alters p3 p4 root after (p3 root).cells → IsFit (p4 root) (PutCell 0 cell)
raise_put p2 p3 p4 root fresh after cell is a3 a4 =
    let none : (p4 root).cells ≡ [] = a4.is ∙ a3.is in
    let empty : taken (p4 root).cells ≡ 0 = ap taken none in
    let long : length cell ≡ length (inner_cell [] fresh) = ap length is in
    put_fits (p4 root) 0 cell (omega arith) (omega (arith, inner_length [] fresh))

-- the cell of a separator in the page above
pub separator_fits : (mid halved : ℕ → Image) (parent child fresh at behind : ℕ) (separator : Key) (found cell : List ℕ) → (parent ≡ child → ⊥)
    → (parent ≡ fresh → ⊥) → HasSpare (mid parent) → slice_get (mid parent).cells at ≡ Some found → behind ≡ at + 1 → length separator ≤ 1630
    → cell ≡ inner_cell separator fresh → Halves mid halved child fresh separator → IsFit (halved parent) (PutCell behind cell)
separator_fits mid halved parent child fresh at behind separator found cell off far spare here next short is halves =
    let same : halved parent ≡ mid parent = halves.others parent off far in
    let within : at < length (mid parent).cells = slice_get_within (mid parent).cells at found here in
    let long : length cell ≡ length (inner_cell separator fresh) = ap length is in
    let room : taken (mid parent).cells + 1644 ≤ 4072 = spare in
    subst (λ (i : Image). IsFit i (PutCell behind cell)) (sym same)
    (put_fits (mid parent) behind cell (omega arith) (omega (arith, inner_length separator fresh)))

-- a cell that is copied goes into the room that the rest needs
pub record IsCopyFit (now : ℕ → Image) (page to at : ℕ) : Type 0 where
  pub cell : List ℕ
  pub here : slice_get (now page).cells at ≡ Some cell
  pub room : HasRoom ((now to).cells ++ (cell ∷ []))

pub filling_fits : (old now : ℕ → Image) (page to start at : ℕ) → (page ≡ to → ⊥) → HasRoom ((old to).cells ++ drop start (old page).cells)
    → Filling old now page to start at → at < length (old page).cells → IsCopyFit now page to at
filling_fits old now page to start at off room so_far within =
    let cells = (old page).cells in
    let cell = get_or cells at [] in
    let here : slice_get cells at ≡ Some cell = slice_get-get_or cells at [] within in
    let rest = drop (suc at) cells in
    let joined : ((now to).cells ++ (cell ∷ [])) ++ rest ≡ (old to).cells ++ drop start cells =
    append_assoc (now to).cells (cell ∷ []) rest ∙ ap (λ (l : List (List ℕ)). (now to).cells ++ l) (sym (drop_here cells at cell here)) ∙ so_far.rest in
    record {
      cell = cell;
      here = ap (λ (i : Image). slice_get i.cells at) (so_far.alters.others page off) ∙ here;
      room = front_room ((now to).cells ++ (cell ∷ [])) rest (subst HasRoom (sym joined) room);
    }

-- an edit that fits is not answered by `Unfit`
pub not_unfit : {T : Type 0} (r : Result T EditFault) (fit : Type 0) → TellsEditFit r fit → fit → IsNotUnfit r
not_unfit (Ok x) fit h k = tt
not_unfit (Err Unfit) fit h k = absurd (h k)
not_unfit (Err Gone) fit h k = tt
not_unfit (Err NoMemory) fit h k = tt

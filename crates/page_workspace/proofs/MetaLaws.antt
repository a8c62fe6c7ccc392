-- The meta page's cell, what it tells, and another one in its place.
use Rattle.std.proofs.Common.{◌≡◌, ℕ, suc, ◌+◌, ◌≤◌, ◌<◌, ◌^◌, ◌==◌, ◌&&◌, Bool, true, false, if◌then◌else◌, List, [], ◌∷◌, ◌++◌, length, drop, set, None, Some, refl, sym, ap, ◌∙◌, subst, arith, length-append, append-nil}
use Rattle.std.specs.Bool.{Decides}
use Rattle.std.specs.List.{slice_get}
use Rattle.std.proofs.Math.Seq.{drop-append_seam, drop-append-add}
use Rattle.std.proofs.lemmas.Bool.{eqb-true, eq-eqb, false≢true}
use Rattle.std.proofs.lemmas.Bool.Decides.{Decides-and, Decides-like}
use Rattle.std.proofs.lemmas.Option.{none-some, same_Some}
use Rattle.byteorder.specs.Endian.{big_number, big_bytes}
use Rattle.byteorder.specs.Numbers.{big_number-reads_back, length-bytes_high_first}
use Rattle.page_store.specs.Image.{Image, HasRoom}
use Rattle.page_store.specs.Edits.{IsFit, after_edit}
use Rattle.page_store.specs.declared.edits.Edit.{Edit}
use Rattle.page_store.specs.declared.edits.Edit.TheVariants.{SwapCell, SetHead}
use Rattle.page_store.specs.declared.pages.Head.{Head}
use Rattle.page_store.specs.declared.pages.PageKind.{PageKind}
use Rattle.page_store.specs.declared.pages.PageKind.TheVariants.{Free, Leaf, Inner, Meta as MetaPage}
use Rattle.page_workspace.specs.declared.metas.Meta.{Meta}
use Rattle.page_workspace.specs.Drafts.{edited}
use Rattle.page_workspace.specs.Spare.{IsMeta, is_meta_kind, is_meta, first_cell}
use Rattle.page_workspace.specs.Metas.{meta_of, cell_of, meta_in, TellsMeta, IsSwap, SetsMeta}
use Rattle.page_workspace.specs.Takes.{FreesPage}
use Rattle.page_workspace.proofs.DraftLaws.{edited_here, edited_other}

-- whether a page is the meta page
meta_kind_decides : (kind : PageKind) → Decides (is_meta_kind kind) (kind ≡ MetaPage)
meta_kind_decides Free = (λ e. absurd (false≢true e), λ e. cc)
meta_kind_decides Leaf = (λ e. absurd (false≢true e), λ e. cc)
meta_kind_decides Inner = (λ e. absurd (false≢true e), λ e. cc)
meta_kind_decides MetaPage = (λ e. refl, λ e. refl)

one_decides : (cells : List (List ℕ)) → Decides (length cells == 1) (cells ≡ first_cell cells ∷ [])
one_decides [] = (λ e. absurd (false≢true e), λ e. absurd (none 0 (ap length e)))
  where
    none : (n : ℕ) → 0 ≡ suc n → ⊥
    none n e = omega arith
one_decides (c ∷ []) = (λ e. refl, λ e. refl)
one_decides (c ∷ d ∷ cs) = (λ e. absurd (more (length cs) (eqb-true (suc (suc (length cs))) 1 e)), λ e. absurd (more (length cs) (ap length e)))
  where
    more : (n : ℕ) → suc (suc n) ≡ 1 → ⊥
    more n e = omega arith

pub meta_decides : (image : Image) → Decides (is_meta image) (IsMeta image)
meta_decides image =
    let size = length (first_cell image.cells) == 24 in
    Decides-like (is_meta image) (λ h. record { kind = h.0; one = h.1.0; size = h.1.1 }) (λ r. (r.kind, (r.one, r.size)))
    (Decides-and (is_meta_kind image.head.kind) ((length image.cells == 1) && size) (meta_kind_decides image.head.kind)
    (Decides-and (length image.cells == 1) size (one_decides image.cells) (eqb-true (length (first_cell image.cells)) 24, eq-eqb (length (first_cell image.cells)) 24)))

-- what is told of a page, where something is
when_some : (b : Bool) (m n : Meta) → (if b then Some m else None) ≡ Some n → (b ≡ true) × (m ≡ n)
when_some true m n e = (refl, same_Some m n e)
when_some false m n e = absurd (none-some n e)

pub tells : (pages : ℕ → Image) (m : Meta) → meta_in (pages 0) ≡ Some m → TellsMeta pages m
tells pages m h =
    let b = when_some (is_meta (pages 0)) (meta_of (first_cell (pages 0).cells)) m h in
    record {
      is = (meta_decides (pages 0)).0 b.0;
      next = ap (λ (x : Meta). x.next) (sym b.1);
      count = ap (λ (x : Meta). x.count) (sym b.1);
      free = ap (λ (x : Meta). x.free) (sym b.1);
    }

pub meta_told : (image : Image) → IsMeta image → meta_in image ≡ Some (meta_of (first_cell image.cells))
meta_told image meta =
    let m = meta_of (first_cell image.cells) in
    ap (λ (t : Bool). if t then Some m else None) ((meta_decides image).1 meta)

pub none_tells : (image : Image) → meta_in image ≡ None → IsMeta image → ⊥
none_tells image none meta = none-some (meta_of (first_cell image.cells)) (sym none ∙ meta_told image meta)

-- the numbers of a meta page fit their eight bytes
pub record AreWords (m : Meta) : Type 0 where
  pub next : m.next < 2 ^ 64
  pub count : m.count < 2 ^ 64
  pub free : m.free < 2 ^ 64

-- the cell tells what it was made of
pub length-cell_of : (m : Meta) → length (cell_of m) ≡ 24
length-cell_of m =
    let a = length-append (big_bytes 8 m.next) (big_bytes 8 m.count ++ big_bytes 8 m.free) in
    let b = length-append (big_bytes 8 m.count) (big_bytes 8 m.free) in
    let c : length (big_bytes 8 m.next) ≡ 8 = length-bytes_high_first 8 m.next in
    let d : length (big_bytes 8 m.count) ≡ 8 = length-bytes_high_first 8 m.count in
    let e : length (big_bytes 8 m.free) ≡ 8 = length-bytes_high_first 8 m.free in
    omega (arith, a, b, c, d, e)

pub next-cell_of : (m : Meta) → m.next < 2 ^ 64 → big_number 8 (cell_of m) ≡ m.next
next-cell_of m room = big_number-reads_back 8 m.next (big_bytes 8 m.count ++ big_bytes 8 m.free) room

pub count-cell_of : (m : Meta) → m.count < 2 ^ 64 → big_number 8 (drop 8 (cell_of m)) ≡ m.count
count-cell_of m room =
    let behind = big_bytes 8 m.count ++ big_bytes 8 m.free in
    let moved : drop 8 (cell_of m) ≡ behind =
    ap (λ (k : ℕ). drop k (big_bytes 8 m.next ++ behind)) (sym (length-bytes_high_first 8 m.next)) ∙ drop-append_seam (big_bytes 8 m.next) behind in
    ap (big_number 8) moved ∙ big_number-reads_back 8 m.count (big_bytes 8 m.free) room

pub free-cell_of : (m : Meta) → m.free < 2 ^ 64 → big_number 8 (drop 16 (cell_of m)) ≡ m.free
free-cell_of m room =
    let behind = big_bytes 8 m.count ++ big_bytes 8 m.free in
    let long : length (big_bytes 8 m.next) ≡ 8 = length-bytes_high_first 8 m.next in
    let sixteen : 16 ≡ length (big_bytes 8 m.next) + 8 = omega (arith, long) in
    let moved : drop 16 (cell_of m) ≡ big_bytes 8 m.free =
    ap (λ (k : ℕ). drop k (big_bytes 8 m.next ++ behind)) sixteen
    ∙ drop-append-add (big_bytes 8 m.next) behind 8
    ∙ ap (λ (k : ℕ). drop k behind) (sym (length-bytes_high_first 8 m.count)) ∙ drop-append_seam (big_bytes 8 m.count) (big_bytes 8 m.free) in
    ap (big_number 8) (moved ∙ sym (append-nil (big_bytes 8 m.free))) ∙ big_number-reads_back 8 m.free [] room

-- the only cell of a meta page, and another in its place
one_there : (cells : List (List ℕ)) → cells ≡ first_cell cells ∷ [] → slice_get cells 0 ≡ Some (first_cell cells)
one_there cells one =
    let first = first_cell cells in
    subst (λ (l : List (List ℕ)). slice_get l 0 ≡ Some first) (sym one) refl

one_set : (cells : List (List ℕ)) (after : List ℕ) → cells ≡ first_cell cells ∷ [] → set cells 0 after ≡ after ∷ []
one_set cells after one = subst (λ (l : List (List ℕ)). set l 0 after ≡ after ∷ []) (sym one) refl

pub swap_fits : (image : Image) (m : Meta) → IsMeta image → IsFit image (SwapCell 0 (first_cell image.cells) (cell_of m))
swap_fits image m meta = record {
  found = one_there image.cells meta.one;
  fits = subst HasRoom (sym (one_set image.cells (cell_of m) meta.one)) room;
}
  where
    room : 4 + length (cell_of m) + 0 ≤ 4072
    room = let long = length-cell_of m in omega (arith, long)

pub sets : (old new : ℕ → Image) (m : Meta) (edit : Edit) → AreWords m → IsSwap (old 0) m edit → new ≡ edited old 0 edit → SetsMeta old new m
sets old new m edit words said made =
    let swap = SwapCell 0 (first_cell (old 0).cells) (cell_of m) in
    let swapped : new ≡ edited old 0 swap = made ∙ ap (edited old 0) said.is in
    let now : new 0 ≡ after_edit (old 0) swap (old 0).lsn = ap (λ (f : ℕ → Image). f 0) swapped ∙ edited_here old 0 swap in
    let cells : (new 0).cells ≡ cell_of m ∷ [] = ap (λ (i : Image). i.cells) now ∙ one_set (old 0).cells (cell_of m) said.on.one in
    let first : first_cell (new 0).cells ≡ cell_of m = ap first_cell cells in
    record {
      was = said.on;
      is = record {
        kind = ap (λ (i : Image). i.head.kind) now ∙ said.on.kind;
        one = cells ∙ ap (λ (c : List ℕ). c ∷ []) (sym first);
        size = ap length first ∙ length-cell_of m;
      };
      next = ap (λ (c : List ℕ). big_number 8 c) first ∙ next-cell_of m words.next;
      count = ap (λ (c : List ℕ). big_number 8 (drop 8 c)) first ∙ count-cell_of m words.count;
      free = ap (λ (c : List ℕ). big_number 8 (drop 16 c)) first ∙ free-cell_of m words.free;
      others = λ n off. ap (λ (f : ℕ → Image). f n) swapped ∙ edited_other old 0 swap n off;
    }

-- a page is given back: its head is set, and then the meta page tells of it
pub frees : (old mid new : ℕ → Image) (m : Meta) (id : ℕ) (before : Head) → (id ≡ 0 → ⊥) → TellsMeta old m
    → mid ≡ edited old id (SetHead before (record { kind = Free; level = 0; right = m.free }))
    → SetsMeta mid new (record { next = m.next; count = m.count; free = id }) → FreesPage old new id
frees old mid new m id before some told made set =
    let edit = SetHead before (record { kind = Free; level = 0; right = m.free }) in
    let here : mid id ≡ after_edit (old id) edit (old id).lsn = ap (λ (f : ℕ → Image). f id) made ∙ edited_here old id edit in
    let now : new id ≡ mid id = set.others id some in
    record {
      some = some;
      head = ap (λ (i : Image). i.head) (now ∙ here) ∙ ap (λ (n : ℕ). record { kind = Free; level = 0; right = n }) told.free;
      cells = ap (λ (i : Image). i.cells) (now ∙ here);
      count = set.count ∙ told.count;
      genid = set.next ∙ told.next;
      free = set.free;
      meta = set.is;
      others = λ n a b. set.others n a ∙ ap (λ (f : ℕ → Image). f n) made ∙ edited_other old id edit n b;
    }

-- and the meta page was there after the edit
pub meta_stays : (old mid : ℕ → Image) (id : ℕ) (edit : Edit) → (id ≡ 0 → ⊥) → mid ≡ edited old id edit → IsMeta (old 0) → IsMeta (mid 0)
meta_stays old mid id edit some made meta =
    subst IsMeta (sym (ap (λ (f : ℕ → Image). f 0) made ∙ edited_other old id edit 0 (λ e. some (sym e)))) meta

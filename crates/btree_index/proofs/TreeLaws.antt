-- The pages of a root hold at most one list.
use Rattle.std.proofs.Common.{◌≡◌, ℕ, zero, suc, List, [], ◌∷◌, ◌++◌, map, refl, sym, ap, ◌∙◌, subst}
use Rattle.page_store.specs.Image.{Image}
use Rattle.btree_index.specs.Keys.{Key}
use Rattle.btree_index.specs.Cells.{child_of}
use Rattle.btree_index.specs.Trees.{Entry, entry_of, below, spread, leaves, cells_of, IsShaped, IsLeafPage, IsInnerPage, BeginsEmpty, top, pair_of, TreeList}

-- below a page that has a cell stands a page
below_some : (low : Key) (cells : List (List ℕ)) → BeginsEmpty cells → (x : Entry) × (xs : List Entry) × (below low cells ≡ x ∷ xs)
below_some low [] h = absurd h
below_some low (c ∷ cs) h = (record { low = low; page = child_of c }, map entry_of cs, refl)

pub spread_some : (pages : ℕ → Image) (e : Entry) (es : List Entry) → BeginsEmpty (pages e.page).cells
    → (x : Entry) × (xs : List Entry) × (spread pages (e ∷ es) ≡ x ∷ xs)
spread_some pages e es h =
    let some = below_some e.low (pages e.page).cells h in
    (some.0, some.1 ++ spread pages es, ap (λ (l : List Entry). l ++ spread pages es) some.2)

-- so a level has one height above the leaves
pub one_height : (pages : ℕ → Image) (h k : ℕ) (e : Entry) (es : List Entry) → IsShaped pages h (e ∷ es) → IsShaped pages k (e ∷ es) → h ≡ k
one_height pages zero zero e es a b = refl
one_height pages zero (suc k) e es a b = absurd (leaf_or_inner (pages e.page) a.0 b.0.0)
  where
    leaf_or_inner : (image : Image) → IsLeafPage image → IsInnerPage (suc k) image → ⊥
    leaf_or_inner image leaf inner = let e = sym leaf.kind ∙ inner.kind in cc
one_height pages (suc h) zero e es a b = absurd (leaf_or_inner (pages e.page) b.0 a.0.0)
  where
    leaf_or_inner : (image : Image) → IsLeafPage image → IsInnerPage (suc h) image → ⊥
    leaf_or_inner image leaf inner = let e = sym leaf.kind ∙ inner.kind in cc
one_height pages (suc h) (suc k) e es a b =
    let some = spread_some pages e es a.0.0.first in
    ap (λ n. suc n) (one_height pages h k some.0 some.1
    (subst (λ (l : List Entry). IsShaped pages h l) some.2 a.1) (subst (λ (l : List Entry). IsShaped pages k l) some.2 b.1))

pub one_list : (pages : ℕ → Image) (root : ℕ) (xs ys : List (Key × List ℕ)) → TreeList pages root xs → TreeList pages root ys → xs ≡ ys
one_list pages root xs ys a b =
    let same : a.height ≡ b.height = one_height pages a.height b.height (record { low = []; page = root }) [] a.holds.shaped b.holds.shaped in
    let cells : a.cells ≡ b.cells =
    sym a.holds.is ∙ ap (λ (h : ℕ). cells_of pages (leaves pages h (top root))) same ∙ b.holds.is in
    sym a.pairs ∙ ap (λ (cs : List (List ℕ)). map pair_of cs) cells ∙ b.pairs

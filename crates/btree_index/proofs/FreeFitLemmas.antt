-- Why each edit by which an empty leaf is freed fits its page.
use Rattle.std.proofs.Common.{◌≡◌, inl, inr, ℕ, zero, suc, ◌+◌, ◌-◌, ◌<◌, ◌≤◌, List, [], ◌∷◌, ◌++◌, map, length, refl, sym, ap, ◌∙◌, subst, arith, length-append}
use Rattle.std.specs.List.{AllByRecursion, remove}
use Rattle.page_store.specs.Image.{Image}
use Rattle.page_store.specs.declared.pages.PageKind.TheVariants.{Leaf, Inner}
use Rattle.page_workspace.specs.Spare.{IsIn, IsMeta, count_of, first_cell}
use Rattle.btree_index.specs.Keys.{Key}
use Rattle.btree_index.specs.Cells.{child_of, IsInnerCell}
use Rattle.btree_index.specs.Changes.{TreeStands}
use Rattle.btree_index.specs.Fits.{CanLose, HasOneChild}
use Rattle.btree_index.specs.Prunes.{IsLone, lone_pages, AreStray, AreLoose, CanFree, FreesAll, IsFork, Unlinks}
use Rattle.btree_index.specs.Steps.{Alters}
use Rattle.btree_index.specs.Trees.{Entry, page_of, spread, tree_pages, IsShaped, top}
use Rattle.btree_index.specs.declared.prunes.Fork.{Fork}
use Rattle.btree_index.proofs.DepthLemmas.{few_apart}
use Rattle.btree_index.proofs.PruneLemmas.{IsCutOff, cut_off, flat_off, left_below}
use Rattle.btree_index.proofs.TreeLaws.{spread_some}

-- loose pages, and those of a tree, have fewer levels than there are pages
lone_long : (pages : ℕ → Image) (height page : ℕ) → length (lone_pages pages height page) ≡ suc height
lone_long pages zero page = refl
lone_long pages (suc height) page = ap (λ (n : ℕ). suc n) (lone_long pages height (child_of (first_cell (pages page).cells)))

loose_few : (pages : ℕ → Image) (id height root : ℕ) (own free : List ℕ) (list : List (Key × List ℕ)) → AreLoose pages id height root own free list
    → height < count_of pages
loose_few pages id height root own free list loose =
    let ids = lone_pages pages height id in
    let long : length ids ≡ suc height = lone_long pages height id in
    let few : length ids ≤ count_of pages = few_apart ids (count_of pages) loose.stray.apart loose.stray.below in
    omega arith

level_few : (pages : ℕ → Image) (height : ℕ) (e : Entry) (es : List Entry) → IsShaped pages height (e ∷ es) → height < length (tree_pages pages height (e ∷ es))
level_few pages zero e es shaped = omega arith
level_few pages (suc height) e es shaped =
    let some = spread_some pages e es shaped.0.0.first in
    let rec : height < length (tree_pages pages height (some.0 ∷ some.1)) =
    level_few pages height some.0 some.1 (subst (λ (l : List Entry). IsShaped pages height l) some.2 shaped.1) in
    let deep : height < length (tree_pages pages height (spread pages (e ∷ es))) =
    subst (λ (l : List Entry). height < length (tree_pages pages height l)) (sym some.2) rec in
    let both : length (map page_of es ++ tree_pages pages height (spread pages (e ∷ es)))
    ≡ length (map page_of es) + length (tree_pages pages height (spread pages (e ∷ es))) =
    length-append (map page_of es) (tree_pages pages height (spread pages (e ∷ es))) in
    omega arith

pub tree_few : (pages : ℕ → Image) (root : ℕ) (own free : List ℕ) (list : List (Key × List ℕ)) → (s : TreeStands pages root own free list) → s.height < count_of pages
tree_few pages root own free list s =
    let all = tree_pages pages s.height (top root) in
    let tall : s.height < length all = level_few pages s.height (record { low = []; page = root }) [] s.holds.shaped in
    let few : length all ≤ count_of pages =
    few_apart all (count_of pages) s.holds.apart (λ n i. s.below n (subst (λ (l : List ℕ). IsIn n l) s.own_is i)) in
    omega arith

-- a loose page has one child, or is a leaf
pub lone_child : (pages : ℕ → Image) (height page : ℕ) → IsLone pages height page → HasOneChild (pages page)
lone_child pages zero page lone = inl lone.0
lone_child pages (suc height) page lone = inr (lone.0, lone.1, lone.3)

pub lone_cell : (pages : ℕ → Image) (height page : ℕ) → IsLone pages height page → (pages page).head.kind ≡ Inner
    → (pages page).cells ≡ first_cell (pages page).cells ∷ []
lone_cell pages zero page lone kind = absurd (let e = sym kind ∙ lone.0 in cc)
lone_cell pages (suc height) page lone kind = lone.1

pub lone_off : (pages : ℕ → Image) (id turns : ℕ) → CanFree pages id turns → id ≡ 0 → ⊥
lone_off pages id turns can = can.loose.stray.some id (first can.height)
  where
    first : (height : ℕ) → IsIn id (lone_pages pages height id)
    first zero = inl refl
    first (suc height) = inl refl

-- what is left where the first of several children goes
pub record LeavesChild (cells : List (List ℕ)) : Type 0 where
  pub cell : List ℕ
  pub others : List (List ℕ)
  pub is : remove cells 0 ≡ cell ∷ others
  pub inner : IsInnerCell cell

pub leaves_child : (image : Image) (at : ℕ) → CanLose image at → LeavesChild image.cells
leaves_child image at can = go image.cells can.inner.cells can.several
  where
    go : (cells : List (List ℕ)) → AllByRecursion IsInnerCell cells → 1 < length cells → LeavesChild cells
    go [] all few = absurd (omega arith)
    go (c ∷ []) all few = absurd (omega arith)
    go (c ∷ d ∷ ds) all few = record { cell = d; others = ds; is = refl; inner = all.1.0 }

-- the pages below a loose one are loose when its cell is gone
pub free_below : (old mid : ℕ → Image) (id child turns : ℕ) → CanFree old id turns → (old id).head.kind ≡ Inner → child ≡ child_of (first_cell (old id).cells)
    → Alters old mid id (old id).head (remove (old id).cells 0) → CanFree mid child (turns - 1)
free_below old mid id child turns can kind is a = go can.height can.loose can.few
  where
    go : (height : ℕ) → AreLoose old id height can.root can.own can.free can.list → height < turns → CanFree mid child (turns - 1)
    go zero loose few = absurd (let e = sym kind ∙ loose.lone.0 in cc)
    go (suc height) loose few = record {
      height = height;
      root = can.root;
      own = can.own;
      free = can.free;
      list = can.list;
      loose = (left_below old mid id child height can.root can.own can.free can.list loose is a).loose;
      few = omega arith;
    }

-- and page 0 is the meta page still when they were given back
pub freed_meta : (old mid late : ℕ → Image) (id child turns : ℕ) → CanFree old id turns → (old id).head.kind ≡ Inner → child ≡ child_of (first_cell (old id).cells)
    → Alters old mid id (old id).head (remove (old id).cells 0)
    → ((height root : ℕ) (own free : List ℕ) (list : List (Key × List ℕ)) → TreeStands mid root own free list → IsLone mid height child
    → AreStray mid own free (lone_pages mid height child) → FreesAll mid late root own free list (lone_pages mid height child)) → IsMeta (late 0)
freed_meta old mid late id child turns can kind is a freed =
    let b : CanFree mid child (turns - 1) = free_below old mid id child turns can kind is a in
    (freed b.height b.root b.own b.free b.list b.loose.stands b.loose.lone b.loose.stray).stands.spare.meta

-- the pages of an empty leaf can be given back when they were taken out of the tree
pub cut_free : (old mid : ℕ → Image) (root turns : ℕ) (own free : List ℕ) (list : List (Key × List ℕ)) (fork : Fork) → (s : TreeStands old root own free list)
    → IsFork old s.height (top root) s.cells fork → count_of old ≤ turns → Unlinks old mid fork → CanFree mid fork.child turns
cut_free old mid root turns own free list fork s f all u =
    let w : IsCutOff old mid fork.child f.depth root own (tree_pages mid s.height (top root)) free list = cut_off old mid root own free list fork s f u in
    let few : f.depth < count_of mid = loose_few mid fork.child f.depth root (tree_pages mid s.height (top root)) free list w.loose in
    let count : count_of mid ≡ count_of old = w.count in
    record {
      height = f.depth;
      root = root;
      own = tree_pages mid s.height (top root);
      free = free;
      list = list;
      loose = w.loose;
      few = omega arith;
    }

pub flat_free : (old mid : ℕ → Image) (root child turns : ℕ) (own free : List ℕ) (list : List (Key × List ℕ)) → (s : TreeStands old root own free list)
    → IsLone old s.height root → (old root).head.kind ≡ Inner → child ≡ child_of (first_cell (old root).cells)
    → Alters old mid root (record { kind = Leaf; level = 0; right = 0 }) (remove (old root).cells 0) → count_of old ≤ turns → CanFree mid child turns
flat_free old mid root child turns own free list s lone kind is a all = go s.height refl lone
  where
    go : (height : ℕ) → s.height ≡ height → IsLone old height root → CanFree mid child turns
    go zero tall lone = absurd (let e = sym kind ∙ lone.0 in cc)
    go (suc height) tall lone =
        let w : IsCutOff old mid child height root own (root ∷ []) free list = flat_off old mid root child height own free list s tall lone is a in
        let few : height < count_of mid = loose_few mid child height root (root ∷ []) free list w.loose in
        let count : count_of mid ≡ count_of old = w.count in
        record { height = height; root = root; own = root ∷ []; free = free; list = list; loose = w.loose; few = omega arith }

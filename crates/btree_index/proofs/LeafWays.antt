-- The leaf to which the way to a key comes.
use Rattle.std.proofs.Common.{◌≡◌, ◌⊎◌, inl, inr, ℕ, zero, suc, Bool, true, false, List, [], ◌∷◌, length, Option, Some, refl, sym, ap, ◌∙◌, subst, arith}
use Rattle.std.proofs.lemmas.Option.{none-some}
use Rattle.std.specs.List.{AllByRecursion, remove, slice_get}
use Rattle.page_store.specs.Image.{Image}
use Rattle.page_store.specs.declared.pages.Head.{Head}
use Rattle.page_store.specs.declared.pages.PageKind.TheVariants.{Leaf, Inner}
use Rattle.page_workspace.specs.Spare.{IsIn, IsFreePage, first_cell}
use Rattle.btree_index.specs.Keys.{Key}
use Rattle.btree_index.specs.Cells.{child_of}
use Rattle.btree_index.specs.Changes.{TreeStands}
use Rattle.btree_index.specs.Pairs.{choice}
use Rattle.btree_index.specs.Prunes.{IsLone, lone_leaf, lone_pages, hung_found, IsLeafBelow, HasLeaf, GoesOn, LeadsTo, IsFork, LosesLeaf, FreesEmpty, Takes, FreesEmptied}
use Rattle.btree_index.specs.Steps.{Alters}
use Rattle.btree_index.specs.declared.finds.Below.{Below}
use Rattle.btree_index.specs.Trees.{top}
use Rattle.btree_index.specs.declared.prunes.Fork.{Fork}
use Rattle.btree_index.specs.declared.prunes.Found.{Found}
use Rattle.btree_index.specs.declared.prunes.Found.TheVariants.{Full, Lone, Forked}

pub leaf_itself : (pages : ℕ → Image) (key : Key) (page : ℕ) → (pages page).head.kind ≡ Leaf → HasLeaf pages key page page
leaf_itself pages key page kind = record { steps = 0; is = (refl, kind) }

-- one page further on the way
pub goes_on : (pages : ℕ → Image) (key : Key) (from page : ℕ) → GoesOn pages key from page → (pages page).head.kind ≡ Inner
    → GoesOn pages key from (choice key (pages page).cells)
goes_on pages key from page on kind = λ leaf h. on leaf (record { steps = suc h.steps; is = (kind, h.is) })

-- the way comes to one leaf
same_leaf : (pages : ℕ → Image) (key : Key) (page m n leaf other : ℕ) → IsLeafBelow pages key page m leaf → IsLeafBelow pages key page n other → leaf ≡ other
same_leaf pages key page zero zero leaf other a b = sym a.0 ∙ b.0
same_leaf pages key page zero (suc n) leaf other a b = absurd (let e = sym a.1 ∙ b.0 in cc)
same_leaf pages key page (suc m) zero leaf other a b = absurd (let e = sym a.0 ∙ b.1 in cc)
same_leaf pages key page (suc m) (suc n) leaf other a b = same_leaf pages key (choice key (pages page).cells) m n leaf other a.1 b.1

leaf_kind : (pages : ℕ → Image) (key : Key) (page steps leaf : ℕ) → IsLeafBelow pages key page steps leaf → (pages leaf).head.kind ≡ Leaf
leaf_kind pages key page zero leaf h = subst (λ (n : ℕ). (pages n).head.kind ≡ Leaf) h.0 h.1
leaf_kind pages key page (suc steps) leaf h = leaf_kind pages key (choice key (pages page).cells) steps leaf h.1

-- and to the same one where cells of that leaf alone changed
still_leaf : (old new : ℕ → Image) (key : Key) (page steps leaf : ℕ) (cells : List (List ℕ)) → Alters old new leaf (old leaf).head cells
    → IsLeafBelow old key page steps leaf → IsLeafBelow new key page steps leaf
still_leaf old new key page zero leaf cells a h =
    let P : ℕ → Type 0 = λ n. (new n).head.kind ≡ Leaf in
    (h.0, subst P (sym h.0) (ap (λ (h : Head). h.kind) a.head_is ∙ leaf_kind old key page 0 leaf h))
still_leaf old new key page (suc steps) leaf cells a h =
    let same : new page ≡ old page = a.others page (λ e. off e) in
    let P : ℕ → Type 0 = λ n. IsLeafBelow new key n steps leaf in (
      ap (λ (i : Image). i.head.kind) same ∙ h.0,
      subst P (ap (λ (i : Image). choice key i.cells) (sym same)) (still_leaf old new key (choice key (old page).cells) steps leaf cells a h.1),
    )
  where
    off : page ≡ leaf → ⊥
    off e =
        let k : (old leaf).head.kind ≡ Leaf = leaf_kind old key (choice key (old page).cells) steps leaf h.1 in
        let l : (old leaf).head.kind ≡ Inner = ap (λ (n : ℕ). (old n).head.kind) (sym e) ∙ h.0 in
        let both = sym k ∙ l in cc

-- the way down to a leaf that is the one descendant
one_choice : (key : Key) (cells : List (List ℕ)) → cells ≡ first_cell cells ∷ [] → choice key cells ≡ child_of (first_cell cells)
one_choice key [] e = absurd (let k = e in cc)
one_choice key (c ∷ []) e = refl
one_choice key (c ∷ d ∷ ds) e = absurd (let k = e in cc)

lone_below : (pages : ℕ → Image) (key : Key) (height page : ℕ) → IsLone pages height page → IsLeafBelow pages key page height (lone_leaf pages height page)
lone_below pages key zero page lone = (refl, lone.0)
lone_below pages key (suc height) page lone =
    let c = child_of (first_cell (pages page).cells) in
    let P : ℕ → Type 0 = λ n. IsLeafBelow pages key n height (lone_leaf pages height c) in
    (lone.0, subst P (sym (one_choice key (pages page).cells lone.1)) (lone_below pages key height c lone.2))

pub lone_leads : (pages : ℕ → Image) (key : Key) (height page : ℕ) → IsLone pages height page → HasLeaf pages key page (lone_leaf pages height page)
lone_leads pages key height page lone = record { steps = height; is = lone_below pages key height page lone }

pub lone_inside : (pages : ℕ → Image) (height page : ℕ) → IsIn (lone_leaf pages height page) (lone_pages pages height page)
lone_inside pages zero page = inl refl
lone_inside pages (suc height) page = inr (lone_inside pages height (child_of (first_cell (pages page).cells)))

pub lone_root : (pages : ℕ → Image) (height page : ℕ) → IsLone pages height page → (pages page).head.kind ≡ Leaf → lone_leaf pages height page ≡ page
lone_root pages zero page lone kind = refl
lone_root pages (suc height) page lone kind = absurd (let e = sym kind ∙ lone.0 in cc)

-- each free page is one
pub free_page_in : (pages : ℕ → Image) (n : ℕ) (ids : List ℕ) → AllByRecursion (λ id. IsFreePage (pages id)) ids → IsIn n ids → IsFreePage (pages n)
free_page_in pages n [] h i = absurd i
free_page_in pages n (x ∷ xs) h (inl e) = subst (λ (k : ℕ). IsFreePage (pages k)) (sym e) h.0
free_page_in pages n (x ∷ xs) h (inr i) = free_page_in pages n xs h.1 i

-- what the way came to at a leaf
pub leaf_leads : (pages : ℕ → Image) (key : Key) (page : ℕ) (left : Option ℕ) (found : Found) → (pages page).head.kind ≡ Leaf
    → ((pages page).cells ≡ [] → found ≡ Lone (record { left = left; right = (pages page).head.right })) → (((pages page).cells ≡ [] → ⊥) → found ≡ Full)
    → LeadsTo pages key page found
leaf_leads pages key page left found kind none some = go (pages page).cells refl
  where
    go : (l : List (List ℕ)) → (pages page).cells ≡ l → LeadsTo pages key page found
    go [] e = subst (λ (f : Found). LeadsTo pages key page f) (sym (none e)) tt
    go (c ∷ cs) e =
        subst (λ (f : Found). LeadsTo pages key page f) (sym (some (λ k. more (sym e ∙ k))))
        (page, leaf_itself pages key page kind, λ k. more (sym e ∙ k))
      where
        more : c ∷ cs ≡ [] → ⊥
        more k = cc

-- and at a page above the leaves, by what it came to at the child on the way
pub hung_leads : (pages : ℕ → Image) (key : Key) (page : ℕ) (child : Below) (found : Found) (several : Bool) → (pages page).head.kind ≡ Inner
    → child.child ≡ choice key (pages page).cells → LeadsTo pages key child.child found → LeadsTo pages key page (hung_found found page child several)
hung_leads pages key page child found several kind is f = go found several f
  where
    step : (leaf : ℕ) → HasLeaf pages key child.child leaf → HasLeaf pages key page leaf
    step leaf h = record { steps = suc h.steps; is = (kind, subst (λ (n : ℕ). IsLeafBelow pages key n h.steps leaf) is h.is) }

    go : (found : Found) (several : Bool) → LeadsTo pages key child.child found → LeadsTo pages key page (hung_found found page child several)
    go Full several f = (f.0, step f.0 f.1, f.2)
    go (Forked fork) several f = λ leaf h. step leaf (f leaf h)
    go (Lone lone) true f = λ leaf h. step leaf h
    go (Lone lone) false f = tt

-- a leaf that had several cells has some left
pub left_over : (cells : List (List ℕ)) (at : ℕ) (cell : List ℕ) → slice_get cells at ≡ Some cell → (length cells ≡ 1 → ⊥) → remove cells at ≡ [] → ⊥
left_over [] at cell here several none = none-some cell here
left_over (c ∷ []) at cell here several none = several refl
left_over (c ∷ d ∷ ds) zero cell here several none = let k = none in cc
left_over (c ∷ d ∷ ds) (suc at) cell here several none = let k = none in cc

last_one : (cells : List (List ℕ)) (at : ℕ) (cell : List ℕ) → slice_get cells at ≡ Some cell → length cells ≡ 1 → remove cells at ≡ []
last_one [] at cell here one = absurd (none-some cell here)
last_one (c ∷ []) zero cell here one = refl
last_one (c ∷ []) (suc at) cell here one = absurd (none-some cell here)
last_one (c ∷ d ∷ ds) at cell here one = absurd (more (length ds) one)
  where
    more : (n : ℕ) → suc (suc n) ≡ 1 → ⊥
    more n e = omega arith

-- the leaf that had the key: with other cells in it
pub taken_left : (old new : ℕ → Image) (root : ℕ) (key : Key) (count : ℕ) → Takes old new root key count → (count ≡ 1 → ⊥) → FreesEmptied old new root key
taken_left old new root key count t several = record {
  leaf = t.leaf;
  way = t.way;
  at = t.at;
  had = t.had;
  went = inl (λ e. left_over (old t.leaf).cells t.at t.had.found t.had.here (λ k. several (t.all ∙ k)) (sym t.alters.is ∙ e));
}

-- and with none
pub last_went : (old mid new : ℕ → Image) (root : ℕ) (key : Key) (count : ℕ) → (t : Takes old mid root key count) → count ≡ 1 → FreesEmpty mid new root key
    → ((new t.leaf).cells ≡ [] → ⊥) ⊎ (t.leaf ≡ root) ⊎ IsFreePage (new t.leaf)
last_went old mid new root key count t one f = went f.went
  where
    same : f.leaf ≡ t.leaf
    same = same_leaf mid key root f.way.steps t.way.steps f.leaf t.leaf f.way.is
        (still_leaf old mid key root t.way.steps t.leaf (remove (old t.leaf).cells t.at) t.alters t.way.is)

    went : ((mid f.leaf).cells ≡ [] → ⊥) ⊎ (f.leaf ≡ root) ⊎ IsFreePage (new f.leaf)
        → ((new t.leaf).cells ≡ [] → ⊥) ⊎ (t.leaf ≡ root) ⊎ IsFreePage (new t.leaf)
    went (inl some) = absurd (some
        (ap (λ (n : ℕ). (mid n).cells) same ∙ t.alters.is ∙ last_one (old t.leaf).cells t.at t.had.found t.had.here (sym t.all ∙ one)))
    went (inr (inl e)) = inr (inl (sym same ∙ e))
    went (inr (inr free)) = inr (inr (subst (λ (n : ℕ). IsFreePage (new n)) same free))

pub taken_last : (old mid new : ℕ → Image) (root : ℕ) (key : Key) (count : ℕ) → Takes old mid root key count → count ≡ 1 → FreesEmpty mid new root key
    → FreesEmptied old new root key
taken_last old mid new root key count t one f =
    record { leaf = t.leaf; way = t.way; at = t.at; had = t.had; went = last_went old mid new root key count t one f }

-- the leaf on the way to the key: with cells, in a tree that has nothing else, or below a fork
pub frees_none : (old new : ℕ → Image) (root : ℕ) (key : Key) → LeadsTo old key root Full → FreesEmpty old new root key
frees_none old new root key h = record { leaf = h.0; way = h.1; went = inl h.2 }

pub frees_lone : (old new : ℕ → Image) (root : ℕ) (key : Key) (own free : List ℕ) (list : List (Key × List ℕ)) → (s : TreeStands old root own free list)
    → IsLone old s.height root → LosesLeaf old new root own free list (lone_leaf old s.height root) → FreesEmpty old new root key
frees_lone old new root key own free list s lone l =
    record { leaf = lone_leaf old s.height root; way = lone_leads old key s.height root lone; went = inr l.went }

pub frees_fork : (old new : ℕ → Image) (root : ℕ) (key : Key) (own free : List ℕ) (list : List (Key × List ℕ)) → (s : TreeStands old root own free list)
    → (fork : Fork) → (f : IsFork old s.height (top root) s.cells fork) → GoesOn old key root fork.child
    → LosesLeaf old new root own free list (lone_leaf old f.depth fork.child) → FreesEmpty old new root key
frees_fork old new root key own free list s fork f on l = record {
  leaf = lone_leaf old f.depth fork.child;
  way = on (lone_leaf old f.depth fork.child) (lone_leads old key f.depth fork.child f.lone);
  went = inr l.went;
}

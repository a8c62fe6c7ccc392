-- No leaf is empty that was not before, step by step.
use Rattle.std.proofs.Common.{◌≡◌, ◌⊎◌, inl, inr, ℕ, zero, suc, List, [], ◌∷◌, ◌++◌, Option, None, Some, refl, sym, ap, ◌∙◌, subst, arith}
use Rattle.std.proofs.lemmas.Option.{none-some, same_Some}
use Rattle.std.specs.List.{insert}
use Rattle.page_store.specs.Image.{Image}
use Rattle.page_store.specs.declared.pages.Head.{Head}
use Rattle.page_store.specs.declared.pages.PageKind.TheVariants.{Leaf}
use Rattle.page_workspace.specs.Spare.{IsIn, IsMeta, IsFreePage}
use Rattle.page_workspace.specs.Takes.{TakesPage}
use Rattle.btree_index.specs.Cells.{child_of}
use Rattle.btree_index.specs.Changes.{TreeStands}
use Rattle.btree_index.specs.Filled.{IsEmptyLeaf, KeepsFilled}
use Rattle.btree_index.specs.Keys.{Key}
use Rattle.btree_index.specs.Prunes.{FreesAll, FreesEmpty, HasLeaf, IsLeafBelow, Takes, Unlinks}
use Rattle.btree_index.specs.Steps.{Alters, Crowns, Splits}
use Rattle.btree_index.specs.declared.prunes.Fork.{Fork}
use Rattle.btree_index.proofs.ApartLaws.{in_left}
use Rattle.btree_index.proofs.LeafWays.{free_page_in, last_went, left_over}
use Rattle.btree_index.proofs.RootLaws.{root_in}

-- two numbers, and a number among others
same_or_off : (a b : ℕ) → (a ≡ b) ⊎ (a ≡ b → ⊥)
same_or_off zero zero = inl refl
same_or_off zero (suc b) = inr (λ e. omega arith)
same_or_off (suc a) zero = inr (λ e. omega arith)
same_or_off (suc a) (suc b) = go (same_or_off a b)
  where
    go : (a ≡ b) ⊎ (a ≡ b → ⊥) → (suc a ≡ suc b) ⊎ (suc a ≡ suc b → ⊥)
    go (inl e) = inl (ap (λ (n : ℕ). suc n) e)
    go (inr off) = inr (λ e. off (let k : suc a ≡ suc b = e in omega arith))

in_or_off : (n : ℕ) (xs : List ℕ) → IsIn n xs ⊎ (IsIn n xs → ⊥)
in_or_off n [] = inr (λ i. i)
in_or_off n (x ∷ xs) = go (same_or_off n x) (in_or_off n xs)
  where
    neither : (n ≡ x → ⊥) → (IsIn n xs → ⊥) → (n ≡ x) ⊎ IsIn n xs → ⊥
    neither off far (inl e) = off e
    neither off far (inr i) = far i

    go : (n ≡ x) ⊎ (n ≡ x → ⊥) → IsIn n xs ⊎ (IsIn n xs → ⊥) → IsIn n (x ∷ xs) ⊎ (IsIn n (x ∷ xs) → ⊥)
    go (inl e) r = inl (inl e)
    go (inr off) (inl i) = inl (inr i)
    go (inr off) (inr far) = inr (λ i. neither off far i)

-- pages that are no empty leaves
meta_full : (image : Image) → IsMeta image → IsEmptyLeaf image → ⊥
meta_full image m e = let k = sym m.kind ∙ e.kind in cc

free_full : (image : Image) → IsFreePage image → IsEmptyLeaf image → ⊥
free_full image f e = let k = sym f.kind ∙ e.kind in cc

cons_some : {A : Type 0} (xs ys : List A) (x : A) → xs ≡ x ∷ ys → xs ≡ [] → ⊥
cons_some xs ys x is none = let k = sym is ∙ none in cc

pub insert_some : (cells : List (List ℕ)) (at : ℕ) (cell : List ℕ) → insert cells at cell ≡ [] → ⊥
insert_some [] zero cell e = let k = e in cc
insert_some [] (suc at) cell e = let k = e in cc
insert_some (c ∷ cs) zero cell e = let k = e in cc
insert_some (c ∷ cs) (suc at) cell e = let k = e in cc

-- no step, and one behind another
pub filled_none : (pages : ℕ → Image) (root : ℕ) → KeepsFilled pages pages root
filled_none pages root = λ n off e. e

pub filled_same : (old new : ℕ → Image) (root : ℕ) → new ≡ old → KeepsFilled old new root
filled_same old new root same = subst (λ (p : ℕ → Image). KeepsFilled old p root) (sym same) (filled_none old root)

pub filled_after : (a b c : ℕ → Image) (root : ℕ) → KeepsFilled a b root → KeepsFilled b c root → KeepsFilled a c root
filled_after a b c root one two = λ n off e. one n off (two n off e)

-- one page changed, and has cells
pub filled_one : (old new : ℕ → Image) (root page : ℕ) → ((n : ℕ) → (n ≡ page → ⊥) → new n ≡ old n) → ((new page).cells ≡ [] → ⊥) → KeepsFilled old new root
filled_one old new root page others some n off e = go (same_or_off n page)
  where
    go : (n ≡ page) ⊎ (n ≡ page → ⊥) → IsEmptyLeaf (old n)
    go (inl is) = absurd (some (subst (λ (k : ℕ). (new k).cells ≡ []) is e.none))
    go (inr far) = subst IsEmptyLeaf (others n far) e

-- a page was taken
take_filled : (old taken : ℕ → Image) (fresh n : ℕ) → TakesPage old taken fresh → IsMeta (old 0) → IsEmptyLeaf (taken n) → IsEmptyLeaf (old n)
take_filled old taken fresh n t meta e = go (same_or_off n 0)
  where
    go : (n ≡ 0) ⊎ (n ≡ 0 → ⊥) → IsEmptyLeaf (old n)
    go (inl is) = absurd (meta_full (taken 0) (t.meta meta) (subst (λ (k : ℕ). IsEmptyLeaf (taken k)) is e))
    go (inr far) = subst IsEmptyLeaf (t.others n far) e

-- a page was halved below its parent
pub split_filled : (old new : ℕ → Image) (root parent : ℕ) → Splits old new parent → IsMeta (old 0) → KeepsFilled old new root
split_filled old new root parent s meta n off e = at_parent (same_or_off n parent)
  where
    at_fresh : IsEmptyLeaf (s.halved n) → (n ≡ child_of s.cell → ⊥) → (n ≡ s.fresh) ⊎ (n ≡ s.fresh → ⊥) → IsEmptyLeaf (old n)
    at_fresh e far (inl is) = absurd (cons_some (s.halved s.fresh).cells s.halves.right s.halves.first s.halves.right_cells
        (subst (λ (k : ℕ). (s.halved k).cells ≡ []) is e.none))
    at_fresh e far (inr away) = take_filled old s.taken s.fresh n s.takes meta (subst IsEmptyLeaf (s.halves.others n far away) e)

    at_child : IsEmptyLeaf (s.halved n) → (n ≡ child_of s.cell) ⊎ (n ≡ child_of s.cell → ⊥) → IsEmptyLeaf (old n)
    at_child e (inl is) = absurd (cons_some (s.halved (child_of s.cell)).cells s.halves.left s.halves.start s.halves.left_cells
        (subst (λ (k : ℕ). (s.halved k).cells ≡ []) is e.none))
    at_child e (inr far) = at_fresh e far (same_or_off n s.fresh)

    at_parent : (n ≡ parent) ⊎ (n ≡ parent → ⊥) → IsEmptyLeaf (old n)
    at_parent (inl is) = absurd (insert_some _ _ _ (sym s.puts.is ∙ subst (λ (k : ℕ). (new k).cells ≡ []) is e.none))
    at_parent (inr far) = at_child (subst IsEmptyLeaf (s.puts.others n far) e) (same_or_off n (child_of s.cell))

-- a root with cells was raised
pub crown_filled : (old new : ℕ → Image) (root : ℕ) → Crowns old new root → IsMeta (old 0) → (root ≡ 0 → ⊥) → (IsEmptyLeaf (old root) → ⊥) → KeepsFilled old new root
crown_filled old new root s meta nonzero some n off e = go (same_or_off n s.fresh)
  where
    low : IsEmptyLeaf (new s.fresh) → IsEmptyLeaf (s.taken root)
    low f = record { kind = sym (ap (λ (h : Head). h.kind) s.low_head) ∙ f.kind; none = sym s.low_cells ∙ f.none }

    go : (n ≡ s.fresh) ⊎ (n ≡ s.fresh → ⊥) → IsEmptyLeaf (old n)
    go (inl is) = absurd (some (subst IsEmptyLeaf (s.takes.others root nonzero) (low (subst (λ (k : ℕ). IsEmptyLeaf (new k)) is e))))
    go (inr far) = take_filled old s.taken s.fresh n s.takes meta (subst IsEmptyLeaf (s.others n off far) e)

-- the root of a tree is not the meta page
pub root_off : (pages : ℕ → Image) (root : ℕ) (own free : List ℕ) (list : List (Key × List ℕ)) → TreeStands pages root own free list → root ≡ 0 → ⊥
root_off pages root own free list s e =
    s.off_meta (subst (λ (n : ℕ). IsIn n own) e (subst (λ (l : List ℕ). IsIn root l) s.own_is (root_in pages s.height root)))

-- a root that is a leaf is the leaf on the way to each key
pub leaf_root : (pages : ℕ → Image) (key : Key) (root leaf : ℕ) → HasLeaf pages key root leaf → (pages root).head.kind ≡ Leaf → root ≡ leaf
leaf_root pages key root leaf h kind = go h.steps h.is
  where
    go : (steps : ℕ) → IsLeafBelow pages key root steps leaf → root ≡ leaf
    go zero is = is.0
    go (suc steps) is = absurd (let k = sym kind ∙ is.0 in cc)

-- pages were given back
pub freed_filled : (mid new : ℕ → Image) (root : ℕ) (own free : List ℕ) (list : List (Key × List ℕ)) (ids : List ℕ) → FreesAll mid new root own free list ids
    → KeepsFilled mid new root
freed_filled mid new root own free list ids r n off e = at_meta (same_or_off n 0)
  where
    among : (n ≡ 0 → ⊥) → IsIn n ids ⊎ (IsIn n ids → ⊥) → IsEmptyLeaf (mid n)
    among z (inl i) = absurd (free_full (new n) (free_page_in new n (ids ++ free) r.stands.spare.kept (in_left n ids free i)) e)
    among z (inr far) = subst IsEmptyLeaf (r.others n z far) e

    at_meta : (n ≡ 0) ⊎ (n ≡ 0 → ⊥) → IsEmptyLeaf (mid n)
    at_meta (inl is) = absurd (meta_full (new 0) r.stands.spare.meta (subst (λ (k : ℕ). IsEmptyLeaf (new k)) is e))
    at_meta (inr z) = among z (in_or_off n ids)

-- a page lost a child, and the leaf before that got another right link
pub unlinked_filled : (old mid : ℕ → Image) (root : ℕ) (fork : Fork) → Unlinks old mid fork → KeepsFilled old mid root
unlinked_filled old mid root fork u n off e = at_page (same_or_off n fork.page)
  where
    here : fork.left ≡ Some n → IsEmptyLeaf (old n)
    here k = record { kind = sym (ap (λ (h : Head). h.kind) (u.left_head n k)) ∙ e.kind; none = sym (u.left_cells n k) ∙ e.none }

    beside : (left : ℕ) → fork.left ≡ Some left → (n ≡ fork.page → ⊥) → (n ≡ left) ⊎ (n ≡ left → ⊥) → IsEmptyLeaf (old n)
    beside left is far (inl same) = here (is ∙ ap (λ (k : ℕ). Some k) (sym same))
    beside left is far (inr away) = subst IsEmptyLeaf (u.others n far (λ k. away (sym (same_Some left n (sym is ∙ k))))) e

    at_left : (left : Option ℕ) → fork.left ≡ left → (n ≡ fork.page → ⊥) → IsEmptyLeaf (old n)
    at_left None is far = subst IsEmptyLeaf (u.others n far (λ k. none-some n (sym is ∙ k))) e
    at_left (Some left) is far = beside left is far (same_or_off n left)

    at_page : (n ≡ fork.page) ⊎ (n ≡ fork.page → ⊥) → IsEmptyLeaf (old n)
    at_page (inl is) = absurd (u.some (subst (λ (k : ℕ). (mid k).cells ≡ []) is e.none))
    at_page (inr far) = at_left fork.left refl far

-- the root alone changed
pub root_filled : (old new : ℕ → Image) (root : ℕ) (head : Head) (cells : List (List ℕ)) → Alters old new root head cells → KeepsFilled old new root
root_filled old new root head cells a = λ n off e. subst IsEmptyLeaf (a.others n off) e

-- a cell was taken from a leaf that has others
pub taken_filled : (old new : ℕ → Image) (root : ℕ) (key : Key) (count : ℕ) → Takes old new root key count → (count ≡ 1 → ⊥) → KeepsFilled old new root
taken_filled old new root key count t several =
    filled_one old new root t.leaf t.alters.others
    (λ e. left_over (old t.leaf).cells t.at t.had.found t.had.here (λ k. several (t.all ∙ k)) (sym t.alters.is ∙ e))

-- and the last one, before its leaf was freed
pub last_filled : (old mid new : ℕ → Image) (root : ℕ) (key : Key) (count : ℕ) → Takes old mid root key count → count ≡ 1 → FreesEmpty mid new root key
    → KeepsFilled mid new root → KeepsFilled old new root
last_filled old mid new root key count t one f filled n off e = go (same_or_off n t.leaf)
  where
    there : n ≡ t.leaf → ((new t.leaf).cells ≡ [] → ⊥) ⊎ (t.leaf ≡ root) ⊎ IsFreePage (new t.leaf) → ⊥
    there is (inl some) = some (subst (λ (k : ℕ). (new k).cells ≡ []) is e.none)
    there is (inr (inl top)) = off (is ∙ top)
    there is (inr (inr free)) = free_full (new t.leaf) free (subst (λ (k : ℕ). IsEmptyLeaf (new k)) is e)

    go : (n ≡ t.leaf) ⊎ (n ≡ t.leaf → ⊥) → IsEmptyLeaf (old n)
    go (inl is) = absurd (there is (last_went old mid new root key count t one f))
    go (inr far) = subst IsEmptyLeaf (t.alters.others n far) (filled n off e)

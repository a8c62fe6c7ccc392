-- The walk decides whether there is a tree, where all pages but some are blank.
use Rattle.std.proofs.Common.{◌≡◌, ◌⊎◌, inl, inr, ℕ, zero, suc, ◌≤◌, ◌==◌, Bool, true, false, List, [], ◌∷◌, ◌++◌, map, length, None, Some, refl, sym, ap, ◌∙◌, subst, arith, length-append}
use Rattle.std.proofs.lemmas.Bool.{eqb-true}
use Rattle.std.specs.List.{AllByRecursion}
use Rattle.page_store.specs.Image.{Image, blank_image}
use Rattle.page_store.specs.declared.pages.PageKind.{PageKind}
use Rattle.page_store.specs.declared.pages.PageKind.TheVariants.{Free, Leaf, Inner}
use Rattle.page_workspace.specs.Spare.{IsIn, AreApart}
use Rattle.btree_index.specs.Trees.{Entry, page_of, spread, top, tree_pages, IsShaped, IsLeafPage, IsInnerPage, Holds}
use Rattle.btree_index.proofs.ApartLaws.{in_either, in_more}
use Rattle.btree_index.proofs.TreeLaws.{one_height}
use Rattle.tree_walk.specs.declared.walks.Walked.{Walked}
use Rattle.tree_walk.specs.Walks.{IsWalked}

not_equal : (a b : ℕ) → (a == b) ≡ false → a ≡ b → ⊥
not_equal a b h e = grind arith

pub in_or_out : (n : ℕ) (xs : List ℕ) → IsIn n xs ⊎ (IsIn n xs → ⊥)
in_or_out n [] = inr (λ i. i)
in_or_out n (x ∷ xs) = go (n == x) refl (in_or_out n xs)
  where
    out : (n ≡ x → ⊥) → (IsIn n xs → ⊥) → IsIn n (x ∷ xs) → ⊥
    out a b (inl e) = a e
    out a b (inr i) = b i

    go : (t : Bool) → (n == x) ≡ t → IsIn n xs ⊎ (IsIn n xs → ⊥) → IsIn n (x ∷ xs) ⊎ (IsIn n (x ∷ xs) → ⊥)
    go true e rest = inl (inl (eqb-true n x e))
    go false e (inl i) = inl (inr i)
    go false e (inr off) = inr (out (not_equal n x e) off)

record Cut (x : ℕ) (ys : List ℕ) : Type 0 where
  front : List ℕ
  back : List ℕ
  is : ys ≡ front ++ (x ∷ back)

cut : (x : ℕ) (ys : List ℕ) → IsIn x ys → Cut x ys
cut x [] i = absurd i
cut x (y ∷ ys) (inl e) = record { front = []; back = ys; is = ap (λ (z : ℕ). z ∷ ys) (sym e) }
cut x (y ∷ ys) (inr i) = let c = cut x ys i in record { front = y ∷ c.front; back = c.back; is = ap (λ (l : List ℕ). y ∷ l) c.is }

-- numbers that are apart, among others, are no more than these
pub apart_inside : (xs ys : List ℕ) → AreApart xs → ((n : ℕ) → IsIn n xs → IsIn n ys) → length xs ≤ length ys
apart_inside [] ys apart inside = omega arith
apart_inside (x ∷ xs) ys apart inside =
    let c = cut x ys (inside x (inl refl)) in
    let less : length xs ≤ length (c.front ++ c.back) = apart_inside xs (c.front ++ c.back) apart.1 (λ n i. there n c i (subst (λ (l : List ℕ). IsIn n l) c.is (inside n (inr i)))) in
    let a = length-append c.front c.back in
    let b = length-append c.front (x ∷ c.back) in
    let d : length ys ≡ length (c.front ++ (x ∷ c.back)) = ap length c.is in
    let e : length (x ∷ c.back) ≡ suc (length c.back) = refl in
    omega (arith, less, a, b, d, e)
  where
    there : (n : ℕ) (c : Cut x ys) → IsIn n xs → IsIn n (c.front ++ (x ∷ c.back)) → IsIn n (c.front ++ c.back)
    there n c i j = go (in_more n c.front x c.back j)
      where
        go : IsIn n (c.front ++ c.back) ⊎ (n ≡ x) → IsIn n (c.front ++ c.back)
        go (inl k) = k
        go (inr e) = absurd (apart.0 (subst (λ (m : ℕ). IsIn m xs) e i))

-- the pages of a tree are not blank
leaf_written : (image : Image) → IsLeafPage image → image ≡ blank_image → ⊥
leaf_written image leaf blank = let e : ◌≡◌ {A = PageKind} Leaf Free = sym leaf.kind ∙ ap (λ (i : Image). i.head.kind) blank in cc

inner_written : (height : ℕ) (image : Image) → IsInnerPage height image → image ≡ blank_image → ⊥
inner_written height image inner blank = let e : ◌≡◌ {A = PageKind} Inner Free = sym inner.kind ∙ ap (λ (i : Image). i.head.kind) blank in cc

each_written : (pages : ℕ → Image) (P : Image → Type 0) → ((i : Image) → P i → i ≡ blank_image → ⊥) → (level : List Entry)
    → AllByRecursion (λ e. P (pages e.page)) level → (n : ℕ) → IsIn n (map page_of level) → pages n ≡ blank_image → ⊥
each_written pages P written [] h n i = absurd i
each_written pages P written (e ∷ es) h n (inl same) = λ blank. written (pages e.page) h.0 (ap pages (sym same) ∙ blank)
each_written pages P written (e ∷ es) h n (inr i) = each_written pages P written es h.1 n i

pub tree_written : (pages : ℕ → Image) (height : ℕ) (level : List Entry) → IsShaped pages height level → (n : ℕ) → IsIn n (tree_pages pages height level)
    → pages n ≡ blank_image → ⊥
tree_written pages zero level shaped n i = each_written pages (λ i. IsLeafPage i) leaf_written level shaped n i
tree_written pages (suc height) level shaped n i =
    go (in_either n (map page_of level) (tree_pages pages height (spread pages level)) i) (tree_written pages height (spread pages level) shaped.1 n)
  where
    go : IsIn n (map page_of level) ⊎ IsIn n (tree_pages pages height (spread pages level)) → (IsIn n (tree_pages pages height (spread pages level)) → pages n ≡ blank_image → ⊥)
        → pages n ≡ blank_image → ⊥
    go (inl j) deeper = each_written pages (λ i. IsInnerPage (suc height) i) (inner_written (suc height)) level shaped.0 n j
    go (inr j) deeper = deeper j

-- so a walk that is given as many pages as may be written, and finds none, tells that there is no tree
pub no_tree : (pages : ℕ → Image) (root : ℕ) (edited : List ℕ) → ((n : ℕ) → (IsIn n edited → ⊥) → pages n ≡ blank_image)
    → IsWalked pages root (length edited) None → (height : ℕ) (cells : List (List ℕ)) → Holds pages height (top root) cells → ⊥
no_tree pages root edited blank none height cells holds =
    none height cells (record { shaped = holds.shaped; fenced = holds.fenced; linked = holds.linked; is = holds.is })
    (apart_inside (tree_pages pages height (top root)) edited holds.apart (λ n i. go n i (in_or_out n edited)))
  where
    go : (n : ℕ) → IsIn n (tree_pages pages height (top root)) → IsIn n edited ⊎ (IsIn n edited → ⊥) → IsIn n edited
    go n i (inl j) = j
    go n i (inr off) = absurd (tree_written pages height (top root) holds.shaped n i (blank n off))

-- and one that finds a tree tells the tree where no page comes twice, and that there is none where one does
pub some_tree : (pages : ℕ → Image) (root limit : ℕ) (w : Walked) → IsWalked pages root limit (Some w) → AreApart w.own.items
    → (height : ℕ) × Holds pages height (top root) w.cells.items × (w.own.items ≡ tree_pages pages height (top root))
some_tree pages root limit w h apart =
    (h.0, record { shaped = h.1.shaped; fenced = h.1.fenced; linked = h.1.linked; apart = subst AreApart h.2 apart; is = h.1.is }, h.2)

pub twice_tree : (pages : ℕ → Image) (root limit : ℕ) (w : Walked) → IsWalked pages root limit (Some w) → (AreApart w.own.items → ⊥)
    → (height : ℕ) (cells : List (List ℕ)) → Holds pages height (top root) cells → ⊥
twice_tree pages root limit w h twice height cells holds =
    let same : h.0 ≡ height = one_height pages h.0 height (record { low = []; page = root }) [] h.1.shaped holds.shaped in
    twice (subst AreApart (sym (h.2 ∙ ap (λ (n : ℕ). tree_pages pages n (top root)) same)) holds.apart)

-- One tree of several, and what a change of it leaves.
use Rattle.std.proofs.Common.{◌≡◌, ◌⊎◌, inl, inr, ℕ, zero, suc, ◌+◌, ◌≤◌, ◌<◌, List, [], ◌∷◌, ◌++◌, map, refl, sym, ap, ◌∙◌, subst, arith, append_assoc, length, Some, None}
use Rattle.std.proofs.lemmas.Option.{none-some, same_Some}
use Rattle.std.specs.List.{slice_get, slice_set, remove}
use Rattle.page_store.specs.Image.{Image}
use Rattle.page_workspace.specs.Spare.{IsIn, AreApart, AreFree, count_of}
use Rattle.btree_index.specs.Keys.{Key}
use Rattle.btree_index.specs.Trees.{Holds, top, tree_pages, cells_of, leaves, pair_of}
use Rattle.btree_index.specs.Changes.{TreeStands, Changes, Becomes}
use Rattle.btree_index.proofs.ApartLaws.{in_left, in_right, in_either, apart_left, apart_right, apart_cross, apart_join}
use Rattle.btree_index.proofs.LeafLaws.{holds_same}
use Rattle.btree_index.proofs.RootLaws.{pages_same}
use Rattle.btree_index.proofs.TreeLaws.{one_list, one_height}
use Rattle.table_store.specs.Forests.{Pair, IsTree, AreTrees, joined, Forest}

-- a tree whose pages stay
pub tree_same : (old new : ℕ → Image) (root : ℕ) (own : List ℕ) (list : List Pair) → ((n : ℕ) → IsIn n own → new n ≡ old n)
    → IsTree old root own list → IsTree new root own list
tree_same old new root own list same t =
    let same_own : (n : ℕ) → IsIn n (tree_pages old t.height (top root)) → new n ≡ old n = λ n i. same n (subst (λ (l : List ℕ). IsIn n l) t.own_is i) in
    record {
      height = t.height;
      cells = t.cells;
      holds = (holds_same old new t.height (top root) t.cells same_own t.holds).holds;
      own_is = pages_same old new t.height (top root) same_own ∙ t.own_is;
      pairs = t.pairs;
    }

pub trees_same : (old new : ℕ → Image) (root : ℕ) (owns : List (List ℕ)) (lists : List (List Pair)) → ((n : ℕ) → IsIn n (joined owns) → new n ≡ old n)
    → AreTrees old root owns lists → AreTrees new root owns lists
trees_same old new root [] [] same t = tt
trees_same old new root [] (l ∷ ls) same t = absurd t
trees_same old new root (o ∷ os) [] same t = absurd t
trees_same old new root (o ∷ os) (l ∷ ls) same t = (
  tree_same old new root o l (λ n i. same n (in_left n o (joined os) i)) t.0,
  trees_same old new (suc root) os ls (λ n i. same n (in_right n o (joined os) i)) t.1,
)

-- the lists of trees, and their pages, are those of the pages alone
pub one_tree : (pages : ℕ → Image) (root : ℕ) (o p : List ℕ) (xs ys : List Pair) → IsTree pages root o xs → IsTree pages root p ys → (o ≡ p) × (xs ≡ ys)
one_tree pages root o p xs ys a b =
    let same : a.height ≡ b.height = one_height pages a.height b.height (record { low = []; page = root }) [] a.holds.shaped b.holds.shaped in
    let cells : a.cells ≡ b.cells = sym a.holds.is ∙ ap (λ (h : ℕ). cells_of pages (leaves pages h (top root))) same ∙ b.holds.is in (
      sym a.own_is ∙ ap (λ (h : ℕ). tree_pages pages h (top root)) same ∙ b.own_is,
      sym a.pairs ∙ ap (λ (cs : List (List ℕ)). map pair_of cs) cells ∙ b.pairs,
    )

pub one_forest : (pages : ℕ → Image) (root : ℕ) (os ps : List (List ℕ)) (xs ys : List (List Pair)) → length xs ≡ length ys
    → AreTrees pages root os xs → AreTrees pages root ps ys → (os ≡ ps) × (xs ≡ ys)
one_forest pages root [] [] [] [] e a b = (refl, refl)
one_forest pages root [] [] [] (y ∷ ys) e a b = absurd b
one_forest pages root [] [] (x ∷ xs) ys e a b = absurd a
one_forest pages root [] (p ∷ ps) [] [] e a b = absurd b
one_forest pages root [] (p ∷ ps) [] (y ∷ ys) e a b = absurd (absurd_length e)
  where
    absurd_length : 0 ≡ suc (length ys) → ⊥
    absurd_length e = omega arith
one_forest pages root [] (p ∷ ps) (x ∷ xs) ys e a b = absurd a
one_forest pages root (o ∷ os) ps [] ys e a b = absurd a
one_forest pages root (o ∷ os) [] (x ∷ xs) [] e a b = absurd (absurd_length e)
  where
    absurd_length : suc (length xs) ≡ 0 → ⊥
    absurd_length e = omega arith
one_forest pages root (o ∷ os) [] (x ∷ xs) (y ∷ ys) e a b = absurd b
one_forest pages root (o ∷ os) (p ∷ ps) (x ∷ xs) [] e a b = absurd b
one_forest pages root (o ∷ os) (p ∷ ps) (x ∷ xs) (y ∷ ys) e a b =
    let first = one_tree pages root o p x y a.0 b.0 in
    let less : length xs ≡ length ys = omega arith in
    let others = one_forest pages (suc root) os ps xs ys less a.1 b.1 in (
      ap (λ (h : List ℕ). h ∷ os) first.0 ∙ ap (λ (t : List (List ℕ)). p ∷ t) others.0,
      ap (λ (h : List Pair). h ∷ xs) first.1 ∙ ap (λ (t : List (List Pair)). y ∷ t) others.1,
    )

-- the tree at a place
pub tree_at : (pages : ℕ → Image) (root at id : ℕ) (owns : List (List ℕ)) (lists : List (List Pair)) (own : List ℕ) (list : List Pair)
    → slice_get owns at ≡ Some own → slice_get lists at ≡ Some list → id ≡ root + at → AreTrees pages root owns lists → IsTree pages id own list
tree_at pages root at id [] lists own list o l e t = absurd (none-some own o)
tree_at pages root at id (x ∷ xs) [] own list o l e t = absurd t
tree_at pages root zero id (x ∷ xs) (y ∷ ys) own list o l e t =
    let here : root ≡ id = omega arith in
    subst (λ (n : ℕ). IsTree pages n own list) here
    (subst (λ (k : List ℕ). IsTree pages root k list) (same_Some x own o) (subst (λ (k : List Pair). IsTree pages root x k) (same_Some y list l) t.0))
tree_at pages root (suc at) id (x ∷ xs) (y ∷ ys) own list o l e t =
    let next : id ≡ suc root + at = omega arith in
    tree_at pages (suc root) at id xs ys own list o l next t.1

-- the pages of the tree at a place, and those of the others
pub joined_own : (n at : ℕ) (owns : List (List ℕ)) (own : List ℕ) → slice_get owns at ≡ Some own → IsIn n own → IsIn n (joined owns)
joined_own n at [] own o i = absurd (none-some own o)
joined_own n zero (x ∷ xs) own o i = in_left n x (joined xs) (subst (λ (k : List ℕ). IsIn n k) (sym (same_Some x own o)) i)
joined_own n (suc at) (x ∷ xs) own o i = in_right n x (joined xs) (joined_own n at xs own o i)

pub joined_rest : (n at : ℕ) (owns : List (List ℕ)) → IsIn n (joined (remove owns at)) → IsIn n (joined owns)
joined_rest n zero [] i = i
joined_rest n (suc at) [] i = i
joined_rest n zero (x ∷ xs) i = in_right n x (joined xs) i
joined_rest n (suc at) (x ∷ xs) i = go (joined_rest n at xs) (in_either n x (joined (remove xs at)) i)
  where
    go : (IsIn n (joined (remove xs at)) → IsIn n (joined xs)) → IsIn n x ⊎ IsIn n (joined (remove xs at)) → IsIn n (joined (x ∷ xs))
    go ih (inl j) = in_left n x (joined xs) j
    go ih (inr j) = in_right n x (joined xs) (ih j)

pub in_set : (n at : ℕ) (owns : List (List ℕ)) (own more : List ℕ) → slice_get owns at ≡ Some own → IsIn n (joined (slice_set owns at more))
    → IsIn n more ⊎ IsIn n (joined (remove owns at))
in_set n at [] own more o i = absurd (none-some own o)
in_set n zero (x ∷ xs) own more o i = in_either n more (joined xs) i
in_set n (suc at) (x ∷ xs) own more o i = go (in_set n at xs own more o) (in_either n x (joined (slice_set xs at more)) i)
  where
    deeper : IsIn n more ⊎ IsIn n (joined (remove xs at)) → IsIn n more ⊎ IsIn n (joined (x ∷ remove xs at))
    deeper (inl j) = inl j
    deeper (inr j) = inr (in_right n x (joined (remove xs at)) j)

    go : (IsIn n (joined (slice_set xs at more)) → IsIn n more ⊎ IsIn n (joined (remove xs at)))
        → IsIn n x ⊎ IsIn n (joined (slice_set xs at more)) → IsIn n more ⊎ IsIn n (joined (x ∷ remove xs at))
    go ih (inl j) = inr (in_left n x (joined (remove xs at)) j)
    go ih (inr j) = deeper (ih j)

pub apart_beside : (n at : ℕ) (owns : List (List ℕ)) (own : List ℕ) → slice_get owns at ≡ Some own → AreApart (joined owns) → IsIn n own
    → IsIn n (joined (remove owns at)) → ⊥
apart_beside n at [] own o a i j = none-some own o
apart_beside n zero (x ∷ xs) own o a i j =
    apart_cross n x (joined xs) a (subst (λ (k : List ℕ). IsIn n k) (sym (same_Some x own o)) i) j
apart_beside n (suc at) (x ∷ xs) own o a i j =
    go (apart_beside n at xs own o (apart_right x (joined xs) a) i) (in_either n x (joined (remove xs at)) j)
  where
    go : (IsIn n (joined (remove xs at)) → ⊥) → IsIn n x ⊎ IsIn n (joined (remove xs at)) → ⊥
    go ih (inl k) = apart_cross n x (joined xs) a k (joined_own n at xs own o i)
    go ih (inr k) = ih k

pub apart_set : (at : ℕ) (owns : List (List ℕ)) (own more : List ℕ) → slice_get owns at ≡ Some own → AreApart (joined owns) → AreApart more
    → ((n : ℕ) → IsIn n more → IsIn n (joined (remove owns at)) → ⊥) → AreApart (joined (slice_set owns at more))
apart_set at [] own more o a b off = absurd (none-some own o)
apart_set zero (x ∷ xs) own more o a b off = apart_join more (joined xs) b (apart_right x (joined xs) a) off
apart_set (suc at) (x ∷ xs) own more o a b off =
    apart_join x (joined (slice_set xs at more)) (apart_left x (joined xs) a)
    (apart_set at xs own more o (apart_right x (joined xs) a) b (λ n i j. off n i (in_right n x (joined (remove xs at)) j)))
    (λ n i j. go n i (in_set n at xs own more o j))
  where
    go : (n : ℕ) → IsIn n x → IsIn n more ⊎ IsIn n (joined (remove xs at)) → ⊥
    go n i (inl j) = off n j (in_left n x (joined (remove xs at)) i)
    go n i (inr j) = apart_cross n x (joined xs) a i (joined_rest n at xs j)

pub trees_set : (old new : ℕ → Image) (root at id : ℕ) (owns : List (List ℕ)) (lists : List (List Pair)) (own more : List ℕ) (list after : List Pair)
    → slice_get owns at ≡ Some own → slice_get lists at ≡ Some list → id ≡ root + at
    → ((n : ℕ) → IsIn n (joined (remove owns at)) → new n ≡ old n) → IsTree new id more after
    → AreTrees old root owns lists → AreTrees new root (slice_set owns at more) (slice_set lists at after)
trees_set old new root at id [] lists own more list after o l e same now t = absurd (none-some own o)
trees_set old new root at id (x ∷ xs) [] own more list after o l e same now t = absurd t
trees_set old new root zero id (x ∷ xs) (y ∷ ys) own more list after o l e same now t =
    let here : id ≡ root = omega arith in
    (subst (λ (n : ℕ). IsTree new n more after) here now, trees_same old new (suc root) xs ys same t.1)
trees_set old new root (suc at) id (x ∷ xs) (y ∷ ys) own more list after o l e same now t =
    let next : id ≡ suc root + at = omega arith in (
      tree_same old new root x y (λ n i. same n (in_left n x (joined (remove xs at)) i)) t.0,
      trees_set old new (suc root) at id xs ys own more list after o l next (λ n i. same n (in_right n x (joined (remove xs at)) i)) now t.1,
    )

-- what a change of one tree needs
pub stands_at : (pages : ℕ → Image) (root at id : ℕ) (owns : List (List ℕ)) (free : List ℕ) (lists : List (List Pair)) (own : List ℕ) (list : List Pair)
    → slice_get owns at ≡ Some own → slice_get lists at ≡ Some list → id ≡ root + at → Forest pages root owns free lists → TreeStands pages id own free list
stands_at pages root at id owns free lists own list o l e f =
    let t = tree_at pages root at id owns lists own list o l e f.trees in
    record {
      height = t.height;
      cells = t.cells;
      holds = t.holds;
      own_is = t.own_is;
      pairs = t.pairs;
      spare = f.spare;
      off_meta = λ i. f.off_meta (joined_own 0 at owns own o i);
      off_free = λ n i j. f.off_free n (joined_own n at owns own o i) j;
      below = λ n i. f.below n (joined_own n at owns own o i);
    }

-- and what it leaves: all others hold what they held
pub forest_step : (old new : ℕ → Image) (root at id : ℕ) (owns : List (List ℕ)) (free : List ℕ) (lists : List (List Pair)) (own : List ℕ) (list after : List Pair)
    → slice_get owns at ≡ Some own → slice_get lists at ≡ Some list → id ≡ root + at → Forest old root owns free lists
    → (b : Becomes old new id own free after) → Forest new root (slice_set owns at b.more) b.spare (slice_set lists at after)
forest_step old new root at id owns free lists own list after o l e f b =
    record {
      trees = trees_set old new root at id owns lists own b.more list after o l e same now f.trees;
      apart = apart_set at owns own b.more o f.apart more_apart (λ n i j. beside n j (b.changes.tree n i));
      spare = b.stands.spare;
      off_meta = λ i. meta (in_set 0 at owns own b.more o i);
      off_free = λ n i j. free_off n j (in_set n at owns own b.more o i);
      below = λ n i. under n (in_set n at owns own b.more o i);
    }
  where
    past : (n : ℕ) → count_of old ≤ n → n < count_of old → ⊥
    past n h k = omega arith

    later : (n : ℕ) → n < count_of old → count_of old ≤ count_of new → n < count_of new
    later n h k = omega arith

    beside : (n : ℕ) → IsIn n (joined (remove owns at)) → IsIn n own ⊎ IsIn n free ⊎ (count_of old ≤ n) → ⊥
    beside n j (inl i) = apart_beside n at owns own o f.apart i j
    beside n j (inr (inl i)) = f.off_free n (joined_rest n at owns j) i
    beside n j (inr (inr h)) = past n h (f.below n (joined_rest n at owns j))

    same : (n : ℕ) → IsIn n (joined (remove owns at)) → new n ≡ old n
    same n j = b.changes.others n (f.below n (joined_rest n at owns j))
        (λ z. f.off_meta (subst (λ (k : ℕ). IsIn k (joined owns)) z (joined_rest n at owns j)))
        (λ i. beside n j (inl i)) (λ i. beside n j (inr (inl i)))

    now : IsTree new id b.more after
    now = record { height = b.stands.height; cells = b.stands.cells; holds = b.stands.holds; own_is = b.stands.own_is; pairs = b.stands.pairs }

    more_apart : AreApart b.more
    more_apart = subst AreApart b.stands.own_is b.stands.holds.apart

    meta : IsIn 0 b.more ⊎ IsIn 0 (joined (remove owns at)) → ⊥
    meta (inl i) = b.stands.off_meta i
    meta (inr i) = f.off_meta (joined_rest 0 at owns i)

    free_off : (n : ℕ) → IsIn n b.spare → IsIn n b.more ⊎ IsIn n (joined (remove owns at)) → ⊥
    free_off n j (inl i) = b.stands.off_free n i j
    free_off n j (inr i) = beside n i (b.changes.unused n j)

    under : (n : ℕ) → IsIn n b.more ⊎ IsIn n (joined (remove owns at)) → n < count_of new
    under n (inl i) = b.stands.below n i
    under n (inr i) = later n (f.below n (joined_rest n at owns i)) b.changes.count

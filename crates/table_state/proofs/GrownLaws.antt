-- Trees that the walks gave, on their own pages, are a forest; and the pages of any forest are those.
use Rattle.std.proofs.Common.{◌≡◌, ◌⊎◌, inl, inr, ℕ, zero, suc, ◌+◌, ◌^◌, ◌<◌, List, [], ◌∷◌, ◌++◌, length, Option, None, Some, refl, sym, ap, ◌∙◌, subst, arith}
use Rattle.std.specs.List.{AllByRecursion}
use Rattle.page_store.specs.Image.{Image}
use Rattle.page_workspace.specs.Spare.{IsIn, AreApart, IsChain, first_free, count_of}
use Rattle.btree_index.specs.Trees.{top, tree_pages, leaves}
use Rattle.table_state.specs.Listed.{Climb, AllClimb}
use Rattle.table_state.proofs.ClimbLaws.{cells_climb}
use Rattle.btree_index.proofs.ApartLaws.{in_left, in_right, in_either, apart_left, apart_right, apart_cross, apart_join}
use Rattle.btree_index.proofs.TreeLaws.{one_height}
use Rattle.tree_walk.specs.declared.walks.Walked.{Walked}
use Rattle.tree_walk.specs.Walks.{IsWalked}
use Rattle.tree_walk.proofs.WrittenLaws.{some_tree, no_tree}
use Rattle.table_store.specs.Forests.{Pair, IsTree, AreTrees, joined, Forest}
use Rattle.table_state.specs.declared.reserves.Reserve.{Reserve}
use Rattle.table_state.specs.declared.forests.Found.{Found}
use Rattle.table_state.specs.Reserves.{HasReserve, HasNoReserve}
use Rattle.table_state.specs.Grown.{own_of, owns_of, lists_of, AreWalked, AreGrown, IsFelled, AreOwn}
use Rattle.std.specs.Result.{IfOk}
use Rattle.std.proofs.Common.{Result, Ok, Err}
use Rattle.table_state.specs.Found.{HasForest, HasNoForest, IsGathered, IsFound}
use Rattle.table_state.proofs.ReserveLaws.{AreBlankBut}

-- one walk more
pub walked_more : (pages : ℕ → Image) (root at limit : ℕ) (trees : List Walked) (tree : Walked) → AreWalked pages root limit trees
    → at ≡ root + length trees → IsWalked pages at limit (Some tree) → AreWalked pages root limit (trees ++ tree ∷ [])
walked_more pages root at limit [] tree w e h = let same : at ≡ root = omega arith in (subst (λ (n : ℕ). IsWalked pages n limit (Some tree)) same h, tt)
walked_more pages root at limit (t ∷ ts) tree w e h =
    let next : at ≡ suc root + length ts = omega arith in
    (w.0, walked_more pages (suc root) at limit ts tree w.1 next h)

trees_stand : (pages : ℕ → Image) (root limit : ℕ) (trees : List Walked) → AreWalked pages root limit trees → AreApart (joined (owns_of trees))
    → AreTrees pages root (owns_of trees) (lists_of trees)
trees_stand pages root limit [] w apart = tt
trees_stand pages root limit (t ∷ ts) w apart =
    let s = some_tree pages root limit t w.0 (apart_left (own_of t) (joined (owns_of ts)) apart) in (
      record { height = s.0; cells = t.cells.items; holds = s.1; own_is = sym s.2; pairs = refl },
      trees_stand pages (suc root) limit ts w.1 (apart_right (own_of t) (joined (owns_of ts)) apart),
    )

-- their cells climb
trees_climb : (pages : ℕ → Image) (root limit : ℕ) (trees : List Walked) → AreWalked pages root limit trees → AllClimb trees
trees_climb pages root limit [] w = tt
trees_climb pages root limit (t ∷ ts) w =
    (subst Climb w.0.1.is (cells_climb pages (leaves pages w.0.0 (top root)) w.0.1.fenced), trees_climb pages (suc root) limit ts w.1)

-- the pages of a tree are those that its walk gave
same_own : (pages : ℕ → Image) (root limit : ℕ) (t : Walked) (own : List ℕ) (list : List Pair) → IsWalked pages root limit (Some t) → IsTree pages root own list
    → own ≡ own_of t
same_own pages root limit t own list w tree =
    let same : tree.height ≡ w.0 = one_height pages tree.height w.0 (record { low = []; page = root }) [] tree.holds.shaped w.1.shaped in
    sym tree.own_is ∙ ap (λ (h : ℕ). tree_pages pages h (top root)) same ∙ sym w.2

pub same_owns : (pages : ℕ → Image) (root limit : ℕ) (trees : List Walked) (owns : List (List ℕ)) (lists : List (List Pair)) → AreWalked pages root limit trees
    → AreTrees pages root owns lists → length trees ≡ length lists → owns ≡ owns_of trees
same_owns pages root limit [] [] [] w t e = refl
same_owns pages root limit [] [] (l ∷ ls) w t e = absurd t
same_owns pages root limit [] (o ∷ os) [] w t e = absurd t
same_owns pages root limit [] (o ∷ os) (l ∷ ls) w t e = absurd (none (length ls) e)
  where
    none : (n : ℕ) → 0 ≡ suc n → ⊥
    none n e = omega arith
same_owns pages root limit (x ∷ xs) [] [] w t e = absurd (none (length xs) e)
  where
    none : (n : ℕ) → suc n ≡ 0 → ⊥
    none n e = omega arith
same_owns pages root limit (x ∷ xs) [] (l ∷ ls) w t e = absurd t
same_owns pages root limit (x ∷ xs) (o ∷ os) [] w t e = absurd t
same_owns pages root limit (x ∷ xs) (o ∷ os) (l ∷ ls) w t e =
    let less : length xs ≡ length ls = omega arith in
    ap (λ (k : List ℕ). k ∷ os) (same_own pages root limit x o l w.0 t.0)
    ∙ ap (λ (k : List (List ℕ)). own_of x ∷ k) (same_owns pages (suc root) limit xs os ls w.1 t.1 less)

-- a chain is known from its first page
one_chain : (pages : ℕ → Image) (id : ℕ) (xs ys : List ℕ) → IsChain pages id xs → IsChain pages id ys → xs ≡ ys
one_chain pages id [] [] c d = refl
one_chain pages id [] (y ∷ ys) c d = absurd (d.1 (sym d.0 ∙ c))
one_chain pages id (x ∷ xs) [] c d = absurd (c.1 (sym c.0 ∙ d))
one_chain pages id (x ∷ xs) (y ∷ ys) c d =
    let same : x ≡ y = sym c.0 ∙ d.0 in
    ap (λ (n : ℕ). n ∷ xs) same
    ∙ ap (λ (l : List ℕ). y ∷ l) (one_chain pages (pages y).head.right xs ys (subst (λ (n : ℕ). IsChain pages (pages n).head.right xs) same c.2) d.2)

chain_some : (pages : ℕ → Image) (id : ℕ) (xs : List ℕ) → IsChain pages id xs → (n : ℕ) → IsIn n xs → 0 < n
chain_some pages id [] c n i = absurd i
chain_some pages id (x ∷ xs) c n (inl e) = let other : x ≡ 0 → ⊥ = c.1 in omega (arith, other, e)
chain_some pages id (x ∷ xs) c n (inr i) = chain_some pages (pages x).head.right xs c.2 n i

all_in : (P : ℕ → Type 0) (xs : List ℕ) → AllByRecursion P xs → (n : ℕ) → IsIn n xs → P n
all_in P [] a n i = absurd i
all_in P (x ∷ xs) a n (inl e) = subst P (sym e) a.0
all_in P (x ∷ xs) a n (inr i) = all_in P xs a.1 n i

in_all : (P : ℕ → Type 0) (xs : List ℕ) → ((n : ℕ) → IsIn n xs → P n) → AllByRecursion P xs
in_all P [] f = tt
in_all P (x ∷ xs) f = (f x (inl refl), in_all P xs (λ n i. f n (inr i)))

-- a forest's pages are apart
forest_own : (pages : ℕ → Image) (owns : List (List ℕ)) (free : List ℕ) (lists : List (List Pair)) → Forest pages 1 owns free lists
    → AreOwn (joined owns ++ free) (count_of pages)
forest_own pages owns free lists f = record {
  apart = apart_join (joined owns) free f.apart f.spare.apart f.off_free;
  within = λ n i. go n (in_either n (joined owns) free i);
}
  where
    above : (n : ℕ) → (n ≡ 0 → ⊥) → 0 < n
    above n other = omega arith

    go : (n : ℕ) → IsIn n (joined owns) ⊎ IsIn n free → (0 < n) × (n < count_of pages)
    go n (inl i) = (above n (λ e. f.off_meta (subst (λ (k : ℕ). IsIn k (joined owns)) e i)), f.below n i)
    go n (inr i) = (chain_some pages (first_free pages) free f.spare.chain n i, all_in (λ k. k < count_of pages) free f.spare.written n i)

-- what was found is a forest
pub forest_there : (pages : ℕ → Image) (number limit : ℕ) (r : Reserve) (found : Found) → HasReserve pages r → AreGrown pages number limit found.trees.items
    → AreOwn (joined (owns_of found.trees.items) ++ r.free.items) r.count → found.next ≡ r.next → found.free.items ≡ r.free.items → HasForest pages number found
forest_there pages number limit r found h g own next free =
    let all = joined (owns_of found.trees.items) in
    let apart : AreApart all = apart_left all r.free.items own.apart in
    record {
      forest = subst (λ (l : List ℕ). Forest pages 1 (owns_of found.trees.items) l (lists_of found.trees.items)) (sym free) (record {
        trees = trees_stand pages 1 limit found.trees.items g.walked apart;
        apart = apart;
        spare = record {
          meta = h.meta;
          chain = h.chain;
          apart = apart_right all r.free.items own.apart;
          written = in_all (λ k. k < count_of pages) r.free.items (λ n i. subst (λ (k : ℕ). n < k) h.count (own.within n (in_right n all r.free.items i)).1);
          kept = h.kept;
          past = h.past;
        };
        off_meta = λ i. (let some : 0 < 0 = (own.within 0 (in_left 0 all r.free.items i)).0 in omega (arith, some));
        off_free = λ n i j. apart_cross n all r.free.items own.apart i j;
        below = λ n i. subst (λ (k : ℕ). n < k) h.count (own.within n (in_left n all r.free.items i)).1;
      });
      number = g.number_is;
      next = next ∙ h.next;
      next_small = subst (λ (n : ℕ). n < 2 ^ 62) (sym next) h.next_small;
      count_small = subst (λ (n : ℕ). n < 2 ^ 62) h.count h.count_small;
      climb = trees_climb pages 1 limit found.trees.items g.walked;
    }

-- no forest stands where the free pages do not
pub forest_unreserved : (pages : ℕ → Image) (number : ℕ) → HasNoReserve pages → HasNoForest pages number
forest_unreserved pages number wrong owns free lists e f next count = wrong free f.spare next count

-- none stands where a walk gives none
tree_there : (pages : ℕ → Image) (root at id : ℕ) (owns : List (List ℕ)) (lists : List (List Pair)) → at < length lists → id ≡ root + at
    → AreTrees pages root owns lists → (own : List ℕ) × (list : List Pair) × IsTree pages id own list
tree_there pages root at id [] [] less e t = absurd (none at less)
  where
    none : (n : ℕ) → n < 0 → ⊥
    none n h = omega arith
tree_there pages root at id [] (l ∷ ls) less e t = absurd t
tree_there pages root at id (o ∷ os) [] less e t = absurd t
tree_there pages root zero id (o ∷ os) (l ∷ ls) less e t =
    let same : root ≡ id = omega arith in (o, l, subst (λ (n : ℕ). IsTree pages n o l) same t.0)
tree_there pages root (suc at) id (o ∷ os) (l ∷ ls) less e t =
    let next : id ≡ suc root + at = omega arith in tree_there pages (suc root) at id os ls (omega (arith, less)) next t.1

pub forest_felled : (pages : ℕ → Image) (number : ℕ) (edited : List ℕ) → AreBlankBut pages edited → IsFelled pages number (length edited) → HasNoForest pages number
forest_felled pages number edited blank f owns free lists e forest next count =
    let less : f.at < length lists = subst (λ (n : ℕ). f.at < n) (sym e) f.less in
    let t = tree_there pages 1 f.at (1 + f.at) owns lists less refl forest.trees in
    no_tree pages (1 + f.at) edited blank f.none t.2.height t.2.cells t.2.holds

-- none stands where the pages of what was found are not apart
pub forest_not_own : (pages : ℕ → Image) (number limit : ℕ) (r : Reserve) (trees : List Walked) → HasReserve pages r → AreGrown pages number limit trees
    → (AreOwn (joined (owns_of trees) ++ r.free.items) r.count → ⊥) → HasNoForest pages number
forest_not_own pages number limit r trees h g wrong owns free lists e forest next count =
    let own : owns ≡ owns_of trees = same_owns pages 1 limit trees owns lists g.walked forest.trees (g.number_is ∙ sym e) in
    let chained : free ≡ r.free.items = one_chain pages (first_free pages) free r.free.items forest.spare.chain h.chain in
    wrong (subst (λ (n : ℕ). AreOwn (joined (owns_of trees) ++ r.free.items) n) (sym h.count)
    (subst (λ (l : List ℕ). AreOwn (joined (owns_of trees) ++ l) (count_of pages)) chained
    (subst (λ (os : List (List ℕ)). AreOwn (joined os ++ free) (count_of pages)) own (forest_own pages owns free lists forest))))

-- what is gathered tells it
pub forest_told : (pages : ℕ → Image) (number limit : ℕ) (r : Reserve) (trees : List Walked) (answer : Option Found) → HasReserve pages r
    → AreGrown pages number limit trees → IsGathered r trees answer → IsFound pages number answer
forest_told pages number limit r trees None h g wrong = forest_not_own pages number limit r trees h g wrong
forest_told pages number limit r trees (Some found) h g all =
    forest_there pages number limit r found h (subst (λ (l : List Walked). AreGrown pages number limit l) (sym all.trees) g)
    (subst (λ (l : List Walked). AreOwn (joined (owns_of l) ++ r.free.items) r.count) (sym all.trees) all.own) all.next all.free

pub forest_answer : {E : Type 0} (pages : ℕ → Image) (number limit : ℕ) (r : Reserve) (trees : List Walked) (answer : Result (Option Found) E) → HasReserve pages r
    → AreGrown pages number limit trees → IfOk answer (IsGathered r trees) → IfOk answer (IsFound pages number)
forest_answer pages number limit r trees (Ok o) h g all = forest_told pages number limit r trees o h g all
forest_answer pages number limit r trees (Err e) h g all = tt

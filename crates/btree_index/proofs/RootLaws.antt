-- A page taken, a page halved under its parent, and a root raised, in a tree among other pages.
use Rattle.std.proofs.Common.{◌≡◌, ◌⊎◌, inl, inr, ℕ, zero, suc, ◌+◌, ◌≤◌, ◌<◌, ◌^◌, List, [], ◌∷◌, ◌++◌, map, length, Some, min, refl, sym, ap, ◌∙◌, subst, arith, add-one, lit≤}
use Rattle.std.specs.List.{AllByRecursion, insert, slice_get}
use Rattle.page_store.specs.Image.{Image, HasRoom, taken}
use Rattle.page_store.specs.declared.pages.Head.{Head}
use Rattle.page_store.specs.declared.pages.PageKind.TheVariants.{Inner}
use Rattle.page_workspace.specs.Spare.{IsIn, AreApart, count_of}
use Rattle.page_workspace.specs.Chains.{LeavesFree}
use Rattle.page_workspace.specs.Takes.{TakesPage}
use Rattle.page_workspace.proofs.ChainLaws.{free_less}
use Rattle.btree_index.specs.Keys.{Key}
use Rattle.btree_index.specs.Cells.{child_of, inner_cell, IsLeafCell, IsInnerCell}
use Rattle.btree_index.specs.Trees.{Entry, page_of, below, spread, leaves, tree_pages, IsShaped, IsLeafPage, IsInnerPage, BeginsEmpty, IsFenced, Holds, top}
use Rattle.btree_index.specs.Ways.{IsAt}
use Rattle.btree_index.specs.Changes.{raise, TreeStands, Changes, Becomes, IsPath, Leads}
use Rattle.btree_index.specs.Steps.{Alters, Halves, Splits, Crowns}
use Rattle.btree_index.proofs.ApartLaws.{in_left, in_right, apart_right, apart_cross}
use Rattle.btree_index.proofs.CellLemmas.{child_of-cell, inner_key_is, inner_cell_is, inner_length}
use Rattle.btree_index.proofs.LevelLemmas.{Grown, SameOn, climb, uppers, all_pages, holds_down, shaped_down, spread-same}
use Rattle.btree_index.proofs.LeafLaws.{holds_same}
use Rattle.btree_index.proofs.HalfLemmas.{half_level}
use Rattle.btree_index.proofs.ParentLemmas.{half_parent, level_inside, child_inside}
use Rattle.btree_index.proofs.StandLemmas.{IsFresh, becomes}
use Rattle.btree_index.proofs.WayLemmas.{not_leaf}

-- the root is one of the tree's pages
pub root_in : (pages : ℕ → Image) (height root : ℕ) → IsIn root (tree_pages pages height (top root))
root_in pages zero root = inl refl
root_in pages (suc height) root = inl refl

pub pages_same : (old new : ℕ → Image) (height : ℕ) (level : List Entry) → SameOn old new (tree_pages old height level)
    → tree_pages new height level ≡ tree_pages old height level
pages_same old new zero level same = refl
pages_same old new (suc height) level same =
    ap (λ (l : List Entry). map page_of level ++ tree_pages new height l)
    (spread-same old new level (λ n i. same n (in_left n (map page_of level) (tree_pages old height (spread old level)) i)))
    ∙ ap (λ (l : List ℕ). map page_of level ++ l)
    (pages_same old new height (spread old level) (λ n i. same n (in_right n (map page_of level) (tree_pages old height (spread old level)) i)))

-- a page was taken, and the tree stands as before
pub record Took (old new : ℕ → Image) (root : ℕ) (own free : List ℕ) (list : List (Key × List ℕ)) (fresh : ℕ) : Type 0 where
  pub rest : List ℕ
  pub stands : TreeStands new root own rest list
  pub changes : Changes old new own own free rest
  pub fresh_is : IsFresh old new free rest fresh
  pub kept : (n : ℕ) → IsIn n free → (n ≡ fresh) ⊎ IsIn n rest
  pub only : (n : ℕ) → count_of old ≤ n → n < count_of new → n ≡ fresh
  pub off : IsIn fresh own → ⊥
  pub same : SameOn old new own

pub took : (old new : ℕ → Image) (root fresh : ℕ) (own free : List ℕ) (list : List (Key × List ℕ)) → TakesPage old new fresh
    → TreeStands old root own free list → Took old new root own free list fresh
took old new root fresh own free list takes stands =
    let same : SameOn old new own = λ n i. takes.others n (λ e. stands.off_meta (subst (λ (k : ℕ). IsIn k own) e i)) in
    let pages : SameOn old new (tree_pages old stands.height (top root)) = λ n i. same n (subst (λ (l : List ℕ). IsIn n l) stands.own_is i) in
    let grown = holds_same old new stands.height (top root) stands.cells pages stands.holds in
    let rooted : root < count_of old = stands.below root (subst (λ (l : List ℕ). IsIn root l) stands.own_is (root_in old stands.height root)) in
    let l : LeavesFree old new fresh free = free_less old new fresh free stands.spare takes (λ e. omega (arith, e, rooted)) in
    let more : count_of old ≤ count_of new = l.count in
    record {
      rest = l.rest;
      stands = record {
        height = stands.height;
        cells = stands.cells;
        holds = grown.holds;
        own_is = pages_same old new stands.height (top root) pages ∙ stands.own_is;
        pairs = stands.pairs;
        spare = l.spare;
        off_meta = stands.off_meta;
        off_free = λ n i j. stands.off_free n i (l.from n j);
        below = λ n i. (let b : n < count_of old = stands.below n i in omega arith);
      };
      changes = record {
        genid = takes.genid;
        count = l.count;
        few = l.few;
        others = λ n h some off_own off_free. takes.others n some;
        tree = λ n i. inl i;
        unused = λ n i. inr (inl (l.from n i));
      };
      fresh_is = record { was = l.was; below = l.below; some = l.some; off = l.off };
      kept = l.keeps;
      only = l.only;
      off = λ i. off i l.was;
      same = same;
    }
  where
    off : IsIn fresh own → IsIn fresh free ⊎ (count_of old ≤ fresh) → ⊥
    off i (inl j) = stands.off_free fresh i j
    off i (inr p) = let b : fresh < count_of old = stands.below fresh i in omega (arith, b, p)

-- the way is as before, where no page of the tree changed
leaves_same : (old new : ℕ → Image) (depth : ℕ) (level : List Entry) → SameOn old new (uppers old depth level) → leaves new depth level ≡ leaves old depth level
leaves_same old new zero level same = refl
leaves_same old new (suc depth) level same =
    ap (λ (l : List Entry). leaves new depth l)
    (spread-same old new level (λ n i. same n (in_left n (map page_of level) (uppers old depth (spread old level)) i)))
    ∙ leaves_same old new depth (spread old level) (λ n i. same n (in_right n (map page_of level) (uppers old depth (spread old level)) i))

path_same : (old new : ℕ → Image) (root : ℕ) (key : Key) (page height : ℕ) → SameOn old new (tree_pages old height (top root))
    → IsPath old root key page height → IsPath new root key page height
path_same old new root key page height same path =
    let tall : SameOn old new (tree_pages old (raise path.depth path.rest) (top root)) =
    subst (λ (h : ℕ). SameOn old new (tree_pages old h (top root))) (sym path.tall) same in
    let upper : SameOn old new (uppers old path.depth (top root)) =
    λ n i. tall n (subst (λ (l : List ℕ). IsIn n l) (sym (all_pages old path.depth path.rest (top root)))
    (in_left n (uppers old path.depth (top root)) (tree_pages old path.rest (leaves old path.depth (top root))) i)) in
    record {
      depth = path.depth;
      rest = path.rest;
      tall = path.tall;
      at = subst (λ (l : List Entry). IsAt l key page) (sym (leaves_same old new path.depth (top root) upper)) path.at;
    }

-- a page halved under a parent, seen from the root
pub record SplitTree (mid new : ℕ → Image) (root parent child fresh height : ℕ) (cells : List (List ℕ)) : Type 0 where
  pub grown : Grown mid new (λ n. n ≡ fresh) height (top root) (top root) cells
  pub parent_in : IsIn parent (tree_pages mid height (top root))
  pub child_in : IsIn child (tree_pages mid height (top root))

pub split_down : (mid halved new : ℕ → Image) (root : ℕ) (key : Key) (parent fresh : ℕ) (separator : Key) (at : ℕ) (cell : List ℕ) (depth height : ℕ)
    (cells : List (List ℕ)) → Holds mid (raise depth (suc height)) (top root) cells → IsAt (leaves mid depth (top root)) key parent
    → slice_get (mid parent).cells at ≡ Some cell → length separator ≤ 1630 → fresh < 2 ^ 64 → Halves mid halved (child_of cell) fresh separator
    → Alters halved new parent (halved parent).head (insert (halved parent).cells (at + 1) (inner_cell separator fresh)) → HasRoom (new parent).cells
    → (IsIn fresh (tree_pages mid (raise depth (suc height)) (top root)) → ⊥)
    → SplitTree mid new root parent (child_of cell) fresh (raise depth (suc height)) cells
split_down mid halved new root key parent fresh separator at cell depth height cells h path here short small halves puts room off =
    let e : Entry = record { low = path.low; page = parent } in
    let level = path.front ++ (e ∷ path.others) in
    let upper = uppers mid depth (top root) in
    let lower = tree_pages mid (suc height) (leaves mid depth (top root)) in
    let all : tree_pages mid (raise depth (suc height)) (top root) ≡ upper ++ lower = all_pages mid depth (suc height) (top root) in
    let down : Holds mid (suc height) (leaves mid depth (top root)) cells = holds_down mid depth (suc height) (top root) cells h in
    let holds : Holds mid (suc height) level cells = subst (λ (l : List Entry). Holds mid (suc height) l cells) path.is down in
    let deeper = tree_pages mid height (spread mid level) in
    let here_pages = map page_of level in
    let lower_is : lower ≡ here_pages ++ deeper = ap (λ (l : List Entry). tree_pages mid (suc height) l) path.is in
    let apart : AreApart (upper ++ lower) = subst AreApart all h.apart in
    let off_lower : IsIn fresh (here_pages ++ deeper) → ⊥ =
    λ i. off (subst (λ (l : List ℕ). IsIn fresh l) (sym all) (in_right fresh upper lower (subst (λ (l : List ℕ). IsIn fresh l) (sym lower_is) i))) in
    let parent_here : IsIn parent here_pages = level_inside mid 0 path.front e path.others in
    let child_deep : IsIn (child_of cell) deeper = child_inside mid height path.front e path.others at cell here in
    let parent_low : IsIn parent lower = subst (λ (l : List ℕ). IsIn parent l) (sym lower_is) (in_left parent here_pages deeper parent_here) in
    let child_low : IsIn (child_of cell) lower = subst (λ (l : List ℕ). IsIn (child_of cell) l) (sym lower_is) (in_right (child_of cell) here_pages deeper child_deep) in
    let off_child : parent ≡ child_of cell → ⊥ =
    λ k. apart_cross parent here_pages deeper holds.apart parent_here (subst (λ (n : ℕ). IsIn n deeper) (sym k) child_deep) in
    let off_fresh : parent ≡ fresh → ⊥ = λ k. off_lower (subst (λ (n : ℕ). IsIn n (here_pages ++ deeper)) k (in_left parent here_pages deeper parent_here)) in
    let parent_is : halved parent ≡ mid parent = halves.others parent off_child off_fresh in
    let more = inner_cell separator fresh in
    let same : (n : ℕ) → (n ≡ parent → ⊥) → (n ≡ child_of cell → ⊥) → (n ≡ fresh → ⊥) → new n ≡ mid n =
    λ n a b c. puts.others n a ∙ halves.others n b c in
    let grown : Grown mid new (λ n. n ≡ fresh) (suc height) level level cells =
    half_parent mid new height path.front e path.others at cell fresh separator cells more holds here
    (inner_key_is separator fresh short) (child_of-cell separator fresh short small) (inner_cell_is separator fresh short) room
    (puts.head_is ∙ ap (λ (i : Image). i.head) parent_is)
    (puts.is ∙ ap (λ (i : Image). insert i.cells (at + 1) more) parent_is ∙ ap (λ (n : ℕ). insert (mid parent).cells n more) (add-one at))
    off_lower same
    (λ before m behind child_is old_is. below_it before m behind child_is old_is holds off_lower parent_here off_fresh) in
    let there : Grown mid new (λ n. n ≡ fresh) (suc height) (leaves mid depth (top root)) (leaves mid depth (top root)) cells =
    subst (λ (l : List Entry). Grown mid new (λ n. n ≡ fresh) (suc height) l l cells) (sym path.is) grown in
    record {
      grown = climb mid new (λ n. n ≡ fresh) depth (suc height) (top root) cells h.shaped
          (λ n i. same n (λ k. apart_cross n upper lower apart i (subst (λ (j : ℕ). IsIn j lower) (sym k) parent_low))
          (λ k. apart_cross n upper lower apart i (subst (λ (j : ℕ). IsIn j lower) (sym k) child_low))
          (λ k. off (subst (λ (l : List ℕ). IsIn fresh l) (sym all) (subst (λ (j : ℕ). IsIn j (upper ++ lower)) k (in_left n upper lower i)))))
          (λ n i k. off (subst (λ (l : List ℕ). IsIn fresh l) (sym all) (subst (λ (j : ℕ). IsIn j (upper ++ lower)) k (in_left n upper lower i))))
          h.apart there;
      parent_in = subst (λ (l : List ℕ). IsIn parent l) (sym all) (in_right parent upper lower parent_low);
      child_in = subst (λ (l : List ℕ). IsIn (child_of cell) l) (sym all) (in_right (child_of cell) upper lower child_low);
    }
  where
    below_it : (before : List Entry) (m : Entry) (behind : List Entry) → m.page ≡ child_of cell
        → spread mid (path.front ++ (record { low = path.low; page = parent } ∷ path.others)) ≡ before ++ (m ∷ behind)
        → Holds mid (suc height) (path.front ++ (record { low = path.low; page = parent } ∷ path.others)) cells
        → (IsIn fresh (tree_pages mid (suc height) (path.front ++ (record { low = path.low; page = parent } ∷ path.others))) → ⊥)
        → IsIn parent (map page_of (path.front ++ (record { low = path.low; page = parent } ∷ path.others))) → (parent ≡ fresh → ⊥)
        → Grown mid new (λ n. n ≡ fresh) height (spread mid (path.front ++ (record { low = path.low; page = parent } ∷ path.others)))
        (before ++ (m ∷ (record { low = separator; page = fresh } ∷ behind))) cells
    below_it before m behind child_is old_is holds off_lower parent_here off_fresh =
        let level = path.front ++ (record { low = path.low; page = parent } ∷ path.others) in
        let here_pages = map page_of level in
        let deeper = tree_pages mid height (spread mid level) in
        let deeper_is : deeper ≡ tree_pages mid height (before ++ (m ∷ behind)) = ap (λ (l : List Entry). tree_pages mid height l) old_is in
        let kept : Holds mid height (spread mid level) cells =
        record { shaped = holds.shaped.1; fenced = holds.fenced; linked = holds.linked; apart = apart_right here_pages deeper holds.apart; is = holds.is } in
        let kept_is : Holds mid height (before ++ (m ∷ behind)) cells = subst (λ (l : List Entry). Holds mid height l cells) old_is kept in
        let off_deep : IsIn fresh (tree_pages mid height (before ++ (m ∷ behind))) → ⊥ =
        λ i. off_lower (in_right fresh here_pages deeper (subst (λ (l : List ℕ). IsIn fresh l) (sym deeper_is) i)) in
        let one : Grown mid halved (λ n. n ≡ fresh) height (before ++ (m ∷ behind)) (before ++ (m ∷ (record { low = separator; page = fresh } ∷ behind))) cells =
        half_level mid halved height before m behind fresh separator cells
        (subst (λ (p : ℕ). Halves mid halved p fresh separator) (sym child_is) halves) off_deep kept_is in
        let two = holds_same halved new height (before ++ (m ∷ (record { low = separator; page = fresh } ∷ behind))) cells
        (λ n i. puts.others n (λ k. clash n k (one.from n i) deeper_is)) one.holds in
        subst (λ (l : List Entry). Grown mid new (λ n. n ≡ fresh) height l (before ++ (m ∷ (record { low = separator; page = fresh } ∷ behind))) cells) (sym old_is)
        (record {
          holds = two.holds;
          from = λ n i. back n (two.from n i) one.from;
          keeps = λ n i. two.keeps n (one.keeps n i);
          has = λ n k. two.keeps n (one.has n k);
        })
      where
        clash : (n : ℕ) → n ≡ parent → IsIn n (tree_pages mid height (before ++ (m ∷ behind))) ⊎ (n ≡ fresh)
            → tree_pages mid height (spread mid (path.front ++ (record { low = path.low; page = parent } ∷ path.others))) ≡ tree_pages mid height (before ++ (m ∷ behind)) → ⊥
        clash n k (inl i) is =
            apart_cross parent (map page_of (path.front ++ (record { low = path.low; page = parent } ∷ path.others)))
            (tree_pages mid height (spread mid (path.front ++ (record { low = path.low; page = parent } ∷ path.others)))) holds.apart parent_here
            (subst (λ (l : List ℕ). IsIn parent l) (sym is) (subst (λ (j : ℕ). IsIn j (tree_pages mid height (before ++ (m ∷ behind)))) k i))
        clash n k (inr f) is = off_fresh (sym k ∙ f)

        back : (n : ℕ) → IsIn n (tree_pages halved height (before ++ (m ∷ (record { low = separator; page = fresh } ∷ behind)))) ⊎ ⊥
            → ((n : ℕ) → IsIn n (tree_pages halved height (before ++ (m ∷ (record { low = separator; page = fresh } ∷ behind))))
            → IsIn n (tree_pages mid height (before ++ (m ∷ behind))) ⊎ (n ≡ fresh))
            → IsIn n (tree_pages mid height (before ++ (m ∷ behind))) ⊎ (n ≡ fresh)
        back n (inl i) from = from n i
        back n (inr f) from = absurd f

-- a page halved under its parent leaves the list as it was
pub splits : (old new : ℕ → Image) (root : ℕ) (key : Key) (parent : ℕ) → Splits old new parent → Leads old root key parent → (old parent).head.kind ≡ Inner
    → (own free : List ℕ) (list : List (Key × List ℕ)) → TreeStands old root own free list → Becomes old new root own free list
splits old new root key parent s leads inner own free list stands =
    let t : Took old s.taken root own free list s.fresh = took old s.taken root s.fresh own free list s.takes stands in
    let pages : SameOn old s.taken (tree_pages old stands.height (top root)) = λ n i. t.same n (subst (λ (l : List ℕ). IsIn n l) stands.own_is i) in
    let own_is : tree_pages s.taken stands.height (top root) ≡ own = pages_same old s.taken stands.height (top root) pages ∙ stands.own_is in
    let holds : Holds s.taken stands.height (top root) stands.cells = (holds_same old s.taken stands.height (top root) stands.cells pages stands.holds).holds in
    let path : IsPath s.taken root key parent stands.height =
    path_same old s.taken root key parent stands.height pages (leads stands.height stands.cells stands.holds) in
    let tree : SplitTree s.taken new root parent (child_of s.cell) s.fresh stands.height stands.cells =
    split_tree path.depth path.rest path.tall path.at holds own_is t.off (path_inside path own_is) t.same in
    let parent_own : IsIn parent own = subst (λ (l : List ℕ). IsIn parent l) own_is tree.parent_in in
    let child_own : IsIn (child_of s.cell) own = subst (λ (l : List ℕ). IsIn (child_of s.cell) l) own_is tree.child_in in
    becomes old s.taken new (λ n. n ≡ s.fresh) root own free t.rest list list t.stands t.changes
    (λ n e. subst (λ (k : ℕ). IsFresh old s.taken free t.rest k) (sym e) t.fresh_is) t.kept stands.height stands.cells tree.grown.holds
    (λ n i. subst (λ (l : List ℕ). IsIn n l ⊎ (n ≡ s.fresh)) own_is (tree.grown.from n i))
    (λ n i. tree.grown.keeps n (subst (λ (l : List ℕ). IsIn n l) (sym own_is) i)) tree.grown.has t.only
    (λ n off far. s.puts.others n (λ k. off (subst (λ (j : ℕ). IsIn j own) (sym k) parent_own))
    ∙ s.halves.others n (λ k. off (subst (λ (j : ℕ). IsIn j own) (sym k) child_own)) far)
    stands.pairs
  where
    path_inside : (path : IsPath s.taken root key parent stands.height) → tree_pages s.taken stands.height (top root) ≡ own → IsIn parent own
    path_inside path own_is =
        subst (λ (l : List ℕ). IsIn parent l) own_is
        (subst (λ (h : ℕ). IsIn parent (tree_pages s.taken h (top root))) path.tall
        (subst (λ (l : List ℕ). IsIn parent l) (sym (all_pages s.taken path.depth path.rest (top root)))
        (in_right parent (uppers s.taken path.depth (top root)) (tree_pages s.taken path.rest (leaves s.taken path.depth (top root)))
        (subst (λ (l : List Entry). IsIn parent (tree_pages s.taken path.rest l)) (sym path.at.is)
        (level_inside s.taken path.rest path.at.front (record { low = path.at.low; page = parent }) path.at.others)))))

    split_tree : (depth rest : ℕ) → raise depth rest ≡ stands.height → IsAt (leaves s.taken depth (top root)) key parent
        → Holds s.taken stands.height (top root) stands.cells → tree_pages s.taken stands.height (top root) ≡ own → (IsIn s.fresh own → ⊥)
        → IsIn parent own → SameOn old s.taken own → SplitTree s.taken new root parent (child_of s.cell) s.fresh stands.height stands.cells
    split_tree depth zero tall at holds own_is off inside same =
        let level = shaped_down s.taken depth 0 (top root) (subst (λ (h : ℕ). IsShaped s.taken h (top root)) (sym tall) holds.shaped) in
        let P : List Entry → Type 0 = λ l. AllByRecursion (λ e. IsLeafPage (s.taken e.page)) l in
        absurd (not_leaf s.taken parent at.low at.front at.others (ap (λ (i : Image). i.head.kind) (same parent inside) ∙ inner) (subst P at.is level))
    split_tree depth (suc rest) tall at holds own_is off inside same =
        subst (λ (h : ℕ). SplitTree s.taken new root parent (child_of s.cell) s.fresh h stands.cells) tall
        (split_down s.taken s.halved new root key parent s.fresh s.separator s.at s.cell depth rest stands.cells
        (subst (λ (h : ℕ). Holds s.taken h (top root) stands.cells) (sym tall) holds) at s.here s.short s.small s.halves s.puts s.room
        (λ i. off (subst (λ (l : List ℕ). IsIn s.fresh l) own_is (subst (λ (h : ℕ). IsIn s.fresh (tree_pages s.taken h (top root))) tall i))))

-- the one page below a raised root holds what the root held
pub record Lowered (mid new : ℕ → Image) (root fresh height : ℕ) (cells : List (List ℕ)) : Type 0 where
  pub holds : Holds new height (record { low = []; page = fresh } ∷ []) cells
  pub from : (n : ℕ) → IsIn n (tree_pages new height (record { low = []; page = fresh } ∷ [])) → IsIn n (tree_pages mid height (top root)) ⊎ (n ≡ fresh)
  pub keeps : (n : ℕ) → IsIn n (tree_pages mid height (top root)) → (n ≡ root) ⊎ IsIn n (tree_pages new height (record { low = []; page = fresh } ∷ []))
  pub has : IsIn fresh (tree_pages new height (record { low = []; page = fresh } ∷ []))
  pub off : IsIn root (tree_pages new height (record { low = []; page = fresh } ∷ [])) → ⊥

pub crowned : (mid new : ℕ → Image) (root fresh height : ℕ) (cells : List (List ℕ)) → Holds mid height (top root) cells
    → (new fresh).head ≡ (mid root).head → (new fresh).cells ≡ (mid root).cells → (IsIn fresh (tree_pages mid height (top root)) → ⊥)
    → (root ≡ fresh → ⊥) → ((n : ℕ) → (n ≡ root → ⊥) → (n ≡ fresh → ⊥) → new n ≡ mid n) → Lowered mid new root fresh height cells
crowned mid new root fresh zero cells h head is off away same =
    let leaf : IsLeafPage (mid root) = h.shaped.0 in
    record {
      off = λ i. none i;
      holds = record {
        shaped = (
          record {
            kind = ap (λ (h : Head). h.kind) head ∙ leaf.kind;
            level = ap (λ (h : Head). h.level) head ∙ leaf.level;
            cells = subst (λ (l : List (List ℕ)). AllByRecursion IsLeafCell l) (sym is) leaf.cells;
            fits = subst HasRoom (sym is) leaf.fits;
          },
          tt,
        );
        fenced = (subst (λ (l : List (List ℕ)). IsFenced [] l []) (sym is) h.fenced.0, tt);
        linked = ap (λ (h : Head). h.right) head ∙ h.linked;
        apart = (λ i. i, tt);
        is = ap (λ (l : List (List ℕ)). l ++ []) is ∙ h.is;
      };
      from = λ n i. only n i;
      keeps = λ n i. stay n i;
      has = inl refl;
    }
  where
    none : IsIn root (fresh ∷ []) → ⊥
    none (inl e) = away e
    none (inr i) = i

    only : (n : ℕ) → IsIn n (fresh ∷ []) → IsIn n (tree_pages mid zero (top root)) ⊎ (n ≡ fresh)
    only n (inl e) = inr e
    only n (inr i) = absurd i

    stay : (n : ℕ) → IsIn n (root ∷ []) → (n ≡ root) ⊎ IsIn n (fresh ∷ [])
    stay n (inl e) = inl e
    stay n (inr i) = absurd i
crowned mid new root fresh (suc height) cells h head is off away same =
    let inner : IsInnerPage (suc height) (mid root) = h.shaped.0.0 in
    let next_is : spread new (record { low = []; page = fresh } ∷ []) ≡ spread mid (top root) = ap (λ (l : List (List ℕ)). below [] l ++ []) is in
    let deeper = tree_pages mid height (spread mid (top root)) in
    let kept = holds_same mid new height (spread mid (top root)) cells
    (λ n i. same n (λ k. h.apart.0 (subst (λ (j : ℕ). IsIn j deeper) k i)) (λ k. off (inr (subst (λ (j : ℕ). IsIn j deeper) k i))))
    (record { shaped = h.shaped.1; fenced = h.fenced; linked = h.linked; apart = h.apart.1; is = h.is }) in
    let next = spread new (record { low = []; page = fresh } ∷ []) in
    let holds : Holds new height next cells = subst (λ (l : List Entry). Holds new height l cells) (sym next_is) kept.holds in
    let from : (n : ℕ) → IsIn n (tree_pages new height next) → IsIn n deeper ⊎ ⊥ =
    subst (λ (l : List Entry). (n : ℕ) → IsIn n (tree_pages new height l) → IsIn n deeper ⊎ ⊥) (sym next_is) kept.from in
    let keeps : (n : ℕ) → IsIn n deeper → IsIn n (tree_pages new height next) =
    subst (λ (l : List Entry). (n : ℕ) → IsIn n deeper → IsIn n (tree_pages new height l)) (sym next_is) kept.keeps in
    record {
      off = λ i. none i from;
      holds = record {
        shaped = (
          (
            record {
              kind = ap (λ (h : Head). h.kind) head ∙ inner.kind;
              level = ap (λ (h : Head). h.level) head ∙ inner.level;
              first = subst BeginsEmpty (sym is) inner.first;
              cells = subst (λ (l : List (List ℕ)). AllByRecursion IsInnerCell l) (sym is) inner.cells;
              fits = subst HasRoom (sym is) inner.fits;
            },
            tt,
          ),
          holds.shaped,
        );
        fenced = holds.fenced;
        linked = holds.linked;
        apart = (λ i. clash (from fresh i), holds.apart);
        is = holds.is;
      };
      from = λ n i. rise n i from;
      keeps = λ n i. stay n i keeps;
      has = inl refl;
    }
  where
    none : IsIn root (fresh ∷ tree_pages new height (spread new (record { low = []; page = fresh } ∷ [])))
        → ((n : ℕ) → IsIn n (tree_pages new height (spread new (record { low = []; page = fresh } ∷ []))) → IsIn n (tree_pages mid height (spread mid (top root))) ⊎ ⊥) → ⊥
    none (inl e) from = away e
    none (inr i) from = lower (from root i)
      where
        lower : IsIn root (tree_pages mid height (spread mid (top root))) ⊎ ⊥ → ⊥
        lower (inl j) = h.apart.0 j
        lower (inr f) = f

    clash : IsIn fresh (tree_pages mid height (spread mid (top root))) ⊎ ⊥ → ⊥
    clash (inl i) = off (inr i)
    clash (inr f) = f

    rise : (n : ℕ) → IsIn n (fresh ∷ tree_pages new height (spread new (record { low = []; page = fresh } ∷ [])))
        → ((n : ℕ) → IsIn n (tree_pages new height (spread new (record { low = []; page = fresh } ∷ []))) → IsIn n (tree_pages mid height (spread mid (top root))) ⊎ ⊥)
        → IsIn n (tree_pages mid (suc height) (top root)) ⊎ (n ≡ fresh)
    rise n (inl e) from = inr e
    rise n (inr i) from = deeper (from n i)
      where
        deeper : IsIn n (tree_pages mid height (spread mid (top root))) ⊎ ⊥ → IsIn n (tree_pages mid (suc height) (top root)) ⊎ (n ≡ fresh)
        deeper (inl j) = inl (inr j)
        deeper (inr f) = absurd f

    stay : (n : ℕ) → IsIn n (root ∷ tree_pages mid height (spread mid (top root)))
        → ((n : ℕ) → IsIn n (tree_pages mid height (spread mid (top root))) → IsIn n (tree_pages new height (spread new (record { low = []; page = fresh } ∷ []))))
        → (n ≡ root) ⊎ IsIn n (fresh ∷ tree_pages new height (spread new (record { low = []; page = fresh } ∷ [])))
    stay n (inl e) keeps = inl e
    stay n (inr i) keeps = inr (inr (keeps n i))

-- the level of the root's head, by its height
pub root_level : (pages : ℕ → Image) (root height : ℕ) → IsShaped pages height (top root) → (pages root).head.level ≡ min height 255
root_level pages root zero h = h.0.level
root_level pages root (suc height) h = h.0.0.level

-- a raised root leaves the list as it was
pub crowns : (old new : ℕ → Image) (root : ℕ) → Crowns old new root → (own free : List ℕ) (list : List (Key × List ℕ)) → TreeStands old root own free list
    → Becomes old new root own free list
crowns old new root s own free list stands =
    let mid = s.taken in
    let t : Took old mid root own free list s.fresh = took old mid root s.fresh own free list s.takes stands in
    let pages : SameOn old mid (tree_pages old stands.height (top root)) = λ n i. t.same n (subst (λ (l : List ℕ). IsIn n l) stands.own_is i) in
    let own_is : tree_pages mid stands.height (top root) ≡ own = pages_same old mid stands.height (top root) pages ∙ stands.own_is in
    let holds : Holds mid stands.height (top root) stands.cells = (holds_same old mid stands.height (top root) stands.cells pages stands.holds).holds in
    let off : IsIn s.fresh (tree_pages mid stands.height (top root)) → ⊥ = λ i. t.off (subst (λ (l : List ℕ). IsIn s.fresh l) own_is i) in
    let lowered : Lowered mid new root s.fresh stands.height stands.cells =
    crowned mid new root s.fresh stands.height stands.cells holds s.low_head s.low_cells off s.off s.others in
    let cell = inner_cell [] s.fresh in
    let level : (mid root).head.level ≡ min stands.height 255 = root_level mid root stands.height holds.shaped in
    let next_is : spread new (top root) ≡ record { low = []; page = s.fresh } ∷ [] =
    ap (λ (l : List (List ℕ)). below [] l ++ []) s.cells
    ∙ ap (λ (n : ℕ). record { low = []; page = n } ∷ []) (child_of-cell [] s.fresh (lit≤ tt) s.small) in
    let apart : IsIn root (tree_pages new stands.height (spread new (top root))) → ⊥ =
    subst (λ (l : List Entry). IsIn root (tree_pages new stands.height l) → ⊥) (sym next_is) lowered.off in
    let length_is : length cell ≡ 10 = inner_length [] s.fresh in
    let shaped : IsInnerPage (suc stands.height) (new root) = record {
      kind = s.kind;
      level = s.level ∙ (let e = level in omega arith);
      first = subst BeginsEmpty (sym s.cells) (inner_key_is [] s.fresh (lit≤ tt));
      cells = subst (λ (l : List (List ℕ)). AllByRecursion IsInnerCell l) (sym s.cells) (inner_cell_is [] s.fresh (lit≤ tt), tt);
      fits = subst HasRoom (sym s.cells) (let e : taken (cell ∷ []) ≡ 0 + (4 + length cell) = refl in omega arith);
    } in
    let low_holds : Holds new stands.height (spread new (top root)) stands.cells = subst (λ (l : List Entry). Holds new stands.height l stands.cells) (sym next_is) lowered.holds in
    let from : (n : ℕ) → IsIn n (tree_pages new stands.height (spread new (top root))) → IsIn n (tree_pages mid stands.height (top root)) ⊎ (n ≡ s.fresh) =
    subst (λ (l : List Entry). (n : ℕ) → IsIn n (tree_pages new stands.height l) → IsIn n (tree_pages mid stands.height (top root)) ⊎ (n ≡ s.fresh)) (sym next_is) lowered.from in
    let keeps : (n : ℕ) → IsIn n (tree_pages mid stands.height (top root)) → (n ≡ root) ⊎ IsIn n (tree_pages new stands.height (spread new (top root))) =
    subst (λ (l : List Entry). (n : ℕ) → IsIn n (tree_pages mid stands.height (top root)) → (n ≡ root) ⊎ IsIn n (tree_pages new stands.height l)) (sym next_is) lowered.keeps in
    let has : IsIn s.fresh (tree_pages new stands.height (spread new (top root))) =
    subst (λ (l : List Entry). IsIn s.fresh (tree_pages new stands.height l)) (sym next_is) lowered.has in
    let root_own : IsIn root own = subst (λ (l : List ℕ). IsIn root l) own_is (root_in mid stands.height root) in
    becomes old mid new (λ n. n ≡ s.fresh) root own free t.rest list list t.stands t.changes
    (λ n e. subst (λ (k : ℕ). IsFresh old mid free t.rest k) (sym e) t.fresh_is) t.kept (suc stands.height) stands.cells
    (record { shaped = ((shaped, tt), low_holds.shaped); fenced = low_holds.fenced; linked = low_holds.linked; apart = (apart, low_holds.apart); is = low_holds.is })
    (λ n i. up n i from own_is root_own)
    (λ n i. keeps n (subst (λ (l : List ℕ). IsIn n l) (sym own_is) i))
    (λ n e. inr (subst (λ (k : ℕ). IsIn k (tree_pages new stands.height (spread new (top root)))) (sym e) has)) t.only
    (λ n away far. s.others n (λ k. away (subst (λ (j : ℕ). IsIn j own) (sym k) root_own)) far)
    stands.pairs
  where
    up : (n : ℕ) → IsIn n (root ∷ tree_pages new stands.height (spread new (top root)))
        → ((n : ℕ) → IsIn n (tree_pages new stands.height (spread new (top root))) → IsIn n (tree_pages s.taken stands.height (top root)) ⊎ (n ≡ s.fresh))
        → tree_pages s.taken stands.height (top root) ≡ own → IsIn root own → IsIn n own ⊎ (n ≡ s.fresh)
    up n (inl e) from own_is rooted = inl (subst (λ (j : ℕ). IsIn j own) (sym e) rooted)
    up n (inr i) from own_is rooted = subst (λ (l : List ℕ). IsIn n l ⊎ (n ≡ s.fresh)) own_is (from n i)

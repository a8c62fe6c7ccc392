-- An empty leaf out of its tree, and then free.
use Rattle.std.proofs.Common.{◌≡◌, ◌⊎◌, inl, inr, ℕ, zero, suc, ◌≤◌, ◌<◌, ◌^◌, List, [], ◌∷◌, ◌++◌, map, drop, Some, refl, sym, ap, ◌∙◌, subst, arith, Result, Ok, Err}
use Rattle.std.proofs.lemmas.Option.{none-some, same_Some}
use Rattle.std.specs.List.{AllByRecursion, slice_get, slice_set, remove}
use Rattle.std.specs.Result.{OnOk}
use Rattle.byteorder.specs.Endian.{big_number}
use Rattle.page_store.specs.Image.{Image, HasRoom}
use Rattle.page_store.specs.declared.pages.Head.{Head}
use Rattle.page_store.specs.declared.pages.PageKind.TheVariants.{Leaf, Inner}
use Rattle.page_workspace.specs.Spare.{IsIn, AreApart, IsChain, IsMeta, AreFree, first_cell, next_genid, count_of, first_free}
use Rattle.page_workspace.specs.Takes.{FreesPage}
use Rattle.page_workspace.proofs.ChainLaws.{chain_same, kept_same, free_more}
use Rattle.btree_index.specs.Keys.{Key}
use Rattle.btree_index.specs.Cells.{child_of, inner_cell, IsLeafCell, IsInnerCell}
use Rattle.btree_index.specs.Changes.{TreeStands, Becomes}
use Rattle.btree_index.specs.Steps.{Alters, TakesAt}
use Rattle.btree_index.specs.Trees.{Entry, below, spread, leaves, cells_of, tree_pages, IsLeafPage, IsFenced, top, pair_of}
use Rattle.btree_index.specs.Prunes.{IsLone, lone_pages, rekeyed, Shrunk, Unlinks, IsFork, lone_leaf, AreStray, AreLoose, FreesAll, DropsChild, LosesLeaf, Rekeys, SetsRight}
use Rattle.btree_index.specs.declared.prunes.Fork.{Fork}
use Rattle.btree_index.proofs.ApartLaws.{in_left, in_right, in_either}
use Rattle.btree_index.proofs.LevelLemmas.{SameOn}
use Rattle.btree_index.proofs.FilledLemmas.{filled_after, filled_same, freed_filled, root_filled, unlinked_filled}
use Rattle.btree_index.proofs.LeafLaws.{holds_same}
use Rattle.btree_index.proofs.LeafWays.{free_page_in, lone_inside, lone_root}
use Rattle.btree_index.proofs.RootLaws.{pages_same}
use Rattle.btree_index.proofs.StandLemmas.{becomes_none}

-- the free pages where none of them changed, nor the meta page, nor one that was never written
free_same : (old new : ℕ → Image) (free : List ℕ) → AreFree old free → new 0 ≡ old 0 → SameOn old new free
    → ((n : ℕ) → count_of old ≤ n → new n ≡ old n) → AreFree new free
free_same old new free f zeroth spare past =
    let count : count_of new ≡ count_of old = ap (λ (i : Image). big_number 8 (drop 8 (first_cell i.cells))) zeroth in
    let first : first_free new ≡ first_free old = ap (λ (i : Image). big_number 8 (drop 16 (first_cell i.cells))) zeroth in
    record {
      meta = subst IsMeta (sym zeroth) f.meta;
      chain = subst (λ (n : ℕ). IsChain new n free) (sym first) (chain_same old new (first_free old) free spare f.chain);
      apart = f.apart;
      written = subst (λ (c : ℕ). AllByRecursion (λ id. id < c) free) (sym count) f.written;
      kept = kept_same old new free spare f.kept;
      past = λ n h.
          (let p : count_of old ≤ n = subst (λ (c : ℕ). c ≤ n) count h in
          past n p ∙ f.past n p);
    }

count_same : (old new : ℕ → Image) → new 0 ≡ old 0 → count_of new ≡ count_of old
count_same old new zeroth = ap (λ (i : Image). big_number 8 (drop 8 (first_cell i.cells))) zeroth

genid_same : (old new : ℕ → Image) → new 0 ≡ old 0 → next_genid new ≡ next_genid old
genid_same old new zeroth = ap (λ (i : Image). big_number 8 (first_cell i.cells)) zeroth

-- a tree where none of its pages changed
stands_same : (old new : ℕ → Image) (root : ℕ) (own free : List ℕ) (list : List (Key × List ℕ)) → TreeStands old root own free list → new 0 ≡ old 0
    → SameOn old new own → SameOn old new free → ((n : ℕ) → count_of old ≤ n → new n ≡ old n) → TreeStands new root own free list
stands_same old new root own free list s zeroth mine spare past =
    let pages : SameOn old new (tree_pages old s.height (top root)) = λ n i. mine n (subst (λ (l : List ℕ). IsIn n l) s.own_is i) in
    record {
      height = s.height;
      cells = s.cells;
      holds = (holds_same old new s.height (top root) s.cells pages s.holds).holds;
      own_is = pages_same old new s.height (top root) pages ∙ s.own_is;
      pairs = s.pairs;
      spare = free_same old new free s.spare zeroth spare past;
      off_meta = s.off_meta;
      off_free = s.off_free;
      below = λ n i. subst (λ (c : ℕ). n < c) (sym (count_same old new zeroth)) (s.below n i);
    }

-- a page of no tree is given back
stands_freed : (old new : ℕ → Image) (id root : ℕ) (own free : List ℕ) (list : List (Key × List ℕ)) → TreeStands old root own free list → FreesPage old new id
    → (old id).cells ≡ [] → (IsIn id own → ⊥) → (IsIn id free → ⊥) → id < count_of old → TreeStands new root own (id ∷ free) list
stands_freed old new id root own free list s f none off_own off_free under =
    let mine : SameOn old new own =
    λ n i. f.others n (λ e. s.off_meta (subst (λ (k : ℕ). IsIn k own) e i)) (λ e. off_own (subst (λ (k : ℕ). IsIn k own) e i)) in
    let pages : SameOn old new (tree_pages old s.height (top root)) = λ n i. mine n (subst (λ (l : List ℕ). IsIn n l) s.own_is i) in
    record {
      height = s.height;
      cells = s.cells;
      holds = (holds_same old new s.height (top root) s.cells pages s.holds).holds;
      own_is = pages_same old new s.height (top root) pages ∙ s.own_is;
      pairs = s.pairs;
      spare = free_more old new id free s.spare f none off_free under;
      off_meta = s.off_meta;
      off_free = λ n i j. off n i j;
      below = λ n i. subst (λ (c : ℕ). n < c) (sym f.count) (s.below n i);
    }
  where
    off : (n : ℕ) → IsIn n own → IsIn n (id ∷ free) → ⊥
    off n i (inl e) = off_own (subst (λ (k : ℕ). IsIn k own) e i)
    off n i (inr j) = s.off_free n i j

-- the pages down to an empty leaf, where none of them changed
lone_same : (old new : ℕ → Image) (height page : ℕ) → SameOn old new (lone_pages old height page) → IsLone old height page
    → IsLone new height page × (lone_pages new height page ≡ lone_pages old height page)
lone_same old new zero page same lone =
    (subst (λ (i : Image). (i.head.kind ≡ Leaf) × (i.cells ≡ [])) (sym (same page (inl refl))) lone, refl)
lone_same old new (suc height) page same lone =
    let here : new page ≡ old page = same page (inl refl) in
    let child : child_of (first_cell (new page).cells) ≡ child_of (first_cell (old page).cells) = ap (λ (i : Image). child_of (first_cell i.cells)) here in
    let rec = lone_same old new height (child_of (first_cell (old page).cells)) (λ n i. same n (inr i)) lone.2 in (
      (
        ap (λ (i : Image). i.head.kind) here ∙ lone.0,
        subst (λ (i : Image). i.cells ≡ first_cell i.cells ∷ []) (sym here) lone.1,
        subst (λ (k : ℕ). IsLone new height k) (sym child) rec.0,
        subst (λ (i : Image). IsInnerCell (first_cell i.cells)) (sym here) lone.3,
      ),
      ap (λ (l : List ℕ). page ∷ l) (ap (λ (k : ℕ). lone_pages new height k) child ∙ rec.1),
    )

-- the empty leaf is given back
pub free_leaf : (old new : ℕ → Image) (height id root : ℕ) (own free : List ℕ) (list : List (Key × List ℕ)) → TreeStands old root own free list
    → IsLone old height id → (old id).head.kind ≡ Leaf → AreStray old own free (lone_pages old height id) → FreesPage old new id
    → FreesAll old new root own free list (lone_pages old height id)
free_leaf old new zero id root own free list s lone kind stray f = record {
  stands = stands_freed old new id root own free list s f lone.1 (stray.off_own id (inl refl)) (stray.off_free id (inl refl)) (stray.below id (inl refl));
  count = f.count;
  genid = f.genid;
  others = λ n a b. f.others n a (λ e. b (inl e));
}
free_leaf old new (suc height) id root own free list s lone kind stray f = absurd (let e = sym kind ∙ lone.0 in cc)

-- the pages below a loose one, when its cell was taken
pub record LeftBelow (old mid : ℕ → Image) (child height root : ℕ) (own free : List ℕ) (list : List (Key × List ℕ)) : Type 0 where
  pub loose : AreLoose mid child height root own free list
  pub ids : lone_pages mid height child ≡ lone_pages old height child

pub left_below : (old mid : ℕ → Image) (id child height root : ℕ) (own free : List ℕ) (list : List (Key × List ℕ))
    → AreLoose old id (suc height) root own free list → child ≡ child_of (first_cell (old id).cells)
    → Alters old mid id (old id).head (remove (old id).cells 0) → LeftBelow old mid child height root own free list
left_below old mid id child height root own free list loose is a =
    let stray = loose.stray in
    let c = child_of (first_cell (old id).cells) in
    let ids = lone_pages old height c in
    let zeroth : mid 0 ≡ old 0 = a.others 0 (λ e. stray.some id (inl refl) (sym e)) in
    let count : count_of mid ≡ count_of old = count_same old mid zeroth in
    let stands : TreeStands mid root own free list =
    stands_same old mid root own free list loose.stands zeroth
    (λ n i. a.others n (λ e. stray.off_own id (inl refl) (subst (λ (k : ℕ). IsIn k own) e i)))
    (λ n i. a.others n (λ e. stray.off_free id (inl refl) (subst (λ (k : ℕ). IsIn k free) e i)))
    (λ n p. a.others n (λ e. past n p e)) in
    let l = lone_same old mid height c (λ n i. a.others n (λ e. stray.apart.0 (subst (λ (k : ℕ). IsIn k ids) e i))) loose.lone.2 in
    let left : AreStray mid own free ids = record {
      apart = stray.apart.1;
      some = λ n i. stray.some n (inr i);
      off_own = λ n i. stray.off_own n (inr i);
      off_free = λ n i. stray.off_free n (inr i);
      below = λ n i. subst (λ (k : ℕ). n < k) (sym count) (stray.below n (inr i));
    } in
    subst (λ (k : ℕ). LeftBelow old mid k height root own free list) (sym is)
    (record {
      loose = record { stands = stands; lone = l.0; stray = subst (λ (x : List ℕ). AreStray mid own free x) (sym l.1) left };
      ids = l.1;
    })
  where
    past : (n : ℕ) → count_of old ≤ n → n ≡ id → ⊥
    past n p e = let under : id < count_of old = loose.stray.below id (inl refl) in omega arith

-- and so is a page above it, after those below
pub free_inner : (old mid late new : ℕ → Image) (height id child root : ℕ) (own free : List ℕ) (list : List (Key × List ℕ)) → TreeStands old root own free list
    → IsLone old height id → (old id).head.kind ≡ Inner → child ≡ child_of (first_cell (old id).cells) → AreStray old own free (lone_pages old height id)
    → Alters old mid id (old id).head (remove (old id).cells 0)
    → ((h : ℕ) → IsLone mid h child → TreeStands mid root own free list → AreStray mid own free (lone_pages mid h child)
    → FreesAll mid late root own free list (lone_pages mid h child))
    → FreesPage late new id → FreesAll old new root own free list (lone_pages old height id)
free_inner old mid late new zero id child root own free list s lone kind is stray a rec f = absurd (let e = sym kind ∙ lone.0 in cc)
free_inner old mid late new (suc height) id child root own free list s lone kind is stray a rec f =
    let ids = lone_pages old height (child_of (first_cell (old id).cells)) in
    let nonzero : id ≡ 0 → ⊥ = stray.some id (inl refl) in
    let under : id < count_of old = stray.below id (inl refl) in
    let zeroth : mid 0 ≡ old 0 = a.others 0 (λ e. nonzero (sym e)) in
    let count : count_of mid ≡ count_of old = count_same old mid zeroth in
    let b : LeftBelow old mid child height root own free list =
    left_below old mid id child height root own free list (record { stands = s; lone = lone; stray = stray }) is a in
    let r : FreesAll mid late root own free list ids =
    subst (λ (l : List ℕ). FreesAll mid late root own free list l) (b.ids ∙ ap (λ (k : ℕ). lone_pages old height k) is)
    (rec height b.loose.lone b.loose.stands b.loose.stray) in
    let none : (late id).cells ≡ [] =
    ap (λ (i : Image). i.cells) (r.others id nonzero stray.apart.0) ∙ a.is ∙ ap (λ (l : List (List ℕ)). remove l 0) lone.1 in
    record {
      stands = stands_freed late new id root own (ids ++ free) list r.stands f none (stray.off_own id (inl refl)) (λ i. off (in_either id ids free i))
          (subst (λ (k : ℕ). id < k) (sym (r.count ∙ count)) under);
      count = f.count ∙ r.count ∙ count;
      genid = f.genid ∙ r.genid ∙ genid_same old mid zeroth;
      others = λ n z b. f.others n z (λ e. b (inl e)) ∙ r.others n z (λ i. b (inr i)) ∙ a.others n (λ e. b (inl e));
    }
  where
    off : IsIn id (lone_pages old height (child_of (first_cell (old id).cells))) ⊎ IsIn id free → ⊥
    off (inl i) = stray.apart.0 i
    off (inr i) = stray.off_free id (inl refl) i

-- a tree that lost the pages down to an empty leaf, which are loose now
pub record IsCutOff (old mid : ℕ → Image) (child height root : ℕ) (own mine free : List ℕ) (list : List (Key × List ℕ)) : Type 0 where
  pub loose : AreLoose mid child height root mine free list
  pub ids : lone_pages mid height child ≡ lone_pages old height child
  pub from : (n : ℕ) → IsIn n mine → IsIn n own
  pub gone : (n : ℕ) → IsIn n (lone_pages old height child) → IsIn n own
  pub same : (n : ℕ) → (IsIn n own → ⊥) → mid n ≡ old n
  pub count : count_of mid ≡ count_of old

-- below a page that has another child
pub cut_off : (old mid : ℕ → Image) (root : ℕ) (own free : List ℕ) (list : List (Key × List ℕ)) (fork : Fork) → (s : TreeStands old root own free list)
    → (f : IsFork old s.height (top root) s.cells fork) → Unlinks old mid fork
    → IsCutOff old mid fork.child f.depth root own (tree_pages mid s.height (top root)) free list
cut_off old mid root own free list fork s f u =
    let ids = lone_pages old f.depth fork.child in
    let k : Shrunk old mid s.height (top root) (top root) ids fork.left s.cells = f.out mid u in
    let from : (n : ℕ) → IsIn n (tree_pages mid s.height (top root)) → IsIn n own = λ n i. subst (λ (l : List ℕ). IsIn n l) s.own_is (k.from n i) in
    let gone : (n : ℕ) → IsIn n ids → IsIn n own = λ n i. subst (λ (l : List ℕ). IsIn n l) s.own_is (k.went n i) in
    let page_own : IsIn fork.page own = subst (λ (l : List ℕ). IsIn fork.page l) s.own_is f.inside in
    let same : (n : ℕ) → (IsIn n own → ⊥) → mid n ≡ old n =
    λ n off. u.others n (λ e. off (subst (λ (j : ℕ). IsIn j own) (sym e) page_own)) (λ e. off (from n (k.beside n e))) in
    let zeroth : mid 0 ≡ old 0 = same 0 s.off_meta in
    let count : count_of mid ≡ count_of old = count_same old mid zeroth in
    let l = lone_same old mid f.depth fork.child
    (λ n i. u.others n (λ e. f.off (subst (λ (j : ℕ). IsIn j ids) e i)) (λ e. k.off n (k.beside n e) i)) f.lone in
    let stray : AreStray mid (tree_pages mid s.height (top root)) free ids = record {
      apart = f.apart;
      some = λ n i e. s.off_meta (subst (λ (j : ℕ). IsIn j own) e (gone n i));
      off_own = λ n i j. k.off n j i;
      off_free = λ n i j. s.off_free n (gone n i) j;
      below = λ n i. subst (λ (c : ℕ). n < c) (sym count) (s.below n (gone n i));
    } in
    record {
      loose = record {
        stands = record {
          height = s.height;
          cells = s.cells;
          holds = k.holds;
          own_is = refl;
          pairs = s.pairs;
          spare = free_same old mid free s.spare zeroth (λ n i. same n (λ j. s.off_free n j i)) (λ n p. same n (λ j. past n p (s.below n j)));
          off_meta = λ i. s.off_meta (from 0 i);
          off_free = λ n i j. s.off_free n (from n i) j;
          below = λ n i. subst (λ (c : ℕ). n < c) (sym count) (s.below n (from n i));
        };
        lone = l.0;
        stray = subst (λ (x : List ℕ). AreStray mid (tree_pages mid s.height (top root)) free x) (sym l.1) stray;
      };
      ids = l.1;
      from = from;
      gone = gone;
      same = same;
      count = count;
    }
  where
    past : (n : ℕ) {c : ℕ} → c ≤ n → n < c → ⊥
    past n a b = omega arith

-- a tree out of which an empty leaf was taken, and then freed
pub pruned : (old mid new : ℕ → Image) (root : ℕ) (own free : List ℕ) (list : List (Key × List ℕ)) (fork : Fork) → (s : TreeStands old root own free list)
    → (f : IsFork old s.height (top root) s.cells fork) → Unlinks old mid fork
    → ((h : ℕ) (mine : List ℕ) → IsLone mid h fork.child → TreeStands mid root mine free list → AreStray mid mine free (lone_pages mid h fork.child)
    → FreesAll mid new root mine free list (lone_pages mid h fork.child)) → LosesLeaf old new root own free list (lone_leaf old f.depth fork.child)
pruned old mid new root own free list fork s f u frees =
    let ids = lone_pages old f.depth fork.child in
    let mine = tree_pages mid s.height (top root) in
    let k : Shrunk old mid s.height (top root) (top root) ids fork.left s.cells = f.out mid u in
    let w : IsCutOff old mid fork.child f.depth root own mine free list = cut_off old mid root own free list fork s f u in
    let zeroth : mid 0 ≡ old 0 = w.same 0 s.off_meta in
    let r : FreesAll mid new root mine free list ids =
    subst (λ (l : List ℕ). FreesAll mid new root mine free list l) w.ids (frees f.depth mine w.loose.lone w.loose.stands w.loose.stray) in
    let all : count_of new ≡ count_of old = r.count ∙ w.count in
    record {
      becomes = record {
        more = mine;
        spare = ids ++ free;
        stands = r.stands;
        changes = record {
          genid = r.genid ∙ genid_same old mid zeroth;
          count = omega arith;
          few = λ h. subst (λ (c : ℕ). c < 2 ^ 62) (sym all) h;
          others = λ n h z off_own off_free. r.others n z (λ i. off_own (w.gone n i)) ∙ w.same n off_own;
          tree = λ n i. inl (w.from n i);
          unused = λ n i. was n w.gone (in_either n ids free i);
        };
        lost = record {
          tree = λ n i. still n (k.keeps n (subst (λ (l : List ℕ). IsIn n l) (sym s.own_is) i));
          unused = λ n i. inr (in_right n ids free i);
          taken = λ n a b. absurd (none n a b all);
        };
      };
      filled = filled_after old mid new root (unlinked_filled old mid root fork u) (freed_filled mid new root mine free list ids r);
      went = inr (free_page_in new (lone_leaf old f.depth fork.child) (ids ++ free) r.stands.spare.kept
          (in_left (lone_leaf old f.depth fork.child) ids free (lone_inside old f.depth fork.child)));
    }
  where
    none : (n : ℕ) → count_of old ≤ n → n < count_of new → count_of new ≡ count_of old → ⊥
    none n a b e = omega arith

    was : (n : ℕ) → ((n : ℕ) → IsIn n (lone_pages old f.depth fork.child) → IsIn n own) → IsIn n (lone_pages old f.depth fork.child) ⊎ IsIn n free
        → IsIn n own ⊎ IsIn n free ⊎ (count_of old ≤ n)
    was n gone (inl i) = inl (gone n i)
    was n gone (inr i) = inr (inl i)

    still : (n : ℕ) → IsIn n (tree_pages mid s.height (top root)) ⊎ IsIn n (lone_pages old f.depth fork.child)
        → IsIn n (tree_pages mid s.height (top root)) ⊎ IsIn n (lone_pages old f.depth fork.child ++ free)
    still n (inl i) = inl i
    still n (inr i) = inr (in_left n (lone_pages old f.depth fork.child) free i)

-- a tree that is nothing but the way to an empty leaf
lone_all : (pages : ℕ → Image) (height : ℕ) (e : Entry) → IsLone pages height e.page
    → (tree_pages pages height (e ∷ []) ≡ lone_pages pages height e.page) × (cells_of pages (leaves pages height (e ∷ [])) ≡ [])
lone_all pages zero e lone = (refl, ap (λ (l : List (List ℕ)). l ++ []) lone.1)
lone_all pages (suc height) e lone =
    let e' : Entry = record { low = e.low; page = child_of (first_cell (pages e.page).cells) } in
    let s : spread pages (e ∷ []) ≡ e' ∷ [] = ap (λ (l : List (List ℕ)). below e.low l ++ []) lone.1 in
    let rec = lone_all pages height e' lone.2 in (
      ap (λ (l : List Entry). e.page ∷ tree_pages pages height l) s ∙ ap (λ (l : List ℕ). e.page ∷ l) rec.0,
      ap (λ (l : List Entry). cells_of pages (leaves pages height l)) s ∙ rec.1,
    )

lone_own : (pages : ℕ → Image) (root height : ℕ) (own free : List ℕ) (list : List (Key × List ℕ)) → (s : TreeStands pages root own free list) → s.height ≡ suc height
    → IsLone pages (suc height) root → own ≡ root ∷ lone_pages pages height (child_of (first_cell (pages root).cells))
lone_own pages root height own free list s tall lone =
    sym s.own_is ∙ ap (λ (h : ℕ). tree_pages pages h (top root)) tall ∙ (lone_all pages (suc height) (record { low = []; page = root }) lone).0

-- its root becomes an empty leaf
pub flat_off : (old mid : ℕ → Image) (root child height : ℕ) (own free : List ℕ) (list : List (Key × List ℕ)) → (s : TreeStands old root own free list)
    → s.height ≡ suc height → IsLone old (suc height) root → child ≡ child_of (first_cell (old root).cells)
    → Alters old mid root (record { kind = Leaf; level = 0; right = 0 }) (remove (old root).cells 0)
    → IsCutOff old mid child height root own (root ∷ []) free list
flat_off old mid root child height own free list s tall lone is a =
    let c = child_of (first_cell (old root).cells) in
    let ids = lone_pages old height c in
    let own_is : own ≡ root ∷ ids = lone_own old root height own free list s tall lone in
    let apart : AreApart (root ∷ ids) = subst AreApart (s.own_is ∙ own_is) s.holds.apart in
    let gone : (n : ℕ) → IsIn n ids → IsIn n own = λ n i. subst (λ (l : List ℕ). IsIn n l) (sym own_is) (inr i) in
    let root_own : IsIn root own = subst (λ (l : List ℕ). IsIn root l) (sym own_is) (inl refl) in
    let from : (n : ℕ) → IsIn n (root ∷ []) → IsIn n own = λ n i. subst (λ (l : List ℕ). IsIn n l) (sym own_is) (in_left n (root ∷ []) ids i) in
    let cells : s.cells ≡ [] =
    sym s.holds.is ∙ ap (λ (h : ℕ). cells_of old (leaves old h (top root))) tall ∙ (lone_all old (suc height) (record { low = []; page = root }) lone).1 in
    let same : (n : ℕ) → (IsIn n own → ⊥) → mid n ≡ old n = λ n off. a.others n (λ e. off (subst (λ (j : ℕ). IsIn j own) (sym e) root_own)) in
    let zeroth : mid 0 ≡ old 0 = same 0 s.off_meta in
    let count : count_of mid ≡ count_of old = count_same old mid zeroth in
    let none : (mid root).cells ≡ [] = a.is ∙ ap (λ (l : List (List ℕ)). remove l 0) lone.1 in
    let leaf : IsLeafPage (mid root) = record {
      kind = ap (λ (h : Head). h.kind) a.head_is;
      level = ap (λ (h : Head). h.level) a.head_is;
      cells = subst (λ (l : List (List ℕ)). AllByRecursion (λ (c : List ℕ). IsLeafCell c) l) (sym none) tt;
      fits = subst HasRoom (sym none) (omega arith);
    } in
    let stands : TreeStands mid root (root ∷ []) free list = record {
      height = 0;
      cells = [];
      holds = record {
        shaped = (leaf, tt);
        fenced = (subst (λ (l : List (List ℕ)). IsFenced [] l []) (sym none) (record { from = tt; to = tt; ascends = tt; next = tt }), tt);
        linked = ap (λ (h : Head). h.right) a.head_is;
        apart = (λ i. i, tt);
        is = ap (λ (l : List (List ℕ)). l ++ []) none;
      };
      own_is = refl;
      pairs = ap (λ (l : List (List ℕ)). map pair_of l) (sym cells) ∙ s.pairs;
      spare = free_same old mid free s.spare zeroth (λ n i. same n (λ j. s.off_free n j i)) (λ n p. same n (λ j. past n p (s.below n j)));
      off_meta = λ i. s.off_meta (from 0 i);
      off_free = λ n i j. s.off_free n (from n i) j;
      below = λ n i. subst (λ (c : ℕ). n < c) (sym count) (s.below n (from n i));
    } in
    let l = lone_same old mid height c (λ n i. a.others n (λ e. apart.0 (subst (λ (j : ℕ). IsIn j ids) e i))) lone.2 in
    let stray : AreStray mid (root ∷ []) free ids = record {
      apart = apart.1;
      some = λ n i e. s.off_meta (subst (λ (j : ℕ). IsIn j own) e (gone n i));
      off_own = λ n i j. off n i j apart;
      off_free = λ n i j. s.off_free n (gone n i) j;
      below = λ n i. subst (λ (c : ℕ). n < c) (sym count) (s.below n (gone n i));
    } in
    subst (λ (k : ℕ). IsCutOff old mid k height root own (root ∷ []) free list) (sym is)
    (record {
      loose = record { stands = stands; lone = l.0; stray = subst (λ (x : List ℕ). AreStray mid (root ∷ []) free x) (sym l.1) stray };
      ids = l.1;
      from = from;
      gone = gone;
      same = same;
      count = count;
    })
  where
    past : (n : ℕ) {c : ℕ} → c ≤ n → n < c → ⊥
    past n a b = omega arith

    off : (n : ℕ) → IsIn n (lone_pages old height (child_of (first_cell (old root).cells))) → IsIn n (root ∷ [])
        → AreApart (root ∷ lone_pages old height (child_of (first_cell (old root).cells))) → ⊥
    off n i (inl e) apart = apart.0 (subst (λ (j : ℕ). IsIn j (lone_pages old height (child_of (first_cell (old root).cells)))) e i)
    off n i (inr k) apart = k

-- and the other pages are freed
flatten_from : (old mid new : ℕ → Image) (root child height : ℕ) (own free : List ℕ) (list : List (Key × List ℕ)) → (s : TreeStands old root own free list)
    → s.height ≡ height → IsLone old height root → (old root).head.kind ≡ Inner → child ≡ child_of (first_cell (old root).cells)
    → Alters old mid root (record { kind = Leaf; level = 0; right = 0 }) (remove (old root).cells 0)
    → ((h : ℕ) (mine : List ℕ) → IsLone mid h child → TreeStands mid root mine free list → AreStray mid mine free (lone_pages mid h child)
    → FreesAll mid new root mine free list (lone_pages mid h child)) → LosesLeaf old new root own free list (lone_leaf old height root)
flatten_from old mid new root child zero own free list s tall lone kind is a frees = absurd (let e = sym kind ∙ lone.0 in cc)
flatten_from old mid new root child (suc height) own free list s tall lone kind is a frees =
    let c = child_of (first_cell (old root).cells) in
    let ids = lone_pages old height c in
    let mine = root ∷ [] in
    let own_is : own ≡ root ∷ ids = lone_own old root height own free list s tall lone in
    let w : IsCutOff old mid c height root own mine free list =
    subst (λ (k : ℕ). IsCutOff old mid k height root own mine free list) is (flat_off old mid root child height own free list s tall lone is a) in
    let zeroth : mid 0 ≡ old 0 = w.same 0 s.off_meta in
    let at : IsLone mid height c → TreeStands mid root mine free list → AreStray mid mine free (lone_pages mid height c)
    → FreesAll mid new root mine free list (lone_pages mid height c) =
    subst (λ (k : ℕ). IsLone mid height k → TreeStands mid root mine free list → AreStray mid mine free (lone_pages mid height k)
    → FreesAll mid new root mine free list (lone_pages mid height k)) is (frees height mine) in
    let r : FreesAll mid new root mine free list ids =
    subst (λ (l : List ℕ). FreesAll mid new root mine free list l) w.ids (at w.loose.lone w.loose.stands w.loose.stray) in
    let all : count_of new ≡ count_of old = r.count ∙ w.count in
    record {
      becomes = record {
        more = mine;
        spare = ids ++ free;
        stands = r.stands;
        changes = record {
          genid = r.genid ∙ genid_same old mid zeroth;
          count = omega arith;
          few = λ h. subst (λ (c : ℕ). c < 2 ^ 62) (sym all) h;
          others = λ n h z off_own off_free. r.others n z (λ i. off_own (w.gone n i)) ∙ w.same n off_own;
          tree = λ n i. inl (w.from n i);
          unused = λ n i. was n w.gone (in_either n ids free i);
        };
        lost = record {
          tree = λ n i. still n (subst (λ (l : List ℕ). IsIn n l) own_is i);
          unused = λ n i. inr (in_right n ids free i);
          taken = λ n a b. absurd (never n a b all);
        };
      };
      filled = filled_after old mid new root (root_filled old mid root _ _ a) (freed_filled mid new root mine free list ids r);
      went = inr (free_page_in new (lone_leaf old height c) (ids ++ free) r.stands.spare.kept
          (in_left (lone_leaf old height c) ids free (lone_inside old height c)));
    }
  where
    never : (n : ℕ) → count_of old ≤ n → n < count_of new → count_of new ≡ count_of old → ⊥
    never n a b e = omega arith

    was : (n : ℕ) → ((n : ℕ) → IsIn n (lone_pages old height (child_of (first_cell (old root).cells))) → IsIn n own)
        → IsIn n (lone_pages old height (child_of (first_cell (old root).cells))) ⊎ IsIn n free → IsIn n own ⊎ IsIn n free ⊎ (count_of old ≤ n)
    was n gone (inl i) = inl (gone n i)
    was n gone (inr i) = inr (inl i)

    still : (n : ℕ) → IsIn n (root ∷ lone_pages old height (child_of (first_cell (old root).cells)))
        → IsIn n (root ∷ []) ⊎ IsIn n (lone_pages old height (child_of (first_cell (old root).cells)) ++ free)
    still n (inl e) = inl (inl e)
    still n (inr i) = inr (in_left n (lone_pages old height (child_of (first_cell (old root).cells))) free i)

pub flattened : (old mid new : ℕ → Image) (root child : ℕ) (own free : List ℕ) (list : List (Key × List ℕ)) → (s : TreeStands old root own free list)
    → IsLone old s.height root → (old root).head.kind ≡ Inner → child ≡ child_of (first_cell (old root).cells)
    → Alters old mid root (record { kind = Leaf; level = 0; right = 0 }) (remove (old root).cells 0)
    → ((h : ℕ) (mine : List ℕ) → IsLone mid h child → TreeStands mid root mine free list → AreStray mid mine free (lone_pages mid h child)
    → FreesAll mid new root mine free list (lone_pages mid h child)) → LosesLeaf old new root own free list (lone_leaf old s.height root)
flattened old mid new root child own free list s lone kind is a frees =
    flatten_from old mid new root child s.height own free list s refl lone kind is a frees

-- a root that is an empty leaf stays
pub stays_leaf : (old new : ℕ → Image) (root : ℕ) (own free : List ℕ) (list : List (Key × List ℕ)) → new ≡ old → (s : TreeStands old root own free list)
    → IsLone old s.height root → (old root).head.kind ≡ Leaf → LosesLeaf old new root own free list (lone_leaf old s.height root)
stays_leaf old new root own free list same s lone kind = record {
  becomes = subst (λ (p : ℕ → Image). Becomes old p root own free list) (sym same) (becomes_none old root own free list s);
  filled = filled_same old new root same;
  went = inl (lone_root old s.height root lone kind);
}

-- a cell is taken from a page, and the first one that is left gets the empty key
pub drops_first : (old mid new : ℕ → Image) (page : ℕ) → Alters old mid page (old page).head (remove (old page).cells 0) → Rekeys mid new page
    → DropsChild old new page 0
drops_first old mid new page a r = record {
  alters = record {
    head_is = r.alters.head_is ∙ a.head_is;
    is = r.alters.is ∙ first_set (mid page).cells r.cell r.here ∙ ap rekeyed a.is;
    others = λ n off. r.alters.others n off ∙ a.others n off;
  };
  some = λ e. still (mid page).cells r.cell r.here (sym r.alters.is ∙ e);
  small = λ z next here. subst (λ (c : List ℕ). child_of c < 2 ^ 64)
      (same_Some r.cell next (sym r.here ∙ ap (λ (l : List (List ℕ)). slice_get l 0) a.is ∙ second (old page).cells ∙ here)) r.small;
}
  where
    still : (cells : List (List ℕ)) (cell : List ℕ) → slice_get cells 0 ≡ Some cell → slice_set cells 0 (inner_cell [] (child_of r.cell)) ≡ [] → ⊥
    still [] cell here e = none-some cell here
    still (c ∷ cs) cell here e = let k = e in cc

    first_set : (cells : List (List ℕ)) (cell : List ℕ) → slice_get cells 0 ≡ Some cell → slice_set cells 0 (inner_cell [] (child_of cell)) ≡ rekeyed cells
    first_set [] cell here = absurd (none-some cell here)
    first_set (c ∷ cs) cell here = ap (λ (x : List ℕ). inner_cell [] (child_of x) ∷ cs) (sym (same_Some c cell here))

    second : (cells : List (List ℕ)) → slice_get (remove cells 0) 0 ≡ slice_get cells 1
    second [] = refl
    second (c ∷ []) = refl
    second (c ∷ d ∷ cs) = refl

-- a cell behind the first is taken from a page
pub drops_later : (old new : ℕ → Image) (page at : ℕ) → 0 < at → TakesAt old new page at → DropsChild old new page at
drops_later old new page zero after t = absurd (omega arith)
drops_later old new page (suc at) after t = record {
  alters = t.alters;
  some = λ e. left (old page).cells t.cell t.here (sym t.alters.is ∙ e);
  small = λ z next here. absurd (let k : suc at ≡ 0 = z in omega arith);
}
  where
    left : (cells : List (List ℕ)) (cell : List ℕ) → slice_get cells (suc at) ≡ Some cell → remove cells (suc at) ≡ [] → ⊥
    left [] cell here e = none-some cell here
    left (c ∷ cs) cell here e = let k = e in cc

-- the page that loses a child, and then the leaf before the one that goes
pub unlinks : (old mid new : ℕ → Image) (fork : Fork) → DropsChild old mid fork.page fork.at → SetsRight mid new fork.page fork.left fork.right
    → HasRoom (new fork.page).cells → Unlinks old new fork
unlinks old mid new fork d r room =
    let here : new fork.page ≡ mid fork.page = r.others fork.page r.off in
    let beside : (n : ℕ) → fork.left ≡ Some n → mid n ≡ old n =
    λ n k. d.alters.others n (λ e. r.off (k ∙ ap (λ (j : ℕ). Some j) e)) in
    record {
      cells = ap (λ (i : Image). i.cells) here ∙ d.alters.is;
      some = λ e. d.some (ap (λ (i : Image). i.cells) (sym here) ∙ e);
      head = ap (λ (i : Image). i.head) here ∙ d.alters.head_is;
      left_cells = λ n k. r.cells n k ∙ ap (λ (i : Image). i.cells) (beside n k);
      left_head = λ n k. r.head n k ∙ ap (λ (i : Image). record i.head { right = fork.right }) (beside n k);
      small = d.small;
      room = room;
      others = λ n off off_left. r.others n off_left ∙ d.alters.others n off;
    }

-- the same from pages that were read before
pub pruned_after : (old read new : ℕ → Image) (root : ℕ) (own free : List ℕ) (list : List (Key × List ℕ)) (fork : Fork) → read ≡ old
    → (s : TreeStands old root own free list) → (f : IsFork old s.height (top root) s.cells fork)
    → ((mid : ℕ → Image) × Unlinks read mid fork × ((height root : ℕ) (own free : List ℕ) (list : List (Key × List ℕ)) → TreeStands mid root own free list
    → IsLone mid height fork.child → AreStray mid own free (lone_pages mid height fork.child)
    → FreesAll mid new root own free list (lone_pages mid height fork.child)))
    → LosesLeaf old new root own free list (lone_leaf old f.depth fork.child)
pruned_after old read new root own free list fork same s f (mid, u, frees) =
    pruned old mid new root own free list fork s f (subst (λ (g : ℕ → Image). Unlinks g mid fork) same u)
    (λ h mine lone stands stray. frees h root mine free list stands lone stray)

-- what follows of an answer where it is `Ok`
pub ok_when : {T E : Type 0} {Q : Type 0} (r : Result T E) → ((x : T) → r ≡ Ok x → Q) → OnOk r Q
ok_when (Ok x) f = f x refl
ok_when (Err e) f = tt

pub on_ok : {T E : Type 0} {Q : Type 0} (r : Result T E) (x : T) → r ≡ Ok x → OnOk r Q → Q
on_ok (Ok y) x e h = h
on_ok (Err y) x e h = absurd (err_ok e)
  where
    err_ok : Err y ≡ Ok x → ⊥
    err_ok e = cc

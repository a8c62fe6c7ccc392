-- A tree among other pages, before a change and after it.
use Rattle.std.proofs.Common.{if◌then◌else◌, drop, length, ◌+◌, ◌^◌, ◌≡◌, ◌⊎◌, inl, inr, ℕ, zero, suc, ◌≤◌, ◌<◌, Bool, true, false, List, [], ◌∷◌, ◌++◌, map, None, Some, refl, sym, ap, ◌∙◌, subst, arith}
use Rattle.std.proofs.lemmas.Option.{none-some, same_Some}
use Rattle.std.specs.Option.{is_some}
use Rattle.std.specs.Prelude.{Option}
use Rattle.std.proofs.lemmas.Bool.{false≢true, cases_lt}
use Rattle.std.specs.List.{AllByRecursion, slice_get, insert, remove}
use Rattle.byteorder.specs.Endian.{big_number}
use Rattle.page_store.specs.Image.{Image, HasRoom}
use Rattle.page_store.specs.declared.pages.PageKind.TheVariants.{Leaf}
use Rattle.page_store.specs.Edits.{after_edit}
use Rattle.page_store.specs.declared.edits.Edit.TheVariants.{PutCell, TakeCell}
use Rattle.page_workspace.specs.Drafts.{edited}
use Rattle.page_workspace.proofs.ChainLaws.{chain_same, kept_same}
use Rattle.page_workspace.proofs.DraftLaws.{edited_here, edited_other}
use Rattle.page_workspace.specs.Spare.{IsIn, IsChain, IsMeta, next_genid, count_of, first_free, first_cell}
use Rattle.btree_index.specs.Keys.{Key, same_key}
use Rattle.btree_index.specs.Cells.{key_of_cell, value_of_cell, leaf_cell, IsLeafCell}
use Rattle.btree_index.specs.Pairs.{value_at, cell_value, with_pair, place_in, without_key, HasKeyAt}
use Rattle.btree_index.specs.Trees.{Entry, cells_of, tree_pages, IsFenced, AreFenced, Holds, top, pair_of}
use Rattle.btree_index.specs.Changes.{TreeStands, Changes, LosesNone, Becomes, Leads}
use Rattle.btree_index.proofs.LeafLaws.{ChangesCells, Replaces, replaces, cells-append, fenced_at}
use Rattle.btree_index.proofs.CellLemmas.{key_of-cell, value_of-cell, leaf_cell_is}
use Rattle.btree_index.proofs.PairLemmas.{with_pair-cells, fenced_insert, all_insert, front_before, behind_after, without-cells, without-absent, fenced_remove, all_remove}
use Rattle.btree_index.proofs.RowLemmas.{fenced_rest}
use Rattle.btree_index.proofs.WayLemmas.{here_from, value-pairs}

pub changes_none : (pages : ℕ → Image) (own free : List ℕ) → Changes pages pages own own free free
changes_none pages own free = record {
  genid = refl;
  count = omega arith;
  few = λ h. h;
  others = λ n below some off_own off_free. refl;
  tree = λ n i. inl i;
  unused = λ n i. inr (inl i);
}

-- a page that was not of the tree before: it was free, or never written
pub record IsFresh (first old : ℕ → Image) (free spare : List ℕ) (n : ℕ) : Type 0 where
  pub was : IsIn n free ⊎ (count_of first ≤ n)
  pub below : n < count_of old
  pub some : n ≡ 0 → ⊥
  pub off : IsIn n spare → ⊥

-- a change of the tree's pages and of fresh ones alone
pub becomes : (first old new : ℕ → Image) (Fresh : ℕ → Type 0) (root : ℕ) (own free spare : List ℕ) (list after : List (Key × List ℕ))
    → TreeStands old root own spare list → Changes first old own own free spare → ((n : ℕ) → Fresh n → IsFresh first old free spare n)
    → ((n : ℕ) → IsIn n free → Fresh n ⊎ IsIn n spare)
    → (height : ℕ) (cells : List (List ℕ)) → Holds new height (top root) cells
    → ((n : ℕ) → IsIn n (tree_pages new height (top root)) → IsIn n own ⊎ Fresh n)
    → ((n : ℕ) → IsIn n own → IsIn n (tree_pages new height (top root))) → ((n : ℕ) → Fresh n → IsIn n (tree_pages new height (top root)))
    → ((n : ℕ) → count_of first ≤ n → n < count_of old → Fresh n)
    → ((n : ℕ) → (IsIn n own → ⊥) → (Fresh n → ⊥) → new n ≡ old n) → map pair_of cells ≡ after
    → Becomes first new root own free after
becomes first old new Fresh root own free spare list after stands changes fresh kept height cells holds from keeps has taken same pairs =
    let zeroth : new 0 ≡ old 0 = same 0 stands.off_meta (λ f. (fresh 0 f).some refl) in
    let count : count_of new ≡ count_of old = ap (λ (i : Image). big_number 8 (drop 8 (first_cell i.cells))) zeroth in
    let genid : next_genid new ≡ next_genid old = ap (λ (i : Image). big_number 8 (first_cell i.cells)) zeroth in
    let free_is : first_free new ≡ first_free old = ap (λ (i : Image). big_number 8 (drop 16 (first_cell i.cells))) zeroth in
    let earlier : count_of first ≤ count_of old = changes.count in
    record {
      more = tree_pages new height (top root);
      spare = spare;
      stands = record {
        height = height;
        cells = cells;
        holds = holds;
        own_is = refl;
        pairs = pairs;
        spare = record {
          meta = subst IsMeta (sym zeroth) stands.spare.meta;
          chain = subst (λ (n : ℕ). IsChain new n spare) (sym free_is)
              (chain_same old new (first_free old) spare (λ n i. same n (λ j. stands.off_free n j i) (λ f. (fresh n f).off i)) stands.spare.chain);
          apart = stands.spare.apart;
          written = subst (λ (c : ℕ). AllByRecursion (λ id. id < c) spare) (sym count) stands.spare.written;
          kept = kept_same old new spare (λ n i. same n (λ j. stands.off_free n j i) (λ f. (fresh n f).off i)) stands.spare.kept;
          past = λ n h.
              (let past : count_of old ≤ n = omega arith in
              same n (λ i. off n past (stands.below n i)) (λ f. off n past (fresh n f).below) ∙ stands.spare.past n past);
        };
        off_meta = λ i. meta (from 0 i);
        off_free = λ n i j. apart n j (from n i);
        below = λ n i. subst (λ (c : ℕ). n < c) (sym count) (under n (from n i));
      };
      changes = record {
        genid = genid ∙ changes.genid;
        count = omega arith;
        few = λ h. subst (λ (c : ℕ). c < 2 ^ 62) (sym count) (changes.few h);
        others = λ n h some off_own off_free.
            same n off_own (λ f. never n h off_free (fresh n f).was) ∙ changes.others n h some off_own off_free;
        tree = λ n i. tree n (from n i);
        unused = changes.unused;
      };
      lost = record {
        tree = λ n i. inl (keeps n i);
        unused = λ n i. stay n (kept n i);
        taken = λ n a b. inl (has n (taken n a (subst (λ (c : ℕ). n < c) count b)));
      };
    }
  where
    off : (n : ℕ) {c : ℕ} → c ≤ n → n < c → ⊥
    off n a b = omega arith

    meta : IsIn 0 own ⊎ Fresh 0 → ⊥
    meta (inl i) = stands.off_meta i
    meta (inr f) = (fresh 0 f).some refl

    never : (n : ℕ) → n < count_of first → (IsIn n free → ⊥) → IsIn n free ⊎ (count_of first ≤ n) → ⊥
    never n h off_free (inl i) = off_free i
    never n h off_free (inr p) = off n p h

    stay : (n : ℕ) → Fresh n ⊎ IsIn n spare → IsIn n (tree_pages new height (top root)) ⊎ IsIn n spare
    stay n (inl f) = inl (has n f)
    stay n (inr i) = inr i

    apart : (n : ℕ) → IsIn n spare → IsIn n own ⊎ Fresh n → ⊥
    apart n j (inl i) = stands.off_free n i j
    apart n j (inr f) = (fresh n f).off j

    under : (n : ℕ) → IsIn n own ⊎ Fresh n → n < count_of old
    under n (inl i) = stands.below n i
    under n (inr f) = (fresh n f).below

    tree : (n : ℕ) → IsIn n own ⊎ Fresh n → IsIn n own ⊎ IsIn n free ⊎ (count_of first ≤ n)
    tree n (inl i) = inl i
    tree n (inr f) = inr (fresh n f).was

-- a leaf with other cells
pub leaf_becomes : (old new : ℕ → Image) (root : ℕ) (key : Key) (page : ℕ) (own free : List ℕ) (list after : List (Key × List ℕ)) (cells : List (List ℕ))
    → (stands : TreeStands old root own free list) → ChangesCells old new page cells
    → (r : Replaces old new root key page stands.height stands.cells cells) → HasRoom cells → AllByRecursion IsLeafCell cells → IsFenced r.low cells r.others
    → map pair_of (cells_of old r.front ++ (cells ++ cells_of old r.others)) ≡ after → Becomes old new root own free after
leaf_becomes old new root key page own free list after cells stands changes r room each fence pairs =
    let grown = r.grown room each fence in
    becomes old old new (λ _. ⊥) root own free free list after stands (changes_none old own free) (λ n f. absurd f) (λ n i. inr i) stands.height
    (cells_of old r.front ++ (cells ++ cells_of old r.others)) grown.holds
    (λ n i. subst (λ (l : List ℕ). IsIn n l ⊎ ⊥) stands.own_is (grown.from n i))
    (λ n i. grown.keeps n (subst (λ (l : List ℕ). IsIn n l) (sym stands.own_is) i)) (λ n f. absurd f) (λ n a b. omega arith)
    (λ n off f. changes.others n (λ e. off (subst (λ (k : ℕ). IsIn k own) (sym e) (subst (λ (l : List ℕ). IsIn page l) stands.own_is r.inside)))) pairs

-- what the leaf has of the key is what the tree has
pub leaf_has : (old new : ℕ → Image) (root : ℕ) (key : Key) (page height : ℕ) (all cells : List (List ℕ))
    → (r : Replaces old new root key page height all cells) → cell_value key all ≡ cell_value key (old page).cells
leaf_has old new root key page height all cells r =
    ap (cell_value key) (r.is ∙ sym (cells-append old r.front (record { low = r.low; page = page } ∷ r.others)))
    ∙ here_from old key r.low page r.front r.others r.fenced r.from r.to

value_some : (key : Key) (cells : List (List ℕ)) (at : ℕ) (found : List ℕ) → slice_get cells at ≡ Some found → same_key key (key_of_cell found) ≡ true
    → is_some (cell_value key cells) ≡ true
value_some key [] at found h same = absurd (none-some found h)
value_some key (c ∷ cs) zero found h same =
    let here : same_key key (key_of_cell c) ≡ true = ap (λ (x : List ℕ). same_key key (key_of_cell x)) (same_Some c found h) ∙ same in
    ap (λ (t : Bool). is_some (if t then Some (value_of_cell c) else cell_value key cs)) here
value_some key (c ∷ cs) (suc at) found h same = go (same_key key (key_of_cell c)) (value_some key cs at found h same)
  where
    go : (t : Bool) → is_some (cell_value key cs) ≡ true → is_some (if t then Some (value_of_cell c) else cell_value key cs) ≡ true
    go true k = refl
    go false k = k

-- the cell of the key is taken out of its leaf
pub removes : (old new : ℕ → Image) (root : ℕ) (key : Key) (page at : ℕ) → Leads old root key page → (old page).head.kind ≡ Leaf
    → HasKeyAt key (old page).cells at → ChangesCells old new page (remove (old page).cells at) → HasRoom (remove (old page).cells at)
    → (own free : List ℕ) (list : List (Key × List ℕ)) → TreeStands old root own free list
    → (true ≡ is_some (value_at key list)) × Becomes old new root own free (without_key key list)
removes old new root key page at leads leaf has changes room own free list stands =
    let cells = remove (old page).cells at in
    let r : Replaces old new root key page stands.height stands.cells cells =
    replaces old new root key page stands.height stands.cells cells stands.holds (leads stands.height stands.cells stands.holds) leaf changes in
    let e : Entry = record { low = r.low; page = page } in
    let fence : IsFenced r.low (old page).cells r.others = fenced_at old r.front e r.others r.fenced in
    let value : value_at key list ≡ cell_value key (old page).cells =
    ap (value_at key) (sym stands.pairs) ∙ value-pairs key stands.cells ∙ leaf_has old new root key page stands.height stands.cells cells r in (
      sym (ap is_some value ∙ value_some key (old page).cells at has.found has.here has.same),
      leaf_becomes old new root key page own free list (without_key key list) cells stands changes r room
          (all_remove IsLeafCell (old page).cells at (each r))
          (fenced_remove r.low (old page).cells at r.others fence)
          (without-cells key (cells_of old r.front) (old page).cells (cells_of old r.others) at has.found fence.ascends has.here has.same
          (front_before old key r.low page r.front r.others r.fenced r.from)
          (behind_after old key r.others (behind r) r.to)
          ∙ ap (λ (l : List (List ℕ)). without_key key (map pair_of l)) (sym r.is) ∙ ap (without_key key) stands.pairs),
    )
  where
    behind : (r : Replaces old new root key page stands.height stands.cells (remove (old page).cells at)) → AreFenced old r.others
    behind r = (fenced_rest old r.front (record { low = r.low; page = page }) r.others r.fenced).1

    each : (r : Replaces old new root key page stands.height stands.cells (remove (old page).cells at)) → AllByRecursion IsLeafCell (old page).cells
    each r = r.leaf.cells

-- where no cell has the key, nothing is to be taken
pub removes_none : (old new : ℕ → Image) (root : ℕ) (key : Key) (page : ℕ) → new ≡ old → Leads old root key page → (old page).head.kind ≡ Leaf
    → cell_value key (old page).cells ≡ None → (own free : List ℕ) (list : List (Key × List ℕ)) → TreeStands old root own free list
    → (false ≡ is_some (value_at key list)) × Becomes old new root own free (without_key key list)
removes_none old new root key page same leads leaf none own free list stands =
    let cells = (old page).cells in
    let r : Replaces old old root key page stands.height stands.cells cells =
    replaces old old root key page stands.height stands.cells cells stands.holds (leads stands.height stands.cells stands.holds) leaf
    (record { is = refl; head = refl; others = λ n off. refl }) in
    let absent : cell_value key stands.cells ≡ None = leaf_has old old root key page stands.height stands.cells cells r ∙ none in
    let value : value_at key list ≡ None = ap (value_at key) (sym stands.pairs) ∙ value-pairs key stands.cells ∙ absent in (
      sym (ap is_some value),
      subst (λ (f : ℕ → Image). Becomes old f root own free (without_key key list)) (sym same)
          (becomes old old old (λ _. ⊥) root own free free list (without_key key list) stands (changes_none old own free) (λ n f. absurd f) (λ n i. inr i) stands.height stands.cells stands.holds
          (λ n i. inl (subst (λ (l : List ℕ). IsIn n l) stands.own_is i))
          (λ n i. subst (λ (l : List ℕ). IsIn n l) (sym stands.own_is) i) (λ n f. absurd f) (λ n a b. omega arith) (λ n off f. refl)
          (sym (without-absent key stands.cells absent) ∙ ap (without_key key) stands.pairs)),
    )

-- an edit of the cells of one page
pub takes_cell : (old new : ℕ → Image) (id at : ℕ) (cell : List ℕ) → new ≡ edited old id (TakeCell at cell) → ChangesCells old new id (remove (old id).cells at)
takes_cell old new id at cell is =
    let here : new id ≡ after_edit (old id) (TakeCell at cell) (old id).lsn = ap (λ (f : ℕ → Image). f id) is ∙ edited_here old id (TakeCell at cell) in
    record {
      is = ap (λ (i : Image). i.cells) here;
      head = ap (λ (i : Image). i.head) here;
      others = λ n off. ap (λ (f : ℕ → Image). f n) is ∙ edited_other old id (TakeCell at cell) n off;
    }

pub puts_cell : (old new : ℕ → Image) (id at : ℕ) (cell : List ℕ) → new ≡ edited old id (PutCell at cell) → ChangesCells old new id (insert (old id).cells at cell)
puts_cell old new id at cell is =
    let here : new id ≡ after_edit (old id) (PutCell at cell) (old id).lsn = ap (λ (f : ℕ → Image). f id) is ∙ edited_here old id (PutCell at cell) in
    record {
      is = ap (λ (i : Image). i.cells) here;
      head = ap (λ (i : Image). i.head) here;
      others = λ n off. ap (λ (f : ℕ → Image). f n) is ∙ edited_other old id (PutCell at cell) n off;
    }

-- a tree as it is
pub becomes_none : (pages : ℕ → Image) (root : ℕ) (own free : List ℕ) (list : List (Key × List ℕ)) → TreeStands pages root own free list
    → Becomes pages pages root own free list
becomes_none pages root own free list stands =
    becomes pages pages pages (λ _. ⊥) root own free free list list stands (changes_none pages own free) (λ n f. absurd f) (λ n i. inr i) stands.height stands.cells stands.holds
    (λ n i. inl (subst (λ (l : List ℕ). IsIn n l) stands.own_is i))
    (λ n i. subst (λ (l : List ℕ). IsIn n l) (sym stands.own_is) i) (λ n f. absurd f) (λ n a b. omega arith) (λ n off f. refl) stands.pairs

-- one change after another
pub changes_after : (a b c : ℕ → Image) (own more most free spare left : List ℕ) → Changes a b own more free spare → Changes b c more most spare left
    → Changes a c own most free left
changes_after a b c own more most free spare left first second =
    let early : count_of a ≤ count_of b = first.count in
    let late : count_of b ≤ count_of c = second.count in
    record {
      genid = second.genid ∙ first.genid;
      count = omega arith;
      few = λ h. second.few (first.few h);
      others = λ n h some off_own off_free.
          (let below : n < count_of b = omega arith in
          second.others n below some (λ i. gone n h off_own off_free (first.tree n i)) (λ i. gone n h off_own off_free (first.unused n i))
          ∙ first.others n h some off_own off_free);
      tree = λ n i. back n (second.tree n i);
      unused = λ n i. back n (second.unused n i);
    }
  where
    gone : (n : ℕ) → n < count_of a → (IsIn n own → ⊥) → (IsIn n free → ⊥) → IsIn n own ⊎ IsIn n free ⊎ (count_of a ≤ n) → ⊥
    gone n h off_own off_free (inl i) = off_own i
    gone n h off_own off_free (inr (inl i)) = off_free i
    gone n h off_own off_free (inr (inr k)) = omega arith

    back : (n : ℕ) → IsIn n more ⊎ IsIn n spare ⊎ (count_of b ≤ n) → IsIn n own ⊎ IsIn n free ⊎ (count_of a ≤ n)
    back n (inl i) = first.tree n i
    back n (inr (inl i)) = first.unused n i
    back n (inr (inr k)) = let early : count_of a ≤ count_of b = first.count in inr (inr (omega arith))

pub loses_none : (pages : ℕ → Image) (own free : List ℕ) → LosesNone pages pages own own free free
loses_none pages own free = record { tree = λ n i. inl i; unused = λ n i. inr i; taken = λ n from to. absurd (past n from to) }
  where
    past : (n : ℕ) → count_of pages ≤ n → n < count_of pages → ⊥
    past n from to = omega arith

pub loses_after : (a b c : ℕ → Image) (own more most free spare left : List ℕ) → LosesNone a b own more free spare → LosesNone b c more most spare left
    → LosesNone a c own most free left
loses_after a b c own more most free spare left first second = record {
  tree = λ n i. later n (first.tree n i);
  unused = λ n i. later n (first.unused n i);
  taken = λ n from to. either n from to (cases_lt n (count_of b));
}
  where
    later : (n : ℕ) → IsIn n more ⊎ IsIn n spare → IsIn n most ⊎ IsIn n left
    later n (inl i) = second.tree n i
    later n (inr i) = second.unused n i

    either : (n : ℕ) → count_of a ≤ n → n < count_of c → (n < count_of b) ⊎ (count_of b ≤ n) → IsIn n most ⊎ IsIn n left
    either n from to (inl h) = later n (first.taken n from h)
    either n from to (inr h) = second.taken n h to

pub becomes_after : (a b c : ℕ → Image) (root : ℕ) (own free : List ℕ) (one two : List (Key × List ℕ)) → (first : Becomes a b root own free one)
    → Becomes b c root first.more first.spare two → Becomes a c root own free two
becomes_after a b c root own free one two first second = record {
  more = second.more;
  spare = second.spare;
  stands = second.stands;
  changes = changes_after a b c own first.more second.more free first.spare second.spare first.changes second.changes;
  lost = loses_after a b c own first.more second.more free first.spare second.spare first.lost second.lost;
}

-- what the leaf of the way has of a key is what the list has
pub value_there : (old : ℕ → Image) (root : ℕ) (key : Key) (page : ℕ) → Leads old root key page → (old page).head.kind ≡ Leaf
    → (own free : List ℕ) (list : List (Key × List ℕ)) → TreeStands old root own free list → value_at key list ≡ cell_value key (old page).cells
value_there old root key page leads leaf own free list stands =
    let cells = (old page).cells in
    let r : Replaces old old root key page stands.height stands.cells cells =
    replaces old old root key page stands.height stands.cells cells stands.holds (leads stands.height stands.cells stands.holds) leaf
    (record { is = refl; head = refl; others = λ n off. refl }) in
    ap (value_at key) (sym stands.pairs) ∙ value-pairs key stands.cells ∙ leaf_has old old root key page stands.height stands.cells cells r

-- where the leaf has the key, so has the list
pub found_there : (old : ℕ → Image) (root : ℕ) (key : Key) (page at : ℕ) → Leads old root key page → (old page).head.kind ≡ Leaf
    → HasKeyAt key (old page).cells at → (own free : List ℕ) (list : List (Key × List ℕ)) → TreeStands old root own free list
    → is_some (value_at key list) ≡ true
found_there old root key page at leads leaf has own free list stands =
    ap is_some (value_there old root key page leads leaf own free list stands) ∙ value_some key (old page).cells at has.found has.here has.same

-- the cell of the pair is put into its leaf
pub puts : (old new : ℕ → Image) (root : ℕ) (key : Key) (value : List ℕ) (page : ℕ) → Leads old root key page → (old page).head.kind ≡ Leaf
    → cell_value key (old page).cells ≡ None → length key ≤ 1630 → 2 + length key + length value ≤ 1640
    → ChangesCells old new page (insert (old page).cells (place_in key (old page).cells) (leaf_cell key value))
    → HasRoom (insert (old page).cells (place_in key (old page).cells) (leaf_cell key value))
    → (own free : List ℕ) (list : List (Key × List ℕ)) → TreeStands old root own free list
    → (value_at key list ≡ None) × Becomes old new root own free (with_pair key value list)
puts old new root key value page leads leaf none short small changes room own free list stands =
    let cell = leaf_cell key value in
    let cells = insert (old page).cells (place_in key (old page).cells) cell in
    let fits : length key < 2 ^ 16 = omega arith in
    let key_is : key_of_cell cell ≡ key = key_of-cell key value fits in
    let value_is : value_of_cell cell ≡ value = value_of-cell key value fits in
    let pair_is : pair_of cell ≡ (key, value) = ap (λ (k : List ℕ). (k, value_of_cell cell)) key_is ∙ ap (λ (v : List ℕ). (key, v)) value_is in
    let r : Replaces old new root key page stands.height stands.cells cells =
    replaces old new root key page stands.height stands.cells cells stands.holds (leads stands.height stands.cells stands.holds) leaf changes in
    let e : Entry = record { low = r.low; page = page } in
    let fence : IsFenced r.low (old page).cells r.others = fenced_at old r.front e r.others r.fenced in
    let has : value_at key list ≡ None =
    ap (value_at key) (sym stands.pairs) ∙ value-pairs key stands.cells ∙ leaf_has old new root key page stands.height stands.cells cells r ∙ none in (
      has,
      leaf_becomes old new root key page own free list (with_pair key value list) cells stands changes r room
          (all_insert IsLeafCell (old page).cells (place_in key (old page).cells) cell r.leaf.cells (leaf_cell_is key value short small))
          (fenced_insert key r.low cell (old page).cells r.others key_is none r.from r.to fence)
          (with_pair-cells key value cell (cells_of old r.front) (old page).cells (cells_of old r.others) pair_is none
          (front_before old key r.low page r.front r.others r.fenced r.from)
          (behind_after old key r.others (fenced_rest old r.front e r.others r.fenced).1 r.to)
          ∙ ap (λ (l : List (List ℕ)). with_pair key value (map pair_of l)) (sym r.is) ∙ ap (with_pair key value) stands.pairs),
    )

-- what is not some is none
pub none_of : {A : Type 0} (o : Option A) → is_some o ≡ false → o ≡ None
none_of None h = refl
none_of (Some x) h = absurd (false≢true (sym h))

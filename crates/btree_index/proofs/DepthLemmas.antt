-- How deep a way comes. The pages on it are apart, so it ends in time; and what they are, seen from a tree among other
-- pages.
use Rattle.std.proofs.Common.{◌≡◌, ◌≢◌, ◌⊎◌, inl, inr, ℕ, zero, suc, ◌+◌, ◌-◌, ◌<◌, ◌≤◌, ◌^◌, min, false, true, List, [], ◌∷◌, ◌++◌, map, length, Option, None, Some, refl, sym, ap, ◌∙◌, subst, append_assoc, arith}
use Rattle.std.proofs.Math.Dec.{eqb}
use Rattle.std.proofs.Math.Logic.{⊎_elim}
use Rattle.std.proofs.lemmas.Bool.{cases_Bool, eqb-true, ne_eqb}
use Rattle.std.proofs.lemmas.Bool.Decides.{eqb_tells}
use Rattle.std.proofs.lemmas.List.{append-nil}
use Rattle.std.proofs.lemmas.Map.Steps.{length-le_from_distinct_below}
use Rattle.std.specs.List.{AllByRecursion, IsDistinct, list_any}
use Rattle.page_store.specs.Image.{Image}
use Rattle.page_store.specs.declared.pages.PageKind.TheVariants.{Leaf, Inner}
use Rattle.page_workspace.specs.Spare.{IsIn, AreApart, IsChain, IsFreePage, count_of, first_free}
use Rattle.btree_index.specs.Keys.{Key}
use Rattle.btree_index.specs.Pairs.{choice}
use Rattle.btree_index.specs.Trees.{Entry, page_of, leaves, tree_pages, spread, IsShaped, IsLeafPage, IsInnerPage, top, TreeList}
use Rattle.btree_index.specs.Ways.{IsAt}
use Rattle.btree_index.specs.Fits.{HasSpare, IsFull, IsTreePage, HasNext, Stays, IsRaisable, IsSplittable, IsFullUntil, IsFullUnder}
use Rattle.btree_index.specs.Changes.{raise, TreeStands, IsPath, Leads}
use Rattle.btree_index.proofs.ApartLaws.{in_left, in_right, apart_cross}
use Rattle.btree_index.proofs.KeyLaws.{none_before_empty}
use Rattle.btree_index.proofs.LevelLemmas.{uppers, all_pages, shaped_down, level_down, raise_suc}
use Rattle.btree_index.proofs.LeafLaws.{pages-append, each_at}
use Rattle.btree_index.proofs.ParentLemmas.{level_inside}
use Rattle.btree_index.proofs.RootLaws.{root_in, root_level}
use Rattle.btree_index.proofs.WayLemmas.{not_leaf, descend}

-- a page so deep on the way to a key
pub record IsPlaced (pages : ℕ → Image) (root : ℕ) (key : Key) (page depth height : ℕ) : Type 0 where
  pub rest : ℕ
  pub tall : raise depth rest ≡ height
  pub at : IsAt (leaves pages depth (top root)) key page

pub placed_begins : (pages : ℕ → Image) (root : ℕ) (key : Key) (height : ℕ) → IsPlaced pages root key root 0 height
placed_begins pages root key height = record {
  rest = height;
  tall = refl;
  at = record { front = []; low = []; others = []; is = refl; from = none_before_empty key; to = tt };
}

pub placed_on : (pages : ℕ → Image) (root : ℕ) (key : Key) (page depth height : ℕ) → IsShaped pages height (top root) → (pages page).head.kind ≡ Inner
    → IsPlaced pages root key page depth height → IsPlaced pages root key (choice key (pages page).cells) (suc depth) height
placed_on pages root key page depth height shaped inner placed = go placed.rest placed.tall
  where
    go : (rest : ℕ) → raise depth rest ≡ height → IsPlaced pages root key (choice key (pages page).cells) (suc depth) height
    go zero tall =
        let level = shaped_down pages depth 0 (top root) (subst (λ (h : ℕ). IsShaped pages h (top root)) (sym tall) shaped) in
        let P : List Entry → Type 0 = λ l. AllByRecursion (λ e. IsLeafPage (pages e.page)) l in
        absurd (not_leaf pages page placed.at.low placed.at.front placed.at.others inner (subst P placed.at.is level))
    go (suc rest) tall =
        let level = shaped_down pages depth (suc rest) (top root) (subst (λ (h : ℕ). IsShaped pages h (top root)) (sym tall) shaped) in
        record {
          rest = rest;
          tall = sym (raise_suc depth rest) ∙ tall;
          at = subst (λ (l : List Entry). IsAt l key (choice key (pages page).cells)) (sym (level_down pages depth (top root)))
              (descend pages rest (leaves pages depth (top root)) key page level.0 placed.at);
        }

-- it is a page of a tree
pub placed_page : (pages : ℕ → Image) (root : ℕ) (key : Key) (page depth height : ℕ) → IsShaped pages height (top root)
    → IsPlaced pages root key page depth height → IsTreePage (pages page)
placed_page pages root key page depth height shaped placed = go placed.rest placed.tall
  where
    go : (rest : ℕ) → raise depth rest ≡ height → IsTreePage (pages page)
    go zero tall =
        let level = shaped_down pages depth 0 (top root) (subst (λ (h : ℕ). IsShaped pages h (top root)) (sym tall) shaped) in
        let P : List Entry → Type 0 = λ l. AllByRecursion (λ e. IsLeafPage (pages e.page)) l in
        let e : Entry = record { low = placed.at.low; page = page } in
        inl (each_at (λ x. IsLeafPage (pages x.page)) placed.at.front e placed.at.others (subst P placed.at.is level))
    go (suc rest) tall =
        let level = shaped_down pages depth (suc rest) (top root) (subst (λ (h : ℕ). IsShaped pages h (top root)) (sym tall) shaped) in
        let P : List Entry → Type 0 = λ l. AllByRecursion (λ e. IsInnerPage (suc rest) (pages e.page)) l in
        let e : Entry = record { low = placed.at.low; page = page } in
        inr (suc rest, each_at (λ x. IsInnerPage (suc rest) (pages x.page)) placed.at.front e placed.at.others (subst P placed.at.is level.0))

pub page_kind : (image : Image) → IsTreePage image → (image.head.kind ≡ Leaf) ⊎ (image.head.kind ≡ Inner)
page_kind image (inl leaf) = inl leaf.kind
page_kind image (inr (height, inner)) = inr inner.kind

pub inner_page : (image : Image) → image.head.kind ≡ Inner → IsTreePage image → (height : ℕ) × IsInnerPage height image
inner_page image inner (inl leaf) = absurd (let e = sym inner ∙ leaf.kind in cc)
inner_page image inner (inr page) = page

-- it stands in its level, and so among the tree's pages
placed_here : (pages : ℕ → Image) (root : ℕ) (key : Key) (page depth height : ℕ) → IsPlaced pages root key page depth height
    → IsIn page (map page_of (leaves pages depth (top root)))
placed_here pages root key page depth height placed =
    let e : Entry = record { low = placed.at.low; page = page } in
    subst (λ (l : List Entry). IsIn page (map page_of l)) (sym placed.at.is)
    (subst (λ (l : List ℕ). IsIn page l) (sym (pages-append placed.at.front (e ∷ placed.at.others)))
    (in_right page (map page_of placed.at.front) (page ∷ map page_of placed.at.others) (inl refl)))

placed_lower : (pages : ℕ → Image) (root : ℕ) (key : Key) (page depth height : ℕ) (placed : IsPlaced pages root key page depth height)
    → IsIn page (tree_pages pages placed.rest (leaves pages depth (top root)))
placed_lower pages root key page depth height placed =
    subst (λ (l : List Entry). IsIn page (tree_pages pages placed.rest l)) (sym placed.at.is)
    (level_inside pages placed.rest placed.at.front (record { low = placed.at.low; page = page }) placed.at.others)

pub placed_in : (pages : ℕ → Image) (root : ℕ) (key : Key) (page depth height : ℕ) → IsPlaced pages root key page depth height
    → IsIn page (tree_pages pages height (top root))
placed_in pages root key page depth height placed =
    subst (λ (h : ℕ). IsIn page (tree_pages pages h (top root))) placed.tall
    (subst (λ (l : List ℕ). IsIn page l) (sym (all_pages pages depth placed.rest (top root)))
    (in_right page (uppers pages depth (top root)) (tree_pages pages placed.rest (leaves pages depth (top root)))
    (placed_lower pages root key page depth height placed)))

-- the pages of one level more
uppers_more : (pages : ℕ → Image) (depth : ℕ) (level : List Entry)
    → uppers pages (suc depth) level ≡ uppers pages depth level ++ map page_of (leaves pages depth level)
uppers_more pages zero level = append-nil (map page_of level)
uppers_more pages (suc depth) level =
    ap (λ (l : List ℕ). map page_of level ++ l) (uppers_more pages depth (spread pages level))
    ∙ sym (append_assoc (map page_of level) (uppers pages depth (spread pages level)) (map page_of (leaves pages depth (spread pages level))))

upper_in : (pages : ℕ → Image) (root : ℕ) (key : Key) (page depth height n : ℕ) → IsPlaced pages root key page depth height
    → IsIn n (uppers pages depth (top root)) → IsIn n (tree_pages pages height (top root))
upper_in pages root key page depth height n placed i =
    subst (λ (h : ℕ). IsIn n (tree_pages pages h (top root))) placed.tall
    (subst (λ (l : List ℕ). IsIn n l) (sym (all_pages pages depth placed.rest (top root)))
    (in_left n (uppers pages depth (top root)) (tree_pages pages placed.rest (leaves pages depth (top root))) i))

-- no page above it is the same
upper_off : (pages : ℕ → Image) (root : ℕ) (key : Key) (page depth height n : ℕ) → AreApart (tree_pages pages height (top root))
    → IsPlaced pages root key page depth height → IsIn n (uppers pages depth (top root)) → n ≡ page → ⊥
upper_off pages root key page depth height n apart placed i same =
    let upper = uppers pages depth (top root) in
    let lower = tree_pages pages placed.rest (leaves pages depth (top root)) in
    let all : AreApart (upper ++ lower) =
    subst AreApart (all_pages pages depth placed.rest (top root))
    (subst (λ (h : ℕ). AreApart (tree_pages pages h (top root))) (sym placed.tall) apart) in
    apart_cross n upper lower all i (subst (λ (k : ℕ). IsIn k lower) (sym same) (placed_lower pages root key page depth height placed))

pub parent_off : (pages : ℕ → Image) (root : ℕ) (key : Key) (parent child depth height : ℕ) → AreApart (tree_pages pages height (top root))
    → IsPlaced pages root key parent depth height → IsPlaced pages root key child (suc depth) height → parent ≡ child → ⊥
parent_off pages root key parent child depth height apart above below =
    upper_off pages root key child (suc depth) height parent apart below
    (subst (λ (l : List ℕ). IsIn parent l) (sym (uppers_more pages depth (top root)))
    (in_right parent (uppers pages depth (top root)) (map page_of (leaves pages depth (top root)))
    (placed_here pages root key parent depth height above)))

-- a page so deep on the way, with the numbers of those above it
pub record IsDeep (pages : ℕ → Image) (root : ℕ) (key : Key) (page depth height : ℕ) : Type 0 where
  pub placed : IsPlaced pages root key page depth height
  pub seen : List ℕ
  pub many : length seen ≡ depth
  pub above : (n : ℕ) → IsIn n seen → IsIn n (uppers pages depth (top root))
  pub apart : AreApart seen
  pub small : (n : ℕ) → IsIn n seen → n < 2 ^ 64

pub deep_begins : (pages : ℕ → Image) (root : ℕ) (key : Key) (height : ℕ) → IsDeep pages root key root 0 height
deep_begins pages root key height = record {
  placed = placed_begins pages root key height;
  seen = [];
  many = refl;
  above = λ n i. absurd i;
  apart = tt;
  small = λ n i. absurd i;
}

pub deep_on : (pages : ℕ → Image) (root : ℕ) (key : Key) (page depth height : ℕ) → IsShaped pages height (top root) → AreApart (tree_pages pages height (top root))
    → (pages page).head.kind ≡ Inner → page < 2 ^ 64 → IsDeep pages root key page depth height
    → IsDeep pages root key (choice key (pages page).cells) (suc depth) height
deep_on pages root key page depth height shaped apart inner small deep = record {
  placed = placed_on pages root key page depth height shaped inner deep.placed;
  seen = page ∷ deep.seen;
  many = ap (λ n. suc n) deep.many;
  above = λ n i. subst (λ (l : List ℕ). IsIn n l) (sym (uppers_more pages depth (top root))) (above n i);
  apart = (λ i. upper_off pages root key page depth height page apart deep.placed (deep.above page i) refl, deep.apart);
  small = λ n i. below n i;
}
  where
    above : (n : ℕ) → IsIn n (page ∷ deep.seen) → IsIn n (uppers pages depth (top root) ++ map page_of (leaves pages depth (top root)))
    above n (inl e) =
        in_right n (uppers pages depth (top root)) (map page_of (leaves pages depth (top root)))
        (subst (λ (k : ℕ). IsIn k (map page_of (leaves pages depth (top root)))) (sym e) (placed_here pages root key page depth height deep.placed))
    above n (inr i) = in_left n (uppers pages depth (top root)) (map page_of (leaves pages depth (top root))) (deep.above n i)

    below : (n : ℕ) → IsIn n (page ∷ deep.seen) → n < 2 ^ 64
    below n (inl e) = subst (λ (k : ℕ). k < 2 ^ 64) (sym e) small
    below n (inr i) = deep.small n i

-- numbers apart below a limit are at most so many
in_any : (q : ℕ) (xs : List ℕ) → list_any (eqb q) xs ≡ true → IsIn q xs
in_any q [] has = cc
in_any q (x ∷ xs) has = ⊎_elim (λ t. inl (eqb-true q x t)) (λ f. inr (in_any q xs (rw f at has))) (cases_Bool (eqb q x))

off_each : (x : ℕ) (xs : List ℕ) → (IsIn x xs → ⊥) → AllByRecursion (λ y. eqb x y ≡ false) xs
off_each x [] off = tt
off_each x (y ∷ ys) off = (ne_eqb x y (λ e. off (inl e)), off_each x ys (λ i. off (inr i)))

distinct_apart : (xs : List ℕ) → AreApart xs → IsDistinct eqb xs
unfolding IsDistinct
distinct_apart [] apart = tt
distinct_apart (x ∷ xs) apart = (off_each x xs apart.0, distinct_apart xs apart.1)

pub few_apart : (xs : List ℕ) (limit : ℕ) → AreApart xs → ((n : ℕ) → IsIn n xs → n < limit) → length xs ≤ limit
few_apart xs limit apart below = length-le_from_distinct_below xs limit (distinct_apart xs apart) (λ q has. below q (in_any q xs has))

pub deep_few : (pages : ℕ → Image) (root : ℕ) (key : Key) (page depth height : ℕ) → AreApart (tree_pages pages height (top root))
    → (IsIn 0 (tree_pages pages height (top root)) → ⊥) → page < 2 ^ 64 → IsDeep pages root key page depth height → depth + 2 ≤ 2 ^ 64
deep_few pages root key page depth height apart off_meta small deep =
    let many : length deep.seen ≡ depth = deep.many in
    let all : length (0 ∷ page ∷ deep.seen) ≤ 2 ^ 64 =
    few_apart (0 ∷ page ∷ deep.seen) (2 ^ 64)
    (λ i. zeroth i, (λ i. upper_off pages root key page depth height page apart deep.placed (deep.above page i) refl, deep.apart))
    (λ n i. below n i) in
    omega arith
  where
    zeroth : IsIn 0 (page ∷ deep.seen) → ⊥
    zeroth (inl e) =
        off_meta (subst (λ (k : ℕ). IsIn k (tree_pages pages height (top root))) (sym e) (placed_in pages root key page depth height deep.placed))
    zeroth (inr i) = off_meta (upper_in pages root key page depth height 0 deep.placed (deep.above 0 i))

    below : (n : ℕ) → IsIn n (0 ∷ page ∷ deep.seen) → n < 2 ^ 64
    below n (inl e) = omega (arith, e)
    below n (inr (inl e)) = subst (λ (k : ℕ). k < 2 ^ 64) (sym e) small
    below n (inr (inr i)) = deep.small n i

raise_most : (depth rest : ℕ) → depth ≤ raise depth rest
raise_most zero rest = omega arith
raise_most (suc depth) rest = omega (arith, raise_most depth rest)

-- so the turns that the root tells are enough
pub turns_enough : (pages : ℕ → Image) (root : ℕ) (key : Key) (page depth turns : ℕ) (list : List (Key × List ℕ)) → (tree : TreeList pages root list)
    → IsDeep pages root key page depth tree.height → page < 2 ^ 64 → turns ≤ depth → ((pages root).head.level < 255 → turns ≡ (pages root).head.level + 1)
    → ((pages root).head.level ≡ 255 → turns ≡ 2 ^ 64 - 1) → ⊥
turns_enough pages root key page depth turns list tree deep small over low high =
    let level : (pages root).head.level ≡ min tree.height 255 = root_level pages root tree.height tree.holds.shaped in
    let within : depth ≤ tree.height = subst (λ (h : ℕ). depth ≤ h) deep.placed.tall (raise_most depth deep.placed.rest) in
    let few : depth + 2 ≤ 2 ^ 64 = deep_few pages root key page depth tree.height tree.holds.apart tree.off_meta small deep in
    go level within few (eqb_tells (pages root).head.level 255)
  where
    go : (pages root).head.level ≡ min tree.height 255 → depth ≤ tree.height → depth + 2 ≤ 2 ^ 64
        → ((eqb (pages root).head.level 255 ≡ true) × ((pages root).head.level ≡ 255)) ⊎ ((eqb (pages root).head.level 255 ≡ false) × ((pages root).head.level ≢ 255)) → ⊥
    go level within few (inl (t, e)) = let last : turns ≡ 2 ^ 64 - 1 = high e in omega arith
    go level within few (inr (t, off)) =
        let less : (pages root).head.level < 255 = omega (arith, off) in
        let turn : turns ≡ (pages root).head.level + 1 = low less in
        omega arith

-- a page that has no room after one that has, and one after a full one
pub until_more : (pages : ℕ → Image) (key : Key) (page : ℕ) (before now : Option ℕ) → IsFullUntil pages key before page
    → ((now ≡ Some page) × HasSpare (pages page)) ⊎ ((now ≡ before) × IsFull (pages page)) → IsFullUntil pages key now (choice key (pages page).cells)
until_more pages key page before now so_far (inl (e, spare)) =
    subst (λ (o : Option ℕ). IsFullUntil pages key o (choice key (pages page).cells)) (sym e) (inl refl)
until_more pages key page before now so_far (inr (e, full)) =
    subst (λ (o : Option ℕ). IsFullUntil pages key o (choice key (pages page).cells)) (sym e) (go before so_far)
  where
    go : (o : Option ℕ) → IsFullUntil pages key o page → IsFullUntil pages key o (choice key (pages page).cells)
    go None h = tt
    go (Some above) (inl k) = inr (subst (λ (n : ℕ). IsFull (pages n)) (sym k) full)
    go (Some above) (inr f) = inr f

pub until_under : (pages : ℕ → Image) (key : Key) (roomy : Option ℕ) (page : ℕ) → IsFullUntil pages key roomy page → IsFull (pages page) → IsFullUnder pages key roomy
until_under pages key None page h full = tt
until_under pages key (Some above) page (inl e) full = subst (λ (n : ℕ). IsFull (pages n)) (sym e) full
until_under pages key (Some above) page (inr f) full = f

-- where a tree stands, its pages stay when one is taken
pub stands_next : (pages : ℕ → Image) (root : ℕ) (own free : List ℕ) (list : List (Key × List ℕ)) → TreeStands pages root own free list → HasNext pages
stands_next pages root own free list stands =
    let rooted : root < count_of pages = stands.below root (subst (λ (l : List ℕ). IsIn root l) stands.own_is (root_in pages stands.height root)) in
    record {
      meta = stands.spare.meta;
      some = λ none. omega (arith, rooted, none);
      blank = ap (λ (i : Image). i.cells) (stands.spare.past (count_of pages) (omega arith));
      kept = λ some. first_kept pages (first_free pages) free stands.spare.chain stands.spare.kept some;
    }
  where
    first_kept : (pages : ℕ → Image) (next : ℕ) (ids : List ℕ) → IsChain pages next ids → AllByRecursion (λ id. IsFreePage (pages id)) ids
        → (next ≡ 0 → ⊥) → (pages next).cells ≡ []
    first_kept pages next [] chain kept some = absurd (some chain)
    first_kept pages next (x ∷ xs) chain kept some = ap (λ (n : ℕ). (pages n).cells) chain.0 ∙ kept.0.cells

stands_stays : (pages : ℕ → Image) (root : ℕ) (own free : List ℕ) (list : List (Key × List ℕ)) → (stands : TreeStands pages root own free list) (n : ℕ)
    → IsIn n (tree_pages pages stands.height (top root)) → Stays pages n
stands_stays pages root own free list stands n i =
    let own_in : IsIn n own = subst (λ (l : List ℕ). IsIn n l) stands.own_is i in
    let below : n < count_of pages = stands.below n own_in in
    record {
      some = λ e. stands.off_meta (subst (λ (k : ℕ). IsIn k own) e own_in);
      off = λ e. omega (arith, below, e);
      off_free = λ e. first_off (first_in pages (first_free pages) free stands.spare.chain) own_in e;
    }
  where
    first_in : (pages : ℕ → Image) (next : ℕ) (ids : List ℕ) → IsChain pages next ids → (next ≡ 0) ⊎ IsIn next ids
    first_in pages next [] chain = inl chain
    first_in pages next (x ∷ xs) chain = inr (inl chain.0)

    first_off : (first_free pages ≡ 0) ⊎ IsIn (first_free pages) free → IsIn n own → n ≡ first_free pages → ⊥
    first_off (inl z) own_in e = stands.off_meta (subst (λ (k : ℕ). IsIn k own) (e ∙ z) own_in)
    first_off (inr j) own_in e = stands.off_free n own_in (subst (λ (k : ℕ). IsIn k free) (sym e) j)

pub stands_tree : (pages : ℕ → Image) (root : ℕ) (own free : List ℕ) (list : List (Key × List ℕ)) → TreeStands pages root own free list → TreeList pages root list
stands_tree pages root own free list stands = record {
  height = stands.height;
  cells = stands.cells;
  holds = stands.holds;
  off_meta = λ i. stands.off_meta (subst (λ (l : List ℕ). IsIn 0 l) stands.own_is i);
  pairs = stands.pairs;
}

pub raisable : (pages : ℕ → Image) (root : ℕ) (own free : List ℕ) (list : List (Key × List ℕ)) → TreeStands pages root own free list → IsRaisable pages root
raisable pages root own free list stands = record {
  next = stands_next pages root own free list stands;
  page = placed_page pages root [] root 0 stands.height stands.holds.shaped (placed_begins pages root [] stands.height);
  stays = stands_stays pages root own free list stands root (root_in pages stands.height root);
}

pub splittable : (pages : ℕ → Image) (root : ℕ) (key : Key) (parent : ℕ) → Leads pages root key parent → (pages parent).head.kind ≡ Inner
    → HasSpare (pages parent) → IsFull (pages (choice key (pages parent).cells)) → (own free : List ℕ) (list : List (Key × List ℕ))
    → TreeStands pages root own free list → IsSplittable pages parent key
splittable pages root key parent leads kind spare full own free list stands =
    let path : IsPath pages root key parent stands.height = leads stands.height stands.cells stands.holds in
    let above : IsPlaced pages root key parent path.depth stands.height = record { rest = path.rest; tall = path.tall; at = path.at } in
    let child = choice key (pages parent).cells in
    let below : IsPlaced pages root key child (suc path.depth) stands.height =
    placed_on pages root key parent path.depth stands.height stands.holds.shaped kind above in
    let inner = inner_page (pages parent) kind (placed_page pages root key parent path.depth stands.height stands.holds.shaped above) in
    record {
      next = stands_next pages root own free list stands;
      height = inner.0;
      inner = inner.1;
      spare = spare;
      child = record { page = placed_page pages root key child (suc path.depth) stands.height stands.holds.shaped below; full = full };
      stays = stands_stays pages root own free list stands parent (placed_in pages root key parent path.depth stands.height above);
      child_stays = stands_stays pages root own free list stands child (placed_in pages root key child (suc path.depth) stands.height below);
      apart = parent_off pages root key parent child path.depth stands.height stands.holds.apart above below;
    }

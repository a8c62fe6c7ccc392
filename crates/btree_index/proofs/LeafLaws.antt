-- Leaves: other cells in one, or none changed at all.
use Rattle.std.proofs.Common.{◌≡◌, ◌⊎◌, inl, inr, ℕ, zero, suc, false, true, List, [], ◌∷◌, ◌++◌, map, refl, sym, ap, ◌∙◌, subst, append_assoc}
use Rattle.std.proofs.Common.{◌≢◌}
use Rattle.std.proofs.Math.Dec.{eqb}
use Rattle.std.proofs.lemmas.Bool.Decides.{eqb_tells}
use Rattle.std.specs.List.{AllByRecursion}
use Rattle.page_store.specs.Image.{Image, HasRoom}
use Rattle.page_store.specs.declared.pages.Head.{Head}
use Rattle.page_store.specs.declared.pages.PageKind.TheVariants.{Leaf}
use Rattle.page_workspace.specs.Spare.{IsIn, AreApart}
use Rattle.btree_index.specs.Keys.{Key, before}
use Rattle.btree_index.specs.Cells.{IsLeafCell}
use Rattle.btree_index.specs.Trees.{Entry, page_of, spread, leaves, cells_of, tree_pages, IsShaped, IsLeafPage, IsInnerPage, IsFenced, IsUnder, AreFenced, AreLinked, Holds, top}
use Rattle.btree_index.specs.Ways.{IsAt}
use Rattle.btree_index.specs.Changes.{raise, IsPath}
use Rattle.btree_index.proofs.ApartLaws.{in_left, in_right, apart_right, apart_cross}
use Rattle.btree_index.proofs.LevelLemmas.{Grown, SameOn, each_same, lift, climb, uppers, all_pages, holds_down, shaped_down}
use Rattle.btree_index.proofs.WayLemmas.{not_inner}

-- the pages of joined levels
pub pages-append : (xs ys : List Entry) → map page_of (xs ++ ys) ≡ map page_of xs ++ map page_of ys
pages-append [] ys = refl
pages-append (x ∷ xs) ys = ap (λ (l : List ℕ). x.page ∷ l) (pages-append xs ys)

pub cells-append : (pages : ℕ → Image) (xs ys : List Entry) → cells_of pages (xs ++ ys) ≡ cells_of pages xs ++ cells_of pages ys
cells-append pages [] ys = refl
cells-append pages (x ∷ xs) ys =
    ap (λ (l : List (List ℕ)). (pages x.page).cells ++ l) (cells-append pages xs ys) ∙ sym (append_assoc (pages x.page).cells (cells_of pages xs) (cells_of pages ys))

pub cells-same : (old new : ℕ → Image) (level : List Entry) → SameOn old new (map page_of level) → cells_of new level ≡ cells_of old level
cells-same old new [] same = refl
cells-same old new (e ∷ es) same =
    ap (λ (i : Image). i.cells ++ cells_of new es) (same e.page (inl refl))
    ∙ ap (λ (l : List (List ℕ)). (old e.page).cells ++ l) (cells-same old new es (λ n i. same n (inr i)))

pub fenced_same : (old new : ℕ → Image) (level : List Entry) → SameOn old new (map page_of level) → AreFenced old level → AreFenced new level
fenced_same old new [] same h = tt
fenced_same old new (e ∷ es) same h =
    (subst (λ (i : Image). IsFenced e.low i.cells es) (sym (same e.page (inl refl))) h.0, fenced_same old new es (λ n i. same n (inr i)) h.1)

-- the right links are as before
pub linked_same : (old new : ℕ → Image) (level : List Entry) → ((n : ℕ) → IsIn n (map page_of level) → (new n).head.right ≡ (old n).head.right)
    → AreLinked old level → AreLinked new level
linked_same old new [] same h = tt
linked_same old new (e ∷ []) same h = same e.page (inl refl) ∙ h
linked_same old new (e ∷ f ∷ es) same h = (same e.page (inl refl) ∙ h.0, linked_same old new (f ∷ es) (λ n i. same n (inr i)) h.1)

-- where no page of the tree changed, it holds the same
pub holds_same : (old new : ℕ → Image) (height : ℕ) (level : List Entry) (cells : List (List ℕ)) → SameOn old new (tree_pages old height level)
    → Holds old height level cells → Grown old new (λ _. ⊥) height level level cells
holds_same old new zero level cells same h = record {
  holds = record {
    shaped = each_same old new (λ i. IsLeafPage i) level same h.shaped;
    fenced = fenced_same old new level same h.fenced;
    linked = linked_same old new level (λ n i. ap (λ (i : Image). i.head.right) (same n i)) h.linked;
    apart = h.apart;
    is = cells-same old new level same ∙ h.is;
  };
  from = λ n i. inl i;
  keeps = λ n i. i;
  has = λ n f. absurd f;
}
holds_same old new (suc height) level cells same h =
    let here = map page_of level in
    let more = tree_pages old height (spread old level) in
    lift old new (λ _. ⊥) height level cells h.shaped.0 (λ n i. same n (in_left n here more i)) (λ n i f. f) h.apart
    (holds_same old new height (spread old level) cells (λ n i. same n (in_right n here more i))
    (record { shaped = h.shaped.1; fenced = h.fenced; linked = h.linked; apart = apart_right here more h.apart; is = h.is }))

-- the pages beside one of a level are others
pub beside : (front : List Entry) (e : Entry) (others : List Entry) → AreApart (map page_of (front ++ (e ∷ others))) → (n : ℕ)
    → IsIn n (map page_of front) ⊎ IsIn n (map page_of others) → n ≡ e.page → ⊥
beside front e others apart n i same = go (subst AreApart (pages-append front (e ∷ others)) apart) i
  where
    there : AreApart (map page_of front ++ (e.page ∷ map page_of others)) → IsIn e.page (map page_of front) ⊎ IsIn e.page (map page_of others) → ⊥
    there apart (inl i) = apart_cross e.page (map page_of front) (e.page ∷ map page_of others) apart i (inl refl)
    there apart (inr i) = (apart_right (map page_of front) (e.page ∷ map page_of others) apart).0 i

    go : AreApart (map page_of front ++ (e.page ∷ map page_of others)) → IsIn n (map page_of front) ⊎ IsIn n (map page_of others) → ⊥
    go apart i = there apart (subst (λ (k : ℕ). IsIn k (map page_of front) ⊎ IsIn k (map page_of others)) same i)

-- only this page has other cells
pub record ChangesCells (old new : ℕ → Image) (page : ℕ) (cells : List (List ℕ)) : Type 0 where
  pub is : (new page).cells ≡ cells
  pub head : (new page).head ≡ (old page).head
  pub others : (n : ℕ) → (n ≡ page → ⊥) → new n ≡ old n

-- so no right link changed
pub rights : (old new : ℕ → Image) (page : ℕ) (cells : List (List ℕ)) → ChangesCells old new page cells → (n : ℕ) → (new n).head.right ≡ (old n).head.right
rights old new page cells changes n = go (eqb_tells n page)
  where
    go : ((eqb n page ≡ true) × (n ≡ page)) ⊎ ((eqb n page ≡ false) × (n ≢ page)) → (new n).head.right ≡ (old n).head.right
    go (inl (t, e)) =
        ap (λ (k : ℕ). (new k).head.right) e ∙ ap (λ (h : Head). h.right) changes.head ∙ ap (λ (k : ℕ). (old k).head.right) (sym e)
    go (inr (t, off)) = ap (λ (i : Image). i.head.right) (changes.others n off)

pub fenced_with : (old new : ℕ → Image) (front : List Entry) (e : Entry) (others : List Entry) → SameOn old new (map page_of front)
    → SameOn old new (map page_of others) → AreFenced old (front ++ (e ∷ others)) → IsFenced e.low (new e.page).cells others
    → AreFenced new (front ++ (e ∷ others))
fenced_with old new [] e others left right h now = (now, fenced_same old new others right h.1)
fenced_with old new (f ∷ fs) e others left right h now = (
  subst (λ (i : Image). IsFenced f.low i.cells (fs ++ (e ∷ others))) (sym (left f.page (inl refl))) h.0,
  fenced_with old new fs e others (λ n i. left n (inr i)) right h.1 now,
)

pub each_with : (old new : ℕ → Image) (P : Image → Type 0) (front : List Entry) (e : Entry) (others : List Entry) → SameOn old new (map page_of front)
    → SameOn old new (map page_of others) → AllByRecursion (λ x. P (old x.page)) (front ++ (e ∷ others)) → P (new e.page)
    → AllByRecursion (λ x. P (new x.page)) (front ++ (e ∷ others))
each_with old new P [] e others left right h now = (now, each_same old new P others right h.1)
each_with old new P (f ∷ fs) e others left right h now =
    (subst P (sym (left f.page (inl refl))) h.0, each_with old new P fs e others (λ n i. left n (inr i)) right h.1 now)

pub each_at : (P : Entry → Type 0) (front : List Entry) (e : Entry) (others : List Entry) → AllByRecursion P (front ++ (e ∷ others)) → P e
each_at P [] e others h = h.0
each_at P (f ∷ fs) e others h = each_at P fs e others h.1

pub fenced_at : (pages : ℕ → Image) (front : List Entry) (e : Entry) (others : List Entry) → AreFenced pages (front ++ (e ∷ others))
    → IsFenced e.low (pages e.page).cells others
fenced_at pages [] e others h = h.0
fenced_at pages (f ∷ fs) e others h = fenced_at pages fs e others h.1

-- one leaf with other cells
pub changed_leaf : (old new : ℕ → Image) (front : List Entry) (e : Entry) (others : List Entry) (all cells : List (List ℕ))
    → Holds old 0 (front ++ (e ∷ others)) all → ChangesCells old new e.page cells → HasRoom cells → AllByRecursion IsLeafCell cells
    → IsFenced e.low cells others
    → Grown old new (λ _. ⊥) 0 (front ++ (e ∷ others)) (front ++ (e ∷ others)) (cells_of old front ++ (cells ++ cells_of old others))
changed_leaf old new front e others all cells h changes room each fence =
    let left : SameOn old new (map page_of front) = λ n i. changes.others n (beside front e others h.apart n (inl i)) in
    let right : SameOn old new (map page_of others) = λ n i. changes.others n (beside front e others h.apart n (inr i)) in
    let leaf : IsLeafPage (old e.page) = each_at (λ x. IsLeafPage (old x.page)) front e others h.shaped in
    let now : IsLeafPage (new e.page) = record {
      kind = ap (λ (h : Head). h.kind) changes.head ∙ leaf.kind;
      level = ap (λ (h : Head). h.level) changes.head ∙ leaf.level;
      cells = subst (λ (l : List (List ℕ)). AllByRecursion IsLeafCell l) (sym changes.is) each;
      fits = subst HasRoom (sym changes.is) room;
    } in
    record {
      holds = record {
        shaped = each_with old new (λ i. IsLeafPage i) front e others left right h.shaped now;
        fenced = fenced_with old new front e others left right h.fenced (subst (λ (l : List (List ℕ)). IsFenced e.low l others) (sym changes.is) fence);
        linked = linked_same old new (front ++ (e ∷ others)) (λ n i. rights old new e.page cells changes n) h.linked;
        apart = h.apart;
        is = cells-append new front (e ∷ others)
            ∙ ap (λ (l : List (List ℕ)). l ++ ((new e.page).cells ++ cells_of new others)) (cells-same old new front left)
            ∙ ap (λ (l : List (List ℕ)). cells_of old front ++ (l ++ cells_of new others)) changes.is
            ∙ ap (λ (l : List (List ℕ)). cells_of old front ++ (cells ++ l)) (cells-same old new others right);
      };
      from = λ n i. inl i;
      keeps = λ n i. i;
      has = λ n f. absurd f;
    }

-- a path that has come to a leaf
pub record AtLeaf (pages : ℕ → Image) (root : ℕ) (key : Key) (page height : ℕ) : Type 0 where
  pub depth : ℕ
  pub tall : raise depth 0 ≡ height
  pub at : IsAt (leaves pages depth (top root)) key page

pub path_ends : (pages : ℕ → Image) (root : ℕ) (key : Key) (page height : ℕ) → IsShaped pages height (top root)
    → IsPath pages root key page height → (pages page).head.kind ≡ Leaf → AtLeaf pages root key page height
path_ends pages root key page height shaped path leaf = go path.rest path.tall
  where
    go : (rest : ℕ) → raise path.depth rest ≡ height → AtLeaf pages root key page height
    go zero tall = record { depth = path.depth; tall = tall; at = path.at }
    go (suc rest) tall =
        let level = shaped_down pages path.depth (suc rest) (top root) (subst (λ (h : ℕ). IsShaped pages h (top root)) (sym tall) shaped) in
        let P : List Entry → Type 0 = λ l. AllByRecursion (λ e. IsInnerPage (suc rest) (pages e.page)) l in
        absurd (not_inner pages page rest path.at.low path.at.front path.at.others leaf (subst P path.at.is level.0))

-- other cells in the leaf of a path, seen from the root
pub record Replaces (old new : ℕ → Image) (root : ℕ) (key : Key) (page height : ℕ) (all cells : List (List ℕ)) : Type 0 where
  pub low : Key
  pub front : List Entry
  pub others : List Entry
  pub from : before key low ≡ false
  pub to : IsUnder key others
  pub fenced : AreFenced old (front ++ (record { low = low; page = page } ∷ others))
  pub is : all ≡ cells_of old front ++ ((old page).cells ++ cells_of old others)
  pub inside : IsIn page (tree_pages old height (top root))
  pub leaf : IsLeafPage (old page)
  pub grown : HasRoom cells → AllByRecursion IsLeafCell cells → IsFenced low cells others
      → Grown old new (λ _. ⊥) height (top root) (top root) (cells_of old front ++ (cells ++ cells_of old others))

pub replaces : (old new : ℕ → Image) (root : ℕ) (key : Key) (page height : ℕ) (all cells : List (List ℕ)) → Holds old height (top root) all
    → IsPath old root key page height → (old page).head.kind ≡ Leaf → ChangesCells old new page cells
    → Replaces old new root key page height all cells
replaces old new root key page height all cells h path leaf changes =
    let ends = path_ends old root key page height h.shaped path leaf in
    let at = ends.at in
    let depth = ends.depth in
    let e : Entry = record { low = at.low; page = page } in
    let level = at.front ++ (e ∷ at.others) in
    let tall : Holds old (raise depth 0) (top root) all = subst (λ (k : ℕ). Holds old k (top root) all) (sym ends.tall) h in
    let down : Holds old 0 (leaves old depth (top root)) all = holds_down old depth 0 (top root) all tall in
    let here : Holds old 0 level all = subst (λ (l : List Entry). Holds old 0 l all) at.is down in
    let pages : AreApart (uppers old depth (top root) ++ map page_of (leaves old depth (top root))) =
    subst AreApart (all_pages old depth 0 (top root)) tall.apart in
    let inside : IsIn page (map page_of (leaves old depth (top root))) =
    subst (λ (l : List Entry). IsIn page (map page_of l)) (sym at.is)
    (subst (λ (l : List ℕ). IsIn page l) (sym (pages-append at.front (e ∷ at.others))) (in_right page (map page_of at.front) (page ∷ map page_of at.others) (inl refl))) in
    record {
      low = at.low;
      front = at.front;
      others = at.others;
      from = at.from;
      to = at.to;
      fenced = here.fenced;
      is = sym here.is ∙ cells-append old at.front (e ∷ at.others);
      leaf = each_at (λ x. IsLeafPage (old x.page)) at.front e at.others here.shaped;
      inside = subst (λ (k : ℕ). IsIn page (tree_pages old k (top root))) ends.tall
          (subst (λ (l : List ℕ). IsIn page l) (sym (all_pages old depth 0 (top root)))
          (in_right page (uppers old depth (top root)) (map page_of (leaves old depth (top root))) inside));
      grown = λ room each fence.
          (let grown : Grown old new (λ _. ⊥) 0 level level (cells_of old at.front ++ (cells ++ cells_of old at.others)) =
          changed_leaf old new at.front e at.others all cells here changes room each fence in
          let there : Grown old new (λ _. ⊥) 0 (leaves old depth (top root)) (leaves old depth (top root)) (cells_of old at.front ++ (cells ++ cells_of old at.others)) =
          subst (λ (l : List Entry). Grown old new (λ _. ⊥) 0 l l (cells_of old at.front ++ (cells ++ cells_of old at.others))) (sym at.is) grown in
          subst (λ (k : ℕ). Grown old new (λ _. ⊥) k (top root) (top root) (cells_of old at.front ++ (cells ++ cells_of old at.others))) ends.tall
          (climb old new (λ _. ⊥) depth 0 (top root) (cells_of old at.front ++ (cells ++ cells_of old at.others)) tall.shaped
          (λ n i. changes.others n (λ e. apart_cross n (uppers old depth (top root)) (map page_of (leaves old depth (top root))) pages i
          (subst (λ (k : ℕ). IsIn k (map page_of (leaves old depth (top root)))) (sym e) inside)))
          (λ n i f. f) tall.apart there));
    }

-- A change of some pages, seen from the levels above.
use Rattle.std.proofs.Common.{◌≡◌, ◌⊎◌, inl, inr, ℕ, zero, suc, List, [], ◌∷◌, ◌++◌, map, refl, sym, ap, ◌∙◌, subst, append_assoc}
use Rattle.std.specs.List.{AllByRecursion}
use Rattle.page_store.specs.Image.{Image}
use Rattle.page_workspace.specs.Spare.{IsIn, AreApart}
use Rattle.btree_index.specs.Trees.{Entry, page_of, below, spread, leaves, cells_of, tree_pages, IsShaped, IsInnerPage, AreFenced, AreLinked, Holds}
use Rattle.btree_index.specs.Changes.{raise}
use Rattle.btree_index.proofs.ApartLaws.{in_left, in_right, in_either, apart_left, apart_right, apart_cross, apart_join}

-- a level that holds cells now, on the pages that were its own and on fresh ones
pub record Grown (old new : ℕ → Image) (Fresh : ℕ → Type 0) (height : ℕ) (before level : List Entry) (cells : List (List ℕ)) : Type 0 where
  pub holds : Holds new height level cells
  pub from : (n : ℕ) → IsIn n (tree_pages new height level) → IsIn n (tree_pages old height before) ⊎ Fresh n
  pub keeps : (n : ℕ) → IsIn n (tree_pages old height before) → IsIn n (tree_pages new height level)
  pub has : (n : ℕ) → Fresh n → IsIn n (tree_pages new height level)

-- the pages of a level are as before
abbrev pub SameOn : (ℕ → Image) → (ℕ → Image) → List ℕ → Type 0
SameOn old new pages = (n : ℕ) → IsIn n pages → new n ≡ old n

pub spread-same : (old new : ℕ → Image) (level : List Entry) → SameOn old new (map page_of level) → spread new level ≡ spread old level
spread-same old new [] same = refl
spread-same old new (e ∷ es) same =
    ap (λ (i : Image). below e.low i.cells ++ spread new es) (same e.page (inl refl))
    ∙ ap (λ (l : List Entry). below e.low (old e.page).cells ++ l) (spread-same old new es (λ n i. same n (inr i)))

pub each_same : (old new : ℕ → Image) (P : Image → Type 0) (level : List Entry) → SameOn old new (map page_of level)
    → AllByRecursion (λ e. P (old e.page)) level → AllByRecursion (λ e. P (new e.page)) level
each_same old new P [] same h = tt
each_same old new P (e ∷ es) same h = (subst P (sym (same e.page (inl refl))) h.0, each_same old new P es (λ n i. same n (inr i)) h.1)

pub same_left : (old new : ℕ → Image) (xs ys : List ℕ) → SameOn old new (xs ++ ys) → SameOn old new xs
same_left old new xs ys same = λ n i. same n (in_left n xs ys i)

pub same_right : (old new : ℕ → Image) (xs ys : List ℕ) → SameOn old new (xs ++ ys) → SameOn old new ys
same_right old new xs ys same = λ n i. same n (in_right n xs ys i)

-- one level up
pub lift : (old new : ℕ → Image) (Fresh : ℕ → Type 0) (height : ℕ) (level : List Entry) (cells : List (List ℕ))
    → AllByRecursion (λ e. IsInnerPage (suc height) (old e.page)) level → SameOn old new (map page_of level)
    → ((n : ℕ) → IsIn n (map page_of level) → Fresh n → ⊥) → AreApart (tree_pages old (suc height) level)
    → Grown old new Fresh height (spread old level) (spread old level) cells → Grown old new Fresh (suc height) level level cells
lift old new Fresh height level cells shaped same fresh apart grown =
    let e : spread new level ≡ spread old level = spread-same old new level same in
    let H : List Entry → Type 0 = λ l. Holds new height l cells in
    let F : List Entry → Type 0 = λ l. (n : ℕ) → IsIn n (tree_pages new height l) → IsIn n (tree_pages old height (spread old level)) ⊎ Fresh n in
    let holds : Holds new height (spread new level) cells = subst H (sym e) grown.holds in
    let from : (n : ℕ) → IsIn n (tree_pages new height (spread new level)) → IsIn n (tree_pages old height (spread old level)) ⊎ Fresh n = subst F (sym e) grown.from in
    let K : List Entry → Type 0 = λ l. (n : ℕ) → IsIn n (tree_pages old height (spread old level)) → IsIn n (tree_pages new height l) in
    let R : List Entry → Type 0 = λ l. (n : ℕ) → Fresh n → IsIn n (tree_pages new height l) in
    let keeps : (n : ℕ) → IsIn n (tree_pages old height (spread old level)) → IsIn n (tree_pages new height (spread new level)) = subst K (sym e) grown.keeps in
    let has : (n : ℕ) → Fresh n → IsIn n (tree_pages new height (spread new level)) = subst R (sym e) grown.has in
    record {
      holds = record {
        shaped = (each_same old new (λ i. IsInnerPage (suc height) i) level same shaped, holds.shaped);
        fenced = holds.fenced;
        linked = holds.linked;
        apart = apart_join (map page_of level) (tree_pages new height (spread new level))
            (apart_left (map page_of level) (tree_pages old height (spread old level)) apart) holds.apart
            (λ n i j. off n i (from n j));
        is = holds.is;
      };
      from = λ n i. up n from (in_either n (map page_of level) (tree_pages new height (spread new level)) i);
      keeps = λ n i. stay n keeps (in_either n (map page_of level) (tree_pages old height (spread old level)) i);
      has = λ n f. in_right n (map page_of level) (tree_pages new height (spread new level)) (has n f);
    }
  where
    off : (n : ℕ) → IsIn n (map page_of level) → IsIn n (tree_pages old height (spread old level)) ⊎ Fresh n → ⊥
    off n i (inl j) = apart_cross n (map page_of level) (tree_pages old height (spread old level)) apart i j
    off n i (inr f) = fresh n i f

    up : (n : ℕ) → ((n : ℕ) → IsIn n (tree_pages new height (spread new level)) → IsIn n (tree_pages old height (spread old level)) ⊎ Fresh n)
        → IsIn n (map page_of level) ⊎ IsIn n (tree_pages new height (spread new level))
        → IsIn n (tree_pages old (suc height) level) ⊎ Fresh n
    up n from (inl i) = inl (in_left n (map page_of level) (tree_pages old height (spread old level)) i)
    up n from (inr i) = deeper (from n i)
      where
        deeper : IsIn n (tree_pages old height (spread old level)) ⊎ Fresh n → IsIn n (tree_pages old (suc height) level) ⊎ Fresh n
        deeper (inl j) = inl (in_right n (map page_of level) (tree_pages old height (spread old level)) j)
        deeper (inr f) = inr f

    stay : (n : ℕ) → ((n : ℕ) → IsIn n (tree_pages old height (spread old level)) → IsIn n (tree_pages new height (spread new level)))
        → IsIn n (map page_of level) ⊎ IsIn n (tree_pages old height (spread old level)) → IsIn n (tree_pages new (suc height) level)
    stay n keeps (inl i) = in_left n (map page_of level) (tree_pages new height (spread new level)) i
    stay n keeps (inr i) = in_right n (map page_of level) (tree_pages new height (spread new level)) (keeps n i)

-- the pages of so many levels
abbrev pub uppers : (ℕ → Image) → ℕ → List Entry → List ℕ
uppers pages zero level = []
uppers pages (suc depth) level = map page_of level ++ uppers pages depth (spread pages level)

-- and of all levels from the top
pub climb : (old new : ℕ → Image) (Fresh : ℕ → Type 0) (depth rest : ℕ) (level : List Entry) (cells : List (List ℕ))
    → IsShaped old (raise depth rest) level → SameOn old new (uppers old depth level)
    → ((n : ℕ) → IsIn n (uppers old depth level) → Fresh n → ⊥) → AreApart (tree_pages old (raise depth rest) level)
    → Grown old new Fresh rest (leaves old depth level) (leaves old depth level) cells
    → Grown old new Fresh (raise depth rest) level level cells
climb old new Fresh zero rest level cells shaped same fresh apart grown = grown
climb old new Fresh (suc depth) rest level cells shaped same fresh apart grown =
    let here = map page_of level in
    let more = uppers old depth (spread old level) in
    lift old new Fresh (raise depth rest) level cells shaped.0 (same_left old new here more same)
    (λ n i f. fresh n (in_left n here more i) f) apart
    (climb old new Fresh depth rest (spread old level) cells shaped.1 (same_right old new here more same)
    (λ n i f. fresh n (in_right n here more i) f) (apart_right here (tree_pages old (raise depth rest) (spread old level)) apart) grown)

-- all pages are those of the upper levels and the others
pub all_pages : (pages : ℕ → Image) (depth rest : ℕ) (level : List Entry)
    → tree_pages pages (raise depth rest) level ≡ uppers pages depth level ++ tree_pages pages rest (leaves pages depth level)
all_pages pages zero rest level = refl
all_pages pages (suc depth) rest level =
    ap (λ (l : List ℕ). map page_of level ++ l) (all_pages pages depth rest (spread pages level))
    ∙ sym (append_assoc (map page_of level) (uppers pages depth (spread pages level)) (tree_pages pages rest (leaves pages depth (spread pages level))))

-- the facts of a tree, so deep
pub shaped_down : (pages : ℕ → Image) (depth rest : ℕ) (level : List Entry) → IsShaped pages (raise depth rest) level
    → IsShaped pages rest (leaves pages depth level)
shaped_down pages zero rest level h = h
shaped_down pages (suc depth) rest level h = shaped_down pages depth rest (spread pages level) h.1

pub leaves_down : (pages : ℕ → Image) (depth rest : ℕ) (level : List Entry)
    → leaves pages (raise depth rest) level ≡ leaves pages rest (leaves pages depth level)
leaves_down pages zero rest level = refl
leaves_down pages (suc depth) rest level = leaves_down pages depth rest (spread pages level)

pub holds_down : (pages : ℕ → Image) (depth rest : ℕ) (level : List Entry) (cells : List (List ℕ)) → Holds pages (raise depth rest) level cells
    → Holds pages rest (leaves pages depth level) cells
holds_down pages depth rest level cells h =
    let e = leaves_down pages depth rest level in
    let F : List Entry → Type 0 = λ l. AreFenced pages l in
    let L : List Entry → Type 0 = λ l. AreLinked pages l in
    record {
      shaped = shaped_down pages depth rest level h.shaped;
      fenced = subst F e h.fenced;
      linked = subst L e h.linked;
      apart = apart_right (uppers pages depth level) (tree_pages pages rest (leaves pages depth level)) (subst AreApart (all_pages pages depth rest level) h.apart);
      is = ap (λ (l : List Entry). cells_of pages l) (sym e) ∙ h.is;
    }

pub level_down : (pages : ℕ → Image) (depth : ℕ) (level : List Entry) → leaves pages (suc depth) level ≡ spread pages (leaves pages depth level)
level_down pages zero level = refl
level_down pages (suc depth) level = level_down pages depth (spread pages level)

pub raise_suc : (depth rest : ℕ) → raise depth (suc rest) ≡ suc (raise depth rest)
raise_suc zero rest = refl
raise_suc (suc depth) rest = ap (λ n. suc n) (raise_suc depth rest)

-- A tree with an empty leaf taken out of it.
use Rattle.std.proofs.Common.{◌≡◌, ◌⊎◌, inl, inr, ℕ, zero, suc, Bool, true, false, if◌then◌else◌, List, [], ◌∷◌, ◌++◌, map, Option, Some, refl, sym, ap, ◌∙◌, subst}
use Rattle.std.proofs.lemmas.Option.{none-some, same_Some}
use Rattle.std.specs.List.{AllByRecursion}
use Rattle.page_store.specs.Image.{Image, HasRoom}
use Rattle.page_store.specs.declared.pages.Head.{Head}
use Rattle.page_workspace.specs.Spare.{IsIn, AreApart, first_cell}
use Rattle.btree_index.specs.Keys.{Key, before}
use Rattle.btree_index.specs.Cells.{key_of_cell, child_of, IsLeafCell}
use Rattle.btree_index.specs.Trees.{Entry, page_of, below, spread, leaves, cells_of, tree_pages, IsLeafPage, IsInnerPage, BeginsEmpty, IsUnder, IsUpTo, IsFenced, AreFenced, AreLinked, Holds}
use Rattle.btree_index.proofs.ApartLaws.{in_left, in_right, in_either, in_more, apart_left, apart_right, apart_cross, apart_join}
use Rattle.btree_index.proofs.KeyLaws.{atmost_atmost, before_atmost}
use Rattle.btree_index.proofs.LevelLemmas.{SameOn, spread-same, each_same}
use Rattle.btree_index.proofs.LeafLaws.{pages-append, cells-same, fenced_same, linked_same}
use Rattle.btree_index.proofs.SplitLemmas.{spread-append}
use Rattle.btree_index.specs.Prunes.{last_page, relow, IsLone, lone_pages, lone_leaf, Relinks, Shrunk}

-- numbers without one among them
in_less : (k : ℕ) (xs : List ℕ) (n : ℕ) (ys : List ℕ) → IsIn k (xs ++ ys) → IsIn k (xs ++ (n ∷ ys))
in_less k [] n ys i = inr i
in_less k (x ∷ xs) n ys (inl e) = inl e
in_less k (x ∷ xs) n ys (inr i) = inr (in_less k xs n ys i)

apart_less : (xs : List ℕ) (n : ℕ) (ys : List ℕ) → AreApart (xs ++ (n ∷ ys)) → AreApart (xs ++ ys)
apart_less [] n ys h = h.1
apart_less (x ∷ xs) n ys h = (λ i. h.0 (in_less x xs n ys i), apart_less xs n ys h.1)

apart_off : (xs : List ℕ) (n : ℕ) (ys : List ℕ) → AreApart (xs ++ (n ∷ ys)) → IsIn n (xs ++ ys) → ⊥
apart_off [] n ys h i = h.0 i
apart_off (x ∷ xs) n ys h (inl e) = h.0 (in_right x xs (n ∷ ys) (inl (sym e)))
apart_off (x ∷ xs) n ys h (inr i) = apart_off xs n ys h.1 i

-- the last page of a level is one of its pages
pub last_in : (level : List Entry) (n : ℕ) → last_page level ≡ Some n → IsIn n (map page_of level)
last_in [] n h = absurd (none-some n h)
last_in (a ∷ []) n h = inl (sym (same_Some a.page n h))
last_in (a ∷ b ∷ level) n h = inr (last_in (b ∷ level) n h)

-- other least keys, the same pages
relow_pages : (first : Bool) (low : Key) (level : List Entry) → map page_of (relow first low level) ≡ map page_of level
relow_pages first low [] = refl
relow_pages first low (e ∷ es) = refl

out_pages : (first : Bool) (low : Key) (front others : List Entry) → map page_of (front ++ relow first low others) ≡ map page_of front ++ map page_of others
out_pages first low front others = pages-append front (relow first low others) ∙ ap (λ (l : List ℕ). map page_of front ++ l) (relow_pages first low others)

-- leaves before the one that goes: the last of them has another right link, the others are as before
abbrev IsRelinked : (ℕ → Image) → (ℕ → Image) → ℕ → List Entry → Type 0
IsRelinked old new right [] = Unit {0}
IsRelinked old new right (a ∷ []) = ((new a.page).cells ≡ (old a.page).cells) × ((new a.page).head ≡ record (old a.page).head { right = right })
IsRelinked old new right (a ∷ b ∷ front) = (new a.page ≡ old a.page) × IsRelinked old new right (b ∷ front)

relinked : (old new : ℕ → Image) (pages : List ℕ) (left : Option ℕ) (right : ℕ) (front : List Entry) → Relinks old new pages left right
    → ((n : ℕ) → IsIn n (map page_of front) → IsIn n pages) → AreApart (map page_of front) → last_page front ≡ left → IsRelinked old new right front
relinked old new pages left right [] r inside apart last = tt
relinked old new pages left right (a ∷ []) r inside apart last = (r.cells a.page (sym last), r.head a.page (sym last))
relinked old new pages left right (a ∷ b ∷ front) r inside apart last = (
  r.others a.page (inside a.page (inl refl)) (λ e. apart.0 (last_in (b ∷ front) a.page (last ∙ e))),
  relinked old new pages left right (b ∷ front) r (λ n i. inside n (inr i)) apart.1 last,
)

leaf_relinked : (old new : Image) (right : ℕ) → new.cells ≡ old.cells → new.head ≡ record old.head { right = right } → IsLeafPage old → IsLeafPage new
leaf_relinked old new right cells head leaf = record {
  kind = ap (λ (h : Head). h.kind) head ∙ leaf.kind;
  level = ap (λ (h : Head). h.level) head ∙ leaf.level;
  cells = subst (λ (l : List (List ℕ)). AllByRecursion IsLeafCell l) (sym cells) leaf.cells;
  fits = subst HasRoom (sym cells) leaf.fits;
}

leaves_out : (old new : ℕ → Image) (right : ℕ) (first : Bool) (low : Key) (front : List Entry) (e : Entry) (others : List Entry)
    → IsRelinked old new right front → SameOn old new (map page_of others) → AllByRecursion (λ x. IsLeafPage (old x.page)) (front ++ (e ∷ others))
    → AllByRecursion (λ x. IsLeafPage (new x.page)) (front ++ relow first low others)
leaves_out old new right first low [] e [] re same h = tt
leaves_out old new right first low [] e (b ∷ bs) re same h = each_same old new (λ i. IsLeafPage i) (b ∷ bs) same h.1
leaves_out old new right first low (a ∷ []) e others re same h = (
  leaf_relinked (old a.page) (new a.page) right re.0 re.1 h.0,
  leaves_out old new right first low [] e others tt same h.1,
)
leaves_out old new right first low (a ∷ b ∷ front) e others re same h =
    (subst (λ (i : Image). IsLeafPage i) (sym re.0) h.0, leaves_out old new right first low (b ∷ front) e others re.1 same h.1)

-- a leaf with a lower least key, and one before another
fence_lower : (low least : Key) (cells : List (List ℕ)) (others : List Entry) → before low least ≡ false → IsFenced low cells others → IsFenced least cells others
fence_lower low least cells others step h = record { from = go cells h.from; to = h.to; ascends = h.ascends; next = next others h.next }
  where
    go : (cells : List (List ℕ)) → AllByRecursion (λ c. before (key_of_cell c) low ≡ false) cells → AllByRecursion (λ c. before (key_of_cell c) least ≡ false) cells
    go [] k = tt
    go (c ∷ cs) k = (atmost_atmost least low (key_of_cell c) step k.0, go cs k.1)

    next : (others : List Entry) → IsUpTo low others → IsUpTo least others
    next [] k = tt
    next (o ∷ os) k = atmost_atmost least low o.low step k

fence_past : (first : Bool) (low : Key) (cells : List (List ℕ)) (e : Entry) (others : List Entry) → IsFenced low cells (e ∷ others) → IsUpTo e.low others
    → IsFenced low cells (relow first e.low others)
fence_past first low cells e [] h next = record { from = h.from; to = go cells; ascends = h.ascends; next = tt }
  where
    go : (cells : List (List ℕ)) → AllByRecursion (λ c. IsUnder (key_of_cell c) []) cells
    go [] = tt
    go (c ∷ cs) = (tt, go cs)
fence_past true low cells e (o ∷ os) h next = record { from = h.from; to = h.to; ascends = h.ascends; next = h.next }
fence_past false low cells e (o ∷ os) h next = record {
  from = h.from;
  to = go cells h.to;
  ascends = h.ascends;
  next = atmost_atmost low e.low o.low h.next next;
}
  where
    go : (cells : List (List ℕ)) → AllByRecursion (λ c. before (key_of_cell c) e.low ≡ true) cells → AllByRecursion (λ c. before (key_of_cell c) o.low ≡ true) cells
    go [] k = tt
    go (c ∷ cs) k = (before_atmost (key_of_cell c) e.low o.low k.0 next, go cs k.1)

fences_out : (old new : ℕ → Image) (right : ℕ) (first : Bool) (front : List Entry) (e : Entry) (others : List Entry)
    → IsRelinked old new right front → SameOn old new (map page_of others) → AreFenced old (front ++ (e ∷ others))
    → AreFenced new (front ++ relow first e.low others)
fences_out old new right first [] e [] re same h = tt
fences_out old new right true [] e (b ∷ bs) re same h = (
  subst (λ (i : Image). IsFenced e.low i.cells bs) (sym (same b.page (inl refl))) (fence_lower b.low e.low (old b.page).cells bs h.0.next h.1.0),
  fenced_same old new bs (λ n i. same n (inr i)) h.1.1,
)
fences_out old new right false [] e (b ∷ bs) re same h = fenced_same old new (b ∷ bs) same h.1
fences_out old new right first (a ∷ []) e others re same h = (
  subst (λ (l : List (List ℕ)). IsFenced a.low l (relow first e.low others)) (sym re.0) (fence_past first a.low (old a.page).cells e others h.0 h.1.0.next),
  fences_out old new right first [] e others tt same h.1,
)
fences_out old new right first (a ∷ b ∷ front) e others re same h = (
  subst (λ (i : Image). IsFenced a.low i.cells (b ∷ (front ++ relow first e.low others))) (sym re.0)
      (record { from = h.0.from; to = h.0.to; ascends = h.0.ascends; next = h.0.next }),
  fences_out old new right first (b ∷ front) e others re.1 same h.1,
)

links_out : (old new : ℕ → Image) (right : ℕ) (first : Bool) (low : Key) (front : List Entry) (e : Entry) (others : List Entry)
    → right ≡ (old e.page).head.right → IsRelinked old new right front → SameOn old new (map page_of others) → AreLinked old (front ++ (e ∷ others))
    → AreLinked new (front ++ relow first low others)
links_out old new right first low [] e [] is re same h = tt
links_out old new right first low [] e (b ∷ []) is re same h = ap (λ (i : Image). i.head.right) (same b.page (inl refl)) ∙ h.1
links_out old new right first low [] e (b ∷ c ∷ bs) is re same h = (
  ap (λ (i : Image). i.head.right) (same b.page (inl refl)) ∙ h.1.0,
  linked_same old new (c ∷ bs) (λ n i. ap (λ (i : Image). i.head.right) (same n (inr i))) h.1.1,
)
links_out old new right first low (a ∷ []) e [] is re same h = ap (λ (h : Head). h.right) re.1 ∙ is ∙ h.1
links_out old new right first low (a ∷ []) e (b ∷ bs) is re same h =
    (ap (λ (h : Head). h.right) re.1 ∙ is ∙ h.1.0, links_out old new right first low [] e (b ∷ bs) is tt same h.1)
links_out old new right first low (a ∷ b ∷ front) e others is re same h =
    (ap (λ (i : Image). i.head.right) re.0 ∙ h.0, links_out old new right first low (b ∷ front) e others is re.1 same h.1)

cells_out : (old new : ℕ → Image) (right : ℕ) (first : Bool) (low : Key) (front : List Entry) (e : Entry) (others : List Entry)
    → (old e.page).cells ≡ [] → IsRelinked old new right front → SameOn old new (map page_of others)
    → cells_of new (front ++ relow first low others) ≡ cells_of old (front ++ (e ∷ others))
cells_out old new right first low [] e [] none re same = sym (ap (λ (l : List (List ℕ)). l ++ []) none)
cells_out old new right first low [] e (b ∷ bs) none re same =
    cells-same old new (b ∷ bs) same ∙ sym (ap (λ (l : List (List ℕ)). l ++ cells_of old (b ∷ bs)) none)
cells_out old new right first low (a ∷ []) e others none re same =
    ap (λ (l : List (List ℕ)). l ++ cells_of new (relow first low others)) re.0
    ∙ ap (λ (l : List (List ℕ)). (old a.page).cells ++ l) (cells_out old new right first low [] e others none tt same)
cells_out old new right first low (a ∷ b ∷ front) e others none re same =
    ap (λ (i : Image). i.cells ++ cells_of new ((b ∷ front) ++ relow first low others)) re.0
    ∙ ap (λ (l : List (List ℕ)). (old a.page).cells ++ l) (cells_out old new right first low (b ∷ front) e others none re.1 same)

-- which pages are left of a level
record Without (old_level new_level : List Entry) (page : ℕ) : Type 0 where
  apart : AreApart (map page_of old_level) → AreApart (map page_of new_level)
  from : (n : ℕ) → IsIn n (map page_of new_level) → IsIn n (map page_of old_level)
  off : AreApart (map page_of old_level) → (n : ℕ) → IsIn n (map page_of new_level) → IsIn n (page ∷ []) → ⊥
  keeps : (n : ℕ) → IsIn n (map page_of old_level) → IsIn n (map page_of new_level) ⊎ IsIn n (page ∷ [])
  went : (n : ℕ) → IsIn n (page ∷ []) → IsIn n (map page_of old_level)

level_out : (first : Bool) (low : Key) (front : List Entry) (e : Entry) (others : List Entry)
    → Without (front ++ (e ∷ others)) (front ++ relow first low others) e.page
level_out first low front e others =
    let was : map page_of (front ++ (e ∷ others)) ≡ map page_of front ++ (e.page ∷ map page_of others) = pages-append front (e ∷ others) in
    let now : map page_of (front ++ relow first low others) ≡ map page_of front ++ map page_of others = out_pages first low front others in
    record {
      apart = λ h. subst AreApart (sym now) (apart_less (map page_of front) e.page (map page_of others) (subst AreApart was h));
      from = λ n i. subst (λ (l : List ℕ). IsIn n l) (sym was)
          (in_less n (map page_of front) e.page (map page_of others) (subst (λ (l : List ℕ). IsIn n l) now i));
      off = λ h n i g. off n (subst AreApart was h) (subst (λ (l : List ℕ). IsIn n l) now i) g;
      keeps = λ n i. keeps n (in_more n (map page_of front) e.page (map page_of others) (subst (λ (l : List ℕ). IsIn n l) was i)) now;
      went = λ n i. subst (λ (l : List ℕ). IsIn n l) (sym was) (went n i);
    }
  where
    off : (n : ℕ) → AreApart (map page_of front ++ (e.page ∷ map page_of others)) → IsIn n (map page_of front ++ map page_of others) → IsIn n (e.page ∷ []) → ⊥
    off n h i (inl k) = apart_off (map page_of front) e.page (map page_of others) h (subst (λ (j : ℕ). IsIn j (map page_of front ++ map page_of others)) k i)
    off n h i (inr k) = k

    keeps : (n : ℕ) → IsIn n (map page_of front ++ map page_of others) ⊎ (n ≡ e.page)
        → map page_of (front ++ relow first low others) ≡ map page_of front ++ map page_of others
        → IsIn n (map page_of (front ++ relow first low others)) ⊎ IsIn n (e.page ∷ [])
    keeps n (inl i) now = inl (subst (λ (l : List ℕ). IsIn n l) (sym now) i)
    keeps n (inr k) now = inr (inl k)

    went : (n : ℕ) → IsIn n (e.page ∷ []) → IsIn n (map page_of front ++ (e.page ∷ map page_of others))
    went n (inl k) = in_right n (map page_of front) (e.page ∷ map page_of others) (inl k)
    went n (inr k) = absurd k

-- the empty leaf itself
leaf_out : (old new : ℕ → Image) (first : Bool) (front : List Entry) (e : Entry) (others : List Entry) (left : Option ℕ) (right : ℕ) (cells : List (List ℕ))
    → Holds old 0 (front ++ (e ∷ others)) cells → (old e.page).cells ≡ [] → last_page front ≡ left → right ≡ (old e.page).head.right
    → Relinks old new (map page_of (front ++ (e ∷ others))) left right
    → Shrunk old new 0 (front ++ (e ∷ others)) (front ++ relow first e.low others) (e.page ∷ []) left cells
leaf_out old new first front e others left right cells h none last is r =
    let was : map page_of (front ++ (e ∷ others)) ≡ map page_of front ++ (e.page ∷ map page_of others) = pages-append front (e ∷ others) in
    let apart : AreApart (map page_of front ++ (e.page ∷ map page_of others)) = subst AreApart was h.apart in
    let in_front : (n : ℕ) → IsIn n (map page_of front) → IsIn n (map page_of (front ++ (e ∷ others))) =
    λ n i. subst (λ (l : List ℕ). IsIn n l) (sym was) (in_left n (map page_of front) (e.page ∷ map page_of others) i) in
    let in_others : (n : ℕ) → IsIn n (map page_of others) → IsIn n (map page_of (front ++ (e ∷ others))) =
    λ n i. subst (λ (l : List ℕ). IsIn n l) (sym was) (in_right n (map page_of front) (e.page ∷ map page_of others) (inr i)) in
    let re : IsRelinked old new right front =
    relinked old new (map page_of (front ++ (e ∷ others))) left right front r in_front (apart_left (map page_of front) (e.page ∷ map page_of others) apart) last in
    let same : SameOn old new (map page_of others) =
    λ n i. r.others n (in_others n i) (λ k. apart_cross n (map page_of front) (e.page ∷ map page_of others) apart (last_in front n (last ∙ k)) (inr i)) in
    let w : Without (front ++ (e ∷ others)) (front ++ relow first e.low others) e.page = level_out first e.low front e others in
    record {
      holds = record {
        shaped = leaves_out old new right first e.low front e others re same h.shaped;
        fenced = fences_out old new right first front e others re same h.fenced;
        linked = links_out old new right first e.low front e others is re same h.linked;
        apart = w.apart h.apart;
        is = cells_out old new right first e.low front e others none re same ∙ h.is;
      };
      from = w.from;
      off = w.off h.apart;
      keeps = w.keeps;
      went = w.went;
      beside = λ n k. subst (λ (l : List ℕ). IsIn n l) (sym (out_pages first e.low front others))
          (in_left n (map page_of front) (map page_of others) (last_in front n (last ∙ k)));
    }

-- one level up
pub shrunk_up : (old new : ℕ → Image) (height : ℕ) (old_level new_level : List Entry) (gone lower : List ℕ) (left : Option ℕ) (cells : List (List ℕ))
    → AllByRecursion (λ e. IsInnerPage (suc height) (new e.page)) new_level → AreApart (map page_of new_level)
    → ((n : ℕ) → IsIn n (map page_of new_level) → IsIn n (map page_of old_level))
    → ((n : ℕ) → IsIn n (map page_of new_level) → IsIn n gone → ⊥)
    → ((n : ℕ) → IsIn n (map page_of old_level) → IsIn n (map page_of new_level) ⊎ IsIn n gone)
    → ((n : ℕ) → IsIn n gone → IsIn n (map page_of old_level))
    → AreApart (map page_of old_level ++ tree_pages old height (spread old old_level))
    → Shrunk old new height (spread old old_level) (spread new new_level) lower left cells
    → Shrunk old new (suc height) old_level new_level (gone ++ lower) left cells
shrunk_up old new height old_level new_level gone lower left cells inner apart from off keeps went all s =
    let here = map page_of old_level in
    let deep = tree_pages old height (spread old old_level) in
    let here' = map page_of new_level in
    let deep' = tree_pages new height (spread new new_level) in
    record {
      holds = record {
        shaped = (inner, s.holds.shaped);
        fenced = s.holds.fenced;
        linked = s.holds.linked;
        apart = apart_join here' deep' apart s.holds.apart (λ n i j. apart_cross n here deep all (from n i) (s.from n j));
        is = s.holds.is;
      };
      from = λ n i. up n (in_either n here' deep' i);
      off = λ n i g. away n (in_either n here' deep' i) (in_either n gone lower g);
      keeps = λ n i. stay n (in_either n here deep i);
      went = λ n g. left_it n (in_either n gone lower g);
      beside = λ n k. in_right n here' deep' (s.beside n k);
    }
  where
    up : (n : ℕ) → IsIn n (map page_of new_level) ⊎ IsIn n (tree_pages new height (spread new new_level))
        → IsIn n (map page_of old_level ++ tree_pages old height (spread old old_level))
    up n (inl i) = in_left n (map page_of old_level) (tree_pages old height (spread old old_level)) (from n i)
    up n (inr i) = in_right n (map page_of old_level) (tree_pages old height (spread old old_level)) (s.from n i)

    away : (n : ℕ) → IsIn n (map page_of new_level) ⊎ IsIn n (tree_pages new height (spread new new_level)) → IsIn n gone ⊎ IsIn n lower → ⊥
    away n (inl i) (inl g) = off n i g
    away n (inl i) (inr g) = apart_cross n (map page_of old_level) (tree_pages old height (spread old old_level)) all (from n i) (s.went n g)
    away n (inr i) (inl g) = apart_cross n (map page_of old_level) (tree_pages old height (spread old old_level)) all (went n g) (s.from n i)
    away n (inr i) (inr g) = s.off n i g

    stay : (n : ℕ) → IsIn n (map page_of old_level) ⊎ IsIn n (tree_pages old height (spread old old_level))
        → IsIn n (map page_of new_level ++ tree_pages new height (spread new new_level)) ⊎ IsIn n (gone ++ lower)
    stay n (inl i) = here n (keeps n i)
      where
        here : (n : ℕ) → IsIn n (map page_of new_level) ⊎ IsIn n gone
            → IsIn n (map page_of new_level ++ tree_pages new height (spread new new_level)) ⊎ IsIn n (gone ++ lower)
        here n (inl j) = inl (in_left n (map page_of new_level) (tree_pages new height (spread new new_level)) j)
        here n (inr g) = inr (in_left n gone lower g)
    stay n (inr i) = deeper n (s.keeps n i)
      where
        deeper : (n : ℕ) → IsIn n (tree_pages new height (spread new new_level)) ⊎ IsIn n lower
            → IsIn n (map page_of new_level ++ tree_pages new height (spread new new_level)) ⊎ IsIn n (gone ++ lower)
        deeper n (inl j) = inl (in_right n (map page_of new_level) (tree_pages new height (spread new new_level)) j)
        deeper n (inr g) = inr (in_right n gone lower g)

    left_it : (n : ℕ) → IsIn n gone ⊎ IsIn n lower → IsIn n (map page_of old_level ++ tree_pages old height (spread old old_level))
    left_it n (inl g) = in_left n (map page_of old_level) (tree_pages old height (spread old old_level)) (went n g)
    left_it n (inr g) = in_right n (map page_of old_level) (tree_pages old height (spread old old_level)) (s.went n g)

-- pages above the leaves, of which one goes
each_out : (old new : ℕ → Image) (P : Image → Type 0) (first : Bool) (low : Key) (front : List Entry) (e : Entry) (others : List Entry)
    → SameOn old new (map page_of (front ++ (e ∷ others))) → AllByRecursion (λ x. P (old x.page)) (front ++ (e ∷ others))
    → AllByRecursion (λ x. P (new x.page)) (front ++ relow first low others)
each_out old new P first low [] e [] same h = tt
each_out old new P first low [] e (b ∷ bs) same h = each_same old new P (b ∷ bs) (λ n i. same n (inr i)) h.1
each_out old new P first low (a ∷ front) e others same h =
    (subst P (sym (same a.page (inl refl))) h.0, each_out old new P first low front e others (λ n i. same n (inr i)) h.1)

-- the level below one whose first least key is another
below_relow : (first : Bool) (low least : Key) (cells : List (List ℕ)) (others : List Entry) → BeginsEmpty cells
    → below (if first then low else least) cells ++ others ≡ relow first low (below least cells ++ others)
below_relow first low least [] others h = absurd h
below_relow first low least (c ∷ cs) others h = refl

spread_relow : (old new : ℕ → Image) (height : ℕ) (first : Bool) (low : Key) (others : List Entry) → SameOn old new (map page_of others)
    → AllByRecursion (λ e. IsInnerPage (suc height) (old e.page)) others → spread new (relow first low others) ≡ relow first low (spread old others)
spread_relow old new height first low [] same h = refl
spread_relow old new height first low (b ∷ bs) same h =
    ap (λ (i : Image). below (if first then low else b.low) i.cells ++ spread new bs) (same b.page (inl refl))
    ∙ ap (λ (l : List Entry). below (if first then low else b.low) (old b.page).cells ++ l) (spread-same old new bs (λ n i. same n (inr i)))
    ∙ below_relow first low b.low (old b.page).cells (spread old bs) h.0.first

each_behind : (P : Entry → Type 0) (front : List Entry) (e : Entry) (others : List Entry) → AllByRecursion P (front ++ (e ∷ others)) → AllByRecursion P others
each_behind P [] e others h = h.1
each_behind P (f ∷ fs) e others h = each_behind P fs e others h.1

-- a page with a leaf without cells below it, and with no other page there, taken out of its level
pub lone_out : (old new : ℕ → Image) (height : ℕ) (first : Bool) (front : List Entry) (e : Entry) (others : List Entry) (left : Option ℕ) (right : ℕ)
    (cells : List (List ℕ)) → Holds old height (front ++ (e ∷ others)) cells → IsLone old height e.page → last_page (leaves old height front) ≡ left
    → right ≡ (old (lone_leaf old height e.page)).head.right → Relinks old new (tree_pages old height (front ++ (e ∷ others))) left right
    → Shrunk old new height (front ++ (e ∷ others)) (front ++ relow first e.low others) (lone_pages old height e.page) left cells
lone_out old new zero first front e others left right cells h lone last is r = leaf_out old new first front e others left right cells h lone.1 last is r
lone_out old new (suc height) first front e others left right cells h lone last is r =
    let level = front ++ (e ∷ others) in
    let here = map page_of level in
    let front' = spread old front in
    let others' = spread old others in
    let e' : Entry = record { low = e.low; page = child_of (first_cell (old e.page).cells) } in
    let s1 : spread old level ≡ front' ++ (e' ∷ others') =
    spread-append old front (e ∷ others) ∙ ap (λ (l : List (List ℕ)). front' ++ (below e.low l ++ others')) lone.1 in
    let deep = tree_pages old height (spread old level) in
    let down : Holds old height (spread old level) cells =
    record { shaped = h.shaped.1; fenced = h.fenced; linked = h.linked; apart = apart_right here deep h.apart; is = h.is } in
    let ih : Shrunk old new height (front' ++ (e' ∷ others')) (front' ++ relow first e.low others') (lone_pages old height e'.page) left cells =
    lone_out old new height first front' e' others' left right cells (subst (λ (l : List Entry). Holds old height l cells) s1 down) lone.2 last is
    (record {
      others = λ n i k. r.others n (in_right n here deep (subst (λ (l : List Entry). IsIn n (tree_pages old height l)) (sym s1) i)) k;
      cells = r.cells;
      head = r.head;
    }) in
    let same : SameOn old new here =
    λ n i. r.others n (in_left n here deep i)
    (λ k. apart_cross n here deep h.apart i (subst (λ (l : List Entry). IsIn n (tree_pages old height l)) (sym s1) (ih.from n (ih.beside n k)))) in
    let in_front : SameOn old new (map page_of front) =
    λ n i. same n (subst (λ (l : List ℕ). IsIn n l) (sym (pages-append front (e ∷ others))) (in_left n (map page_of front) (e.page ∷ map page_of others) i)) in
    let in_others : SameOn old new (map page_of others) =
    λ n i. same n (subst (λ (l : List ℕ). IsIn n l) (sym (pages-append front (e ∷ others))) (in_right n (map page_of front) (e.page ∷ map page_of others) (inr i))) in
    let s2 : spread new (front ++ relow first e.low others) ≡ front' ++ relow first e.low others' =
    spread-append new front (relow first e.low others)
    ∙ ap (λ (l : List Entry). l ++ spread new (relow first e.low others)) (spread-same old new front in_front)
    ∙ ap (λ (l : List Entry). front' ++ l)
    (spread_relow old new height first e.low others in_others (each_behind (λ x. IsInnerPage (suc height) (old x.page)) front e others h.shaped.0)) in
    let w : Without level (front ++ relow first e.low others) e.page = level_out first e.low front e others in
    shrunk_up old new height level (front ++ relow first e.low others) (e.page ∷ []) (lone_pages old height e'.page) left cells
    (each_out old new (λ i. IsInnerPage (suc height) i) first e.low front e others same h.shaped.0) (w.apart (apart_left here deep h.apart)) w.from
    (w.off (apart_left here deep h.apart)) w.keeps w.went h.apart
    (subst (λ (l : List Entry). Shrunk old new height (spread old level) l (lone_pages old height e'.page) left cells) (sym s2)
    (subst (λ (l : List Entry). Shrunk old new height l (front' ++ relow first e.low others') (lone_pages old height e'.page) left cells) (sym s1) ih))

-- A page halved, seen from its level and from the level above.
use Rattle.std.proofs.Common.{◌≡◌, ◌⊎◌, inl, inr, ℕ, false, true, List, [], ◌∷◌, ◌++◌, map, refl, sym, ap, ◌∙◌, subst, append_assoc}
use Rattle.std.specs.List.{AllByRecursion}
use Rattle.page_store.specs.Image.{Image}
use Rattle.page_workspace.specs.Spare.{IsIn}
use Rattle.btree_index.specs.Keys.{Key, before}
use Rattle.btree_index.specs.Cells.{key_of_cell, child_of}
use Rattle.btree_index.specs.Trees.{Entry, page_of, entry_of, below, spread, IsFenced, IsUnder, IsUpTo, Ascends, AreFenced, AreLinked}
use Rattle.btree_index.proofs.KeyLaws.{atmost_before, before_before, irreflexive, not_back}
use Rattle.btree_index.proofs.PairLemmas.{ascends_all}
use Rattle.btree_index.proofs.LevelLemmas.{SameOn}
use Rattle.btree_index.proofs.LeafLaws.{fenced_same, linked_same}

-- one entry more behind another
pub each_split : (P Q : Entry → Type 0) (front : List Entry) (m x : Entry) (others : List Entry)
    → ((e : Entry) → IsIn e.page (map page_of front) ⊎ IsIn e.page (map page_of others) → P e → Q e) → Q m → Q x
    → AllByRecursion P (front ++ (m ∷ others)) → AllByRecursion Q (front ++ (m ∷ (x ∷ others)))
each_split P Q [] m x others keep here there h = (here, (there, go others (λ e i p. keep e (inr i) p) h.1))
  where
    go : (es : List Entry) → ((e : Entry) → IsIn e.page (map page_of es) → P e → Q e) → AllByRecursion P es → AllByRecursion Q es
    go [] keep h = tt
    go (e ∷ es) keep h = (keep e (inl refl) h.0, go es (λ e i p. keep e (inr i) p) h.1)
each_split P Q (f ∷ fs) m x others keep here there h =
    (keep f (inl (inl refl)) h.0, each_split P Q fs m x others (λ e i p. keep e (more e i) p) here there h.1)
  where
    more : (e : Entry) → IsIn e.page (map page_of fs) ⊎ IsIn e.page (map page_of others) → IsIn e.page (map page_of (f ∷ fs)) ⊎ IsIn e.page (map page_of others)
    more e (inl i) = inl (inr i)
    more e (inr i) = inr i

under_split : (key : Key) (front : List Entry) (m x : Entry) (others : List Entry) → IsUnder key (front ++ (m ∷ others)) → IsUnder key (front ++ (m ∷ (x ∷ others)))
under_split key [] m x others h = h
under_split key (f ∷ fs) m x others h = h

up_to_split : (key : Key) (front : List Entry) (m x : Entry) (others : List Entry) → IsUpTo key (front ++ (m ∷ others)) → IsUpTo key (front ++ (m ∷ (x ∷ others)))
up_to_split key [] m x others h = h
up_to_split key (f ∷ fs) m x others h = h

-- what is under is not above
under_up_to : (key : Key) (others : List Entry) → IsUnder key others → IsUpTo key others
under_up_to key [] h = tt
under_up_to key (f ∷ fs) h = not_back key f.low h

fence_split : (low : Key) (cells : List (List ℕ)) (front : List Entry) (m x : Entry) (others : List Entry) → IsFenced low cells (front ++ (m ∷ others))
    → IsFenced low cells (front ++ (m ∷ (x ∷ others)))
fence_split low cells front m x others h = record {
  from = h.from;
  to = go cells h.to;
  ascends = h.ascends;
  next = up_to_split low front m x others h.next;
}
  where
    go : (cells : List (List ℕ)) → AllByRecursion (λ c. IsUnder (key_of_cell c) (front ++ (m ∷ others))) cells
        → AllByRecursion (λ c. IsUnder (key_of_cell c) (front ++ (m ∷ (x ∷ others)))) cells
    go [] h = tt
    go (c ∷ cs) h = (under_split (key_of_cell c) front m x others h.0, go cs h.1)

pub fenced_split : (old new : ℕ → Image) (front : List Entry) (m x : Entry) (others : List Entry) → SameOn old new (map page_of front)
    → SameOn old new (map page_of others) → AreFenced old (front ++ (m ∷ others)) → IsFenced m.low (new m.page).cells (x ∷ others)
    → IsFenced x.low (new x.page).cells others → AreFenced new (front ++ (m ∷ (x ∷ others)))
fenced_split old new [] m x others left right h here there = (here, (there, fenced_same old new others right h.1))
fenced_split old new (f ∷ fs) m x others left right h here there = (
  subst (λ (i : Image). IsFenced f.low i.cells (fs ++ (m ∷ (x ∷ others)))) (sym (left f.page (inl refl)))
      (fence_split f.low (old f.page).cells fs m x others h.0),
  fenced_split old new fs m x others (λ n i. left n (inr i)) right h.1 here there,
)

pub linked_split : (old new : ℕ → Image) (front : List Entry) (m x : Entry) (others : List Entry) → SameOn old new (map page_of front)
    → SameOn old new (map page_of others) → AreLinked old (front ++ (m ∷ others)) → (new m.page).head.right ≡ x.page
    → (new x.page).head.right ≡ (old m.page).head.right → AreLinked new (front ++ (m ∷ (x ∷ others)))
linked_split old new [] m x [] left right h here there = (here, there ∙ h)
linked_split old new [] m x (o ∷ os) left right h here there =
    (here, (there ∙ h.0, linked_same old new (o ∷ os) (λ n i. ap (λ (i : Image). i.head.right) (right n i)) h.1))
linked_split old new (f ∷ []) m x others left right h here there =
    (ap (λ (i : Image). i.head.right) (left f.page (inl refl)) ∙ h.0, linked_split old new [] m x others (λ n i. absurd i) right h.1 here there)
linked_split old new (f ∷ g ∷ gs) m x others left right h here there = (
  ap (λ (i : Image). i.head.right) (left f.page (inl refl)) ∙ h.0,
  linked_split old new (g ∷ gs) m x others (λ n i. left n (inr i)) right h.1 here there,
)

-- the two halves of a leaf's cells are in order
pub all_append : (P : List ℕ → Type 0) (xs ys : List (List ℕ)) → AllByRecursion P (xs ++ ys) → AllByRecursion P xs × AllByRecursion P ys
all_append P [] ys h = (tt, h)
all_append P (x ∷ xs) ys h = let more = all_append P xs ys h.1 in ((h.0, more.0), more.1)

ascends_append : (c : List ℕ) (xs : List (List ℕ)) (d : List ℕ) (ys : List (List ℕ)) → Ascends (c ∷ (xs ++ (d ∷ ys)))
    → Ascends (c ∷ xs) × Ascends (d ∷ ys) × AllByRecursion (λ x. before (key_of_cell x) (key_of_cell d) ≡ true) (c ∷ xs)
ascends_append c [] d ys h = (tt, h.1, (h.0, tt))
ascends_append c (x ∷ xs) d ys h =
    let more = ascends_append x xs d ys h.1 in
    ((h.0, more.0), more.1, (before_before (key_of_cell c) (key_of_cell x) (key_of_cell d) h.0 more.2.0, more.2))

pub fence_halves : (low separator : Key) (start : List ℕ) (left : List (List ℕ)) (middle : List ℕ) (right : List (List ℕ)) (fresh : ℕ) (others : List Entry)
    → separator ≡ key_of_cell middle → IsFenced low ((start ∷ left) ++ (middle ∷ right)) others
    → IsFenced low (start ∷ left) (record { low = separator; page = fresh } ∷ others) × IsFenced separator (middle ∷ right) others
fence_halves low separator start left middle right fresh others is h =
    let from = all_append (λ c. before (key_of_cell c) low ≡ false) (start ∷ left) (middle ∷ right) h.from in
    let to = all_append (λ c. IsUnder (key_of_cell c) others) (start ∷ left) (middle ∷ right) h.to in
    let up = ascends_append start left middle right h.ascends in
    let under : AllByRecursion (λ x. before (key_of_cell x) separator ≡ true) (start ∷ left) =
    subst (λ (k : Key). AllByRecursion (λ x. before (key_of_cell x) k ≡ true) (start ∷ left)) (sym is) up.2 in
    let P : Key → Type 0 = λ k. IsFenced k (middle ∷ right) others in (
      record {
        from = from.0;
        to = under;
        ascends = up.0;
        next = not_back low separator (atmost_before low (key_of_cell start) separator from.0.0 under.0);
      },
      subst P (sym is) (record {
        from = (irreflexive (key_of_cell middle), at_least right (ascends_all middle right up.1));
        to = to.1;
        ascends = up.1;
        next = under_up_to (key_of_cell middle) others to.1.0;
      }),
    )
  where
    at_least : (cells : List (List ℕ)) → AllByRecursion (λ d. before (key_of_cell middle) (key_of_cell d) ≡ true) cells
        → AllByRecursion (λ c. before (key_of_cell c) (key_of_cell middle) ≡ false) cells
    at_least [] k = tt
    at_least (c ∷ cs) k = (not_back (key_of_cell middle) (key_of_cell c) k.0, at_least cs k.1)

-- the entries below the two halves of a page above the leaves
pub entries-append : (xs ys : List (List ℕ)) → map entry_of (xs ++ ys) ≡ map entry_of xs ++ map entry_of ys
entries-append [] ys = refl
entries-append (x ∷ xs) ys = ap (λ (l : List Entry). entry_of x ∷ l) (entries-append xs ys)

pub below_halves : (low separator : Key) (start : List ℕ) (left : List (List ℕ)) (middle first : List ℕ) (right : List (List ℕ))
    → separator ≡ key_of_cell middle → child_of first ≡ child_of middle
    → below low (start ∷ left) ++ below separator (first ∷ right) ≡ below low ((start ∷ left) ++ (middle ∷ right))
below_halves low separator start left middle first right is child =
    let one : Entry = record { low = low; page = child_of start } in
    ap (λ (k : Key). (one ∷ map entry_of left) ++ (record { low = k; page = child_of first } ∷ map entry_of right)) is
    ∙ ap (λ (n : ℕ). (one ∷ map entry_of left) ++ (record { low = key_of_cell middle; page = n } ∷ map entry_of right)) child
    ∙ ap (λ (l : List Entry). one ∷ l) (sym (entries-append left (middle ∷ right)))

pub spread-append : (pages : ℕ → Image) (xs ys : List Entry) → spread pages (xs ++ ys) ≡ spread pages xs ++ spread pages ys
spread-append pages [] ys = refl
spread-append pages (x ∷ xs) ys =
    ap (λ (l : List Entry). below x.low (pages x.page).cells ++ l) (spread-append pages xs ys)
    ∙ sym (append_assoc (below x.low (pages x.page).cells) (spread pages xs) (spread pages ys))

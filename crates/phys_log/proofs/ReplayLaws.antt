-- Records in order, replayed over pages.
use Rattle.std.proofs.Common.{◌≡◌, ℕ, zero, suc, inl, inr, ◌+◌, ◌<◌, ◌≤◌, List, [], ◌∷◌, ◌++◌, Bool, true, false, ◌==◌, if◌then◌else◌, refl, sym, ap, ◌∙◌, subst, length, arith, Some, None, append_assoc}
use Rattle.std.proofs.lemmas.Bool.{eq-eqb, ne_eqb, cases_eq}
use Rattle.std.proofs.lemmas.Option.{none-some, same_Some}
use Rattle.std.specs.List.{slice_get}
use Rattle.page_store.specs.Image.{Image}
use Rattle.page_store.specs.Edits.{IsFit, after_edit, before_edit}
use Rattle.page_store.proofs.EditLaws.{edit_back}
use Rattle.phys_log.specs.declared.entries.LogRecord.{LogRecord}
use Rattle.phys_log.specs.Logs.{after_record, replayed, lsn_after, IsNext, AreNext}
use Rattle.phys_log.specs.Undone.{newest_first, undone, IsLinked, last_on_or}

pub replayed-append : (pages : ℕ → Image) (xs ys : List LogRecord) → replayed pages (xs ++ ys) ≡ replayed (replayed pages xs) ys
replayed-append pages [] ys = refl
replayed-append pages (x ∷ xs) ys = replayed-append (after_record pages x) xs ys

pub lsn_after-append : (before : ℕ) (xs ys : List LogRecord) → lsn_after before (xs ++ ys) ≡ lsn_after (lsn_after before xs) ys
lsn_after-append before [] ys = refl
lsn_after-append before (x ∷ xs) ys = lsn_after-append x.lsn xs ys

-- the page of a record, and another
pub written_here : (pages : ℕ → Image) (r : LogRecord) (id : ℕ) → id ≡ r.page → after_record pages r id ≡ after_edit (pages r.page) r.edit r.lsn
written_here pages r id h =
    ap (λ (t : Bool). if t then after_edit (pages r.page) r.edit r.lsn else pages id) (eq-eqb id r.page h)

pub written_other : (pages : ℕ → Image) (r : LogRecord) (id : ℕ) → (id ≡ r.page → ⊥) → after_record pages r id ≡ pages id
written_other pages r id h =
    ap (λ (t : Bool). if t then after_edit (pages r.page) r.edit r.lsn else pages id) (ne_eqb id r.page h)

-- records in two parts
pub next_front : (pages : ℕ → Image) (lsn : ℕ) (xs ys : List LogRecord) → AreNext pages lsn (xs ++ ys) → AreNext pages lsn xs
next_front pages lsn [] ys h = tt
next_front pages lsn (x ∷ xs) ys h = (h.0, next_front (after_record pages x) (lsn + 1) xs ys h.1)

pub next_behind : (pages : ℕ → Image) (lsn : ℕ) (xs ys : List LogRecord) → AreNext pages lsn (xs ++ ys)
    → AreNext (replayed pages xs) (lsn + length xs) ys
next_behind pages lsn [] ys h =
    let e : lsn ≡ lsn + 0 = omega arith in
    subst (λ (n : ℕ). AreNext pages n ys) e h
next_behind pages lsn (x ∷ xs) ys h =
    let e : (lsn + 1) + length xs ≡ lsn + length (x ∷ xs) = omega arith in
    subst (λ (n : ℕ). AreNext (replayed (after_record pages x) xs) n ys) e (next_behind (after_record pages x) (lsn + 1) xs ys h.1)

pub next_both : (pages : ℕ → Image) (lsn : ℕ) (xs ys : List LogRecord) → AreNext pages lsn xs
    → AreNext (replayed pages xs) (lsn + length xs) ys → AreNext pages lsn (xs ++ ys)
next_both pages lsn [] ys h k =
    let e : lsn + 0 ≡ lsn = omega arith in
    subst (λ (n : ℕ). AreNext pages n ys) e k
next_both pages lsn (x ∷ xs) ys h k =
    let e : lsn + length (x ∷ xs) ≡ (lsn + 1) + length xs = omega arith in
    (h.0, next_both (after_record pages x) (lsn + 1) xs ys h.1 (subst (λ (n : ℕ). AreNext (replayed (after_record pages x) xs) n ys) e k))

-- the last LSN of records that are numbered in order
pub next_last : (pages : ℕ → Image) (lsn : ℕ) (xs : List LogRecord) → AreNext pages (lsn + 1) xs → lsn_after lsn xs ≡ lsn + length xs
next_last pages lsn [] h = let e : lsn ≡ lsn + 0 = omega arith in e
next_last pages lsn (x ∷ xs) h =
    let n : x.lsn ≡ lsn + 1 = h.0.number in
    let tail : AreNext (after_record pages x) (x.lsn + 1) xs = subst (λ (m : ℕ). AreNext (after_record pages x) (m + 1) xs) (sym n) h.1 in
    let e : lsn_after x.lsn xs ≡ x.lsn + length xs = next_last (after_record pages x) x.lsn xs tail in
    let f : x.lsn + length xs ≡ lsn + length (x ∷ xs) = omega arith in
    e ∙ f

-- what undoing does with one record more, that was made first
pub undone-append : (image : Image) (xs : List LogRecord) (r : LogRecord) → undone image (xs ++ r ∷ []) ≡ before_edit (undone image xs) r.edit r.prev
undone-append image [] r = refl
undone-append image (x ∷ xs) r = undone-append (before_edit image x.edit x.prev) xs r

pub newest_here : (id : ℕ) (r : LogRecord) (rs : List LogRecord) → id ≡ r.page → newest_first id (r ∷ rs) ≡ newest_first id rs ++ r ∷ []
newest_here id r rs h =
    ap (λ (t : Bool). if t then newest_first id rs ++ r ∷ [] else newest_first id rs) (eq-eqb r.page id (sym h))

pub newest_other : (id : ℕ) (r : LogRecord) (rs : List LogRecord) → (id ≡ r.page → ⊥) → newest_first id (r ∷ rs) ≡ newest_first id rs
newest_other id r rs h =
    ap (λ (t : Bool). if t then newest_first id rs ++ r ∷ [] else newest_first id rs) (ne_eqb r.page id (λ e. h (sym e)))

-- a record undone on the page that it made
one_back : (pages : ℕ → Image) (lsn : ℕ) (r : LogRecord) → IsNext pages lsn r
    → before_edit (after_edit (pages r.page) r.edit r.lsn) r.edit r.prev ≡ pages r.page
one_back pages lsn r h =
    edit_back (pages r.page) r.edit r.lsn r.prev h.fits.found
    ∙ ap (λ (n : ℕ). record (pages r.page) { lsn = n }) h.before

-- undoing the records of a page, newest first, gives the page before them
pub undone_is : (pages : ℕ → Image) (lsn : ℕ) (rs : List LogRecord) (id : ℕ) → AreNext pages lsn rs
    → undone (replayed pages rs id) (newest_first id rs) ≡ pages id
undone_is pages lsn [] id h = refl
undone_is pages lsn (r ∷ rs) id h =
    let back : undone (replayed (after_record pages r) rs id) (newest_first id rs) ≡ after_record pages r id
    = undone_is (after_record pages r) (lsn + 1) rs id h.1 in
    let image = replayed (after_record pages r) rs id in
    elim (cases_eq id r.page) [
      | inl here ↦ ap (λ (l : List LogRecord). undone image l) (newest_here id r rs here)
          ∙ undone-append image (newest_first id rs) r
          ∙ ap (λ (i : Image). before_edit i r.edit r.prev) (back ∙ written_here pages r id here)
          ∙ one_back pages lsn r h.0 ∙ ap pages (sym here)
      | inr off ↦ ap (λ (l : List LogRecord). undone image l) (newest_other id r rs off) ∙ back ∙ written_other pages r id off
    ]

-- one record more behind records that go back
pub linked-append : (lsn end last : ℕ) (xs : List LogRecord) (r : LogRecord) → IsLinked lsn xs end → r.lsn ≡ end → r.prev ≡ last
    → IsLinked lsn (xs ++ r ∷ []) last
linked-append lsn end last [] r h here prev = (here ∙ sym h, prev)
linked-append lsn end last (x ∷ xs) r h here prev = (h.0, linked-append x.prev end last xs r h.1 here prev)

-- the records of a page, newest first, go back from its LSN to that before them
pub linked_is : (pages : ℕ → Image) (lsn : ℕ) (rs : List LogRecord) (id : ℕ) → AreNext pages lsn rs
    → IsLinked (replayed pages rs id).lsn (newest_first id rs) (pages id).lsn
linked_is pages lsn [] id h = refl
linked_is pages lsn (r ∷ rs) id h =
    let back : IsLinked (replayed (after_record pages r) rs id).lsn (newest_first id rs) (after_record pages r id).lsn
    = linked_is (after_record pages r) (lsn + 1) rs id h.1 in
    let top = (replayed (after_record pages r) rs id).lsn in
    elim (cases_eq id r.page) [
      | inl here ↦ subst (λ (l : List LogRecord). IsLinked top l (pages id).lsn) (sym (newest_here id r rs here))
          (linked-append top (after_record pages r id).lsn (pages id).lsn (newest_first id rs) r back
          (sym (ap (λ (i : Image). i.lsn) (written_here pages r id here)))
          (h.0.before ∙ ap (λ (n : ℕ). (pages n).lsn) (sym here)))
      | inr off ↦ subst (λ (l : List LogRecord). IsLinked top l (pages id).lsn) (sym (newest_other id r rs off))
          (subst (λ (i : Image). IsLinked top (newest_first id rs) i.lsn) (written_other pages r id off) back)
    ]

-- the LSN of a page is that of its last record
pub lsn_is : (pages : ℕ → Image) (rs : List LogRecord) (id : ℕ) → (replayed pages rs id).lsn ≡ last_on_or (pages id).lsn id rs
lsn_is pages [] id = refl
lsn_is pages (r ∷ rs) id =
    lsn_is (after_record pages r) rs id ∙ elim (cases_eq id r.page) [
      | inl here ↦ ap (λ (n : ℕ). last_on_or n id rs) (ap (λ (i : Image). i.lsn) (written_here pages r id here)
          ∙ sym (ap (λ (t : Bool). if t then r.lsn else (pages id).lsn) (eq-eqb id r.page here)))
      | inr off ↦ ap (λ (n : ℕ). last_on_or n id rs) (ap (λ (i : Image). i.lsn) (written_other pages r id off)
          ∙ sym (ap (λ (t : Bool). if t then r.lsn else (pages id).lsn) (ne_eqb id r.page off)))
    ]

-- each of these records has an LSN below the next one
pub lsn_below : (pages : ℕ → Image) (lsn : ℕ) (xs : List LogRecord) (place : ℕ) (r : LogRecord) → AreNext pages lsn xs
    → slice_get xs place ≡ Some r → r.lsn < lsn + length xs
lsn_below pages lsn [] place r h k = absurd (none-some r k)
lsn_below pages lsn (x ∷ xs) zero r h k =
    let e : x ≡ r = same_Some x r k in
    let n : r.lsn ≡ lsn = ap (λ (y : LogRecord). y.lsn) (sym e) ∙ h.0.number in
    omega arith
lsn_below pages lsn (x ∷ xs) (suc place) r h k =
    let b : r.lsn < (lsn + 1) + length xs = lsn_below (after_record pages x) (lsn + 1) xs place r h.1 k in
    omega arith

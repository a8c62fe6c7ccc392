-- The numbers of the pages that have a record.
use Rattle.std.proofs.Common.{◌≡◌, ◌↔◌, ℕ, zero, suc, ◌+◌, ◌<◌, ◌≤◌, ◌==◌, ◌||◌, ◌&&◌, ◌⊎◌, not, leb, cond, nat_eq, if◌then◌else◌, Bool, true, false, List, [], ◌∷◌, ◌++◌, refl, sym, ap, ◌∙◌, subst, length, arith, inl, inr, Option, Some, None, IfNone, OnOk, OnSome, Result, Ok, Err, get_or, length-append}
use Rattle.std.proofs.lemmas.Bool.{le-leb, lt-leb, eq-eqb, ne_eqb, cases_eq, cases_lt, false≢true}
use Rattle.std.proofs.lemmas.List.{append_assoc, get_or_append_left, get_or_at, get_or_past}
use Rattle.std.proofs.lemmas.List.Folds.{list_any-append}
use Rattle.std.specs.List.{list_any, AllByRecursion}
use Rattle.std.specs.List.Sorted.{IsStrictlySortedBy}
use Rattle.std.specs.Map.{lookup, keys_of}
use Rattle.std.specs.Option.{option_flatten}
use Rattle.std.specs.BTreeMap.{is_at, keys, IsOrdered}
use Rattle.std.specs.Ordering.{nat_cmp}
use Rattle.std.specs.declared.cmp.Ordering.TheVariants.{Less}
use Rattle.std.proofs.lemmas.Cmp.{ranked}
use Rattle.std.specs.List.Sorted.{IsStrictlyIncreasing}
use Rattle.std.specs.Result.{IfOk}
use Rattle.page_store.specs.Image.{Image, blank_image}
use Rattle.phys_log.specs.declared.entries.Entry.{Entry}
use Rattle.phys_log.specs.Logs.{pages_of}
use Rattle.phys_log.specs.Undone.{later_records}
use Rattle.log_replay.specs.declared.kept.KeptPage.{KeptPage}
use Rattle.log_replay.specs.declared.kept.KeptPages.{KeptPages}
use Rattle.log_replay.specs.Kept.{far_at, image_of, page_in, numbers_in, numbers_of, edited_numbers, IsKept}
use Rattle.log_replay.proofs.KeptLemmas.{is_off}
use Rattle.log_replay.proofs.LogLemmas.{page_blank, page_unedited, page_edited}

-- the number of one page, where it has a record
abbrev one : (ℕ → Image) → ℕ → List ℕ
one pages n = if (pages n).lsn == 0 then [] else n ∷ []

one_none : (pages : ℕ → Image) (n : ℕ) → (pages n).lsn ≡ 0 → one pages n ≡ []
one_none pages n h = ap (λ (t : Bool). if t then [] else n ∷ []) (eq-eqb (pages n).lsn 0 h)

one_there : (pages : ℕ → Image) (n : ℕ) → ((pages n).lsn ≡ 0 → ⊥) → one pages n ≡ n ∷ []
one_there pages n h = ap (λ (t : Bool). if t then [] else n ∷ []) (ne_eqb (pages n).lsn 0 h)

-- one number more
pub numbers_with : (pages : ℕ → Image) (n : ℕ) → ((pages n).lsn ≡ 0 → ⊥) → numbers_in pages (n + 1) ≡ numbers_in pages n ++ n ∷ []
numbers_with pages n h =
    let e : n + 1 ≡ suc n = omega arith in
    ap (numbers_in pages) e ∙ ap (λ (l : List ℕ). numbers_in pages n ++ l) (one_there pages n h)

append_nil : (xs : List ℕ) → xs ++ [] ≡ xs
append_nil [] = refl
append_nil (x ∷ xs) = ap (λ (l : List ℕ). x ∷ l) (append_nil xs)

pub numbers_without : (pages : ℕ → Image) (n : ℕ) → (pages n).lsn ≡ 0 → numbers_in pages (n + 1) ≡ numbers_in pages n
numbers_without pages n h =
    let e : n + 1 ≡ suc n = omega arith in
    ap (numbers_in pages) e ∙ ap (λ (l : List ℕ). numbers_in pages n ++ l) (one_none pages n h) ∙ append_nil (numbers_in pages n)

-- they rise
abbrev IsBelow : List ℕ → ℕ → Type 0
IsBelow xs n = (k : ℕ) → k < length xs → get_or xs k 0 < n

rising_push : (xs : List ℕ) (y : ℕ) → IsStrictlyIncreasing xs → IsBelow xs y → IsStrictlyIncreasing (xs ++ y ∷ [])
rising_push xs y rising below k within =
    let long : length (xs ++ y ∷ []) ≡ length xs + 1 = length-append xs (y ∷ []) in
    let here : k < length xs = omega arith in
    let front : get_or (xs ++ y ∷ []) k 0 ≡ get_or xs k 0 = get_or_append_left xs (y ∷ []) 0 k here in
    elim (cases_lt (k + 1) (length xs)) [
      | inl more ↦
          let next : get_or (xs ++ y ∷ []) (k + 1) 0 ≡ get_or xs (k + 1) 0 = get_or_append_left xs (y ∷ []) 0 (k + 1) more in
          let up : get_or xs k 0 < get_or xs (k + 1) 0 = rising k more in
          omega arith
      | inr end ↦
          let at : length xs ≡ k + 1 = omega arith in
          let last : get_or (xs ++ y ∷ []) (k + 1) 0 ≡ y = get_or_at xs y [] 0 (k + 1) at in
          let up : get_or xs k 0 < y = below k here in
          omega arith
    ]

below_push : (xs : List ℕ) (y : ℕ) → IsBelow xs y → IsBelow (xs ++ y ∷ []) (suc y)
below_push xs y below k within =
    let long : length (xs ++ y ∷ []) ≡ length xs + 1 = length-append xs (y ∷ []) in
    elim (cases_lt k (length xs)) [
      | inl here ↦
          let front : get_or (xs ++ y ∷ []) k 0 ≡ get_or xs k 0 = get_or_append_left xs (y ∷ []) 0 k here in
          let up : get_or xs k 0 < y = below k here in
          omega arith
      | inr end ↦
          let at : length xs ≡ k = omega arith in
          let last : get_or (xs ++ y ∷ []) k 0 ≡ y = get_or_at xs y [] 0 k at in
          omega arith
    ]

below_more : (xs : List ℕ) (y : ℕ) → IsBelow xs y → IsBelow xs (suc y)
below_more xs y below k within = let up : get_or xs k 0 < y = below k within in omega arith

numbers_below : (pages : ℕ → Image) (n : ℕ) → IsBelow (numbers_in pages n) n
numbers_below pages zero = λ k within. absurd (omega arith)
numbers_below pages (suc n) = elim (cases_eq (pages n).lsn 0) [
  | inl none ↦ subst (λ (l : List ℕ). IsBelow l (suc n)) (sym (ap (λ (l : List ℕ). numbers_in pages n ++ l) (one_none pages n none) ∙ append_nil (numbers_in pages n)))
      (below_more (numbers_in pages n) n (numbers_below pages n))
  | inr some ↦ subst (λ (l : List ℕ). IsBelow l (suc n)) (sym (ap (λ (l : List ℕ). numbers_in pages n ++ l) (one_there pages n some)))
      (below_push (numbers_in pages n) n (numbers_below pages n))
]

pub numbers_rise : (pages : ℕ → Image) (n : ℕ) → IsStrictlyIncreasing (numbers_in pages n)
numbers_rise pages zero = λ k within. absurd (omega arith)
numbers_rise pages (suc n) = elim (cases_eq (pages n).lsn 0) [
  | inl none ↦ subst IsStrictlyIncreasing (sym (ap (λ (l : List ℕ). numbers_in pages n ++ l) (one_none pages n none) ∙ append_nil (numbers_in pages n)))
      (numbers_rise pages n)
  | inr some ↦ subst IsStrictlyIncreasing (sym (ap (λ (l : List ℕ). numbers_in pages n ++ l) (one_there pages n some)))
      (rising_push (numbers_in pages n) n (numbers_rise pages n) (numbers_below pages n))
]

-- a number is among them exactly where its page has a record
or_left : (a b : Bool) → a ≡ true → (a || b) ≡ true
or_left true b h = refl
or_left false b h = absurd (false≢true h)

or_right : (a b : Bool) → b ≡ true → (a || b) ≡ true
or_right true b h = refl
or_right false b h = h

or_none : (a b : Bool) → a ≡ false → b ≡ false → (a || b) ≡ false
or_none true b h k = absurd (false≢true (sym h))
or_none false b h k = k

one_out : (pages : ℕ → Image) (id n : ℕ) → (pages id).lsn ≡ 0 → list_any (nat_eq id) (one pages n) ≡ false
one_out pages id n none = elim (cases_eq (pages n).lsn 0) [
  | inl also ↦ ap (list_any (nat_eq id)) (one_none pages n also)
  | inr some ↦ ap (list_any (nat_eq id)) (one_there pages n some)
      ∙ or_none (nat_eq id n) false (ne_eqb id n (λ same. some (ap (λ (k : ℕ). (pages k).lsn) (sym same) ∙ none))) refl
]

numbers_out : (pages : ℕ → Image) (n id : ℕ) → (pages id).lsn ≡ 0 → list_any (nat_eq id) (numbers_in pages n) ≡ false
numbers_out pages zero id none = refl
numbers_out pages (suc n) id none =
    list_any-append (nat_eq id) (numbers_in pages n) (one pages n)
    ∙ or_none (list_any (nat_eq id) (numbers_in pages n)) (list_any (nat_eq id) (one pages n)) (numbers_out pages n id none) (one_out pages id n none)

numbers_among : (pages : ℕ → Image) (n id : ℕ) → id < n → ((pages id).lsn ≡ 0 → ⊥) → list_any (nat_eq id) (numbers_in pages n) ≡ true
numbers_among pages zero id within some = absurd (omega arith)
numbers_among pages (suc n) id within some =
    let front = list_any (nat_eq id) (numbers_in pages n) in
    let back = list_any (nat_eq id) (one pages n) in
    list_any-append (nat_eq id) (numbers_in pages n) (one pages n) ∙ elim (cases_eq id n) [
      | inl here ↦
          let there : one pages n ≡ n ∷ [] = one_there pages n (λ none. some (ap (λ (k : ℕ). (pages k).lsn) here ∙ none)) in
          or_right front back (ap (list_any (nat_eq id)) there ∙ or_left (nat_eq id n) false (eq-eqb id n here))
      | inr off ↦ or_left front back (numbers_among pages n id (omega arith) some)
    ]

-- of the numbers of the map one more is taken, and one is left out
picked : (pages : ℕ → Image) (low k : ℕ) → low ≤ k → ((pages k).lsn ≡ 0 → ⊥) → (leb low k && not ((pages k).lsn == 0)) ≡ true
picked pages low k from some = ap (λ (a : Bool). a && not ((pages k).lsn == 0)) (le-leb low k from) ∙ ap not (ne_eqb (pages k).lsn 0 some)

and_false : (a : Bool) → (a && false) ≡ false
and_false true = refl
and_false false = refl

passed : (pages : ℕ → Image) (low k : ℕ) → (k < low) ⊎ ((pages k).lsn ≡ 0) → (leb low k && not ((pages k).lsn == 0)) ≡ false
passed pages low k (inl under) = ap (λ (a : Bool). a && not ((pages k).lsn == 0)) (lt-leb low k under)
passed pages low k (inr none) = ap (λ (b : Bool). leb low k && not b) (eq-eqb (pages k).lsn 0 none) ∙ and_false (leb low k)

one_taken : (pages : ℕ → Image) (low k : ℕ) (ks : List ℕ) → low ≤ k → ((pages k).lsn ≡ 0 → ⊥) → numbers_of pages low (k ∷ ks) ≡ k ∷ numbers_of pages low ks
one_taken pages low k ks from some = ap (λ (t : Bool). (if t then k ∷ [] else []) ++ numbers_of pages low ks) (picked pages low k from some)

one_passed : (pages : ℕ → Image) (low k : ℕ) (ks : List ℕ) → (k < low) ⊎ ((pages k).lsn ≡ 0) → numbers_of pages low (k ∷ ks) ≡ numbers_of pages low ks
one_passed pages low k ks out = ap (λ (t : Bool). (if t then k ∷ [] else []) ++ numbers_of pages low ks) (passed pages low k out)

pub numbers_taken : (pages : ℕ → Image) (low k : ℕ) (ks xs : List ℕ) → low ≤ k → ((pages k).lsn ≡ 0 → ⊥)
    → (xs ++ k ∷ []) ++ numbers_of pages low ks ≡ xs ++ numbers_of pages low (k ∷ ks)
numbers_taken pages low k ks xs from some =
    append_assoc xs (k ∷ []) (numbers_of pages low ks) ∙ ap (λ (l : List ℕ). xs ++ l) (sym (one_taken pages low k ks from some))

pub numbers_below_list : (pages : ℕ → Image) (low k : ℕ) (ks xs : List ℕ) → k < low → xs ++ numbers_of pages low ks ≡ xs ++ numbers_of pages low (k ∷ ks)
numbers_below_list pages low k ks xs under = ap (λ (l : List ℕ). xs ++ l) (sym (one_passed pages low k ks (inl under)))

pub numbers_unedited : (pages : ℕ → Image) (low k : ℕ) (ks xs : List ℕ) → (pages k).lsn ≡ 0 → xs ++ numbers_of pages low ks ≡ xs ++ numbers_of pages low (k ∷ ks)
numbers_unedited pages low k ks xs none = ap (λ (l : List ℕ). xs ++ l) (sym (one_passed pages low k ks (inr none)))

pub numbers_end : (pages : ℕ → Image) (low : ℕ) (xs : List ℕ) → xs ++ numbers_of pages low [] ≡ xs
numbers_end pages low xs = append_nil xs

-- they rise, behind others that rise and are below a number
below_to : (xs : List ℕ) (a b : ℕ) → IsBelow xs a → a ≤ b → IsBelow xs b
below_to xs a b below le k within = let up : get_or xs k 0 < a = below k within in omega arith

above_all : (k : ℕ) (ks : List ℕ) → AllByRecursion (λ y. nat_cmp k y ≡ Less) ks → AllByRecursion (λ y. suc k ≤ y) ks
above_all k [] s = tt
above_all k (y ∷ ys) s = (let up : k < y = ranked k y Less (sym s.0) in omega arith, above_all k ys s.1)

rise_on : (pages : ℕ → Image) (low c : ℕ) (xs ks : List ℕ) → IsStrictlyIncreasing xs → IsBelow xs c → (c ≤ low) ⊎ AllByRecursion (λ y. c ≤ y) ks → IsStrictlySortedBy nat_cmp ks
    → IsStrictlyIncreasing (xs ++ numbers_of pages low ks)
unfolding IsStrictlySortedBy
rise_on pages low c xs [] rising below up sorted = subst IsStrictlyIncreasing (sym (append_nil xs)) rising
rise_on pages low c xs (k ∷ ks) rising below up sorted = elim (cases_lt k low) [
  | inl under ↦
      subst IsStrictlyIncreasing (numbers_below_list pages low k ks xs under) (rise_on pages low c xs ks rising below (later up) sorted.1)
  | inr from ↦ elim (cases_eq (pages k).lsn 0) [
    | inl none ↦ subst IsStrictlyIncreasing (numbers_unedited pages low k ks xs none) (rise_on pages low c xs ks rising below (later up) sorted.1)
    | inr some ↦
        let low_k : low ≤ k = omega arith in
        let front : IsBelow xs k = below_to xs c k below (reach low_k up) in
        subst IsStrictlyIncreasing (numbers_taken pages low k ks xs low_k some)
        (rise_on pages low (suc k) (xs ++ k ∷ []) ks (rising_push xs k rising front) (below_push xs k front) (inr (above_all k ks sorted.0)) sorted.1)
  ]
]
  where
    later : (c ≤ low) ⊎ AllByRecursion (λ y. c ≤ y) (k ∷ ks) → (c ≤ low) ⊎ AllByRecursion (λ y. c ≤ y) ks
    later (inl a) = inl a
    later (inr b) = inr b.1

    reach : low ≤ k → (c ≤ low) ⊎ AllByRecursion (λ y. c ≤ y) (k ∷ ks) → c ≤ k
    reach le (inl a) = omega arith
    reach le (inr b) = b.0

pub edited_rise : (pages : KeptPages) → IsOrdered nat_cmp pages.far → IsStrictlyIncreasing (edited_numbers pages)
edited_rise pages ordered =
    let n = length pages.near.items in
    rise_on (page_in pages) n n (numbers_in (page_in pages) n) (keys pages.far) (numbers_rise (page_in pages) n) (numbers_below (page_in pages) n) (inl (omega arith)) ordered

-- a number of the map is among them exactly where its page has a record
of_out : (pages : ℕ → Image) (low id : ℕ) (ks : List ℕ) → (pages id).lsn ≡ 0 → list_any (nat_eq id) (numbers_of pages low ks) ≡ false
of_out pages low id [] none = refl
of_out pages low id (k ∷ ks) none = elim (cases_lt k low) [
  | inl under ↦ ap (list_any (nat_eq id)) (one_passed pages low k ks (inl under)) ∙ of_out pages low id ks none
  | inr from ↦ elim (cases_eq (pages k).lsn 0) [
    | inl also ↦ ap (list_any (nat_eq id)) (one_passed pages low k ks (inr also)) ∙ of_out pages low id ks none
    | inr some ↦
        ap (list_any (nat_eq id)) (one_taken pages low k ks (omega arith) some)
        ∙ or_none (nat_eq id k) (list_any (nat_eq id) (numbers_of pages low ks))
        (ne_eqb id k (λ same. some (ap (λ (m : ℕ). (pages m).lsn) (sym same) ∙ none))) (of_out pages low id ks none)
  ]
]

of_among : (pages : ℕ → Image) (low id : ℕ) (ks : List ℕ) → low ≤ id → ((pages id).lsn ≡ 0 → ⊥) → list_any (nat_eq id) ks ≡ true → list_any (nat_eq id) (numbers_of pages low ks) ≡ true
of_among pages low id [] from some among = absurd (false≢true among)
of_among pages low id (k ∷ ks) from some among = elim (cases_eq id k) [
  | inl here ↦
      let low_k : low ≤ k = omega arith in
      ap (list_any (nat_eq id)) (one_taken pages low k ks low_k (λ none. some (ap (λ (m : ℕ). (pages m).lsn) here ∙ none)))
      ∙ or_left (nat_eq id k) (list_any (nat_eq id) (numbers_of pages low ks)) (eq-eqb id k here)
  | inr off ↦
      let back : list_any (nat_eq id) (numbers_of pages low ks) ≡ true =
      of_among pages low id ks from some (ap (λ (t : Bool). t || list_any (nat_eq id) ks) (sym (ne_eqb id k off)) ∙ among) in
      elim (cases_lt k low) [
        | inl under ↦ ap (list_any (nat_eq id)) (one_passed pages low k ks (inl under)) ∙ back
        | inr high ↦ elim (cases_eq (pages k).lsn 0) [
          | inl none ↦ ap (list_any (nat_eq id)) (one_passed pages low k ks (inr none)) ∙ back
          | inr also ↦
              ap (list_any (nat_eq id)) (one_taken pages low k ks (omega arith) also)
              ∙ or_right (nat_eq id k) (list_any (nat_eq id) (numbers_of pages low ks)) back
        ]
      ]
]

lookup_among : (es : List (ℕ × Option KeptPage)) (id : ℕ) → (lookup (is_at (nat_cmp id)) es ≡ None → ⊥) → list_any (nat_eq id) (keys_of es) ≡ true
lookup_among [] id some = absurd (some refl)
lookup_among (e ∷ es) id some = elim (cases_eq e.0 id) [
  | inl here ↦ or_left (nat_eq id e.0) (list_any (nat_eq id) (keys_of es)) (eq-eqb id e.0 (sym here))
  | inr off ↦ or_right (nat_eq id e.0) (list_any (nat_eq id) (keys_of es))
      (lookup_among es id (λ none. some (ap (λ (t : Bool). cond t (Some e.1) (lookup (is_at (nat_cmp id)) es)) (is_off id e.0 off) ∙ none)))
]

-- a number beyond the list that the map does not have has no page
past_blank : (pages : KeptPages) (id : ℕ) → length pages.near.items ≤ id → lookup (is_at (nat_cmp id)) pages.far.entries ≡ None → (page_in pages id).lsn ≡ 0
past_blank pages id past none =
    ap (λ (o : Option KeptPage). (image_of o).lsn) (get_or_past pages.near.items id (far_at pages.far.entries id) past ∙ ap option_flatten none)

edited_among : (pages : KeptPages) (id : ℕ) → ((page_in pages id).lsn ≡ 0 → ⊥) → list_any (nat_eq id) (edited_numbers pages) ≡ true
edited_among pages id some =
    let n = length pages.near.items in
    let near = numbers_in (page_in pages) n in
    let far = numbers_of (page_in pages) n (keys pages.far) in
    list_any-append (nat_eq id) near far ∙ elim (cases_lt id n) [
      | inl within ↦ or_left (list_any (nat_eq id) near) (list_any (nat_eq id) far) (numbers_among (page_in pages) n id within some)
      | inr past ↦
          let past_id : n ≤ id = omega arith in
          or_right (list_any (nat_eq id) near) (list_any (nat_eq id) far)
          (of_among (page_in pages) n id (keys pages.far) past_id some (lookup_among pages.far.entries id (λ none. some (past_blank pages id past_id none))))
    ]

pub edited_off : (pages : KeptPages) (id : ℕ) → list_any (nat_eq id) (edited_numbers pages) ≡ false → (page_in pages id).lsn ≡ 0
edited_off pages id out = elim (cases_eq (page_in pages id).lsn 0) [
  | inl none ↦ none
  | inr some ↦ absurd (false≢true (sym out ∙ edited_among pages id some))
]

pub edited_out : (pages : KeptPages) (id : ℕ) → (page_in pages id).lsn ≡ 0 → list_any (nat_eq id) (edited_numbers pages) ≡ false
edited_out pages id none =
    let n = length pages.near.items in
    list_any-append (nat_eq id) (numbers_in (page_in pages) n) (numbers_of (page_in pages) n (keys pages.far))
    ∙ or_none (list_any (nat_eq id) (numbers_in (page_in pages) n)) (list_any (nat_eq id) (numbers_of (page_in pages) n (keys pages.far)))
    (numbers_out (page_in pages) n id none) (of_out (page_in pages) n id (keys pages.far) none)

-- what is told of the numbers of a log's pages
pub others_blank : (entries : List Entry) (pages : KeptPages) (blank : Option Image) → IsKept entries pages blank
    → (id : ℕ) → list_any (nat_eq id) (edited_numbers pages) ≡ false → pages_of entries id ≡ blank_image
others_blank entries pages blank kept id out = page_blank entries pages blank id kept (edited_off pages id out)

pub others_unedited : (entries : List Entry) (pages : KeptPages) (blank : Option Image) → IsKept entries pages blank
    → (id : ℕ) → (list_any (nat_eq id) (edited_numbers pages) ≡ false) ↔ (later_records entries 0 id ≡ [])
others_unedited entries pages blank kept id = (
  (λ out. page_unedited entries pages blank id kept (edited_off pages id out)),
  (λ none. edited_out pages id (page_edited entries pages blank id kept none)),
)

pub if_ok_all : {T E : Type 0} (r : Result T E) (P Q : T → Type 0) → ((v : T) → P v → Q v) → IfOk r P → IfOk r Q
if_ok_all (Ok v) P Q f h = f v h
if_ok_all (Err e) P Q f h = tt

pub if_ok_on : {T E : Type 0} (r : Result T E) (F : Type 0) (P Q : T → Type 0) → (F → (v : T) → P v → Q v) → OnOk r F → IfOk r P → IfOk r Q
if_ok_on (Ok v) F P Q f o h = f o v h
if_ok_on (Err e) F P Q f o h = tt

pub if_none_all : {A : Type 0} (o : Option A) (P Q : Type 0) → (P → Q) → IfNone o P → IfNone o Q
if_none_all None P Q f h = f h
if_none_all (Some x) P Q f h = tt

pub on_some_all : {A : Type 0} (o : Option A) (P Q : Type 0) → (P → Q) → OnSome o P → OnSome o Q
on_some_all None P Q f h = tt
on_some_all (Some x) P Q f h = f h

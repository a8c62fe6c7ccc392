-- The identities of a log: where they stand, and how they follow the log.
use Rattle.std.proofs.Common.{◌≡◌, ◌↔◌, ◌+◌, ◌-◌, ◌<◌, ◌≤◌, ℕ, zero, suc, Bool, true, false, cond, inl, inr, List, [], ◌∷◌, ◌++◌, length, take, nat_le, Some, None, slice_get, refl, sym, ap, ◌∙◌, subst, arith}
use Rattle.std.proofs.lemmas.Bool.Decides.{nat_tests}
use Rattle.std.proofs.lemmas.List.{append_assoc, append-nil}
use Rattle.phys_log.specs.declared.entries.CommitId.{CommitId}
use Rattle.phys_log.specs.declared.entries.Entry.{Entry}
use Rattle.phys_log.specs.declared.entries.Entry.TheVariants.{Setup, Commit}
use Rattle.blkseq_table.specs.Known.{Known, known_at, up_to, StandsAt, IsAbsent, AreApart, AreBelow, AreAbove, AreRising}
use Rattle.blkseq_table.specs.OfLogs.{id_of, known_of, identities_from, identities_of, HasId}
use Rattle.blkseq_table.proofs.LookupLemmas.{nowhere}

-- with one more entry
more_from : (n : ℕ) (entries : List Entry) (entry : Entry)
    → identities_from n (entries ++ entry ∷ []) ≡ identities_from n entries ++ known_of (n + length entries) entry
more_from n [] entry = append-nil (known_of n entry) ∙ ap (λ (m : ℕ). known_of m entry) at
  where
    at : n ≡ n + 0
    at = omega arith
more_from n (e ∷ es) entry =
    ap (λ (l : List Known). known_of n e ++ l) (more_from (n + 1) es entry)
    ∙ sym (append_assoc (known_of n e) (identities_from (n + 1) es) (known_of (n + 1 + length es) entry))
    ∙ ap (λ (m : ℕ). (known_of n e ++ identities_from (n + 1) es) ++ known_of m entry) at
  where
    at : n + 1 + length es ≡ n + length (e ∷ es)
    at = omega arith

pub of_more : (entries : List Entry) (entry : Entry) → identities_of (entries ++ entry ∷ []) ≡ identities_of entries ++ known_of (length entries + 1) entry
of_more entries entry = more_from 1 entries entry ∙ ap (λ (m : ℕ). identities_of entries ++ known_of m entry) at
  where
    at : 1 + length entries ≡ length entries + 1
    at = omega arith

-- all stand below the next position, and none below the first
below_from : (n : ℕ) (entries : List Entry) (next : ℕ) → n + length entries ≡ next → AreBelow (identities_from n entries) next
below_from n [] next is = tt
below_from n (Setup generation schema records ∷ es) next is = below_from (n + 1) es next (omega arith)
below_from n (Commit generation id begin level changes records ∷ es) next is = (omega arith, below_from (n + 1) es next (omega arith))

pub of_below : (entries : List Entry) → AreBelow (identities_of entries) (length entries + 1)
of_below entries = below_from 1 entries (length entries + 1) (omega arith)

above_from : (n : ℕ) (entries : List Entry) (bound : ℕ) → bound < n → AreAbove (identities_from n entries) bound
above_from n [] bound less = tt
above_from n (Setup generation schema records ∷ es) bound less = above_from (n + 1) es bound (omega arith)
above_from n (Commit generation id begin level changes records ∷ es) bound less = (less, above_from (n + 1) es bound (omega arith))

-- those at or below a position
le_true : (a b : ℕ) → a ≤ b → nat_le a b ≡ true
le_true a b less = grind (arith, nat_tests)

le_false : (a b : ℕ) → b < a → nat_le a b ≡ false
le_false a b more = grind (arith, nat_tests)

pub kept_one : (k : Known) (known : List Known) (position : ℕ) → k.position ≤ position → up_to position (k ∷ known) ≡ k ∷ up_to position known
kept_one k known position less = ap (λ (b : Bool). cond b (k ∷ up_to position known) (up_to position known)) (le_true k.position position less)

pub dropped_one : (k : Known) (known : List Known) (position : ℕ) → position < k.position → up_to position (k ∷ known) ≡ up_to position known
dropped_one k known position more = ap (λ (b : Bool). cond b (k ∷ up_to position known) (up_to position known)) (le_false k.position position more)

none_kept : (known : List Known) (position : ℕ) → AreAbove known position → up_to position known ≡ []
none_kept [] position above = refl
none_kept (k ∷ known) position above = dropped_one k known position above.0 ∙ none_kept known position above.1

first_from : (n m position : ℕ) (entries : List Entry) → position + 1 ≡ n + m → up_to position (identities_from n entries) ≡ identities_from n (take m entries)
first_from n zero position entries is = none_kept (identities_from n entries) position (above_from n entries position (omega arith))
first_from n (suc m) position [] is = refl
first_from n (suc m) position (Setup generation schema records ∷ es) is = first_from (n + 1) m position es (omega arith)
first_from n (suc m) position (Commit generation id begin level changes records ∷ es) is =
    kept_one (known_at id n) (identities_from (n + 1) es) position (omega arith)
    ∙ ap (λ (l : List Known). known_at id n ∷ l) (first_from (n + 1) m position es (omega arith))

pub of_first : (entries : List Entry) (position : ℕ) → up_to position (identities_of entries) ≡ identities_of (take position entries)
of_first entries position = first_from 1 position position entries (omega arith)

-- where an identity stands
record At (n : ℕ) (entries : List Entry) (id : CommitId) (position : ℕ) : Type 0 where
  place : ℕ
  is : position ≡ n + place
  entry : Entry
  got : slice_get entries place ≡ Some entry
  has : id_of entry ≡ Some id

one_later : (n : ℕ) (e : Entry) (es : List Entry) (id : CommitId) (position : ℕ) → At (n + 1) es id position → At n (e ∷ es) id position
one_later n e es id position at = record { place = suc at.place; is = next; entry = at.entry; got = at.got; has = at.has }
  where
    next : position ≡ n + suc at.place
    next = let was : position ≡ n + 1 + at.place = at.is in omega arith

stands_from : (n : ℕ) (entries : List Entry) (id : CommitId) (position : ℕ) → StandsAt (identities_from n entries) id position → At n entries id position
stands_from n [] id position at = absurd at
stands_from n (Setup generation schema records ∷ es) id position at =
    one_later n (Setup generation schema records) es id position (stands_from (n + 1) es id position at)
stands_from n (Commit generation other begin level changes records ∷ es) id position (inl at) =
    record { place = 0; is = here; entry = Commit generation other begin level changes records; got = refl; has = ap (λ (i : CommitId). Some i) at.0 }
  where
    here : position ≡ n + 0
    here = let was : n ≡ position = at.1 in omega arith
stands_from n (Commit generation other begin level changes records ∷ es) id position (inr at) =
    one_later n (Commit generation other begin level changes records) es id position (stands_from (n + 1) es id position at)

behind : (n : ℕ) (e : Entry) (known : List Known) (id : CommitId) (position : ℕ) → StandsAt known id position → StandsAt (known_of n e ++ known) id position
behind n (Setup generation schema records) known id position at = at
behind n (Commit generation other begin level changes records) known id position at = inr at

head_has : (n : ℕ) (e : Entry) (known : List Known) (id : CommitId) (position : ℕ) → position ≡ n → id_of e ≡ Some id → StandsAt (known_of n e ++ known) id position
head_has n (Setup generation schema records) known id position is has = absurd (other has)
  where
    other : None ≡ Some id → ⊥
    other e = cc
head_has n (Commit generation other begin level changes records) known id position is has = inl (same other has, sym is)
  where
    same : (i : CommitId) → Some i ≡ Some id → i ≡ id
    same i e = cc

has_from : (n place : ℕ) (entries : List Entry) (id : CommitId) (position : ℕ) (entry : Entry) → position ≡ n + place → slice_get entries place ≡ Some entry
    → id_of entry ≡ Some id → StandsAt (identities_from n entries) id position
has_from n place [] id position entry is got has = absurd (other got)
  where
    other : None ≡ Some entry → ⊥
    other e = cc
has_from n zero (e ∷ es) id position entry is got has =
    head_has n e (identities_from (n + 1) es) id position (omega arith) (ap id_of (same got) ∙ has)
  where
    same : Some e ≡ Some entry → e ≡ entry
    same e = cc
has_from n (suc place) (e ∷ es) id position entry is got has =
    behind n e (identities_from (n + 1) es) id position (has_from (n + 1) place es id position entry (omega arith) got has)

pub of_stands : (entries : List Entry) (id : CommitId) (position : ℕ) → StandsAt (identities_of entries) id position ↔ HasId entries position id
of_stands entries id position = (λ at. there (stands_from 1 entries id position at), λ has. here has.0 has.1.0 has.1.1 has.1.2)
  where
    there : At 1 entries id position → HasId entries position id
    there at =
        let is : position ≡ 1 + at.place = at.is in
        let place : at.place ≡ position - 1 = omega arith in
        (omega arith, (at.entry, subst (λ (p : ℕ). slice_get entries p ≡ Some at.entry) place at.got, at.has))

    here : 1 ≤ position → (entry : Entry) → slice_get entries (position - 1) ≡ Some entry → id_of entry ≡ Some id → StandsAt (identities_of entries) id position
    here some entry got has = has_from 1 (position - 1) entries id position entry (omega arith) got has

-- each stands at one position
rising_from : (n : ℕ) (entries : List Entry) → AreRising (identities_from n entries)
rising_from n [] = tt
rising_from n (Setup generation schema records ∷ es) = rising_from (n + 1) es
rising_from n (Commit generation id begin level changes records ∷ es) = (above_from (n + 1) es n (omega arith), rising_from (n + 1) es)

one_place : (known : List Known) (id : CommitId) (one other : ℕ) → AreApart known → StandsAt known id one → StandsAt known id other → one ≡ other
one_place [] id one other apart at also = absurd at
one_place (k ∷ known) id one other apart (inl at) (inl also) = sym at.1 ∙ also.1
one_place (k ∷ known) id one other apart (inl at) (inr also) =
    absurd (nowhere known id other (subst (λ (i : CommitId). IsAbsent known i) at.0 apart.0) also)
one_place (k ∷ known) id one other apart (inr at) (inl also) =
    absurd (nowhere known id one (subst (λ (i : CommitId). IsAbsent known i) also.0 apart.0) at)
one_place (k ∷ known) id one other apart (inr at) (inr also) = one_place known id one other apart.1 at also

absent_above : (known : List Known) (id : CommitId) (position : ℕ) → AreAbove known position → ((other : ℕ) → StandsAt known id other → position ≡ other)
    → IsAbsent known id
absent_above [] id position above one = tt
absent_above (k ∷ known) id position above one =
    (λ same. here (one k.position (inl (same, refl))) above.0, absent_above known id position above.1 (λ other at. one other (inr at)))
  where
    here : position ≡ k.position → position < k.position → ⊥
    here e h = omega arith

apart_where : (known : List Known) → AreRising known → ((id : CommitId) (one other : ℕ) → StandsAt known id one → StandsAt known id other → one ≡ other)
    → AreApart known
apart_where [] rising one = tt
apart_where (k ∷ known) rising one = (
  absent_above known k.id k.position rising.0 (λ other at. one k.id k.position other (inl (refl, refl)) (inr at)),
  apart_where known rising.1 (λ id place other at also. one id place other (inr at) (inr also)),
)

pub of_apart : (entries : List Entry)
    → AreApart (identities_of entries) ↔ ((id : CommitId) (one other : ℕ) → HasId entries one id → HasId entries other id → one ≡ other)
of_apart entries = (
  λ apart. λ id one other has also.
      one_place (identities_of entries) id one other apart ((of_stands entries id one).1 has) ((of_stands entries id other).1 also),
  λ each. apart_where (identities_of entries) (rising_from 1 entries)
      (λ id one other at also. each id one other ((of_stands entries id one).0 at) ((of_stands entries id other).0 also)),
)

-- The identities of a log, as far as they are put into a table.
use Rattle.std.proofs.Common.{◌≡◌, ◌↔◌, ◌+◌, ◌<◌, ℕ, true, false, List, [], ◌∷◌, ◌++◌, length, Some, None, Option, refl, sym, ap, ◌∙◌, subst, arith}
use Rattle.std.proofs.lemmas.Bool.{false≢true}
use Rattle.std.specs.Option.{is_some, IsNone}
use Rattle.std.proofs.lemmas.List.{append_assoc, append-nil}
use Rattle.std.specs.List.{AllByRecursion}
use Rattle.blkseq_table.proofs.LookupLemmas.{nowhere}
use Rattle.blkseq_table.specs.Known.{Known, known_at, AreApart, AreBelow, IsAbsent, StandsAt}
use Rattle.blkseq_table.specs.OfLogs.{identities_from, identities_of, known_of}
use Rattle.phys_log.specs.declared.entries.CommitId.{CommitId}
use Rattle.phys_log.specs.declared.entries.Entry.{Entry}
use Rattle.phys_log.specs.declared.entries.Entry.TheVariants.{Setup, Commit}
use Rattle.node_commits.specs.Indexes.{IsPut}

-- these are put, and are apart; with those of the entries that are left they are all
pub record Indexing (all known : List Known) (position : ℕ) (rest : List Entry) (total : ℕ) : Type 0 where
  pub whole : known ++ identities_from position rest ≡ all
  pub apart : AreApart known
  pub below : AreBelow known position
  pub count : position + length rest ≡ total + 1

pub indexing_none : (entries : List Entry) → Indexing (identities_of entries) [] 1 entries (length entries)
indexing_none entries = record { whole = refl; apart = tt; below = tt; count = omega arith }

-- of lists put together
all_both : (P : Known → Type 0) (front back : List Known) → AllByRecursion P front → AllByRecursion P back → AllByRecursion P (front ++ back)
all_both P [] back h k = k
all_both P (x ∷ front) back h k = (h.0, all_both P front back h.1 k)

all_back : (P : Known → Type 0) (front back : List Known) → AllByRecursion P (front ++ back) → AllByRecursion P back
all_back P [] back h = h
all_back P (x ∷ front) back h = all_back P front back h.1

apart_more : (known : List Known) (k : Known) → AreApart known → IsAbsent known k.id → AreApart (known ++ k ∷ [])
apart_more [] k apart absent = (tt, tt)
apart_more (first ∷ known) k apart absent =
    (all_both (λ other. other.id ≡ first.id → ⊥) known (k ∷ []) apart.0 (λ same. absent.0 (sym same), tt), apart_more known k apart.1 absent.1)

absent_ahead : (known back : List Known) (k : Known) → AreApart (known ++ k ∷ back) → IsAbsent known k.id
absent_ahead [] back k apart = tt
absent_ahead (first ∷ known) back k apart =
    (λ same. (all_back (λ other. other.id ≡ first.id → ⊥) known (k ∷ back) apart.0).0 (sym same), absent_ahead known back k apart.1)

below_later : (known : List Known) (position : ℕ) → AreBelow known position → AreBelow known (position + 1)
below_later [] position below = tt
below_later (k ∷ known) position below = (let h = below.0 in omega (arith, h), below_later known position below.1)

below_one : (e : Entry) (position : ℕ) → AreBelow (known_of position e) (position + 1)
below_one (Setup generation schema records) position = tt
below_one (Commit generation id begin level changes records) position = (omega arith, tt)

-- one entry more
next_whole : (all known : List Known) (e : Entry) (position : ℕ) (rest others : List Entry) → rest ≡ e ∷ others
    → known ++ identities_from position rest ≡ all → known ++ (known_of position e ++ identities_from (position + 1) others) ≡ all
next_whole all known e position rest others cut whole = ap (λ (es : List Entry). known ++ identities_from position es) (sym cut) ∙ whole

put_apart : (known new : List Known) (e : Entry) (position : ℕ) → AreApart known → IsPut known (known_of position e) new true → AreApart new
put_apart known new (Setup generation schema records) position apart put = subst (λ (l : List Known). AreApart l) (sym (put.1 ∙ append-nil known)) apart
put_apart known new (Commit generation id begin level changes records) position apart put =
    subst (λ (l : List Known). AreApart l) (sym put.1) (apart_more known (known_at id position) apart put.0.0)

put_is : (known new : List Known) (e : Entry) (position : ℕ) → IsPut known (known_of position e) new true → new ≡ known ++ known_of position e
put_is known new e position put = put.1

pub indexing_more : (all known new : List Known) (e : Entry) (position : ℕ) (rest others : List Entry) (total : ℕ) → rest ≡ e ∷ others
    → IsPut known (known_of position e) new true → Indexing all known position rest total → Indexing all new (position + 1) others total
indexing_more all known new e position rest others total cut put x = record {
  whole = ap (λ (l : List Known). l ++ identities_from (position + 1) others) (put_is known new e position put)
      ∙ (append_assoc known (known_of position e) (identities_from (position + 1) others) ∙ next_whole all known e position rest others cut x.whole);
  apart = put_apart known new e position x.apart put;
  below = subst (λ (l : List Known). AreBelow l (position + 1)) (sym (put_is known new e position put))
      (all_both (λ k. k.position < position + 1) known (known_of position e) (below_later known position x.below) (below_one e position));
  count = counted;
}
  where
    counted : position + 1 + length others ≡ total + 1
    counted = let was : position + length rest ≡ total + 1 = x.count in let cut_len : length rest ≡ length (e ∷ others) = ap length cut in omega arith

-- what was not put comes twice
twice_in : (known new back : List Known) (e : Entry) (position : ℕ) → IsPut known (known_of position e) new false → AreApart (known ++ (known_of position e ++ back)) → ⊥
twice_in known new back (Setup generation schema records) position put apart = put tt
twice_in known new back (Commit generation id begin level changes records) position put apart = put (absent_ahead known back (known_at id position) apart, tt)

pub comes_twice : (all known new : List Known) (e : Entry) (position : ℕ) (rest others : List Entry) (total : ℕ) → rest ≡ e ∷ others
    → IsPut known (known_of position e) new false → Indexing all known position rest total → AreApart all → ⊥
comes_twice all known new e position rest others total cut put x apart =
    twice_in known new (identities_from (position + 1) others) e position put
    (subst (λ (l : List Known). AreApart l) (sym (next_whole all known e position rest others cut x.whole)) apart)

-- what is looked up stands there, or nowhere
pub is_among : (known : List Known) (id : CommitId) (found : Option ℕ) → is_some found ≡ true → ((position : ℕ) → (found ≡ Some position) ↔ StandsAt known id position)
    → IsAbsent known id → ⊥
is_among known id None e stands absent = false≢true e
is_among known id (Some position) e stands absent = nowhere known id position absent ((stands position).0 refl)

pub is_absent : (known : List Known) (id : CommitId) (found : Option ℕ) → is_some found ≡ false → (IsNone found ↔ IsAbsent known id) → IsAbsent known id
is_absent known id None e none = none.0 refl
is_absent known id (Some position) e none = absurd (false≢true (sym e))

-- Tables that grow, and tables whose last identities are let go.
use Rattle.std.proofs.Common.{◌≡◌, ◌+◌, ◌<◌, ◌≤◌, ℕ, zero, suc, Bool, true, false, cond, List, [], ◌∷◌, ◌++◌, length, take, nat_le, if◌then◌else◌, Result, Ok, Err, refl, sym, ap, ◌∙◌, subst, arith}
use Rattle.std.specs.List.{AllByRecursion, IsDistinct}
use Rattle.std.specs.Result.{OnOk, OnErr}
use Rattle.std.proofs.lemmas.List.{map-append, append_assoc, append-nil}
use Rattle.phys_log.specs.declared.entries.CommitId.{CommitId}
use Rattle.phys_log.specs.declared.entries.Entry.{Entry}
use Rattle.phys_log.specs.declared.entries.Entry.TheVariants.{Setup, Commit}
use Rattle.blkseq_table.specs.declared.keys.NumberedId.{NumberedId}
use Rattle.blkseq_table.specs.Known.{Known, known_at, up_to, IsAbsent, AreApart, AreBelow, AreRising}
use Rattle.blkseq_table.specs.OfLogs.{known_of, identities_from}
use Rattle.blkseq_table.specs.Kept.{Names, is_same_name, IsNumber, KeepsNumbers, id_by, IsKeyOf, known_by, knowns_by, IsTable, IsKept}
use Rattle.indexmap.specs.IndexMap.{insert_entry}
use Rattle.blkseq_table.proofs.KeyLemmas.{is_same_key, key_stands, knowns_keep, numbered_keep}
use Rattle.blkseq_table.proofs.LogLemmas.{kept_one, dropped_one}

-- what holds of all, of those before, and of those behind
all_both : {A : Type 0} (P : A → Type 0) (front back : List A) → AllByRecursion P front → AllByRecursion P back → AllByRecursion P (front ++ back)
all_both P [] back h k = k
all_both P (x ∷ front) back h k = (h.0, all_both P front back h.1 k)

all_front : {A : Type 0} (P : A → Type 0) (front back : List A) → AllByRecursion P (front ++ back) → AllByRecursion P front
all_front P [] back h = tt
all_front P (x ∷ front) back h = (h.0, all_front P front back h.1)

all_back : {A : Type 0} (P : A → Type 0) (front back : List A) → AllByRecursion P (front ++ back) → AllByRecursion P back
all_back P [] back h = h
all_back P (x ∷ front) back h = all_back P front back h.1

-- one more behind
apart_more : (known : List Known) (k : Known) → AreApart known → IsAbsent known k.id → AreApart (known ++ k ∷ [])
apart_more [] k apart absent = (tt, tt)
apart_more (first ∷ known) k apart absent =
    (all_both (λ other. other.id ≡ first.id → ⊥) known (k ∷ []) apart.0 (λ same. absent.0 (sym same), tt), apart_more known k apart.1 absent.1)

rising_more : (known : List Known) (k : Known) → AreRising known → AreBelow known k.position → AreRising (known ++ k ∷ [])
rising_more [] k rising below = (tt, tt)
rising_more (first ∷ known) k rising below =
    (all_both (λ other. first.position < other.position) known (k ∷ []) rising.0 (below.0, tt), rising_more known k rising.1 below.1)

pub table_more : (known : List Known) (k : Known) → IsTable known → IsAbsent known k.id → AreBelow known k.position → IsTable (known ++ k ∷ [])
table_more known k table absent below = record {
  apart = apart_more known k table.apart absent;
  rising = rising_more known k table.rising below;
}

knowns_more : (names : Names) (es : List (NumberedId × ℕ)) (key : NumberedId) (id : CommitId) (position : ℕ) → id_by names key ≡ id
    → knowns_by names (es ++ (key, position) ∷ []) ≡ knowns_by names es ++ known_at id position ∷ []
knowns_more names es key id position is =
    map-append (known_by names) es ((key, position) ∷ []) ∙ ap (λ (i : CommitId). knowns_by names es ++ known_at i position ∷ []) is

-- those at or below a position
all_kept : (P : Known → Type 0) (known : List Known) (position : ℕ) → AllByRecursion P known → AllByRecursion P (up_to position known)
all_kept P [] position h = tt
all_kept P (k ∷ known) position h = go (nat_le k.position position) refl (all_kept P known position h.1)
  where
    go : (b : Bool) → nat_le k.position position ≡ b → AllByRecursion P (up_to position known) → AllByRecursion P (up_to position (k ∷ known))
    go true is rest =
        subst (λ (l : List Known). AllByRecursion P l) (sym (ap (λ (b : Bool). cond b (k ∷ up_to position known) (up_to position known)) is)) (h.0, rest)
    go false is rest =
        subst (λ (l : List Known). AllByRecursion P l) (sym (ap (λ (b : Bool). cond b (k ∷ up_to position known) (up_to position known)) is)) rest

table_kept : (known : List Known) (position : ℕ) → AreApart known → AreRising known → AreApart (up_to position known) × AreRising (up_to position known)
table_kept [] position apart rising = (tt, tt)
table_kept (k ∷ known) position apart rising = go (nat_le k.position position) refl (table_kept known position apart.1 rising.1)
  where
    Both : List Known → Type 0
    Both l = AreApart l × AreRising l

    go : (b : Bool) → nat_le k.position position ≡ b → AreApart (up_to position known) × AreRising (up_to position known)
        → AreApart (up_to position (k ∷ known)) × AreRising (up_to position (k ∷ known))
    go true is rest =
        subst (λ (l : List Known). AreApart l × AreRising l) (sym (ap (λ (b : Bool). cond b (k ∷ up_to position known) (up_to position known)) is))
        ((all_kept (λ other. other.id ≡ k.id → ⊥) known position apart.0, rest.0), (all_kept (λ other. k.position < other.position) known position rising.0, rest.1))
    go false is rest =
        subst (λ (l : List Known). AreApart l × AreRising l) (sym (ap (λ (b : Bool). cond b (k ∷ up_to position known) (up_to position known)) is)) rest

pub table_up_to : (known : List Known) (position : ℕ) → IsTable known → IsTable (up_to position known)
table_up_to known position table = let both : AreApart (up_to position known) × AreRising (up_to position known) = table_kept known position table.apart table.rising in
    record { apart = both.0; rising = both.1 }

-- the last one stands at or below it
up_to_more : (front : List Known) (k : Known) (position : ℕ) → position < k.position → up_to position (front ++ k ∷ []) ≡ up_to position front
up_to_more [] k position more = dropped_one k [] position more
up_to_more (first ∷ front) k position more =
    ap (λ (l : List Known). cond (nat_le first.position position) (first ∷ l) l) (up_to_more front k position more)

all_up_to : (front : List Known) (k : Known) (position : ℕ) → AreRising (front ++ k ∷ []) → k.position ≤ position → up_to position (front ++ k ∷ []) ≡ front ++ k ∷ []
all_up_to [] k position rising less = kept_one k [] position less
all_up_to (first ∷ front) k position rising less =
    kept_one first (front ++ k ∷ []) position (below (all_back (λ other. first.position < other.position) front (k ∷ []) rising.0).0)
    ∙ ap (λ (l : List Known). first ∷ l) (all_up_to front k position rising.1 less)
  where
    below : first.position < k.position → first.position ≤ position
    below h = omega arith

rising_front : (front back : List Known) → AreRising (front ++ back) → AreRising front
rising_front [] back rising = tt
rising_front (k ∷ front) back rising = (all_front (λ other. k.position < other.position) front back rising.0, rising_front front back rising.1)

-- the first entries of a map, behind which all are let go
pub record Tail (all : List Known) (rest : List (NumberedId × ℕ)) (position : ℕ) : Type 0 where
  pub names : Names
  pub tail : List Known
  pub whole : all ≡ knowns_by names rest ++ tail
  pub same : up_to position all ≡ up_to position (knowns_by names rest)
  pub rising : AreRising (knowns_by names rest)

pub tail_none : (names : Names) (all : List Known) (entries : List (NumberedId × ℕ)) (position : ℕ) → all ≡ knowns_by names entries → IsKept names entries
    → Tail all entries position
tail_none names all entries position are kept = record {
  names = names;
  tail = [];
  whole = are ∙ sym (append-nil (knowns_by names entries));
  same = ap (λ (l : List Known). up_to position l) are;
  rising = kept.table.rising;
}

pub tail_more : (all : List Known) (rest before : List (NumberedId × ℕ)) (e : NumberedId × ℕ) (position : ℕ) → rest ≡ before ++ e ∷ [] → position < e.1
    → Tail all rest position → Tail all before position
tail_more all rest before e position cut more t = record {
  names = t.names;
  tail = known_by t.names e ∷ t.tail;
  whole = t.whole ∙ ap (λ (l : List Known). l ++ t.tail) is ∙ append_assoc (knowns_by t.names before) (known_by t.names e ∷ []) t.tail;
  same = t.same ∙ ap (λ (l : List Known). up_to position l) is ∙ up_to_more (knowns_by t.names before) (known_by t.names e) position more;
  rising = rising_front (knowns_by t.names before) (known_by t.names e ∷ []) (subst (λ (l : List Known). AreRising l) is t.rising);
}
  where
    is : knowns_by t.names rest ≡ knowns_by t.names before ++ known_by t.names e ∷ []
    is = ap (knowns_by t.names) cut ∙ map-append (known_by t.names) before (e ∷ [])

take_front : (names : Names) (front : List (NumberedId × ℕ)) (back : List Known) → take (length front) (knowns_by names front ++ back) ≡ knowns_by names front
take_front names [] back = refl
take_front names (e ∷ front) back = ap (λ (l : List Known). known_by names e ∷ l) (take_front names front back)

pub tail_end : (all : List Known) (rest before : List (NumberedId × ℕ)) (e : NumberedId × ℕ) (position count : ℕ) → rest ≡ before ++ e ∷ [] → e.1 ≤ position
    → count ≡ length rest → Tail all rest position → take count all ≡ up_to position all
tail_end all rest before e position count cut less is t =
    ap (λ (n : ℕ). take n all) is ∙ ap (λ (l : List Known). take (length rest) l) t.whole ∙ take_front t.names rest t.tail ∙ same
    ∙ sym (all_up_to (knowns_by t.names before) (known_by t.names e) position (subst (λ (l : List Known). AreRising l) same t.rising) less)
    ∙ ap (λ (l : List Known). up_to position l) (sym same) ∙ sym t.same
  where
    same : knowns_by t.names rest ≡ knowns_by t.names before ++ known_by t.names e ∷ []
    same = ap (knowns_by t.names) cut ∙ map-append (known_by t.names) before (e ∷ [])

pub tail_all : (all : List Known) (rest : List (NumberedId × ℕ)) (position : ℕ) → rest ≡ [] → Tail all rest position → take 0 all ≡ up_to position all
tail_all all rest position none t = ap (λ (l : List (NumberedId × ℕ)). up_to position (knowns_by t.names l)) (sym none) ∙ sym t.same

-- the identities of a log, as far as they are put
absent_ahead : (known back : List Known) (k : Known) → AreApart (known ++ k ∷ back) → IsAbsent known k.id
absent_ahead [] back k apart = tt
absent_ahead (first ∷ known) back k apart =
    (λ same. (all_back (λ other. other.id ≡ first.id → ⊥) known (k ∷ back) apart.0).0 (sym same), absent_ahead known back k apart.1)

pub absent_last : (known : List Known) (id : CommitId) (position : ℕ) → AreApart (known ++ known_at id position ∷ []) → IsAbsent known id
absent_last known id position apart = absent_ahead known [] (known_at id position) apart

apart_front : (front back : List Known) → AreApart (front ++ back) → AreApart front
apart_front [] back apart = tt
apart_front (k ∷ front) back apart = (all_front (λ other. other.id ≡ k.id → ⊥) front back apart.0, apart_front front back apart.1)

pub record Put (all : List Known) (known : List Known) (position : ℕ) (rest : List Entry) (total : ℕ) : Type 0 where
  pub whole : known ++ identities_from position rest ≡ all
  pub apart : AreApart all
  pub below : AreBelow known position
  pub count : position + length rest ≡ total + 1

below_later : (known : List Known) (position : ℕ) → AreBelow known position → AreBelow known (position + 1)
below_later [] position below = tt
below_later (k ∷ known) position below = (later below.0, below_later known position below.1)
  where
    later : k.position < position → k.position < position + 1
    later h = omega arith

below_one : (e : Entry) (position : ℕ) → AreBelow (known_of position e) (position + 1)
below_one (Setup generation schema records) position = tt
below_one (Commit generation id begin level changes records) position = (omega arith, tt)

next_whole : (all known : List Known) (e : Entry) (position : ℕ) (rest others : List Entry) → rest ≡ e ∷ others
    → known ++ identities_from position rest ≡ all → (known ++ known_of position e) ++ identities_from (position + 1) others ≡ all
next_whole all known e position rest others cut whole =
    append_assoc known (known_of position e) (identities_from (position + 1) others)
    ∙ ap (λ (es : List Entry). known ++ identities_from position es) (sym cut) ∙ whole

pub put_apart : (all known : List Known) (e : Entry) (position : ℕ) (rest others : List Entry) (total : ℕ) → rest ≡ e ∷ others
    → Put all known position rest total → AreApart (known ++ known_of position e)
put_apart all known e position rest others total cut p =
    apart_front (known ++ known_of position e) (identities_from (position + 1) others)
    (subst (λ (l : List Known). AreApart l) (sym (next_whole all known e position rest others cut p.whole)) p.apart)

pub put_more : (all known new : List Known) (e : Entry) (position : ℕ) (rest others : List Entry) (total : ℕ) → rest ≡ e ∷ others
    → new ≡ known ++ known_of position e → Put all known position rest total → Put all new (position + 1) others total
put_more all known new e position rest others total cut is p = record {
  whole = ap (λ (l : List Known). l ++ identities_from (position + 1) others) is ∙ next_whole all known e position rest others cut p.whole;
  apart = p.apart;
  below = subst (λ (l : List Known). AreBelow l (position + 1)) (sym is)
      (all_both (λ k. k.position < position + 1) known (known_of position e) (below_later known position p.below) (below_one e position));
  count = counted;
}
  where
    counted : position + 1 + length others ≡ total + 1
    counted = let was : position + length rest ≡ total + 1 = p.count in let cut_len : length rest ≡ length (e ∷ others) = ap length cut in omega arith

pub put_none : (entries : List Entry) → AreApart (identities_from 1 entries) → Put (identities_from 1 entries) [] 1 entries (length entries)
put_none entries apart = record { whole = refl; apart = apart; below = tt; count = omega arith }

pub put_all : (all known : List Known) (position : ℕ) (rest : List Entry) (total : ℕ) → rest ≡ [] → Put all known position rest total → known ≡ all
put_all all known position rest total none p =
    sym (append-nil known) ∙ ap (λ (es : List Entry). known ++ identities_from position es) (sym none) ∙ p.whole

-- an entry is put into a map
put_last : (names : Names) (es : List (NumberedId × ℕ)) (key : NumberedId) (id : CommitId) (position : ℕ) → IsKeyOf names key id → IsAbsent (knowns_by names es) id
    → insert_entry is_same_key es key position ≡ es ++ (key, position) ∷ []
put_last names [] key id position of absent = refl
put_last names (e ∷ es) key id position of absent = go (is_same_key key e.0) refl (put_last names es key id position of absent.1)
  where
    go : (b : Bool) → is_same_key key e.0 ≡ b → insert_entry is_same_key es key position ≡ es ++ (key, position) ∷ []
        → insert_entry is_same_key (e ∷ es) key position ≡ e ∷ (es ++ (key, position) ∷ [])
    go true is rest = absurd (absent.0 (key_stands names key id e.0 of is))
    go false is rest =
        ap (λ (b : Bool). if b then (e.0, position) ∷ es else e ∷ insert_entry is_same_key es key position) is
        ∙ ap (λ (l : List (NumberedId × ℕ)). e ∷ l) rest

pub on_err : {A E : Type 0} {P : Type 0} (result : Result A E) → P → OnErr result P
on_err (Ok x) h = tt
on_err (Err x) h = h

-- while the sessions grow
pub record Grows (old : Names) (names : Names) (es : List (NumberedId × ℕ)) : Type 0 where
  pub same : knowns_by names es ≡ knowns_by old es
  pub kept : IsKept names es

pub grows : (old new : Names) (es : List (NumberedId × ℕ)) → IsKept old es → KeepsNumbers old new → IsDistinct is_same_name new → Grows old new es
grows old new es kept keeps distinct = record {
  same = same;
  kept = record {
    table = subst (λ (l : List Known). IsTable l) (sym same) kept.table;
    distinct = distinct;
    numbered = numbered_keep old new es keeps kept.numbered;
  };
}
  where
    same : knowns_by new es ≡ knowns_by old es
    same = knowns_keep old new es keeps kept.numbered

pub put_is : (old names : Names) (es new : List (NumberedId × ℕ)) (key : NumberedId) (id : CommitId) (position : ℕ) → Grows old names es → IsKeyOf names key id
    → IsAbsent (knowns_by old es) id → new ≡ insert_entry is_same_key es key position
    → knowns_by names new ≡ knowns_by old es ++ known_at id position ∷ []
put_is old names es new key id position g of absent is =
    ap (knowns_by names) (is ∙ put_last names es key id position of (subst (λ (l : List Known). IsAbsent l id) (sym g.same) absent))
    ∙ knowns_more names es key id position of.1 ∙ ap (λ (l : List Known). l ++ known_at id position ∷ []) g.same

put_kept : (old names : Names) (es new : List (NumberedId × ℕ)) (key : NumberedId) (id : CommitId) (position : ℕ) → Grows old names es → IsKeyOf names key id
    → IsTable (knowns_by old es) → IsAbsent (knowns_by old es) id → AreBelow (knowns_by old es) position → new ≡ insert_entry is_same_key es key position → IsKept names new
put_kept old names es new key id position g of table absent below is = record {
  table =
      subst (λ (l : List Known). IsTable l) (sym (put_is old names es new key id position g of absent is))
      (table_more (knowns_by old es) (known_at id position) table absent below);
  distinct = g.kept.distinct;
  numbered = subst (λ (l : List (NumberedId × ℕ)). AllByRecursion (λ (e : NumberedId × ℕ). IsNumber names e.0.session) l)
      (sym (is ∙ put_last names es key id position of (subst (λ (l : List Known). IsAbsent l id) (sym g.same) absent)))
      (all_both (λ (e : NumberedId × ℕ). IsNumber names e.0.session) es ((key, position) ∷ []) g.kept.numbered (of.0, tt));
}

pub put_table : {A E : Type 0} (old names : Names) (es new : List (NumberedId × ℕ)) (key : NumberedId) (id : CommitId) (position : ℕ) (result : Result A E)
    → Grows old names es → IsKeyOf names key id → IsTable (knowns_by old es) → IsAbsent (knowns_by old es) id → AreBelow (knowns_by old es) position
    → OnOk result (new ≡ insert_entry is_same_key es key position) → OnErr result (new ≡ es) → IsKept names new
put_table old names es new key id position (Ok x) g of table absent below ok err = put_kept old names es new key id position g of table absent below ok
put_table old names es new key id position (Err x) g of table absent below ok err = subst (λ (l : List (NumberedId × ℕ)). IsKept names l) (sym err) g.kept

pub none_left : (rest : List (NumberedId × ℕ)) → (0 < length rest → ⊥) → rest ≡ []
none_left [] h = refl
none_left (e ∷ rest) h = absurd (h (omega arith))

-- the last entries of a map are let go
pub knowns_cut : (names : Names) (es : List (NumberedId × ℕ)) (count : ℕ) → knowns_by names (take count es) ≡ take count (knowns_by names es)
knowns_cut names [] zero = refl
knowns_cut names [] (suc count) = refl
knowns_cut names (e ∷ es) zero = refl
knowns_cut names (e ∷ es) (suc count) = ap (λ (l : List Known). known_by names e ∷ l) (knowns_cut names es count)

all_cut : (P : NumberedId × ℕ → Type 0) (es : List (NumberedId × ℕ)) (count : ℕ) → AllByRecursion P es → AllByRecursion P (take count es)
all_cut P [] zero all = tt
all_cut P [] (suc count) all = tt
all_cut P (e ∷ es) zero all = tt
all_cut P (e ∷ es) (suc count) all = (all.0, all_cut P es count all.1)

pub table_cut : (names : Names) (old new : List (NumberedId × ℕ)) (known : List Known) (count position : ℕ) → known ≡ knowns_by names old → new ≡ take count old
    → take count known ≡ up_to position known → IsKept names old → IsKept names new
table_cut names old new known count position are cut is kept = record {
  table = subst (λ (l : List Known). IsTable l) (sym same) (table_up_to (knowns_by names old) position kept.table);
  distinct = kept.distinct;
  numbered = subst (λ (l : List (NumberedId × ℕ)). AllByRecursion (λ (e : NumberedId × ℕ). IsNumber names e.0.session) l) (sym cut)
      (all_cut (λ (e : NumberedId × ℕ). IsNumber names e.0.session) old count kept.numbered);
}
  where
    same : knowns_by names new ≡ up_to position (knowns_by names old)
    same = ap (knowns_by names) cut ∙ knowns_cut names old count ∙ subst (λ (l : List Known). take count l ≡ up_to position l) are is

pub cut_is : (names : Names) (old new : List (NumberedId × ℕ)) (known : List Known) (count position : ℕ) → known ≡ knowns_by names old → new ≡ take count old
    → take count known ≡ up_to position known → knowns_by names new ≡ up_to position known
cut_is names old new known count position are cut is =
    ap (knowns_by names) cut ∙ knowns_cut names old count ∙ ap (λ (l : List Known). take count l) (sym are) ∙ is

-- Identities that are put behind others, and identities that are apart.
use Rattle.std.proofs.Common.{◌≡◌, ◌⊎◌, ◌==◌, ◌&&◌, Bool, true, false, not, if◌then◌else◌, inl, inr, List, [], ◌∷◌, ◌++◌, nat_eq, refl, sym, ap, ◌∙◌, subst}
use Rattle.std.specs.Bool.{Decides}
use Rattle.std.specs.List.{list_any}
use Rattle.std.specs.Cmp.Lexicographic.{pointwise}
use Rattle.std.proofs.lemmas.Bool.{false≢true}
use Rattle.std.proofs.lemmas.Bool.Decides.{Decides-and, Decides-like, Decides-or, Decides-eqb}
use Rattle.std.proofs.lemmas.List.{map-append, append_assoc, append-nil}
use Rattle.std.proofs.lemmas.Slice.Eq.{bytes_eq-Decides}
use Rattle.phys_log.specs.declared.entries.CommitId.{CommitId}
use Rattle.phys_log.specs.declared.entries.Entry.{Entry}
use Rattle.phys_log.specs.declared.entries.Entry.TheVariants.{Setup, Commit}
use Rattle.table_store.specs.Listings.{IsAmong}
use Rattle.table_store.proofs.AmongLaws.{among_either}
use Rattle.sound_log.specs.declared.identities.IdKey.{IdKey}
use Rattle.sound_log.specs.Identities.{ids_of, ids_in, AreApart, id_by, ids_by, IsPut}

-- whether two keys are those of one identity
abbrev pub is_same : IdKey → IdKey → Bool
is_same a b = (a.began == b.began) && (pointwise nat_eq a.session.now b.session.now && (a.txn == b.txn))

-- the parts of an identity tell it
parts : (a b : CommitId) → (a.began ≡ b.began) × ((a.session ≡ b.session) × (a.txn ≡ b.txn)) → a ≡ b
parts a b (began, (session, txn)) = λ i. record { began = began i; session = session i; txn = txn i }

same_decides : (key : IdKey) (id : CommitId) → id_by key ≡ id → (k : IdKey) → Decides (is_same key k) (id ≡ id_by k)
same_decides key id is k =
    Decides-like (is_same key k)
    (λ h. sym is ∙ parts (id_by key) (id_by k) h)
    (λ e. let all : id_by key ≡ id_by k = is ∙ e in
    (ap (λ (i : CommitId). i.began) all, (ap (λ (i : CommitId). i.session) all, ap (λ (i : CommitId). i.txn) all)))
    (Decides-and (key.began == k.began) (pointwise nat_eq key.session.now k.session.now && (key.txn == k.txn)) (Decides-eqb key.began k.began)
    (Decides-and (pointwise nat_eq key.session.now k.session.now) (key.txn == k.txn) (bytes_eq-Decides key.session.now k.session.now) (Decides-eqb key.txn k.txn)))

any_decides : (key : IdKey) (id : CommitId) → id_by key ≡ id → (keys : List IdKey) → Decides (list_any (is_same key) keys) (IsAmong id (ids_by keys))
any_decides key id is [] = (λ e. false≢true e, λ h. absurd h)
any_decides key id is (k ∷ keys) =
    Decides-or (is_same key k) (list_any (is_same key) keys) (same_decides key id is k) (any_decides key id is keys)

-- an identity is put behind others
pub put : (old new : List IdKey) (key : IdKey) (id : CommitId) (added : Bool) → id_by key ≡ id
    → new ≡ (if list_any (is_same key) old then old else old ++ key ∷ []) → added ≡ not (list_any (is_same key) old)
    → IsPut (ids_by old) (id ∷ []) (ids_by new) added
put old new key id added is keys was = go (list_any (is_same key) old) refl
  where
    go : (b : Bool) → list_any (is_same key) old ≡ b → IsPut (ids_by old) (id ∷ []) (ids_by new) added
    go true e =
        subst (λ (a : Bool). IsPut (ids_by old) (id ∷ []) (ids_by new) a) (sym (was ∙ ap not e))
        (id, inl refl, (any_decides key id is old).0 e)
    go false e =
        subst (λ (a : Bool). IsPut (ids_by old) (id ∷ []) (ids_by new) a) (sym (was ∙ ap not e)) (
          (λ h. false≢true (sym e ∙ (any_decides key id is old).1 h), tt),
          ap ids_by (keys ∙ ap (λ (b : Bool). if b then old else old ++ key ∷ []) e) ∙ map-append id_by old (key ∷ [])
              ∙ ap (λ (i : CommitId). ids_by old ++ i ∷ []) is,
        )

among_front : {A : Type 0} (x : A) (xs ys : List A) → IsAmong x xs → IsAmong x (xs ++ ys)
among_front x [] ys h = absurd h
among_front x (y ∷ xs) ys (inl e) = inl e
among_front x (y ∷ xs) ys (inr h) = inr (among_front x xs ys h)

among_back : {A : Type 0} (x : A) (xs ys : List A) → IsAmong x ys → IsAmong x (xs ++ ys)
among_back x [] ys h = h
among_back x (y ∷ xs) ys h = inr (among_back x xs ys h)

-- one more behind identities that are apart, which is not among them
pub apart_more : (ids : List CommitId) (id : CommitId) → AreApart ids → (IsAmong id ids → ⊥) → AreApart (ids ++ id ∷ [])
apart_more [] id h new = (λ i. i, tt)
apart_more (first ∷ ids) id h new =
    (λ i. go (among_either first ids (id ∷ []) i), apart_more ids id h.1 (λ i. new (inr i)))
  where
    go : IsAmong first ids ⊎ IsAmong first (id ∷ []) → ⊥
    go (inl i) = h.0 i
    go (inr (inl e)) = new (inl (sym e))
    go (inr (inr i)) = i

-- an identity that comes twice
twice : (front back : List CommitId) (id : CommitId) → IsAmong id front → IsAmong id back → AreApart (front ++ back) → ⊥
twice [] back id early late h = early
twice (first ∷ front) back id (inl e) late h = h.0 (among_back first front back (subst (λ (i : CommitId). IsAmong i back) e late))
twice (first ∷ front) back id (inr early) late h = twice front back id early late h.1

-- what was put is apart from what was there
pub put_apart : (old new : List CommitId) (entry : Entry) → AreApart old → IsPut old (ids_of entry) new true → AreApart new
put_apart old new (Setup generation schema records) h (none, is) = subst AreApart (sym (is ∙ append-nil old)) h
put_apart old new (Commit generation id begin level changes records) h (off, is) = subst AreApart (sym is) (apart_more old id h off.0)

-- what was put stands before what is left
pub put_whole : (old new all : List CommitId) (entry : Entry) (others rest : List Entry) → rest ≡ entry ∷ others
    → IsPut old (ids_of entry) new true → old ++ ids_in rest ≡ all → new ++ ids_in others ≡ all
put_whole old new all entry others rest cut (off, is) whole =
    ap (λ (l : List CommitId). l ++ ids_in others) is ∙ append_assoc old (ids_of entry) (ids_in others)
    ∙ ap (λ (es : List Entry). old ++ ids_in es) (sym cut) ∙ whole

-- what was not put comes twice
pub put_twice : (old new all : List CommitId) (entry : Entry) (others rest : List Entry) → rest ≡ entry ∷ others
    → IsPut old (ids_of entry) new false → old ++ ids_in rest ≡ all → AreApart all → ⊥
put_twice old new all entry others rest cut (id, late, early) whole h =
    twice old (ids_in rest) id early
    (subst (λ (es : List Entry). IsAmong id (ids_in es)) (sym cut) (among_front id (ids_of entry) (ids_in others) late))
    (subst AreApart (sym whole) h)

-- all were put
pub put_all : (known all : List CommitId) (rest : List Entry) → rest ≡ [] → AreApart known → known ++ ids_in rest ≡ all → AreApart all
put_all known all rest none h whole =
    subst AreApart (sym (append-nil known) ∙ ap (λ (es : List Entry). known ++ ids_in es) (sym none) ∙ whole) h

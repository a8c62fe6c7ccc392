-- Numbers of sessions, and keys by them.
use Rattle.std.proofs.Common.{◌≡◌, ◌==◌, ◌&&◌, ◌||◌, ◌<◌, ℕ, zero, suc, Bool, true, false, cond, List, [], ◌∷◌, ◌++◌, nat_eq, nat_lt, length, get_or, position, slice_get, Option, Some, None, Result, Ok, Err, if◌then◌else◌, refl, sym, ap, ◌∙◌, subst, arith}
use Rattle.std.specs.Prelude.{Vec}
use Rattle.std.specs.declared.alloc.Global.{Global}
use Rattle.std.specs.Bool.{Decides}
use Rattle.std.specs.List.{AllByRecursion, IsDistinct, list_any, position_or_len}
use Rattle.std.specs.Option.{option_map_or}
use Rattle.std.specs.Result.{IfOk, OnErr}
use Rattle.std.specs.Cmp.Lexicographic.{pointwise}
use Rattle.std.proofs.lemmas.Bool.{false≢true}
use Rattle.std.proofs.lemmas.Bool.Decides.{Decides-and, Decides-eqb, Decides-ltb}
use Rattle.std.proofs.lemmas.List.Sums.{passes_at_first}
use Rattle.std.proofs.lemmas.Map.Keys.{IsDistinct-head, IsDistinct-tail}
use Rattle.std.proofs.lemmas.Option.{slice_get-get_or}
use Rattle.std.proofs.lemmas.Slice.Eq.{bytes_eq-Decides}
use Rattle.phys_log.specs.declared.entries.CommitId.{CommitId}
use Rattle.blkseq_table.specs.declared.keys.NumberedId.{NumberedId}
use Rattle.blkseq_table.specs.Known.{known_at, IsAbsent}
use Rattle.blkseq_table.specs.Kept.{Names, is_same_name, name_of, IsNumber, IsNoSession, KeepsNumbers, key_by, id_by, IsKeyOf, knowns_by}

some_is : {A : Type 0} (a b : A) → Some a ≡ Some b → a ≡ b
some_is a b e = cc

none_some : {A : Type 0} (a : A) → None ≡ Some a → ⊥
none_some a e = cc

-- the name at a number
pub name_is : (names : Names) (number : ℕ) (name : Vec ℕ Global) → slice_get names number ≡ Some name → name_of names number ≡ name.items
name_is names number name at = ap (λ (o : Option (Vec ℕ Global)). option_map_or (λ (n : Vec ℕ Global). n.items) o []) at

all_at : (P : Vec ℕ Global → Type 0) (names : Names) (number : ℕ) (name : Vec ℕ Global) → AllByRecursion P names → slice_get names number ≡ Some name → P name
all_at P [] number name all at = absurd (none_some name at)
all_at P (x ∷ xs) zero name all at = subst P (some_is x name at) all.0
all_at P (x ∷ xs) (suc number) name all at = all_at P xs number name all.1 at

-- the first name that passes a test, and none that passes it
at_first : (test : Vec ℕ Global → Bool) (names : Names) → position_or_len test names < length names
    → (name : Vec ℕ Global) × (slice_get names (position_or_len test names) ≡ Some name) × (test name ≡ true)
at_first test [] h = absurd (omega arith)
at_first test (x ∷ xs) h =
    (get_or (x ∷ xs) (position_or_len test (x ∷ xs)) x, slice_get-get_or (x ∷ xs) (position_or_len test (x ∷ xs)) x h, passes_at_first test (x ∷ xs) x h)

found_at : (test : Vec ℕ Global → Bool) (names : Names) (number : ℕ) → position test names ≡ Some number
    → (name : Vec ℕ Global) × (slice_get names number ≡ Some name) × (test name ≡ true)
found_at test names number at = go (nat_lt (position_or_len test names) (length names)) refl
  where
    go : (b : Bool) → nat_lt (position_or_len test names) (length names) ≡ b
        → (name : Vec ℕ Global) × (slice_get names number ≡ Some name) × (test name ≡ true)
    go true is =
        subst (λ (n : ℕ). (name : Vec ℕ Global) × (slice_get names n ≡ Some name) × (test name ≡ true))
        (some_is (position_or_len test names) number (sym (ap (λ (b : Bool). cond b (Some (position_or_len test names)) None) is) ∙ at))
        (at_first test names ((Decides-ltb (position_or_len test names) (length names)).0 is))
    go false is = absurd (none_some number (sym (ap (λ (b : Bool). cond b (Some (position_or_len test names)) None) is) ∙ at))

none_passes : (names : Names) (bytes : List ℕ) → list_any (λ (name : Vec ℕ Global). pointwise nat_eq bytes name.items) names ≡ false → IsNoSession names bytes
none_passes [] bytes h = tt
none_passes (x ∷ xs) bytes h = go (pointwise nat_eq bytes x.items) refl (none_passes xs bytes)
  where
    go : (b : Bool) → pointwise nat_eq bytes x.items ≡ b
        → (list_any (λ (name : Vec ℕ Global). pointwise nat_eq bytes name.items) xs ≡ false → IsNoSession xs bytes) → IsNoSession (x ∷ xs) bytes
    go true is later =
        absurd (false≢true (sym h ∙ ap (λ (b : Bool). b || list_any (λ (name : Vec ℕ Global). pointwise nat_eq bytes name.items) xs) is))
    go false is later = (
      λ same. false≢true (sym is ∙ (bytes_eq-Decides bytes x.items).1 (sym same)),
      later (sym (ap (λ (b : Bool). b || list_any (λ (name : Vec ℕ Global). pointwise nat_eq bytes name.items) xs) is) ∙ h),
    )

pub no_session : (names : Names) (bytes session : List ℕ) → bytes ≡ session
    → list_any (λ (name : Vec ℕ Global). pointwise nat_eq bytes name.items) names ≡ false → IsNoSession names session
no_session names bytes session is h = subst (λ (b : List ℕ). IsNoSession names b) is (none_passes names bytes h)

-- the key by a number
key_at : (names : Names) (id : CommitId) (number : ℕ) (name : Vec ℕ Global) → slice_get names number ≡ Some name → name.items ≡ id.session
    → IsKeyOf names (key_by id number) id
key_at names id number name at is =
    ((name, at), λ i. record { began = id.began; session = (name_is names number name at ∙ is) i; txn = id.txn })

pub key_found : (names : Names) (id : CommitId) (bytes : List ℕ) (number : ℕ) → bytes ≡ id.session
    → position (λ (name : Vec ℕ Global). pointwise nat_eq bytes name.items) names ≡ Some number
    → IsKeyOf names (key_by id number) id
key_found names id bytes number is at =
    let found : (name : Vec ℕ Global) × (slice_get names number ≡ Some name) × (pointwise nat_eq bytes name.items ≡ true) =
    found_at (λ (name : Vec ℕ Global). pointwise nat_eq bytes name.items) names number at in
    key_at names id number found.0 found.1 (sym ((bytes_eq-Decides bytes found.0.items).0 found.2) ∙ is)

pub key_stored : (names : Names) (id : CommitId) (put : Vec ℕ Global) (number : ℕ) → put.items ≡ id.session
    → (name : Vec ℕ Global) × (slice_get names number ≡ Some name) × (is_same_name put name ≡ true)
    → IsKeyOf names (key_by id number) id
key_stored names id put number is stored =
    key_at names id number stored.0 stored.1 (sym ((bytes_eq-Decides put.items stored.0.items).0 stored.2) ∙ is)

-- numbers go on to stand for their names
same_numbers : (old new : Names) → new ≡ old → KeepsNumbers old new
same_numbers old new is number name at = ap (λ (names : Names). slice_get names number) is ∙ at

at_front : (old more : Names) (number : ℕ) (name : Vec ℕ Global) → slice_get old number ≡ Some name → slice_get (old ++ more) number ≡ Some name
at_front [] more number name at = absurd (none_some name at)
at_front (x ∷ xs) more zero name at = at
at_front (x ∷ xs) more (suc number) name at = at_front xs more number name at

put_keeps : (old new : Names) (put : Vec ℕ Global) → new ≡ (if list_any (is_same_name put) old then old else old ++ put ∷ []) → KeepsNumbers old new
put_keeps old new put is = go (list_any (is_same_name put) old) refl
  where
    go : (b : Bool) → list_any (is_same_name put) old ≡ b → KeepsNumbers old new
    go true e = same_numbers old new (is ∙ ap (λ (b : Bool). if b then old else old ++ put ∷ []) e)
    go false e =
        λ number name at.
        ap (λ (names : Names). slice_get names number) (is ∙ ap (λ (b : Bool). if b then old else old ++ put ∷ []) e)
        ∙ at_front old (put ∷ []) number name at

pub numbers_keep : {A E : Type 0} (old new : Names) (put : Vec ℕ Global) (result : Result A E)
    → IfOk result (λ r. new ≡ (if list_any (is_same_name put) old then old else old ++ put ∷ [])) → OnErr result (new ≡ old) → KeepsNumbers old new
numbers_keep old new put (Ok r) ok err = put_keeps old new put ok
numbers_keep old new put (Err e) ok err = same_numbers old new err

-- what entries stand for goes on, too
pub knowns_keep : (old new : Names) (es : List (NumberedId × ℕ)) → KeepsNumbers old new → AllByRecursion (λ (e : NumberedId × ℕ). IsNumber old e.0.session) es
    → knowns_by new es ≡ knowns_by old es
knowns_keep old new [] keeps numbered = refl
knowns_keep old new (e ∷ es) keeps numbered =
    λ i. known_at (record { began = e.0.began; session = same i; txn = e.0.txn }) e.1 ∷ knowns_keep old new es keeps numbered.1 i
  where
    same : name_of new e.0.session ≡ name_of old e.0.session
    same =
        name_is new e.0.session numbered.0.0 (keeps e.0.session numbered.0.0 numbered.0.1) ∙ sym (name_is old e.0.session numbered.0.0 numbered.0.1)

pub numbered_keep : (old new : Names) (es : List (NumberedId × ℕ)) → KeepsNumbers old new → AllByRecursion (λ (e : NumberedId × ℕ). IsNumber old e.0.session) es
    → AllByRecursion (λ (e : NumberedId × ℕ). IsNumber new e.0.session) es
numbered_keep old new [] keeps numbered = tt
numbered_keep old new (e ∷ es) keeps numbered =
    ((numbered.0.0, keeps e.0.session numbered.0.0 numbered.0.1), numbered_keep old new es keeps numbered.1)

-- a name has one number
one_number : (names : Names) → IsDistinct is_same_name names → (i j : ℕ) (a b : Vec ℕ Global) → slice_get names i ≡ Some a → slice_get names j ≡ Some b
    → a.items ≡ b.items → i ≡ j
one_number [] distinct i j a b first second same = absurd (none_some a first)
one_number (x ∷ xs) distinct zero zero a b first second same = refl
one_number (x ∷ xs) distinct zero (suc j) a b first second same =
    absurd (false≢true (sym (all_at (λ (y : Vec ℕ Global). is_same_name x y ≡ false) xs j b (IsDistinct-head is_same_name x xs distinct) second)
    ∙ (bytes_eq-Decides x.items b.items).1 (ap (λ (y : Vec ℕ Global). y.items) (some_is x a first) ∙ same)))
one_number (x ∷ xs) distinct (suc i) zero a b first second same =
    absurd (false≢true (sym (all_at (λ (y : Vec ℕ Global). is_same_name x y ≡ false) xs i a (IsDistinct-head is_same_name x xs distinct) first)
    ∙ (bytes_eq-Decides x.items a.items).1 (ap (λ (y : Vec ℕ Global). y.items) (some_is x b second) ∙ sym same)))
one_number (x ∷ xs) distinct (suc i) (suc j) a b first second same =
    ap suc (one_number xs (IsDistinct-tail is_same_name x xs distinct) i j a b first second same)

-- whether two keys are the same, which tells whether they stand for one identity
abbrev pub is_same_key : NumberedId → NumberedId → Bool
is_same_key a b = (a.began == b.began) && ((a.session == b.session) && (a.txn == b.txn))

keys_decide : (a b : NumberedId) → Decides (is_same_key a b) ((a.began ≡ b.began) × ((a.session ≡ b.session) × (a.txn ≡ b.txn)))
keys_decide a b =
    Decides-and (a.began == b.began) ((a.session == b.session) && (a.txn == b.txn)) (Decides-eqb a.began b.began)
    (Decides-and (a.session == b.session) (a.txn == b.txn) (Decides-eqb a.session b.session) (Decides-eqb a.txn b.txn))

pub key_stands : (names : Names) (key : NumberedId) (id : CommitId) (k : NumberedId) → IsKeyOf names key id → is_same_key key k ≡ true → id_by names k ≡ id
key_stands names key id k of is =
    let parts : (key.began ≡ k.began) × ((key.session ≡ k.session) × (key.txn ≡ k.txn)) = (keys_decide key k).0 is in
    let same : id_by names key ≡ id_by names k = λ i. record { began = parts.0 i; session = name_of names (parts.1.0 i); txn = parts.1.1 i } in
    sym same ∙ of.1

pub key_decides : (names : Names) (key : NumberedId) (id : CommitId) (k : NumberedId) → IsDistinct is_same_name names → IsKeyOf names key id → IsNumber names k.session
    → Decides (is_same_key key k) (id_by names k ≡ id)
key_decides names key id k distinct of number = (key_stands names key id k of, λ e. (keys_decide key k).1 (parts (of.1 ∙ sym e)))
  where
    parts : id_by names key ≡ id_by names k → (key.began ≡ k.began) × ((key.session ≡ k.session) × (key.txn ≡ k.txn))
    parts all = (
      ap (λ (d : CommitId). d.began) all,
      (
        one_number names distinct key.session k.session of.0.0 number.0 of.0.1 number.1
            (sym (name_is names key.session of.0.0 of.0.1) ∙ ap (λ (d : CommitId). d.session) all ∙ name_is names k.session number.0 number.1),
        ap (λ (d : CommitId). d.txn) all,
      ),
    )

-- an identity whose session has not come
pub none_stands : (names : Names) (id : CommitId) (es : List (NumberedId × ℕ)) → IsNoSession names id.session
    → AllByRecursion (λ (e : NumberedId × ℕ). IsNumber names e.0.session) es → IsAbsent (knowns_by names es) id
none_stands names id [] none numbered = tt
none_stands names id (e ∷ es) none numbered = (
  λ same. all_at (λ (name : Vec ℕ Global). name.items ≡ id.session → ⊥) names e.0.session numbered.0.0 none numbered.0.1
      (sym (name_is names e.0.session numbered.0.0 numbered.0.1) ∙ ap (λ (d : CommitId). d.session) same),
  none_stands names id es none numbered.1,
)

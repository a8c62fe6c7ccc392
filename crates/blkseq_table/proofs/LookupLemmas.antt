-- Looking an identity up.
use Rattle.std.proofs.Common.{◌≡◌, ◌↔◌, ℕ, Bool, true, false, cond, inl, inr, List, [], ◌∷◌, Option, Some, None, is_some, refl, sym, ap, ◌∙◌, subst}
use Rattle.std.specs.Bool.{Decides}
use Rattle.std.specs.List.{AllByRecursion, IsDistinct}
use Rattle.std.specs.Option.{IsNone}
use Rattle.std.specs.Map.{lookup}
use Rattle.std.proofs.lemmas.Bool.{false≢true}
use Rattle.phys_log.specs.declared.entries.CommitId.{CommitId}
use Rattle.blkseq_table.specs.declared.keys.NumberedId.{NumberedId}
use Rattle.blkseq_table.specs.Known.{Known, StandsAt, IsAbsent, AreApart}
use Rattle.blkseq_table.specs.Kept.{Names, is_same_name, IsNumber, id_by, IsKeyOf, knowns_by, IsKept}
use Rattle.blkseq_table.proofs.KeyLemmas.{is_same_key, key_decides}

-- an identity that stands nowhere
pub nowhere : (known : List Known) (id : CommitId) (position : ℕ) → IsAbsent known id → StandsAt known id position → ⊥
nowhere [] id position absent at = at
nowhere (k ∷ ks) id position absent (inl at) = absent.0 at.0
nowhere (k ∷ ks) id position absent (inr at) = nowhere ks id position absent.1 at

-- a key tells of each entry whether it is that of an identity
abbrev Tells : Names → NumberedId → CommitId → List (NumberedId × ℕ) → Type 0
Tells names key id es = AllByRecursion (λ (e : NumberedId × ℕ). Decides (is_same_key key e.0) (id_by names e.0 ≡ id)) es

tells : (names : Names) (key : NumberedId) (id : CommitId) (es : List (NumberedId × ℕ)) → IsDistinct is_same_name names → IsKeyOf names key id
    → AllByRecursion (λ (e : NumberedId × ℕ). IsNumber names e.0.session) es → Tells names key id es
tells names key id [] distinct of numbered = tt
tells names key id (e ∷ es) distinct of numbered =
    (key_decides names key id e.0 distinct of numbered.0, tells names key id es distinct of numbered.1)

-- the position that a map has
abbrev pub position_in : List (NumberedId × ℕ) → NumberedId → Option ℕ
position_in es key = lookup (is_same_key key) es

step : (key : NumberedId) (e : NumberedId × ℕ) (es : List (NumberedId × ℕ)) (b : Bool) → is_same_key key e.0 ≡ b
    → position_in (e ∷ es) key ≡ cond b (Some e.1) (position_in es key)
step key e es b is = ap (λ (c : Bool). cond c (Some e.1) (position_in es key)) is

some_is : (a b : ℕ) → Some a ≡ Some b → a ≡ b
some_is a b e = cc

stands : (names : Names) (key : NumberedId) (id : CommitId) (es : List (NumberedId × ℕ)) (position : ℕ) → Tells names key id es
    → position_in es key ≡ Some position → StandsAt (knowns_by names es) id position
stands names key id [] position told h = absurd (other h)
  where
    other : None ≡ Some position → ⊥
    other e = cc
stands names key id (e ∷ es) position told h = go (is_same_key key e.0) refl (stands names key id es position told.1)
  where
    go : (b : Bool) → is_same_key key e.0 ≡ b → (position_in es key ≡ Some position → StandsAt (knowns_by names es) id position)
        → StandsAt (knowns_by names (e ∷ es)) id position
    go true is later = inl (told.0.0 is, some_is e.1 position (sym (step key e es true is) ∙ h))
    go false is later = inr (later (sym (step key e es false is) ∙ h))

is_found : (names : Names) (key : NumberedId) (id : CommitId) (es : List (NumberedId × ℕ)) (position : ℕ) → Tells names key id es
    → AreApart (knowns_by names es) → StandsAt (knowns_by names es) id position → position_in es key ≡ Some position
is_found names key id [] position told apart at = absurd at
is_found names key id (e ∷ es) position told apart (inl at) = step key e es true (told.0.1 at.0) ∙ ap (λ (n : ℕ). Some n) at.1
is_found names key id (e ∷ es) position told apart (inr at) = go (is_same_key key e.0) refl (is_found names key id es position told.1 apart.1 at)
  where
    go : (b : Bool) → is_same_key key e.0 ≡ b → position_in es key ≡ Some position → position_in (e ∷ es) key ≡ Some position
    go true is later =
        absurd (nowhere (knowns_by names es) id position (subst (λ (i : CommitId). IsAbsent (knowns_by names es) i) (told.0.0 is) apart.0) at)
    go false is later = step key e es false is ∙ later

pub found_is : (names : Names) (key : NumberedId) (id : CommitId) (es : List (NumberedId × ℕ)) (found : Option ℕ) (position : ℕ) → found ≡ position_in es key
    → IsKept names es → IsKeyOf names key id → (found ≡ Some position) ↔ StandsAt (knowns_by names es) id position
found_is names key id es found position is kept of =
    (λ e. stands names key id es position told (sym is ∙ e), λ at. is ∙ is_found names key id es position told kept.table.apart at)
  where
    told : Tells names key id es
    told = tells names key id es kept.distinct of kept.numbered

is_absent : (names : Names) (key : NumberedId) (id : CommitId) (es : List (NumberedId × ℕ)) → Tells names key id es → is_some (position_in es key) ≡ false
    → IsAbsent (knowns_by names es) id
is_absent names key id [] told h = tt
is_absent names key id (e ∷ es) told h = go (is_same_key key e.0) refl (is_absent names key id es told.1)
  where
    go : (b : Bool) → is_same_key key e.0 ≡ b → (is_some (position_in es key) ≡ false → IsAbsent (knowns_by names es) id)
        → IsAbsent (knowns_by names (e ∷ es)) id
    go true is later = absurd (false≢true (sym h ∙ ap (λ (o : Option ℕ). is_some o) (step key e es true is)))
    go false is later =
        (λ same. false≢true (sym is ∙ told.0.1 same), later (ap (λ (o : Option ℕ). is_some o) (sym (step key e es false is)) ∙ h))

not_found : (names : Names) (key : NumberedId) (id : CommitId) (es : List (NumberedId × ℕ)) → Tells names key id es → IsAbsent (knowns_by names es) id
    → position_in es key ≡ None
not_found names key id [] told absent = refl
not_found names key id (e ∷ es) told absent = go (is_same_key key e.0) refl (not_found names key id es told.1 absent.1)
  where
    go : (b : Bool) → is_same_key key e.0 ≡ b → position_in es key ≡ None → position_in (e ∷ es) key ≡ None
    go true is later = absurd (absent.0 (told.0.0 is))
    go false is later = step key e es false is ∙ later

pub none_is : (names : Names) (key : NumberedId) (id : CommitId) (es : List (NumberedId × ℕ)) (found : Option ℕ) → found ≡ position_in es key
    → IsKept names es → IsKeyOf names key id → IsNone found ↔ IsAbsent (knowns_by names es) id
none_is names key id es found is kept of = (
  λ e. is_absent names key id es told (ap (λ (o : Option ℕ). is_some o) (sym is) ∙ e),
  λ absent. ap (λ (o : Option ℕ). is_some o) (is ∙ not_found names key id es told absent),
)
  where
    told : Tells names key id es
    told = tells names key id es kept.distinct of kept.numbered

-- the same of an identity whose session has not come
pub absent_found : (known : List Known) (id : CommitId) (found : Option ℕ) (position : ℕ) → found ≡ None → IsAbsent known id
    → (found ≡ Some position) ↔ StandsAt known id position
absent_found known id found position none absent =
    (λ e. absurd (false≢true (ap (λ (o : Option ℕ). is_some o) (sym none ∙ e))), λ at. absurd (nowhere known id position absent at))

pub absent_none : (known : List Known) (id : CommitId) (found : Option ℕ) → found ≡ None → IsAbsent known id → IsNone found ↔ IsAbsent known id
absent_none known id found none absent = (λ _. absent, λ _. ap (λ (o : Option ℕ). is_some o) none)

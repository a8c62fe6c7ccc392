-- Versions that are wanted, by rising genids, are those picked by genids that rise and have all of theirs.
use Rattle.std.proofs.Common.{◌≡◌, ◌⊎◌, inl, inr, ℕ, ◌<◌, ◌==◌, Bool, true, false, cond, List, [], ◌∷◌, ◌++◌, refl, sym, ap, ◌∙◌, subst, arith, append_assoc}
use Rattle.std.proofs.lemmas.List.{append-nil}
use Rattle.std.proofs.lemmas.Bool.{eq-eqb}
use Rattle.std.proofs.lemmas.Bool.Decides.{eqb_tells}
use Rattle.std.specs.List.{AllByRecursion, filter}
use Rattle.page_workspace.specs.Spare.{IsIn}
use Rattle.cdb_values.specs.declared.rows.Version.{Version}
use Rattle.key_code.proofs.NumberLaws.{Trichotomy, trichotomy, before as is_less, same as is_same, after as is_more}
use Rattle.table_store.specs.Listings.{IsAmong}
use Rattle.page_rows.specs.Picks.{AreRising, Ascend, of_genid, picked}
use Rattle.table_store.proofs.RisingLaws.{all_map}

apart_eqb : (a b : ℕ) → (a ≡ b → ⊥) → (a == b) ≡ false
apart_eqb a b n = go (eqb_tells a b)
  where
    go : ((a == b) ≡ true) × (a ≡ b) ⊎ ((a == b) ≡ false) × (a ≡ b → ⊥) → (a == b) ≡ false
    go (inl h) = absurd (n h.1)
    go (inr h) = h.0

-- the genids have that of each version that is wanted
abbrev pub Covers : (Version → Bool) → List ℕ → List Version → Type 0
Covers wanted genids versions = AllByRecursion (λ v. wanted v ≡ true → IsIn v.genid genids) versions

none_of : (genid : ℕ) (versions : List Version) → AllByRecursion (λ w. genid < w.genid) versions → of_genid genid versions ≡ []
none_of genid [] h = refl
none_of genid (v ∷ vs) h =
    ap (λ (b : Bool). cond b (v ∷ of_genid genid vs) (of_genid genid vs)) (apart_eqb v.genid genid (off h.0)) ∙ none_of genid vs h.1
  where
    off : genid < v.genid → v.genid ≡ genid → ⊥
    off l e = omega arith

-- a version below all genids is not picked
skip : (wanted : Version → Bool) (v : Version) (vs : List Version) (genids : List ℕ) → AllByRecursion (λ g. v.genid < g) genids
    → picked wanted (v ∷ vs) genids ≡ picked wanted vs genids
skip wanted v vs [] h = refl
skip wanted v vs (g ∷ gs) h =
    ap (λ (b : Bool). filter wanted (cond b (v ∷ of_genid g vs) (of_genid g vs)) ++ picked wanted (v ∷ vs) gs) (apart_eqb v.genid g (off h.0))
    ∙ ap (λ (l : List Version). filter wanted (of_genid g vs) ++ l) (skip wanted v vs gs h.1)
  where
    off : v.genid < g → v.genid ≡ g → ⊥
    off l e = omega arith

-- no genid is left of those that are wanted
none_wanted : (wanted : Version → Bool) (versions : List Version) → Covers wanted [] versions → filter wanted versions ≡ []
none_wanted wanted [] c = refl
none_wanted wanted (v ∷ vs) c = go (wanted v) refl ∙ none_wanted wanted vs c.1
  where
    go : (b : Bool) → wanted v ≡ b → cond (wanted v) (v ∷ filter wanted vs) (filter wanted vs) ≡ filter wanted vs
    go true e = absurd (c.0 e)
    go false e = ap (λ (b : Bool). cond b (v ∷ filter wanted vs) (filter wanted vs)) e

no_versions : (wanted : Version → Bool) (genids : List ℕ) → picked wanted [] genids ≡ []
no_versions wanted [] = refl
no_versions wanted (g ∷ gs) = no_versions wanted gs

-- genids without the first one, for versions above it
uncovered : (wanted : Version → Bool) (g : ℕ) (gs : List ℕ) (versions : List Version) → AllByRecursion (λ w. g < w.genid) versions
    → Covers wanted (g ∷ gs) versions → Covers wanted gs versions
uncovered wanted g gs [] h c = tt
uncovered wanted g gs (v ∷ vs) h c = (λ e. go h.0 (c.0 e), uncovered wanted g gs vs h.1 c.1)
  where
    off : g < v.genid → v.genid ≡ g → ⊥
    off l e = omega arith

    go : g < v.genid → (v.genid ≡ g) ⊎ IsIn v.genid gs → IsIn v.genid gs
    go l (inl e) = absurd (off l e)
    go l (inr i) = i

all_above : (a b : ℕ) (versions : List Version) → a < b → AllByRecursion (λ w. b < w.genid) versions → AllByRecursion (λ w. a < w.genid) versions
all_above a b versions l h = all_map (λ w. b < w.genid) (λ w. a < w.genid) versions (λ w k. more w k) h
  where
    more : (w : Version) → b < w.genid → a < w.genid
    more w k = omega arith

genids_above : (a b : ℕ) (genids : List ℕ) → a < b → AllByRecursion (λ g. b < g) genids → AllByRecursion (λ g. a < g) genids
genids_above a b genids l h = all_map (λ g. b < g) (λ g. a < g) genids (λ g k. more g k) h
  where
    more : (g : ℕ) → b < g → a < g
    more g k = omega arith

not_in : (x : ℕ) (ns : List ℕ) → AllByRecursion (λ n. x < n) ns → IsIn x ns → ⊥
not_in x [] h i = i
not_in x (n ∷ ns) h (inl e) = off h.0 e
  where
    off : x < n → x ≡ n → ⊥
    off l e = omega arith
not_in x (n ∷ ns) h (inr i) = not_in x ns h.1 i

-- one version or none, in front of the others
one_front : (wanted : Version → Bool) (v : Version) (vs : List Version) → filter wanted (v ∷ []) ++ filter wanted vs ≡ filter wanted (v ∷ vs)
one_front wanted v vs = go (wanted v)
  where
    go : (b : Bool) → cond b (v ∷ []) [] ++ filter wanted vs ≡ cond b (v ∷ filter wanted vs) (filter wanted vs)
    go true = refl
    go false = refl

unwanted : (wanted : Version → Bool) (v : Version) (vs : List Version) → wanted v ≡ false → filter wanted vs ≡ filter wanted (v ∷ vs)
unwanted wanted v vs e = sym (ap (λ (b : Bool). cond b (v ∷ filter wanted vs) (filter wanted vs)) e)

else_false : (b : Bool) → (b ≡ true → ⊥) → b ≡ false
else_false true h = absurd (h refl)
else_false false h = refl

step : (wanted : Version → Bool) (g : ℕ) (gs : List ℕ) (versions : List Version) → AreRising (g ∷ gs) → Ascend versions → Covers wanted (g ∷ gs) versions
    → ((others : List Version) → Ascend others → Covers wanted gs others → picked wanted others gs ≡ filter wanted others)
    → picked wanted versions (g ∷ gs) ≡ filter wanted versions
step wanted g gs [] r a c ih = no_versions wanted gs
step wanted g gs (v ∷ vs) r a c ih = go (trichotomy g v.genid) (λ c. step wanted g gs vs r a.1 c ih)
  where
    go : Trichotomy g v.genid → (Covers wanted (g ∷ gs) vs → picked wanted vs (g ∷ gs) ≡ filter wanted vs) → picked wanted (v ∷ vs) (g ∷ gs) ≡ filter wanted (v ∷ vs)
    go (is_less l) more =
        let past : AllByRecursion (λ w. g < w.genid) (v ∷ vs) = (l, all_above g v.genid vs l a.0) in
        ap (λ (l : List Version). filter wanted l ++ picked wanted (v ∷ vs) gs) (none_of g (v ∷ vs) past)
        ∙ ih (v ∷ vs) a (uncovered wanted g gs (v ∷ vs) past c)
    go (is_same e) more =
        let past : AllByRecursion (λ w. g < w.genid) vs = subst (λ (n : ℕ). AllByRecursion (λ w. n < w.genid) vs) (sym e) a.0 in
        let under : AllByRecursion (λ h. v.genid < h) gs = subst (λ (n : ℕ). AllByRecursion (λ h. n < h) gs) e r.0 in
        ap (λ (b : Bool). filter wanted (cond b (v ∷ of_genid g vs) (of_genid g vs)) ++ picked wanted (v ∷ vs) gs) (eq-eqb v.genid g (sym e))
        ∙ ap (λ (l : List Version). filter wanted (v ∷ l) ++ picked wanted (v ∷ vs) gs) (none_of g vs past)
        ∙ ap (λ (l : List Version). filter wanted (v ∷ []) ++ l) (skip wanted v vs gs under ∙ ih vs a.1 (uncovered wanted g gs vs past c.1))
        ∙ one_front wanted v vs
    go (is_more l) more =
        let under : AllByRecursion (λ h. v.genid < h) (g ∷ gs) = (l, genids_above v.genid g gs l r.0) in
        skip wanted v vs (g ∷ gs) under ∙ more c.1 ∙ unwanted wanted v vs (else_false (wanted v) (λ e. not_in v.genid (g ∷ gs) under (c.0 e)))

pub merged : (wanted : Version → Bool) (genids : List ℕ) (versions : List Version) → AreRising genids → Ascend versions → Covers wanted genids versions
    → picked wanted versions genids ≡ filter wanted versions
merged wanted [] versions r a c = sym (none_wanted wanted versions c)
merged wanted (g ∷ gs) versions r a c = step wanted g gs versions r a c (λ others b d. merged wanted gs others r.1 b d)

-- versions of a genid, by the one that has it
pub only_one : (v : Version) (versions : List Version) → Ascend versions → IsAmong v versions → of_genid v.genid versions ≡ v ∷ []
only_one v [] a i = absurd i
only_one v (w ∷ ws) a (inl e) =
    ap (λ (b : Bool). cond b (w ∷ of_genid v.genid ws) (of_genid v.genid ws)) (eq-eqb w.genid v.genid (ap (λ (u : Version). u.genid) (sym e)))
    ∙ ap (λ (l : List Version). w ∷ l) (none_of v.genid ws (subst (λ (u : Version). AllByRecursion (λ x. u.genid < x.genid) ws) (sym e) a.0))
    ∙ ap (λ (u : Version). u ∷ []) (sym e)
only_one v (w ∷ ws) a (inr i) =
    ap (λ (b : Bool). cond b (w ∷ of_genid v.genid ws) (of_genid v.genid ws)) (apart_eqb w.genid v.genid (off (above_it v ws a.0 i)))
    ∙ only_one v ws a.1 i
  where
    off : w.genid < v.genid → w.genid ≡ v.genid → ⊥
    off l e = omega arith

    above_it : (v : Version) (ws : List Version) → AllByRecursion (λ x. w.genid < x.genid) ws → IsAmong v ws → w.genid < v.genid
    above_it v [] h i = absurd i
    above_it v (x ∷ xs) h (inl e) = subst (λ (u : Version). w.genid < u.genid) (sym e) h.0
    above_it v (x ∷ xs) h (inr i) = above_it v xs h.1 i

-- versions of a genid that none has
pub not_one : (genid : ℕ) (versions : List Version) → ((v : Version) → IsAmong v versions → v.genid ≡ genid → ⊥) → of_genid genid versions ≡ []
not_one genid [] h = refl
not_one genid (v ∷ vs) h =
    ap (λ (b : Bool). cond b (v ∷ of_genid genid vs) (of_genid genid vs)) (apart_eqb v.genid genid (h v (inl refl)))
    ∙ not_one genid vs (λ w i. h w (inr i))

-- one genid more is picked
pub pick_more : (wanted : Version → Bool) (versions old new one : List Version) (rest after : List ℕ) (genid : ℕ) → rest ≡ genid ∷ after
    → new ≡ old ++ filter wanted one → one ≡ of_genid genid versions → new ++ picked wanted versions after ≡ old ++ picked wanted versions rest
pick_more wanted versions old new one rest after genid e n o =
    ap (λ (l : List Version). l ++ picked wanted versions after) (n ∙ ap (λ (l : List Version). old ++ filter wanted l) o)
    ∙ append_assoc old (filter wanted (of_genid genid versions)) (picked wanted versions after)
    ∙ ap (λ (l : List ℕ). old ++ picked wanted versions l) (sym e)

pub pick_end : (wanted : Version → Bool) (versions found all : List Version) (rest : List ℕ) → rest ≡ []
    → found ++ picked wanted versions rest ≡ all → found ≡ all
pick_end wanted versions found all rest e h = sym (append-nil found) ∙ ap (λ (l : List ℕ). found ++ picked wanted versions l) (sym e) ∙ h

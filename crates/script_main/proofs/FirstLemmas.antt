-- The first of some stores is taken out, and another put in its place.
use Rattle.std.proofs.Common.{◌≡◌, ◌≤◌, ℕ, List, [], ◌∷◌, length, sym, subst, ap, ◌∙◌, refl, arith, slice_index_or}
use Rattle.std.specs.List.{remove}
use Rattle.script_form.specs.declared.scripts.Script.{Script}
use Rattle.script_main.specs.Run.{AreCutOff}
use Rattle.script_main.specs.Runs.{IsCutOff}
use Rattle.script_main.specs.Stores.{kept_by, kept_all}

-- what is left of the stores is told by what is left of the first
pub first_cut : {A : Type 0} (synced pending : A → List ℕ) (faults writes : A → ℕ) (script : Script) (old rest new : List A) (store stored : A) →
    1 ≤ length old → store ≡ slice_index_or old 0 store → rest ≡ remove old 0 → new ≡ stored ∷ rest →
    IsCutOff script (kept_by synced pending faults writes store) (kept_by synced pending faults writes stored) →
    AreCutOff script (kept_all synced pending faults writes old) (kept_all synced pending faults writes new)
first_cut synced pending faults writes script [] rest new store stored some first others put cut = absurd (none some)
  where
    none : 1 ≤ 0 → ⊥
    none l = omega arith
first_cut {A} synced pending faults writes script (o ∷ os) rest new store stored some first others put cut =
    let is_first : store ≡ o = first in
    let behind : rest ≡ os = others in
    subst (λ (ns : List A). AreCutOff script (kept_all synced pending faults writes (o ∷ os)) (kept_all synced pending faults writes ns))
    (sym (put ∙ ap (λ (l : List A). stored ∷ l) behind))
    (subst (λ (s : A). IsCutOff script (kept_by synced pending faults writes s) (kept_by synced pending faults writes stored)) is_first cut, refl)

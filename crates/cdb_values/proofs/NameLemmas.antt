-- Questions about the names of tables, columns and keys.
use Rattle.std.proofs.Common.{◌≡◌, ◌≤◌, ◌∷◌, [], ◌||◌, ℕ, zero, suc, List, Bool, map, length, refl, ap, subst}
use Rattle.std.specs.List.{list_any, AllByRecursion}
use Rattle.std.specs.Prelude.{slice_get, Some}
use Rattle.cdb_values.specs.declared.tables.TableDef.{TableDef}

-- a question about one of the names is a question about one of those that are named
pub list_any_map : {X : Type 0} {Y : Type 0} (p : X → Bool) (h : Y → X) (ys : List Y) → list_any p (map h ys) ≡ list_any (λ y. p (h y)) ys
list_any_map p h [] = refl
list_any_map p h (y ∷ ys) = ap (λ b. p (h y) || b) (list_any_map p h ys)

-- what holds of each table holds of the one at a place
pub few_at : (tables : List TableDef) (i : ℕ) (t : TableDef) → AllByRecursion (λ x. length x.keys ≤ 8) tables → slice_get tables i ≡ Some t → length t.keys ≤ 8
few_at [] zero t all is = cc
few_at [] (suc i) t all is = cc
few_at (x ∷ tables) zero t all is = let same : x ≡ t = cc in subst (λ y. length y.keys ≤ 8) same all.0
few_at (x ∷ tables) (suc i) t all is = few_at tables i t all.1 is

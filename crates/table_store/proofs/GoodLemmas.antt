-- Where no tree of the plan has a broken key, the state has none.
use Rattle.std.proofs.Common.{◌≡◌, ℕ, zero, suc, ◌+◌, Bool, true, false, if◌then◌else◌, List, [], ◌∷◌, ◌++◌, length, Option, Some, None, unwrap_or, refl, sym, ap, ◌∙◌, subst, arith}
use Rattle.std.specs.List.{AllByRecursion, slice_get}
use Rattle.page_store.specs.Image.{Image}
use Rattle.cdb_values.specs.Rows.{Rows, versions_of}
use Rattle.cdb_values.specs.Good.{breaks, broken_key, first_broken, or_broken, KeyName}
use Rattle.cdb_values.specs.declared.rows.Version.{Version}
use Rattle.cdb_values.specs.declared.tables.TableDef.{TableDef}
use Rattle.cdb_values.specs.declared.tables.KeyDef.{KeyDef}
use Rattle.table_store.specs.Plans.{Planned, key_trees, plan_from}
use Rattle.table_store.specs.Stored.{Stands}
use Rattle.table_store.specs.Operations.{breaks_in}
use Rattle.table_store.proofs.KeptLaws.{stands_keeps}

abbrev pub Keeps : Rows → Planned → Type 0
Keeps rows p = breaks_in p.key (versions_of rows p.table) ≡ false

keeps_left : (rows : Rows) (xs ys : List Planned) → AllByRecursion (Keeps rows) (xs ++ ys) → AllByRecursion (Keeps rows) xs
keeps_left rows [] ys h = tt
keeps_left rows (x ∷ xs) ys h = (h.0, keeps_left rows xs ys h.1)

keeps_right : (rows : Rows) (xs ys : List Planned) → AllByRecursion (Keeps rows) (xs ++ ys) → AllByRecursion (Keeps rows) ys
keeps_right rows [] ys h = h
keeps_right rows (x ∷ xs) ys h = keeps_right rows xs ys h.1

none_broken : (rows : Rows) (place : ℕ) (vs : List Version) (keys : List KeyDef) → versions_of rows place ≡ vs → AllByRecursion (Keeps rows) (key_trees place keys)
    → broken_key vs keys ≡ None
none_broken rows place vs [] e h = refl
none_broken rows place vs (key ∷ keys) e h =
    ap (λ (t : Bool). if t then Some key else broken_key vs keys) (ap (λ (l : List Version). breaks l key) (sym e) ∙ h.0) ∙ none_broken rows place vs keys e h.1

none_from : (rows : Rows) (place : ℕ) (tables : List TableDef) (vss : List (List Version))
    → ((n k : ℕ) → k ≡ place + n → versions_of rows k ≡ unwrap_or (slice_get vss n) []) → AllByRecursion (Keeps rows) (plan_from place tables)
    → first_broken tables vss ≡ None
none_from rows place [] vss at h = refl
none_from rows place (t ∷ ts) [] at h = refl
none_from rows place (t ∷ ts) (vs ∷ vss) at h =
    let rest = plan_from (suc place) ts in
    let here = none_broken rows place vs t.keys (at 0 place (omega arith)) (keeps_left rows (key_trees place t.keys) rest h.1) in
    let later = none_from rows (suc place) ts vss (λ n k e. at (suc n) k (omega arith)) (keeps_right rows (key_trees place t.keys) rest h.1) in
    ap (λ (o : Option KeyDef). or_broken t o (first_broken ts vss)) here ∙ later

pub stands_good : (pages : ℕ → Image) (tables : List TableDef) (rows : Rows) → Stands pages tables rows → first_broken tables rows.tables ≡ None
stands_good pages tables rows s =
    none_from rows 0 tables rows.tables (λ n k e. (let same : k ≡ n = omega arith in ap (λ (m : ℕ). versions_of rows m) same)) (stands_keeps pages tables rows s)

-- and the first tree of the plan whose key is broken tells the first broken key
pub record IsFirst (rows : Rows) (plan : List Planned) (found : Planned) : Type 0 where
  pub front : List Planned
  pub back : List Planned
  pub is : plan ≡ front ++ (found ∷ back)
  pub kept : AllByRecursion (Keeps rows) front
  pub broken : breaks_in found.key (versions_of rows found.table) ≡ true

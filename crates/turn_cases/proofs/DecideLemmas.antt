-- What is decided by a touch that was found, or that was not.
use Rattle.std.proofs.Common.{◌≡◌, ◌∙◌, ℕ, List, Option, Some, None, option_map, drop, refl, sym, ap}
use Rattle.std.proofs.lemmas.List.{drop-map}
use Rattle.cdb_values.specs.Good.{first_broken}
use Rattle.cdb_values.specs.Rows.{Rows, apply_all}
use Rattle.cdb_values.specs.declared.rows.Change.{Change}
use Rattle.cdb_values.specs.declared.rows.RowOp.{RowOp}
use Rattle.cdb_values.specs.declared.tables.TableDef.{TableDef}
use Rattle.session_language.specs.Touched.{FirstUse, Used, first_use}
use Rattle.session_turns.specs.Decisions.{by_key, item_told, judged}
use Rattle.turn_cases.specs.Plain.{changes_in, touch_of}
use Rattle.turn_cases.specs.declared.rows.PlainEntry.{PlainEntry}
use Rattle.turn_cases.specs.declared.touched.FirstTouch.{FirstTouch}

changes_since : (es since : List PlainEntry) (begin : ℕ) → since ≡ drop begin es → changes_in since ≡ drop begin (changes_in es)
changes_since es since begin is = ap changes_in is ∙ sym (drop-map (λ (e : PlainEntry). e.changes) begin es)

told_touch : (tables : List TableDef) (rows : Rows) (now : ℕ) (ops : List RowOp) (o : Option FirstUse) (t : FirstTouch) → Some t ≡ option_map touch_of o → item_told tables t.position t.item ≡ judged tables rows now ops o
told_touch tables rows now ops None t is = absurd cc
told_touch tables rows now ops (Some f) t is =
    let same : t ≡ touch_of f = let both : Some t ≡ Some (touch_of f) = is in cc in
    ap (λ (x : FirstTouch). item_told tables x.position x.item) same

told_none : (tables : List TableDef) (rows : Rows) (now : ℕ) (ops : List RowOp) (o : Option FirstUse) → None ≡ option_map touch_of o → by_key now (first_broken tables (apply_all rows ops).tables) ≡ judged tables rows now ops o
told_none tables rows now ops None is = refl
told_none tables rows now ops (Some f) is = absurd cc

module _ (tables : List TableDef) (es since : List PlainEntry) (begin now : ℕ) (rows : Rows) (used : List Used) (ops : List RowOp) (is : since ≡ drop begin es) where
  at_once : option_map touch_of (first_use tables begin (changes_in since) used) ≡ option_map touch_of (first_use tables begin (drop begin (changes_in es)) used)
  at_once = ap (λ (cs : List (List Change)). option_map touch_of (first_use tables begin cs used)) (changes_since es since begin is)

  -- it is told as a conflict
  pub touch_told : (t : FirstTouch) → Some t ≡ option_map touch_of (first_use tables begin (changes_in since) used) → item_told tables t.position t.item ≡ judged tables rows now ops (first_use tables begin (drop begin (changes_in es)) used)
  touch_told t found = told_touch tables rows now ops (first_use tables begin (drop begin (changes_in es)) used) t (found ∙ at_once)

  -- or the keys decide
  pub none_told : None ≡ option_map touch_of (first_use tables begin (changes_in since) used) →
      by_key now (first_broken tables (apply_all rows ops).tables) ≡ judged tables rows now ops (first_use tables begin (drop begin (changes_in es)) used)
  none_told found = told_none tables rows now ops (first_use tables begin (drop begin (changes_in es)) used) (found ∙ at_once)

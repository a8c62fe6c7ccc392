-- What operations that touch no row of an interval leave as it is.
use Rattle.std.proofs.Common.{◌≡◌, ℕ, zero, suc, List, [], ◌∷◌, ◌++◌, refl, sym, ap, ◌∙◌, Bool, true, false, ◌&&◌, ◌||◌, not, cond, eqb, unwrap_or, append-nil}
use Rattle.std.proofs.lemmas.Bool.{or_parts, eq-eqb}
use Rattle.std.proofs.lemmas.List.Elements.{filter-append}
use Rattle.std.specs.List.{filter, list_any, slice_get, slice_set}
use Rattle.cdb_values.specs.Rows.{Rows, versions_of, without, taken, added, apply, apply_all, version}
use Rattle.cdb_values.specs.declared.items.Interval.{Interval}
use Rattle.cdb_values.specs.declared.rows.RowOp.{RowOp}
use Rattle.cdb_values.specs.declared.rows.RowOp.TheVariants as op
use Rattle.cdb_values.specs.declared.rows.RowRef.TheVariants.{Base, Own}
use Rattle.cdb_values.specs.declared.rows.Version.{Version}
use Rattle.cdb_values.specs.declared.tables.TableDef.{TableDef}
use Rattle.cdb_values.specs.declared.values.Value.{Value}
use Rattle.session_language.specs.Intervals.{lies, lies_in, HoldsTheSame}

-- whether the version of that genid lies in an interval
abbrev pub leaves : List TableDef → Interval → Rows → ℕ → ℕ → Bool
leaves tables interval rows table genid = eqb table interval.table && list_any (λ v. eqb v.genid genid && lies tables interval v.row) (versions_of rows table)

-- whether an operation on these rows touches an interval
abbrev pub op_touches : List TableDef → Interval → Rows → RowOp → Bool
op_touches tables interval rows (op.Insert table row) = lies_in tables interval table row
op_touches tables interval rows (op.Update table (Base genid) old row) = leaves tables interval rows table genid || lies_in tables interval table row
op_touches tables interval rows (op.Update table (Own write) old row) = false
op_touches tables interval rows (op.Delete table (Base genid) old) = leaves tables interval rows table genid
op_touches tables interval rows (op.Delete table (Own write) old) = false

-- whether operations, one after the other on these rows, touch an interval
abbrev pub touches : List TableDef → Interval → Rows → List RowOp → Bool
touches tables interval rows [] = false
touches tables interval rows (o ∷ ops) = op_touches tables interval rows o || touches tables interval (apply rows o) ops

pub filter_true : {A : Type 0} (p : A → Bool) (x : A) (xs : List A) → p x ≡ true → filter p (x ∷ xs) ≡ x ∷ filter p xs
filter_true p x xs is = ap (λ b. cond b (x ∷ filter p xs) (filter p xs)) is

pub filter_false : {A : Type 0} (p : A → Bool) (x : A) (xs : List A) → p x ≡ false → filter p (x ∷ xs) ≡ filter p xs
filter_false p x xs is = ap (λ b. cond b (x ∷ filter p xs) (filter p xs)) is

-- a table's list is set to one that a filter does not tell from the old
pub set_stays : (p : Version → Bool) (tables : List (List Version)) (t k : ℕ) (new : List Version) → (t ≡ k → filter p new ≡ filter p (unwrap_or (slice_get tables t) [])) →
    filter p (unwrap_or (slice_get (slice_set tables t new) k) []) ≡ filter p (unwrap_or (slice_get tables k) [])
set_stays p [] t k new same = refl
set_stays p (vs ∷ tables) zero zero new same = same refl
set_stays p (vs ∷ tables) zero (suc k) new same = refl
set_stays p (vs ∷ tables) (suc t) zero new same = refl
set_stays p (vs ∷ tables) (suc t) (suc k) new same = set_stays p tables t k new (λ is. same (ap suc is))

pub without_step : (p : Version → Bool) (genid : ℕ) (v : Version) (vs : List Version) (b : Bool) → eqb v.genid genid ≡ b → (eqb v.genid genid && p v) ≡ false →
    filter p (without genid vs) ≡ filter p vs → filter p (without genid (v ∷ vs)) ≡ filter p (v ∷ vs)
without_step p genid v vs true test is same =
    let off : p v ≡ false = sym (ap (λ b. b && p v) test) ∙ is in
    ap (filter p) (filter_false (λ (v : Version). not (eqb v.genid genid)) v vs (ap not test)) ∙ same ∙ sym (filter_false p v vs off)
without_step p genid v vs false test is same =
    ap (filter p) (filter_true (λ (v : Version). not (eqb v.genid genid)) v vs (ap not test)) ∙ ap (λ rest. cond (p v) (v ∷ rest) rest) same

pub without_stays : (p : Version → Bool) (genid : ℕ) (vs : List Version) → list_any (λ v. eqb v.genid genid && p v) vs ≡ false → filter p (without genid vs) ≡ filter p vs
without_stays p genid [] is = refl
without_stays p genid (v ∷ vs) is =
    let none = or_parts (eqb v.genid genid && p v) (list_any (λ v. eqb v.genid genid && p v) vs) is in
    without_step p genid v vs (eqb v.genid genid) refl none.0 (without_stays p genid vs none.1)

pub in_table : (table k : ℕ) (b : Bool) → (eqb table k && b) ≡ false → table ≡ k → b ≡ false
in_table table k b is same = sym (ap (λ t. t && b) (eq-eqb table k same)) ∙ is

taken_stays : (tables : List TableDef) (interval : Interval) (rows : Rows) (table genid : ℕ) → leaves tables interval rows table genid ≡ false → HoldsTheSame tables rows (taken rows table genid) interval
taken_stays tables interval rows table genid is =
    let p : Version → Bool = λ v. lies tables interval v.row in
    set_stays p rows.tables table interval.table (without genid (versions_of rows table)) (λ same. without_stays p genid (versions_of rows table) (in_table table interval.table _ is same))

added_stays : (tables : List TableDef) (interval : Interval) (rows : Rows) (table : ℕ) (row : List Value) → lies_in tables interval table row ≡ false → HoldsTheSame tables rows (added rows table row) interval
added_stays tables interval rows table row is =
    let p : Version → Bool = λ v. lies tables interval v.row in
    set_stays p rows.tables table interval.table (versions_of rows table ++ version rows.next row ∷ [])
    (λ same. filter-append p (versions_of rows table) (version rows.next row ∷ [])
    ∙ ap (λ l. filter p (versions_of rows table) ++ l) (filter_false p (version rows.next row) [] (in_table table interval.table _ is same))
    ∙ append-nil (filter p (versions_of rows table)))

op_stays : (tables : List TableDef) (interval : Interval) (rows : Rows) (op : RowOp) → op_touches tables interval rows op ≡ false → HoldsTheSame tables rows (apply rows op) interval
op_stays tables interval rows (op.Insert table row) is = added_stays tables interval rows table row is
op_stays tables interval rows (op.Update table (Base genid) old row) is =
    let none = or_parts (leaves tables interval rows table genid) (lies_in tables interval table row) is in
    added_stays tables interval (taken rows table genid) table row none.1 ∙ taken_stays tables interval rows table genid none.0
op_stays tables interval rows (op.Update table (Own write) old row) is = refl
op_stays tables interval rows (op.Delete table (Base genid) old) is = taken_stays tables interval rows table genid is
op_stays tables interval rows (op.Delete table (Own write) old) is = refl

-- operations that do not touch a interval leave what it holds
pub untouched_stays : (tables : List TableDef) (interval : Interval) (rows : Rows) (ops : List RowOp) → touches tables interval rows ops ≡ false → HoldsTheSame tables rows (apply_all rows ops) interval
untouched_stays tables interval rows [] is = refl
untouched_stays tables interval rows (o ∷ ops) is =
    let none = or_parts (op_touches tables interval rows o) (touches tables interval (apply rows o) ops) is in
    untouched_stays tables interval (apply rows o) ops none.1 ∙ op_stays tables interval rows o none.0

-- What operations that touch no row of a range leave as it is.
use Rattle.std.proofs.Common.{◌≡◌, ℕ, List, [], ◌∷◌, ◌++◌, refl, sym, ap, ◌∙◌, Bool, false, map, append-nil}
use Rattle.std.proofs.lemmas.Bool.{or_parts}
use Rattle.std.proofs.lemmas.List.Elements.{filter-append}
use Rattle.std.specs.List.{filter}
use Rattle.cdb_values.specs.Rows.{Rows, versions_of, without, taken, added, apply, apply_all, version}
use Rattle.cdb_values.specs.declared.rows.RowOp.{RowOp}
use Rattle.cdb_values.specs.declared.rows.RowOp.TheVariants as op
use Rattle.cdb_values.specs.declared.rows.RowRef.TheVariants.{Base, Own}
use Rattle.cdb_values.specs.declared.rows.Version.{Version}
use Rattle.cdb_values.specs.declared.tables.TableDef.{TableDef}
use Rattle.cdb_values.specs.declared.values.Value.{Value}
use Rattle.query_laws.proofs.ListLaws.{filter_both, filter_of_map}
use Rattle.session_language.proofs.RowsLaws.{filter_false, set_stays, without_stays, in_table}
use Rattle.query_laws.specs.Stable.{inside, HoldsTheSame, ShowsTheSame}
use Rattle.query_laws.specs.Intervals.{Interval, lies}
use Rattle.sql_answer.specs.Combinations.{Seen, seen_version, own_from, is_left, seen}
use Rattle.query_laws.specs.Walks.{within}
use Rattle.query_laws.specs.Touched.{leaves, enters, op_touches, touches}

-- and so it holds the same rows for a transaction with the same operations on top
pub seen_same : (tables : List TableDef) (rows others : Rows) (ops : List RowOp) (range : Interval) → HoldsTheSame tables rows others range → ShowsTheSame tables (seen rows.tables ops) (seen others.tables ops) range
seen_same tables rows others ops range stable = is others ∙ ap (λ (l : List Version). map seen_version (filter (is_left ops range.table) l) ++ within tables range (own_from 1 range.table ops)) stable ∙ sym (is rows)
  where
    is : (rows : Rows) → within tables range (seen rows.tables ops range.table) ≡ map seen_version (filter (is_left ops range.table) (inside tables range rows)) ++ within tables range (own_from 1 range.table ops)
    is rows =
        filter-append (λ (s : Seen). lies tables range s.row) (map seen_version (filter (is_left ops range.table) (versions_of rows range.table))) (own_from 1 range.table ops)
        ∙ ap (λ l. l ++ within tables range (own_from 1 range.table ops))
        (filter_of_map (λ (s : Seen). lies tables range s.row) seen_version (filter (is_left ops range.table) (versions_of rows range.table))
        ∙ ap (map seen_version) (filter_both (λ (v : Version). lies tables range v.row) (is_left ops range.table) (versions_of rows range.table)))

taken_stays : (tables : List TableDef) (range : Interval) (rows : Rows) (table genid : ℕ) → leaves tables range rows table genid ≡ false → HoldsTheSame tables rows (taken rows table genid) range
taken_stays tables range rows table genid is =
    let p : Version → Bool = λ v. lies tables range v.row in
    set_stays p rows.tables table range.table (without genid (versions_of rows table)) (λ same. without_stays p genid (versions_of rows table) (in_table table range.table _ is same))

added_stays : (tables : List TableDef) (range : Interval) (rows : Rows) (table : ℕ) (row : List Value) → enters tables range table row ≡ false → HoldsTheSame tables rows (added rows table row) range
added_stays tables range rows table row is =
    let p : Version → Bool = λ v. lies tables range v.row in
    set_stays p rows.tables table range.table (versions_of rows table ++ version rows.next row ∷ [])
    (λ same. filter-append p (versions_of rows table) (version rows.next row ∷ [])
    ∙ ap (λ l. filter p (versions_of rows table) ++ l) (filter_false p (version rows.next row) [] (in_table table range.table _ is same))
    ∙ append-nil (filter p (versions_of rows table)))

op_stays : (tables : List TableDef) (range : Interval) (rows : Rows) (op : RowOp) → op_touches tables range rows op ≡ false → HoldsTheSame tables rows (apply rows op) range
op_stays tables range rows (op.Insert table row) is = added_stays tables range rows table row is
op_stays tables range rows (op.Update table (Base genid) old row) is =
    let none = or_parts (leaves tables range rows table genid) (enters tables range table row) is in
    added_stays tables range (taken rows table genid) table row none.1 ∙ taken_stays tables range rows table genid none.0
op_stays tables range rows (op.Update table (Own write) old row) is = refl
op_stays tables range rows (op.Delete table (Base genid) old) is = taken_stays tables range rows table genid is
op_stays tables range rows (op.Delete table (Own write) old) is = refl

-- operations that do not touch a range leave what it holds
pub untouched_stays : (tables : List TableDef) (range : Interval) (rows : Rows) (ops : List RowOp) → touches tables range rows ops ≡ false → HoldsTheSame tables rows (apply_all rows ops) range
untouched_stays tables range rows [] is = refl
untouched_stays tables range rows (o ∷ ops) is =
    let none = or_parts (op_touches tables range rows o) (touches tables range (apply rows o) ops) is in
    untouched_stays tables range (apply rows o) ops none.1 ∙ op_stays tables range rows o none.0

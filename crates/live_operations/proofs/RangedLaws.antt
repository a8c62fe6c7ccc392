-- Over rows whose integers are of 64 bits, SQL leaves operations that write such rows.
use Rattle.std.proofs.Common.{◌≡◌, ℕ, zero, suc, ◌+◌, ◌==◌, ◌^◌, List, [], ◌∷◌, ◌++◌, map, filter, Bool, true, false, cond, ltb, refl, Option, Some, None, ◌+ℤ◌, ◌-ℤ◌, pos, negsuc}
use Rattle.std.specs.Prelude.{ℤ, slice_get, slice_set, option_map}
use Rattle.std.specs.Option.{option_and_then}
use Rattle.std.specs.List.{AllByRecursion, cons_option, filter_map}
use Rattle.std.proofs.lemmas.Bool.{ltb-true}
use Rattle.cdb_values.specs.declared.rows.RowOp.{RowOp}
use Rattle.cdb_values.specs.declared.rows.RowOp.TheVariants.{Insert, Update, Delete}
use Rattle.cdb_values.specs.declared.rows.RowRef.TheVariants.{Own}
use Rattle.cdb_values.specs.declared.rows.Version.{Version}
use Rattle.cdb_values.specs.declared.values.Value.{Value}
use Rattle.cdb_values.specs.declared.values.Value.TheVariants.{Null, Int, Text, Blob}
use Rattle.key_code.specs.Codes.{IsInRange}
use Rattle.net_writes.specs.Net.{rewritten, undone}
use Rattle.query_laws.specs.Alone.{sql_language}
use Rattle.session_language.proofs.EachLaws.{all_append}
use Rattle.session_language.proofs.AllLaws.{all_got, all_exchanged, all_filtered}
use Rattle.sql_answer.specs.Aggregates.{int_value}
use Rattle.sql_answer.specs.Answers.{updating, deleting}
use Rattle.sql_answer.specs.Combinations.{Seen, seen_version, own_or, own_from, is_left, of_table, seen, rows_of}
use Rattle.sql_answer.specs.Conditions.{cell_of, operand_value, meets}
use Rattle.sql_answer.specs.Writes.{changed, stepped, assigned, set_from, set_row}
use Rattle.sql_bind.specs.Bound.{Cond, BoundStatement, BeginIt, CommitIt, RollbackIt, SetIt, InsertInto, UpdateOf, DeleteFrom, SelectOf}
use Rattle.sql_bind.specs.declared.types.BoundAssign.{BoundAssign}
use Rattle.sql_bind.specs.declared.types.BoundOperand.{BoundOperand}
use Rattle.sql_bind.specs.declared.types.BoundOperand.TheVariants as operand
use Rattle.sql_bind.specs.declared.types.BoundStep.{BoundStep}
use Rattle.live_operations.specs.Ranged.{IsRanged, HaveRanged, WritesRanged, TextLeavesRanged, TextsLeaveRanged}
use Rattle.live_operations.proofs.LiteralLemmas.{IsRangedOperand, BeginsRanged, IsRangedStatement, text_ranged}
use Rattle.live_operations.proofs.NetLemmas.{HoldsFor, IsJoined, net_has}
use Rattle.live_operations.proofs.SeenLemmas.{met_of}
use Rattle.live_operations.proofs.StatementLemmas.{met_in, writes_of, text_leaves}

abbrev IsSeenRanged : Seen → Type 0
IsSeenRanged s = IsRanged s.row

-- ---- the rows that a transaction sees

versions_seen : (versions : List Version) → AllByRecursion (λ v. IsRanged v.row) versions → AllByRecursion IsSeenRanged (map seen_version versions)
versions_seen [] all = tt
versions_seen (v ∷ vs) all = (all.0, versions_seen vs all.1)

one_seen : (number : ℕ) (row : List Value) (here : Bool) (later : List Seen) → IsRanged row → AllByRecursion IsSeenRanged later → AllByRecursion IsSeenRanged (own_or number row here later)
one_seen number row true later is all = (is, all)
one_seen number row false later is all = all

own_seen : (number table : ℕ) (ops : List RowOp) → AllByRecursion WritesRanged ops → AllByRecursion IsSeenRanged (own_from number table ops)
own_seen number table [] all = tt
own_seen number table (Insert place row ∷ ops) all = one_seen number row (place == table) (own_from (number + 1) table ops) all.0 (own_seen (number + 1) table ops all.1)
own_seen number table (Update place target old row ∷ ops) all = one_seen number row (place == table) (own_from (number + 1) table ops) all.0 (own_seen (number + 1) table ops all.1)
own_seen number table (Delete place target old ∷ ops) all = own_seen (number + 1) table ops all.1

all_seen : (versions : List (List Version)) (ops : List RowOp) (table : ℕ) → HaveRanged versions → AllByRecursion WritesRanged ops → AllByRecursion IsSeenRanged (seen versions ops table)
all_seen versions ops table have all =
    all_append IsSeenRanged (map seen_version (filter (is_left ops table) (of_table versions table))) (own_from 1 table ops)
    (versions_seen (filter (is_left ops table) (of_table versions table))
    (all_filtered (λ (v : Version). IsRanged v.row) (is_left ops table) (of_table versions table) (all_got (AllByRecursion (λ (v : Version). IsRanged v.row)) versions table [] have tt)))
    (own_seen 1 table ops all)

met_ranged : (versions : List (List Version)) (ops : List RowOp) (table : ℕ) (condition : Option Cond) → HaveRanged versions → AllByRecursion WritesRanged ops
    → AllByRecursion IsSeenRanged (met_in versions ops table condition)
met_ranged versions ops table condition have all =
    met_of IsSeenRanged (λ combination. meets condition (rows_of combination)) (seen versions ops table) (all_seen versions ops table have all)

-- ---- SET

-- a value of 64 bits, where there is one
abbrev GivenIs : Option Value → Type 0
GivenIs None = Unit {0}
GivenIs (Some v) = IsInRange v

int_is : (x : ℤ) → GivenIs (int_value x)
int_is (pos n) = go (ltb n (2 ^ 63)) refl
  where
    go : (b : Bool) → ltb n (2 ^ 63) ≡ b → GivenIs (cond b (Some (Int (pos n))) None)
    go true small = ltb-true n (2 ^ 63) small
    go false large = tt
int_is (negsuc n) = go (ltb n (2 ^ 63)) refl
  where
    go : (b : Bool) → ltb n (2 ^ 63) ≡ b → GivenIs (cond b (Some (Int (negsuc n))) None)
    go true small = ltb-true n (2 ^ 63) small
    go false large = tt

changed_is : (minus : Bool) (x y : Value) → GivenIs (changed minus x y)
changed_is true Null y = tt
changed_is true (Int x) Null = tt
changed_is true (Int x) (Int y) = int_is (x -ℤ y)
changed_is true (Int x) (Text y) = tt
changed_is true (Int x) (Blob y) = tt
changed_is true (Text x) y = tt
changed_is true (Blob x) y = tt
changed_is false Null y = tt
changed_is false (Int x) Null = tt
changed_is false (Int x) (Int y) = int_is (x +ℤ y)
changed_is false (Int x) (Text y) = tt
changed_is false (Int x) (Blob y) = tt
changed_is false (Text x) y = tt
changed_is false (Blob x) y = tt

one_step : (minus : Bool) (y : Value) (o : Option Value) → GivenIs (option_and_then (λ v. changed minus v y) o)
one_step minus y None = tt
one_step minus y (Some x) = changed_is minus x y

stepped_is : (old : List (List Value)) (o : Option Value) (steps : List BoundStep) → GivenIs o → GivenIs (stepped old o steps)
stepped_is old o [] is = is
stepped_is old o (step ∷ steps) is =
    stepped_is old (option_and_then (λ v. changed step.minus v (operand_value old step.operand)) o) steps (one_step step.minus (operand_value old step.operand) o)

cell_is : (rows : List (List Value)) (place column : ℕ) → AllByRecursion IsRanged rows → IsInRange (cell_of (slice_get rows place) column)
cell_is [] place column all = tt
cell_is (row ∷ rows) zero column all = all_got IsInRange row column Null all.0 tt
cell_is (row ∷ rows) (suc place) column all = cell_is rows place column all.1

operand_is : (old : List (List Value)) (x : BoundOperand) → AllByRecursion IsRanged old → IsRangedOperand x → IsInRange (operand_value old x)
operand_is old (operand.Value value) all is = is
operand_is old (operand.Column column) all is = cell_is old column.place column.column all

abbrev RowIs : Option (List Value) → Type 0
RowIs None = Unit {0}
RowIs (Some row) = IsRanged row

set_is : (old : List (List Value)) (assigns : List BoundAssign) (row : List Value) → AllByRecursion IsRanged old → AllByRecursion BeginsRanged assigns → IsRanged row → RowIs (set_from old assigns row)
set_is old [] row all are is = is
set_is old (assign ∷ assigns) row all are is =
    go (assigned old assign) (stepped_is old (Some (operand_value old assign.first)) assign.rest (operand_is old assign.first all are.0))
    (λ value good. set_is old assigns (slice_set row assign.column value) all are.1 (all_exchanged IsInRange row assign.column value is good))
  where
    go : (o : Option Value) → GivenIs o → ((value : Value) → IsInRange value → RowIs (set_from old assigns (slice_set row assign.column value)))
        → RowIs (option_and_then (λ value. set_from old assigns (slice_set row assign.column value)) o)
    go None good later = tt
    go (Some value) good later = later value good

-- ---- writes

inserts_are : (table : ℕ) (rows : List (List Value)) → AllByRecursion IsRanged rows → AllByRecursion WritesRanged (map (Insert table) rows)
inserts_are table [] all = tt
inserts_are table (row ∷ rows) all = (all.0, inserts_are table rows all.1)

one_update : (table : ℕ) (s : Seen) (o : Option (List Value)) (later : List RowOp) → RowIs o → AllByRecursion WritesRanged later
    → AllByRecursion WritesRanged (cons_option (option_map (Update table s.source s.row) o) later)
one_update table s None later is all = all
one_update table s (Some row) later is all = (is, all)

updates_are : (table : ℕ) (assigns : List BoundAssign) (rows : List Seen) → AllByRecursion BeginsRanged assigns → AllByRecursion IsSeenRanged rows
    → AllByRecursion WritesRanged (filter_map (updating table assigns) rows)
updates_are table assigns [] are all = tt
updates_are table assigns (s ∷ rows) are all =
    one_update table s (set_row assigns s.row) (filter_map (updating table assigns) rows) (set_is (s.row ∷ []) assigns s.row (all.0, tt) are all.0) (updates_are table assigns rows are all.1)

deletes_are : (table : ℕ) (rows : List Seen) → AllByRecursion WritesRanged (map (deleting table) rows)
deletes_are table [] = tt
deletes_are table (s ∷ rows) = (tt, deletes_are table rows)

writes_are : (versions : List (List Version)) (done : List RowOp) (s : BoundStatement) → HaveRanged versions → AllByRecursion WritesRanged done → IsRangedStatement s
    → AllByRecursion WritesRanged (writes_of versions done s)
writes_are versions done BeginIt have all is = tt
writes_are versions done CommitIt have all is = tt
writes_are versions done RollbackIt have all is = tt
writes_are versions done (SetIt level) have all is = tt
writes_are versions done (InsertInto place rows) have all is = inserts_are place rows is
writes_are versions done (UpdateOf place assigns condition) have all is = updates_are place assigns (met_in versions done place condition) is (met_ranged versions done place condition have all)
writes_are versions done (DeleteFrom place condition) have all is = deletes_are place (met_in versions done place condition)
writes_are versions done (SelectOf query) have all is = tt

joins : IsJoined WritesRanged
joins = record { rewritten_has = rewritten_is; undone_has = undone_is }
  where
    rewritten_is : (h : Option RowOp) (place write : ℕ) (old row : List Value) → HoldsFor WritesRanged h → WritesRanged (Update place (Own write) old row) → HoldsFor WritesRanged (rewritten h row)
    rewritten_is None place write old row has is = tt
    rewritten_is (Some (Insert table written)) place write old row has is = is
    rewritten_is (Some (Update table target before written)) place write old row has is = is
    rewritten_is (Some (Delete table target before)) place write old row has is = tt

    undone_is : (h : Option RowOp) → HoldsFor WritesRanged h → HoldsFor WritesRanged (undone h)
    undone_is None has = tt
    undone_is (Some (Insert place written)) has = tt
    undone_is (Some (Update place target old written)) has = tt
    undone_is (Some (Delete place target old)) has = tt

-- ---- texts

pub text_leaves_ranged : TextLeavesRanged
text_leaves_ranged tables versions done text have all =
    text_leaves (AllByRecursion WritesRanged) tables versions done text all
    (λ s means within. net_has WritesRanged joins (done ++ writes_of versions done s)
    (all_append WritesRanged done (writes_of versions done s) all (writes_are versions done s have all (text_ranged tables text s means))))

pub texts_leave_ranged : TextsLeaveRanged
texts_leave_ranged tables versions done [] have all = all
texts_leave_ranged tables versions done (text ∷ texts) have all =
    texts_leave_ranged tables versions (sql_language.answer tables versions done text).ops texts have (text_leaves_ranged tables versions done text have all)

-- Over rows of values that can be told, SQL leaves operations that write such rows, and in tables with columns it answers by rows of
-- the grammar of reports.
use Rattle.std.proofs.Common.{◌≡◌, ℕ, ◌+◌, ◌==◌, List, [], ◌∷◌, ◌++◌, length, map, filter, Bool, true, false, ltb, refl, subst, Option, Some, None, Ok, Err, Result, ◌+ℤ◌, ◌-ℤ◌}
use Rattle.std.specs.Prelude.{slice_get, slice_set, option_map}
use Rattle.std.specs.Option.{option_and_then}
use Rattle.std.specs.List.{AllByRecursion, cons_option, filter_map}
use Rattle.std.specs.Str.{is_utf8}
use Rattle.std.proofs.lemmas.Bool.{cond_both}
use Rattle.std.proofs.lemmas.Option.{same_Some}
use Rattle.cdb_values.specs.declared.items.GenidItem.{GenidItem}
use Rattle.cdb_values.specs.declared.limits.TheConstants.{MOST_NET_OPERATIONS}
use Rattle.cdb_values.specs.declared.rows.RowOp.{RowOp}
use Rattle.cdb_values.specs.declared.rows.RowOp.TheVariants as op
use Rattle.cdb_values.specs.declared.rows.StatementError.{StatementError}
use Rattle.cdb_values.specs.declared.rows.StatementError.TheVariants as error
use Rattle.cdb_values.specs.declared.rows.Version.{Version}
use Rattle.cdb_values.specs.declared.tables.TableDef.{TableDef}
use Rattle.cdb_values.specs.declared.values.Value.{Value}
use Rattle.cdb_values.specs.declared.values.Value.TheVariants.{Null, Int, Text, Blob}
use Rattle.net_writes.specs.Net.{net_of}
use Rattle.session_language.proofs.EachLaws.{all_append}
use Rattle.session_language.proofs.AllLaws.{all_got, all_exchanged, all_filtered}
use Rattle.session_language.specs.Spelled.{IsToldValue, IsToldRow, SpellsReply, SpellsRow, WritesRow, HaveRows}
use Rattle.cdb_values.specs.declared.replies.Reply.{Reply}
use Rattle.cdb_values.specs.declared.replies.Reply.TheVariants as reply
use Rattle.sql_answer.specs.Answers.{Meaning, Outcome, Fails, Gives, told_only, net_given, given_unless, rows_met, updating, deleting, items_used, rows_given, finished, finish, found, tables_read, answer}
use Rattle.sql_answer.specs.Combinations.{Seen, seen_version, own_or, own_from, is_left, of_table, seen, rows_of}
use Rattle.sql_answer.specs.Conditions.{operand_value}
use Rattle.sql_answer.specs.Language.{answered, sql_binder, meaning, meant_by, meant_as}
use Rattle.query_laws.specs.Alone.{reads_of}
use Rattle.cdb_values.specs.declared.items.Interval.{Interval}
use Rattle.sql_answer.specs.Reading.{reading}
use Rattle.sql_answer.specs.Shapes.{shape}
use Rattle.sql_answer.specs.Writes.{changed, stepped, assigned, set_from, set_row, rows_error}
use Rattle.sql_answer.proofs.ReadingLemmas.{reading_spells}
use Rattle.sql_bind.specs.Binding.{binding}
use Rattle.sql_bind.specs.Bound.{BoundStatement, BeginIt, CommitIt, RollbackIt, SetIt, InsertInto, UpdateOf, DeleteFrom, SelectOf}
use Rattle.sql_bind.specs.Faults.{FaultKind}
use Rattle.sql_bind.specs.declared.types.BoundAssign.{BoundAssign}
use Rattle.sql_bind.specs.declared.types.BoundOperand.{BoundOperand}
use Rattle.sql_bind.specs.declared.types.BoundOperand.TheVariants as operand
use Rattle.sql_bind.specs.declared.types.BoundStep.{BoundStep}
use Rattle.sql_grammar.specs.Trees.{Statement}
use Rattle.sql_run.specs.Spelled.{HasColumns, RepliesBySuchRows, LeavesSuchRows}
use Rattle.sql_run.proofs.BoundLemmas.{IsOperand, GivesValue, IsBoundWell, HasAnItem, bound_well, items_bound}
use Rattle.sql_run.proofs.CombinationLemmas.{all_found, all_met, each_of}
use Rattle.sql_run.proofs.GrammarLemmas.{written}
use Rattle.sql_run.proofs.NetLemmas.{net_writes_rows}
use Rattle.sql_run.proofs.ShapeLemmas.{column_is, int_is, shaped}

abbrev IsSeen : Seen → Type 0
IsSeen s = IsToldRow s.row

-- ---- the rows that a transaction sees

versions_seen : (versions : List Version) → AllByRecursion (λ v. IsToldRow v.row) versions → AllByRecursion IsSeen (map seen_version versions)
versions_seen [] all = tt
versions_seen (v ∷ vs) all = (all.0, versions_seen vs all.1)

one_seen : (number : ℕ) (row : List Value) (is_here : Bool) (later : List Seen) → IsToldRow row → AllByRecursion IsSeen later → AllByRecursion IsSeen (own_or number row is_here later)
one_seen number row true later is all = (is, all)
one_seen number row false later is all = all

own_seen : (number table : ℕ) (ops : List RowOp) → AllByRecursion WritesRow ops → AllByRecursion IsSeen (own_from number table ops)
own_seen number table [] all = tt
own_seen number table (op.Insert place row ∷ ops) all = one_seen number row (place == table) (own_from (number + 1) table ops) all.0 (own_seen (number + 1) table ops all.1)
own_seen number table (op.Update place target old row ∷ ops) all = one_seen number row (place == table) (own_from (number + 1) table ops) all.0 (own_seen (number + 1) table ops all.1)
own_seen number table (op.Delete place target old ∷ ops) all = own_seen (number + 1) table ops all.1

all_seen : (versions : List (List Version)) (ops : List RowOp) (table : ℕ) → HaveRows versions → AllByRecursion WritesRow ops → AllByRecursion IsSeen (seen versions ops table)
all_seen versions ops table have all =
    all_append IsSeen (map seen_version (filter (is_left ops table) (of_table versions table))) (own_from 1 table ops)
    (versions_seen (filter (is_left ops table) (of_table versions table))
    (all_filtered (λ (v : Version). IsToldRow v.row) (is_left ops table) (of_table versions table) (all_got (AllByRecursion (λ (v : Version). IsToldRow v.row)) versions table [] have tt)))
    (own_seen 1 table ops all)

-- ---- combinations

all_found_are : (versions : List (List Version)) (ops : List RowOp) (s : Meaning) → HaveRows versions → AllByRecursion WritesRow ops → AllByRecursion (AllByRecursion IsSeen) (found versions ops s)
all_found_are versions ops s have all = all_found IsSeen versions ops s (each_of (λ table. AllByRecursion IsSeen (seen versions ops table)) (λ table. all_seen versions ops table have all) (tables_read s))

rows_are : (combination : List Seen) → AllByRecursion IsSeen combination → AllByRecursion IsToldRow (rows_of combination)
rows_are [] all = tt
rows_are (s ∷ ss) all = (all.0, rows_are ss all.1)

all_rows_are : (combos : List (List Seen)) → AllByRecursion (AllByRecursion IsSeen) combos → AllByRecursion (AllByRecursion IsToldRow) (map rows_of combos)
all_rows_are [] all = tt
all_rows_are (c ∷ cs) all = (rows_are c all.0, all_rows_are cs all.1)

-- ---- SET

changed_is : (minus : Bool) (x y v : Value) → changed minus x y ≡ Some v → IsToldValue v
changed_is true Null y v is = subst IsToldValue (same_Some Null v is) tt
changed_is true (Int x) Null v is = subst IsToldValue (same_Some Null v is) tt
changed_is true (Int x) (Int y) v is = int_is (x -ℤ y) v is
changed_is true (Int x) (Text y) v is = subst IsToldValue (same_Some Null v is) tt
changed_is true (Int x) (Blob y) v is = subst IsToldValue (same_Some Null v is) tt
changed_is true (Text x) y v is = subst IsToldValue (same_Some Null v is) tt
changed_is true (Blob x) y v is = subst IsToldValue (same_Some Null v is) tt
changed_is false Null y v is = subst IsToldValue (same_Some Null v is) tt
changed_is false (Int x) Null v is = subst IsToldValue (same_Some Null v is) tt
changed_is false (Int x) (Int y) v is = int_is (x +ℤ y) v is
changed_is false (Int x) (Text y) v is = subst IsToldValue (same_Some Null v is) tt
changed_is false (Int x) (Blob y) v is = subst IsToldValue (same_Some Null v is) tt
changed_is false (Text x) y v is = subst IsToldValue (same_Some Null v is) tt
changed_is false (Blob x) y v is = subst IsToldValue (same_Some Null v is) tt

-- a value of the grammar, where there is one
abbrev GivenIs : Option Value → Type 0
GivenIs None = Unit {0}
GivenIs (Some v) = IsToldValue v

given_is : (o : Option Value) (v : Value) → GivenIs o → o ≡ Some v → IsToldValue v
given_is None v is same = absurd cc
given_is (Some u) v is same = subst IsToldValue (same_Some u v same) is

changed_given : (minus : Bool) (x y : Value) → GivenIs (changed minus x y)
changed_given minus x y = go (changed minus x y) refl
  where
    go : (o : Option Value) → changed minus x y ≡ o → GivenIs o
    go None is = tt
    go (Some v) is = changed_is minus x y v is

one_step : (minus : Bool) (y : Value) (o : Option Value) → GivenIs (option_and_then (λ v. changed minus v y) o)
one_step minus y None = tt
one_step minus y (Some x) = changed_given minus x y

stepped_is : (old : List (List Value)) (o : Option Value) (steps : List BoundStep) → GivenIs o → GivenIs (stepped old o steps)
stepped_is old o [] is = is
stepped_is old o (step ∷ steps) is = stepped_is old (option_and_then (λ v. changed step.minus v (operand_value old step.operand)) o) steps (one_step step.minus (operand_value old step.operand) o)

operand_is : (old : List (List Value)) (x : BoundOperand) → AllByRecursion IsToldRow old → IsOperand x → IsToldValue (operand_value old x)
operand_is old (operand.Value value) all is = is
operand_is old (operand.Column column) all is = column_is old column all

row_exchanged : (row : List Value) (column : ℕ) (value : Value) → IsToldRow row → IsToldValue value → IsToldRow (slice_set row column value)
row_exchanged row column value is good = all_exchanged IsToldValue row column value is good

abbrev RowIs : Option (List Value) → Type 0
RowIs None = Unit {0}
RowIs (Some row) = IsToldRow row

set_is : (old : List (List Value)) (assigns : List BoundAssign) (row : List Value) → AllByRecursion IsToldRow old → AllByRecursion GivesValue assigns → IsToldRow row → RowIs (set_from old assigns row)
set_is old [] row all are is = is
set_is old (assign ∷ assigns) row all are is =
    go (assigned old assign) (stepped_is old (Some (operand_value old assign.first)) assign.rest (operand_is old assign.first all are.0)) (λ value good. set_is old assigns (slice_set row assign.column value) all are.1 (row_exchanged row assign.column value is good))
  where
    go : (o : Option Value) → GivenIs o → ((value : Value) → IsToldValue value → RowIs (set_from old assigns (slice_set row assign.column value)))
        → RowIs (option_and_then (λ value. set_from old assigns (slice_set row assign.column value)) o)
    go None good later = tt
    go (Some value) good later = later value good

-- ---- writes

inserts_are : (table : ℕ) (rows : List (List Value)) → AllByRecursion IsToldRow rows → AllByRecursion WritesRow (map (op.Insert table) rows)
inserts_are table [] all = tt
inserts_are table (row ∷ rows) all = (all.0, inserts_are table rows all.1)

one_update : (table : ℕ) (s : Seen) (o : Option (List Value)) (later : List RowOp) → RowIs o → AllByRecursion WritesRow later → AllByRecursion WritesRow (cons_option (option_map (op.Update table s.source s.row) o) later)
one_update table s None later is all = all
one_update table s (Some row) later is all = (is, all)

updates_are : (table : ℕ) (assigns : List BoundAssign) (rows : List Seen) → AllByRecursion GivesValue assigns → AllByRecursion IsSeen rows → AllByRecursion WritesRow (filter_map (updating table assigns) rows)
updates_are table assigns [] are all = tt
updates_are table assigns (s ∷ rows) are all =
    one_update table s (set_row assigns s.row) (filter_map (updating table assigns) rows) (set_is (s.row ∷ []) assigns s.row (all.0, tt) are all.0) (updates_are table assigns rows are all.1)

deletes_are : (table : ℕ) (rows : List Seen) → AllByRecursion WritesRow (map (deleting table) rows)
deletes_are table [] = tt
deletes_are table (s ∷ rows) = (tt, deletes_are table rows)

-- ---- what a statement leaves

abbrev LeavesRows : List RowOp → Outcome → Type 0
LeavesRows ops outcome = AllByRecursion WritesRow (answered [] ops outcome).ops

-- whatever was read for it
leaves_too : (ranges : List Interval) (ops : List RowOp) (outcome : Outcome) → LeavesRows ops outcome → AllByRecursion WritesRow (answered ranges ops outcome).ops
leaves_too ranges ops (Fails cause) is = is
leaves_too ranges ops (Gives told after) is = is

net_leaves : (ops writes : List RowOp) → AllByRecursion WritesRow ops → AllByRecursion WritesRow writes → LeavesRows ops (net_given ops writes)
net_leaves ops writes all are =
    cond_both (ltb MOST_NET_OPERATIONS (length (net_of (ops ++ writes)))) (Fails error.TooLong) (Gives (told_only (reply.Changed (length writes))) (net_of (ops ++ writes)))
    (LeavesRows ops) (λ past. all) (λ fits. net_writes_rows (ops ++ writes) (all_append WritesRow ops writes all are))

unless_leaves : (cause : Option StatementError) (ops writes : List RowOp) → AllByRecursion WritesRow ops → AllByRecursion WritesRow writes → LeavesRows ops (given_unless cause ops writes)
unless_leaves (Some cause) ops writes all are = all
unless_leaves None ops writes all are = net_leaves ops writes all are

rows_leave : (uses : List GenidItem) (ops : List RowOp) (rows : Option (List (List Value))) → AllByRecursion WritesRow ops → LeavesRows ops (rows_given uses ops rows)
rows_leave uses ops None all = all
rows_leave uses ops (Some rows) all = all

finished_leaves : (tables : List TableDef) (s : BoundStatement) (ops : List RowOp) (combos : List (List Seen)) → IsBoundWell s → AllByRecursion WritesRow ops → AllByRecursion (AllByRecursion IsSeen) combos
    → LeavesRows ops (finished tables s ops combos)
finished_leaves tables BeginIt ops combos well all are = all
finished_leaves tables CommitIt ops combos well all are = all
finished_leaves tables RollbackIt ops combos well all are = all
finished_leaves tables (SetIt level) ops combos well all are = all
finished_leaves tables (InsertInto table rows) ops combos well all are =
    unless_leaves (rows_error (slice_get tables table) (map (λ row. Some row) rows)) ops (map (op.Insert table) rows) all (inserts_are table rows well)
finished_leaves tables (UpdateOf table assigns condition) ops combos well all are =
    unless_leaves (rows_error (slice_get tables table) (map (λ s. set_row assigns s.row) (rows_met combos))) ops (filter_map (updating table assigns) (rows_met combos))
    all (updates_are table assigns (rows_met combos) well (all_met IsSeen combos are))
finished_leaves tables (DeleteFrom table condition) ops combos well all are = net_leaves ops (map (deleting table) (rows_met combos)) all (deletes_are table (rows_met combos))
finished_leaves tables (SelectOf query) ops combos well all are = rows_leave (items_used query combos) ops (shape query (map rows_of combos)) all

abbrev pub IsWell : Meaning → Type 0
IsWell (Ok s) = IsBoundWell s
IsWell (Err cause) = Unit {0}

finish_leaves : (tables : List TableDef) (s : Meaning) (ops : List RowOp) (combos : List (List Seen)) → IsWell s → AllByRecursion WritesRow ops → AllByRecursion (AllByRecursion IsSeen) combos
    → LeavesRows ops (finish tables s ops combos)
unfolding finish
finish_leaves tables (Ok s) ops combos well all are = finished_leaves tables s ops combos well all are
finish_leaves tables (Err cause) ops combos well all are = all

-- ---- what a statement tells

abbrev TellsRows : List RowOp → Outcome → Type 0
TellsRows ops outcome = AllByRecursion SpellsReply (answered [] ops outcome).replies

tells_too : (ranges : List Interval) (ops : List RowOp) (outcome : Outcome) → TellsRows ops outcome → AllByRecursion SpellsReply (answered ranges ops outcome).replies
tells_too ranges ops (Fails cause) is = is
tells_too ranges ops (Gives told after) is = is

net_tells : (ops writes : List RowOp) → TellsRows ops (net_given ops writes)
net_tells ops writes =
    cond_both (ltb MOST_NET_OPERATIONS (length (net_of (ops ++ writes)))) (Fails error.TooLong) (Gives (told_only (reply.Changed (length writes))) (net_of (ops ++ writes)))
    (TellsRows ops) (λ past. (tt, tt)) (λ fits. (tt, tt))

unless_tells : (cause : Option StatementError) (ops writes : List RowOp) → TellsRows ops (given_unless cause ops writes)
unless_tells (Some cause) ops writes = (tt, tt)
unless_tells None ops writes = net_tells ops writes

replies_tell : (rows : List (List Value)) (last : List Reply) → AllByRecursion SpellsRow rows → AllByRecursion SpellsReply last → AllByRecursion SpellsReply (map (λ row. reply.Row row) rows ++ last)
replies_tell [] last all is = is
replies_tell (row ∷ rows) last all is = (all.0, replies_tell rows last all.1 is)

rows_tell : (uses : List GenidItem) (ops : List RowOp) (o : Option (List (List Value))) → ((rows : List (List Value)) → o ≡ Some rows → AllByRecursion SpellsRow rows) → TellsRows ops (rows_given uses ops o)
rows_tell uses ops None each = (tt, tt)
rows_tell uses ops (Some rows) each = replies_tell rows (reply.Done (length rows) ∷ []) (each rows refl) (tt, tt)

finished_tells : (tables : List TableDef) (s : BoundStatement) (ops : List RowOp) (combos : List (List Seen)) → HasAnItem s → AllByRecursion (AllByRecursion IsSeen) combos
    → TellsRows ops (finished tables s ops combos)
finished_tells tables BeginIt ops combos has are = (tt, tt)
finished_tells tables CommitIt ops combos has are = (tt, tt)
finished_tells tables RollbackIt ops combos has are = (tt, tt)
finished_tells tables (SetIt level) ops combos has are = (tt, tt)
finished_tells tables (InsertInto table rows) ops combos has are = unless_tells (rows_error (slice_get tables table) (map (λ row. Some row) rows)) ops (map (op.Insert table) rows)
finished_tells tables (UpdateOf table assigns condition) ops combos has are =
    unless_tells (rows_error (slice_get tables table) (map (λ s. set_row assigns s.row) (rows_met combos))) ops (filter_map (updating table assigns) (rows_met combos))
finished_tells tables (DeleteFrom table condition) ops combos has are = net_tells ops (map (deleting table) (rows_met combos))
finished_tells tables (SelectOf query) ops combos has are =
    rows_tell (items_used query combos) ops (shape query (map rows_of combos)) (λ rows given. shaped query (map rows_of combos) rows has (all_rows_are combos are) given)

abbrev HasItems : Meaning → Type 0
HasItems (Ok s) = HasAnItem s
HasItems (Err cause) = Unit {0}

finish_tells : (tables : List TableDef) (s : Meaning) (ops : List RowOp) (combos : List (List Seen)) → HasItems s → AllByRecursion (AllByRecursion IsSeen) combos
    → TellsRows ops (finish tables s ops combos)
unfolding finish
finish_tells tables (Ok s) ops combos has are = finished_tells tables s ops combos has are
finish_tells tables (Err cause) ops combos has are = (tt, tt)

-- ---- what a text means

bound_means : (P : BoundStatement → Type 0) (Q : Meaning → Type 0) (tables : List TableDef) (s : Statement) → ((b : BoundStatement) → P b → Q (Ok b))
    → ((cause : StatementError) → Q (Err cause)) → ((b : BoundStatement) → binding tables s ≡ Ok b → P b) → Q (sql_binder tables s)
bound_means P Q tables s bound failed each = go (binding tables s) each
  where
    go : (r : Result BoundStatement FaultKind) → ((b : BoundStatement) → r ≡ Ok b → P b) → Q (meant_as r)
    go (Ok b) each = bound b (each b refl)
    go (Err kind) each = failed _

pub means_well : (tables : List TableDef) (text : List ℕ) → is_utf8 text ≡ true → IsWell (meaning sql_binder tables text)
unfolding meaning
means_well tables text utf8 = go (reading text) refl
  where
    go : (r : Result Statement ℕ) → reading text ≡ r → IsWell (meant_by sql_binder tables r)
    go (Ok s) read =
        bound_means IsBoundWell IsWell tables s (λ b is. is) (λ cause. tt) (λ b binds. bound_well tables s b (written text s utf8 (reading_spells text s read)) binds)
    go (Err at) read = tt

means_items : (tables : List TableDef) (text : List ℕ) → AllByRecursion HasColumns tables → is_utf8 text ≡ true → HasItems (meaning sql_binder tables text)
unfolding meaning
means_items tables text has utf8 = go (reading text) refl
  where
    go : (r : Result Statement ℕ) → reading text ≡ r → HasItems (meant_by sql_binder tables r)
    go (Ok s) read =
        bound_means HasAnItem HasItems tables s (λ b is. is) (λ cause. tt) (λ b binds. items_bound tables s b has (written text s utf8 (reading_spells text s read)) binds)
    go (Err at) read = tt

pub replies_by_such_rows : RepliesBySuchRows
replies_by_such_rows tables versions done text has utf8 have all =
    tells_too (reads_of tables versions done (meaning sql_binder tables text)) done (answer tables versions done (meaning sql_binder tables text))
    (finish_tells tables (meaning sql_binder tables text) done (found versions done (meaning sql_binder tables text)) (means_items tables text has utf8) (all_found_are versions done (meaning sql_binder tables text) have all))

pub leaves_such_rows : LeavesSuchRows
leaves_such_rows tables versions done text utf8 have all =
    leaves_too (reads_of tables versions done (meaning sql_binder tables text)) done (answer tables versions done (meaning sql_binder tables text))
    (finish_leaves tables (meaning sql_binder tables text) done (found versions done (meaning sql_binder tables text)) (means_well tables text utf8) all (all_found_are versions done (meaning sql_binder tables text) have all))

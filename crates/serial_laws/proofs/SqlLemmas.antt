-- The statements of SQL add operations that name their targets' rows rightly.
use Rattle.std.proofs.Common.{ℕ, zero, suc, ◌+◌, ◌-◌, List, [], ◌∷◌, ◌++◌, length, map, eqb, ltb, Option, Some, None, Ok, Err, option_map}
use Rattle.std.proofs.lemmas.Bool.{cond_both}
use Rattle.std.specs.List.{AllByRecursion, filter, flat_map, filter_map, cons_option, slice_get, slice_set}
use Rattle.cdb_values.specs.Rows.{Rows, versions_of}
use Rattle.cdb_values.specs.declared.limits.TheConstants.{MOST_NET_OPERATIONS}
use Rattle.cdb_values.specs.declared.items.GenidItem.{GenidItem}
use Rattle.cdb_values.specs.declared.rows.RowOp.{RowOp}
use Rattle.cdb_values.specs.declared.rows.RowOp.TheVariants as op
use Rattle.cdb_values.specs.declared.rows.RowRef.TheVariants.{Base, Own}
use Rattle.cdb_values.specs.declared.rows.StatementError.{StatementError}
use Rattle.cdb_values.specs.declared.rows.StatementError.TheVariants as error
use Rattle.cdb_values.specs.declared.tables.TableDef.{TableDef}
use Rattle.cdb_values.specs.declared.values.Value.{Value}
use Rattle.net_writes.specs.Net.{held_of, held_at, taken_out, rewritten, undone, held_with, held_after, standing, net_of}
use Rattle.cdb_values.specs.declared.replies.Reply.TheVariants as reply
use Rattle.sql_bind.specs.Bound.{Cond, BeginIt, CommitIt, RollbackIt, SetIt, InsertInto, UpdateOf, DeleteFrom, SelectOf}
use Rattle.sql_bind.specs.declared.types.BoundAssign.{BoundAssign}
use Rattle.sql_answer.specs.Answers.{Meaning, Fails, Gives, told_only, net_given, given_unless, rows_met, updating, deleting, items_used, rows_given, finish, answer, ops_after}
use Rattle.sql_answer.specs.Combinations.{Seen, seen_version, seen_own, own_from, is_left, seen, rows_of, extended, met}
use Rattle.sql_answer.specs.Shapes.{shape}
use Rattle.sql_answer.specs.Writes.{set_row, rows_error}
use Rattle.query_laws.proofs.ListLaws.{all_flat, map_all, all_of_each, all_weaker}
use Rattle.session_language.proofs.EachLaws.{all_append}
use Rattle.session_language.specs.Serial.{IsRowOf, IsTrueTarget, IsTrueOp, IsSound}
use Rattle.serial_laws.specs.Changed.{TellsTrue}
use Rattle.session_language.proofs.SoundLaws.{all_filter}

abbrev Each : {A : Type 0} → (A → Type 0) → Option A → Type 0
Each P None = Unit {0}
Each P (Some x) = P x

-- what an operation may be turned into by a later write
abbrev IsHeld : Rows → List (Option RowOp) → Type 0
IsHeld rows held = AllByRecursion (Each (IsTrueOp rows)) held

held_one : (P : RowOp → Type 0) (held : List (Option RowOp)) (k : ℕ) → AllByRecursion (Each P) held → Each P (held_of (slice_get held k))
held_one P [] k a = tt
held_one P (h ∷ held) zero a = a.0
held_one P (h ∷ held) (suc k) a = held_one P held k a.1

held_at_true : (rows : Rows) (held : List (Option RowOp)) (w : ℕ) → IsHeld rows held → Each (IsTrueOp rows) (held_at held w)
held_at_true rows held w a = cond_both (eqb w 0) None (held_of (slice_get held (w - 1))) (Each (IsTrueOp rows)) (λ _. tt) (λ _. held_one (IsTrueOp rows) held (w - 1) a)

set_none : (P : RowOp → Type 0) (held : List (Option RowOp)) (k : ℕ) → AllByRecursion (Each P) held → AllByRecursion (Each P) (slice_set held k None)
set_none P [] k a = a
set_none P (h ∷ held) zero a = (tt, a.1)
set_none P (h ∷ held) (suc k) a = (a.0, set_none P held k a.1)

out_true : (rows : Rows) (held : List (Option RowOp)) (w : ℕ) → IsHeld rows held → IsHeld rows (taken_out held w)
out_true rows held w a = cond_both (eqb w 0) held (slice_set held (w - 1) None) (IsHeld rows) (λ _. a) (λ _. set_none (IsTrueOp rows) held (w - 1) a)

rewritten_true : (rows : Rows) (h : Option RowOp) (row : List Value) → Each (IsTrueOp rows) h → Each (IsTrueOp rows) (rewritten h row)
rewritten_true rows None row e = tt
rewritten_true rows (Some (op.Insert t r)) row e = tt
rewritten_true rows (Some (op.Update t target old r)) row e = e
rewritten_true rows (Some (op.Delete t target old)) row e = tt

undone_true : (rows : Rows) (h : Option RowOp) → Each (IsTrueOp rows) h → Each (IsTrueOp rows) (undone h)
undone_true rows None e = tt
undone_true rows (Some (op.Insert t r)) e = tt
undone_true rows (Some (op.Update t target old r)) e = e
undone_true rows (Some (op.Delete t target old)) e = tt

with_true : (rows : Rows) (held : List (Option RowOp)) (o : RowOp) → IsHeld rows held → IsTrueOp rows o → IsHeld rows (held_with held o)
with_true rows held (op.Insert t row) a is = all_append (Each (IsTrueOp rows)) held _ a (tt, tt)
with_true rows held (op.Update t (Base g) old row) a is = all_append (Each (IsTrueOp rows)) held _ a (is, tt)
with_true rows held (op.Update t (Own w) old row) a is = all_append (Each (IsTrueOp rows)) (taken_out held w) _ (out_true rows held w a) (rewritten_true rows (held_at held w) row (held_at_true rows held w a), tt)
with_true rows held (op.Delete t (Base g) old) a is = all_append (Each (IsTrueOp rows)) held _ a (is, tt)
with_true rows held (op.Delete t (Own w) old) a is = all_append (Each (IsTrueOp rows)) (taken_out held w) _ (out_true rows held w a) (undone_true rows (held_at held w) (held_at_true rows held w a), tt)

after_true : (rows : Rows) (held : List (Option RowOp)) (os : List RowOp) → IsHeld rows held → AllByRecursion (IsTrueOp rows) os → IsHeld rows (held_after held os)
after_true rows held [] a all = a
after_true rows held (o ∷ os) a all = after_true rows (held_with held o) os (with_true rows held o a all.0) all.1

standing_true : (rows : Rows) (held : List (Option RowOp)) → IsHeld rows held → AllByRecursion (IsTrueOp rows) (standing held)
standing_true rows [] a = tt
standing_true rows (None ∷ held) a = standing_true rows held a.1
standing_true rows (Some o ∷ held) a = (a.0, standing_true rows held a.1)

net_true : (rows : Rows) (ops writes : List RowOp) → AllByRecursion (IsTrueOp rows) ops → AllByRecursion (IsTrueOp rows) writes → AllByRecursion (IsTrueOp rows) (net_of (ops ++ writes))
net_true rows ops writes a b = standing_true rows (held_after [] (ops ++ writes)) (after_true rows [] (ops ++ writes) tt (all_append (IsTrueOp rows) ops writes a b))

net_given_true : (rows : Rows) (ops writes : List RowOp) → AllByRecursion (IsTrueOp rows) ops → AllByRecursion (IsTrueOp rows) writes → AllByRecursion (IsTrueOp rows) (ops_after ops (net_given ops writes))
net_given_true rows ops writes a b =
    cond_both (ltb MOST_NET_OPERATIONS (length (net_of (ops ++ writes)))) (Fails error.TooLong) (Gives (told_only (reply.Changed (length writes))) (net_of (ops ++ writes)))
    (λ o. AllByRecursion (IsTrueOp rows) (ops_after ops o)) (λ _. a) (λ _. net_true rows ops writes a b)

given_true : (rows : Rows) (cause : Option StatementError) (ops writes : List RowOp) → AllByRecursion (IsTrueOp rows) ops → AllByRecursion (IsTrueOp rows) writes →
    AllByRecursion (IsTrueOp rows) (ops_after ops (given_unless cause ops writes))
given_true rows (Some cause) ops writes a b = a
given_true rows None ops writes a b = net_given_true rows ops writes a b

-- a row that is seen has the row that its version has
abbrev IsTrueSeen : Rows → ℕ → Seen → Type 0
IsTrueSeen rows table s = IsTrueTarget rows table s.source s.row

own_true : (rows : Rows) (table at : ℕ) (ops : List RowOp) → AllByRecursion (IsTrueSeen rows table) (own_from at table ops)
own_true rows table at [] = tt
own_true rows table at (op.Insert place row ∷ ops) = cond_both (eqb place table) (seen_own at row ∷ own_from (at + 1) table ops) (own_from (at + 1) table ops) (AllByRecursion (IsTrueSeen rows table)) (λ _. (tt, own_true rows table (at + 1) ops)) (λ _. own_true rows table (at + 1) ops)
own_true rows table at (op.Update place target old row ∷ ops) = cond_both (eqb place table) (seen_own at row ∷ own_from (at + 1) table ops) (own_from (at + 1) table ops) (AllByRecursion (IsTrueSeen rows table)) (λ _. (tt, own_true rows table (at + 1) ops)) (λ _. own_true rows table (at + 1) ops)
own_true rows table at (op.Delete place target old ∷ ops) = own_true rows table (at + 1) ops

seen_true : (rows : Rows) (ops : List RowOp) (table : ℕ) → IsSound rows → AllByRecursion (IsTrueSeen rows table) (seen rows.tables ops table)
seen_true rows ops table sound =
    all_append (IsTrueSeen rows table) (map seen_version (filter (is_left ops table) (versions_of rows table))) (own_from 1 table ops)
    (map_all (IsTrueSeen rows table) seen_version (filter (is_left ops table) (versions_of rows table)) (all_filter (λ v. IsRowOf rows table v.genid v.row) (is_left ops table) (versions_of rows table) (sound table)))
    (own_true rows table 1 ops)

met_true : (rows : Rows) (ops : List RowOp) (table : ℕ) (condition : Option Cond) → IsSound rows → AllByRecursion (AllByRecursion (IsTrueSeen rows table)) (met (seen rows.tables ops) (table ∷ []) condition)
met_true rows ops table condition sound =
    all_filter (AllByRecursion (IsTrueSeen rows table)) _ (flat_map (extended (seen rows.tables ops table)) ([] ∷ []))
    (all_flat (AllByRecursion (IsTrueSeen rows table)) (extended (seen rows.tables ops table)) ([] ∷ [])
    (map_all (AllByRecursion (IsTrueSeen rows table)) (λ s. [] ++ s ∷ []) (seen rows.tables ops table) (all_weaker (IsTrueSeen rows table) (λ s. AllByRecursion (IsTrueSeen rows table) (s ∷ [])) (λ s is. (is, tt)) (seen rows.tables ops table) (seen_true rows ops table sound)), tt))

rows_met_true : (rows : Rows) (table : ℕ) (combos : List (List Seen)) → AllByRecursion (AllByRecursion (IsTrueSeen rows table)) combos → AllByRecursion (IsTrueSeen rows table) (rows_met combos)
rows_met_true rows table combos all = all_flat (IsTrueSeen rows table) (λ combo. combo) combos all

one_update : (rows : Rows) (table : ℕ) (s : Seen) → IsTrueSeen rows table s → (o : Option (List Value)) → Each (IsTrueOp rows) (option_map (op.Update table s.source s.row) o)
one_update rows table s is None = tt
one_update rows table s is (Some row) = is

consed : (P : RowOp → Type 0) (o : Option RowOp) (xs : List RowOp) → Each P o → AllByRecursion P xs → AllByRecursion P (cons_option o xs)
consed P None xs e a = a
consed P (Some x) xs e a = (e, a)

updates_true : (rows : Rows) (table : ℕ) (assigns : List BoundAssign) (seen' : List Seen) → AllByRecursion (IsTrueSeen rows table) seen' → AllByRecursion (IsTrueOp rows) (filter_map (updating table assigns) seen')
updates_true rows table assigns [] all = tt
updates_true rows table assigns (s ∷ rest) all =
    consed (IsTrueOp rows) (updating table assigns s) (filter_map (updating table assigns) rest) (one_update rows table s all.0 (set_row assigns s.row)) (updates_true rows table assigns rest all.1)

deletes_true : (rows : Rows) (table : ℕ) (seen' : List Seen) → AllByRecursion (IsTrueSeen rows table) seen' → AllByRecursion (IsTrueOp rows) (map (deleting table) seen')
deletes_true rows table seen' all = map_all (IsTrueOp rows) (deleting table) seen' (all_weaker (IsTrueSeen rows table) (λ s. IsTrueOp rows (deleting table s)) (λ s is. is) seen' all)

inserts_true : (rows : Rows) (table : ℕ) (new : List (List Value)) → AllByRecursion (IsTrueOp rows) (map (op.Insert table) new)
inserts_true rows table new = map_all (IsTrueOp rows) (op.Insert table) new (all_of_each (λ row. IsTrueOp rows (op.Insert table row)) (λ row. tt) new)

selected_true : (rows : Rows) (uses : List GenidItem) (ops : List RowOp) (o : Option (List (List Value))) → AllByRecursion (IsTrueOp rows) ops → AllByRecursion (IsTrueOp rows) (ops_after ops (rows_given uses ops o))
selected_true rows uses ops None all = all
selected_true rows uses ops (Some given) all = all

statement_true : (tables : List TableDef) (rows : Rows) (ops : List RowOp) (s : Meaning) → IsSound rows → AllByRecursion (IsTrueOp rows) ops → AllByRecursion (IsTrueOp rows) (ops_after ops (answer tables rows.tables ops s))
unfolding finish
statement_true tables rows ops (Ok (InsertInto table new)) sound all =
    given_true rows (rows_error (slice_get tables table) (map (λ row. Some row) new)) ops (map (op.Insert table) new) all (inserts_true rows table new)
statement_true tables rows ops (Ok (UpdateOf table assigns condition)) sound all =
    let found : List Seen = rows_met (met (seen rows.tables ops) (table ∷ []) condition) in
    given_true rows (rows_error (slice_get tables table) (map (λ s. set_row assigns s.row) found)) ops (filter_map (updating table assigns) found) all
    (updates_true rows table assigns found (rows_met_true rows table (met (seen rows.tables ops) (table ∷ []) condition) (met_true rows ops table condition sound)))
statement_true tables rows ops (Ok (DeleteFrom table condition)) sound all =
    let found : List Seen = rows_met (met (seen rows.tables ops) (table ∷ []) condition) in
    net_given_true rows ops (map (deleting table) found) all
    (deletes_true rows table found (rows_met_true rows table (met (seen rows.tables ops) (table ∷ []) condition) (met_true rows ops table condition sound)))
statement_true tables rows ops (Ok (SelectOf query)) sound all =
    let found : List (List Seen) = met (seen rows.tables ops) query.tables query.filter in
    selected_true rows (items_used query found) ops (shape query (map rows_of found)) all
statement_true tables rows ops (Ok BeginIt) sound all = all
statement_true tables rows ops (Ok CommitIt) sound all = all
statement_true tables rows ops (Ok RollbackIt) sound all = all
statement_true tables rows ops (Ok (SetIt level)) sound all = all
statement_true tables rows ops (Err cause) sound all = all

-- SQL names old rows rightly
pub sql_tells_true : (tables : List TableDef) → TellsTrue tables
sql_tells_true tables rows ops s sound all = statement_true tables rows ops s sound all

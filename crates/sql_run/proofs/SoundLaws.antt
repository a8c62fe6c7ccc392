-- Over sound rows, and behind sound operations, each text of SQL leaves sound operations.
use Rattle.std.proofs.Common.{◌≡◌, ℕ, zero, suc, ◌+◌, ◌≤◌, ◌==◌, List, [], ◌∷◌, ◌++◌, length, map, filter, Bool, true, false, cond, not, ltb, ◌&&◌, refl, sym, ◌∙◌, subst, ap, arith, append_assoc, Option, Some, None, Ok, Err, Result}
use Rattle.std.specs.Prelude.{slice_get, option_map, is_none, flat_map}
use Rattle.std.specs.List.{AllByRecursion, cons_option, filter_map, list_any}
use Rattle.std.proofs.lemmas.Bool.{cond_both, or_parts, eqb-true, ltb-false}
use Rattle.std.proofs.lemmas.List.{length-append, length-map}
use Rattle.std.proofs.lemmas.List.Folds.{list_any-append}
use Rattle.std.proofs.lemmas.Option.{same_Some}
use Rattle.cdb_values.specs.Good.{FitsColumn, FitsColumns, FitsTable, bytes_of_row, bytes_of_key, key_of}
use Rattle.cdb_values.specs.Named.{PlacedTable, table_named}
use Rattle.cdb_values.specs.Tables.{has_twice}
use Rattle.cdb_values.specs.declared.items.GenidItem.{GenidItem}
use Rattle.cdb_values.specs.declared.limits.TheConstants.{MOST_NET_OPERATIONS, MOST_ROW_BYTES, MOST_KEY_BYTES}
use Rattle.cdb_values.specs.declared.rows.RowOp.{RowOp}
use Rattle.cdb_values.specs.declared.rows.RowOp.TheVariants.{Insert, Update, Delete}
use Rattle.cdb_values.specs.declared.rows.StatementError.{StatementError}
use Rattle.cdb_values.specs.declared.rows.StatementError.TheVariants as error
use Rattle.cdb_values.specs.declared.rows.Version.{Version}
use Rattle.cdb_values.specs.declared.tables.ColumnDef.{ColumnDef}
use Rattle.cdb_values.specs.declared.tables.KeyDef.{KeyDef}
use Rattle.cdb_values.specs.declared.tables.TableDef.{TableDef}
use Rattle.cdb_values.specs.declared.values.Value.{Value}
use Rattle.cdb_values.specs.declared.values.Value.TheVariants.{Null, Int, Text, Blob}
use Rattle.net_writes.proofs.CountLemmas.{at_suc}
use Rattle.net_writes.specs.Net.{held_of, net_of}
use Rattle.session_language.proofs.EachLaws.{all_append, all_found as found_in_all}
use Rattle.session_language.proofs.AllLaws.{all_filtered}
use Rattle.session_language.specs.Intervals.{is_null}
use Rattle.cdb_values.specs.declared.replies.Reply.TheVariants as reply
use Rattle.sql_answer.specs.Answers.{Meaning, Outcome, Fails, Gives, told_only, net_given, given_unless, rows_met, updating, deleting, items_used, rows_given, finished, finish, found, tables_read, answer}
use Rattle.sql_answer.specs.Combinations.{Seen, seen_version, own_or, own_from, is_left, of_table, seen, rows_of}
use Rattle.sql_answer.specs.Language.{answered, sql_binder, meaning, meant_by, meant_as}
use Rattle.query_laws.specs.Alone.{reads_of}
use Rattle.cdb_values.specs.declared.items.Interval.{Interval}
use Rattle.sql_answer.specs.Reading.{reading}
use Rattle.sql_answer.specs.Shapes.{shape}
use Rattle.sql_answer.specs.Writes.{set_row, has_null, is_too_long, row_error, or_later, rows_error}
use Rattle.sql_bind.specs.Binding.{binding}
use Rattle.sql_bind.specs.Bound.{BoundStatement, BeginIt, CommitIt, RollbackIt, SetIt, InsertInto, UpdateOf, DeleteFrom, SelectOf}
use Rattle.sql_bind.specs.Faults.{FaultKind, own_column, own_columns, setting_columns, setting_differs, tuple_kinds, tuple_differs, width, filter_columns, filter_differs, has_unknown_table, has_unknown_column, has_wrong_type, has_wrong_count}
use Rattle.sql_bind.specs.Meaning.{bound_row, bound_setting, bound_as}
use Rattle.sql_bind.specs.Scope.{Visible, target, visible_at, is_unknown_table, is_unknown}
use Rattle.sql_bind.specs.declared.types.BoundAssign.{BoundAssign}
use Rattle.sql_grammar.specs.Trees as written
use Rattle.sql_grammar.specs.Trees.{Name, Constant, Setting, Statement}
use Rattle.sql_run.specs.Sound.{AreSound, HasDistinctColumns, IsSoundOp, IsSoundVersion, LeavesSoundOps}
use Rattle.sql_run.proofs.BoundLemmas.{faultless, first_known, named_table}
use Rattle.sql_run.proofs.CombinationLemmas.{all_found, all_met}
use Rattle.sql_run.proofs.HeldLemmas.{IsOnTable, IsTarget, IsSoundWrite, table_of, net_is_sound}
use Rattle.sql_run.proofs.TypeLemmas.{IsOfKind, FitKinds, RowFits, IsTypedAssign, row_fits_kinds, setting_fits, set_fits}

-- ---- rows that fit

kinds_of_column : (c : ColumnDef) (v : Value) → FitsColumn c v → IsOfKind c.kind v
kinds_of_column c Null is = tt
kinds_of_column c (Int n) is = is
kinds_of_column c (Text t) is = is
kinds_of_column c (Blob b) is = is

kinds_of_row : (columns : List ColumnDef) (row : List Value) → FitsColumns columns row → FitKinds columns row
kinds_of_row [] [] fits = tt
kinds_of_row [] (v ∷ vs) fits = absurd fits
kinds_of_row (c ∷ cs) [] fits = absurd fits
kinds_of_row (c ∷ cs) (v ∷ vs) fits = (kinds_of_column c v fits.0, kinds_of_row cs vs fits.1)

nullable_is : (b : Bool) → (not b && true) ≡ false → b ≡ true
nullable_is true is = refl
nullable_is false is = absurd cc

column_fits : (c : ColumnDef) (v : Value) → IsOfKind c.kind v → (not c.nullable && is_null v) ≡ false → FitsColumn c v
column_fits c Null is filled = nullable_is c.nullable filled
column_fits c (Int n) is filled = is
column_fits c (Text t) is filled = is
column_fits c (Blob b) is filled = is

columns_fit : (columns : List ColumnDef) (row : List Value) → FitKinds columns row → has_null columns row ≡ false → FitsColumns columns row
columns_fit [] [] fits filled = tt
columns_fit [] (v ∷ vs) fits filled = absurd fits
columns_fit (c ∷ cs) [] fits filled = absurd fits
columns_fit (c ∷ cs) (v ∷ vs) fits filled =
    let parts = or_parts (not c.nullable && is_null v) (has_null cs vs) filled in
    (column_fits c v fits.0 parts.0, columns_fit cs vs fits.1 parts.1)

keys_fit : (keys : List KeyDef) (row : List Value) → list_any (λ key. ltb MOST_KEY_BYTES (bytes_of_key (key_of key row))) keys ≡ false → AllByRecursion (λ key. bytes_of_key (key_of key row) ≤ MOST_KEY_BYTES) keys
keys_fit [] row short = tt
keys_fit (key ∷ keys) row short =
    let parts = or_parts (ltb MOST_KEY_BYTES (bytes_of_key (key_of key row))) (list_any (λ (k : KeyDef). ltb MOST_KEY_BYTES (bytes_of_key (key_of k row))) keys) short in
    (ltb-false MOST_KEY_BYTES (bytes_of_key (key_of key row)) parts.0, keys_fit keys row parts.1)

none_when : (b : Bool) (e : StatementError) (rest : Option StatementError) → cond b (Some e) rest ≡ None → (b ≡ false) × (rest ≡ None)
none_when true e rest is = absurd cc
none_when false e rest is = (refl, is)

-- a row of its table's types without an error fits
row_fits : (table : TableDef) (row : List Value) → FitKinds table.columns row → row_error (Some table) (Some row) ≡ None → FitsTable table row
row_fits table row kinds free =
    let long : Bool = is_too_long table.keys row in
    let a = none_when (has_null table.columns row) error.NotNull (cond long (Some error.TooLong) None) free in
    let c = none_when long error.TooLong None a.1 in
    let parts = or_parts (ltb MOST_ROW_BYTES (bytes_of_row row)) (list_any (λ (key : KeyDef). ltb MOST_KEY_BYTES (bytes_of_key (key_of key row))) table.keys) c.0 in
    record {
      columns = columns_fit table.columns row kinds a.0;
      size = ltb-false MOST_ROW_BYTES (bytes_of_row row) parts.0;
      keys = keys_fit table.keys row parts.1;
    }

or_none : (first later : Option StatementError) → or_later first later ≡ None → (first ≡ None) × (later ≡ None)
or_none None later is = (refl, is)
or_none (Some e) later is = absurd cc

-- ---- the rows that a transaction sees

versions_at : (tables : List TableDef) (next : ℕ) (versions : List (List Version)) (place : ℕ) (table : TableDef) → AreSound tables next versions → slice_get tables place ≡ Some table
    → AllByRecursion (IsSoundVersion table next) (of_table versions place)
versions_at [] next versions place table sound at = absurd cc
versions_at (first ∷ tables) next [] place table sound at = absurd sound
versions_at (first ∷ tables) next (vs ∷ others) zero table sound at = subst (λ (t : TableDef). AllByRecursion (IsSoundVersion t next) vs) (same_Some first table at) sound.0
versions_at (first ∷ tables) next (vs ∷ others) (suc place) table sound at = versions_at tables next others place table sound.1 at

module _ (tables : List TableDef) (next : ℕ) (done : List RowOp) (place : ℕ) (table : TableDef) (at : slice_get tables place ≡ Some table) where
  -- a row that fits its table, of a version below the next genid, or of an own write on the table
  abbrev IsSoundSeen : Seen → Type 0
  IsSoundSeen s = FitsTable table s.row × IsTarget next (map (λ op. Some op) done) place s.source

  versions_seen : (versions : List Version) → AllByRecursion (IsSoundVersion table next) versions → AllByRecursion IsSoundSeen (map seen_version versions)
  versions_seen [] all = tt
  versions_seen (v ∷ vs) all = (all.0, versions_seen vs all.1)

  written_at : (front : List RowOp) (op : RowOp) (ops : List RowOp) → done ≡ front ++ op ∷ ops → (table_of op == place) ≡ true → IsOnTable (map (λ o. Some o) done) (suc (length front)) place
  written_at front op ops splits here =
      let on : table_of op ≡ place = eqb-true (table_of op) place here in
      let long : length (map (λ (o : RowOp). Some o) done) ≡ length done = length-map done (λ (o : RowOp). Some o) in
      let whole : length done ≡ length (front ++ op ∷ ops) = ap length splits in
      let parts : length (front ++ op ∷ ops) ≡ length front + length (op ∷ ops) = length-append front (op ∷ ops) in
      let there : slice_get (map (λ (o : RowOp). Some o) done) (length front) ≡ Some (Some op) = ap (λ (l : List RowOp). slice_get (map (λ (o : RowOp). Some o) l) (length front)) splits ∙ at_front front in
      record {
        within = omega arith;
        on = λ o is.
            let same : Some op ≡ Some o = sym (ap held_of there) ∙ sym (at_suc (map (λ (x : RowOp). Some x) done) (length front)) ∙ is in
            ap table_of (sym (same_Some op o same)) ∙ on;
      }
    where
      at_front : (xs : List RowOp) → slice_get (map (λ (o : RowOp). Some o) (xs ++ op ∷ ops)) (length xs) ≡ Some (Some op)
      at_front [] = refl
      at_front (x ∷ xs) = at_front xs

  one_own : (front : List RowOp) (op : RowOp) (ops : List RowOp) (row : List Value) (t : TableDef) (number : ℕ) (later : List Seen) → done ≡ front ++ op ∷ ops → number ≡ suc (length front)
      → slice_get tables (table_of op) ≡ Some t → FitsTable t row → AllByRecursion IsSoundSeen later → AllByRecursion IsSoundSeen (own_or number row (table_of op == place) later)
  one_own front op ops row t number later splits counts there fits all = go (table_of op == place) refl
    where
      go : (b : Bool) → (table_of op == place) ≡ b → AllByRecursion IsSoundSeen (own_or number row b later)
      go true here =
          let on : table_of op ≡ place = eqb-true (table_of op) place here in
          let same : t ≡ table = same_Some t table (sym there ∙ ap (λ (n : ℕ). slice_get tables n) on ∙ at) in
          let writes : IsOnTable (map (λ o. Some o) done) number place = subst (λ (n : ℕ). IsOnTable (map (λ (o : RowOp). Some o) done) n place) (sym counts) (written_at front op ops splits here) in
          ((subst (λ (d : TableDef). FitsTable d row) same fits, writes), all)
      go false other = all

  own_seen : (front ops : List RowOp) (number : ℕ) → done ≡ front ++ ops → number ≡ suc (length front) → AllByRecursion (IsSoundOp tables next) ops → AllByRecursion IsSoundSeen (own_from number place ops)
  own_seen front [] number splits counts all = tt
  own_seen front (op ∷ ops) number splits counts all =
      step op all.0 splits (own_seen (front ++ op ∷ []) ops (number + 1) (splits ∙ sym (append_assoc front (op ∷ []) ops)) counted all.1)
    where
      grown : length (front ++ op ∷ []) ≡ length front + length (op ∷ [])
      grown = length-append front (op ∷ [])

      counted : number + 1 ≡ suc (length (front ++ op ∷ []))
      counted = let long : length (front ++ op ∷ []) ≡ length front + length (op ∷ []) = grown in omega arith

      step : (o : RowOp) → IsSoundOp tables next o → done ≡ front ++ o ∷ ops → AllByRecursion IsSoundSeen (own_from (number + 1) place ops) → AllByRecursion IsSoundSeen (own_from number place (o ∷ ops))
      step (Insert p row) (t, there, fits) splits later = one_own front (Insert p row) ops row t number (own_from (number + 1) place ops) splits counts there fits later
      step (Update p target old row) (t, there, fits, below) splits later = one_own front (Update p target old row) ops row t number (own_from (number + 1) place ops) splits counts there fits later
      step (Delete p target old) is splits later = later

  all_seen : (versions : List (List Version)) → AreSound tables next versions → AllByRecursion (IsSoundOp tables next) done → AllByRecursion IsSoundSeen (seen versions done place)
  all_seen versions sound all =
      all_append IsSoundSeen (map seen_version (filter (is_left done place) (of_table versions place))) (own_from 1 place done)
      (versions_seen (filter (is_left done place) (of_table versions place))
      (all_filtered (IsSoundVersion table next) (is_left done place) (of_table versions place) (versions_at tables next versions place table sound at)))
      (own_seen [] done 1 refl (omega arith) all)

  -- the rows that a write of this table meets
  rows_met_are : (versions : List (List Version)) (s : BoundStatement) → AreSound tables next versions → AllByRecursion (IsSoundOp tables next) done → tables_read (Ok s) ≡ place ∷ []
      → AllByRecursion IsSoundSeen (rows_met (found versions done (Ok s)))
  rows_met_are versions s sound all reads =
      all_met IsSoundSeen (found versions done (Ok s))
      (all_found IsSoundSeen versions done (Ok s) (subst (AllByRecursion (λ (t : ℕ). AllByRecursion IsSoundSeen (seen versions done t))) (sym reads) (all_seen versions sound all, tt)))

  -- ---- writes

  abbrev IsWrite : RowOp → Type 0
  IsWrite w = IsSoundWrite tables next (map (λ op. Some op) done) w

  inserts_are : (rows : List (List Value)) → AllByRecursion (FitKinds table.columns) rows → rows_error (Some table) (map (λ row. Some row) rows) ≡ None → AllByRecursion IsWrite (map (Insert place) rows)
  inserts_are [] kinds free = tt
  inserts_are (row ∷ rows) kinds free =
      let parts = or_none (row_error (Some table) (Some row)) (rows_error (Some table) (map (λ (r : List Value). Some r) rows)) free in
      ((table, at, row_fits table row kinds.0 parts.0), inserts_are rows kinds.1 parts.1)

  one_update : (s : Seen) (o : Option (List Value)) (later : List RowOp) → IsSoundSeen s → RowFits table.columns o → row_error (Some table) o ≡ None → AllByRecursion IsWrite later
      → AllByRecursion IsWrite (cons_option (option_map (Update place s.source s.row) o) later)
  one_update s None later is kinds free all = all
  one_update s (Some row) later is kinds free all = ((table, at, row_fits table row kinds free, is.1), all)

  updates_are : (assigns : List BoundAssign) (rows : List Seen) → AllByRecursion (IsTypedAssign table.columns) assigns → AllByRecursion IsSoundSeen rows
      → rows_error (Some table) (map (λ s. set_row assigns s.row) rows) ≡ None → AllByRecursion IsWrite (filter_map (updating place assigns) rows)
  updates_are assigns [] typed all free = tt
  updates_are assigns (s ∷ rows) typed all free =
      let parts = or_none (row_error (Some table) (set_row assigns s.row)) (rows_error (Some table) (map (λ (x : Seen). set_row assigns x.row) rows)) free in
      let kinds : FitKinds table.columns s.row = kinds_of_row table.columns s.row all.0.0.columns in
      one_update s (set_row assigns s.row) (filter_map (updating place assigns) rows) all.0 (set_fits table.columns s.row s.row assigns typed kinds kinds) parts.0 (updates_are assigns rows typed all.1 parts.1)

  deletes_are : (rows : List Seen) → AllByRecursion IsSoundSeen rows → AllByRecursion IsWrite (map (deleting place) rows)
  deletes_are [] all = tt
  deletes_are (s ∷ rows) all = ((table, at, all.0.1), deletes_are rows all.1)

-- ---- what a statement leaves

abbrev LeavesSound : List TableDef → ℕ → List RowOp → Outcome → Type 0
LeavesSound tables next ops outcome = AllByRecursion (IsSoundOp tables next) (answered [] ops outcome).ops

-- whatever was read for it
sound_too : (tables : List TableDef) (next : ℕ) (ranges : List Interval) (ops : List RowOp) (outcome : Outcome) → LeavesSound tables next ops outcome → AllByRecursion (IsSoundOp tables next) (answered ranges ops outcome).ops
sound_too tables next ranges ops (Fails cause) is = is
sound_too tables next ranges ops (Gives told after) is = is

net_leaves : (tables : List TableDef) (next : ℕ) (ops writes : List RowOp) → AllByRecursion (IsSoundOp tables next) ops → AllByRecursion (IsSoundWrite tables next (map (λ op. Some op) ops)) writes
    → LeavesSound tables next ops (net_given ops writes)
net_leaves tables next ops writes all are =
    cond_both (ltb MOST_NET_OPERATIONS (length (net_of (ops ++ writes)))) (Fails error.TooLong) (Gives (told_only (reply.Changed (length writes))) (net_of (ops ++ writes)))
    (LeavesSound tables next ops) (λ past. all) (λ fits. net_is_sound tables next ops writes all are)

unless_leaves : (tables : List TableDef) (next : ℕ) (cause : Option StatementError) (ops writes : List RowOp) → AllByRecursion (IsSoundOp tables next) ops
    → (cause ≡ None → AllByRecursion (IsSoundWrite tables next (map (λ op. Some op) ops)) writes) → LeavesSound tables next ops (given_unless cause ops writes)
unless_leaves tables next (Some cause) ops writes all are = all
unless_leaves tables next None ops writes all are = net_leaves tables next ops writes all (are refl)

rows_leave : (tables : List TableDef) (next : ℕ) (uses : List GenidItem) (ops : List RowOp) (rows : Option (List (List Value))) → AllByRecursion (IsSoundOp tables next) ops
    → LeavesSound tables next ops (rows_given uses ops rows)
rows_leave tables next uses ops None all = all
rows_leave tables next uses ops (Some rows) all = all

-- a statement that names a table of the schema, and has its types
abbrev IsTyped : List TableDef → BoundStatement → Type 0
IsTyped tables BeginIt = Unit {0}
IsTyped tables CommitIt = Unit {0}
IsTyped tables RollbackIt = Unit {0}
IsTyped tables (SetIt level) = Unit {0}
IsTyped tables (InsertInto place rows) = (table : TableDef) × (slice_get tables place ≡ Some table) × AllByRecursion (FitKinds table.columns) rows
IsTyped tables (UpdateOf place assigns condition) = (table : TableDef) × (slice_get tables place ≡ Some table) × AllByRecursion (IsTypedAssign table.columns) assigns
IsTyped tables (DeleteFrom place condition) = (table : TableDef) × (slice_get tables place ≡ Some table)
IsTyped tables (SelectOf query) = Unit {0}

statement_leaves : (tables : List TableDef) (versions : List (List Version)) (done : List RowOp) (next : ℕ) (s : BoundStatement) → AreSound tables next versions → AllByRecursion (IsSoundOp tables next) done
    → IsTyped tables s → LeavesSound tables next done (finished tables s done (found versions done (Ok s)))
statement_leaves tables versions done next BeginIt sound all typed = all
statement_leaves tables versions done next CommitIt sound all typed = all
statement_leaves tables versions done next RollbackIt sound all typed = all
statement_leaves tables versions done next (SetIt level) sound all typed = all
statement_leaves tables versions done next (InsertInto place rows) sound all (table, at, kinds) =
    unless_leaves tables next (rows_error (slice_get tables place) (map (λ row. Some row) rows)) done (map (Insert place) rows) all
    (λ free. inserts_are tables next done place table at rows kinds (subst (λ (o : Option TableDef). rows_error o (map (λ (row : List Value). Some row) rows) ≡ None) at free))
statement_leaves tables versions done next (UpdateOf place assigns condition) sound all (table, at, typed) =
    let rows : List Seen = rows_met (found versions done (Ok (UpdateOf place assigns condition))) in
    unless_leaves tables next (rows_error (slice_get tables place) (map (λ s. set_row assigns s.row) rows)) done (filter_map (updating place assigns) rows) all
    (λ free. updates_are tables next done place table at assigns rows typed (rows_met_are tables next done place table at versions (UpdateOf place assigns condition) sound all refl)
    (subst (λ (o : Option TableDef). rows_error o (map (λ (s : Seen). set_row assigns s.row) rows) ≡ None) at free))
statement_leaves tables versions done next (DeleteFrom place condition) sound all (table, at) =
    let rows : List Seen = rows_met (found versions done (Ok (DeleteFrom place condition))) in
    net_leaves tables next done (map (deleting place) rows) all (deletes_are tables next done place table at rows (rows_met_are tables next done place table at versions (DeleteFrom place condition) sound all refl))
statement_leaves tables versions done next (SelectOf query) sound all typed =
    rows_leave tables next (items_used query (found versions done (Ok (SelectOf query)))) done (shape query (map rows_of (found versions done (Ok (SelectOf query))))) all

-- ---- what a text means has its table's types

-- the target of a statement whose table is known
record IsTargetOf (tables : List TableDef) (name : Name) : Type 0 where
  table : TableDef
  at : slice_get tables (target tables name).table ≡ Some table
  columns : (target tables name).columns ≡ table.columns

target_is : (tables : List TableDef) (name : Name) → is_none (table_named tables name) ≡ false → IsTargetOf tables name
target_is tables name known = go (table_named tables name) refl known
  where
    go : (o : Option PlacedTable) → table_named tables name ≡ o → is_none o ≡ false → IsTargetOf tables name
    go None found known = absurd cc
    go (Some p) found known =
        let same : visible_at name (Some p) ≡ target tables name = ap (visible_at name) (sym found) in
        record {
          table = p.table;
          at = subst (λ (v : Visible). slice_get tables v.table ≡ Some p.table) same (named_table tables name p found);
          columns = subst (λ (v : Visible). v.columns ≡ p.table.columns) same refl;
        }

rows_typed : (table : Visible) (names : Option (List Name)) (rows : List (List Constant)) → has_twice (map (λ column. column.name) table.columns) ≡ false
    → list_any (λ row. not (length row == width table names)) rows ≡ false → list_any (is_unknown (table ∷ [])) (own_columns names) ≡ false
    → list_any (tuple_differs (tuple_kinds table names)) rows ≡ false → AllByRecursion (FitKinds table.columns) (map (bound_row table names) rows)
rows_typed table names [] once counted known agrees = tt
rows_typed table names (row ∷ rows) once counted known agrees =
    let counts = or_parts (not (length row == width table names)) (list_any (λ (r : List Constant). not (length r == width table names)) rows) counted in
    let types = or_parts (tuple_differs (tuple_kinds table names) row) (list_any (tuple_differs (tuple_kinds table names)) rows) agrees in
    (row_fits_kinds table names row once counts.0 known types.0, rows_typed table names rows once counts.1 known types.1)

settings_typed : (table : Visible) (settings : List Setting) → list_any (is_unknown (table ∷ [])) (map (λ s. own_column s.column) settings) ≡ false
    → list_any (is_unknown (table ∷ [])) (flat_map setting_columns settings) ≡ false → list_any (setting_differs table) settings ≡ false
    → AllByRecursion (IsTypedAssign table.columns) (map (bound_setting (table ∷ [])) settings)
settings_typed table [] known others agrees = tt
settings_typed table (s ∷ ss) known others agrees =
    let knows = or_parts (is_unknown (table ∷ []) (own_column s.column)) (list_any (is_unknown (table ∷ [])) (map (λ (x : Setting). own_column x.column) ss)) known in
    let sides = or_parts (list_any (is_unknown (table ∷ [])) (setting_columns s)) (list_any (is_unknown (table ∷ [])) (flat_map setting_columns ss))
    (sym (list_any-append (is_unknown (table ∷ [])) (setting_columns s) (flat_map setting_columns ss)) ∙ others) in
    let types = or_parts (setting_differs table s) (list_any (setting_differs table) ss) agrees in
    (setting_fits table s knows.0 sides.0 types.0, settings_typed table ss knows.1 sides.1 types.1)

distinct_at : (tables : List TableDef) (name : Name) (t : IsTargetOf tables name) → AllByRecursion HasDistinctColumns tables → has_twice (map (λ column. column.name) (target tables name).columns) ≡ false
distinct_at tables name t all =
    subst (λ (cs : List ColumnDef). has_twice (map (λ (column : ColumnDef). column.name) cs) ≡ false) (sym t.columns) (found_in_all HasDistinctColumns tables (target tables name).table t.table all t.at)

typed_as : (tables : List TableDef) (s : Statement) → AllByRecursion HasDistinctColumns tables → has_unknown_table tables s ≡ false → has_unknown_column tables s ≡ false → has_wrong_type tables s ≡ false
    → has_wrong_count tables s ≡ false → IsTyped tables (bound_as tables s)
unfolding bound_as
typed_as tables written.BeginIt all tabled known agrees counted = tt
typed_as tables written.CommitIt all tabled known agrees counted = tt
typed_as tables written.RollbackIt all tabled known agrees counted = tt
typed_as tables written.SnapshotIt all tabled known agrees counted = tt
typed_as tables written.SerializableIt all tabled known agrees counted = tt
typed_as tables (written.InsertInto name names rows) all tabled known agrees counted =
    let t : IsTargetOf tables name = target_is tables name (first_known (is_unknown_table tables name) tabled) in (
      t.table,
      t.at,
      subst (λ (cs : List ColumnDef). AllByRecursion (FitKinds cs) (map (bound_row (target tables name) names) rows)) t.columns
          (rows_typed (target tables name) names rows (distinct_at tables name t all) counted known agrees),
    )
typed_as tables (written.UpdateOf name settings filter) all tabled known agrees counted =
    let table : Visible = target tables name in
    let t : IsTargetOf tables name = target_is tables name (first_known (is_unknown_table tables name) tabled) in
    let own = map (λ (s : Setting). own_column s.column) settings in
    let others = flat_map setting_columns settings in
    let a = or_parts (list_any (is_unknown (table ∷ [])) own) (list_any (is_unknown (table ∷ [])) (others ++ filter_columns filter))
    (sym (list_any-append (is_unknown (table ∷ [])) own (others ++ filter_columns filter)) ∙ known) in
    let c = or_parts (list_any (is_unknown (table ∷ [])) others) (list_any (is_unknown (table ∷ [])) (filter_columns filter))
    (sym (list_any-append (is_unknown (table ∷ [])) others (filter_columns filter)) ∙ a.1) in
    let types = or_parts (list_any (setting_differs table) settings) (filter_differs (table ∷ []) filter) agrees in
    (t.table, t.at, subst (λ (cs : List ColumnDef). AllByRecursion (IsTypedAssign cs) (map (bound_setting (table ∷ [])) settings)) t.columns (settings_typed table settings a.0 c.0 types.0))
typed_as tables (written.DeleteFrom name filter) all tabled known agrees counted =
    let t : IsTargetOf tables name = target_is tables name (first_known (is_unknown_table tables name) tabled) in
    (t.table, t.at)
typed_as tables (written.SelectOf query) all tabled known agrees counted = tt

-- ---- texts

abbrev IsTypedMeaning : List TableDef → Meaning → Type 0
IsTypedMeaning tables (Ok s) = IsTyped tables s
IsTypedMeaning tables (Err cause) = Unit {0}

meant_typed : (tables : List TableDef) (s : Statement) → AllByRecursion HasDistinctColumns tables → IsTypedMeaning tables (sql_binder tables s)
meant_typed tables s all = go (binding tables s) refl
  where
    go : (r : Result BoundStatement FaultKind) → binding tables s ≡ r → IsTypedMeaning tables (meant_as r)
    go (Ok b) binds = let f = faultless tables s b binds in subst (IsTyped tables) f.is (typed_as tables s all f.table f.column f.type_ f.count)
    go (Err kind) binds = tt

text_typed : (tables : List TableDef) (text : List ℕ) → AllByRecursion HasDistinctColumns tables → IsTypedMeaning tables (meaning sql_binder tables text)
unfolding meaning
text_typed tables text all = go (reading text)
  where
    go : (r : Result Statement ℕ) → IsTypedMeaning tables (meant_by sql_binder tables r)
    go (Ok s) = meant_typed tables s all
    go (Err at) = tt

meaning_leaves : (tables : List TableDef) (versions : List (List Version)) (done : List RowOp) (next : ℕ) (m : Meaning) → AreSound tables next versions → AllByRecursion (IsSoundOp tables next) done
    → IsTypedMeaning tables m → LeavesSound tables next done (finish tables m done (found versions done m))
unfolding finish
meaning_leaves tables versions done next (Ok s) sound all typed = statement_leaves tables versions done next s sound all typed
meaning_leaves tables versions done next (Err cause) sound all typed = all

pub leaves_sound_ops : LeavesSoundOps
leaves_sound_ops tables versions done text next distinct sound all =
    sound_too tables next (reads_of tables versions done (meaning sql_binder tables text)) done (answer tables versions done (meaning sql_binder tables text))
    (meaning_leaves tables versions done next (meaning sql_binder tables text) sound all (text_typed tables text distinct))

-- The language of SQL is answered alike on rows that the intervals which it reads do not tell apart.
use Rattle.std.proofs.Common.{◌≡◌, ℕ, List, [], ◌∷◌, refl, sym, ap, subst, map, Bool, true, false, ◌&&◌, ◌||◌, not, cond, if◌then◌else◌, length, Option, Some, None, ◌∙◌}
use Rattle.std.specs.List.{AllByRecursion, filter, slice_get}
use Rattle.cdb_values.specs.Order.{value_order}
use Rattle.cdb_values.specs.Rows.{Rows, versions_of}
use Rattle.cdb_values.specs.declared.items.Interval as declared
use Rattle.cdb_values.specs.declared.rows.RowOp.{RowOp}
use Rattle.cdb_values.specs.declared.rows.Version.{Version}
use Rattle.cdb_values.specs.declared.tables.KeyDef.{KeyDef}
use Rattle.cdb_values.specs.declared.tables.TableDef.{TableDef}
use Rattle.cdb_values.specs.declared.values.Value.{Value}
use Rattle.cdb_values.specs.declared.values.Value.TheVariants.{Null, Int, Text, Blob}
use Rattle.session_language.specs.Intervals as told
use Rattle.session_language.specs.Language.{Answered, answers_from, alone}
use Rattle.session_language.specs.Serial.{answers_on, lasting, lasting_from, without_failures}
use Rattle.sql_bind.specs.declared.types.Cmp.{Cmp}
use Rattle.sql_bind.specs.declared.types.Cmp.TheVariants as cmp
use Rattle.sql_answer.specs.Answers.{Outcome, Fails, Gives, answer, ops_after}
use Rattle.sql_answer.specs.Language.{Binder, meaning, answered, language_of}
use Rattle.sql_answer.specs.Truth.{Unknown, is_yes, truth_of, stands, compared}
use Rattle.sql_answer.specs.Writes.{keys_of}
use Rattle.query_laws.specs.Alone.{edge_out, interval_out, reads_of}
use Rattle.query_laws.specs.Intervals.{Edge, Free, AtLeast, Above, AtMost, Below, Interval, is_within, are_equal, is_between, lies_by, lies_at, lies}
use Rattle.query_laws.specs.Runs.{ranges_of, used_if, run_from}
use Rattle.query_laws.specs.Stable.{inside, HoldsTheSame}
use Rattle.query_laws.proofs.AloneLemmas.{after_is, alone_is_run}
use Rattle.query_laws.proofs.ListLaws.{all_map, all_weaker, all_back}
use Rattle.session_language.proofs.EachLaws.{all_front}
use Rattle.session_language.specs.Intervals.{cell, is_null}
use Rattle.query_laws.proofs.RunLaws.{answer_same, reads_same}

null_same : (v : Value) → is_null v ≡ told.is_null v
null_same Null = refl
null_same (Int n) = refl
null_same (Text text) = refl
null_same (Blob blob) = refl

yes_step : (null c : Bool) → is_yes (if null then Unknown else truth_of c) ≡ (not null && c)
yes_step true c = refl
yes_step false true = refl
yes_step false false = refl

-- a comparison that is true, said of the order
says : (op : Cmp) (a b : Value) → is_yes (compared op a b) ≡ told.stand_so (stands op) a b
says op a b =
    yes_step (is_null a || is_null b) (stands op (value_order a b))
    ∙ ap (λ n. not (n || is_null b) && stands op (value_order a b)) (null_same a)
    ∙ ap (λ n. not (told.is_null a || n) && stands op (value_order a b)) (null_same b)

within_same : (e : Edge) (v : Value) → told.is_within (edge_out e) v ≡ is_within e v
within_same Free v = refl
within_same (AtLeast x) v = sym (says cmp.Ge v x)
within_same (Above x) v = sym (says cmp.Gt v x)
within_same (AtMost x) v = sym (says cmp.Le v x)
within_same (Below x) v = sym (says cmp.Lt v x)

equal_same : (columns : List ℕ) (values row : List Value) → told.are_equal columns values row ≡ are_equal columns values row
equal_same columns [] row = refl
equal_same [] (v ∷ values) row = refl
equal_same (column ∷ columns) (v ∷ values) row =
    ap (λ b. b && told.are_equal columns values row) (sym (says cmp.Eq (cell row column) v))
    ∙ ap (λ b. is_yes (compared cmp.Eq (cell row column) v) && b) (equal_same columns values row)

between_same : (column : Option ℕ) (low high : Edge) (row : List Value) → told.is_between column (edge_out low) (edge_out high) row ≡ is_between column low high row
between_same None low high row = refl
between_same (Some column) low high row =
    ap (λ b. b && told.is_within (edge_out high) (cell row column)) (within_same low (cell row column))
    ∙ ap (λ b. is_within low (cell row column) && b) (within_same high (cell row column))

by_same : (key : Option KeyDef) (i : Interval) (row : List Value) → told.lies_by key (interval_out i) row ≡ lies_by key i row
by_same None i row = refl
by_same (Some key) i row =
    ap (λ b. b && told.is_between (slice_get key.columns (length i.equal)) (edge_out i.low) (edge_out i.high) row) (equal_same key.columns i.equal row)
    ∙ ap (λ b. are_equal key.columns i.equal row && b) (between_same (slice_get key.columns (length i.equal)) i.low i.high row)

at_same : (keys : List KeyDef) (key : Option ℕ) (i : Interval) (row : List Value) → told.lies_at keys key (interval_out i) row ≡ lies_at keys key i row
at_same keys None i row = refl
at_same keys (Some key) i row = by_same (slice_get keys key) i row

keys_same : (table : Option TableDef) → told.keys_in table ≡ keys_of table
keys_same None = refl
keys_same (Some table) = refl

-- the same rows lie in an interval as it is told
pub lies_out : (tables : List TableDef) (i : Interval) (row : List Value) → told.lies tables (interval_out i) row ≡ lies tables i row
lies_out tables i row =
    ap (λ b. not i.empty && b)
    (ap (λ (keys : List KeyDef). told.lies_at keys i.key (interval_out i) row) (keys_same (slice_get tables i.table)) ∙ at_same (keys_of (slice_get tables i.table)) i.key i row)

filter_same : (p q : Version → Bool) → ((v : Version) → p v ≡ q v) → (vs : List Version) → filter p vs ≡ filter q vs
filter_same p q same [] = refl
filter_same p q same (v ∷ vs) =
    ap (λ b. cond b (v ∷ filter p vs) (filter p vs)) (same v) ∙ ap (λ rest. cond (q v) (v ∷ rest) rest) (filter_same p q same vs)

inside_out : (tables : List TableDef) (i : Interval) (rows : Rows) → told.inside tables (interval_out i) rows ≡ inside tables i rows
inside_out tables i rows = filter_same (λ v. told.lies tables (interval_out i) v.row) (λ v. lies tables i v.row) (λ v. lies_out tables i v.row) (versions_of rows i.table)

holds_out : (tables : List TableDef) (rows others : Rows) (i : Interval) → told.HoldsTheSame tables rows others (interval_out i) → HoldsTheSame tables rows others i
holds_out tables rows others i same = sym (inside_out tables i others) ∙ same ∙ inside_out tables i rows

module _ (bind : Binder) (tables : List TableDef) (rows others : Rows) where
  -- a text that is answered, and those behind it
  answers_step : (ops : List RowOp) (text : List ℕ) (texts : List (List ℕ)) (o : Outcome) → answer tables rows.tables ops (meaning bind tables text) ≡ o →
      AllByRecursion (HoldsTheSame tables rows others) (used_if o (ranges_of tables rows.tables ops (meaning bind tables text))) →
      answers_from (language_of bind reads_of) tables others.tables (answered (reads_of tables rows.tables ops (meaning bind tables text)) ops o).ops
      (lasting_from (language_of bind reads_of) tables rows.tables (answered (reads_of tables rows.tables ops (meaning bind tables text)) ops o).ops texts)
      ≡ without_failures (answers_from (language_of bind reads_of) tables rows.tables (answered (reads_of tables rows.tables ops (meaning bind tables text)) ops o).ops texts) →
      answers_from (language_of bind reads_of) tables others.tables ops
      (if (answered (reads_of tables rows.tables ops (meaning bind tables text)) ops o).failed
      then lasting_from (language_of bind reads_of) tables rows.tables (answered (reads_of tables rows.tables ops (meaning bind tables text)) ops o).ops texts
      else text ∷ lasting_from (language_of bind reads_of) tables rows.tables (answered (reads_of tables rows.tables ops (meaning bind tables text)) ops o).ops texts)
      ≡ without_failures (answered (reads_of tables rows.tables ops (meaning bind tables text)) ops o
      ∷ answers_from (language_of bind reads_of) tables rows.tables (answered (reads_of tables rows.tables ops (meaning bind tables text)) ops o).ops texts)
  answers_step ops text texts (Fails cause) is same rest = rest
  answers_step ops text texts (Gives given after) is same rest =
      let now : answer tables others.tables ops (meaning bind tables text) ≡ Gives given after = answer_same tables rows others ops (meaning bind tables text) same ∙ is in
      let first : (language_of bind reads_of).answer tables others.tables ops text ≡ answered (reads_of tables rows.tables ops (meaning bind tables text)) ops (Gives given after) =
      ap (λ (o : Outcome). answered (reads_of tables others.tables ops (meaning bind tables text)) ops o) now
      ∙ ap (λ (l : List Interval). answered (map interval_out l) ops (Gives given after)) (reads_same tables rows others ops (meaning bind tables text) same) in
      ap (λ (a : Answered). a ∷ answers_from (language_of bind reads_of) tables others.tables a.ops (lasting_from (language_of bind reads_of) tables rows.tables after texts)) first
      ∙ ap (λ (l : List Answered). answered (reads_of tables rows.tables ops (meaning bind tables text)) ops (Gives given after) ∷ l) rest

  answers_same : (ops : List RowOp) (texts : List (List ℕ)) → AllByRecursion (HoldsTheSame tables rows others) (run_from tables rows.tables ops (map (meaning bind tables) texts)).ranges →
      answers_from (language_of bind reads_of) tables others.tables ops (lasting_from (language_of bind reads_of) tables rows.tables ops texts)
      ≡ without_failures (answers_from (language_of bind reads_of) tables rows.tables ops texts)
  answers_same ops [] all = refl
  answers_same ops (text ∷ texts) all =
      let o : Outcome = answer tables rows.tables ops (meaning bind tables text) in
      let ranges = ranges_of tables rows.tables ops (meaning bind tables text) in
      let later : ℕ → List Interval = λ _. (run_from tables rows.tables (ops_after ops o) (map (meaning bind tables) texts)).ranges in
      answers_step ops text texts o refl
      (all_front (HoldsTheSame tables rows others) (used_if o ranges) (later 0) all)
      (answers_same (answered (map interval_out ranges) ops o).ops texts
      (subst (λ (after : List RowOp). AllByRecursion (HoldsTheSame tables rows others) (run_from tables rows.tables after (map (meaning bind tables) texts)).ranges) (sym (after_is (map interval_out ranges) ops o))
      (all_back (HoldsTheSame tables rows others) (used_if o ranges) (later 0) all)))

  -- a transaction run alone is answered alike, without the texts that failed
  pub sql_same : (texts : List (List ℕ)) → AllByRecursion (told.HoldsTheSame tables rows others) (alone (language_of bind reads_of) tables rows texts).ranges →
      answers_on (language_of bind reads_of) tables others (lasting (language_of bind reads_of) tables rows texts) ≡ without_failures (answers_on (language_of bind reads_of) tables rows texts)
  sql_same texts all =
      let ranges : List Interval = (run_from tables rows.tables [] (map (meaning bind tables) texts)).ranges in
      answers_same [] texts
      (all_weaker (λ i. told.HoldsTheSame tables rows others (interval_out i)) (HoldsTheSame tables rows others) (holds_out tables rows others) ranges
      (all_map (told.HoldsTheSame tables rows others) interval_out ranges
      (subst (λ (a : Answered). AllByRecursion (told.HoldsTheSame tables rows others) a.ranges) (alone_is_run bind tables rows.tables [] texts) all)))

fails_by : (ranges : List declared.Interval) (ops : List RowOp) (o : Outcome) → (answered ranges ops o).failed ≡ true → (answered ranges ops o).ops ≡ ops
fails_by ranges ops (Fails cause) is = refl
fails_by ranges ops (Gives given after) is = absurd cc

-- a text that fails leaves the operations as they are
pub sql_fails : (bind : Binder) (tables : List TableDef) (versions : List (List Version)) (ops : List RowOp) (text : List ℕ) →
    ((language_of bind reads_of).answer tables versions ops text).failed ≡ true → ((language_of bind reads_of).answer tables versions ops text).ops ≡ ops
sql_fails bind tables versions ops text is =
    fails_by (reads_of tables versions ops (meaning bind tables text)) ops (answer tables versions ops (meaning bind tables text)) is

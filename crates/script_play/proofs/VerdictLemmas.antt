-- What is decided of a session's request is what the definitions decide of its transaction, and the entry is that of its
-- operations.
use Rattle.std.proofs.Common.{◌≡◌, ◌≢◌, ℕ, ◌+◌, ◌++◌, ◌∷◌, [], List, true, refl, sym, ◌∙◌, ap, subst, drop, Option, Some, None, Result, Ok, Err, IfOk}
use Rattle.std.specs.Option.{is_some}
use Rattle.std.specs.Prelude.{option_map, slice_get}
use Rattle.blkseq_table.specs.OfLogs.{HasId, id_of}
use Rattle.block_processor.proofs.ChangedLemmas.{conflict_changed}
use Rattle.block_processor.specs.Changed.{changed_in, found_of}
use Rattle.block_processor.specs.Conflicts.{conflict_of}
use Rattle.script_play.proofs.UseLemmas.{item_alike}
use Rattle.block_processor.specs.Decided.{broken_by, TellsConflict, TellsDuplicate, IsNextEntry}
use Rattle.cdb_values.specs.Changes.{changes_of, taken_by}
use Rattle.cdb_values.specs.Good.{first_broken, KeyName}
use Rattle.cdb_values.specs.Rows.{Rows, apply_all}
use Rattle.cdb_values.specs.declared.items.Item.{Item}
use Rattle.cdb_values.specs.declared.items.Item.TheVariants.{Genid, Range}
use Rattle.cdb_values.specs.declared.items.Interval.{Interval}
use Rattle.cdb_values.specs.declared.rows.Change.{Change}
use Rattle.cdb_values.specs.declared.rows.RowOp.{RowOp}
use Rattle.cdb_values.specs.declared.tables.KeyDef.{KeyDef}
use Rattle.cdb_values.specs.declared.tables.TableDef.{TableDef}
use Rattle.log_rows.proofs.HistoryLemmas.{rows_whole}
use Rattle.log_rows.specs.History.{rows_over, rows_over_at, tables_of, IsCommit}
use Rattle.osql_session.specs.Items.{without_repeats}
use Rattle.osql_session.specs.Requests.{request_if, request_of, request_with}
use Rattle.osql_session.specs.Sessions.{Session}
use Rattle.phys_log.specs.Logs.{pages_of}
use Rattle.phys_log.specs.declared.entries.Entry.{Entry}
use Rattle.phys_log.specs.declared.requests.CommitRequest.{CommitRequest}
use Rattle.range_validate.specs.Touches.{changes_in}
use Rattle.cdb_values.specs.declared.replies.Reply.{Reply}
use Rattle.cdb_values.specs.declared.replies.Reply.TheVariants as reply
use Rattle.script_play.proofs.RequestLemmas.{conflict_once, its_request, log_tables}
use Rattle.session_turns.specs.Decisions.{item_told, by_key, decision, judged, added_by, used_by}
use Rattle.script_play.specs.Decisions.{key_place}
use Rattle.script_play.specs.Effects.{IsVerdict, IsEntryOf, IsFreshIn, IsOfIts, IsUnusedIn, transaction_named}
use Rattle.script_play.specs.EntryLines.{line_of}
use Rattle.report_text.specs.declared.reports.EntryLine.{EntryLine}
use Rattle.script_play.specs.Ready.{IsReady}
use Rattle.script_play.specs.RunViews.{seen_in}
use Rattle.script_play.specs.Start.{Start, ground_of}
use Rattle.session_turns.specs.Step.{World, outcome, world_of}
use Rattle.script_play.specs.declared.verdicts.Verdict.{Verdict}
use Rattle.session_language.specs.Touched.{Used, FirstUse, first_use, ranges_at}
use Rattle.session_turns.specs.Outcomes.{outcome_told}
use Rattle.session_turns.specs.declared.answers.CommitOutcome.TheVariants.{Duplicate}
use Rattle.table_edits.specs.Broken.{KeyPlace, broken_place, key_name, name_in, named}
use Rattle.table_store.specs.Stored.{Stands}

-- a conflict, a duplicate and a commit add what their outcomes tell
decision_by : (tables : List TableDef) (changed : List (List Change)) (rows : Rows) (begin now : ℕ) (used : List Used) (ops : List RowOp) → ops ≢ [] →
    decision tables changed rows begin now used ops ≡ judged tables rows now ops (first_use tables begin (drop begin changed) used)
decision_by tables changed rows begin now used [] some = absurd (some refl)
decision_by tables changed rows begin now used (op ∷ ops) some = refl

judged_conflict : (tables : List TableDef) (rows : Rows) (now : ℕ) (ops : List RowOp) (touch : Option FirstUse) (position : ℕ) (item : Item) → option_map found_of touch ≡ Some (record { position = position; item = item }) →
    judged tables rows now ops touch ≡ item_told tables position item
judged_conflict tables rows now ops None position item is = absurd cc
judged_conflict tables rows now ops (Some f) position item is = let same : found_of f ≡ record { position = position; item = item } = cc in ap (item_told tables f.position) (item_alike f.item) ∙ (λ j. item_told tables (same j).position (same j).item)

judged_free : (tables : List TableDef) (rows : Rows) (now : ℕ) (ops : List RowOp) (touch : Option FirstUse) → option_map found_of touch ≡ None →
    judged tables rows now ops touch ≡ by_key now (first_broken tables (apply_all rows ops).tables)
judged_free tables rows now ops None is = refl
judged_free tables rows now ops (Some f) is = absurd cc

-- a conflict adds nothing
added_none : (tables : List TableDef) (position : ℕ) (item : Item) (ops : List RowOp) → added_by (item_told tables position item) ops ≡ []
added_none tables position (Genid item) ops = refl
added_none tables position (Range table key) ops = refl

added_some : (position : ℕ) (ops : List RowOp) → ops ≢ [] → added_by (reply.Committed position) ops ≡ ops ∷ []
added_some position [] some = absurd (some refl)
added_some position (op ∷ ops) some = refl

pub committed_at : (m n : ℕ) → m ≡ n → reply.Committed (m + 1) ≡ reply.Committed (n + 1)
committed_at m n is = ap (λ k. reply.Committed (k + 1)) is

pub on_both : {T E : Type 0} {P Q R : T → Type 0} (r : Result T E) → ((x : T) → P x → Q x → R x) → IfOk r P → IfOk r Q → IfOk r R
on_both (Ok x) f first second = f x first second
on_both (Err e) f first second = tt

-- a session without operations is committed where it began
pub none_verdict : (start : Start) (generation : ℕ) (tables : List TableDef) (now : ℕ) (log : List Entry) (s : Session) (v : Verdict) → request_of s ≡ None → v.outcome ≡ reply.Committed s.begin → v.added ≡ None →
    IsVerdict start tables log v (outcome (world_of tables (seen_in start log) (changed_in log) now) s.begin s.level s.genids s.ranges s.ops) (transaction_named generation s) s.ops
none_verdict start generation tables now log s v none told added = go s.ops none
  where
    go : (ops : List RowOp) → request_if s ops ≡ None → IsVerdict start tables log v (outcome (world_of tables (seen_in start log) (changed_in log) now) s.begin s.level s.genids s.ranges ops) (transaction_named generation s) ops
    go [] is = record { told = told; added = rw added tt }
    go (op ∷ ops) is = absurd cc

-- a request whose identity no entry has is no repeat
pub never_again : (log : List Entry) (s : Session) (request : CommitRequest) (position : ℕ) → request_of s ≡ Some request → IsUnusedIn log s.id → HasId log position request.id → ⊥
never_again log s request position asked fresh has = fresh position (subst (λ (r : CommitRequest). HasId log position r.id) (its_request s s.ops request asked).0 has)

-- the first broken key has its name, and one is told exactly where the other is
abbrev pub NamesBroken : Type 0
NamesBroken = ((tables : List TableDef) (rows : Rows) → first_broken tables rows.tables ≡ named tables (broken_place rows 0 tables))
    × ((tables : List TableDef) (rows : Rows) → is_some (first_broken tables rows.tables) ≡ is_some (broken_place rows 0 tables))

-- a duplicate is told by the names of its key
duplicate_told : (tables : List TableDef) (position table key : ℕ) (name : KeyName) → named tables (Some (key_place table key)) ≡ Some name →
    outcome_told tables (Duplicate position table key) ≡ by_key position (Some name)
duplicate_told tables position table key name is = at_table (slice_get tables table) refl
  where
    at_table : (t : Option TableDef) → slice_get tables table ≡ t → outcome_told tables (Duplicate position table key) ≡ by_key position (Some name)
    at_table None none = let bad : name_in key None ≡ Some name = ap (name_in key) (sym none) ∙ is in absurd cc
    at_table (Some t) some = at_key (slice_get t.keys key) refl
      where
        at_key : (k : Option KeyDef) → slice_get t.keys key ≡ k → outcome_told tables (Duplicate position table key) ≡ by_key position (Some name)
        at_key None none =
            let bad : key_name t None ≡ Some name = ap (key_name t) (sym none) ∙ ap (name_in key) (sym some) ∙ is in absurd cc
        at_key (Some k) found =
            let its : key_name t (Some k) ≡ Some name = ap (key_name t) (sym found) ∙ ap (name_in key) (sym some) ∙ is in
            let same : record { table = t.name; key = k.name } ≡ name = cc in
            rw (some, found) (ap (λ (n : KeyName). reply.Duplicate position n.table n.key) same)

module _ (start : Start) (generation : ℕ) (tables : List TableDef) (now : ℕ) (log : List Entry) (s : Session) (request : CommitRequest) (ready : IsReady start tables now log) (asked : request_of s ≡ Some request) (names : NamesBroken) where
  abbrev pub w : World
  w = world_of tables (seen_in start log) (changed_in log) now

  its : (request ≡ request_with s s.ops) × (s.ops ≢ [])
  its = its_request s s.ops request asked

  same_tables : tables_of log ≡ tables
  same_tables = log_tables tables log ready.logged.schema

  now_rows : rows_over (ground_of start) log ≡ rows_over_at (ground_of start) log now
  now_rows = sym (ap (λ k. rows_over_at (ground_of start) log k) (sym ready.logged.count) ∙ rows_whole (ground_of start) log)

  abbrev used : List Used
  used = used_by s.level s.ops s.genids s.ranges

  -- what the session uses first of what was changed since its begin
  abbrev first : Option FirstUse
  first = first_use tables s.begin (drop s.begin (changed_in log)) used

  conflict_is : conflict_of request log ≡ option_map found_of first
  conflict_is =
      ap (λ (r : CommitRequest). conflict_of r log) its.0
      ∙ conflict_changed (tables_of log) s.begin log (without_repeats (taken_by s.ops ++ s.genids)) (ranges_at s.level s.ranges)
      ∙ ap (λ (touch : Option FirstUse). option_map found_of touch) (conflict_once (tables_of log) s.begin (drop s.begin (changed_in log)) (taken_by s.ops ++ s.genids) (ranges_at s.level s.ranges))
      ∙ ap (λ (ts : List TableDef). option_map found_of (first_use ts s.begin (drop s.begin (changed_in log)) used)) same_tables

  outcome_is : outcome w s.begin s.level s.genids s.ranges s.ops ≡ judged tables (rows_over_at (ground_of start) log now) now s.ops first
  outcome_is = decision_by tables (changed_in log) (rows_over_at (ground_of start) log now) s.begin now used s.ops its.1

  free_is : conflict_of request log ≡ None → outcome w s.begin s.level s.genids s.ranges s.ops ≡ by_key now (first_broken tables (apply_all (rows_over_at (ground_of start) log now) s.ops).tables)
  free_is free = outcome_is ∙ judged_free tables (rows_over_at (ground_of start) log now) now s.ops first (sym conflict_is ∙ free)

  pub conflict_verdict : (v : Verdict) (position : ℕ) (item : Item) → TellsConflict request log position item → v.outcome ≡ item_told tables position item → v.added ≡ None →
      IsVerdict start tables log v (outcome w s.begin s.level s.genids s.ranges s.ops) (transaction_named generation s) s.ops
  conflict_verdict v position item is told added =
      subst (λ (o : Reply). IsVerdict start tables log v o (transaction_named generation s) s.ops)
      (sym (outcome_is ∙ judged_conflict tables (rows_over_at (ground_of start) log now) now s.ops first position item (sym conflict_is ∙ is.first)))
      (record { told = told; added = rw (added_none tables position item s.ops, added) tt })

  broken_is : (found : Option KeyPlace) → broken_by (ground_of start) request log ≡ found → first_broken tables (apply_all (rows_over_at (ground_of start) log now) s.ops).tables ≡ named tables found
  broken_is found is =
      names.0 tables (apply_all (rows_over_at (ground_of start) log now) s.ops)
      ∙ ap (λ (f : Option KeyPlace). named tables f) (ap (λ (r : Rows). broken_place (apply_all r s.ops) 0 tables) (sym now_rows) ∙ ap (λ (ts : List TableDef). broken_place (apply_all (rows_over (ground_of start) log) s.ops) 0 ts) (sym same_tables)
      ∙ ap (λ (r : CommitRequest). broken_by (ground_of start) r log) (sym its.0) ∙ is)

  is_broken : (place : KeyPlace) → broken_by (ground_of start) request log ≡ Some place → is_some (first_broken tables (apply_all (rows_over_at (ground_of start) log now) s.ops).tables) ≡ true
  is_broken place is =
      names.1 tables (apply_all (rows_over_at (ground_of start) log now) s.ops)
      ∙ ap (λ (f : Option KeyPlace). is_some f) (ap (λ (r : Rows). broken_place (apply_all r s.ops) 0 tables) (sym now_rows) ∙ ap (λ (ts : List TableDef). broken_place (apply_all (rows_over (ground_of start) log) s.ops) 0 ts) (sym same_tables)
      ∙ ap (λ (r : CommitRequest). broken_by (ground_of start) r log) (sym its.0) ∙ is)

  pub duplicate_verdict : (v : Verdict) (position table key : ℕ) → TellsDuplicate (ground_of start) request log position table key →
      v.outcome ≡ outcome_told tables (Duplicate position table key) → v.added ≡ None →
      IsVerdict start tables log v (outcome w s.begin s.level s.genids s.ranges s.ops) (transaction_named generation s) s.ops
  duplicate_verdict v position table key is told added = go (first_broken tables (apply_all (rows_over_at (ground_of start) log now) s.ops).tables) refl
    where
      at : position ≡ now
      at = is.now ∙ ready.logged.count

      go : (found : Option KeyName) → first_broken tables (apply_all (rows_over_at (ground_of start) log now) s.ops).tables ≡ found → IsVerdict start tables log v (outcome w s.begin s.level s.genids s.ranges s.ops) (transaction_named generation s) s.ops
      go None unbroken = let there = is_broken (key_place table key) is.broken in absurd (cc)
      go (Some name) broken =
          subst (λ (o : Reply). IsVerdict start tables log v o (transaction_named generation s) s.ops) (sym (free_is is.free ∙ ap (λ (f : Option KeyName). by_key now f) broken))
          (record { told = told ∙ duplicate_told tables position table key name (sym (broken_is (Some (key_place table key)) is.broken) ∙ broken) ∙ ap (λ k. by_key k (Some name)) at; added = rw added tt })

  pub commit_verdict : (v : Verdict) (next : Entry) → IsNextEntry (ground_of start) request log generation next → v.outcome ≡ reply.Committed (now + 1) → v.added ≡ Some next →
      IsVerdict start tables log v (outcome w s.begin s.level s.genids s.ranges s.ops) (transaction_named generation s) s.ops
  commit_verdict v next is told added =
      subst (λ (o : Reply). IsVerdict start tables log v o (transaction_named generation s) s.ops) (sym (free_is is.free ∙ ap (λ (f : Option KeyName). by_key now f) (broken_is None is.kept)))
      (record { told = told; added = rw (added_some (now + 1) s.ops its.1, added) its_entry })
    where
      ops_are : request.ops ≡ s.ops
      ops_are = ap (λ (r : CommitRequest). r.ops) its.0

      its_fresh : IsFreshIn log next
      its_fresh position id has there =
          let same : Some request.id ≡ Some id = sym (ap (λ (e : Entry). id_of e) is.made) ∙ has in
          let its_id : id ≡ request.id = cc in
          is.fresh.nowhere position (subst (HasId log position) its_id there)

      its_entry : IsEntryOf start tables log next (transaction_named generation s) s.ops
      its_entry = record {
        names = λ position. ap (λ (e : Entry). line_of position e) is.made ∙ ap (λ (r : CommitRequest). EntryLine.Commit position r.id.session r.id.txn r.begin r.level) its.0;
        of_its = subst (IsOfIts (transaction_named generation s)) (sym is.made) (refl, ap (λ (r : CommitRequest). r.id.began) its.0);
        fits = is.fits;
        commit = subst IsCommit (sym is.made) tt;
        stands = subst (λ (ts : List TableDef). Stands (pages_of (log ++ next ∷ [])) ts (rows_over (ground_of start) (log ++ next ∷ []))) same_tables is.stands;
        rows = is.rows ∙ ap (λ (o : List RowOp). apply_all (rows_over (ground_of start) log) o) ops_are;
        changes = ap (λ (e : Entry). changes_in e) is.made ∙ ap (λ (o : List RowOp). changes_of o (rows_over (ground_of start) log).next) ops_are;
        fresh = its_fresh;
        small = λ was. record { genid = is.within.genid; count = is.within.count was.count };
      }

-- Whatever is decided on a transaction at its commit is right, and the history and the rows stay in order.
use Rattle.std.proofs.Common.{◌≡◌, ◌≢◌, ℕ, zero, suc, ◌+◌, ◌-◌, ◌≤◌, ◌<◌, List, [], ◌∷◌, ◌++◌, map, refl, sym, subst, ap, arith, Option, Some, None, ◌∙◌, unwrap_or, ◌⊎◌, inl, inr}
use Rattle.std.proofs.lemmas.List.{length-append, append-nil}
use Rattle.std.specs.List.{AllByRecursion, slice_get}
use Rattle.std.specs.Prelude.{drop}
use Rattle.cdb_values.specs.Good.{first_broken, KeyName}
use Rattle.cdb_values.specs.Rows.{Rows, apply_all}
use Rattle.cdb_values.specs.declared.items.GenidItem.{GenidItem}
use Rattle.cdb_values.specs.declared.items.Interval.{Interval}
use Rattle.cdb_values.specs.declared.rows.Change.{Change}
use Rattle.cdb_values.specs.declared.rows.Level.{Level}
use Rattle.cdb_values.specs.declared.rows.RowOp.{RowOp}
use Rattle.session_turns.specs.Seen.{SeenRows}
use Rattle.script_play.specs.Start.{Start, base}
use Rattle.script_form.specs.declared.scripts.Script.{Script}
use Rattle.report_text.specs.declared.reports.EntryLine.{EntryLine}
use Rattle.cdb_values.specs.declared.replies.Reply.{Reply}
use Rattle.cdb_values.specs.declared.replies.Reply.TheVariants as reply
use Rattle.cdb_values.specs.Changes.{changes_of}
use Rattle.report_laws.specs.History.{view_of}
use Rattle.report_laws.specs.View.{touched_in}
use Rattle.session_language.specs.Touched.{Used, TheVersion, TheRange, first_used, FirstUse, first_use}
use Rattle.report_laws.specs.Outcome.{IsRight, IsDecided, IsConflict, IsDuplicate}
use Rattle.report_laws.specs.Paced.{Paced}
use Rattle.script_form.specs.CanRun.{script_tables}
use Rattle.report_laws.specs.Work.{Transaction}
use Rattle.script_play.specs.Basis.{from_start}
use Rattle.block_processor.specs.Changed.{IsFirstUse}
use Rattle.session_turns.specs.Decisions.{used_by, item_of, item_told, conflict_told, decision, judged, by_key, added_by}
use Rattle.script_play.specs.Decisions.{HasName}
use Rattle.block_processor.proofs.ChangedLaws.{one_used}
use Rattle.script_play.proofs.ConflictLaws.{named}
use Rattle.script_play.specs.SoFar.{IsStoredSoFar, now_of}
use Rattle.script_play.specs.Step.{IsKept}
use Rattle.script_play.proofs.StoredLemmas.{Commits, entry_of, untouched_now, stored_more, committed_right, next_is}

-- what holds of the members of each list holds of those of the list at a place, if there is one
all_at : {A : Type 0} (P : A → Type 0) (lists : List (List A)) (at : ℕ) → AllByRecursion (AllByRecursion P) lists → AllByRecursion P (unwrap_or (slice_get lists at) [])
all_at P [] at all = tt
all_at P (xs ∷ lists) zero all = all.0
all_at P (xs ∷ lists) (suc at) all = all_at P lists at all.1

-- the same of those behind a place
all_behind : {A : Type 0} (P : A → Type 0) (n : ℕ) (lists : List (List A)) (at : ℕ) → n ≤ at → AllByRecursion (AllByRecursion P) (drop n lists) → AllByRecursion P (unwrap_or (slice_get lists at) [])
all_behind P zero lists at from all = all_at P lists at all
all_behind P (suc n) [] at from all = tt
all_behind P (suc n) (xs ∷ lists) zero from all = absurd (omega (arith, from))
all_behind P (suc n) (xs ∷ lists) (suc at) from all = all_behind P n lists at (omega (arith, from)) all

-- the entries after a decision, and what they changed
abbrev pub entries_after : Start → List EntryLine → List ℕ → ℕ → ℕ → Level → List (List RowOp) → List EntryLine
entries_after start entries name number begin level added = entries ++ map (λ ops. entry_of name number begin level (now_of start entries)) added

abbrev pub changed_after : SeenRows → List (List Change) → List (List RowOp) → List (List Change)
changed_after seen changed added = changed ++ map (λ ops. changes_of ops seen.next) added

-- a decision is right
pub record Decided (script : Script) (start : Start) (entries : List EntryLine) (changed : List (List Change)) (seen seen' : SeenRows) (name : List ℕ) (t : Transaction) (begin : ℕ) (uses : List GenidItem) (ranges : List Interval) (ops : List RowOp) (outcome : Reply) (added : List (List RowOp)) : Type 0 where
  pub right : IsRight (from_start script start) (view_of (from_start script start) (entries_after start entries name t.number begin t.level added)) name t begin (used_by t.level ops uses ranges) ops outcome
  pub decided : IsDecided outcome
  pub stored : IsStoredSoFar script start (entries_after start entries name t.number begin t.level added) (changed_after seen changed added) seen'
  pub paced : Paced (now_of start entries) (now_of start (entries_after start entries name t.number begin t.level added)) (outcome ∷ [])
  pub grows : seen.next ≤ seen'.next
  pub told : (added ≡ []) ⊎ ((o : List RowOp) × (added ≡ o ∷ []) × (outcome ≡ reply.Committed (now_of start entries + 1)))

module _ (script : Script) (start : Start) (entries : List EntryLine) (changed : List (List Change)) (seen seen' : SeenRows) (name : List ℕ) (t : Transaction) (begin : ℕ) (uses : List GenidItem) (ranges : List Interval) where
  -- a decision that adds nothing
  nothing_added : (ops : List RowOp) (outcome : Reply) → IsStoredSoFar script start entries changed seen → seen' ≡ seen → IsDecided outcome →
      IsRight (from_start script start) (view_of (from_start script start) entries) name t begin (used_by t.level ops uses ranges) ops outcome → Paced (now_of start entries) (now_of start entries) (outcome ∷ []) →
      Decided script start entries changed seen seen' name t begin uses ranges ops outcome []
  nothing_added ops outcome stored same decided right paced = record {
    right = subst (λ es. IsRight (from_start script start) (view_of (from_start script start) es) name t begin (used_by t.level ops uses ranges) ops outcome) (sym (append-nil entries)) right;
    decided = decided;
    stored = subst (λ (a : SeenRows). IsStoredSoFar script start (entries ++ []) (changed ++ []) a) (sym same)
        (subst (λ es. IsStoredSoFar script start es (changed ++ []) seen) (sym (append-nil entries)) (subst (λ ts. IsStoredSoFar script start entries ts seen) (sym (append-nil changed)) stored));
    paced = subst (λ es. Paced (now_of start entries) (now_of start es) (outcome ∷ [])) (sym (append-nil entries)) paced;
    grows = let n = ap (λ (a : SeenRows). a.next) same in omega (arith, n);
    told = inl refl;
  }

  module _ (op : RowOp) (more : List RowOp) (c : Commits script start entries changed seen name t begin uses ranges (op ∷ more)) where
    abbrev pub ops : List RowOp
    ops = op ∷ more

    abbrev pub used : List Used
    used = used_by t.level ops uses ranges

    some : ops ≢ []
    some is = absurd cc

    -- what follows from an outcome, once the run did it
    abbrev pub Follows : Reply → Type 0
    Follows outcome = IsKept (now_of start entries) seen seen' (added_by outcome ops) → Decided script start entries changed seen seen' name t begin uses ranges ops outcome (added_by outcome ops)

    -- what the entry at a position behind the begin touches, by the changes that were kept for it
    touched_at : (position : ℕ) → begin < position → position ≤ now_of start entries
        → touched_in (view_of (from_start script start) entries) position used ≡ first_used (script_tables script) (unwrap_or (slice_get changed (position - 1)) []) used
    touched_at position after within =
        ap (λ (changes : List Change). first_used (script_tables script) changes used) (sym (c.stored.changed_are position (let b = c.first.1 in omega (arith, after, b)) within))

    conflict : (found : FirstUse) → first_use (script_tables script) begin (drop begin changed) used ≡ Some found →
        IsConflict (from_start script start) (view_of (from_start script start) entries) begin found.position used ops (conflict_told (script_tables script) found)
    conflict found is = record {
      has_ops = some;
      later = since.after;
      within = let w : found.position ≤ now_of start entries = within in omega (arith, w);
      item = found.item;
      touched = touched_at found.position since.after within ∙ since.touched;
      untouched = λ j after before. touched_at j after (omega (arith, before, within)) ∙ since.before j after before;
      is_told = named (script_tables script) (unwrap_or (slice_get changed (found.position - 1)) []) used found.position found.item its_changes since.touched;
    }
      where
        since : IsFirstUse (script_tables script) begin changed used found
        since = one_used (script_tables script) used begin changed found is

        within : found.position ≤ now_of start entries
        within = let w = since.within in let same = c.stored.changed_length in omega (arith, w, same)

        its_changes : AllByRecursion (HasName (script_tables script)) (unwrap_or (slice_get changed (found.position - 1)) [])
        its_changes = all_behind (HasName (script_tables script)) (base start) changed (found.position - 1) (let l = since.after in let b = c.first.1 in omega (arith, l, b)) c.stored.named

    -- a conflict adds nothing
    told_conflict : (position : ℕ) (item : Used) → position ≤ now_of start entries →
        IsConflict (from_start script start) (view_of (from_start script start) entries) begin position used ops (item_told (script_tables script) position (item_of item)) →
        Follows (item_told (script_tables script) position (item_of item))
    told_conflict position (TheVersion item) within is kept = nothing_added ops (item_told (script_tables script) position (item_of (TheVersion item))) c.stored kept tt is (refl, within, refl)
    told_conflict position (TheRange interval) within is kept = nothing_added ops (item_told (script_tables script) position (item_of (TheRange interval))) c.stored kept tt is (refl, within, refl)

    duplicate : (key : KeyName) → first_use (script_tables script) begin (drop begin changed) used ≡ None → first_broken (script_tables script) (apply_all (seen.at (now_of start entries)) ops).tables ≡ Some key →
        IsDuplicate (from_start script start) (view_of (from_start script start) entries) begin (now_of start entries) used ops key.table key.key
    duplicate key clear broken = record {
      has_ops = some;
      begun = c.within;
      within = omega arith;
      untouched = untouched_now script start entries changed seen name t begin uses ranges ops c clear;
      breaks = ap (λ (r : Rows). first_broken (script_tables script) (apply_all r ops).tables) (sym c.stored.now_are) ∙ broken;
    }

    by_its_key : (found : Option KeyName) → first_broken (script_tables script) (apply_all (seen.at (now_of start entries)) ops).tables ≡ found → first_use (script_tables script) begin (drop begin changed) used ≡ None → Follows (by_key (now_of start entries) found)
    by_its_key (Some key) broken clear kept = nothing_added ops (reply.Duplicate (now_of start entries) key.table key.key) c.stored kept tt (duplicate key clear broken) (refl, omega arith, refl)
    by_its_key None unbroken clear kept = record {
      right = committed_right script start entries changed seen name t begin uses ranges ops c seen' kept unbroken some clear op more refl;
      decided = tt;
      stored = stored_more script start entries changed seen name t begin uses ranges ops c seen' kept unbroken some clear;
      paced = (refl, omega (arith, count), omega (arith, count));
      grows = let g = c.grows in let n = next_is script start entries changed seen name t begin uses ranges ops c seen' kept unbroken some clear in omega (arith, g, n);
      told = inr (ops, refl, refl);
    }
      where
        count : now_of start (entries ++ entry_of name t.number begin t.level (now_of start entries) ∷ []) ≡ now_of start entries + 1
        count = omega (arith, length-append entries (entry_of name t.number begin t.level (now_of start entries) ∷ []))

    by_conflict : (found : Option FirstUse) → first_use (script_tables script) begin (drop begin changed) used ≡ found → Follows (judged (script_tables script) (seen.at (now_of start entries)) (now_of start entries) ops found)
    by_conflict None clear kept = by_its_key (first_broken (script_tables script) (apply_all (seen.at (now_of start entries)) ops).tables) refl clear kept
    by_conflict (Some found) is kept = told_conflict found.position found.item (let w = (conflict found is).within in omega (arith, w)) (conflict found is) kept

-- whatever is decided is right
pub decides : (script : Script) (start : Start) (entries : List EntryLine) (changed : List (List Change)) (seen seen' : SeenRows) (name : List ℕ) (t : Transaction) (begin : ℕ) (uses : List GenidItem) (ranges : List Interval) (ops : List RowOp) →
    Commits script start entries changed seen name t begin uses ranges ops →
    IsKept (now_of start entries) seen seen' (added_by (decision (script_tables script) changed (seen.at (now_of start entries)) begin (now_of start entries) (used_by t.level ops uses ranges) ops) ops) →
    Decided script start entries changed seen seen' name t begin uses ranges ops (decision (script_tables script) changed (seen.at (now_of start entries)) begin (now_of start entries) (used_by t.level ops uses ranges) ops)
    (added_by (decision (script_tables script) changed (seen.at (now_of start entries)) begin (now_of start entries) (used_by t.level ops uses ranges) ops) ops)
decides script start entries changed seen seen' name t begin uses ranges [] c kept =
    nothing_added script start entries changed seen seen' name t begin uses ranges [] (reply.Committed begin) c.stored kept tt refl (refl, c.within, (let w = c.within in omega (arith, w)))
decides script start entries changed seen seen' name t begin uses ranges (op ∷ more) c kept =
    by_conflict script start entries changed seen seen' name t begin uses ranges op more c (first_use (script_tables script) begin (drop begin changed) (used_by t.level (op ∷ more) uses ranges)) refl kept

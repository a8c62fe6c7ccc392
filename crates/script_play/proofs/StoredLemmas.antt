-- The history and the rows stay in order when a transaction comes to its commit.
use Rattle.std.proofs.Common.{◌≡◌, ◌≢◌, ℕ, zero, suc, ◌+◌, ◌-◌, ◌≤◌, ◌<◌, List, [], ◌∷◌, ◌++◌, length, refl, sym, subst, ap, arith, Option, Some, None, ◌∙◌, false, unwrap_or, ◌⊎◌, inl, inr}
use Rattle.std.proofs.lemmas.List.{length-append}
use Rattle.std.proofs.Math.Nat.{eq-or-lt_of_le}
use Rattle.std.specs.List.{AllByRecursion, slice_get}
use Rattle.std.specs.Prelude.{drop}
use Rattle.cdb_values.specs.Good.{AllFit, IsGood, first_broken}
use Rattle.cdb_values.specs.Rows.{Rows, apply_all}
use Rattle.cdb_values.specs.declared.items.GenidItem.{GenidItem}
use Rattle.cdb_values.specs.declared.items.Interval.{Interval}
use Rattle.cdb_values.specs.declared.rows.Change.{Change}
use Rattle.cdb_values.specs.declared.rows.Level.{Level}
use Rattle.cdb_values.specs.declared.rows.Level.TheVariants.{Snapshot, Serializable}
use Rattle.cdb_values.specs.declared.rows.RowOp.{RowOp}
use Rattle.cdb_values.specs.declared.rows.Version.{Version}
use Rattle.log_rows.specs.History.{IsFrom}
use Rattle.session_turns.specs.Seen.{SeenRows}
use Rattle.script_play.specs.Start.{Start, base}
use Rattle.script_form.specs.declared.scripts.Script.{Script}
use Rattle.report_text.specs.declared.reports.EntryLine.{EntryLine}
use Rattle.report_text.specs.declared.reports.EntryLine.TheVariants.{Commit}
use Rattle.cdb_values.specs.declared.replies.Reply.TheVariants as reply
use Rattle.cdb_values.specs.Changes.{changes_of}
use Rattle.report_laws.specs.History.{last_position, entry_at, rows_at, rows_after, states_of, ops_of, ops_alone, changes_at, IsEntryAfter, IsCommitAfter, is_entry_of, view_of}
use Rattle.report_laws.specs.View.{IsUntouched}
use Rattle.session_language.specs.Language.{Answered}
use Rattle.session_language.specs.Touched.{Used, first_used, used_at, first_use}
use Rattle.report_laws.specs.Outcome.{IsRight, IsEntered}
use Rattle.report_laws.specs.Told.{alone_at}
use Rattle.script_form.specs.CanRun.{script_tables}
use Rattle.report_laws.specs.Work.{Transaction, transaction_of}
use Rattle.script_play.specs.Basis.{from_start}
use Rattle.query_laws.specs.Alone.{sql_language}
use Rattle.session_language.proofs.EachLaws.{all_append, each_append, get_front, get_next}
use Rattle.report_laws.proofs.HistoryLaws.{none_stands, rows_stay, rows_new, entry_new, changes_stay, changes_new, untouched_stays}
use Rattle.session_turns.specs.Decisions.{used_by}
use Rattle.script_play.specs.Decisions.{HasName}
use Rattle.script_play.specs.Ready.{AreKept, IsKeptOp}
use Rattle.block_processor.proofs.ChangedLaws.{none_used}
use Rattle.script_play.proofs.SoundLaws.{all_named, kept_sound, rows_later}
use Rattle.script_play.specs.SoFar.{IsStoredSoFar, now_of}
use Rattle.session_turns.specs.Step.{World, world_of}
use Rattle.script_play.specs.Step.{IsKept}

-- what is left behind a place of a list with one more
behind_more : {A : Type 0} (n : ℕ) (xs : List A) (x : A) → n ≤ length xs → drop n (xs ++ x ∷ []) ≡ drop n xs ++ x ∷ []
behind_more zero xs x within = refl
behind_more (suc n) [] x within = absurd (omega (arith, within))
behind_more (suc n) (y ∷ xs) x within = behind_more n xs x (omega (arith, within))

-- the entry of a transaction at the next position
abbrev pub entry_of : List ℕ → ℕ → ℕ → Level → ℕ → EntryLine
entry_of name number begin level now = Commit (now + 1) name number begin level

abbrev pub world : Script → Start → List EntryLine → List (List Change) → SeenRows → World
world script start entries changed seen = world_of (script_tables script) seen changed (now_of start entries)

-- what a transaction uses, by what it was answered
pub used_alike : (level : Level) (ran : Answered) → used_by level ran.ops ran.uses ran.ranges ≡ used_at level ran
used_alike Snapshot ran = refl
used_alike Serializable ran = refl

-- a transaction comes to its commit
pub record Commits (script : Script) (start : Start) (entries : List EntryLine) (changed : List (List Change)) (seen : SeenRows) (name : List ℕ) (t : Transaction) (begin : ℕ) (uses : List GenidItem) (ranges : List Interval) (ops : List RowOp) : Type 0 where
  pub stored : IsStoredSoFar script start entries changed seen
  pub first : IsFrom (base start) begin
  pub within : begin ≤ now_of start entries
  pub is_its : transaction_of sql_language name t.number script.body ≡ Some t
  pub ops_are : ops ≡ (alone_at (from_start script start) (view_of (from_start script start) entries) t begin).ops
  pub uses_are : uses ≡ (alone_at (from_start script start) (view_of (from_start script start) entries) t begin).uses
  pub ranges_are : ranges ≡ (alone_at (from_start script start) (view_of (from_start script start) entries) t begin).ranges
  pub sound : AllByRecursion (IsKeptOp (script_tables script) seen.next) ops
  pub once : AllByRecursion (λ e. is_entry_of name t.number e ≡ false) entries
  -- applied now, the operations leave sound rows, which fit
  pub applied : AreKept (script_tables script) (apply_all (seen.at (now_of start entries)) ops).next (apply_all (seen.at (now_of start entries)) ops).tables
  pub grows : seen.next ≤ (apply_all (seen.at (now_of start entries)) ops).next
  pub fits : AllFit (script_tables script) (apply_all (seen.at (now_of start entries)) ops).tables

module _ (script : Script) (start : Start) (entries : List EntryLine) (changed : List (List Change)) (seen : SeenRows) (name : List ℕ) (t : Transaction) (begin : ℕ) (uses : List GenidItem) (ranges : List Interval) (ops : List RowOp) (c : Commits script start entries changed seen name t begin uses ranges ops) where
  abbrev pub now : ℕ
  now = now_of start entries

  -- its texts, run alone where it began
  abbrev ran : Answered
  ran = alone_at (from_start script start) (view_of (from_start script start) entries) t begin

  -- what it uses at its level
  abbrev pub used : List Used
  used = used_by t.level ops uses ranges

  -- what no entry since the begin touches, by the changes that were kept for each entry
  pub untouched_now : first_use (script_tables script) begin (drop begin changed) used ≡ None → IsUntouched (view_of (from_start script start) entries) begin (now + 1) used
  untouched_now none j after before =
      ap (λ (changes : List Change). first_used (script_tables script) changes used) (sym (c.stored.changed_are j (let b = c.first.1 in omega (arith, after, b)) (omega (arith, before))))
      ∙ none_used (script_tables script) used begin changed none j after (let same = c.stored.changed_length in omega (arith, before, same))

  -- these are what it uses when it is run alone
  used_is : used_at t.level ran ≡ used
  used_is =
      sym (used_alike t.level ran)
      ∙ ap (λ (o : List RowOp). used_by t.level o ran.uses ran.ranges) (sym c.ops_are)
      ∙ ap (λ (us : List GenidItem). used_by t.level ops us ran.ranges) (sym c.uses_are)
      ∙ ap (λ (read : List Interval). used_by t.level ops uses read) (sym c.ranges_are)

  abbrev pub e : EntryLine
  e = entry_of name t.number begin t.level now

  abbrev pub more : List EntryLine
  more = entries ++ e ∷ []

  count : now_of start more ≡ now + 1
  count = omega (arith, length-append entries (e ∷ []))

  -- the entry's operations are those that were answered
  pub its_ops : ops_of (from_start script start) (states_of (from_start script start) entries) e ≡ ops
  its_ops = ap (λ (found : Option Transaction). ops_alone (from_start script start) (rows_at (from_start script start) entries begin) found) c.is_its ∙ sym c.ops_are

  pub rows_there : rows_after (from_start script start) (states_of (from_start script start) entries) e ≡ apply_all (seen.at now) ops
  rows_there =
      let back : now + 1 - 1 ≡ now = omega arith in
      ap (λ (o : List RowOp). apply_all (rows_at (from_start script start) entries (now + 1 - 1)) o) its_ops
      ∙ ap (λ k. apply_all (rows_at (from_start script start) entries k) ops) back
      ∙ ap (λ (r : Rows). apply_all r ops) (sym c.stored.now_are)

  next_at : now + 1 ≡ last_position (from_start script start).origin entries + 1
  next_at = omega arith

  pub rows_then : rows_at (from_start script start) more (now + 1) ≡ apply_all (seen.at now) ops
  rows_then = ap (λ k. rows_at (from_start script start) more k) next_at ∙ rows_new (from_start script start) entries e ∙ rows_there

  module _ (seen' : SeenRows) (kept : IsKept now seen seen' (ops ∷ [])) (unbroken : first_broken (script_tables script) (apply_all (seen.at now) ops).tables ≡ None) (some : ops ≢ []) (clear : first_use (script_tables script) begin (drop begin changed) used ≡ None) where
    good : IsGood (script_tables script) (apply_all (seen.at now) ops).tables
    good = record { rows_fit = c.fits; keys_kept = unbroken }

    rows_applied : apply_all (rows_at (from_start script start) entries (last_position (from_start script start).origin entries)) (alone_at (from_start script start) (view_of (from_start script start) entries) t begin).ops ≡ apply_all (seen.at now) ops
    rows_applied =
        let last : last_position (from_start script start).origin entries ≡ now = omega arith in
        ap (λ k. apply_all (rows_at (from_start script start) entries k) (alone_at (from_start script start) (view_of (from_start script start) entries) t begin).ops) last
        ∙ ap (λ (r : Rows). apply_all r (alone_at (from_start script start) (view_of (from_start script start) entries) t begin).ops) (sym c.stored.now_are)
        ∙ ap (λ (o : List RowOp). apply_all (seen.at now) o) (sym c.ops_are)

    its_entry : IsCommitAfter (from_start script start) (view_of (from_start script start) entries) (now + 1) name t.number begin t.level
    its_entry = record {
      placed = omega arith;
      once = none_stands (from_start script start).origin entries name t.number c.once;
      begun = (c.first.0, c.first.1, (let w = c.within in omega (arith, w)));
      transaction = t;
      is_its = c.is_its;
      is_level = refl;
      ran = alone_at (from_start script start) (view_of (from_start script start) entries) t begin;
      is_ran = refl;
      has_ops = subst (λ (o : List RowOp). o ≢ []) c.ops_are some;
      untouched = subst (λ (items : List Used). IsUntouched (view_of (from_start script start) entries) begin (now + 1) items) (sym used_is) (untouched_now clear);
      is_good = subst (λ (r : Rows). IsGood (script_tables script) r.tables) (sym rows_applied) good;
    }

    pub next_is : seen'.next ≡ (apply_all (seen.at now) ops).next
    next_is = kept.2

    tables_are : (seen'.at (now + 1)).tables ≡ (apply_all (seen.at now) ops).tables
    tables_are = ap (λ (r : Rows). r.tables) kept.0

    -- each position of the longer history is one of the shorter, or the next
    at_next : (From P : ℕ → Type 0) → ((at : ℕ) → From at → at ≤ now → P at) → P (now + 1) → (at : ℕ) → From at → at ≤ now_of start more → P at
    at_next From P old new at first within = pick (eq-or-lt_of_le (omega (arith, within, count)))
      where
        pick : (at ≡ now + 1) ⊎ (at < now + 1) → P at
        pick (inl is) = subst P (sym is) new
        pick (inr before) = old at first (omega (arith, before))

    abbrev pub changed' : List (List Change)
    changed' = changed ++ changes_of ops seen.next ∷ []

    -- the genid of the first version that the entry adds
    genid_is : seen.next ≡ (rows_at (from_start script start) entries (now + 1 - 1)).next
    genid_is =
        let back : now ≡ now + 1 - 1 = omega arith in
        c.stored.next_is ∙ ap (λ (r : Rows). r.next) c.stored.now_are ∙ ap (λ k. (rows_at (from_start script start) entries k).next) back

    changed_there : unwrap_or (slice_get changed' (now + 1 - 1)) [] ≡ changes_at (from_start script start) more (now + 1)
    changed_there =
        let at : now + 1 - 1 ≡ length changed = let same = c.stored.changed_length in omega (arith, same) in
        ap (λ k. unwrap_or (slice_get changed' k) []) at
        ∙ ap (λ (found : Option (List Change)). unwrap_or found []) (get_next changed (changes_of ops seen.next) [])
        ∙ ap (λ (genid : ℕ). changes_of ops genid) genid_is
        ∙ ap (λ (o : List RowOp). changes_of o (rows_at (from_start script start) entries (now + 1 - 1)).next) (sym its_ops)
        ∙ sym (ap (λ k. changes_at (from_start script start) more k) next_at ∙ changes_new (from_start script start) entries e)

    changed_before : (k : ℕ) → base start < k → k ≤ now → unwrap_or (slice_get changed' (k - 1)) [] ≡ changes_at (from_start script start) more k
    changed_before k first within =
        let inside : k - 1 < length changed = let same = c.stored.changed_length in omega (arith, same, first, within) in
        ap (λ (found : Option (List Change)). unwrap_or found []) (get_front changed (changes_of ops seen.next ∷ []) (k - 1) inside)
        ∙ c.stored.changed_are k first within
        ∙ sym (changes_stay (from_start script start) entries e k (omega (arith, first)) (omega (arith, within)))

    -- after the commit
    pub stored_more : IsStoredSoFar script start more changed' seen'
    stored_more = record {
      opened = (omega (arith, count), omega arith);
      history = each_append (IsEntryAfter (from_start script start)) [] entries (e ∷ []) c.stored.history (its_entry, tt);
      rows_are = at_next (IsFrom (base start)) (λ at. seen'.at at ≡ rows_at (from_start script start) more at)
          (λ at first within. kept.1 at (omega (arith, within)) ∙ c.stored.rows_are at first within ∙ sym (rows_stay (from_start script start) entries e at (omega (arith, within))))
          (kept.0 ∙ sym rows_then);
      now_are = subst (λ k. seen'.at k ≡ rows_at (from_start script start) more k) (sym count) (kept.0 ∙ sym rows_then);
      next_is = next_is ∙ ap (λ (r : Rows). r.next) (sym kept.0) ∙ ap (λ k. (seen'.at k).next) (sym count);
      changed_length = let same = c.stored.changed_length in omega (arith, count, same, length-append changed (changes_of ops seen.next ∷ []));
      changed_are = at_next (λ k. base start < k) (λ k. unwrap_or (slice_get changed' (k - 1)) [] ≡ changes_at (from_start script start) more k) changed_before changed_there;
      sound = at_next (IsFrom (base start)) (λ at. AreKept (script_tables script) seen'.next (seen'.at at).tables)
          (λ at first within. subst (λ (vs : List (List Version)). AreKept (script_tables script) seen'.next vs) (ap (λ (r : Rows). r.tables) (sym (kept.1 at (omega (arith, within)))))
          (rows_later (script_tables script) seen.next seen'.next (seen.at at).tables (let g = c.grows in let n = next_is in omega (arith, g, n)) (c.stored.sound at first within)))
          (subst (λ (vs : List (List Version)). AreKept (script_tables script) seen'.next vs) (sym tables_are) (subst (λ k. AreKept (script_tables script) k (apply_all (seen.at now) ops).tables) (sym next_is) c.applied));
      named = subst (λ (l : List (List Change)). AllByRecursion (AllByRecursion (HasName (script_tables script))) l)
          (sym (behind_more (base start) changed (changes_of ops seen.next) (let same = c.stored.changed_length in omega (arith, same))))
          (all_append _ (drop (base start) changed) (changes_of ops seen.next ∷ []) c.stored.named (all_named (script_tables script) seen.next ops seen.next (kept_sound (script_tables script) seen.next ops c.sound), tt));
    }

    -- and the outcome is right
    pub committed_right : (o : RowOp) (os : List RowOp) → ops ≡ o ∷ os → IsRight (from_start script start) (view_of (from_start script start) more) name t begin used ops (reply.Committed (now + 1))
    committed_right o os is = subst (λ (all : List RowOp). IsRight (from_start script start) (view_of (from_start script start) more) name t begin used all (reply.Committed (now + 1))) (sym is) entered
      where
        entered : IsEntered (from_start script start) (view_of (from_start script start) more) name t begin (now + 1) used
        entered = record {
          later = let w = c.within in omega (arith, w);
          stands = ap (λ k. entry_at (from_start script start).origin more k) next_at ∙ entry_new (from_start script start) entries e;
          untouched = untouched_stays (from_start script start) entries e begin (now + 1) used c.first.1 (omega arith) (untouched_now clear);
          is_good = subst (λ (r : Rows). IsGood (script_tables script) r.tables) (sym rows_then) good;
        }

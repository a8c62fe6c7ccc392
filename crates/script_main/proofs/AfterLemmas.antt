-- The log behind a run is sound again, in the run's generation.
--
-- Its entries from before the run have other identities, since they began earlier; those of the run are apart, since no
-- session and number comes twice in a lawful history.
use Rattle.std.proofs.Common.{◌≡◌, ◌≤◌, ◌<◌, ◌^◌, ◌+◌, ◌-◌, ◌==◌, ◌&&◌, Bool, true, false, inl, inr, ℕ, zero, suc, List, [], ◌∷◌, ◌++◌, length, drop, Option, Some, unwrap_or, refl, sym, ap, ◌∙◌, subst, arith, append_assoc, append-nil}
use Rattle.std.proofs.Math.Seq.{take-length}
use Rattle.std.proofs.lemmas.Bool.{false≢true}
use Rattle.std.proofs.lemmas.Bool.Decides.{Decides-eqb}
use Rattle.std.proofs.lemmas.List.{length-append}
use Rattle.std.proofs.lemmas.Slice.Eq.{bytes_eq-Decides}
use Rattle.std.specs.List.{AllByRecursion, slice_get}
use Rattle.cdb_values.specs.Good.{AllFit, IsGood}
use Rattle.cdb_values.specs.Rows.{Rows, no_rows, apply_all}
use Rattle.cdb_values.specs.declared.rows.Level.{Level}
use Rattle.cdb_values.specs.declared.tables.TableDef.{TableDef}
use Rattle.log_replay.specs.Answers.{schema_of}
use Rattle.log_rows.specs.History.{rows_over, IsCommit}
use Rattle.phys_log.specs.Logs.{pages_of}
use Rattle.phys_log.specs.declared.entries.CommitId.{CommitId}
use Rattle.phys_log.specs.declared.entries.Entry.{Entry}
use Rattle.phys_log.specs.declared.entries.Entry.TheVariants as entry
use Rattle.report_laws.specs.History.{Basis, ops_alone, ops_of, rows_after, rows_at, states_of, last_position, is_entry_of, IsEntryAfter}
use Rattle.report_laws.specs.Work.{Transaction}
use Rattle.report_laws.proofs.HistoryLaws.{last_more, rows_new}
use Rattle.report_text.specs.declared.reports.EntryLine.{EntryLine}
use Rattle.report_text.specs.declared.reports.EntryLine.TheVariants.{Setup, Commit}
use Rattle.script_form.specs.declared.scripts.Script.{Script}
use Rattle.script_form.specs.CanRun.{script_tables}
use Rattle.script_play.specs.Basis.{from_start}
use Rattle.script_play.specs.EntryLines.{lines_from, IsMadeIn}
use Rattle.script_play.specs.Played.{IsHistory}
use Rattle.script_play.specs.Start.{Start, base, ground_of}
use Rattle.session_language.specs.Each.{EachAfter}
use Rattle.session_language.specs.Language.{Answered}
use Rattle.session_language.proofs.EachLaws.{all_append, get_next}
use Rattle.sound_log.specs.Identities.{ids_in, AreApart}
use Rattle.sound_log.specs.Sound.{IsBegunIn, IsSound}
use Rattle.sound_log.proofs.GoOnLemmas.{sound_on}
use Rattle.table_state.specs.States.{HasState}
use Rattle.table_store.specs.Listings.{IsAmong}
use Rattle.table_store.specs.Stored.{Stands}

-- a member keeps its place in a longer list
kept : {A : Type 0} (xs ys : List A) (i : ℕ) (x : A) → slice_get xs i ≡ Some x → slice_get (xs ++ ys) i ≡ Some x
kept [] ys i x at = absurd (cc)
kept (y ∷ xs) ys zero x at = at
kept (y ∷ xs) ys (suc i) x at = kept xs ys i x at

not_nil : {A : Type 0} (xs : List A) (x : A) → xs ++ x ∷ [] ≡ [] → ⊥
not_nil [] x e = cc
not_nil (y ∷ xs) x e = cc

-- the line of a transaction is its own
its_own : (position begin : ℕ) (id : CommitId) (level : Level) → is_entry_of id.session id.txn (Commit position id.session id.txn begin level) ≡ true
its_own position begin id level =
    ap (λ (b : Bool). b && (id.txn == id.txn)) ((bytes_eq-Decides id.session id.session).1 refl) ∙ (Decides-eqb id.txn id.txn).1 refl

-- entries that were made in a generation began in it
begun_in : (generation : ℕ) (made : List Entry) → AllByRecursion (IsMadeIn generation) made → AllByRecursion (IsBegunIn generation) (ids_in made)
begun_in generation [] all = tt
begun_in generation (entry.Setup g schema records ∷ es) all = begun_in generation es all.1
begun_in generation (entry.Commit g id begin level changes records ∷ es) all = (all.0.1, begun_in generation es all.1)

lines_length : (n : ℕ) (made : List Entry) → length (lines_from n made) ≡ length made
lines_length n [] = refl
lines_length n (e ∷ es) = ap (λ k. suc k) (lines_length (n + 1) es)

module _ (basis : Basis) where
  abbrev origin_at : ℕ
  origin_at = basis.origin.position

  -- no later entry is that of a line before it
  never : (l : EntryLine) (i : ℕ) (front : List EntryLine) (n : ℕ) (made : List Entry) (id : CommitId) → slice_get front i ≡ Some l
      → EachAfter (IsEntryAfter basis) front (lines_from n made) → IsAmong id (ids_in made) → is_entry_of id.session id.txn l ≡ false
  never l i front n [] id at each among = absurd among
  never l i front n (entry.Setup g schema records ∷ es) id at each among =
      never l i (front ++ Setup n ∷ []) (n + 1) es id (kept front (Setup n ∷ []) i l at) each.1 among
  never l i front n (entry.Commit g own begin level changes records ∷ es) id at each (inl e) =
      subst (λ (x : CommitId). is_entry_of x.session x.txn l ≡ false) (sym e) (each.0.once (i + (origin_at + 1)) l behind there)
    where
      behind : origin_at < i + (origin_at + 1)
      behind = omega arith

      back : i + (origin_at + 1) - (origin_at + 1) ≡ i
      back = omega arith

      there : slice_get front (i + (origin_at + 1) - (origin_at + 1)) ≡ Some l
      there = ap (λ k. slice_get front k) back ∙ at
  never l i front n (entry.Commit g own begin level changes records ∷ es) id at each (inr among) =
      let line : EntryLine = Commit n own.session own.txn begin level in
      never l i (front ++ line ∷ []) (n + 1) es id (kept front (line ∷ []) i l at) each.1 among

  -- so the identities of the entries are apart
  apart_made : (front : List EntryLine) (n : ℕ) (made : List Entry) → EachAfter (IsEntryAfter basis) front (lines_from n made) → AreApart (ids_in made)
  apart_made front n [] each = tt
  apart_made front n (entry.Setup g schema records ∷ es) each = apart_made (front ++ Setup n ∷ []) (n + 1) es each.1
  apart_made front n (entry.Commit g id begin level changes records ∷ es) each =
      let line : EntryLine = Commit n id.session id.txn begin level in (
        λ among. false≢true (sym (never line (length front) (front ++ line ∷ []) (n + 1) es id (get_next front line []) each.1 among) ∙ its_own n begin id level),
        apart_made (front ++ line ∷ []) (n + 1) es each.1,
      )

  -- entries behind the first position are those of transactions
  later_commits : (front : List EntryLine) (n : ℕ) (made : List Entry) → (front ≡ [] → origin_at ≡ 0 → ⊥)
      → EachAfter (IsEntryAfter basis) front (lines_from n made) → AllByRecursion IsCommit made
  later_commits front n [] some each = tt
  later_commits front n (entry.Setup g schema records ∷ es) some each = absurd (some each.0.0 each.0.1)
  later_commits front n (entry.Commit g id begin level changes records ∷ es) some each =
      let line : EntryLine = Commit n id.session id.txn begin level in
      (tt, later_commits (front ++ line ∷ []) (n + 1) es (λ e z. not_nil front line e) each.1)

  all_commits : (accepted n : ℕ) (before made : List Entry) → origin_at ≡ length before → IsSound accepted before
      → EachAfter (IsEntryAfter basis) [] (lines_from n made) → AllByRecursion IsCommit (drop 1 (before ++ made))
  all_commits accepted n [] [] same sound each = tt
  all_commits accepted n [] (entry.Setup g schema records ∷ es) same sound each =
      later_commits (Setup n ∷ []) (n + 1) es (λ e z. not_nil [] (Setup n) e) each.1
  all_commits accepted n [] (entry.Commit g id begin level changes records ∷ es) same sound each =
      let line : EntryLine = Commit n id.session id.txn begin level in
      later_commits (line ∷ []) (n + 1) es (λ e z. not_nil [] line e) each.1
  all_commits accepted n (b ∷ bs) made same (inl none) each = absurd (cc)
  all_commits accepted n (b ∷ bs) made same (inr sound) each =
      all_append IsCommit bs made sound.commits (later_commits [] n made (λ e z. omega arith) each)

  -- the rows at the last position fit their tables
  abbrev Fit : List EntryLine → Type 0
  Fit entries = AllFit basis.origin.tables (rows_at basis entries (last_position basis.origin entries)).tables

  fit_none : (tables : List TableDef) → AllFit tables (no_rows tables).tables
  fit_none [] = tt
  fit_none (table ∷ tables) = (tt, fit_none tables)

  fit_after : (front : List EntryLine) (x : EntryLine) → IsEntryAfter basis front x
      → AllFit basis.origin.tables (rows_after basis (states_of basis front) x).tables
  fit_after front (Setup position) right = fit_none basis.origin.tables
  fit_after front (Commit position session txn begin level) right =
      subst (λ (r : Rows). AllFit basis.origin.tables r.tables) (sym rows_there) right.is_good.rows_fit
    where
      back : position - 1 ≡ last_position basis.origin front
      back = let placed : position ≡ last_position basis.origin front + 1 = right.placed in omega arith

      its_ops : ops_of basis (states_of basis front) (Commit position session txn begin level) ≡ right.ran.ops
      its_ops =
          ap (λ (found : Option Transaction). ops_alone basis (rows_at basis front begin) found) right.is_its
          ∙ ap (λ (ran : Answered). ran.ops) (sym right.is_ran)

      rows_there : rows_after basis (states_of basis front) (Commit position session txn begin level)
          ≡ apply_all (rows_at basis front (last_position basis.origin front)) right.ran.ops
      rows_there =
          ap (λ k. apply_all (rows_at basis front k) (ops_of basis (states_of basis front) (Commit position session txn begin level))) back
          ∙ ap (λ ops. apply_all (rows_at basis front (last_position basis.origin front)) ops) its_ops

  fit_one : (front : List EntryLine) (x : EntryLine) → IsEntryAfter basis front x → Fit (front ++ x ∷ [])
  fit_one front x right =
      subst (λ (r : Rows). AllFit basis.origin.tables r.tables)
      (sym (ap (λ k. rows_at basis (front ++ x ∷ []) k) (last_more basis.origin front x) ∙ rows_new basis front x)) (fit_after front x right)

  fit_from : (front rest : List EntryLine) → Fit front → EachAfter (IsEntryAfter basis) front rest → Fit (front ++ rest)
  fit_from front [] fit each = subst Fit (sym (append-nil front)) fit
  fit_from front (x ∷ xs) fit each =
      subst Fit (append_assoc front (x ∷ []) xs) (fit_from (front ++ x ∷ []) xs (fit_one front x each.0) each.1)

  fit_whole : (entries : List EntryLine) → (entries ≡ [] → AllFit basis.origin.tables basis.origin.rows.tables)
      → EachAfter (IsEntryAfter basis) [] entries → Fit entries
  fit_whole [] first each = subst (λ (r : Rows). AllFit basis.origin.tables r.tables) at (first refl)
    where
      back : origin_at + 0 - origin_at ≡ 0
      back = omega arith

      at : basis.origin.rows ≡ rows_at basis [] (origin_at + 0)
      at = sym (ap (λ k. unwrap_or (slice_get (basis.origin.rows ∷ []) k) basis.origin.rows) back)
  fit_whole (x ∷ xs) first each = fit_from (x ∷ []) xs (fit_one [] x each.0) each.1

-- a log that has entries, since it has a schema
some_entries : (history : List Entry) (tables : List TableDef) → schema_of history ≡ Some tables → 1 ≤ length history
some_entries [] tables schema = absurd (cc)
some_entries (e ∷ es) tables schema = omega arith

-- the rows before a run fit, where it made no entry
fit_before : (before : List Entry) (tables : List TableDef) (rows : Rows) → 1 ≤ length before
    → (1 ≤ length before → HasState (pages_of before) tables rows) → AllFit tables rows.tables
fit_before before tables rows some state = (state some).good.rows_fit

module _ (script : Script) (start : Start) (generation : ℕ) (entries : List EntryLine) (history : List Entry) (told : IsHistory script start generation entries history) where
  abbrev basis : Basis
  basis = from_start script start

  abbrev tables : List TableDef
  tables = script_tables script

  some : 1 ≤ length history
  some = some_entries history tables told.schema

  behind : length history ≡ length start.before + length told.told.made
  behind = ap length told.told.behind ∙ length-append start.before told.told.made

  count : length entries ≡ length told.told.made
  count = ap length told.told.told ∙ lines_length (length start.before + 1) told.told.made

  last : last_position basis.origin entries ≡ length history
  last = let b : length history ≡ length start.before + length told.told.made = behind in
      let c : length entries ≡ length told.told.made = count in
      omega arith

  each : EachAfter (IsEntryAfter basis) [] (lines_from (length start.before + 1) told.told.made)
  each = subst (λ (es : List EntryLine). EachAfter (IsEntryAfter basis) [] es) told.told.told told.lawful

  -- the rows of the log are those of the history
  rows_are : rows_over (ground_of start) history ≡ rows_at basis entries (last_position basis.origin entries)
  rows_are =
      ap (λ (es : List Entry). rows_over (ground_of start) es) (sym (take-length history))
      ∙ told.rows (length history) (some, within) (omega arith)
      ∙ ap (λ k. rows_at basis entries k) (sym last)
    where
      within : base start ≤ length history
      within = let b : length history ≡ length start.before + length told.told.made = behind in omega arith

  module _ (state : 1 ≤ length start.before → HasState (pages_of start.before) tables start.rows) where
    fit : AllFit tables (rows_over (ground_of start) history).tables
    fit = subst (λ (r : Rows). AllFit tables r.tables) (sym rows_are) (fit_whole basis entries first told.lawful)
      where
        none_made : (made : List Entry) → lines_from (length start.before + 1) made ≡ [] → length made ≡ 0
        none_made [] e = refl
        none_made (e ∷ es) is = absurd (cc)

        first : entries ≡ [] → AllFit tables start.rows.tables
        first none =
            let no : length told.told.made ≡ 0 = none_made told.told.made (sym told.told.told ∙ none) in
            let b : length history ≡ length start.before + length told.told.made = behind in
            let s : 1 ≤ length history = some in
            fit_before start.before tables start.rows (omega arith) state

    stands : Stands (pages_of history) tables (rows_over (ground_of start) history)
    stands =
        subst (λ (es : List Entry). Stands (pages_of es) tables (rows_over (ground_of start) es)) (take-length history)
        (told.stands (length history) (some, within) (omega arith))
      where
        within : base start ≤ length history
        within = let b : length history ≡ length start.before + length told.told.made = behind in omega arith

    -- where a run began behind a sound log, in a later generation, its log is sound in this generation
    pub sound_again : (accepted : ℕ) → accepted < generation → IsSound accepted start.before
        → (Stands (pages_of history) tables (rows_over (ground_of start) history) → AllFit tables (rows_over (ground_of start) history).tables
        → IsGood tables (rows_over (ground_of start) history).tables) → IsSound generation history
    sound_again accepted later sound good =
        subst (λ (es : List Entry). IsSound generation es) (sym told.told.behind)
        (sound_on accepted generation start.before told.told.made tables (rows_over (ground_of start) history) later sound
        (subst (λ (es : List Entry). schema_of es ≡ Some tables) told.told.behind told.schema)
        (all_commits basis accepted (length start.before + 1) start.before told.told.made refl sound each)
        (begun_in generation told.told.made told.told.in_it)
        (apart_made basis [] (length start.before + 1) told.told.made each)
        (subst (λ (es : List Entry). HasState (pages_of es) tables (rows_over (ground_of start) history)) told.told.behind (record {
          stands = stands;
          good = good stands fit;
          next = subst (λ (n : ℕ). n < 2 ^ 62) stands.genid told.small.genid;
          count = told.small.count;
        })))

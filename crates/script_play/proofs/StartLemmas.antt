-- The run at its opening: with a log that it begins, and behind one that stands already.
use Rattle.std.proofs.Common.{◌≡◌, zero, suc, ℕ, ◌-◌, ◌<◌, ◌≤◌, ◌==◌, List, [], ◌∷◌, length, map, refl, sym, subst, ap, arith, ◌∙◌, append-nil, unwrap_or, Bool, false, if◌then◌else◌}
use Rattle.std.proofs.lemmas.Bool.{ne_eqb}
use Rattle.std.specs.List.{AllByRecursion, slice_get}
use Rattle.std.specs.Prelude.{drop}
use Rattle.block_processor.specs.Changed.{changed_in}
use Rattle.cdb_values.specs.Rows.{Rows, no_rows}
use Rattle.cdb_values.specs.declared.rows.Change.{Change}
use Rattle.cdb_values.specs.declared.tables.TableDef.{TableDef}
use Rattle.log_rows.proofs.HistoryLemmas.{rows_ground, rows_whole, stand_begun}
use Rattle.log_rows.specs.History.{rows_over, rows_over_at, IsFrom, StandsOver}
use Rattle.log_rows.specs.Sizes.{IsSmall}
use Rattle.phys_log.specs.Logs.{page_at, pages_of}
use Rattle.phys_log.specs.declared.entries.Entry.{Entry}
use Rattle.phys_log.specs.declared.entries.Entry.TheVariants as log
use Rattle.phys_log.specs.declared.entries.LogRecord.{LogRecord}
use Rattle.report_laws.specs.History.{rows_at, changes_at}
use Rattle.report_laws.specs.Play.{opening}
use Rattle.report_text.specs.declared.reports.EntryLine.{EntryLine}
use Rattle.report_text.specs.declared.reports.EntryLine.TheVariants.{Setup}
use Rattle.script_form.specs.CanRun.{CanRun, script_tables}
use Rattle.script_form.specs.declared.scripts.Script.{Script}
use Rattle.script_form.specs.declared.scripts.SessionLine.{SessionLine}
use Rattle.script_play.specs.Basis.{from_start}
use Rattle.script_play.specs.Decisions.{HasName}
use Rattle.session_turns.specs.Doing.{SessionAt}
use Rattle.script_play.specs.EntryLines.{AreTold}
use Rattle.script_play.specs.Ready.{AreKept, CanBegin, GoesOn, IsLogged}
use Rattle.script_play.specs.RunViews.{seen_in, IsOpening, IsOpenedBehind, IsOpenedLog}
use Rattle.session_turns.specs.Seen.{SeenRows}
use Rattle.script_play.specs.SoFar.{now_of, IsBefore, IsStoredSoFar, at_start}
use Rattle.script_play.specs.Start.{Start, base, ground_of}
use Rattle.script_play.proofs.SoundLaws.{kept_none}
use Rattle.script_play.proofs.WholeLemmas.{begins_so}
use Rattle.table_store.specs.Stored.{Stands}

pub none_before : (before : List Entry) → length before ≡ 0 → before ≡ []
none_before [] is = refl
none_before (e ∷ es) is = absurd (omega (arith, is))

-- the setup of the tables stands in a history that begins with the run
pub opening_is : (tables : List TableDef) (generation told : ℕ) (before : List Entry) (entries : List EntryLine) (logged : List Entry) → told ≡ length before → (told ≡ 0 → entries ≡ Setup 1 ∷ []) → (1 ≤ told → entries ≡ []) →
    IsOpenedBehind tables generation before logged → IsOpening tables generation before entries logged
opening_is tables generation told before entries logged count first later is = record {
  first = λ none. (first (count ∙ ap (λ (es : List Entry). length es) none), is.first none);
  later = λ some. (later (omega (arith, count, some)), is.later some);
}

-- ---- a run that begins its log

-- the run behind a log without entries
abbrev pub at_nothing : Rows → Start
at_nothing rows = record { before = []; rows = rows }

only_from : (P : ℕ → Type 0) → P 1 → (at : ℕ) → IsFrom 0 at → at ≤ 1 → P at
only_from P one at from within = let is : at ≡ 1 = (let first = from.0 in omega (arith, first, within)) in subst P (sym is) one

only_one : (P : ℕ → Type 0) → P 1 → (at : ℕ) → 0 < at → at ≤ 1 → P at
only_one P one at first within = let is : at ≡ 1 = omega (arith, first, within) in subst P (sym is) one

-- its tables have no rows at first
stored_first : (script : Script) (rows : Rows) (seen : SeenRows) → seen.at 1 ≡ no_rows (script_tables script) → seen.next ≡ 1 → IsStoredSoFar script (at_nothing rows) (Setup 1 ∷ []) ([] ∷ []) seen
stored_first script rows seen none next = record {
  opened = (omega arith, omega arith);
  history = ((refl, refl, refl), tt);
  rows_are = only_from (λ at. seen.at at ≡ rows_at (from_start script (at_nothing rows)) (Setup 1 ∷ []) at) none;
  now_are = none;
  next_is = next ∙ ap (λ (r : Rows). r.next) (sym none);
  changed_length = refl;
  changed_are = only_one (λ k. unwrap_or (slice_get ([] ∷ []) (k - 1)) [] ≡ changes_at (from_start script (at_nothing rows)) (Setup 1 ∷ []) k) refl;
  sound = only_from (λ at. AreKept (script_tables script) seen.next (seen.at at).tables)
      (subst (λ (r : Rows). AreKept (script_tables script) seen.next r.tables) (sym none) (kept_none (script_tables script) seen.next));
  named = (tt, tt);
}

-- ---- a run behind entries

drop_all : {A : Type 0} (n : ℕ) (xs : List A) → length xs ≡ n → drop n xs ≡ []
drop_all zero [] is = refl
drop_all zero (x ∷ xs) is = absurd (omega (arith, is))
drop_all (suc n) [] is = refl
drop_all (suc n) (x ∷ xs) is = drop_all n xs (omega (arith, is))

rows_behind : (script : Script) (start : Start) (at : ℕ) → at ≤ base start → rows_at (from_start script start) [] at ≡ start.rows
rows_behind script start at within =
    let none : at - base start ≡ 0 = omega (arith, within) in ap (λ n. unwrap_or (slice_get (start.rows ∷ []) n) start.rows) none

-- its rows at first are those of the start
stored_later : (script : Script) (start : Start) (changed : List (List Change)) (seen : SeenRows) → 1 ≤ base start → seen.at (base start) ≡ start.rows → seen.next ≡ start.rows.next → length changed ≡ base start →
    AreKept (script_tables script) start.rows.next start.rows.tables → IsStoredSoFar script start [] changed seen
stored_later script start changed seen some is next many kept = record {
  opened = (omega (arith, some), omega arith);
  history = tt;
  rows_are = λ at from within. at_base (λ k. seen.at k ≡ rows_at (from_start script start) [] k) (is ∙ sym (rows_behind script start (base start) (omega arith))) at from within;
  now_are = at_now (λ k. seen.at k ≡ rows_at (from_start script start) [] k) (is ∙ sym (rows_behind script start (base start) (omega arith)));
  next_is = next ∙ ap (λ (r : Rows). r.next) (sym is) ∙ at_now (λ k. (seen.at (base start)).next ≡ (seen.at k).next) refl;
  changed_length = omega (arith, many);
  changed_are = λ k first within. absurd (omega (arith, first, within));
  sound = λ at from within. at_base (λ k. AreKept (script_tables script) seen.next (seen.at k).tables)
      (subst (λ (r : Rows). AreKept (script_tables script) seen.next r.tables) (sym is) (subst (λ n. AreKept (script_tables script) n start.rows.tables) (sym next) kept)) at from within;
  named = subst (λ (l : List (List Change)). AllByRecursion (AllByRecursion (HasName (script_tables script))) l) (sym (drop_all (base start) changed many)) tt;
}
  where
    at_base : (P : ℕ → Type 0) → P (base start) → (at : ℕ) → IsFrom (base start) at → at ≤ now_of start [] → P at
    at_base P there at from within = let same : base start ≡ at = (let least = from.1 in omega (arith, least, within)) in subst P same there

    at_now : (P : ℕ → Type 0) → P (base start) → P (now_of start [])
    at_now P there = let same : base start ≡ now_of start [] = omega arith in subst P same there

-- nothing stands in its history at first
none_opened : (n : ℕ) → 1 ≤ n → (if n == 0 then Setup 1 ∷ [] else []) ≡ []
none_opened n some = ap (λ (b : Bool). if b then Setup 1 ∷ [] else []) (ne_eqb n 0 (λ same. absurd (omega (arith, some, same))))

-- ---- both

changes_length : (es : List Entry) → length (changed_in es) ≡ length es
changes_length [] = refl
changes_length (e ∷ es) = let rest = changes_length es in omega (arith, rest)

as_many : (ss : List SessionLine) → length (map (λ _. at_start) ss) ≡ length ss
as_many [] = refl
as_many (s ∷ ss) = let rest = as_many ss in omega (arith, rest)

-- the run as it begins, with its log
pub record Opens (script : Script) (start : Start) (generation : ℕ) (entries : List EntryLine) (logged : List Entry) (states : List SessionAt) : Type 0 where
  pub before_line : IsBefore script start false script.body [] entries (changed_in logged) (seen_in start logged) states
  pub logged_so : IsLogged start (script_tables script) (now_of start entries) logged
  pub told : AreTold start.before generation entries logged

first_is : (script : Script) (start : Start) (changed : List (List Change)) (seen : SeenRows) (states : List SessionAt) → CanRun script → states ≡ map (λ _. at_start) script.sessions → IsStoredSoFar script start (opening (from_start script start).origin) changed seen →
    IsBefore script start false script.body [] (opening (from_start script start).origin) changed seen states
first_is script start changed seen states can starts stored =
    subst (λ (ss : List SessionAt). IsBefore script start false script.body [] (opening (from_start script start).origin) changed seen ss) (sym starts) (record {
      can_run = can;
      said = can.said;
      same = as_many script.sessions;
      done = [];
      so_far = begins_so script start changed seen stored;
    })

opens_first : (script : Script) (rows : Rows) (generation : ℕ) (records : List LogRecord) (states : List SessionAt) → CanRun script → states ≡ map (λ _. at_start) script.sessions →
    Stands (pages_of (log.Setup generation (script_tables script) records ∷ [])) (script_tables script) (no_rows (script_tables script)) →
    IsSmall (log.Setup generation (script_tables script) records ∷ []) →
    Opens script (at_nothing rows) generation (Setup 1 ∷ []) (log.Setup generation (script_tables script) records ∷ []) states
opens_first script rows generation records states can starts at_one small = record {
  before_line = first_is script (at_nothing rows) ([] ∷ []) (seen_in (at_nothing rows) one) states can starts (stored_first script rows (seen_in (at_nothing rows) one) refl refl);
  logged_so = record { count = refl; schema = refl; commits = tt; stands = stands; small = small };
  told = record { made = one; behind = refl; told = refl; in_it = (refl, tt) };
}
  where
    one : List Entry
    one = log.Setup generation (script_tables script) records ∷ []

    stands : StandsOver (ground_of (at_nothing rows)) (script_tables script) one
    stands k from within =
        let is : k ≡ 1 = (let first = from.0 in omega (arith, first, within)) in
        subst (λ (n : ℕ). Stands (page_at one n) (script_tables script) (rows_over_at (ground_of (at_nothing rows)) one n)) (sym is) at_one

opens_later : (script : Script) (start : Start) (generation : ℕ) (states : List SessionAt) → CanRun script → states ≡ map (λ _. at_start) script.sessions → 1 ≤ base start → GoesOn (script_tables script) start.before start.rows →
    Opens script start generation [] start.before states
opens_later script start generation states can starts some goes = record {
  before_line = subst (λ (es : List EntryLine). IsBefore script start false script.body [] es (changed_in start.before) (seen_in start start.before) states) none
      (first_is script start (changed_in start.before) (seen_in start start.before) states can starts
      (subst (λ (es : List EntryLine). IsStoredSoFar script start es (changed_in start.before) (seen_in start start.before)) (sym none)
      (stored_later script start (changed_in start.before) (seen_in start start.before) some (rows_whole (ground_of start) start.before ∙ there) (ap (λ (r : Rows). r.next) there) (changes_length start.before) goes.kept)));
  logged_so = record {
    count = omega arith;
    schema = goes.schema;
    commits = goes.commits;
    stands = stand_begun (ground_of start) (script_tables script) start.before refl (λ long. goes.stands);
    small = goes.small;
  };
  told = record { made = []; behind = sym (append-nil start.before); told = refl; in_it = tt };
}
  where
    none : opening (from_start script start).origin ≡ []
    none = none_opened (base start) some

    there : rows_over (ground_of start) start.before ≡ start.rows
    there = rows_ground (ground_of start) start.before (omega arith)

-- however the log stood
pub opens : (script : Script) (tables : List TableDef) (before : List Entry) (rows : Rows) (generation : ℕ) (entries : List EntryLine) (logged : List Entry) (states : List SessionAt) → CanRun script → tables ≡ script_tables script →
    CanBegin (script_tables script) before rows → IsOpening tables generation before entries logged → states ≡ map (λ _. at_start) script.sessions →
    Opens script (record { before = before; rows = rows }) generation entries logged states
opens script tables [] rows generation entries logged states can are begin is starts =
    subst (λ (es : List EntryLine). Opens script (at_nothing rows) generation es logged states) (sym found.0)
    (subst (λ (es : List Entry). Opens script (at_nothing rows) generation (Setup 1 ∷ []) es states) (sym its)
    (opens_first script rows generation found.1.records states can starts at_one (subst IsSmall its found.1.small)))
  where
    found : (entries ≡ Setup 1 ∷ []) × IsOpenedLog tables generation logged
    found = is.first refl

    one : List Entry
    one = log.Setup generation (script_tables script) found.1.records ∷ []

    its : logged ≡ one
    its = found.1.is ∙ ap (λ (ts : List TableDef). log.Setup generation ts found.1.records ∷ []) are

    at_one : Stands (pages_of one) (script_tables script) (no_rows (script_tables script))
    at_one = subst (λ (ts : List TableDef). Stands (pages_of one) ts (no_rows ts)) are (subst (λ (es : List Entry). Stands (pages_of es) tables (no_rows tables)) its found.1.stands)
opens script tables (e ∷ es) rows generation entries logged states can are begin is starts =
    subst (λ (l : List EntryLine). Opens script behind generation l logged states) (sym found.0)
    (subst (λ (l : List Entry). Opens script behind generation [] l states) (sym found.1) (opens_later script behind generation states can starts some begin))
  where
    behind : Start
    behind = record { before = e ∷ es; rows = rows }

    some : 1 ≤ length (e ∷ es)
    some = omega arith

    found : (entries ≡ []) × (logged ≡ e ∷ es)
    found = is.later some

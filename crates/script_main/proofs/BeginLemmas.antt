-- A run can begin behind a log that was taken up: its rows fit their tables, have genids below the next one, and are rows
-- that can be told.
use Rattle.std.proofs.Common.{◌≡◌, ◌≤◌, ◌<◌, ◌+◌, ◌^◌, inl, inr, ℕ, List, [], ◌∷◌, length, refl, sym, ap, ◌∙◌, subst, arith}
use Rattle.std.proofs.lemmas.Str.{is_utf8-from_IsUtf8}
use Rattle.std.specs.List.{AllByRecursion}
use Rattle.blkseq_table.specs.Known.{AreApart, IsAbsent}
use Rattle.blkseq_table.specs.OfLogs.{identities_from}
use Rattle.cdb_values.specs.Good.{AllFit, FitsTable}
use Rattle.cdb_values.specs.Rows.{Rows, no_rows}
use Rattle.cdb_values.specs.declared.rows.Version.{Version}
use Rattle.cdb_values.specs.declared.tables.TableDef.{TableDef}
use Rattle.cdb_values.specs.declared.values.Value.{Value}
use Rattle.cdb_values.specs.declared.values.Value.TheVariants.{Null, Int, Text, Blob}
use Rattle.key_code.specs.Codes.{IsRowValue, IsText}
use Rattle.log_rows.specs.History.{tables_of}
use Rattle.log_rows.specs.Sizes.{IsSmall}
use Rattle.node_opening.specs.Up.{GoesOn}
use Rattle.phys_log.specs.Logs.{pages_of}
use Rattle.phys_log.specs.declared.entries.CommitId.{CommitId}
use Rattle.phys_log.specs.declared.entries.Entry.{Entry}
use Rattle.phys_log.specs.declared.entries.Entry.TheVariants.{Setup, Commit}
use Rattle.script_play.specs.Ready.{CanBegin}
use Rattle.script_play.specs.RunViews.{IsOpenedBehind, IsOpenedLog}
use Rattle.session_language.specs.Spelled.{IsToldValue, IsToldRow, HaveRows}
use Rattle.sound_log.specs.Bytes.{IsOfBytes, RowIsOfBytes, RowsAreOfBytes, AreOfBytes}
use Rattle.sound_log.specs.Identities.{ids_in}
use Rattle.sound_log.specs.Identities as ids
use Rattle.sound_log.specs.Sound.{IsSoundHistory, IsSound}
use Rattle.sql_run.specs.Sound.{AreSound, IsSoundVersion}
use Rattle.table_state.specs.States.{HasState}
use Rattle.table_store.specs.Listings.{IsAmong}
use Rattle.table_store.specs.States.{Rise, AreVersions}
use Rattle.table_store.specs.Stored.{Stands}

-- versions that fit their table, and whose genids rise below the next one
sound_versions : (table : TableDef) (next : ℕ) (versions : List Version) → AllByRecursion (λ v. FitsTable table v.row) versions
    → Rise versions next → AllByRecursion (IsSoundVersion table next) versions
sound_versions table next [] fit rise = tt
sound_versions table next (v ∷ vs) fit rise = ((fit.0, rise.0), sound_versions table next vs fit.1 rise.2)

sound_rows : (tables : List TableDef) (next : ℕ) (versions : List (List Version)) → AllFit tables versions
    → AllByRecursion (AreVersions next) versions → AreSound tables next versions
sound_rows [] next [] fit are = tt
sound_rows [] next (vs ∷ others) fit are = absurd fit
sound_rows (table ∷ tables) next [] fit are = absurd fit
sound_rows (table ∷ tables) next (vs ∷ others) fit are =
    (sound_versions table next vs fit.0 are.0.rise, sound_rows tables next others fit.1 are.1)

-- a value that is read from a row of bytes can be told
told_value : (value : Value) → IsText value → IsOfBytes value → IsToldValue value
told_value Null text bytes = tt
told_value (Int n) text bytes = tt
told_value (Text words) text bytes = is_utf8-from_IsUtf8 words text
told_value (Blob blob) text bytes = bytes

told_values : (values : List Value) → AllByRecursion IsRowValue values → AllByRecursion IsOfBytes values → IsToldRow values
told_values [] coded bytes = tt
told_values (v ∷ vs) coded bytes = (told_value v coded.0.text bytes.0, told_values vs coded.1 bytes.1)

told_versions : (versions : List Version) → AllByRecursion (λ v. AllByRecursion IsRowValue v.row) versions → AllByRecursion RowIsOfBytes versions
    → AllByRecursion (λ v. IsToldRow v.row) versions
told_versions [] coded bytes = tt
told_versions (v ∷ vs) coded bytes = (told_values v.row coded.0 bytes.0, told_versions vs coded.1 bytes.1)

told_rows : (next : ℕ) (versions : List (List Version)) → AllByRecursion (AreVersions next) versions → RowsAreOfBytes versions → HaveRows versions
told_rows next [] are bytes = tt
told_rows next (vs ∷ others) are bytes = (told_versions vs are.0.coded bytes.0, told_rows next others are.1 bytes.1)

-- an identity that is not among those of entries is absent from what a table has of them
absent : (position : ℕ) (es : List Entry) (id : CommitId) → (IsAmong id (ids_in es) → ⊥) → IsAbsent (identities_from position es) id
absent position [] id not = tt
absent position (Setup generation schema records ∷ es) id not = absent (position + 1) es id not
absent position (Commit generation own begin level changes records ∷ es) id not =
    (λ is. not (inl (sym is)), absent (position + 1) es id (λ among. not (inr among)))

-- identities that are apart are so with their positions
known_apart : (position : ℕ) (es : List Entry) → ids.AreApart (ids_in es) → AreApart (identities_from position es)
known_apart position [] apart = tt
known_apart position (Setup generation schema records ∷ es) apart = known_apart (position + 1) es apart
known_apart position (Commit generation id begin level changes records ∷ es) apart =
    (absent (position + 1) es id apart.0, known_apart (position + 1) es apart.1)

-- a run can begin behind a sound log, at the rows for which its pages stand
pub can_begin : (accepted : ℕ) (e : Entry) (es : List Entry) (sound : IsSoundHistory accepted (e ∷ es)) → AreOfBytes (e ∷ es)
    → CanBegin (tables_of (e ∷ es)) (e ∷ es) sound.rows
can_begin accepted e es sound bytes = record {
  schema = sound.setup;
  commits = sound.commits;
  apart = known_apart 1 (e ∷ es) sound.apart;
  stands = state.stands;
  kept = (
    sound_rows (tables_of (e ∷ es)) sound.rows.next sound.rows.tables state.good.rows_fit state.stands.state.versions,
    told_rows sound.rows.next sound.rows.tables state.stands.state.versions (bytes sound.rows state),
  );
  small = record { genid = subst (λ (n : ℕ). n < 2 ^ 62) (sym state.stands.genid) state.next; count = state.count };
}
  where
    state : HasState (pages_of (e ∷ es)) (tables_of (e ∷ es)) sound.rows
    state = sound.state

-- where a run begins: at rows for which the pages of the log stand, at none where it has no entry
pub record Begins (tables : List TableDef) (before : List Entry) : Type 0 where
  pub rows : Rows
  pub can : CanBegin tables before rows
  pub none : before ≡ [] → rows ≡ no_rows []
  pub state : 1 ≤ length before → HasState (pages_of before) tables rows

begins_first : (tables : List TableDef) → Begins tables []
begins_first tables = record { rows = no_rows []; can = refl; none = λ e. refl; state = λ some. absurd (no some) }
  where
    no : 1 ≤ 0 → ⊥
    no l = omega arith

begins_behind : (accepted : ℕ) (e : Entry) (es : List Entry) → IsSoundHistory accepted (e ∷ es) → AreOfBytes (e ∷ es)
    → Begins (tables_of (e ∷ es)) (e ∷ es)
begins_behind accepted e es sound bytes = record {
  rows = sound.rows;
  can = can_begin accepted e es sound bytes;
  none = λ is. absurd (other is);
  state = λ some. sound.state;
}
  where
    other : e ∷ es ≡ [] → ⊥
    other is = cc

-- a run begins behind each log that is sound, over its tables, or over any where it has no entry
pub begins : (accepted : ℕ) (before : List Entry) (tables : List TableDef) → IsSound accepted before → AreOfBytes before
    → (1 ≤ length before → tables ≡ tables_of before) → Begins tables before
begins accepted [] tables sound bytes same = begins_first tables
begins accepted (e ∷ es) tables (inl none) bytes same = absurd (other none)
  where
    other : e ∷ es ≡ [] → ⊥
    other is = cc
begins accepted (e ∷ es) tables (inr sound) bytes same =
    subst (λ (t : List TableDef). Begins t (e ∷ es)) (sym (same some)) (begins_behind accepted e es sound bytes)
  where
    some : 1 ≤ length (e ∷ es)
    some = omega arith

-- a log that was taken up, as a run wants it
pub opened_behind : (given tables : List TableDef) (generation : ℕ) (before log : List Entry) → (before ≡ [] → given ≡ tables)
    → GoesOn generation given before log → IsOpenedBehind tables generation before log
opened_behind given tables generation [] log same (entry, begin, is) = record {
  first = λ none. subst (λ (t : List TableDef). IsOpenedLog t generation log) (same refl) (record {
    records = begin.setup.0;
    is = is ∙ ap (λ (e : Entry). e ∷ []) begin.setup.1;
    stands = subst (λ (l : List Entry). Stands (pages_of l) given (no_rows given)) (sym is) begin.pages;
    small = subst IsSmall (sym is) begin.small;
  });
  later = λ some. absurd (no some);
}
  where
    no : 1 ≤ 0 → ⊥
    no l = omega arith
opened_behind given tables generation (e ∷ es) log same goes = record {
  first = λ none. absurd (other none);
  later = λ some. goes;
}
  where
    other : e ∷ es ≡ [] → ⊥
    other is = cc

-- Sound logs with one entry more, and with a later generation.
use Rattle.std.proofs.Common.{◌≡◌, ◌≤◌, ◌<◌, ◌^◌, ℕ, inl, inr, List, [], ◌∷◌, ◌++◌, Some, length, drop, refl, sym, ap, ◌∙◌, subst, arith, lit<}
use Rattle.std.specs.List.{AllByRecursion}
use Rattle.std.proofs.lemmas.List.{append-nil, append_assoc}
use Rattle.cdb_values.specs.Good.{AllFit, IsGood}
use Rattle.cdb_values.specs.Rows.{Rows, no_rows}
use Rattle.cdb_values.specs.declared.tables.TableDef.{TableDef}
use Rattle.page_workspace.specs.Spare.{count_of}
use Rattle.phys_log.specs.Logs.{pages_of}
use Rattle.phys_log.specs.declared.entries.CommitId.{CommitId}
use Rattle.phys_log.specs.declared.entries.LogRecord.{LogRecord}
use Rattle.phys_log.specs.declared.entries.Entry.{Entry}
use Rattle.phys_log.specs.declared.entries.Entry.TheVariants.{Setup, Commit}
use Rattle.log_replay.specs.Answers.{schema_of}
use Rattle.log_rows.specs.History.{tables_of, IsCommit}
use Rattle.log_rows.specs.Setups.{IsSetup}
use Rattle.table_store.specs.Listings.{IsAmong}
use Rattle.table_store.specs.Stored.{Stands}
use Rattle.table_state.specs.States.{HasState}
use Rattle.sound_log.specs.Identities.{ids_of, ids_in, AreApart}
use Rattle.sound_log.specs.Sound.{HasBegunBy, IsSoundHistory, IsSound}
use Rattle.sound_log.proofs.IdentityLemmas.{apart_more}

-- the identities of entries, one after the other
ids_more : (entries : List Entry) (entry : Entry) → ids_in (entries ++ entry ∷ []) ≡ ids_in entries ++ ids_of entry
ids_more [] entry = append-nil (ids_of entry)
ids_more (e ∷ es) entry = ap (λ (l : List CommitId). ids_of e ++ l) (ids_more es entry) ∙ sym (append_assoc (ids_of e) (ids_in es) (ids_of entry))

-- what holds of all, and of those behind them
pub all_more : {A : Type 0} (P : A → Type 0) (front back : List A) → AllByRecursion P front → AllByRecursion P back → AllByRecursion P (front ++ back)
all_more P [] back h k = k
all_more P (x ∷ front) back h k = (h.0, all_more P front back h.1 k)

commits_more : (entries : List Entry) (entry : Entry) → 1 ≤ length entries → AllByRecursion IsCommit (drop 1 entries) → IsCommit entry
    → AllByRecursion IsCommit (drop 1 (entries ++ entry ∷ []))
commits_more [] entry some h commit = absurd (none some)
  where
    none : 1 ≤ 0 → ⊥
    none l = omega arith
commits_more (e ∷ es) entry some h commit = all_more IsCommit es (entry ∷ []) h (commit, tt)

-- the entry of an identity is that of a transaction
commit_of : (entry : Entry) (id : CommitId) → ids_of entry ≡ id ∷ [] → IsCommit entry
commit_of (Setup generation schema records) id is = absurd cc
commit_of (Commit generation other begin level changes records) id is = tt

sound_with_more : (accepted : ℕ) (entries : List Entry) (entry : Entry) (id : CommitId) (rows : Rows) → 1 ≤ length entries
    → tables_of (entries ++ entry ∷ []) ≡ tables_of entries → schema_of (entries ++ entry ∷ []) ≡ schema_of entries
    → IsSoundHistory accepted entries → ids_of entry ≡ id ∷ [] → (IsAmong id (ids_in entries) → ⊥) → id.began ≤ accepted
    → HasState (pages_of (entries ++ entry ∷ [])) (tables_of entries) rows → IsSoundHistory accepted (entries ++ entry ∷ [])
sound_with_more accepted entries entry id rows some tables schema sound is new begun state = record {
  setup = schema ∙ sound.setup ∙ ap (λ (t : List TableDef). Some t) (sym tables);
  commits = commits_more entries entry some sound.commits (commit_of entry id is);
  rows = rows;
  state = subst (λ (t : List TableDef). HasState (pages_of (entries ++ entry ∷ [])) t rows) (sym tables) state;
  apart = subst AreApart (sym ids) (apart_more (ids_in entries) id sound.apart new);
  begun = subst (λ (l : List CommitId). AllByRecursion (HasBegunBy accepted) l) (sym ids)
      (all_more (HasBegunBy accepted) (ids_in entries) (id ∷ []) sound.begun (begun, tt));
}
  where
    ids : ids_in (entries ++ entry ∷ []) ≡ ids_in entries ++ id ∷ []
    ids = ids_more entries entry ∙ ap (λ (l : List CommitId). ids_in entries ++ l) is

pub sound_more : (accepted : ℕ) (entries : List Entry) (entry : Entry) (id : CommitId) (rows : Rows) → 1 ≤ length entries
    → tables_of (entries ++ entry ∷ []) ≡ tables_of entries → schema_of (entries ++ entry ∷ []) ≡ schema_of entries
    → IsSound accepted entries → ids_of entry ≡ id ∷ [] → (IsAmong id (ids_in entries) → ⊥) → id.began ≤ accepted
    → HasState (pages_of (entries ++ entry ∷ [])) (tables_of entries) rows → IsSound accepted (entries ++ entry ∷ [])
sound_more accepted entries entry id rows some tables schema (inl none) is new begun state =
    absurd (no (subst (λ (es : List Entry). 1 ≤ length es) none some))
  where
    no : 1 ≤ 0 → ⊥
    no l = omega arith
sound_more accepted entries entry id rows some tables schema (inr sound) is new begun state =
    inr (sound_with_more accepted entries entry id rows some tables schema sound is new begun state)

-- tables without rows: each row fits
no_rows_fit : (tables : List TableDef) → AllFit tables (no_rows tables).tables
no_rows_fit [] = tt
no_rows_fit (table ∷ tables) = (tt, no_rows_fit tables)

-- a setup alone
setup_alone : (accepted generation : ℕ) (tables : List TableDef) (records : List LogRecord) → IsGood tables (no_rows tables).tables
    → Stands (pages_of (Setup generation tables records ∷ [])) tables (no_rows tables) → count_of (pages_of (Setup generation tables records ∷ [])) < 2 ^ 62
    → IsSoundHistory accepted (Setup generation tables records ∷ [])
setup_alone accepted generation tables records good stands count = record {
  setup = refl;
  commits = tt;
  rows = no_rows tables;
  state = record { stands = stands; good = good; next = lit< tt; count = count };
  apart = tt;
  begun = tt;
}

pub sound_first : (accepted generation : ℕ) (tables : List TableDef) (entry : Entry)
    → (Stands (pages_of (entry ∷ [])) tables (no_rows tables) → AllFit tables (no_rows tables).tables → IsGood tables (no_rows tables).tables)
    → IsSetup generation tables entry → Stands (pages_of (entry ∷ [])) tables (no_rows tables)
    → count_of (pages_of (entry ∷ [])) < 2 ^ 62 → IsSound accepted (entry ∷ [])
sound_first accepted generation tables entry good (records, is) stands count =
    inr (subst (λ (e : Entry). IsSoundHistory accepted (e ∷ [])) (sym is)
    (setup_alone accepted generation tables records (good stands (no_rows_fit tables))
    (subst (λ (e : Entry). Stands (pages_of (e ∷ [])) tables (no_rows tables)) is stands)
    (subst (λ (e : Entry). count_of (pages_of (e ∷ [])) < 2 ^ 62) is count)))

-- a later generation
pub all_later : (accepted later : ℕ) (ids : List CommitId) → accepted ≤ later → AllByRecursion (HasBegunBy accepted) ids → AllByRecursion (HasBegunBy later) ids
all_later accepted later [] up h = tt
all_later accepted later (id ∷ ids) up h = (at id.began h.0, all_later accepted later ids up h.1)
  where
    at : (n : ℕ) → n ≤ accepted → n ≤ later
    at n l = omega arith

pub sound_later : (accepted later : ℕ) (entries : List Entry) → accepted ≤ later → IsSound accepted entries → IsSound later entries
sound_later accepted later entries up (inl none) = inl none
sound_later accepted later entries up (inr sound) =
    inr (record {
      setup = sound.setup;
      commits = sound.commits;
      rows = sound.rows;
      state = sound.state;
      apart = sound.apart;
      begun = all_later accepted later (ids_in entries) up sound.begun;
    })

-- A node that is up can begin a run behind the log that its store stood for.
use Rattle.std.proofs.Common.{◌⊎◌, ◌≡◌, ◌≢◌, ℕ, zero, suc, ◌+◌, ◌-◌, ◌<◌, ◌≤◌, None, Some, List, [], ◌∷◌, length, take, map, Bool, false, not, ◌==◌, refl, sym, subst, ap, ◌∙◌, inl, inr, arith}
use Rattle.std.proofs.Math.Seq.{take-length}
use Rattle.std.proofs.lemmas.Bool.{ne_eqb, false≢true}
use Rattle.std.specs.List.{AllByRecursion}
use Rattle.std.specs.Prelude.{slice_get}
use Rattle.blkseq_table.specs.OfLogs.{id_of}
use Rattle.cdb_values.specs.Rows.{Rows}
use Rattle.cdb_values.specs.declared.tables.TableDef.{TableDef}
use Rattle.log_rows.specs.History as history
use Rattle.node_log.specs.Logged.{Logged, AreSpelled}
use Rattle.node_opening.specs.Goods.{HasTables}
use Rattle.node_opening.specs.Up.{GoesOn, IsTakenUp}
use Rattle.phys_log.specs.Logs.{pages_of}
use Rattle.phys_log.specs.declared.entries.CommitId.{CommitId}
use Rattle.phys_log.specs.declared.entries.Entry.{Entry}
use Rattle.phys_log.specs.declared.entries.Entry.TheVariants.{Setup, Commit}
use Rattle.script_form.specs.CanRun.{script_tables, CanRun}
use Rattle.script_form.specs.declared.scripts.Script.{Script}
use Rattle.script_play.specs.Ready.{AreEarlier}
use Rattle.script_play.specs.RunViews.{IsOpenedBehind}
use Rattle.sound_log.specs.Identities.{ids_in}
use Rattle.sound_log.specs.Sound.{HasBegunBy, IsSound}
use Rattle.store_log.specs.Keeps.{Stored}
use Rattle.table_state.specs.States.{HasState}
use Rattle.script_main.proofs.AgainLemmas.{accepted_within}
use Rattle.script_main.proofs.BeginLemmas.{begins, opened_behind, Begins}
use Rattle.script_main.proofs.ScriptLemmas.{can_run_unsaid, log_tables, log_taken, own_tables, tables_with}
use Rattle.script_main.specs.Steps.{log_before, IsBegunAt, IsOpened}
use Rattle.script_main.specs.Stores.{cluster_of, unsaid, with_tables, HasRows}

-- a node that was opened over a store
pub opened_as : (script : Script) (old : Stored) (base cluster : ℕ) (given : List TableDef) (log : Logged) → cluster ≡ cluster_of script → given ≡ script_tables script →
    IsTakenUp 1 cluster old.synced given base log → log.node ≡ 1 → log.cluster ≡ cluster → log.failed ≡ false → log.store.faults ≡ old.faults → IsOpened script old base log
opened_as script old base cluster given log is same taken node named running calm = record {
  taken = subst (λ (c : ℕ). IsTakenUp 1 c old.synced (script_tables script) base log) is (subst (λ (ts : List TableDef). IsTakenUp 1 cluster old.synced ts base log) same taken);
  node = node;
  cluster = named ∙ is;
  running = running;
  calm = calm;
}

-- what a node that goes on with a log had before
goes_behind : (generation : ℕ) (given : List TableDef) (before log : List Entry) (base : ℕ) → base ≡ length before → GoesOn generation given before log → take base log ≡ before
goes_behind generation given [] log base had goes = ap (λ n. take n log) had
goes_behind generation given (e ∷ es) log base had goes = ap (λ n. take n log) had ∙ ap (λ (l : List Entry). take (length (e ∷ es)) l) goes ∙ take-length (e ∷ es)

pub before_is : (script : Script) (old : Stored) (base : ℕ) (log : Logged) (o : IsOpened script old base log) → log_before base log ≡ o.taken.old_entries
before_is script old base log o = goes_behind (o.taken.old_promise + 1) (script_tables script) o.taken.old_entries log.entries base o.taken.had o.taken.entries

-- its rows
pub begins_at : (script : Script) (old : Stored) (base : ℕ) (log : Logged) (o : IsOpened script old base log) →
    Begins (script_tables (with_tables script o.taken.old_entries)) o.taken.old_entries
begins_at script old base log o =
    let t = o.taken in
    begins t.old_accepted t.old_entries (script_tables (with_tables script t.old_entries)) t.stood.good.sound t.stood.good.bytes
    (tables_with script t.old_entries t.stood.good.tables)

pub has_rows : (script : Script) (before : List Entry) → HasTables (script_tables script) before → (b : Begins (script_tables (with_tables script before)) before) → HasRows before b.rows
has_rows script [] has b = b.none refl
has_rows script (e ∷ es) has b =
    subst (λ (ts : List TableDef). HasState (pages_of (e ∷ es)) ts b.rows) (tables_with script (e ∷ es) has (omega arith)) (b.state (omega arith))

-- each transaction of a sound log began in no later generation than the accepted one
id_within : (accepted : ℕ) (es : List Entry) (i : ℕ) (e : Entry) (id : CommitId) → AllByRecursion (HasBegunBy accepted) (ids_in es) → slice_get es i ≡ Some e → id_of e ≡ Some id → id.began ≤ accepted
id_within accepted [] i e id all at its = absurd cc
id_within accepted (Setup generation schema records ∷ es) zero e id all at its =
    let same : Setup generation schema records ≡ e = cc in
    let none : None ≡ Some id = ap (λ (x : Entry). id_of x) same ∙ its in absurd cc
id_within accepted (Setup generation schema records ∷ es) (suc i) e id all at its = id_within accepted es i e id all at its
id_within accepted (Commit generation own begin level changes records ∷ es) zero e id all at its =
    let same : Commit generation own begin level changes records ≡ e = cc in
    let some : Some own ≡ Some id = ap (λ (x : Entry). id_of x) same ∙ its in
    let is : own ≡ id = cc in
    subst (λ (x : CommitId). x.began ≤ accepted) is all.0
id_within accepted (Commit generation own begin level changes records ∷ es) (suc i) e id all at its = id_within accepted es i e id all.1 at its

begun_earlier : (accepted generation : ℕ) (es : List Entry) → IsSound accepted es → accepted < generation → AreEarlier generation es
begun_earlier accepted generation es (inl none) below position id has =
    let nothing : slice_get [] (position - 1) ≡ Some has.1.0 = ap (λ (l : List Entry). slice_get l (position - 1)) (sym none) ∙ has.1.1 in absurd cc
begun_earlier accepted generation es (inr sound) below position id has =
    let within = id_within accepted es (position - 1) has.1.0 id sound.begun has.1.1 has.1.2 in omega (arith, within, below)

-- a run begins there
pub begun_at : (script : Script) (old : Stored) (base : ℕ) (log : Logged) (o : IsOpened script old base log) →
    IsBegunAt (with_tables script (log_before base log)) base (log_before base log) log (begins_at script old base log o).rows
begun_at script old base log o =
    subst (λ (before : List Entry). IsBegunAt (with_tables script before) base before log rows) (sym (before_is script old base log o)) (record {
      node = o.node;
      running = o.running;
      same = o.taken.promised ∙ sym o.taken.accepted;
      place = o.taken.had;
      opened = subst (λ (g : ℕ). IsOpenedBehind tables g before log.entries) (sym o.taken.accepted)
          (opened_behind (script_tables script) tables (o.taken.old_promise + 1) before log.entries given o.taken.entries);
      earlier = subst (λ (g : ℕ). AreEarlier g before) (sym o.taken.accepted)
          (begun_earlier o.taken.old_accepted (o.taken.old_promise + 1) before o.taken.stood.good.sound
          (let l = accepted_within (cluster_of script) old.synced o.taken.old_promise o.taken.old_accepted before o.taken.stood.stands in omega (arith, l)));
      has_rows = has_rows script before o.taken.stood.good.tables b;
      behind = b.can;
    })
  where
    before : List Entry
    before = o.taken.old_entries

    tables : List TableDef
    tables = script_tables (with_tables script before)

    b : Begins tables before
    b = begins_at script old base log o

    rows : Rows
    rows = b.rows

    given : before ≡ [] → script_tables script ≡ tables
    given none = ap (λ (es : List Entry). script_tables (with_tables script es)) (sym none)

-- where there was a log, it is the one that the node has

some_behind : (generation : ℕ) (given : List TableDef) (before log : List Entry) (base : ℕ) → base ≡ length before → base ≢ 0 → GoesOn generation given before log → log ≡ before
some_behind generation given [] log base had some goes = absurd (some had)
some_behind generation given (e ∷ es) log base had some goes = goes

pub log_is : (script : Script) (old : Stored) (base : ℕ) (log : Logged) (o : IsOpened script old base log) → base ≢ 0 → log.entries ≡ log_before base log
log_is script old base log o some =
    some_behind (o.taken.old_promise + 1) (script_tables script) o.taken.old_entries log.entries base o.taken.had some o.taken.entries
    ∙ sym (before_is script old base log o)

pub some_before : (script : Script) (old : Stored) (base : ℕ) (log : Logged) (o : IsOpened script old base log) → base ≢ 0 → 1 ≤ length (log_before base log)
some_before script old base log o some =
    let h : base ≡ length (log_before base log) = o.taken.had ∙ ap (λ (es : List Entry). length es) (sym (before_is script old base log o)) in
    one_or (length (log_before base log)) (λ none. some (h ∙ none))
  where
    one_or : (n : ℕ) → (n ≡ 0 → ⊥) → 1 ≤ n
    one_or zero not = absurd (not refl)
    one_or (suc n) not = omega arith

-- a script that takes the tables of the log can run
pub takes_tables : (script whole : Script) (log : Logged) → CanRun script → ∥ AreSpelled log.entries ∥₁ →
    whole ≡ record script { tables = map unsaid (history.tables_of log.entries) } → CanRun whole
takes_tables script whole log can spelled is =
    subst CanRun (sym is) (can_run_unsaid script (history.tables_of log.entries) can (log_taken log.entries spelled))

-- and it is the script with those tables
pub takes_as : (script whole : Script) (old : Stored) (base : ℕ) (log : Logged) → IsOpened script old base log →
    base ≢ 0 → script.tables ≡ [] → whole ≡ record script { tables = map unsaid (history.tables_of log.entries) } → whole ≡ with_tables script (log_before base log)
takes_as script whole old base log o some none is =
    is ∙ ap (λ (es : List Entry). record script { tables = map unsaid (history.tables_of es) }) (log_is script old base log o some)
    ∙ log_tables script (log_before base log) none (some_before script old base log o some)

-- a script with tables, or behind no log, is the script with those tables
pub keeps_tables : (script : Script) (base : ℕ) (log : Logged) → (base ≡ 0) ⊎ (script.tables ≢ []) → script ≡ with_tables script (log_before base log)
keeps_tables script base log (inl none) = ap (λ (es : List Entry). with_tables script es) (sym (ap (λ n. take n log.entries) none))
keeps_tables script base log (inr some) = sym (own_tables script (log_before base log) some)

-- a list is empty where the test of it says so
pub nil_from_test : {A : Type 0} (xs : List A) (value empty : Bool) → value ≡ not empty → empty ≡ (length xs == 0) → value ≡ false → xs ≡ []
nil_from_test [] value empty is test fails = refl
nil_from_test (x ∷ xs) value empty is test fails = absurd (false≢true (sym fails ∙ is ∙ ap not (test ∙ ne_eqb (length (x ∷ xs)) 0 (λ h. let e : suc (length xs) ≡ 0 = h in omega arith))))

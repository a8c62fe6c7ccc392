-- What a run leaves, and what is told of it, from what its steps tell.
use Rattle.std.proofs.Common.{◌⊎◌, ◌≡◌, ℕ, ◌+◌, ◌-◌, ◌<◌, ◌≤◌, List, [], ◌∷◌, ◌++◌, length, take, Bool, true, false, Some, slice_get, unwrap_or, refl, sym, subst, ap, ◌∙◌, inl, inr, arith}
use Rattle.std.proofs.Math.Logic.{∥∥₁_map}
use Rattle.block_processor.specs.Changed.{changed_in}
use Rattle.cdb_outside.specs.Faults.{Rose}
use Rattle.cdb_values.specs.Rows.{Rows, no_rows}
use Rattle.cdb_values.specs.declared.tables.TableDef.{TableDef}
use Rattle.log_replay.specs.Answers.{schema_of}
use Rattle.log_rows.specs.History.{rows_over_at, IsFrom, StandsOver}
use Rattle.log_rows.specs.Sizes.{IsSmall}
use Rattle.node_log.specs.Logged.{Logged, Leaves, Stand, StandForOne}
use Rattle.node_opening.specs.declared.up.WhyNotUp.{WhyNotUp}
use Rattle.node_opening.specs.declared.up.WhyNotUp.TheVariants as why
use Rattle.node_opening.specs.Goods.{StandsForGood}
use Rattle.node_opening.specs.Left.{IsLeft, StandsPartway, StopsPartway}
use Rattle.node_opening.specs.Up.{IsBegin}
use Rattle.node_opening.specs.Why.{HasRisen, IsWhy, TellsLength}
use Rattle.page_store.specs.Image.{Image}
use Rattle.phys_log.specs.Logs.{pages_of}
use Rattle.phys_log.specs.declared.entries.Entry.{Entry}
use Rattle.node_reports.specs.Lawful.{LawfulOfNodes}
use Rattle.node_reports.specs.Order.{InNodesOrder}
use Rattle.report_laws.specs.History.{changes_at, rows_at}
use Rattle.report_laws.specs.Lawful.{Lawful}
use Rattle.report_laws.specs.Nodes.{downs}
use Rattle.report_laws.specs.Play.{InPlayOrder}
use Rattle.report_text.specs.declared.reports.EntryLine.{EntryLine}
use Rattle.report_text.specs.declared.reports.Report.{Report}
use Rattle.script_form.specs.CanRun.{script_tables, CanRun}
use Rattle.script_form.specs.Named.{IsNamed}
use Rattle.script_form.specs.declared.scripts.Script.{Script}
use Rattle.script_play.specs.Basis.{from_start}
use Rattle.script_play.specs.Down.{history_of, history_by, owner_of, with_entries, IsCaused, IsHeld, IsHeldBy, Owner}
use Rattle.script_play.specs.EntryLines.{AreTold}
use Rattle.script_play.specs.Played.{downs_by, IsFurther, IsHistory, IsHistoryTold}
use Rattle.script_play.specs.Played.{IsGivenUp}
use Rattle.script_play.specs.Serial.{AreSerial}
use Rattle.script_play.specs.Start.{Start, base, ground_of}
use Rattle.script_play.proofs.PlayLaws.{given_first}
use Rattle.store_log.specs.declared.standings.Standing.TheVariants.{Log}
use Rattle.store_log.specs.Held.{StandsFor}
use Rattle.store_log.specs.Keeps.{Stored}
use Rattle.script_main.proofs.AgainLemmas.{accepted_within, sound_behind, KeepTheirKeys}
use Rattle.script_main.proofs.BegunLemmas.{before_is, begins_at, begun_at}
use Rattle.sound_log.specs.Sound.{IsSound}
use Rattle.sound_log.proofs.GrowthLemmas.{sound_first, sound_later}
use Rattle.table_store.specs.Stored.{Stands}
use Rattle.script_main.proofs.KnownLemmas.{only_state}
use Rattle.script_main.proofs.SoundLemmas.{alike_again}
use Rattle.script_main.proofs.ReportedLemmas.{one_such, spelled_over, told_in_grammar}
use Rattle.script_main.specs.Known.{IsKnown}
use Rattle.script_main.specs.Run.{IsTextOver}
use Rattle.script_main.specs.Runs.{IsCutOff, IsLeftBy, IsMore, IsRun, IsSoundAgain, IsSoundFurther, IsSoundMore, IsSoundStore, Keeps}
use Rattle.script_main.specs.Steps.{log_before, IsBegunAt, IsLeftBehind, IsLeftFrom, IsLeftOf, IsNotUpText, IsOpened, IsPlaceIn, IsPlayedText, IsReportText, IsRunText}
use Rattle.script_main.specs.Stores.{cluster_of, start_at, with_tables, HasRows}
use Rattle.cdb_outside.specs.declared.statuses.Status.{Status}

-- counts of faults

rose_later : (a b c : ℕ) → Rose a b → c ≡ b → HasRisen a c
rose_later a b c rose calm = record { told = b; rose = rose; later = omega (arith, calm) }

risen_from : (a b c : ℕ) → b ≡ a → HasRisen b c → HasRisen a c
risen_from a b c same risen = subst (λ (n : ℕ). HasRisen n c) same risen

-- a log that has a schema has entries, and where the last of them is dropped it is one more

last_behind : (e : Entry) (es : List Entry) → (l : Entry) × (e ∷ es ≡ take (length es) (e ∷ es) ++ l ∷ [])
last_behind e [] = (e, refl)
last_behind e (f ∷ es) = let b = last_behind f es in (b.0, ap (λ (rest : List Entry). e ∷ rest) b.1)

last_of : (es : List Entry) → 1 ≤ length es → (e : Entry) × (es ≡ take (length es - 1) es ++ e ∷ [])
last_of [] some = absurd (omega arith)
last_of (e ∷ es) some =
    let b = last_behind e es in
    let same : length es ≡ length (e ∷ es) - 1 = omega arith in
    (b.0, subst (λ n. e ∷ es ≡ take n (e ∷ es) ++ b.0 ∷ []) same b.1)

some_of : (es : List Entry) (tables : List TableDef) → schema_of es ≡ Some tables → 1 ≤ length es
some_of [] tables is = absurd cc
some_of (e ∷ es) tables is = omega arith

some_more : (es : List Entry) → 1 ≤ length (take (length es - 1) es) → 1 ≤ length es
some_more [] some = some
some_more (e ∷ es) some = omega arith

-- what is left behind a run

-- a log of the same node, in the same generations
record IsSameNode (before after : Logged) : Type 0 where
  node : after.node ≡ before.node
  cluster : after.cluster ≡ before.cluster
  promised : after.promised ≡ before.promised
  accepted : after.accepted ≡ before.accepted

owns_as : (after before : Logged) → owner_of after ≡ owner_of before → IsSameNode before after
owns_as after before same = record {
  node = ap (λ (o : Owner). o.node) same;
  cluster = ap (λ (o : Owner). o.cluster) same;
  promised = ap (λ (o : Owner). o.promised) same;
  accepted = ap (λ (o : Owner). o.accepted) same;
}

-- the log of a node in the generation in which it stood
keeps_of : (old log : Logged) (bytes : List ℕ) (es : List Entry) → owner_of log ≡ owner_of old → old.node ≡ 1 → old.promised ≡ old.accepted → Stand bytes (with_entries log es) → Keeps old.cluster bytes old.accepted es
keeps_of old log bytes es owns node stood stands =
    let same = owns_as log old owns in
    subst (λ (n : ℕ). StandsFor n old.cluster bytes (Log old.accepted old.accepted es)) (same.node ∙ node)
    (subst (λ (c : ℕ). StandsFor log.node c bytes (Log old.accepted old.accepted es)) same.cluster
    (subst (λ (p : ℕ). StandsFor log.node log.cluster bytes (Log p old.accepted es)) (same.promised ∙ stood)
    (subst (λ (a : ℕ). StandsFor log.node log.cluster bytes (Log log.promised a es)) same.accepted stands)))

or_more : (old log : Logged) (bytes : List ℕ) (e : Entry) → owner_of log ≡ owner_of old → old.node ≡ 1 → old.promised ≡ old.accepted → log.entries ≡ history_by true log.entries ++ e ∷ []
    → StandForOne bytes (with_entries log (history_by true log.entries) ∷ log ∷ []) → Keeps old.cluster bytes old.accepted (history_by true log.entries) ⊎ Keeps old.cluster bytes old.accepted (history_by true log.entries ++ e ∷ [])
or_more old log bytes e same node stood last (inl s) = inl (keeps_of old log bytes (history_by true log.entries) same node stood s)
or_more old log bytes e same node stood last (inr (inl s)) =
    inr (subst (λ (es : List Entry). Keeps old.cluster bytes old.accepted es) last (keeps_of old log bytes log.entries same node stood s))
or_more old log bytes e same node stood last (inr (inr none)) = absurd none

left_up : (MayBe : List Entry → Type 0) (old log : Logged) (new : Stored) (count : ℕ) → owner_of log ≡ owner_of old → old.node ≡ 1 → old.promised ≡ old.accepted → count ≡ 0 → new.faults ≡ old.store.faults → ∥ Stand new.synced log ∥₁
    → IsLeftBy count old.cluster old.store new old.accepted log.entries MayBe
left_up MayBe old log new count same node stood none calm stands =
    inl (none, calm, ∥∥₁_map stands (λ (s : Stand new.synced log). keeps_of old log new.synced log.entries same node stood s))

left_down : (MayBe : List Entry → Type 0) (old log : Logged) (new : Stored) (count : ℕ) → owner_of log ≡ owner_of old → old.node ≡ 1 → old.promised ≡ old.accepted → count ≡ 1 → Rose old.store.faults log.store.faults
    → IsLeftOf log new → 1 ≤ length log.entries → Leaves log.store (with_entries log (history_by true log.entries) ∷ log ∷ []) → MayBe log.entries
    → IsLeftBy count old.cluster old.store new old.accepted (history_by true log.entries) MayBe
left_down MayBe old log new count owns node stood one rose left some leaves more =
    let last = last_of log.entries some in
    inr (
      one,
      rose_later old.store.faults log.store.faults new.faults rose left.calm,
      record {
        entry = last.0;
        is_more = subst MayBe last.1 more;
        stands = ∥∥₁_map (leaves new.synced left.joined) (or_more old log new.synced last.0 owns node stood last.1);
      },
    )

-- where the node is down, its log has an entry
abbrev pub HasFallen : Logged → Type 0
HasFallen log = log.failed ≡ true → (1 ≤ length log.entries) × Leaves log.store (with_entries log (history_of log) ∷ log ∷ [])

-- what a run leaves of its store, by whether its node is down
left_by : (MayBe : List Entry → Type 0) (failed : Bool) (old log : Logged) (new : Stored) (count : ℕ) → log.failed ≡ failed → owner_of log ≡ owner_of old → old.node ≡ 1 → old.promised ≡ old.accepted
    → count ≡ downs_by log.failed → IsCaused log.failed old.store.faults log.store.faults → IsLeftOf log new → HasFallen log → (log.failed ≡ true → MayBe log.entries)
    → IsLeftBy count old.cluster old.store new old.accepted (history_of log) MayBe
left_by MayBe false old log new count is owns node stood counted caused left fallen more =
    subst (λ (b : Bool). IsLeftBy count old.cluster old.store new old.accepted (history_by b log.entries) MayBe) (sym is)
    (left_up MayBe old log new count owns node stood (counted ∙ ap downs_by is)
    (left.calm ∙ subst (λ (b : Bool). IsCaused b old.store.faults log.store.faults) is caused) (left.stands is))
left_by MayBe true old log new count is owns node stood counted caused left fallen more =
    subst (λ (b : Bool). IsLeftBy count old.cluster old.store new old.accepted (history_by b log.entries) MayBe) (sym is)
    (left_down MayBe old log new count owns node stood (counted ∙ ap downs_by is)
    (subst (λ (b : Bool). IsCaused b old.store.faults log.store.faults) is caused) left (fallen is).0
    (subst (λ (b : Bool). Leaves log.store (with_entries log (history_by b log.entries) ∷ log ∷ [])) is (fallen is).1) (more is))

-- the log of a run that is told has a schema, and so an entry
pub has_fallen : (log : Logged) (tables : List TableDef) → schema_of (history_of log) ≡ Some tables
    → (log.failed ≡ true → Leaves log.store (with_entries log (history_of log) ∷ log ∷ [])) → HasFallen log
has_fallen log tables schema leaves down =
    (some_more log.entries (some_of (history_by true log.entries) tables (subst (λ (b : Bool). schema_of (history_by b log.entries) ≡ Some tables) down schema)), leaves down)

-- and so has that of one that is given up
given_fallen : (generation had : ℕ) (log : Logged) → IsHeld generation had log → HasFallen log
given_fallen generation had log held down = subst (λ (b : Bool). IsHeldBy b generation log) down held.held

left_from : (script : Script) (start : Start) (old log : Logged) (new : Stored) (entries : List EntryLine) → HasRows start.before start.rows → owner_of log ≡ owner_of old → old.node ≡ 1 → old.promised ≡ old.accepted →
    IsHistory script start old.accepted entries (history_of log) → IsCaused log.failed old.store.faults log.store.faults → HasFallen log → (log.failed ≡ true → IsMore script start old.accepted entries log.entries) → IsLeftOf log new →
    IsLeftFrom script start.before old new
left_from script start old log new entries has owns node stood told caused fallen more left = record {
  start = start;
  behind = refl;
  has_rows = has;
  entries = entries;
  history = history_of log;
  told = told;
  count = downs_by log.failed;
  left = left_by (IsMore script start old.accepted entries) log.failed old log new (downs_by log.failed) refl owns node stood refl caused left fallen more;
}

-- a report tells a history
its_history : (script : Script) (start : Start) (generation : ℕ) (report : Report) (history : List Entry) → IsHistoryTold script start generation report history → IsHistory script start generation report.entries history
its_history script start generation report history told = record {
  lawful = told.lawful.history;
  told = told.entries;
  schema = told.schema;
  changed = told.changed;
  rows = told.rows;
  stands = told.stands;
  small = told.small;
}

-- what is told of a run, by where it began
pub its_told : (script : Script) (start : Start) (generation : ℕ) (report : Report) (history : List Entry) (b : ℕ) → b ≡ base start → Lawful (from_start script start) report → InPlayOrder (from_start script start) report →
    AreTold start.before generation report.entries history → schema_of history ≡ Some (script_tables script) →
    ((k : ℕ) → b < k → k ≤ length history → unwrap_or (slice_get (changed_in history) (k - 1)) [] ≡ changes_at (from_start script start) report.entries k) →
    ((k : ℕ) → IsFrom b k → k ≤ length history → rows_over_at (ground_of start) history k ≡ rows_at (from_start script start) report.entries k) →
    StandsOver (ground_of start) (script_tables script) history → IsSmall history → IsHistoryTold script start generation report history
its_told script start generation report history b at lawful in_order entries schema changed rows stands small = record {
  lawful = lawful;
  in_order = in_order;
  entries = entries;
  schema = schema;
  changed = λ k first within. changed k (let e = at in omega (arith, e, first)) within;
  rows = λ k from within. rows k (from.0, let e = at in let f = from.1 in omega (arith, e, f)) within;
  stands = stands;
  small = small;
}

-- of a run that is told
pub told_left : (script : Script) (start : Start) (old log : Logged) (report : Report) (new : Stored) → HasRows start.before start.rows → owner_of log ≡ owner_of old → old.node ≡ 1 → old.promised ≡ old.accepted →
    IsHistoryTold script start old.accepted report (history_of log) → IsCaused log.failed old.store.faults log.store.faults →
    (log.failed ≡ true → Leaves log.store (with_entries log (history_of log) ∷ log ∷ [])) → (log.failed ≡ true → IsFurther script start old.accepted report log.entries) → IsLeftOf log new → IsLeftFrom script start.before old new
told_left script start old log report new has owns node stood told caused leaves further left =
    left_from script start old log new report.entries has owns node stood (its_history script start old.accepted report (history_of log) told) caused (has_fallen log (script_tables script) told.schema leaves)
    (λ down. let f = further down in record { line = f.line; history = f.history }) left

-- and of one that is given up
pub given_left : (script : Script) (start : Start) (old log : Logged) (new : Stored) → HasRows start.before start.rows → owner_of log ≡ owner_of old → old.node ≡ 1 → old.promised ≡ old.accepted → IsGivenUp script start old log → IsLeftOf log new →
    IsLeftFrom script start.before old new
given_left script start old log new has owns node stood given left =
    left_from script start old log new given.entries has owns node stood given.history given.held.caused (given_fallen old.accepted old.store.faults log given.held)
    (λ down. let f = given.further down in record { line = f.0; history = f.1 }) left

-- what is told of a run
pub played_text : (script : Script) (start : Start) (opened log : Logged) (report : Report) (new : Stored) (s : Status) (text : List ℕ) →
    owner_of log ≡ owner_of opened → opened.node ≡ 1 → opened.promised ≡ opened.accepted → IsHistoryTold script start opened.accepted report (history_of log) → LawfulOfNodes (from_start script start) report →
    InNodesOrder (from_start script start) report → AreSerial (from_start script start) report.entries →
    downs report.lines ≡ downs_by log.failed → IsCaused log.failed opened.store.faults log.store.faults →
    (log.failed ≡ true → Leaves log.store (with_entries log (history_of log) ∷ log ∷ [])) → (log.failed ≡ true → IsFurther script start opened.accepted report log.entries) →
    IsLeftOf log new → IsReportText report s text → IsPlayedText script start opened new s text
played_text script start opened log report new s text same node stood told lawful in_order serial counted caused leaves further left is_text = record {
  report = report;
  history = history_of log;
  told = told;
  lawful = lawful;
  in_order = in_order;
  serial = serial;
  is_text = is_text;
  left = left_by (IsFurther script start opened.accepted report) log.failed opened log new (downs report.lines) refl same node stood counted caused left (has_fallen log (script_tables script) told.schema leaves) further;
}

-- a run over a store

left_older : (MayBe : List Entry → Type 0) (count cluster : ℕ) (old mid new : Stored) (generation : ℕ) (history : List Entry) → mid.faults ≡ old.faults → IsLeftBy count cluster mid new generation history MayBe → IsLeftBy count cluster old new generation history MayBe
left_older MayBe count cluster old mid new generation history same (inl up) = inl (up.0, up.1 ∙ same, up.2)
left_older MayBe count cluster old mid new generation history same (inr down) = inr (down.0, risen_from old.faults mid.faults new.faults same down.1, down.2)

-- what is known of the log with one entry more
left_known : (MayBe IsKnown : List Entry → Type 0) (count cluster : ℕ) (old new : Stored) (generation : ℕ) (history : List Entry) → ((log : List Entry) → MayBe log → IsKnown log) → IsLeftBy count cluster old new generation history MayBe → IsLeftBy count cluster old new generation history IsKnown
left_known MayBe IsKnown count cluster old new generation history knows (inl up) = inl up
left_known MayBe IsKnown count cluster old new generation history knows (inr down) =
    inr (down.0, down.1, record { entry = down.2.entry; is_more = knows (history ++ down.2.entry ∷ []) down.2.is_more; stands = down.2.stands })

pub is_run : KeepTheirKeys → (script : Script) (old new : Stored) (base : ℕ) (log : Logged) (before : List Entry) (s : Status) (text : List ℕ) → CanRun (with_tables script before) → IsNamed script →
    (o : IsOpened script old base log) → before ≡ o.taken.old_entries → (rows : Rows) → IsBegunAt (with_tables script before) base before log rows →
    IsPlayedText (with_tables script before) (start_at before rows) log new s text → IsRun script old new text
is_run law script old new base log before s text can names o same rows begun played =
    let whole = with_tables script before in
    let start = start_at before rows in
    let sound_further = IsSoundFurther whole start (o.taken.old_promise + 1) played.report in
    let sound : (entries : List EntryLine) (made : List Entry) → IsHistory whole start (o.taken.old_promise + 1) entries made → IsSound (o.taken.old_promise + 1) made = λ entries made told.
    sound_behind script (cluster_of script) old.synced o.taken.old_promise o.taken.old_accepted before start entries made law refl
    (subst (λ (es : List Entry). StandsForGood 1 (cluster_of script) old.synced (script_tables script) o.taken.old_promise o.taken.old_accepted es) (sym same) o.taken.stood) begun.has_rows told in
    let basis = from_start whole (start_at before rows) in
    let p = played.told in
    record {
      promised = o.taken.old_promise;
      accepted = o.taken.old_accepted;
      before = before;
      stood = subst (λ (es : List Entry). StandsForGood 1 (cluster_of script) old.synced (script_tables script) o.taken.old_promise o.taken.old_accepted es) (sym same) o.taken.stood;
      rows = rows;
      has_rows = begun.has_rows;
      report = played.report;
      history = played.history;
      told = subst (λ (g : ℕ). IsHistoryTold whole (start_at before rows) g played.report played.history) o.taken.accepted p;
      serial = played.serial;
      lawful = played.lawful;
      in_order = played.in_order;
      one = one_such whole (start_at before rows) played.report can p.lawful p.in_order;
      is_report = λ called. told_in_grammar basis played.report (spelled_over script before rows can names begun.behind called) p.lawful p.in_order played.is_text.fits;
      is_text = played.is_text.is_text;
      left = left_older sound_further (downs played.report.lines) (cluster_of script) old log.store new (o.taken.old_promise + 1) played.history o.calm
          (left_known (IsFurther whole start (o.taken.old_promise + 1) played.report) sound_further (downs played.report.lines) (cluster_of script) log.store new (o.taken.old_promise + 1) played.history
          (λ more further. record { further = further; sound = sound (played.report.entries ++ further.line ∷ []) more further.history })
          (subst (λ (g : ℕ). IsLeftBy (downs played.report.lines) (cluster_of script) log.store new g played.history (IsFurther whole start g played.report)) o.taken.accepted
          (subst (λ (c : ℕ). IsLeftBy (downs played.report.lines) c log.store new log.accepted played.history (IsFurther whole start log.accepted played.report)) o.cluster played.left)));
      sound = sound played.report.entries played.history
          (its_history whole start (o.taken.old_promise + 1) played.report played.history (subst (λ (g : ℕ). IsHistoryTold whole start g played.report played.history) o.taken.accepted p));
    }

-- the same of a script that is the one with the tables of the log
pub whole_begins : (script whole : Script) (old : Stored) (base : ℕ) (log : Logged) → whole ≡ with_tables script (log_before base log) → IsOpened script old base log →
    (rows : Rows) × IsBegunAt whole base (log_before base log) log rows
whole_begins script whole old base log is o =
    ((begins_at script old base log o).rows, subst (λ (w : Script). IsBegunAt w base (log_before base log) log (begins_at script old base log o).rows) (sym is) (begun_at script old base log o))

pub whole_runs : KeepTheirKeys → (script whole : Script) (old new : Stored) (base : ℕ) (log : Logged) (s : Status) (text : List ℕ) → whole ≡ with_tables script (log_before base log) → CanRun whole → IsNamed script →
    IsOpened script old base log →
    ((rows : Rows) → IsBegunAt whole base (log_before base log) log rows → IsPlayedText whole (start_at (log_before base log) rows) log new s text) → IsRunText script old new s text
whole_runs law script whole old new base log s text is can names o played =
    let b = whole_begins script whole old base log is o in
    let p = played b.0 b.1 in
    record {
      status_is = p.is_text.status_is;
      run = is_run law script old new base log (log_before base log) s text (subst CanRun is can) names o (before_is script old base log o) b.0
          (subst (λ (w : Script). IsBegunAt w base (log_before base log) log b.0) is b.1)
          (subst (λ (w : Script). IsPlayedText w (start_at (log_before base log) b.0) log new s text) is p);
    }

-- the rows of a log that was opened are known
pub opened_known : (script : Script) (old : Stored) (base : ℕ) (log : Logged) → IsOpened script old base log →
    ((pages : ℕ → Image) (tables : List TableDef) (rows others : Rows) → Stands pages tables rows → Stands pages tables others → rows ≡ others) → IsKnown base log
opened_known script old base log o one =
    ∣ record { rows = (begins_at script old base log o).rows; has = (begun_at script old base log o).has_rows; one = only_state (log_before base log) one } ∣₁

-- what is left of a store whose node stopped at the opening is sound again
setup_sound : KeepTheirKeys → (accepted generation : ℕ) (tables : List TableDef) (entry : Entry) → IsBegin generation tables entry → IsSound accepted (entry ∷ [])
setup_sound law accepted generation tables entry begin =
    sound_first accepted generation tables entry (law (pages_of (entry ∷ [])) tables (no_rows tables)) begin.setup begin.pages begin.small.count

partway_again : KeepTheirKeys → (script : Script) (old new : Stored) → StopsPartway 1 (cluster_of script) old.synced new.synced (script_tables script) → IsSoundAgain script old new
partway_again law script old new stops was = ∥∥₁_map stops.stands pick
  where
    p : ℕ
    p = stops.promised

    a : ℕ
    a = stops.accepted

    es : List Entry
    es = stops.entries

    sound : IsSound a es
    sound = stops.stood.good.sound

    later : a ≤ p + 1
    later = let l = accepted_within (cluster_of script) old.synced p a es stops.stood.stands in omega (arith, l)

    pick : StandsPartway 1 (cluster_of script) new.synced (script_tables script) p a es → IsSoundStore script new
    pick (inl stands) = record { promised = p; accepted = a; entries = es; stands = stands; sound = sound }
    pick (inr (inl stands)) = record { promised = p + 1; accepted = a; entries = es; stands = stands; sound = sound }
    pick (inr (inr (inl stands))) = record { promised = p + 1; accepted = p + 1; entries = es; stands = stands; sound = sound_later a (p + 1) es later sound }
    pick (inr (inr (inr begun))) = record {
      promised = p + 1;
      accepted = p + 1;
      entries = begun.entry ∷ [];
      stands = begun.stands;
      sound = setup_sound law (p + 1) (p + 1) (script_tables script) begun.entry begun.begin;
    }

fault_again : KeepTheirKeys → (script : Script) (size : ℕ) (old new : Stored) → IsLeft (why.StoreFault size) 1 (cluster_of script) old.synced new.synced (script_tables script) → IsSoundAgain script old new
fault_again law script size old new (inl alike) = alike_again script old new alike
fault_again law script size old new (inr fails) = partway_again law script old new fails.partway

-- what is told of a node that is not up
pub not_up_text : KeepTheirKeys → (script : Script) (w : WhyNotUp) (old new : Stored) (s : Status) (text : List ℕ) → IsWhy w 1 (cluster_of script) old.synced (script_tables script) old.faults new.faults →
    TellsLength w 1 (cluster_of script) old.synced (script_tables script) old.writes new.writes →
    IsLeft w 1 (cluster_of script) old.synced new.synced (script_tables script) → IsNotUpText script w s text → IsTextOver script old new s text
not_up_text law script (why.StoreFault size) old new s text is length left told =
    subst (λ (t : Status). IsTextOver script old new t text) (sym told.0)
    (inr (record { size = size; told = told.1; fault = is; length = length; left = left; again = fault_again law script size old new left }))
not_up_text law script (why.Refused at) old new s text is length left told =
    subst (λ (t : Status). IsTextOver script old new t text) (sym told.0) (refl, is, left, told.1)
not_up_text law script why.Unsound old new s text is length left told =
    subst (λ (t : Status). IsTextOver script old new t text) (sym told.0) (refl, is, left, told.1)
not_up_text law script (why.Differs place) old new s text is length left told =
    subst (λ (t : Status). IsTextOver script old new t text) (sym told.status_is)
    (record { place = place; other = is; said = told.said; at = told.at; line_is = refl }, refl, left, told.text_is)
not_up_text law script why.NoMemory old new s text is length left told = absurd told

-- the place of a table that differs is that of one of the script's
pub place_in : (script : Script) (w : WhyNotUp) (old : List ℕ) (before now : ℕ) → IsWhy w 1 (cluster_of script) old (script_tables script) before now → IsPlaceIn w (script_tables script)
place_in script (why.StoreFault size) old before now is = tt
place_in script (why.Refused at) old before now is = tt
place_in script why.Unsound old before now is = tt
place_in script (why.Differs place) old before now is = is.other.difference.within
place_in script why.NoMemory old before now is = tt

-- why a node is not up, of the script's cluster and tables
pub why_of : (script : Script) (w : WhyNotUp) (cluster : ℕ) (given : List TableDef) (old : List ℕ) (before now : ℕ) → cluster ≡ cluster_of script → given ≡ script_tables script →
    IsWhy w 1 cluster old given before now → IsWhy w 1 (cluster_of script) old (script_tables script) before now
why_of script w cluster given old before now is same why =
    subst (λ (c : ℕ). IsWhy w 1 c old (script_tables script) before now) is (subst (λ (ts : List TableDef). IsWhy w 1 cluster old ts before now) same why)

pub length_as : (script : Script) (w : WhyNotUp) (cluster : ℕ) (given : List TableDef) (old : List ℕ) (before now : ℕ) → cluster ≡ cluster_of script → given ≡ script_tables script →
    TellsLength w 1 cluster old given before now → TellsLength w 1 (cluster_of script) old (script_tables script) before now
length_as script w cluster given old before now is same told =
    subst (λ (c : ℕ). TellsLength w 1 c old (script_tables script) before now) is (subst (λ (ts : List TableDef). TellsLength w 1 cluster old ts before now) same told)

pub left_as : (script : Script) (w : WhyNotUp) (cluster : ℕ) (given : List TableDef) (old new : List ℕ) → cluster ≡ cluster_of script → given ≡ script_tables script →
    IsLeft w 1 cluster old new given → IsLeft w 1 (cluster_of script) old new (script_tables script)
left_as script w cluster given old new is same left =
    subst (λ (c : ℕ). IsLeft w 1 c old new (script_tables script)) is (subst (λ (ts : List TableDef). IsLeft w 1 cluster old new ts) same left)

-- the text of a run is one of a script over its store
pub run_text : (script : Script) (old new : Stored) (s : Status) (text : List ℕ) → IsRunText script old new s text → IsTextOver script old new s text
run_text script old new s text r = subst (λ (t : Status). IsTextOver script old new t text) (sym r.status_is) (inl r.run)

-- what is left of a store, whatever is answered

pub same_cut : (script : Script) (old new : Stored) → new ≡ old → IsCutOff script old new
same_cut script old new same = subst (λ (s : Stored). IsCutOff script old s) (sym same) (inl (λ s stands. stands))

pub left_cut : KeepTheirKeys → (script : Script) (w : WhyNotUp) (old new : Stored) → IsLeft w 1 (cluster_of script) old.synced new.synced (script_tables script) → IsCutOff script old new
left_cut law script (why.StoreFault size) old new (inl alike) = inl alike
left_cut law script (why.StoreFault size) old new (inr fails) = inr (inl (record { partway = fails.partway; again = partway_again law script old new fails.partway }))
left_cut law script (why.Refused at) old new alike = inl alike
left_cut law script why.Unsound old new alike = inl alike
left_cut law script (why.Differs place) old new alike = inl alike
left_cut law script why.NoMemory old new (inl alike) = inl alike
left_cut law script why.NoMemory old new (inr partway) = inr (inl (record { partway = partway; again = partway_again law script old new partway }))

pub run_cut : KeepTheirKeys → (script : Script) (old new : Stored) (base : ℕ) (log : Logged) → IsOpened script old base log → IsLeftBehind script (log_before base log) log new → IsCutOff script old new
run_cut law script old new base log o l =
    let before = log_before base log in
    let whole = with_tables script before in
    let made = o.taken.old_promise + 1 in
    let sound_more = IsSoundMore whole l.start made l.entries in
    let stood : StandsForGood 1 (cluster_of script) old.synced (script_tables script) o.taken.old_promise o.taken.old_accepted before =
    subst (λ (es : List Entry). StandsForGood 1 (cluster_of script) old.synced (script_tables script) o.taken.old_promise o.taken.old_accepted es) (sym (before_is script old base log o)) o.taken.stood in
    let sound : (entries : List EntryLine) (history : List Entry) → IsHistory whole l.start made entries history → IsSound made history = λ entries history told.
    sound_behind script (cluster_of script) old.synced o.taken.old_promise o.taken.old_accepted before l.start entries history law l.behind stood l.has_rows told in
    let told : IsHistory whole l.start made l.entries l.history = subst (λ (g : ℕ). IsHistory whole l.start g l.entries l.history) o.taken.accepted l.told in
    inr (inr (record {
      promised = o.taken.old_promise;
      accepted = o.taken.old_accepted;
      before = before;
      stood = stood;
      start = l.start;
      behind = l.behind;
      has_rows = l.has_rows;
      entries = l.entries;
      history = l.history;
      told = told;
      count = l.count;
      left = left_older sound_more l.count (cluster_of script) old log.store new made l.history o.calm
          (left_known (IsMore whole l.start made l.entries) sound_more l.count (cluster_of script) log.store new made l.history (λ es more. record { more = more; sound = sound (l.entries ++ more.line ∷ []) es more.history })
          (subst (λ (g : ℕ). IsLeftBy l.count (cluster_of script) log.store new g l.history (IsMore whole l.start g l.entries)) o.taken.accepted
          (subst (λ (c : ℕ). IsLeftBy l.count c log.store new log.accepted l.history (IsMore whole l.start log.accepted l.entries)) o.cluster l.left)));
      sound = sound l.entries l.history told;
    }))

-- a run is given up before it begins
pub opened_left : (script : Script) (old : Stored) (base : ℕ) (log : Logged) (new : Stored) → CanRun (with_tables script (log_before base log)) → IsOpened script old base log → IsLeftOf log new → IsLeftBehind script (log_before base log) log new
opened_left script old base log new can o left =
    let b = begun_at script old base log o in
    let whole = with_tables script (log_before base log) in
    let start = start_at (log_before base log) (begins_at script old base log o).rows in
    given_left whole start log log new b.has_rows refl o.node b.same (given_first whole start log can o.running b.opened b.behind) left

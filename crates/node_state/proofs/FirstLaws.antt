-- A node that was never up comes up with what its store stood for, once the operator admitted that.
use Rattle.std.proofs.Common.{ℕ, ◌≡◌, ◌+◌, ◌≤◌, List, [], ◌∷◌, ◌++◌, length, length-append, map, arith, refl, sym, subst, ap, ◌∙◌}
use Rattle.std.specs.List.{AllByRecursion}
use Rattle.std.specs.Prelude.{true, false, Some}
use Rattle.std.specs.declared.snapshot.Snapshot.{Snapshot}
use mathlib.Core.Logic.{◌⊎◌, inl, inr}
use Rattle.actor_trace.specs.History.{entries_of}
use Rattle.actor_trace.proofs.Entries.{idle_step, not_eq}
use Rattle.cdb_values.specs.Rows.{Rows}
use Rattle.cluster_consensus.specs.Facts.{Own, blank}
use Rattle.cluster_events.specs.Guards.{BeganBy}
use Rattle.cluster_events.specs.Parts.{lines, lines_by, part}
use Rattle.cluster_events.specs.Settings.{Setting}
use Rattle.cluster_events.proofs.LinePlaces.{other_lines}
use Rattle.cluster_requests.specs.KeptEntries.{KeptEntry, plain, rows_behind, state_from, state_of}
use Rattle.cluster_requests.specs.Requests.{Field}
use Rattle.cluster_steps.specs.Guards.{PagesStand}
use Rattle.cluster_steps.specs.Named.{kept_all, kept_with, named, steps, world}
use Rattle.cluster_steps.specs.declared.events.Event.{Event}
use Rattle.cluster_steps.specs.declared.events.Woken.TheVariants as woken
use Rattle.core_lists.specs.Fronts.{Front}
use Rattle.core_lists.specs.Lists.{In}
use Rattle.core_lists.proofs.Fronts.{front_length}
use Rattle.core_lists.proofs.Lasts.{front_parts}
use Rattle.log_replay.specs.Answers.{schema_of}
use Rattle.log_rows.specs.History.{tables_of}
use Rattle.phys_log.specs.Logs.{pages_of}
use Rattle.phys_log.specs.declared.entries.Entry.{Entry}
use Rattle.phys_log.specs.declared.entries.Entry.TheVariants as entry
use Rattle.report_laws.specs.Nodes.{is_up}
use Rattle.report_laws.proofs.NodesLaws.{up_append}
use Rattle.table_store.specs.Stored.{Stands}
use Rattle.node_reading.specs.Reading.{IsBegunBy, MayBegin}
use Rattle.node_state.specs.Restarts.{Kept, MayWake}
use Rattle.node_state.proofs.LeftLaws.{plain_kept}
use Rattle.node_state.proofs.LogLists.{none_behind}
use Rattle.node_state.proofs.NewLaws.{blank_part, nothing_done}

plain_all : (rows : Rows) (es : List Entry) → map plain (kept_all rows es) ≡ es
plain_all rows [] = refl
plain_all rows (e ∷ es) = ap (λ t. t ∷ map plain (kept_all rows es)) (plain_kept rows e) ∙ ap (λ t. e ∷ t) (plain_all rows es)

behind_kept : (rows : Rows) (e : Entry) → rows_behind (kept_with rows e) ≡ rows
behind_kept rows (entry.Setup generation schema records) = refl
behind_kept rows (entry.Commit generation id begin level changes records) = refl

state_all : (rows : Rows) (es : List Entry) → state_from rows (kept_all rows es) ≡ rows
state_all rows [] = refl
state_all rows (e ∷ es) = ap (λ r. state_from r (kept_all rows es)) (behind_kept rows e) ∙ state_all rows es

-- its pages stand
pages_all : (rows : Rows) (es : List Entry) → (es ≡ []) ⊎ ((schema_of es ≡ Some (tables_of es)) × Stands (pages_of es) (tables_of es) rows) → PagesStand (kept_all rows es)
pages_all rows [] s = inl refl
pages_all rows (e ∷ es) (inl none) = absurd (let f : length (e ∷ es) ≡ 0 = ap length none in omega arith)
pages_all rows (e ∷ es) (inr s) =
    let state : state_of (kept_all rows (e ∷ es)) ≡ rows = ap (λ r. state_from r (kept_all rows es)) (behind_kept rows e) ∙ state_all rows es in
    inr (record {
      schema = subst (λ t. schema_of t ≡ Some (tables_of t)) (sym (plain_all rows (e ∷ es))) s.0;
      stand = subst (λ r. Stands (pages_of (map plain (kept_all rows (e ∷ es)))) (tables_of (map plain (kept_all rows (e ∷ es)))) r) (sym state)
          (subst (λ t. Stands (pages_of t) (tables_of t) rows) (sym (plain_all rows (e ∷ es))) s.1);
    })

-- each commit began by the accepted generation
begun_kept : (a : ℕ) (rows : Rows) (e : Entry) → IsBegunBy a e → BeganBy a (kept_with rows e)
begun_kept a rows (entry.Setup generation schema records) b = tt
begun_kept a rows (entry.Commit generation id begin level changes records) b = b

begun_all : (a : ℕ) (rows : Rows) (es : List Entry) → AllByRecursion (IsBegunBy a) es → (xs : List KeptEntry) (e : KeptEntry) → Front (xs ++ e ∷ []) (kept_all rows es) → BeganBy a e
begun_all a rows [] all xs e p =
    absurd (let f : length (xs ++ e ∷ []) ≤ 0 = front_length p in let n : length (xs ++ e ∷ []) ≡ length xs + 1 = length-append xs (e ∷ []) in omega arith)
begun_all a rows (y ∷ es) all [] e p = subst (λ t. BeganBy a t) (sym (front_parts e (kept_with rows y) [] (kept_all rows es) p).0) (begun_kept a rows y all.0)
begun_all a rows (y ∷ es) all (x ∷ xs) e p = begun_all a rows es all.1 xs e (front_parts x (kept_with rows y) (xs ++ e ∷ []) (kept_all rows es) p).1

pub first_wakes : (G : Setting) (f : Field) (i : ℕ) (rows : Snapshot Rows) (k : Kept) → 1 ≤ i → i ≤ G.nodes → (f.core.nodes i).up ≡ false → (f.core.nodes i).was_up ≡ false
    → In (record { node = i; promised = k.promised; accepted = k.accepted }) f.core.admits → MayBegin k.promised k.accepted k.entries rows.value → MayWake G f i (woken.First rows) k
first_wakes G f i rows k low high down new admitted read = record {
  told = tt;
  rises = record {
    found = record { promise = refl; acceptance = refl; log = plain_all rows.value k.entries };
    may = ((down, new, read.below, admitted), tt);
    right = begun_all k.accepted rows.value k.entries read.begun;
    by = (low, high);
    pages = (pages_all rows.value k.entries read.pages, tt);
  };
  logged = read.logged;
}

-- who did nothing was never up, and no line told that it is down
pub never_up : (G : Setting) (i : ℕ) (seen : List (ℕ × Event)) → entries_of i seen ≡ [] → (((world G seen).nodes i).up ≡ false) × (((world G seen).nodes i).was_up ≡ false)
never_up G i seen none =
    let b : (world G seen).nodes i ≡ blank = blank_part G i seen none in
    (ap (λ (o : Own KeptEntry). o.up) b, ap (λ (o : Own KeptEntry). o.was_up) b)

untold : (G : Setting) (i : ℕ) (later h : List (ℕ × Event)) → entries_of i (later ++ h) ≡ entries_of i h → is_up i (lines G (steps G (later ++ h))) ≡ is_up i (lines G (steps G h))
untold G i [] h own = refl
untold G i (x ∷ later) h own =
    let s = idle_step i x later h own in
    let k = steps G (later ++ h) in
    let e = named G k x.0 x.1 in
    up_append i true (lines G k) (lines_by G (lines G k) (part G x.0 k) x.0 e)
    ∙ (other_lines G i x.0 (not_eq i x.0 s.0) (is_up i (lines G k)) (lines G k) (part G x.0 k) e ∙ untold G i later h s.1)

pub told_up : (G : Setting) (i : ℕ) (seen : List (ℕ × Event)) → entries_of i seen ≡ [] → is_up i (lines G (steps G seen)) ≡ true
told_up G i seen none = ap (λ t. is_up i (lines G (steps G t))) (sym (none_behind seen)) ∙ untold G i seen [] (nothing_done i seen none)

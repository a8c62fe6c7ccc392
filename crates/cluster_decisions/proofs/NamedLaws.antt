-- A decided entry is what the named event appends, and the pages behind it stand.
use Rattle.std.proofs.Common.{◌≡◌, ◌≢◌, ℕ, List, [], ◌∷◌, ◌++◌, map, refl, ap, sym, subst, ◌∙◌}
use Rattle.std.specs.Prelude.{Some, unwrap_or}
use mathlib.Core.Logic.{inr}
use Rattle.block_processor.specs.Decided.{Decides}
use Rattle.cdb_values.specs.Good.{AllFit}
use Rattle.cdb_values.specs.Rows.{Rows, no_rows, apply_all}
use Rattle.cdb_values.specs.declared.tables.TableDef.{TableDef}
use Rattle.cluster_core.proofs.BaseLaws.{state_last}
use Rattle.cluster_decisions.specs.Requested.{stored_entries, IsRequestOf}
use Rattle.cluster_decisions.proofs.DecisionLaws.{appends_kept, decided_made}
use Rattle.cluster_events.specs.Guards.{IsRightlyAppended}
use Rattle.cluster_events.specs.Settings.{Setting}
use Rattle.cluster_requests.specs.KeptEntries.{KeptEntry, plain, state_of, rows_behind}
use Rattle.cluster_requests.specs.KeptEntries.KeptEntry.{SetupKept, CommitKept}
use Rattle.cluster_requests.specs.Requests.{Sent, Field, MayAppend}
use Rattle.cluster_steps.specs.Guards.{ArePages, PagesStand, IsOfSchema}
use Rattle.cluster_steps.specs.Named.{kept_with, kept_over}
use Rattle.core_lists.specs.Lists.{In, Each}
use Rattle.log_replay.specs.Answers.{schema_of}
use Rattle.log_rows.specs.History.{Ground, rows_over, rows_after, tables_of}
use Rattle.phys_log.specs.Logs.{pages_of}
use Rattle.phys_log.specs.declared.entries.Entry.{Entry as PlainEntry}
use Rattle.phys_log.specs.declared.requests.CommitRequest.{CommitRequest}
use Rattle.phys_log.specs.declared.requests.Decision.TheVariants as decision
use Rattle.table_store.specs.Stored.{Stands}

kept_is : (e : KeptEntry) → e ≡ kept_with (rows_behind e) (plain e)
kept_is (SetupKept generation schema records reached) = refl
kept_is (CommitKept generation id begin level changes records reached) = refl

-- an entry that is kept with what it makes is the one that is named
kept_named : (log : List KeptEntry) (e : KeptEntry) (next : PlainEntry) → plain e ≡ next → rows_behind e ≡ rows_after (state_of log) next → e ≡ kept_over log next
kept_named log e next p r = kept_is e ∙ (ap (λ z. kept_with (rows_behind e) z) p ∙ ap (λ z. kept_with z next) r)

-- one entry more leaves the first one
same_schema : (l : List PlainEntry) (e : PlainEntry) (tables : List TableDef) → schema_of l ≡ Some tables → schema_of (l ++ e ∷ []) ≡ schema_of l
same_schema [] e tables q = absurd (cc)
same_schema (x ∷ l) e tables q = refl

stored_more : (log : List KeptEntry) (e : KeptEntry) → stored_entries (log ++ e ∷ []) ≡ stored_entries log ++ plain e ∷ []
stored_more [] e = refl
stored_more (x ∷ log) e = ap (λ z. plain x ∷ z) (stored_more log e)

plain_over : (log : List KeptEntry) (e : KeptEntry) (next : PlainEntry) → plain e ≡ next → e ≡ kept_over log next → plain (kept_over log next) ≡ next
plain_over log e next p q = ap (λ z. plain z) (sym q) ∙ p

-- the pages of the log with it stand
pages_behind : (log : List KeptEntry) (e : KeptEntry) (next : PlainEntry) (rows : Rows) → plain e ≡ next → rows_behind e ≡ rows → schema_of (stored_entries log) ≡ Some (tables_of (stored_entries log))
    → Stands (pages_of (stored_entries log ++ next ∷ [])) (tables_of (stored_entries log)) rows → ArePages (log ++ e ∷ [])
pages_behind log e next rows p r first stands =
    let m : stored_entries (log ++ e ∷ []) ≡ stored_entries log ++ next ∷ [] = stored_more log e ∙ ap (λ z. stored_entries log ++ z ∷ []) p in
    let s = same_schema (stored_entries log) next (tables_of (stored_entries log)) first in
    let t : tables_of (stored_entries (log ++ e ∷ [])) ≡ tables_of (stored_entries log) = ap (λ z. tables_of z) m ∙ ap (λ z. unwrap_or z []) s in
    let state : state_of (log ++ e ∷ []) ≡ rows = state_last (no_rows []) log e ∙ r in
    record {
      schema = ap (λ z. schema_of z) m ∙ (s ∙ (first ∙ ap (λ z. Some z) (sym t)));
      stand = subst (λ z. Stands (pages_of (stored_entries (log ++ e ∷ []))) (tables_of (stored_entries (log ++ e ∷ []))) z) (sym state)
          (subst (λ z. Stands (pages_of (stored_entries (log ++ e ∷ []))) z rows) (sym t) (subst (λ z. Stands (pages_of z) (tables_of (stored_entries log)) rows) (sym m) stands));
    }

-- it is no setup
no_setup : (G : Setting) (f : Field) (i : ℕ) (log : List KeptEntry) (e : KeptEntry) (tables : List TableDef) → schema_of (stored_entries log) ≡ Some tables → IsRightlyAppended G f i log e → IsOfSchema G.tables e
no_setup G f i log (SetupKept generation schema records reached) tables first d = absurd (let q : schema_of [] ≡ Some tables = ap (λ z. schema_of (stored_entries z)) (sym d.0) ∙ first in cc)
no_setup G f i log (CommitKept generation id begin level changes records reached) tables first d = tt

pub names : (G : Setting) (log : List KeptEntry) (footing : Ground) (sent : Sent) (request : CommitRequest) → IsRequestOf G log footing sent request → (f : Field) (i generation : ℕ) (next : PlainEntry)
    → (f.core.nodes i).log ≡ log → generation ≡ (f.core.nodes i).accepted → In sent f.sends → sent.to ≡ i → sent.gen ≡ (f.core.nodes i).accepted → Each (λ t. sent.id ≢ t) (f.settled i)
    → AllFit G.tables (apply_all (state_of log) sent.ops).tables → schema_of (stored_entries log) ≡ Some (tables_of (stored_entries log))
    → Decides footing request (stored_entries log) generation (decision.Commit next)
    → (plain (kept_over log next) ≡ next) × MayAppend f i (kept_over log next) × IsRightlyAppended G f i log (kept_over log next) × PagesStand (log ++ kept_over log next ∷ []) × IsOfSchema G.tables (kept_over log next)
names G log footing sent request k f i generation next own made mem to gen unsettled fit first d =
    let r = appends_kept G log footing sent request k f i generation next own made mem to gen unsettled fit d in
    let e = r.0 in
    let q : e ≡ kept_over log next = kept_named log e next r.1 (r.2 ∙ decided_made G log footing sent request generation next k d) in
    let rows : rows_over footing (stored_entries log ++ next ∷ []) ≡ apply_all (state_of log) sent.ops = d.rows ∙ (ap (λ z. apply_all z request.ops) k.rows ∙ ap (λ o. apply_all (state_of log) o) k.its_ops) in
    let stands = subst (λ z. Stands (pages_of (stored_entries log ++ next ∷ [])) (tables_of (stored_entries log)) z) rows d.stands in (
      plain_over log e next r.1 q,
      subst (λ z. MayAppend f i z) q r.3,
      subst (λ z. IsRightlyAppended G f i log z) q r.4,
      subst (λ z. PagesStand (log ++ z ∷ [])) q (inr (pages_behind log e next (apply_all (state_of log) sent.ops) r.1 r.2 first stands)),
      subst (λ z. IsOfSchema G.tables z) q (no_setup G f i log e (tables_of (stored_entries log)) first r.4),
    )

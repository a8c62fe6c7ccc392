-- The tables of the logs of a run are the script's, where those of its base are.
use Rattle.std.proofs.Common.{ℕ, ◌≡◌, ◌≤◌, List, [], ◌∷◌, ◌++◌, length, map, arith, refl, sym, subst, ap, ◌∙◌}
use Rattle.std.specs.Prelude.{Some, None}
use mathlib.Core.Logic.{◌⊎◌, inl, inr}
use Rattle.cdb_values.specs.declared.tables.TableDef.{TableDef}
use Rattle.cluster_consensus.specs.Durable.{DurableIn}
use Rattle.cluster_consensus.specs.Events.{NodeEvent}
use Rattle.cluster_consensus.specs.Facts.{Claim, Own, World}
use Rattle.cluster_consensus.specs.Histories.{after}
use Rattle.cluster_core.proofs.PageLaws.{all_leave}
use Rattle.cluster_events.specs.Parts.{ActorEvent, field}
use Rattle.cluster_events.specs.Settings.{Setting}
use Rattle.cluster_events.proofs.HistoryLaws.{steps as core_steps, add_step}
use Rattle.cluster_masters.specs.Appended.{Appends, AllAppend}
use Rattle.cluster_masters.proofs.BehindLaws.{IsBehind, behind_base}
use Rattle.cluster_masters.proofs.WholeLogs.{wholes}
use Rattle.cluster_requests.specs.KeptEntries.{KeptEntry, plain}
use Rattle.cluster_requests.specs.KeptEntries.KeptEntry.{SetupKept, CommitKept}
use Rattle.cluster_steps.specs.Guards.{ArePages, PagesStand, HasSchema, IsOfSchema, LeavesPages, AreLegalSteps}
use Rattle.cluster_steps.specs.Named.{named, steps, world}
use Rattle.cluster_steps.specs.declared.events.Event.{Event}
use Rattle.cluster_steps.proofs.StepLaws.{core_legal, world_is}
use Rattle.core_lists.specs.Fronts.{Front}
use Rattle.core_lists.specs.Fronts.Front.{front_nil, front_cons}
use Rattle.core_lists.specs.Lists.{In}
use Rattle.log_replay.specs.Answers.{schema_of}
use Rattle.log_rows.specs.History.{tables_of}

-- a setup that is appended has the script's tables
abbrev pub HasTables : List TableDef → ℕ → List KeptEntry → KeptEntry → Type 0
HasTables tables gen xs e = IsOfSchema tables e

schema_rule : (tables : List TableDef) (o : Own KeptEntry) (e : NodeEvent KeptEntry) → HasSchema tables e → Appends (HasTables tables) o e
schema_rule tables o (NodeEvent.Append e) x = x
schema_rule tables o (NodeEvent.BackAppend e) x = x
schema_rule tables o _ x = tt

schema_step : (G : Setting) (g : List (ℕ × ActorEvent)) (i : ℕ) (e : ActorEvent) → LeavesPages G g i e → AllAppend (HasTables G.tables) (core_steps g) → AllAppend (HasTables G.tables) (add_step i e (core_steps g))
schema_step G g i (ActorEvent.Node e) x all = (schema_rule G.tables ((after (core_steps g)).nodes i) e x.1, all)
schema_step G g i ActorEvent.Stop x all = (tt, all)
schema_step G g i (ActorEvent.Ask t) x all = (tt, all)
schema_step G g i _ x all = all

all_schema : (G : Setting) (h : List (ℕ × Event)) → AreLegalSteps G h → AllAppend (HasTables G.tables) (core_steps (steps G h))
all_schema G [] l = tt
all_schema G (x ∷ h) l = schema_step G (steps G h) x.0 (named G (steps G h) x.0 x.1) l.0.allowed.pages (all_schema G h l.1)

-- the first entry behind nothing
first_tables : (tables : List TableDef) (e : KeptEntry) (es : List KeptEntry) → schema_of (map plain (e ∷ es)) ≡ Some (tables_of (map plain (e ∷ es))) → IsOfSchema tables e → tables_of (map plain (e ∷ es)) ≡ tables
first_tables tables (SetupKept generation schema records reached) es first is = is
first_tables tables (CommitKept generation id begin level changes records reached) es first is = absurd (let q : None ≡ Some (tables_of (map plain (CommitKept generation id begin level changes records reached ∷ es))) = first in cc)

same_first : {xs ys : List KeptEntry} → Front xs ys → (xs ≡ [] → ⊥) → tables_of (map plain ys) ≡ tables_of (map plain xs)
same_first front_nil some = absurd (some refl)
same_first (front_cons p) some = refl

of_base : (tables : List TableDef) (a c : Claim KeptEntry) → IsBehind (HasTables tables) a c → (a.log ≡ []) ⊎ (tables_of (map plain a.log) ≡ tables) → PagesStand c.log → (c.log ≡ []) ⊎ (tables_of (map plain c.log) ≡ tables)
of_base tables a c b is pages = go a.log c.log b.0 (λ e p none. (b.1 [] e p none).rule) is pages
  where
    go : (al cl : List KeptEntry) → Front al cl → ((e : KeptEntry) → Front (e ∷ []) cl → length al ≤ 0 → IsOfSchema tables e) → (al ≡ []) ⊎ (tables_of (map plain al) ≡ tables) → PagesStand cl → (cl ≡ []) ⊎ (tables_of (map plain cl) ≡ tables)
    go al [] p rule is pages = inl refl
    go [] (e ∷ es) p rule is (inl none) = inl none
    go [] (e ∷ es) p rule is (inr are) = inr (first_tables tables e es are.schema (rule e (front_cons front_nil) (omega arith)))
    go (x ∷ xs) (e ∷ es) p rule (inl none) pages = absurd (cc)
    go (x ∷ xs) (e ∷ es) p rule (inr q) pages = inr (same_first p (λ none. absurd (cc)) ∙ q)

pub scripts_tables : (G : Setting) (h : List (ℕ × Event)) → AreLegalSteps G h → (m k : ℕ) (a c : Claim KeptEntry) → In a ((world G h).nodes m).leads → DurableIn G.nodes (world G h) a.gen a.log
    → (a.log ≡ []) ⊎ (tables_of (map plain a.log) ≡ G.tables) → In c ((world G h).nodes k).accepts → a.gen ≤ c.gen → (c.log ≡ []) ⊎ (tables_of (map plain c.log) ≡ G.tables)
scripts_tables G h l m k a c ha dur is hc low =
    let q = world_is G h in
    let led = subst (λ (w : World KeptEntry). In a (w.nodes m).leads) q ha in
    let took = subst (λ (w : World KeptEntry). In c (w.nodes k).accepts) q hc in
    let b = behind_base (HasTables G.tables) G.nodes k m (core_steps (steps G h)) a c (core_legal G h l) (all_schema G h l) led (subst (λ w. DurableIn G.nodes w a.gen a.log) q dur) took low in
    of_base G.tables a c b is ((wholes PagesStand G.nodes (core_steps (steps G h)) (inl refl) (core_legal G h l) (all_leave G h l) k).accepts.at c took)

-- The machine may do the run without a master.
use Rattle.std.proofs.Common.{ℕ, List, [], ◌∷◌, refl}
use mathlib.Core.Logic.{inl}
use Rattle.std.specs.declared.snapshot.Snapshot.{Snapshot}
use Rattle.actor_trace.specs.History.{IsLegal}
use Rattle.cdb_values.specs.Rows.{Rows}
use Rattle.cluster_events.specs.ByScript.{AllHeed}
use Rattle.cluster_events.specs.Guards.{IsLegalHistory}
use Rattle.cluster_events.specs.Settings.{Setting, lines_to_do}
use Rattle.cluster_runs.proofs.PlanLaws.{plan_of}
use Rattle.cluster_steps.specs.Guards.{IsExact, IsPlan, LeavesPages, MayTakeStep}
use Rattle.cluster_steps.specs.Named.{named, steps}
use Rattle.cluster_steps.specs.declared.events.Event.{Event}
use Rattle.cluster_worked.proofs.ShortLaws.{setting_fits, setting_follows, without_master_heeded, without_master_legal}
use Rattle.cluster_worked.specs.Named.{machine_opened, run, stopped}
use Rattle.cluster_worked.specs.Short.{setting}
use Rattle.phys_log.specs.declared.entries.Entry.{Entry}

-- each event says exactly what it does, and leaves pages that stand
abbrev AreExact : Setting → List (ℕ × Event) → Type 0
AreExact G [] = Unit {0}
AreExact G (x ∷ h) = (IsExact G (steps G h) x.0 x.1 × LeavesPages G (steps G h) x.0 (named G (steps G h) x.0 x.1)) × AreExact G h

run_of : (G : Setting) → IsPlan G → (h : List (ℕ × Event)) → IsLegalHistory G (steps G h) → AllHeed G (lines_to_do G) (steps G h) → AreExact G h → IsLegal (λ g i e. MayTakeStep G g i e) h
run_of G plan [] legal heeds exact = tt
run_of G plan (x ∷ h) legal heeds exact = (record { plan = plan; exact = exact.0.0; allowed = record { may = legal.0; by_script = heeds.0; pages = exact.0.1 } }, run_of G plan h legal.1 heeds.1 exact.1)

opened_exact : (rows : Snapshot Rows) (log : Snapshot (List Entry)) → AreExact setting (machine_opened rows log)
opened_exact rows log = (((tt, record { promise = refl; acceptance = refl; log = refl }), (inl refl, tt)), (((tt, record { promise = refl; acceptance = refl; log = refl }), (inl refl, tt)), (((tt, record { promise = refl; acceptance = refl; log = refl }), (inl refl, tt)), ((tt, (tt, tt)), ((tt, (tt, tt)), ((tt, (tt, tt)), tt))))))

stopped_exact : (rows : Snapshot Rows) (log : Snapshot (List Entry)) → AreExact setting (stopped rows log)
stopped_exact rows log = ((tt, tt), ((tt, tt), ((tt, tt), ((tt, tt), ((tt, tt), ((tt, tt), opened_exact rows log))))))

run_exact : (rows : Snapshot Rows) (log : Snapshot (List Entry)) → AreExact setting (run rows log)
run_exact rows log = ((tt, tt), ((tt, tt), ((refl, tt), stopped_exact rows log)))

pub run_legal : (rows : Snapshot Rows) (log : Snapshot (List Entry)) → IsLegal (λ g i e. MayTakeStep setting g i e) (run rows log)
run_legal rows log = run_of setting (plan_of setting setting_fits setting_follows) (run rows log) without_master_legal without_master_heeded (run_exact rows log)

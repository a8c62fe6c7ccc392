-- Each event leaves a log whose pages stand.
use Rattle.std.proofs.Common.{ℕ, List, [], ◌∷◌, subst}
use Rattle.cluster_consensus.specs.Facts.{World}
use Rattle.cluster_events.specs.Parts.{ActorEvent, field}
use Rattle.cluster_events.specs.Settings.{Setting}
use Rattle.cluster_events.proofs.HistoryLaws.{steps as core_steps, add_step, core_is}
use Rattle.cluster_masters.specs.WholeLogs.{Leaves, AllLeave}
use Rattle.cluster_requests.specs.KeptEntries.{KeptEntry}
use Rattle.cluster_steps.specs.Guards.{PagesStand, LeavesPages, AreLegalSteps}
use Rattle.cluster_steps.specs.Named.{named, steps}
use Rattle.cluster_steps.specs.declared.events.Event.{Event}

leave_step : (G : Setting) (g : List (ℕ × ActorEvent)) (i : ℕ) (e : ActorEvent) → LeavesPages G g i e → AllLeave PagesStand (core_steps g) → AllLeave PagesStand (add_step i e (core_steps g))
leave_step G g i (ActorEvent.Node e) x all = (subst (λ (w : World KeptEntry). Leaves PagesStand (w.nodes i) e) (core_is g) x.0, all)
leave_step G g i ActorEvent.Stop x all = (tt, all)
leave_step G g i (ActorEvent.Ask t) x all = (tt, all)
leave_step G g i _ x all = all

pub all_leave : (G : Setting) (h : List (ℕ × Event)) → AreLegalSteps G h → AllLeave PagesStand (core_steps (steps G h))
all_leave G [] l = tt
all_leave G (x ∷ h) l = leave_step G (steps G h) x.0 (named G (steps G h) x.0 x.1) l.0.allowed.pages (all_leave G h l.1)

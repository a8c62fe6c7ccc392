-- The run without a master as the machine does it: its events name what they take. The nodes come up over empty stores, whatever
-- rows their pages stand for.
use Rattle.std.specs.Prelude.{ℕ, List, [], ◌∷◌, false}
use Rattle.std.specs.declared.snapshot.Snapshot.{Snapshot}
use Rattle.cdb_values.specs.Rows.{Rows}
use Rattle.cdb_values.specs.declared.replies.Reply.TheVariants as reply
use Rattle.cluster_steps.specs.declared.events.Event.{Event}
use Rattle.cluster_steps.specs.declared.events.Event.TheVariants as event
use Rattle.cluster_steps.specs.declared.events.Woken.TheVariants as woken
use Rattle.phys_log.specs.declared.entries.Entry.{Entry}
use Rattle.report_text.specs.declared.reports.Line.TheVariants as line

abbrev pub up : Snapshot Rows → Snapshot (List Entry) → Event
up rows log = event.Up (woken.First rows) 0 0 (record log { value = [] })

abbrev pub machine_opened : Snapshot Rows → Snapshot (List Entry) → List (ℕ × Event)
machine_opened rows log = (3, up rows log) ∷ (2, up rows log) ∷ (1, up rows log) ∷ (0, event.Admit 3 0 0) ∷ (0, event.Admit 2 0 0) ∷ (0, event.Admit 1 0 0) ∷ []

abbrev pub stopped : Snapshot Rows → Snapshot (List Entry) → List (ℕ × Event)
stopped rows log = (0, event.Obeyed) ∷ (2, event.Down false) ∷ (0, event.Order) ∷ (0, event.Obeyed) ∷ (1, event.Down false) ∷ (0, event.Order) ∷ machine_opened rows log

abbrev pub run : Snapshot Rows → Snapshot (List Entry) → List (ℕ × Event)
run rows log = (0, event.FedAgain 0) ∷ (0, event.Ask) ∷ (97, event.Outcome (line.Session (97 ∷ []) 1 (reply.NoMajority 1 3))) ∷ stopped rows log

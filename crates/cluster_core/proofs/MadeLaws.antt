-- Each entry that is appended is kept with what it makes of the rows before it.
use Rattle.std.proofs.Common.{ℕ, ◌≡◌, List, [], ◌∷◌, ◌++◌, refl, sym, subst, ap}
use Rattle.std.specs.Prelude.{◌==◌, Bool, true, false, cond, Option, Some, None, length, slice_get}
use Rattle.cdb_values.specs.declared.replies.Reply.{Reply}
use Rattle.cdb_values.specs.declared.tables.TableDef.{TableDef}
use Rattle.cluster_consensus.specs.Events.{NodeEvent}
use Rattle.cluster_consensus.specs.Facts.{Own, World}
use Rattle.cluster_consensus.specs.Histories.{after}
use Rattle.cluster_core.specs.Kept.{IsMade}
use Rattle.cluster_events.specs.Parts.{ActorEvent, part, field}
use Rattle.cluster_events.specs.Settings.{Setting}
use Rattle.cluster_events.proofs.HistoryLaws.{steps as core_steps, add_step, core_is}
use Rattle.cluster_masters.specs.Appended.{Appends, AllAppend}
use Rattle.cluster_requests.specs.KeptEntries.{KeptEntry, plain, rows_behind, state_of}
use Rattle.cluster_steps.specs.Named.{named, named_up, named_settled, named_reply, back_append, kept_over, log_named, reply_in, steps}
use Rattle.cluster_steps.specs.declared.events.Event.{Event}
use Rattle.cluster_steps.specs.declared.events.Event.TheVariants as event
use Rattle.cluster_steps.specs.declared.events.Woken.{Woken}
use Rattle.cluster_steps.specs.declared.events.Woken.TheVariants as woken
use Rattle.log_rows.specs.History.{rows_after}
use Rattle.phys_log.specs.declared.entries.CommitId.{CommitId}
use Rattle.phys_log.specs.declared.entries.Entry.{Entry}
use Rattle.phys_log.specs.declared.entries.Entry.TheVariants as entry
use Rattle.phys_log.specs.declared.requests.Decision.{Decision}
use Rattle.phys_log.specs.declared.requests.Decision.TheVariants as decision
use Rattle.report_laws.specs.Work.{WorkItem, Does, Lone}

-- an entry that is kept over a log
made_over : (log : List KeptEntry) (e : Entry) → rows_behind (kept_over log e) ≡ rows_after (state_of log) (plain (kept_over log e))
made_over log (entry.Setup generation schema records) = refl
made_over log (entry.Commit generation id begin level changes records) = refl

-- so is what an event of whole histories appends
abbrev pub StepAppends : Own KeptEntry → ActorEvent → Type 0
StepAppends o (ActorEvent.Node e) = Appends IsMade o e
StepAppends o _ = Unit {0}

made_cond : (o : Own KeptEntry) (b : Bool) (c d : NodeEvent KeptEntry) → Appends IsMade o c → Appends IsMade o d → Appends IsMade o (cond b c d)
made_cond o true c d p q = p
made_cond o false c d p q = q

made_back : (o : Own KeptEntry) (p : ℕ) (e : Option Entry) → Appends IsMade o (back_append p o.log e)
made_back o p None = tt
made_back o p (Some e) = made_over o.log e

made_up : (n : ℕ) (w : World KeptEntry) (o : Own KeptEntry) (how : Woken) (p a : ℕ) (es : List Entry) → Appends IsMade o (named_up n w o how p a es)
made_up n w o (woken.First rows) p a es = tt
made_up n w o woken.AsLeft p a es = tt
made_up n w o woken.Led p a es = tt
made_up n w o woken.Took p a es = made_cond o (a == o.accepted) (NodeEvent.BackGrow (log_named n w a (length es))) (NodeEvent.BackTake a (log_named n w a (length es))) tt tt
made_up n w o woken.Appended p a es = made_back o p (slice_get es (length o.log))

made_settled : (o : Own KeptEntry) (tables : List TableDef) (id : CommitId) (d : Decision) → StepAppends o (named_settled tables id d)
made_settled o tables id (decision.Repeat position) = tt
made_settled o tables id _ = tt

made_reply : (o : Own KeptEntry) (items : List WorkItem) (answer : Reply) → StepAppends o (named_reply items answer)
made_reply o [] answer = tt
made_reply o (Lone r ∷ items) answer = tt
made_reply o (Does t ∷ items) answer = tt

made_named : (G : Setting) (g : List (ℕ × ActorEvent)) (i : ℕ) (e : Event) → StepAppends ((field g).core.nodes i) (named G g i e)
made_named G g i (event.Up how p a es) = made_up G.nodes (field g).core ((field g).core.nodes i) how p a es.value
made_named G g i (event.Down true) = tt
made_named G g i (event.Down false) = tt
made_named G g i (event.Take gen l) = made_cond ((field g).core.nodes i) (gen == ((field g).core.nodes i).accepted) (NodeEvent.Grow (log_named G.nodes (field g).core gen l)) (NodeEvent.Take gen (log_named G.nodes (field g).core gen l)) tt tt
made_named G g i (event.Append next) = made_over ((field g).core.nodes i).log next.value
made_named G g i (event.Settle id d) = made_settled ((field g).core.nodes i) G.tables id.value d.value
made_named G g i (event.Learn l) = made_cond ((field g).core.nodes i) ((field g).core.nodes i).leading (NodeEvent.LearnLead l) (NodeEvent.LearnFollow l) tt tt
made_named G g i (event.Reply told) = made_reply ((field g).core.nodes i) (part G i g).left (reply_in told)
made_named G g i _ = tt

made_step : (g : List (ℕ × ActorEvent)) (i : ℕ) (e : ActorEvent) → StepAppends ((field g).core.nodes i) e → AllAppend IsMade (core_steps g) → AllAppend IsMade (add_step i e (core_steps g))
made_step g i (ActorEvent.Node e) x all = (subst (λ (w : World KeptEntry). Appends IsMade (w.nodes i) e) (core_is g) x, all)
made_step g i ActorEvent.Stop x all = (tt, all)
made_step g i (ActorEvent.Ask t) x all = (tt, all)
made_step g i _ x all = all

pub all_made : (G : Setting) (h : List (ℕ × Event)) → AllAppend IsMade (core_steps (steps G h))
all_made G [] = tt
all_made G (x ∷ h) = made_step (steps G h) x.0 (named G (steps G h) x.0 x.1) (made_named G (steps G h) x.0 x.1) (all_made G h)

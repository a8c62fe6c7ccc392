-- What the history has as settled by a node since it leads is what the node's own events told.
use Rattle.std.proofs.Common.{ℕ, ◌≡◌, List, [], ◌∷◌, ◌++◌, length, refl, sym, ap, ◌∙◌}
use Rattle.std.specs.Prelude.{◌==◌, Bool, true, false, cond, Option, Some, None, slice_get}
use Rattle.actor_trace.specs.History.{entries_of}
use Rattle.cdb_values.specs.declared.replies.Reply.{Reply}
use Rattle.cluster_consensus.specs.Events.{NodeEvent}
use Rattle.cluster_events.specs.Parts.{ActorEvent, field, part}
use Rattle.cluster_events.specs.Settings.{Setting}
use Rattle.cluster_requests.specs.KeptEntries.{KeptEntry}
use Rattle.cluster_requests.specs.Requests.{settled_with}
use Rattle.cluster_steps.specs.Named.{back_append, log_named, named, named_reply, named_settled, reply_in, steps}
use Rattle.cluster_steps.specs.declared.events.Event.{Event}
use Rattle.cluster_steps.specs.declared.events.Event.TheVariants as event
use Rattle.cluster_steps.specs.declared.events.Woken.TheVariants as woken
use Rattle.core_lists.specs.Lists.{In, Each}
use Rattle.core_lists.specs.Lists.In.{here, there}
use Rattle.phys_log.specs.declared.entries.CommitId.{CommitId}
use Rattle.phys_log.specs.declared.entries.Entry.{Entry}
use Rattle.phys_log.specs.declared.requests.Decision.{Decision}
use Rattle.phys_log.specs.declared.requests.Decision.TheVariants as decision
use Rattle.report_laws.specs.Work.{WorkItem, Does, Lone}
use Rattle.cdb_values.specs.declared.tables.TableDef.{TableDef}
use Rattle.node_state.specs.Nodes.{events_of}
use Rattle.node_state.proofs.CallLaws.{events_more}
use Rattle.node_commits.specs.Ledgers.{IsUntold, Settlement, settlement, told_after, told_behind, told_by}

-- the identities, the newest first
abbrev pub ids_behind : List CommitId → List Settlement → List CommitId
ids_behind ids [] = ids
ids_behind ids (s ∷ told) = ids_behind (s.id ∷ ids) told

pub ids_more : (ids : List CommitId) (told : List Settlement) (s : Settlement) → ids_behind ids (told ++ s ∷ []) ≡ s.id ∷ ids_behind ids told
ids_more ids [] s = refl
ids_more ids (x ∷ told) s = ids_more (x.id ∷ ids) told s

pub told_one_more : (told : List Settlement) (es : List Event) (e : Event) → told_behind told (es ++ e ∷ []) ≡ told_after (told_behind told es) e
told_one_more told [] e = refl
told_one_more told (x ∷ es) e = told_one_more (told_after told x) es e

-- what a step makes of the settled identities of its node
abbrev step_ids : List CommitId → ActorEvent → List CommitId
step_ids ids (ActorEvent.Node c) = settled_with ids c
step_ids ids (ActorEvent.Settle id why) = id ∷ ids
step_ids ids (ActorEvent.Repeat id position) = id ∷ ids
step_ids ids _ = ids

-- others' steps, and its own
others_stay : (i j : ℕ) (s : ActorEvent) (g : List (ℕ × ActorEvent)) → (i == j) ≡ false → (field ((j, s) ∷ g)).settled i ≡ (field g).settled i
others_stay i j (ActorEvent.Node c) g ne = ap (λ b. cond b (settled_with ((field g).settled i) c) ((field g).settled i)) ne
others_stay i j ActorEvent.Stop g ne = ap (λ b. cond b ((field g).settled i) ((field g).settled i)) ne
others_stay i j (ActorEvent.Settle id why) g ne = ap (λ b. cond b (id ∷ (field g).settled i) ((field g).settled i)) ne
others_stay i j (ActorEvent.Repeat id position) g ne = ap (λ b. cond b (id ∷ (field g).settled i) ((field g).settled i)) ne
others_stay i j (ActorEvent.Ask t) g ne = ap (λ b. cond b ((field g).settled i) ((field g).settled i)) ne
others_stay i j (ActorEvent.Begun b gen) g ne = refl
others_stay i j (ActorEvent.Say r) g ne = refl
others_stay i j ActorEvent.Note g ne = refl
others_stay i j (ActorEvent.Send x) g ne = refl
others_stay i j (ActorEvent.Finish r) g ne = refl
others_stay i j (ActorEvent.Move k) g ne = refl
others_stay i j ActorEvent.Order g ne = refl
others_stay i j ActorEvent.Obeyed g ne = refl
others_stay i j (ActorEvent.Fire line node) g ne = refl
others_stay i j ActorEvent.Barrier g ne = refl
others_stay i j (ActorEvent.Fed d gen) g ne = refl
others_stay i j (ActorEvent.FedAgain d) g ne = refl

own_step : (i j : ℕ) (s : ActorEvent) (g : List (ℕ × ActorEvent)) → (i == j) ≡ true → (field ((j, s) ∷ g)).settled i ≡ step_ids ((field g).settled i) s
own_step i j (ActorEvent.Node c) g e = ap (λ b. cond b (settled_with ((field g).settled i) c) ((field g).settled i)) e
own_step i j ActorEvent.Stop g e = ap (λ b. cond b ((field g).settled i) ((field g).settled i)) e
own_step i j (ActorEvent.Settle id why) g e = ap (λ b. cond b (id ∷ (field g).settled i) ((field g).settled i)) e
own_step i j (ActorEvent.Repeat id position) g e = ap (λ b. cond b (id ∷ (field g).settled i) ((field g).settled i)) e
own_step i j (ActorEvent.Ask t) g e = ap (λ b. cond b ((field g).settled i) ((field g).settled i)) e
own_step i j (ActorEvent.Begun b gen) g e = refl
own_step i j (ActorEvent.Say r) g e = refl
own_step i j ActorEvent.Note g e = refl
own_step i j (ActorEvent.Send x) g e = refl
own_step i j (ActorEvent.Finish r) g e = refl
own_step i j (ActorEvent.Move k) g e = refl
own_step i j ActorEvent.Order g e = refl
own_step i j ActorEvent.Obeyed g e = refl
own_step i j (ActorEvent.Fire line node) g e = refl
own_step i j ActorEvent.Barrier g e = refl
own_step i j (ActorEvent.Fed d gen) g e = refl
own_step i j (ActorEvent.FedAgain d) g e = refl

-- names of events: a choice between steps that settle nothing settles nothing
choice : (b : Bool) (x y : ActorEvent) (ids : List CommitId) → step_ids ids x ≡ ids → step_ids ids y ≡ ids → step_ids ids (cond b x y) ≡ ids
choice true x y ids p q = p
choice false x y ids p q = q

core_choice : (b : Bool) (x y : NodeEvent KeptEntry) (ids : List CommitId) → settled_with ids x ≡ ids → settled_with ids y ≡ ids → settled_with ids (cond b x y) ≡ ids
core_choice true x y ids p q = p
core_choice false x y ids p q = q

back_stays : (promised : ℕ) (log : List KeptEntry) (o : Option Entry) (ids : List CommitId) → settled_with ids (back_append promised log o) ≡ ids
back_stays promised log None ids = refl
back_stays promised log (Some e) ids = refl

reply_stays : (items : List WorkItem) (r : Reply) (ids : List CommitId) → step_ids ids (named_reply items r) ≡ ids
reply_stays [] r ids = refl
reply_stays (Does t ∷ items) r ids = refl
reply_stays (Lone x ∷ items) r ids = refl

settles : (tables : List TableDef) (id : CommitId) (d : Decision) (ids : List CommitId) → step_ids ids (named_settled tables id d) ≡ id ∷ ids
settles tables id (decision.Repeat position) ids = refl
settles tables id (decision.Conflict position item) ids = refl
settles tables id (decision.Duplicate position table key) ids = refl
settles tables id (decision.Commit next) ids = refl

-- an event tells what its name settles
own_event : (G : Setting) (g : List (ℕ × ActorEvent)) (i : ℕ) (e : Event) (told : List Settlement) → step_ids (ids_behind [] told) (named G g i e) ≡ ids_behind [] (told_after told e)
own_event G g i event.Order told = refl
own_event G g i event.Obeyed told = refl
own_event G g i (event.Fire place node) told = refl
own_event G g i (event.Admit node promised accepted) told = refl
own_event G g i (event.Up (woken.First rows) promised accepted entries) told = refl
own_event G g i (event.Up woken.AsLeft promised accepted entries) told = refl
own_event G g i (event.Up woken.Led promised accepted entries) told = refl
own_event G g i (event.Up woken.Took promised accepted entries) told =
    core_choice (accepted == ((field g).core.nodes i).accepted) (NodeEvent.BackGrow (log_named G.nodes (field g).core accepted (length entries.value))) (NodeEvent.BackTake accepted (log_named G.nodes (field g).core accepted (length entries.value)))
    (ids_behind [] told) refl refl
own_event G g i (event.Up woken.Appended promised accepted entries) told =
    back_stays promised ((field g).core.nodes i).log (slice_get entries.value (length ((field g).core.nodes i).log)) (ids_behind [] told)
own_event G g i (event.Down fault) told = choice fault (ActorEvent.Node NodeEvent.Down) ActorEvent.Stop (ids_behind [] told) refl refl
own_event G g i (event.Stand generation) told = refl
own_event G g i (event.Grant generation to) told = refl
own_event G g i (event.Lead generation) told = refl
own_event G g i (event.Take generation l) told =
    core_choice (generation == ((field g).core.nodes i).accepted) (NodeEvent.Grow (log_named G.nodes (field g).core generation l)) (NodeEvent.Take generation (log_named G.nodes (field g).core generation l)) (ids_behind [] told) refl refl
own_event G g i (event.Append next) told = refl
own_event G g i (event.Settle id d) told = settles G.tables id.value d.value (ids_behind [] told) ∙ sym (ids_more [] told (settlement id.value d.value))
own_event G g i (event.Learn l) told = core_choice ((field g).core.nodes i).leading (NodeEvent.LearnLead l) (NodeEvent.LearnFollow l) (ids_behind [] told) refl refl
own_event G g i (event.Probe ask) told = refl
own_event G g i (event.Confirm ask generation) told = refl
own_event G g i event.Ask told = refl
own_event G g i (event.Begun position generation) told = refl
own_event G g i (event.Reply line) told = reply_stays (part G i g).left (reply_in line) (ids_behind [] told)
own_event G g i (event.Send master generation) told = refl
own_event G g i (event.Outcome line) told = refl
own_event G g i (event.Move node) told = refl
own_event G g i event.Barrier told = refl
own_event G g i (event.Fed position generation) told = refl
own_event G g i (event.FedAgain position) told = refl

pub settled_is : (G : Setting) (i : ℕ) (h : List (ℕ × Event)) → (field (steps G h)).settled i ≡ ids_behind [] (told_by (events_of (entries_of i h)))
settled_is G i [] = refl
settled_is G i (x ∷ h) = go (i == x.0) refl (settled_is G i h)
  where
    g : List (ℕ × ActorEvent)
    g = steps G h

    s : ActorEvent
    s = named G g x.0 x.1

    mine : List (ℕ × Event)
    mine = entries_of i h

    told : List Settlement
    told = told_by (events_of mine)

    more : told_by (events_of (mine ++ (length h, x.1) ∷ [])) ≡ told_after told x.1
    more = ap told_by (events_more mine ((length h, x.1) ∷ [])) ∙ told_one_more [] (events_of mine) x.1

    go : (b : Bool) → (i == x.0) ≡ b → (field g).settled i ≡ ids_behind [] told → (field ((x.0, s) ∷ g)).settled i ≡ ids_behind [] (told_by (events_of (cond b (mine ++ (length h, x.1) ∷ []) mine)))
    go true e before = own_step i x.0 s g e ∙ (ap (λ ids. step_ids ids s) before ∙ (own_event G g x.0 x.1 told ∙ ap (λ t. ids_behind [] t) (sym more)))
    go false e before = others_stay i x.0 s g e ∙ before

-- of whom nothing was told is not settled
pub unsettled : (ids : List CommitId) (told : List Settlement) (id : CommitId) → IsUntold told id → Each (λ t. id ≡ t → ⊥) ids → Each (λ t. id ≡ t → ⊥) (ids_behind ids told)
unsettled ids [] id none each = each
unsettled ids (s ∷ told) id none each = unsettled (s.id ∷ ids) told id none.1 (record { at = more })
  where
    more : (t : CommitId) → In t (s.id ∷ ids) → id ≡ t → ⊥
    more t here e = none.0 (sym e)
    more t (there m) e = each.at t m e

-- The whole history that a history of named events is: legal where it is, and of the same actors.
use Rattle.std.proofs.Common.{ℕ, ◌≡◌, ◌≢◌, ◌<◌, List, [], ◌∷◌, ◌++◌, length, arith, refl, sym, subst, ap, ◌∙◌}
use Rattle.std.specs.Prelude.{◌==◌, ◌+◌, suc, Bool, true, false, cond, Option, Some, None}
use Rattle.std.proofs.lemmas.Option.{same_Some}
use Rattle.actor_trace.specs.History.{entries_of}
use Rattle.actor_trace.proofs.Entries.{idle_step, not_eq}
use Rattle.core_lists.specs.Lists.{In, Each}
use Rattle.core_lists.specs.Lists.In.{here, there}
use Rattle.core_lists.proofs.Lists.{each_add, each_none, each_more}
use Rattle.cluster_consensus.specs.Events.{NodeEvent, change}
use Rattle.cluster_consensus.specs.Events.NodeEvent.{Down, Asks}
use Rattle.cluster_consensus.specs.Facts.{Own, World}
use Rattle.cluster_consensus.specs.Histories.{after, asked, Legal}
use Rattle.cluster_consensus.proofs.Invariant.{Inv}
use Rattle.cluster_events.specs.ByScript.{AllHeed}
use Rattle.cluster_events.specs.Guards.{IsActedBy, IsLegalHistory, MayDo as IsStep}
use Rattle.cluster_events.specs.Parts.{ActorEvent, Part, moves, part, add_act, acts, field}
use Rattle.cluster_events.specs.Settings.{Setting, lines_to_do}
use Rattle.cluster_events.proofs.HistoryLaws.{steps as core_steps, core_is, steps_legal, good_of}
use Rattle.cluster_requests.specs.KeptEntries.{KeptEntry}
use Rattle.cluster_requests.specs.Requests.{field_after}
use Rattle.cluster_steps.specs.Named.{named, named_settled, named_reply, reply_in, steps, world}
use Rattle.cluster_steps.specs.declared.events.Event.{Event}
use Rattle.cluster_steps.specs.declared.events.Event.TheVariants as event
use Rattle.cluster_steps.specs.Guards.{AreLegalSteps}
use Rattle.cdb_values.specs.declared.replies.Reply.{Reply}
use Rattle.cdb_values.specs.declared.tables.TableDef.{TableDef}
use Rattle.phys_log.specs.declared.entries.CommitId.{CommitId}
use Rattle.phys_log.specs.declared.requests.Decision.{Decision}
use Rattle.phys_log.specs.declared.requests.Decision.TheVariants as decision
use Rattle.report_laws.specs.Work.{WorkItem, Does, Lone}

pub legal_steps : (G : Setting) (h : List (ℕ × Event)) → AreLegalSteps G h → IsLegalHistory G (steps G h)
legal_steps G [] l = tt
legal_steps G (x ∷ h) l = (l.0.allowed.may, legal_steps G h l.1)

pub heed_steps : (G : Setting) (h : List (ℕ × Event)) → AreLegalSteps G h → AllHeed G (lines_to_do G) (steps G h)
heed_steps G [] l = tt
heed_steps G (x ∷ h) l = (l.0.allowed.by_script, heed_steps G h l.1)

pub steps_length : (G : Setting) (h : List (ℕ × Event)) → length (steps G h) ≡ length h
steps_length G [] = refl
steps_length G (x ∷ h) = ap (λ n. suc n) (steps_length G h)

pub inv_of : (G : Setting) (h : List (ℕ × Event)) → AreLegalSteps G h → Inv G.nodes (world G h)
inv_of G h l = (good_of G (steps G h) (legal_steps G h l)).inv

-- the core's own history
pub world_is : (G : Setting) (h : List (ℕ × Event)) → world G h ≡ after (core_steps (steps G h))
world_is G h = core_is (steps G h)

pub core_legal : (G : Setting) (h : List (ℕ × Event)) → AreLegalSteps G h → Legal G.nodes (core_steps (steps G h))
core_legal G h l = steps_legal G (steps G h) (legal_steps G h l)

-- what stands behind a history
abbrev pub more_steps : Setting → List (ℕ × Event) → List (ℕ × Event) → List (ℕ × ActorEvent)
more_steps G [] h = []
more_steps G (x ∷ later) h = (x.0, named G (steps G (later ++ h)) x.0 x.1) ∷ more_steps G later h

pub steps_append : (G : Setting) (later h : List (ℕ × Event)) → steps G (later ++ h) ≡ more_steps G later h ++ steps G h
steps_append G [] h = refl
steps_append G (x ∷ later) h = ap (λ t. (x.0, named G (steps G (later ++ h)) x.0 x.1) ∷ t) (steps_append G later h)

pub idle_more : (G : Setting) (i : ℕ) (later h : List (ℕ × Event)) → entries_of i (later ++ h) ≡ entries_of i h → Each (λ x. (i == x.0) ≡ false) (more_steps G later h)
idle_more G i [] h own = each_none
idle_more G i (x ∷ later) h own = let s = idle_step i x later h own in each_add (not_eq i x.0 s.0) (idle_more G i later h s.1)

-- who does nothing keeps its part
idle_node : (g : List (ℕ × ActorEvent)) (i j : ℕ) (e : ActorEvent) → (i == j) ≡ false → (field_after (add_act j e (acts g))).core.nodes i ≡ (field g).core.nodes i
idle_node g i j (ActorEvent.Node e) ne = ap (λ b. cond b (change j ((field g).core.nodes j) e) ((field g).core.nodes i)) ne
idle_node g i j ActorEvent.Stop ne = ap (λ b. cond b (change j ((field g).core.nodes j) Down) ((field g).core.nodes i)) ne
idle_node g i j (ActorEvent.Ask t) ne = ap (λ b. cond b ((field g).core.nodes j) ((field g).core.nodes i)) ne
idle_node g i j _ ne = refl

pub idle : (G : Setting) (i : ℕ) (later h : List (ℕ × Event)) → entries_of i (later ++ h) ≡ entries_of i h → (world G (later ++ h)).nodes i ≡ (world G h).nodes i
idle G i [] h own = refl
idle G i (x ∷ later) h own =
    let s = idle_step i x later h own in
    idle_node (steps G (later ++ h)) i x.0 (named G (steps G (later ++ h)) x.0 x.1) (not_eq i x.0 s.0) ∙ idle G i later h s.1

pub idle_part : (G : Setting) (i : ℕ) (later h : List (ℕ × Event)) → entries_of i (later ++ h) ≡ entries_of i h → part G i (steps G (later ++ h)) ≡ part G i (steps G h)
idle_part G i [] h own = refl
idle_part G i (x ∷ later) h own =
    let s = idle_step i x later h own in
    let g = steps G (later ++ h) in
    let ne : (i == x.0) ≡ false = not_eq i x.0 s.0 in
    ap (λ b. cond b (moves (part G i g) (named G g x.0 x.1)) (part G i g)) ne ∙ idle_part G i later h s.1

-- the ticket that an event of whole histories asks with
abbrev pub ticket_of : ActorEvent → Option ℕ
ticket_of (ActorEvent.Ask t) = Some t
ticket_of _ = None

-- and an event that is named, behind so many
abbrev pub ticket : ℕ → Event → Option ℕ
ticket n event.Ask = Some n
ticket n _ = None

settled_ticket : (tables : List TableDef) (id : CommitId) (d : Decision) → ticket_of (named_settled tables id d) ≡ None
settled_ticket tables id (decision.Repeat position) = refl
settled_ticket tables id _ = refl

reply_ticket : (items : List WorkItem) (answer : Reply) → ticket_of (named_reply items answer) ≡ None
reply_ticket [] answer = refl
reply_ticket (Lone r ∷ items) answer = refl
reply_ticket (Does t ∷ items) answer = refl

pub named_ticket : (G : Setting) (g : List (ℕ × ActorEvent)) (i : ℕ) (e : Event) → ticket_of (named G g i e) ≡ ticket (length g) e
named_ticket G g i (event.Down true) = refl
named_ticket G g i (event.Down false) = refl
named_ticket G g i (event.Settle id d) = settled_ticket G.tables id.value d.value
named_ticket G g i (event.Reply told) = reply_ticket (part G i g).left (reply_in told)
named_ticket G g i event.Ask = refl
named_ticket G g i _ = refl

-- an event of a node asks for nothing
core_asks : (n i : ℕ) (w : World KeptEntry) (e : NodeEvent KeptEntry) → IsActedBy n i e → asked w e ≡ w.asks
core_asks n i w (Asks t) by = absurd by
core_asks n i w _ by = refl

-- each ask is called by a ticket below the next one
asks_step : (G : Setting) (g : List (ℕ × ActorEvent)) (n i : ℕ) (e : ActorEvent) → IsStep G g i e → ((t : ℕ) → ticket_of e ≡ Some t → t ≡ n) → Each (λ s. s < n) (field g).core.asks → Each (λ s. s < n + 1) (field_after (add_act i e (acts g))).core.asks
asks_step G g n i (ActorEvent.Ask t) may is all = let q : t ≡ n = is t refl in each_add (omega arith) (each_more (λ s l. let l' : s < n = l in omega arith) all)
asks_step G g n i (ActorEvent.Node e) may is all = subst (λ xs. Each (λ s. s < n + 1) xs) (sym (core_asks G.nodes i (field g).core e may.2)) (each_more (λ s l. let l' : s < n = l in omega arith) all)
asks_step G g n i _ may is all = each_more (λ s l. let l' : s < n = l in omega arith) all

ticket_is : (n t : ℕ) (e : Event) → ticket n e ≡ Some t → t ≡ n
ticket_is n t event.Ask e = sym (same_Some n t e)
ticket_is n t _ e = absurd (cc)

pub asks_below : (G : Setting) (h : List (ℕ × Event)) → AreLegalSteps G h → Each (λ s. s < length (steps G h)) (world G h).asks
asks_below G [] l = each_none
asks_below G (x ∷ h) l =
    let g = steps G h in
    let all = asks_step G g (length g) x.0 (named G g x.0 x.1) l.0.allowed.may (λ t q. ticket_is (length g) t x.1 (sym (named_ticket G g x.0 x.1) ∙ q)) (asks_below G h l.1) in
    each_more (λ s l. let l' : s < length g + 1 = l in omega arith) all

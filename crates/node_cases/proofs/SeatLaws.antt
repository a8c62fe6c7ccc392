-- A node that was up once was up once, whatever happens since; and what is known of that.
use Rattle.std.proofs.Common.{ℕ, zero, suc, ◌≡◌, ◌≤◌, List, [], ◌∷◌, ◌++◌, length, arith, refl, sym, subst, ap, ◌∙◌}
use Rattle.std.proofs.lemmas.Bool.Decides.{Decides-eqb}
use Rattle.std.specs.Prelude.{◌==◌, true, false}
use Rattle.std.specs.declared.snapshot.Snapshot.{Snapshot}
use Rattle.actor_trace.specs.Lists.{Begins}
use Rattle.actor_trace.specs.Steps.{Rests}
use Rattle.cdb_values.specs.Rows.{Rows}
use Rattle.cluster_consensus.specs.Events.{NodeEvent, change}
use Rattle.cluster_consensus.specs.Events.NodeEvent.{Boot, Down, Asks}
use Rattle.cluster_consensus.specs.Facts.{Own, World}
use Rattle.cluster_consensus.specs.Histories.{happens}
use Rattle.cluster_consensus.proofs.Kept.{at_node}
use Rattle.cluster_events.specs.Parts.{ActorEvent, acts, add_act, field}
use Rattle.cluster_events.specs.Settings.{Setting}
use Rattle.cluster_requests.specs.KeptEntries.{KeptEntry}
use Rattle.cluster_requests.specs.Requests.{field_after}
use Rattle.cluster_steps.specs.Named.{named, steps, world}
use Rattle.cluster_steps.specs.declared.events.Event.{Event}
use Rattle.cluster_steps.specs.declared.events.Woken.TheVariants as woken
use Rattle.cluster_steps.proofs.OwnLaws.{tells_begins}
use Rattle.cluster_steps.proofs.StepLaws.{inv_of}
use Rattle.core_lists.specs.Lists.{In}
use Rattle.election_core.specs.declared.votes.NodeVote.{NodeVote}
use Rattle.phys_log.specs.declared.entries.Entry.{Entry}
use Rattle.node_state.specs.Nodes.{Held, IsOwn}
use Rattle.node_state.specs.Restarts.{IsStarted}
use Rattle.node_state.specs.Stores.{IsStartedSo, Stored}
use Rattle.node_state.specs.declared.steps.Started.{Started}
use Rattle.node_state.specs.declared.steps.Started.TheVariants as started
use Rattle.node_cases.specs.Seats.{WasUp, WereUp, is_up}

-- each event keeps it
was_row : (i : ℕ) (o : Own KeptEntry) (e : NodeEvent KeptEntry) → o.was_up ≡ true → (change i o e).was_up ≡ true
was_row i o (Boot p a l) w = refl
was_row i o _ w = w

abbrev Was : World KeptEntry → ℕ → Type 0
Was w i = (w.nodes i).was_up ≡ true

was_happens : (w : World KeptEntry) (j i : ℕ) (e : NodeEvent KeptEntry) → Was w i → Was (happens w j e) i
was_happens w j i e s = at_node w j e (λ k o. (i ≡ k) → o.was_up ≡ true) i (λ q. was_row j (w.nodes j) e (subst (λ k. Was w k) q s)) (λ q. s) refl

was_step : (g : List (ℕ × ActorEvent)) (j i : ℕ) (e : ActorEvent) → Was (field g).core i → Was (field_after (add_act j e (acts g))).core i
was_step g j i (ActorEvent.Node e) s = was_happens (field g).core j i e s
was_step g j i ActorEvent.Stop s = was_happens (field g).core j i Down s
was_step g j i (ActorEvent.Ask t) s = was_happens (field g).core j i (Asks t) s
was_step g j i _ s = s

pub was_more : (G : Setting) (i : ℕ) (later h : List (ℕ × Event)) → WasUp G i h → WasUp G i (later ++ h)
was_more G i [] h s = s
was_more G i (x ∷ later) h s = was_step (steps G (later ++ h)) x.0 i (named G (steps G (later ++ h)) x.0 x.1) (was_more G i later h s)

-- what is heard of is known
pub was_heard : (G : Setting) (i : ℕ) (old new : List (ℕ × Event)) → Begins old new → WasUp G i old → WasUp G i new
was_heard G i old new b s = subst (λ t. WasUp G i t) b.whole (was_more G i b.later old s)

-- who is up was up
pub up_was : (G : Setting) (h : Held) → IsOwn G h → h.vote.up ≡ true → WasUp G h.vote.node h.actor.seen
up_was G h own up = ((inv_of G h.actor.seen own.node.legal).local h.vote.node).awake (sym own.node.part.up ∙ up)

-- and so is each of the three
pub were_more : (G : Setting) (old new : List (ℕ × Event)) → Begins old new → WereUp G old → WereUp G new
were_more G old new m s = record { one = was_heard G 1 old new m s.one; two = was_heard G 2 old new m s.two; three = was_heard G 3 old new m s.three }

pub were_node : (G : Setting) (seen : List (ℕ × Event)) (node : ℕ) → WereUp G seen → 1 ≤ node → node ≤ 3 → WasUp G node seen
were_node G seen zero s low high = absurd (omega arith)
were_node G seen (suc zero) s low high = s.one
were_node G seen (suc (suc zero)) s low high = s.two
were_node G seen (suc (suc (suc zero))) s low high = s.three
were_node G seen (suc (suc (suc (suc n)))) s low high = absurd (omega arith)

pub rests_begin : (i : ℕ) (old new : List (ℕ × Event)) → Rests i old new → Begins old new
rests_begin i old new r = record { later = r.between; whole = sym r.whole }

-- an ask that is heard of
pub asks_heard : (G : Setting) (ask : ℕ) (note seen : List (ℕ × Event)) → Begins note seen → In ask (world G note).asks → In ask (world G seen).asks
asks_heard G ask note seen heard asked = (tells_begins G note seen heard).asks ask asked

-- what comes of a start
pub started_is : (s : Started) (old new : Held) → old.vote.up ≡ false → IsStarted s old new → (is_up s ≡ new.vote.up) × (new.vote.node ≡ old.vote.node) × Begins old.actor.seen new.actor.seen
started_is started.Up old new down x =
    (sym (ap (λ (v : NodeVote). v.up) x.0.2.vote), ap (λ (v : NodeVote). v.node) x.0.2.vote, x.0.2.did.more)
started_is started.Fault old new down x =
    (sym (ap (λ (v : NodeVote). v.up) x.vote), ap (λ (v : NodeVote). v.node) x.vote, x.did.more)

-- and of a first one
pub first_is : (s : Started) (rows : Snapshot Rows) (old new : Stored) → IsStartedSo s (woken.First rows) old new → (is_up s ≡ true → new.vote.node ≡ old.vote.node) × (is_up s ≡ true → new.vote.up ≡ true)
first_is started.Up rows old new x = (λ e. ap (λ (v : NodeVote). v.node) x.0.vote, λ e. ap (λ (v : NodeVote). v.up) x.0.vote)
first_is started.Fault rows old new x = (λ e. absurd (let q : false ≡ true = e in cc), λ e. absurd (let q : false ≡ true = e in cc))

-- who has such numbers was up
pub seen_by : (G : Setting) (k : ℕ) (old new : NodeVote) (note : List (ℕ × Event)) → new ≡ old → old.node ≡ k → old.up ≡ true → (new.up ≡ true → WasUp G new.node note) → WasUp G k note
seen_by G k old new note same node up was = subst (λ i. WasUp G i note) (ap (λ (v : NodeVote). v.node) same ∙ node) (was (ap (λ (v : NodeVote). v.up) same ∙ up))

-- a log without entries
pub none_there : (xs : List Entry) → (length xs == 0) ≡ true → xs ≡ []
none_there [] e = refl
none_there (x ∷ xs) e = absurd (let q : suc (length xs) ≡ 0 = (Decides-eqb (length (x ∷ xs)) 0).0 e in omega arith)

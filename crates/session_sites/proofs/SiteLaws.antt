-- A session is where it moved last.
use Rattle.std.proofs.Common.{ℕ, ◌≡◌, List, [], ◌∷◌, ◌++◌, refl, ap, ◌∙◌}
use Rattle.std.specs.Prelude.{◌==◌, true, false, cond}
use Rattle.std.proofs.lemmas.Bool.Decides.{Decides-eqb}
use Rattle.actor_trace.specs.History.{entries_of}
use Rattle.actor_trace.specs.Steps.{Adds, Rests}
use Rattle.actor_trace.proofs.Entries.{idle_step, not_eq}
use Rattle.cdb_values.specs.declared.replies.Reply.{Reply}
use Rattle.cdb_values.specs.declared.tables.TableDef.{TableDef}
use Rattle.cluster_events.specs.Parts.{ActorEvent, part}
use Rattle.cluster_events.specs.Settings.{Setting}
use Rattle.cluster_events.specs.Sites.{Site, moved, site}
use Rattle.cluster_steps.specs.Named.{named, named_reply, named_settled, reply_in, steps}
use Rattle.cluster_steps.specs.declared.events.Event.{Event}
use Rattle.cluster_steps.specs.declared.events.Event.TheVariants as event
use Rattle.phys_log.specs.declared.entries.CommitId.{CommitId}
use Rattle.phys_log.specs.declared.requests.Decision.{Decision}
use Rattle.phys_log.specs.declared.requests.Decision.TheVariants as decision
use Rattle.report_laws.specs.Work.{Does, Lone, WorkItem}
use Rattle.session_sites.specs.Sites.{IsNoMove}

settled_there : (p : Site) (tables : List TableDef) (id : CommitId) (d : Decision) → moved p (named_settled tables id d) ≡ p
settled_there p tables id (decision.Repeat position) = refl
settled_there p tables id _ = refl

replied_there : (p : Site) (items : List WorkItem) (answer : Reply) → moved p (named_reply items answer) ≡ p
replied_there p [] answer = refl
replied_there p (Lone r ∷ items) answer = refl
replied_there p (Does t ∷ items) answer = refl

there_by : (G : Setting) (k : List (ℕ × ActorEvent)) (s : ℕ) (p : Site) (e : Event) → IsNoMove e → moved p (named G k s e) ≡ p
there_by G k s p (event.Move node) is = absurd is
there_by G k s p (event.Down true) is = refl
there_by G k s p (event.Down false) is = refl
there_by G k s p (event.Settle id d) is = settled_there p G.tables id.value d.value
there_by G k s p (event.Reply told) is = replied_there p (part G s k).left (reply_in told)
there_by G k s p _ is = refl

idle_there : (G : Setting) (s : ℕ) (between old : List (ℕ × Event)) → entries_of s (between ++ old) ≡ entries_of s old → site G s (steps G (between ++ old)) ≡ site G s (steps G old)
idle_there G s [] old own = refl
idle_there G s (x ∷ between) old own =
    let i = idle_step s x between old own in
    let k = steps G (between ++ old) in
    ap (λ b. cond b (moved (site G s k) (named G k x.0 x.1)) (site G s k)) (not_eq s x.0 i.0) ∙ idle_there G s between old i.1

self_eq : (i : ℕ) → (i == i) ≡ true
self_eq i = (Decides-eqb i i).1 refl

pub rests_there : (G : Setting) (s : ℕ) (old new : List (ℕ × Event)) → Rests s old new → site G s (steps G new) ≡ site G s (steps G old)
rests_there G s old new d = ap (λ t. site G s (steps G t)) d.whole ∙ idle_there G s d.between old d.none

pub stays_there : (G : Setting) (s : ℕ) (e : Event) (old new : List (ℕ × Event)) → IsNoMove e → Adds s e old new → site G s (steps G new) ≡ site G s (steps G old)
stays_there G s e old new is d =
    let k = steps G (d.between ++ old) in
    ap (λ t. site G s (steps G t)) d.whole
    ∙ (ap (λ b. cond b (moved (site G s k) (named G k s e)) (site G s k)) (self_eq s)
    ∙ (there_by G k s (site G s k) e is ∙ idle_there G s d.between old d.none))

pub moves_there : (G : Setting) (s node : ℕ) (old new : List (ℕ × Event)) → Adds s (event.Move node) old new → (site G s (steps G new)).node ≡ node
moves_there G s node old new d =
    let k = steps G (d.between ++ old) in
    ap (λ t. (site G s (steps G t)).node) d.whole ∙ ap (λ b. (cond b (moved (site G s k) (ActorEvent.Move node)) (site G s k)).node) (self_eq s)

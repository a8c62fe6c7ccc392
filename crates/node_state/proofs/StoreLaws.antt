-- What each call of a node's log may leave of its store, the node may come up with: the log before the call, the same with another
-- promise, and the log after it.
use Rattle.std.proofs.Common.{ℕ, ◌≡◌, ◌≤◌, List, [], ◌∷◌, ap, ◌∙◌, subst, arith}
use Rattle.std.specs.Prelude.{Bool, true}
use Rattle.std.specs.declared.snapshot.Snapshot.{Snapshot}
use Rattle.actor_trace.specs.Steps.{Adds, Rests}
use Rattle.cluster_events.specs.Parts.{field}
use Rattle.cluster_events.specs.Settings.{Setting}
use Rattle.cluster_steps.specs.Guards.{IsPlan, AreLegalSteps, MayTakeStep}
use Rattle.cluster_steps.specs.Named.{steps}
use Rattle.cluster_steps.specs.declared.events.Event.{Event}
use Rattle.cluster_steps.specs.declared.events.Event.TheVariants as event
use Rattle.cluster_steps.specs.declared.events.Woken.TheVariants as woken
use Rattle.election_core.specs.declared.votes.NodeVote.{NodeVote}
use Rattle.phys_log.specs.declared.entries.Entry.{Entry}
use Rattle.node_state.specs.Nodes.{IsNode, Follows}
use Rattle.node_state.specs.Restarts.{Kept, MayWake, MayWakeAny, kept}
use Rattle.node_state.proofs.LeftLaws.{fallen_as_left, fallen_leading, fallen_taking, fallen_appending}
use Rattle.node_state.proofs.WakeLaws.{wake_stays}

-- it stopped
pub stop_left : (G : Setting) (v : NodeVote) (log : List Entry) (fault : Bool) (seen now : List (ℕ × Event)) → IsNode G v log seen → v.up ≡ true → Adds v.node (event.Down fault) seen now
    → MayWakeAny G (field (steps G now)) v.node (kept v.promised v.accepted log ∷ [])
stop_left G v log fault seen now is up d =
    let le : v.promised ≤ v.promised = omega arith in
    ((woken.AsLeft, fallen_as_left G v log v.promised fault seen now is up le d), tt)

-- it was to promise a generation, by a stand or a vote
pub promise_left : (G : Setting) (v : NodeVote) (log : List Entry) (g : ℕ) (fault : Bool) (seen now : List (ℕ × Event)) → IsNode G v log seen → v.up ≡ true → v.promised ≤ g → Adds v.node (event.Down fault) seen now
    → MayWakeAny G (field (steps G now)) v.node (kept v.promised v.accepted log ∷ kept g v.accepted log ∷ [])
promise_left G v log g fault seen now is up le d =
    let s = stop_left G v log fault seen now is up d in
    (s.0, ((woken.AsLeft, fallen_as_left G v log g fault seen now is up le d), tt))

-- it was to lead
pub lead_left : (G : Setting) (v : NodeVote) (log : List Entry) (g : ℕ) (fault : Bool) (seen now : List (ℕ × Event)) → IsNode G v log seen → v.up ≡ true → MayTakeStep G seen v.node (event.Lead g) → Adds v.node (event.Down fault) seen now
    → AreLegalSteps G now → MayWakeAny G (field (steps G now)) v.node (kept v.promised v.accepted log ∷ kept v.promised v.promised log ∷ [])
lead_left G v log g fault seen now is up may d legal =
    let s = stop_left G v log fault seen now is up d in
    (s.0, ((woken.Led, fallen_leading G v log g fault seen now is up may d legal), tt))

-- it was to take a log over in a generation that it promises
pub take_left : (G : Setting) (v u : NodeVote) (log taken : List Entry) (g n : ℕ) (fault : Bool) (seen now : List (ℕ × Event)) → IsNode G v log seen → v.up ≡ true → v.promised ≤ g → Follows G v.node (event.Take g n) u taken seen
    → u.promised ≡ g → u.accepted ≡ g → Adds v.node (event.Down fault) seen now → AreLegalSteps G now
    → MayWakeAny G (field (steps G now)) v.node (kept v.promised v.accepted log ∷ kept g v.accepted log ∷ kept g g taken ∷ [])
take_left G v u log taken g n fault seen now is up le f p a d legal =
    let s = promise_left G v log g fault seen now is up le d in
    let same : kept u.promised u.accepted taken ≡ kept g g taken = ap (λ x. kept x u.accepted taken) p ∙ ap (λ x. kept g x taken) a in
    (s.0, (s.1.0, ((woken.Took, subst (λ k. MayWake G (field (steps G now)) v.node woken.Took k) same (fallen_taking G v u log taken g n fault seen now is up f d legal)), tt)))

-- it was to take one entry more in the generation that it accepted
pub grow_left : (G : Setting) (v u : NodeVote) (log longer : List Entry) (g n : ℕ) (fault : Bool) (seen now : List (ℕ × Event)) → IsNode G v log seen → v.up ≡ true → Follows G v.node (event.Take g n) u longer seen
    → u.promised ≡ v.promised → u.accepted ≡ v.accepted → Adds v.node (event.Down fault) seen now → AreLegalSteps G now
    → MayWakeAny G (field (steps G now)) v.node (kept v.promised v.accepted log ∷ kept v.promised v.accepted longer ∷ [])
grow_left G v u log longer g n fault seen now is up f p a d legal =
    let s = stop_left G v log fault seen now is up d in
    let same : kept u.promised u.accepted longer ≡ kept v.promised v.accepted longer = ap (λ x. kept x u.accepted longer) p ∙ ap (λ x. kept v.promised x longer) a in
    (s.0, ((woken.Took, subst (λ k. MayWake G (field (steps G now)) v.node woken.Took k) same (fallen_taking G v u log longer g n fault seen now is up f d legal)), tt))

-- it was to append an entry
pub append_left : (G : Setting) (v u : NodeVote) (log longer : List Entry) (next : Snapshot Entry) (fault : Bool) (seen now : List (ℕ × Event)) → IsNode G v log seen → v.up ≡ true → Follows G v.node (event.Append next) u longer seen
    → u.promised ≡ v.promised → u.accepted ≡ v.accepted → Adds v.node (event.Down fault) seen now → AreLegalSteps G now
    → MayWakeAny G (field (steps G now)) v.node (kept v.promised v.accepted log ∷ kept v.promised v.accepted longer ∷ [])
append_left G v u log longer next fault seen now is up f p a d legal =
    let s = stop_left G v log fault seen now is up d in
    let same : kept u.promised u.accepted longer ≡ kept v.promised v.accepted longer = ap (λ x. kept x u.accepted longer) p ∙ ap (λ x. kept v.promised x longer) a in
    (s.0, ((woken.Appended, subst (λ k. MayWake G (field (steps G now)) v.node woken.Appended k) same (fallen_appending G v u log longer next fault seen now is up f d legal)), tt))

-- whatever others do
pub any_stays : (G : Setting) (i : ℕ) (old new : List (ℕ × Event)) (ks : List Kept) → IsPlan G → Rests i old new → AreLegalSteps G new → MayWakeAny G (field (steps G old)) i ks → MayWakeAny G (field (steps G new)) i ks
any_stays G i old new [] plan d legal m = tt
any_stays G i old new (k ∷ ks) plan d legal m = ((m.0.0, wake_stays G i old new m.0.0 k plan d legal m.0.1), any_stays G i old new ks plan d legal m.1)

-- What a session may do where its node is down, or few nodes are up, at one place.
use Rattle.std.proofs.Common.{ℕ, ◌≡◌, ◌≢◌, List, [], ◌∷◌, refl, sym}
use Rattle.std.proofs.lemmas.List.{append-nil}
use Rattle.std.specs.Prelude.{true, false, Some}
use mathlib.Core.Logic.{inl, inr}
use Rattle.cdb_values.specs.declared.replies.Reply.TheVariants as reply
use Rattle.cluster_events.specs.Guards.{Commits, MayFinish}
use Rattle.cluster_events.specs.Parts.{ActorEvent, lines, part}
use Rattle.cluster_events.specs.Settings.{Setting}
use Rattle.cluster_events.specs.Sites.{next_up, site}
use Rattle.cluster_steps.specs.Guards.{MayTakeStep}
use Rattle.cluster_steps.specs.Named.{steps}
use Rattle.cluster_steps.specs.declared.events.Event.{Event}
use Rattle.cluster_steps.specs.declared.events.Event.TheVariants as event
use Rattle.report_laws.specs.Nodes.{are_few, is_up, up_count}
use Rattle.report_laws.specs.Places.{IsShort}
use Rattle.report_laws.specs.Work.{Does, Transaction, WorkItem}
use Rattle.session_work.specs.Seats.{IsSeat, Rests}
use Rattle.session_work.proofs.SeatLaws.{seat_may}

-- it moves to the next node that is up
pub may_move : (G : Setting) (s : ℕ) (seen : List (ℕ × Event)) (node : ℕ) → IsSeat G s seen → is_up (site G s (steps G seen)).node (lines G (steps G seen)) ≡ false
    → next_up G.nodes G.nodes (lines G (steps G seen)) (site G s (steps G seen)).node ≡ Some node → MayTakeStep G seen s (event.Move node)
may_move G s seen node seat down next =
    seat_may G s seen seat (event.Move node) (ActorEvent.Move node) tt tt refl (record { later = []; between = []; before = steps G seen; split = refl; stays = refl; down = down; next = next })

few_there : (G : Setting) (s : ℕ) (seen : List (ℕ × Event)) (up : ℕ) → up ≡ up_count G.script.nodes (lines G (steps G seen)) → are_few G.script.nodes (lines G (steps G seen)) ≡ true
    → IsShort G.script (lines G (steps G seen)) (G.names s) up G.script.nodes
few_there G s seen up counted few = record { are_all = refl; front = lines G (steps G seen); back = []; stands = sym (append-nil (lines G (steps G seen))); since = refl; are_up = counted; few = few }

-- where few nodes are up no transaction begins
pub lacks_at_begin : (G : Setting) (s : ℕ) (seen : List (ℕ × Event)) (t : Transaction) (others : List WorkItem) (up : ℕ) → Rests (part G s (steps G seen)) (Does t ∷ others)
    → up ≡ up_count G.script.nodes (lines G (steps G seen)) → are_few G.script.nodes (lines G (steps G seen)) ≡ true → MayFinish G (steps G seen) s (reply.NoMajority up G.script.nodes)
lacks_at_begin G s seen t others up rests counted few = (t, record { others = others; is = rests.left }, few_there G s seen up counted few, inl rests.opened)

-- and none with operations comes to its end
pub lacks_at_commit : (G : Setting) (s : ℕ) (seen : List (ℕ × Event)) (up : ℕ) (c : Commits G (steps G seen) s) → c.ran.ops ≢ [] → up ≡ up_count G.script.nodes (lines G (steps G seen))
    → are_few G.script.nodes (lines G (steps G seen)) ≡ true → MayFinish G (steps G seen) s (reply.NoMajority up G.script.nodes)
lacks_at_commit G s seen up c some counted few = (c.txn, record { others = c.at.others; is = c.at.is }, few_there G s seen up counted few, inr (inr (c, some)))

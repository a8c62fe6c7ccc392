-- A node goes down: by a fault, which may come at any time, or by a stop that is told.
use Rattle.std.proofs.Common.{ℕ, ◌≡◌, List, [], ◌∷◌, ◌++◌, map, refl, sym, subst, ap, ◌∙◌}
use Rattle.std.specs.Prelude.{◌==◌, Bool, true, false, cond}
use Rattle.std.proofs.lemmas.Bool.Decides.{Decides-eqb}
use Rattle.actor_trace.specs.Steps.{Adds}
use Rattle.cluster_consensus.specs.Events.{NodeEvent, change}
use Rattle.cluster_consensus.specs.Facts.{Own, World}
use Rattle.cluster_consensus.proofs.Kept.{self_row}
use Rattle.cluster_events.specs.Arms.{HasFallen}
use Rattle.cluster_events.specs.Operator.{Count, count_of, turn_counted, turn}
use Rattle.cluster_events.specs.Parts.{ActorEvent, add_act, acts, field}
use Rattle.cluster_events.specs.Settings.{Setting}
use Rattle.cluster_requests.specs.KeptEntries.{KeptEntry, plain}
use Rattle.cluster_requests.specs.Requests.{field_after}
use Rattle.cluster_steps.specs.Guards.{MayTakeStep, AreLegalSteps}
use Rattle.cluster_steps.specs.Named.{steps, world}
use Rattle.cluster_steps.specs.declared.events.Event.{Event}
use Rattle.cluster_steps.specs.declared.events.Event.TheVariants as event
use Rattle.cluster_steps.proofs.OwnLaws.{tells_adds}
use Rattle.cluster_steps.proofs.StepLaws.{idle}
use Rattle.election_core.specs.Told.{IsPart, IsCounted}
use Rattle.election_core.proofs.Acted.{counted_on}
use Rattle.election_core.specs.declared.votes.NodeVote.{NodeVote}
use Rattle.phys_log.specs.declared.entries.Entry.{Entry}
use Rattle.node_state.specs.Calls.{Did}
use Rattle.node_state.specs.Nodes.{IsNode, IsOwn, Held, Follows}
use Rattle.node_state.specs.Restarts.{Falls, IsStopTold, down_vote}
use Rattle.node_state.proofs.NodeLaws.{fired_adds}

-- whether a node is up, by how often it came up and went down, and by its part
turned : (i : ℕ) (o : Own KeptEntry) (c : Count) (e : NodeEvent KeptEntry) → c.up ≡ o.up → (turn_counted c (turn (ActorEvent.Node e))).up ≡ (change i o e).up
turned i o c (NodeEvent.Boot p a l) q = refl
turned i o c NodeEvent.Down q = refl
turned i o c (NodeEvent.Back p) q = refl
turned i o c NodeEvent.BackLead q = refl
turned i o c (NodeEvent.BackTake g l) q = refl
turned i o c (NodeEvent.BackGrow l) q = refl
turned i o c (NodeEvent.BackAppend e) q = refl
turned i o c _ q = q

either : (b : Bool) (c : Count) (u : Bool) → c.up ≡ u → (cond b c c).up ≡ u
either true c u q = q
either false c u q = q

count_step : (k j : ℕ) (e : ActorEvent) (h : List (ℕ × ActorEvent)) → (count_of k h).up ≡ ((field h).core.nodes k).up
    → (cond (k == j) (turn_counted (count_of k h) (turn e)) (count_of k h)).up ≡ ((field_after (add_act j e (acts h))).core.nodes k).up
count_step k j (ActorEvent.Node e) h q = go (k == j) refl
  where
    go : (b : Bool) → (k == j) ≡ b → (cond b (turn_counted (count_of k h) (turn (ActorEvent.Node e))) (count_of k h)).up ≡ (cond b (change j ((field h).core.nodes j) e) ((field h).core.nodes k)).up
    go true t = turned j ((field h).core.nodes j) (count_of k h) e (subst (λ i. (count_of k h).up ≡ ((field h).core.nodes i).up) ((Decides-eqb k j).0 t) q)
    go false t = q
count_step k j ActorEvent.Stop h q = go (k == j)
  where
    go : (b : Bool) → (cond b (turn_counted (count_of k h) (turn ActorEvent.Stop)) (count_of k h)).up ≡ (cond b (change j ((field h).core.nodes j) NodeEvent.Down) ((field h).core.nodes k)).up
    go true = refl
    go false = q
count_step k j (ActorEvent.Ask t) h q = go (k == j) refl
  where
    go : (b : Bool) → (k == j) ≡ b → (cond b (count_of k h) (count_of k h)).up ≡ (cond b ((field h).core.nodes j) ((field h).core.nodes k)).up
    go true s = subst (λ i. (count_of k h).up ≡ ((field h).core.nodes i).up) ((Decides-eqb k j).0 s) q
    go false s = q
count_step k j _ h q = either (k == j) (count_of k h) ((field h).core.nodes k).up q

pub counts : (k : ℕ) (h : List (ℕ × ActorEvent)) → (count_of k h).up ≡ ((field h).core.nodes k).up
counts k [] = refl
counts k (x ∷ h) = count_step k x.0 x.1 h (counts k h)

-- only that it is up is changed
down_part : (i : ℕ) (v : NodeVote) (o : Own KeptEntry) → IsPart v o → IsPart (down_vote v) (change i o NodeEvent.Down)
down_part i v o p = record { promised = p.promised; accepted = p.accepted; length = p.length; adopted = p.adopted; durable = p.durable; leading = p.leading; up = refl }

down_counted : (w : World KeptEntry) (v : NodeVote) → IsCounted w v → IsCounted w (down_vote v)
down_counted w v c = record { size = c.size; granted = c.granted; acked = c.acked }

-- a fault
pub fault_follows : (G : Setting) (v u : NodeVote) (log : List Entry) (seen : List (ℕ × Event)) → IsNode G v log seen → u ≡ down_vote v → Follows G v.node (event.Down true) u log seen
fault_follows G v u log seen is q = subst (λ t. Follows G v.node (event.Down true) t log seen) (sym q) follows
  where
    follows : Follows G v.node (event.Down true) (down_vote v) log seen
    follows = record {
      low = is.low;
      high = is.high;
      few = is.few;
      may = record {
        plan = is.plan;
        exact = tt;
        allowed = record {
          may = ((tt, tt), tt, (is.low, is.high));
          by_script = record { heeds = tt; goes_on = subst (λ f. HasFallen G (steps G seen) v.node f) (sym is.unarmed) tt };
          pages = (tt, tt);
        };
      };
      silent = λ g. refl;
      core = NodeEvent.Down;
      name = refl;
      part = down_part v.node v ((world G seen).nodes v.node) is.part;
      log_is = is.log_is;
      logged = is.logged;
      counted = down_counted (world G seen) v is.counted;
      same = refl;
      nodes = is.nodes_is;
    }

-- a stop
pub stop_may : (G : Setting) (v : NodeVote) (log : List Entry) (i : ℕ) (seen : List (ℕ × Event)) → IsNode G v log seen → v.node ≡ i → v.up ≡ true → IsStopTold G seen v.node → MayTakeStep G seen i (event.Down false)
stop_may G v log i seen is vi up told = subst (λ k. MayTakeStep G seen k (event.Down false)) vi may
  where
    here : ((world G seen).nodes v.node).up ≡ true
    here = sym is.part.up ∙ up

    may : MayTakeStep G seen v.node (event.Down false)
    may = record {
      plan = is.plan;
      exact = tt;
      allowed = record {
        may = ((tt, tt), here, is.low, is.high);
        by_script = record { heeds = (counts v.node (steps G seen) ∙ here, told); goes_on = subst (λ f. HasFallen G (steps G seen) v.node f) (sym is.unarmed) tt };
        pages = tt;
      };
    }

pub stop_part : (G : Setting) (i : ℕ) (old new : List (ℕ × Event)) → Adds i (event.Down false) old new → (world G new).nodes i ≡ change i ((world G old).nodes i) NodeEvent.Down
stop_part G i old new d =
    let x = world G (d.between ++ old) in
    ap (λ t. (world G t).nodes i) d.whole ∙ (self_row x i NodeEvent.Down ∙ ap (λ (o : Own KeptEntry). change i o NodeEvent.Down) (idle G i d.between old d.none))

after_stop : (G : Setting) (v : NodeVote) (log : List Entry) (i : ℕ) (old new : List (ℕ × Event)) → IsNode G v log old → v.node ≡ i → Adds i (event.Down false) old new → AreLegalSteps G new → IsNode G (down_vote v) log new
after_stop G v log i old new is vi d legal =
    let dv : Adds v.node (event.Down false) old new = subst (λ t. Adds t (event.Down false) old new) (sym vi) d in
    let now : (world G new).nodes v.node ≡ change v.node ((world G old).nodes v.node) NodeEvent.Down = stop_part G v.node old new dv in
    record {
      low = is.low;
      high = is.high;
      nodes_is = is.nodes_is;
      few = is.few;
      plan = is.plan;
      legal = legal;
      unarmed = fired_adds G v.node (event.Down false) old new (λ g. refl) dv;
      part = subst (λ (o : Own KeptEntry). IsPart (down_vote v) o) (sym now) (down_part v.node v ((world G old).nodes v.node) is.part);
      log_is = is.log_is ∙ ap (λ (o : Own KeptEntry). map plain o.log) (sym now);
      logged = is.logged;
      counted = counted_on (world G old) (world G new) (down_vote v) (tells_adds G v.node (event.Down false) old new dv) (down_counted (world G old) v is.counted);
    }

pub own_stop : (G : Setting) (old new : Held) → IsOwn G old → new.vote ≡ down_vote old.vote → new.entries ≡ old.entries → new.actor.number ≡ old.actor.number
    → Adds old.actor.number (event.Down false) old.actor.seen new.actor.seen → AreLegalSteps G new.actor.seen → IsOwn G new
own_stop G old new own v l n d legal =
    let is = after_stop G old.vote old.entries old.actor.number old.actor.seen new.actor.seen own.node own.number_is d legal in
    record {
      node = subst (λ t. IsNode G t new.entries new.actor.seen) (sym v) (subst (λ t. IsNode G (down_vote old.vote) t new.actor.seen) (sym l) is);
      number_is = ap (λ (t : NodeVote). t.node) v ∙ (own.number_is ∙ sym n);
    }

pub falls : (fault : Bool) (old new : Held) → Did (event.Down fault ∷ []) old new → new.vote ≡ down_vote old.vote → new.entries ≡ old.entries → Falls fault old new
falls fault old new d v l = record { did = d; vote = v; entries = l }

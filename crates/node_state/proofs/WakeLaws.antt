-- A node comes up with what its store holds, where it may; and it may, whatever others do.
use Rattle.std.proofs.Common.{ℕ, ◌≡◌, List, [], ◌∷◌, ◌++◌, length, refl, sym, subst, ap, ◌∙◌}
use Rattle.std.specs.Prelude.{◌==◌, Bool, true, false, cond, Option, Some, None, slice_get}
use Rattle.std.specs.declared.snapshot.Snapshot.{Snapshot}
use Rattle.actor_trace.specs.Steps.{Rests}
use Rattle.cluster_consensus.specs.Events.{NodeEvent, change}
use Rattle.cluster_consensus.specs.Facts.{Own, World}
use Rattle.cluster_events.specs.Arms.{HasFallen}
use Rattle.cluster_events.specs.ByScript.{Heeds}
use Rattle.cluster_events.specs.Guards.{IsLegalHistory, MayDo}
use Rattle.cluster_events.specs.Operator.{count_of}
use Rattle.cluster_events.specs.Parts.{ActorEvent, field}
use Rattle.cluster_events.specs.Settings.{Setting, lines_to_do}
use Rattle.cluster_events.proofs.Stays.{stays_long}
use Rattle.cluster_masters.specs.WholeLogs.{Leaves}
use Rattle.cluster_requests.specs.KeptEntries.{KeptEntry, plain}
use Rattle.cluster_steps.specs.Guards.{HasSchema, ComesUpWith, IsPlan, IsTakenLogFound, PagesStand, AreLegalSteps}
use Rattle.cluster_steps.specs.Named.{back_append, log_named, named_up, steps, world}
use Rattle.cluster_steps.specs.declared.events.Event.{Event}
use Rattle.cluster_steps.specs.declared.events.Event.TheVariants as event
use Rattle.cluster_steps.specs.declared.events.Woken.{Woken}
use Rattle.cluster_steps.specs.declared.events.Woken.TheVariants as woken
use Rattle.cluster_steps.proofs.StepLaws.{legal_steps, inv_of, more_steps, steps_append, idle_more, idle, ticket_of}
use Rattle.cluster_steps.proofs.TellsLaws.{tells}
use Rattle.cluster_steps.proofs.NameLaws.{up_same}
use Rattle.election_core.specs.Told.{IsCounted}
use Rattle.election_core.specs.declared.votes.NodeVote.{NodeVote}
use Rattle.election_core.proofs.Acted.{no_bit}
use Rattle.phys_log.specs.declared.entries.Entry.{Entry}
use Rattle.node_state.specs.Calls.{Did}
use Rattle.node_state.specs.Nodes.{IsNode, Held, Follows}
use Rattle.node_state.specs.Restarts.{Kept, IsStartTold, MayRise, MayWake, Wakes, kept, woken_by, woken_vote}
use Rattle.node_state.proofs.FallLaws.{counts}
use Rattle.node_state.proofs.LogLists.{map_size}

-- the events by which a node comes up
abbrev Rises : NodeEvent KeptEntry → Type 0
Rises (NodeEvent.Boot p a l) = Unit {0}
Rises (NodeEvent.Back p) = Unit {0}
Rises NodeEvent.BackLead = Unit {0}
Rises (NodeEvent.BackTake g l) = Unit {0}
Rises (NodeEvent.BackGrow l) = Unit {0}
Rises (NodeEvent.BackAppend e) = Unit {0}
Rises _ = ⊥

named_rises : (n : ℕ) (w : World KeptEntry) (o : Own KeptEntry) (how : Woken) (p a : ℕ) (es : List Entry) → Rises (named_up n w o how p a es)
named_rises n w o (woken.First rows) p a es = tt
named_rises n w o woken.AsLeft p a es = tt
named_rises n w o woken.Led p a es = tt
named_rises n w o woken.Took p a es = go (a == o.accepted)
  where
    go : (b : Bool) → Rises (cond b (NodeEvent.BackGrow (log_named n w a (length es))) (NodeEvent.BackTake a (log_named n w a (length es))))
    go true = tt
    go false = tt
named_rises n w o woken.Appended p a es = go (slice_get es (length o.log))
  where
    go : (x : Option Entry) → Rises (back_append p o.log x)
    go None = tt
    go (Some e) = tt

-- what they all make of a part
record Woke (i : ℕ) (o : Own KeptEntry) (c : NodeEvent KeptEntry) : Type 0 where
  adopted : (change i o c).adopted ≡ o.adopted
  durable : (change i o c).durable ≡ 0
  leading : (change i o c).leading ≡ false
  up : (change i o c).up ≡ true

woke : (i : ℕ) (o : Own KeptEntry) (c : NodeEvent KeptEntry) → Rises c → Woke i o c
woke i o (NodeEvent.Boot p a l) r = record { adopted = refl; durable = refl; leading = refl; up = refl }
woke i o (NodeEvent.Back p) r = record { adopted = refl; durable = refl; leading = refl; up = refl }
woke i o NodeEvent.BackLead r = record { adopted = refl; durable = refl; leading = refl; up = refl }
woke i o (NodeEvent.BackTake g l) r = record { adopted = refl; durable = refl; leading = refl; up = refl }
woke i o (NodeEvent.BackGrow l) r = record { adopted = refl; durable = refl; leading = refl; up = refl }
woke i o (NodeEvent.BackAppend e) r = record { adopted = refl; durable = refl; leading = refl; up = refl }
woke i o _ r = absurd r

-- the script has it come up
heeds_up : (G : Setting) (seen : List (ℕ × Event)) (i : ℕ) (w : World KeptEntry) (o : Own KeptEntry) (how : Woken) (p a : ℕ) (es : List Entry) → (count_of i (steps G seen)).up ≡ false → IsStartTold G seen i how
    → Heeds G (lines_to_do G) (steps G seen) i (ActorEvent.Node (named_up G.nodes w o how p a es))
heeds_up G seen i w o (woken.First rows) p a es down told = (down, told)
heeds_up G seen i w o woken.AsLeft p a es down told = (down, told)
heeds_up G seen i w o woken.Led p a es down told = (down, told)
heeds_up G seen i w o woken.Took p a es down told = go (a == o.accepted)
  where
    go : (b : Bool) → Heeds G (lines_to_do G) (steps G seen) i (ActorEvent.Node (cond b (NodeEvent.BackGrow (log_named G.nodes w a (length es))) (NodeEvent.BackTake a (log_named G.nodes w a (length es)))))
    go true = (down, told)
    go false = (down, told)
heeds_up G seen i w o woken.Appended p a es down told = go (slice_get es (length o.log))
  where
    go : (x : Option Entry) → Heeds G (lines_to_do G) (steps G seen) i (ActorEvent.Node (back_append p o.log x))
    go None = (down, told)
    go (Some e) = (down, told)

woken_counted : (w : World KeptEntry) (v : NodeVote) (p a l : ℕ) → IsCounted w (woken_vote v p a l)
woken_counted w v p a l = record { size = refl; granted = λ k e. absurd (no_bit k e); acked = λ (lead : false ≡ true) m k one e. absurd (cc) }

pub wake_follows : (G : Setting) (v u : NodeVote) (log log' : List Entry) (seen : List (ℕ × Event)) (how : Woken) (p a : ℕ) (es : Snapshot (List Entry)) → IsNode G v log seen → v.up ≡ false
    → MayWake G (field (steps G seen)) v.node how (kept p a es.value) → IsStartTold G seen v.node how → u ≡ woken_vote v p a (length es.value) → log' ≡ es.value
    → Follows G v.node (event.Up how p a es) u log' seen
wake_follows G v u log log' seen how p a es is down k told q e = subst (λ t. Follows G v.node (event.Up how p a es) t log' seen) (sym q) (subst (λ t. Follows G v.node (event.Up how p a es) (woken_vote v p a (length es.value)) t seen) (sym e) follows)
  where
    o : Own KeptEntry
    o = (world G seen).nodes v.node

    c : NodeEvent KeptEntry
    c = named_up G.nodes (world G seen) o how p a es.value

    w : Woke v.node o c
    w = woke v.node o c (named_rises G.nodes (world G seen) o how p a es.value)

    follows : Follows G v.node (event.Up how p a es) (woken_vote v p a (length es.value)) es.value seen
    follows = record {
      low = is.low;
      high = is.high;
      few = is.few;
      may = record {
        plan = is.plan;
        exact = (k.told, k.rises.found);
        allowed = record {
          may = (k.rises.may, k.rises.right, k.rises.by);
          by_script = record {
            heeds = heeds_up G seen v.node (world G seen) o how p a es.value (counts v.node (steps G seen) ∙ (sym is.part.up ∙ down)) told;
            goes_on = subst (λ f. HasFallen G (steps G seen) v.node f) (sym is.unarmed) tt;
          };
          pages = k.rises.pages;
        };
      };
      silent = λ g. refl;
      core = c;
      name = refl;
      part = record {
        promised = sym k.rises.found.promise;
        accepted = sym k.rises.found.acceptance;
        length = ap length (sym k.rises.found.log) ∙ map_size plain (change v.node o c).log;
        adopted = is.part.adopted ∙ sym w.adopted;
        durable = sym w.durable;
        leading = sym w.leading;
        up = sym w.up;
      };
      log_is = sym k.rises.found.log;
      logged = k.logged;
      counted = woken_counted (world G seen) v p a (length es.value);
      same = refl;
      nodes = is.nodes_is;
    }

no_ask : (c : NodeEvent KeptEntry) (t : ℕ) → ActorEvent.Node c ≡ ActorEvent.Ask t → ⊥
no_ask c t z = let f : None ≡ Some t = ap ticket_of z in absurd (cc)

rise_stays : (G : Setting) (i : ℕ) (g m k : List (ℕ × ActorEvent)) (c : NodeEvent KeptEntry) (x : Kept) → IsPlan G → k ≡ m ++ g → IsLegalHistory G k → ((t : List (ℕ × ActorEvent)) → t ≡ m ++ g → IsLegalHistory G t → MayDo G g i (ActorEvent.Node c) → MayDo G t i (ActorEvent.Node c))
    → (field k).core.nodes i ≡ (field g).core.nodes i → MayRise G (field g) i c x → MayRise G (field k) i c x
rise_stays G i g m k c x plan q whole on node r =
    let s : MayDo G k i (ActorEvent.Node c) = on k q whole (r.may, r.right, r.by) in
    record {
      found = subst (λ (o : Own KeptEntry). ComesUpWith (change i o c) x.promised x.accepted x.entries) (sym node) r.found;
      may = s.0;
      right = s.1;
      by = s.2;
      pages = subst (λ (o : Own KeptEntry). Leaves PagesStand o c × HasSchema G.tables c) (sym node) r.pages;
    }

pub wake_stays : (G : Setting) (i : ℕ) (old new : List (ℕ × Event)) (how : Woken) (x : Kept) → IsPlan G → Rests i old new → AreLegalSteps G new → MayWake G (field (steps G old)) i how x → MayWake G (field (steps G new)) i how x
wake_stays G i old new how x plan d legal may = subst (λ t. MayWake G (field (steps G t)) i how x) (sym d.whole) stays
  where
    later : List (ℕ × Event)
    later = d.between

    law : AreLegalSteps G (later ++ old)
    law = subst (λ t. AreLegalSteps G t) d.whole legal

    g : List (ℕ × ActorEvent)
    g = steps G old

    k : List (ℕ × ActorEvent)
    k = steps G (later ++ old)

    m : List (ℕ × ActorEvent)
    m = more_steps G later old

    q : k ≡ m ++ g
    q = steps_append G later old

    node : (field k).core.nodes i ≡ (field g).core.nodes i
    node = idle G i later old d.none

    same : (named_up G.nodes (field k).core ((field g).core.nodes i) how x.promised x.accepted x.entries ≡ woken_by G (field g) i how x) × IsTakenLogFound G.nodes (field k).core how x.accepted x.entries
    same = up_same G.nodes (field g).core (field k).core ((field g).core.nodes i) how x.promised x.accepted x.entries (inv_of G (later ++ old) law) (tells G later old) may.told

    name : woken_by G (field k) i how x ≡ woken_by G (field g) i how x
    name = ap (λ (o : Own KeptEntry). named_up G.nodes (field k).core o how x.promised x.accepted x.entries) node ∙ same.0

    on : (c : NodeEvent KeptEntry) (t : List (ℕ × ActorEvent)) → t ≡ m ++ g → IsLegalHistory G t → MayDo G g i (ActorEvent.Node c) → MayDo G t i (ActorEvent.Node c)
    on c t e whole s = subst (λ z. MayDo G z i (ActorEvent.Node c)) (sym e) (stays_long G g m i (ActorEvent.Node c) plan.apart plan.steady (subst (λ z. IsLegalHistory G z) e whole) (idle_more G i later old d.none) (no_ask c) s)

    stays : MayWake G (field k) i how x
    stays = record {
      told = same.1;
      rises = subst (λ c. MayRise G (field k) i c x) (sym name) (rise_stays G i g m k (woken_by G (field g) i how x) x plan q (legal_steps G (later ++ old) law) (on (woken_by G (field g) i how x)) node may.rises);
      logged = may.logged;
    }

-- after the call
pub wakes : (how : Woken) (p a : ℕ) (es : Snapshot (List Entry)) (xs : List Entry) (old new : Held) → es.value ≡ xs → Did (event.Up how p a es ∷ []) old new → new.vote ≡ woken_vote old.vote p a (length xs) → new.entries ≡ xs
    → Wakes how (kept p a xs) old new
wakes how p a es xs old new e d v l = record { event = event.Up how p a es; up = (refl, refl, refl, e); did = d; vote = v; entries = l }

-- A leader appends an entry that may be appended.
use Rattle.std.proofs.Common.{ℕ, ◌≡◌, ◌+◌, List, [], ◌∷◌, ◌++◌, length, length-append, map, arith, refl, sym, subst, ap, ◌∙◌}
use Rattle.std.specs.Prelude.{true}
use Rattle.std.specs.declared.snapshot.Snapshot.{Snapshot}
use Rattle.actor_trace.specs.Steps.{Adds}
use Rattle.cluster_consensus.specs.Events.{NodeEvent, change}
use Rattle.cluster_consensus.specs.Facts.{Own, Claim}
use Rattle.cluster_events.specs.Arms.{HasFallen}
use Rattle.cluster_events.specs.Parts.{ActorEvent}
use Rattle.cluster_events.specs.Settings.{Setting}
use Rattle.cluster_requests.specs.KeptEntries.{KeptEntry, plain}
use Rattle.cluster_steps.specs.Guards.{IsAllowed, AreLegalSteps}
use Rattle.cluster_steps.specs.Named.{kept_over, named, steps, world}
use Rattle.cluster_steps.specs.declared.events.Event.{Event}
use Rattle.cluster_steps.specs.declared.events.Event.TheVariants.{Append}
use Rattle.cluster_steps.proofs.OwnLaws.{own_adds}
use Rattle.cluster_steps.proofs.StepLaws.{inv_of}
use Rattle.core_lists.specs.Lists.{Has}
use Rattle.core_lists.specs.Lists.In.{here}
use Rattle.election_core.specs.Told.{IsPart}
use Rattle.election_core.specs.declared.messages.Message.TheVariants.{Ship, Ack}
use Rattle.election_core.specs.declared.votes.NodeVote.{NodeVote}
use Rattle.phys_log.specs.Logs.{Fits, IsLog}
use Rattle.phys_log.proofs.LogLaws.{log_more}
use Rattle.phys_log.specs.declared.entries.Entry.{Entry}
use Rattle.phys_log.specs.declared.entries.Entry.TheVariants as entry
use Rattle.node_state.specs.Calls.{Did, IsAsBefore}
use Rattle.node_state.specs.Commits.{Enters, MayEnter, appends}
use Rattle.node_state.specs.Nodes.{IsNode, Held, Follows}
use Rattle.node_state.specs.Packets.{SentPacket, IsPacket, IsTailOf, AreSent, packet, others, appending_packets}
use Rattle.node_state.proofs.CallLaws.{did_behind}
use Rattle.node_state.proofs.LogLists.{map_size}
use Rattle.node_state.proofs.SentLaws.{sent_more, others_sent, one_sent}

-- the event's name, and what it makes of the log
name_of : (G : Setting) (seen : List (ℕ × Event)) (i : ℕ) (next : Snapshot Entry) (x : Entry) → next.value ≡ x → named G (steps G seen) i (Append next) ≡ appends G seen i x
name_of G seen i next x e = ap (λ y. ActorEvent.Node (NodeEvent.Append (kept_over ((world G seen).nodes i).log y))) e

plain_kept : (l : List KeptEntry) (x : Entry) → plain (kept_over l x) ≡ x
plain_kept l (entry.Setup generation schema records) = refl
plain_kept l (entry.Commit generation id begin level changes records) = refl

map_more : (l : List KeptEntry) (k : KeptEntry) → map plain (l ++ k ∷ []) ≡ map plain l ++ plain k ∷ []
map_more [] k = refl
map_more (x ∷ l) k = ap (λ t. plain x ∷ t) (map_more l k)

whole_log : (l : List KeptEntry) (log : List Entry) (x : Entry) → log ≡ map plain l → map plain (l ++ kept_over l x ∷ []) ≡ log ++ x ∷ []
whole_log l log x e = map_more l (kept_over l x) ∙ (ap (λ t. map plain l ++ t ∷ []) (plain_kept l x) ∙ ap (λ t. t ++ x ∷ []) (sym e))

size_of : (l : List KeptEntry) (log : List Entry) (x : Entry) → log ≡ map plain l → length log + 1 ≡ length (l ++ kept_over l x ∷ [])
size_of l log x e =
    let a : length log ≡ length l = ap length e ∙ map_size plain l in
    let b : length (l ++ kept_over l x ∷ []) ≡ length l + 1 = length-append l (kept_over l x ∷ []) in
    omega arith

pub append_follows : (G : Setting) (v u : NodeVote) (log log' : List Entry) (seen : List (ℕ × Event)) (next : Snapshot Entry) (x : Entry) → IsNode G v log seen → MayEnter G seen v.node x → Fits log x → next.value ≡ x
    → log' ≡ log ++ x ∷ [] → u ≡ record v { length = length log + 1 } → Follows G v.node (Append next) u log' seen
append_follows G v u log log' seen next x is may fits value new q = subst (λ t. Follows G v.node (Append next) t log' seen) (sym q) follows
  where
    o : Own KeptEntry
    o = (world G seen).nodes v.node

    p : IsPart v o
    p = is.part

    leads : o.leading ≡ true
    leads = may.may.0.0.1

    name : named G (steps G seen) v.node (Append next) ≡ appends G seen v.node x
    name = name_of G seen v.node next x value

    ok : IsAllowed G (steps G seen) v.node (appends G seen v.node x)
    ok = record { may = may.may; by_script = record { heeds = tt; goes_on = subst (λ f. HasFallen G (steps G seen) v.node f) (sym is.unarmed) tt }; pages = may.pages }

    follows : Follows G v.node (Append next) (record v { length = length log + 1 }) log' seen
    follows =
        let h = ((inv_of G seen is.legal).local v.node).heads leads in
        record {
          low = is.low;
          high = is.high;
          few = is.few;
          may = record { plan = is.plan; exact = tt; allowed = subst (λ s. IsAllowed G (steps G seen) v.node s) (sym name) ok };
          silent = λ g. refl;
          core = NodeEvent.Append (kept_over o.log x);
          name = name;
          part = record { promised = p.promised ∙ sym h.0; accepted = p.accepted; length = size_of o.log log x is.log_is; adopted = p.adopted; durable = p.durable; leading = p.leading; up = p.up };
          log_is = new ∙ sym (whole_log o.log log x is.log_is);
          logged = subst IsLog (sym new) (log_more log x is.logged fits);
          counted = record { size = is.counted.size; granted = is.counted.granted; acked = is.counted.acked };
          same = refl;
          nodes = is.nodes_is;
        }

pub append_sent : (G : Setting) (v u : NodeVote) (log : List Entry) (seen now : List (ℕ × Event)) (next : Snapshot Entry) (x : Entry) → IsNode G v log seen → Fits log x → next.value ≡ x
    → u ≡ record v { length = length log + 1 } → Adds v.node (Append next) seen now → AreLegalSteps G now → AreSent G now (appending_packets u (x ∷ []))
append_sent G v u log seen now next x is fits value q d legal =
    subst (λ w. AreSent G now (appending_packets w (x ∷ []))) (sym q)
    (subst (λ n. AreSent G now (others n v.node (Ship v.node v.accepted (length log + 1)) (x ∷ []) ++ packet v.node (Ack v.node v.accepted (length log + 1)) [] ∷ [])) (sym is.nodes_is) sends)
  where
    o : Own KeptEntry
    o = (world G seen).nodes v.node

    p : IsPart v o
    p = is.part

    k : KeptEntry
    k = kept_over o.log x

    own : (world G now).nodes v.node ≡ change v.node o (NodeEvent.Append k)
    own = own_adds G v.node (Append next) (NodeEvent.Append k) seen now (name_of G seen v.node next x value) tt d legal

    c : Claim KeptEntry
    c = record { gen = o.accepted; log = o.log ++ k ∷ [] }

    whole : map plain (o.log ++ k ∷ []) ≡ log ++ x ∷ []
    whole = whole_log o.log log x is.log_is

    size : length (o.log ++ k ∷ []) ≡ length log + 1
    size = sym (size_of o.log log x is.log_is)

    tail : IsTailOf v.accepted (length log + 1) (x ∷ []) c
    tail = record { gen = sym p.accepted; size = size; ends = (log, whole); logged = subst IsLog (sym whole) (log_more log x is.logged fits) }

    ship : IsPacket G (Ship v.node v.accepted (length log + 1)) (x ∷ []) now
    ship = record {
      low = is.low;
      high = is.high;
      told = subst (λ (y : Own KeptEntry). Has (λ s. (s.gen ≡ v.accepted) × (length s.log ≡ length log + 1)) y.ships) (sym own) (record { it = c; mem = here; is = (sym p.accepted, size) });
      tail = subst (λ (y : Own KeptEntry). Has (IsTailOf v.accepted (length log + 1) (x ∷ [])) y.ships) (sym own) (record { it = c; mem = here; is = tail });
    }

    ack : IsPacket G (Ack v.node v.accepted (length log + 1)) [] now
    ack = record {
      low = is.low;
      high = is.high;
      told = subst (λ (y : Own KeptEntry). Has (λ s. (s.gen ≡ v.accepted) × (length s.log ≡ length log + 1)) y.acks) (sym own) (record { it = c; mem = here; is = (sym p.accepted, size) });
      tail = refl;
    }

    sends : AreSent G now (others G.nodes v.node (Ship v.node v.accepted (length log + 1)) (x ∷ []) ++ packet v.node (Ack v.node v.accepted (length log + 1)) [] ∷ [])
    sends = sent_more G now (others G.nodes v.node (Ship v.node v.accepted (length log + 1)) (x ∷ [])) (packet v.node (Ack v.node v.accepted (length log + 1)) [] ∷ [])
        (others_sent G G.nodes v.node (Ship v.node v.accepted (length log + 1)) (x ∷ []) now ship (omega arith)) (one_sent G now v.node (Ack v.node v.accepted (length log + 1)) is.low is.high ack)

pub entered : (old mid new : Held) (u : NodeVote) (next : Snapshot Entry) (x : Entry) (es : List Entry) (before ds ps : List SentPacket) → next.value ≡ x → Did (Append next ∷ []) old mid → mid.vote ≡ u
    → u ≡ record old.vote { length = length old.entries + 1 } → mid.entries ≡ old.entries ++ x ∷ [] → IsAsBefore mid new → before ≡ [] → es ≡ x ∷ [] → ds ≡ appending_packets u es → ps ≡ before ++ ds → Enters x ps old new
entered old mid new u next x es before ds ps value d v q l b none own made all = record {
  event = Append next;
  appends = value;
  did = did_behind (Append next ∷ []) old mid new d b;
  entries = b.entries ∙ l;
  vote = b.vote ∙ (v ∙ (q ∙ ap (λ (n : ℕ). record old.vote { length = n }) size));
  sends = all ∙ (ap (λ y. y ++ ds) none ∙ (made_of ∙ ap (λ y. appending_packets y (x ∷ [])) (sym (b.vote ∙ v))));
}
  where
    size : length old.entries + 1 ≡ length new.entries
    size = sym (ap length (b.entries ∙ l) ∙ length-append old.entries (x ∷ []))

    made_of : ds ≡ appending_packets u (x ∷ [])
    made_of = made ∙ ap (λ y. appending_packets u y) own

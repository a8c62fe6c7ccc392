-- A leader with an empty log appends the setup of the script's tables.
use Rattle.std.proofs.Common.{ℕ, ◌≡◌, ◌+◌, ◌≤◌, List, [], ◌∷◌, ◌++◌, length, map, arith, refl, sym, subst, ap, ◌∙◌}
use Rattle.std.proofs.lemmas.Option.{none-some}
use Rattle.std.specs.Prelude.{None, true}
use Rattle.std.specs.declared.snapshot.Snapshot.{Snapshot}
use mathlib.Core.Logic.{inr}
use Rattle.actor_trace.specs.Steps.{Adds}
use Rattle.cdb_values.specs.Rows.{no_rows}
use Rattle.cdb_values.specs.declared.tables.TableDef.{TableDef}
use Rattle.cluster_consensus.specs.Events.{NodeEvent, change}
use Rattle.cluster_consensus.specs.Facts.{Own}
use Rattle.cluster_events.specs.Arms.{last_fired, HasFallen}
use Rattle.cluster_events.specs.Parts.{ActorEvent}
use Rattle.cluster_events.specs.Settings.{Setting}
use Rattle.cluster_requests.specs.KeptEntries.{KeptEntry, plain}
use Rattle.cluster_requests.specs.KeptEntries.KeptEntry.{SetupKept}
use Rattle.cluster_steps.specs.Guards.{IsAllowed, PagesStand, AreLegalSteps}
use Rattle.cluster_steps.specs.Named.{kept_over, named, steps, world}
use Rattle.cluster_steps.specs.declared.events.Event.{Event}
use Rattle.cluster_steps.specs.declared.events.Event.TheVariants.{Append}
use Rattle.cluster_steps.proofs.OwnLaws.{own_adds}
use Rattle.cluster_steps.proofs.StepLaws.{inv_of}
use Rattle.core_lists.specs.Lists.{Has}
use Rattle.core_lists.specs.Lists.In.{here}
use Rattle.election_core.specs.Told.{IsPart}
use Rattle.election_core.specs.declared.messages.Message.TheVariants.{Ship, Ack}
use Rattle.election_core.specs.declared.votes.NodeVote.{NodeVote}
use Rattle.log_rows.specs.Setups.{IsSetup}
use Rattle.phys_log.specs.Logs.{Fits, IsLog, pages_of}
use Rattle.phys_log.proofs.LogLaws.{log_more}
use Rattle.phys_log.specs.declared.entries.Entry.{Entry}
use Rattle.phys_log.specs.declared.entries.Entry.TheVariants as entry
use Rattle.phys_log.specs.declared.entries.LogRecord.{LogRecord}
use Rattle.table_store.specs.Stored.{Stands}
use Rattle.node_state.specs.Calls.{Did, IsAsBefore, SetsUp}
use Rattle.node_state.specs.Nodes.{IsNode, Held, Follows}
use Rattle.node_state.specs.Packets.{SentPacket, IsPacket, IsTailOf, AreSent, packet, others, appending_packets}
use Rattle.node_state.proofs.CallLaws.{did_behind}
use Rattle.node_state.proofs.SentLaws.{sent_more, others_sent, one_sent}

no_log : (l : List KeptEntry) → [] ≡ map plain l → l ≡ []
no_log [] e = refl
no_log (x ∷ l) e = absurd (let f : 0 ≡ length (plain x ∷ map plain l) = ap length e in omega arith)

-- it may happen
allowed : (G : Setting) (seen : List (ℕ × Event)) (i g : ℕ) (records : List LogRecord) → 1 ≤ i → i ≤ G.nodes → last_fired i (steps G seen) ≡ None
    → ((world G seen).nodes i).up ≡ true → ((world G seen).nodes i).leading ≡ true → g ≡ ((world G seen).nodes i).accepted → ((world G seen).nodes i).log ≡ []
    → Stands (pages_of (entry.Setup g G.tables records ∷ [])) G.tables (no_rows G.tables)
    → IsAllowed G (steps G seen) i (ActorEvent.Node (NodeEvent.Append (SetupKept g G.tables records (no_rows G.tables))))
allowed G seen i g records low high none up leading gen empty stands = record {
  may = (
    ((up, leading), record { made = gen; asked = empty; unsettled = record { at = λ t h e. none-some t e }; new = λ id e. absurd (none-some id e) }),
    (empty, refl),
    (low, high),
  );
  by_script = record { heeds = tt; goes_on = subst (λ f. HasFallen G (steps G seen) i f) (sym none) tt };
  pages = (subst (λ l. PagesStand (l ++ SetupKept g G.tables records (no_rows G.tables) ∷ [])) (sym empty) (inr (record { schema = refl; stand = stands })), refl);
}

-- the event's name, and what it makes of the log
name_of : (G : Setting) (seen : List (ℕ × Event)) (i g : ℕ) (records : List LogRecord) (next : Snapshot Entry) → next.value ≡ entry.Setup g G.tables records
    → named G (steps G seen) i (Append next) ≡ ActorEvent.Node (NodeEvent.Append (SetupKept g G.tables records (no_rows G.tables)))
name_of G seen i g records next e = ap (λ y. ActorEvent.Node (NodeEvent.Append (kept_over ((world G seen).nodes i).log y))) e

whole_log : (l : List KeptEntry) (k : KeptEntry) (x : Entry) → l ≡ [] → x ≡ plain k → map plain (l ++ k ∷ []) ≡ x ∷ []
whole_log l k x none e = ap (λ t. map plain (t ++ k ∷ [])) none ∙ ap (λ y. y ∷ []) (sym e)

pub setup_follows : (G : Setting) (v u : NodeVote) (log log' : List Entry) (seen : List (ℕ × Event)) (next : Snapshot Entry) (x : Entry) → IsNode G v log seen → v.up ≡ true → v.leading ≡ true → log ≡ [] → IsSetup v.accepted G.tables x
    → Stands (pages_of (x ∷ [])) G.tables (no_rows G.tables) → Fits [] x → next.value ≡ x → log' ≡ x ∷ [] → u ≡ record v { length = 1 } → Follows G v.node (Append next) u log' seen
setup_follows G v u log log' seen next x is up leading none made stands fits value new q = subst (λ t. Follows G v.node (Append next) t log' seen) (sym q) follows
  where
    p : IsPart v ((world G seen).nodes v.node)
    p = is.part

    empty : ((world G seen).nodes v.node).log ≡ []
    empty = no_log ((world G seen).nodes v.node).log (sym none ∙ is.log_is)

    k : KeptEntry
    k = SetupKept v.accepted G.tables made.0 (no_rows G.tables)

    name : named G (steps G seen) v.node (Append next) ≡ ActorEvent.Node (NodeEvent.Append k)
    name = name_of G seen v.node v.accepted made.0 next (value ∙ made.1)

    right : Stands (pages_of (entry.Setup v.accepted G.tables made.0 ∷ [])) G.tables (no_rows G.tables)
    right = subst (λ y. Stands (pages_of (y ∷ [])) G.tables (no_rows G.tables)) made.1 stands

    ok : IsAllowed G (steps G seen) v.node (ActorEvent.Node (NodeEvent.Append k))
    ok = allowed G seen v.node v.accepted made.0 is.low is.high is.unarmed (sym p.up ∙ up) (sym p.leading ∙ leading) p.accepted empty right

    follows : Follows G v.node (Append next) (record v { length = 1 }) log' seen
    follows =
        let h = ((inv_of G seen is.legal).local v.node).heads (sym p.leading ∙ leading) in
        record {
          low = is.low;
          high = is.high;
          few = is.few;
          may = record { plan = is.plan; exact = tt; allowed = subst (λ s. IsAllowed G (steps G seen) v.node s) (sym name) ok };
          silent = λ h. refl;
          core = NodeEvent.Append k;
          name = name;
          part = record { promised = p.promised ∙ sym h.0; accepted = p.accepted; length = ap (λ l. length (l ++ k ∷ [])) (sym empty); adopted = p.adopted; durable = p.durable; leading = p.leading; up = p.up };
          log_is = new ∙ sym (whole_log ((world G seen).nodes v.node).log k x empty made.1);
          logged = subst IsLog (sym new) (log_more [] x tt fits);
          counted = record { size = is.counted.size; granted = is.counted.granted; acked = is.counted.acked };
          same = refl;
          nodes = is.nodes_is;
        }

pub setup_sent : (G : Setting) (v u : NodeVote) (log : List Entry) (seen now : List (ℕ × Event)) (next : Snapshot Entry) (x : Entry) → IsNode G v log seen → log ≡ [] → IsSetup v.accepted G.tables x → Fits [] x → next.value ≡ x
    → u ≡ record v { length = 1 } → Adds v.node (Append next) seen now → AreLegalSteps G now → AreSent G now (appending_packets u (x ∷ []))
setup_sent G v u log seen now next x is none made fits value q d legal =
    subst (λ w. AreSent G now (appending_packets w (x ∷ []))) (sym q)
    (subst (λ n. AreSent G now (others n v.node (Ship v.node v.accepted 1) (x ∷ []) ++ packet v.node (Ack v.node v.accepted 1) [] ∷ [])) (sym is.nodes_is) sends)
  where
    p : IsPart v ((world G seen).nodes v.node)
    p = is.part

    empty : ((world G seen).nodes v.node).log ≡ []
    empty = no_log ((world G seen).nodes v.node).log (sym none ∙ is.log_is)

    k : KeptEntry
    k = SetupKept v.accepted G.tables made.0 (no_rows G.tables)

    own : (world G now).nodes v.node ≡ change v.node ((world G seen).nodes v.node) (NodeEvent.Append k)
    own = own_adds G v.node (Append next) (NodeEvent.Append k) seen now (name_of G seen v.node v.accepted made.0 next (value ∙ made.1)) tt d legal

    size : length (((world G seen).nodes v.node).log ++ k ∷ []) ≡ 1
    size = ap (λ l. length (l ++ k ∷ [])) empty

    whole : map plain (((world G seen).nodes v.node).log ++ k ∷ []) ≡ x ∷ []
    whole = whole_log ((world G seen).nodes v.node).log k x empty made.1

    tail : IsTailOf v.accepted 1 (x ∷ []) (record { gen = ((world G seen).nodes v.node).accepted; log = ((world G seen).nodes v.node).log ++ k ∷ [] })
    tail = record { gen = sym p.accepted; size = size; ends = ([], whole); logged = subst IsLog (sym whole) (log_more [] x tt fits) }

    ship : IsPacket G (Ship v.node v.accepted 1) (x ∷ []) now
    ship = record {
      low = is.low;
      high = is.high;
      told = subst (λ (y : Own KeptEntry). Has (λ c. (c.gen ≡ v.accepted) × (length c.log ≡ 1)) y.ships) (sym own) (record { it = record { gen = ((world G seen).nodes v.node).accepted; log = ((world G seen).nodes v.node).log ++ k ∷ [] }; mem = here; is = (sym p.accepted, size) });
      tail = subst (λ (y : Own KeptEntry). Has (IsTailOf v.accepted 1 (x ∷ [])) y.ships) (sym own) (record { it = record { gen = ((world G seen).nodes v.node).accepted; log = ((world G seen).nodes v.node).log ++ k ∷ [] }; mem = here; is = tail });
    }

    ack : IsPacket G (Ack v.node v.accepted 1) [] now
    ack = record {
      low = is.low;
      high = is.high;
      told = subst (λ (y : Own KeptEntry). Has (λ c. (c.gen ≡ v.accepted) × (length c.log ≡ 1)) y.acks) (sym own) (record { it = record { gen = ((world G seen).nodes v.node).accepted; log = ((world G seen).nodes v.node).log ++ k ∷ [] }; mem = here; is = (sym p.accepted, size) });
      tail = refl;
    }

    sends : AreSent G now (others G.nodes v.node (Ship v.node v.accepted 1) (x ∷ []) ++ packet v.node (Ack v.node v.accepted 1) [] ∷ [])
    sends = sent_more G now (others G.nodes v.node (Ship v.node v.accepted 1) (x ∷ [])) (packet v.node (Ack v.node v.accepted 1) [] ∷ [])
        (others_sent G G.nodes v.node (Ship v.node v.accepted 1) (x ∷ []) now ship (omega arith)) (one_sent G now v.node (Ack v.node v.accepted 1) is.low is.high ack)

pub sets_up : (tables : List TableDef) (old mid new : Held) (u : NodeVote) (next : Snapshot Entry) (x : Entry) (es : List Entry) (before ds ps : List SentPacket) → IsSetup old.vote.accepted tables x → next.value ≡ x → Did (Append next ∷ []) old mid
    → mid.vote ≡ u → u ≡ record old.vote { length = 1 } → mid.entries ≡ x ∷ [] → IsAsBefore mid new → before ≡ [] → es ≡ x ∷ [] → ds ≡ appending_packets u es → ps ≡ before ++ ds → SetsUp tables ps old new
sets_up tables old mid new u next x es before ds ps made value d v q l b none own made_of all = record {
  entry = x;
  made = made;
  event = Append next;
  appends = value;
  did = did_behind (Append next ∷ []) old mid new d b;
  vote = b.vote ∙ (v ∙ q);
  entries = b.entries ∙ l;
  sends = all ∙ (ap (λ y. y ++ ds) none ∙ (made_of ∙ (ap (λ y. appending_packets u y) own ∙ ap (λ y. appending_packets y (x ∷ [])) (sym (b.vote ∙ v)))));
}

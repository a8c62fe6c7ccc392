-- What a leader ships once more was told: its whole log, and the length that it told last as durable.
use Rattle.std.proofs.Common.{ℕ, ◌≡◌, ◌≤◌, List, [], ◌∷◌, ◌++◌, length, map, refl, sym, subst, ap, ◌∙◌}
use Rattle.std.specs.Prelude.{Bool, true, false, cond}
use Rattle.actor_trace.specs.History.{entries_of}
use Rattle.cluster_consensus.specs.Facts.{World}
use Rattle.cluster_events.specs.Settings.{Setting}
use Rattle.cluster_events.proofs.HistoryLaws.{steps as core_steps}
use Rattle.cluster_facts.proofs.ToldLaws.{shipping}
use Rattle.cluster_requests.specs.KeptEntries.{KeptEntry, plain}
use Rattle.cluster_steps.specs.Named.{steps, world}
use Rattle.cluster_steps.specs.declared.events.Event.{Event}
use Rattle.cluster_steps.proofs.StepLaws.{core_legal, world_is}
use Rattle.core_lists.specs.Lists.{Has}
use Rattle.election_core.specs.declared.messages.Message.TheVariants.{Adopt, Durable}
use Rattle.election_core.specs.declared.votes.NodeVote.{NodeVote}
use Rattle.phys_log.specs.Logs.{IsLog}
use Rattle.phys_log.specs.declared.entries.Entry.{Entry}
use Rattle.node_state.specs.Calls.{IsAsBefore}
use Rattle.node_state.specs.Nodes.{Held, IsNode, IsOwn, events_of}
use Rattle.node_state.specs.Packets.{SentPacket, AreSent, IsPacket, packet}
use Rattle.node_state.specs.Ships.{Leads, ShipsAgain, again_packets, learned_by}
use Rattle.node_state.proofs.LearnedLaws.{telling}
use Rattle.node_state.proofs.LogLists.{map_size}

-- its log was shipped as it is
shipped : (G : Setting) (v : NodeVote) (log : List Entry) (seen : List (ℕ × Event)) → IsNode G v log seen → v.leading ≡ true
    → Has (λ s. (s.gen ≡ ((world G seen).nodes v.node).accepted) × (s.log ≡ ((world G seen).nodes v.node).log)) ((world G seen).nodes v.node).ships
shipped G v log seen is lead =
    let law = subst (λ (w : World KeptEntry). (w.nodes v.node).leading ≡ true → Has (λ s. (s.gen ≡ (w.nodes v.node).accepted) × (s.log ≡ (w.nodes v.node).log)) (w.nodes v.node).ships) (sym (world_is G seen))
    (shipping G.nodes v.node (core_steps (steps G seen)) (core_legal G seen is.legal)) in
    law (sym is.part.leading ∙ lead)

adopts : (G : Setting) (v : NodeVote) (log : List Entry) (seen : List (ℕ × Event)) → IsNode G v log seen → v.leading ≡ true → IsPacket G (Adopt v.node v.accepted (length log)) log seen
adopts G v log seen is lead = record {
  low = is.low;
  high = is.high;
  told = record { it = s.it; mem = s.mem; is = (gen, size) };
  tail = (record { it = s.it; mem = s.mem; is = record { gen = gen; size = size; ends = ([], whole); logged = subst IsLog (sym whole) is.logged } }, refl);
}
  where
    s : Has (λ c. (c.gen ≡ ((world G seen).nodes v.node).accepted) × (c.log ≡ ((world G seen).nodes v.node).log)) ((world G seen).nodes v.node).ships
    s = shipped G v log seen is lead

    gen : s.it.gen ≡ v.accepted
    gen = s.is.0 ∙ sym is.part.accepted

    whole : map plain s.it.log ≡ log
    whole = ap (λ l. map plain l) s.is.1 ∙ sym is.log_is

    size : length s.it.log ≡ length log
    size = sym (map_size plain s.it.log) ∙ ap length whole

tells_durable : (G : Setting) (v : NodeVote) (log : List Entry) (seen made : List (ℕ × Event)) → IsNode G v log seen → made ≡ entries_of v.node seen → v.leading ≡ true → learned_by (events_of made) ≡ true
    → IsPacket G (Durable v.node v.accepted v.durable) [] seen
tells_durable G v log seen made is own lead learned = record {
  low = is.low;
  high = is.high;
  told = record { it = d.it; mem = d.mem; is = (d.is.0 ∙ sym is.part.accepted, d.is.1 ∙ sym is.part.durable) };
  tail = refl;
}
  where
    d : Has (λ c. (c.gen ≡ ((world G seen).nodes v.node).accepted) × (length c.log ≡ ((world G seen).nodes v.node).durable)) ((world G seen).nodes v.node).durables
    d = telling G v.node seen is.legal (sym is.part.leading ∙ lead) (ap (λ es. learned_by (events_of es)) (sym own) ∙ learned)

pub again_sent : (G : Setting) (h : Held) (to : ℕ) (learned : Bool) → IsOwn G h → h.actor.made ≡ entries_of h.actor.number h.actor.seen → Leads h.vote → 1 ≤ to → to ≤ G.nodes → learned ≡ learned_by (events_of h.actor.made)
    → AreSent G h.actor.seen (again_packets h.vote learned to h.entries)
again_sent G h to learned own made leads low high is = (record { to_low = low; to_high = high; packet = adopts G h.vote h.entries h.actor.seen own.node leads.1 }, go learned (sym is))
  where
    mine : h.actor.made ≡ entries_of h.vote.node h.actor.seen
    mine = made ∙ ap (λ k. entries_of k h.actor.seen) (sym own.number_is)

    go : (b : Bool) → learned_by (events_of h.actor.made) ≡ b → AreSent G h.actor.seen (cond b (packet to (Durable h.vote.node h.vote.accepted h.vote.durable) [] ∷ []) [])
    go true e = (record { to_low = low; to_high = high; packet = tells_durable G h.vote h.entries h.actor.seen h.actor.made own.node mine leads.1 e }, tt)
    go false e = tt

pub ships_again : (old new : Held) (to : ℕ) (learned : Bool) (before ds ps : List SentPacket) → Leads old.vote → learned ≡ learned_by (events_of old.actor.made) → IsAsBefore old new → before ≡ []
    → ds ≡ again_packets old.vote learned to old.entries → ps ≡ before ++ ds → ShipsAgain to ps old new
ships_again old new to learned before ds ps leads is same none made all = record {
  same = same;
  leads = λ l. all ∙ (ap (λ x. x ++ ds) none ∙ (made ∙ ap (λ b. again_packets old.vote b to old.entries) is));
  follows = λ idle. absurd (idle leads);
}

pub ships_nothing : (h : Held) (to : ℕ) (ps : List SentPacket) → (Leads h.vote → ⊥) → IsAsBefore h h → ps ≡ [] → ShipsAgain to ps h h
ships_nothing h to ps idle same none = record { same = same; leads = λ l. absurd (idle l); follows = λ l. none }

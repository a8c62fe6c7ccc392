-- What a node does by one of its calls while packets are delivered.
use Rattle.std.specs.declared.alloc.Global.{Global}
use Rattle.std.proofs.Common.{ℕ, ◌≡◌, List, [], ◌∷◌, ◌++◌, refl, sym, subst, ap, ◌∙◌}
use Rattle.std.specs.Prelude.{Vec, true, false, Option, Result, Ok, Err, IfOk, OnErr}
use mathlib.Core.Logic.{inl, inr}
use Rattle.cluster_events.specs.Settings.{Setting}
use Rattle.cluster_steps.specs.declared.events.Event.{Event}
use Rattle.cluster_steps.specs.declared.events.Event.TheVariants as event
use Rattle.election_core.specs.declared.messages.Message.{Message}
use Rattle.election_core.specs.declared.votes.NodeVote.{NodeVote}
use Rattle.node_clusters.proofs.EventLaws.{calm_by, calm_takes, falls_once}
use Rattle.node_clusters.proofs.OutcomeLaws.{light_none, light_so, nothing_sent, took, was_down}
use Rattle.node_clusters.proofs.PassLaws.{passes_between}
use Rattle.node_clusters.proofs.ReignLaws.{reigns_between, reigns_still, taken_reigns}
use Rattle.node_clusters.proofs.TurnLaws.{turns_between}
use Rattle.node_clusters.specs.Deliveries.{IsTakenIn}
use Rattle.node_clusters.specs.Events.{AreCalm}
use Rattle.node_clusters.specs.Looks.{IsNoted, IsReady}
use Rattle.node_clusters.specs.Numbers.{by_numbers, numbers, sent_in}
use Rattle.node_clusters.specs.Passes.{Passes}
use Rattle.node_state.proofs.CallLaws.{did_then, unchanged}
use Rattle.node_state.specs.Calls.{Did, FallsPartly, IsAsBefore, IsDelivered, events_by, takes}
use Rattle.node_state.specs.Nodes.{Held, IsOwn}
use Rattle.node_state.specs.Packets.{SentPacket, shipped_in}
use Rattle.node_state.specs.Stores.{AsksStore, HasFailed, IsCalm, Stored, StopsShort, held_of}
use Rattle.node_state.specs.declared.steps.Step.{Step}
use Rattle.node_state.specs.declared.steps.Step.TheVariants as step
use Rattle.phys_log.specs.declared.entries.Entry.{Entry}
use Rattle.quiet_cluster.specs.Deliveries.{Outcome}

pub same_node : (G : Setting) (es : List Event) (old new : Held) → IsOwn G old → IsOwn G new → Did es old new → new.vote.node ≡ old.vote.node
same_node G es old new a b did = b.number_is ∙ (did.number ∙ sym a.number_is)

-- a node that was up did that, and its store did not fail
pub passes_by : (G : Setting) (es : List Event) (old new : Stored) → IsOwn G (held_of old) → IsOwn G (held_of new) → old.vote.up ≡ true → Did es (held_of old) (held_of new) → AreCalm es → IsCalm old.over new.over → Passes old new
passes_by G es old new a b up did calm store = record {
  events = es;
  did = did;
  no_up = calm.no_ups;
  node = same_node G es (held_of old) (held_of new) a b did;
  cluster = store.1;
  sleeps = λ down. absurd (cc);
  counts = inl (calm.no_falls, store.0);
}

-- or it did, behind these events
pub passes_falling : (G : Setting) (es : List Event) (old new : Stored) → IsOwn G (held_of old) → IsOwn G (held_of new) → old.vote.up ≡ true → Did (es ++ event.Down true ∷ []) (held_of old) (held_of new) → AreCalm es → new.vote.up ≡ false
    → HasFailed old.over new.over → Passes old new
passes_falling G es old new a b up did calm down store =
    let once = falls_once es calm in
    record {
      events = es ++ event.Down true ∷ [];
      did = did;
      no_up = once.0;
      node = same_node G (es ++ event.Down true ∷ []) (held_of old) (held_of new) a b did;
      cluster = store.1;
      sleeps = λ is. absurd (cc);
      counts = inr (once.1, down, store.0);
    }

partly_down : (m : Message) (es : List Entry) (old new : Held) → FallsPartly m es old new → new.vote.up ≡ false
partly_down m es old new f = ap (λ (v : NodeVote). v.up) f.falls.vote

fell_partly : (m : Message) (es : List Entry) (old new : Held) → (f : FallsPartly m es old new) → Did (takes (shipped_in m) old.vote.length f.partly.taken ++ event.Down true ∷ []) old new
fell_partly m es old new f = did_then (takes (shipped_in m) old.vote.length f.partly.taken) (event.Down true ∷ []) old f.mid new f.partly.did f.falls.did

-- a packet that was delivered to a node that is up
taken : (G : Setting) (p : SentPacket) (s : Step (Vec SentPacket Global)) (old new : Stored) → IsOwn G (held_of old) → IsOwn G (held_of new) → old.vote.up ≡ true → IsDelivered p s (held_of old) (held_of new)
    → AsksStore s old.over new.over → Passes old new
taken G p (step.Sent ps) old new a b up d o = passes_by G (events_by old.vote p.message d.1.action) old new a b up d.1.acts.did (calm_by old.vote p.message d.1.action) o
taken G p step.Down old new a b up d o = absurd (let x : old.vote.up ≡ false = d.0 in cc)
taken G p step.Fault old new a b up d o =
    passes_falling G (takes (shipped_in p.message) old.vote.length d.1.partly.taken) old new a b up (fell_partly p.message p.entries (held_of old) (held_of new) d.1)
    (calm_takes (shipped_in p.message) old.vote.length d.1.partly.taken) (partly_down p.message p.entries (held_of old) (held_of new) d.1) o

short : (G : Setting) (p : SentPacket) (mid new : Stored) → IsOwn G (held_of mid) → IsOwn G (held_of new) → mid.vote.up ≡ true → StopsShort p.message p.entries (held_of mid) (held_of new) mid.over new.over → Passes mid new
short G p mid new between after up s =
    passes_by G (takes (shipped_in p.message) mid.vote.length s.partly.taken) mid new between after up s.partly.did (calm_takes (shipped_in p.message) mid.vote.length s.partly.taken) s.calm

-- whatever came of it
delivered_or_short : {E : Type 0} (G : Setting) (p : SentPacket) (r : Result (Step (Vec SentPacket Global)) E) (mid next : Stored) → IsOwn G (held_of mid) → IsOwn G (held_of next) → mid.vote.up ≡ true
    → IfOk r (λ s. IsDelivered p s (held_of mid) (held_of next)) → IfOk r (λ s. AsksStore s mid.over next.over) → OnErr r (StopsShort p.message p.entries (held_of mid) (held_of next) mid.over next.over) → Passes mid next
delivered_or_short G p (Ok s) mid next a b up d o e = taken G p s mid next a b up d o
delivered_or_short G p (Err x) mid next a b up d o e = short G p mid next a b up e

pub still_up : (G : Setting) (last : Option (List (ℕ × Event))) (old mid : Stored) → IsReady G last old mid → old.vote.up ≡ true → mid.vote.up ≡ true
still_up G last old mid ready up = ap (λ (v : NodeVote). v.up) ready.same.vote ∙ up

pub delivers_passes : {E : Type 0} (G : Setting) (p : SentPacket) (r : Result (Step (Vec SentPacket Global)) E) (last next : Option (List (ℕ × Event))) (old mid between new : Stored) → IsReady G last old mid → IsNoted G between new next → old.vote.up ≡ true
    → IfOk r (λ s. IsDelivered p s (held_of mid) (held_of between)) → IfOk r (λ s. AsksStore s mid.over between.over) → OnErr r (StopsShort p.message p.entries (held_of mid) (held_of between) mid.over between.over) → Passes old new
delivers_passes G p r last next old mid between new ready noted up d o e =
    passes_between G last next old mid between new ready (delivered_or_short G p r mid between ready.own noted.own (still_up G last old mid ready up) d o e) noted

outcome : (G : Setting) (p : SentPacket) (s : Step (Vec SentPacket Global)) (old mid new : Stored) → IsAsBefore (held_of old) (held_of mid) → IsOwn G (held_of new) → old.vote.up ≡ true → IsDelivered p s (held_of mid) (held_of new)
    → Outcome old.vote (by_numbers p) new.vote (numbers (sent_in s))
outcome G p (step.Sent ps) old mid new same own up d = took G p ps.items (held_of old) (held_of mid) (held_of new) same.vote own d
outcome G p step.Down old mid new same own up d = absurd (let x : mid.vote.up ≡ false = d.0 in let y : mid.vote.up ≡ old.vote.up = ap (λ (v : NodeVote). v.up) same.vote in cc)
outcome G p step.Fault old mid new same own up d = was_down p [] old.vote new.vote (partly_down p.message p.entries (held_of mid) (held_of new) d.1) refl

-- it took the packet in, at its turn
pub takes_in : {E : Type 0} (G : Setting) (p : SentPacket) (r : Result (Step (Vec SentPacket Global)) E) (s : Step (Vec SentPacket Global)) (ps : List SentPacket) (last next : Option (List (ℕ × Event))) (old mid between new : Stored) → IsReady G last old mid → IsNoted G between new next
    → old.vote.up ≡ true → r ≡ Ok s → ps ≡ sent_in s → IfOk r (λ s. IsDelivered p s (held_of mid) (held_of between)) → IfOk r (λ s. AsksStore s mid.over between.over) → OnErr r (StopsShort p.message p.entries (held_of mid) (held_of between) mid.over between.over)
    → IsTakenIn p ps last old new next
takes_in G p r s ps last next old mid between new ready noted up is sent d o e = record {
  outcome = subst (λ t. Outcome old.vote (by_numbers p) new.vote (numbers t)) (sym sent) (subst (λ v. Outcome old.vote (by_numbers p) v (numbers (sent_in s))) (sym noted.same.vote) came);
  light = light_so G old.vote (held_of between) p ps noted.own (subst (λ t. Outcome old.vote (by_numbers p) between.vote (numbers t)) (sym sent) came);
  reigns = λ on. reigns_between old mid between new ready.same (λ at. taken_reigns G p s mid between ready.own alive done at) noted.same on;
  turn = inr (turns_between G last next old mid between new (delivered_or_short G p r mid between ready.own noted.own alive d o e) ready noted);
}
  where
    done : IsDelivered p s (held_of mid) (held_of between)
    done = subst (λ t. IfOk t (λ x. IsDelivered p x (held_of mid) (held_of between))) is d

    alive : mid.vote.up ≡ true
    alive = still_up G last old mid ready up

    came : Outcome old.vote (by_numbers p) between.vote (numbers (sent_in s))
    came = outcome G p s old mid between ready.same noted.own up done

-- it is down, and nothing comes of it
pub sleeps_on : (p : SentPacket) (ps : List SentPacket) (last : Option (List (ℕ × Event))) (v : Stored) → v.vote.up ≡ false → ps ≡ [] → IsTakenIn p ps last v v last
sleeps_on p ps last v down none = record {
  outcome = nothing_sent p ps v.vote v.vote down refl none;
  light = light_none p.message ps none;
  reigns = λ up. reigns_still v v (unchanged (held_of v));
  turn = inl (refl, refl);
}

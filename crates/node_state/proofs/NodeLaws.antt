-- A node that does one event is the history's node then, and so it is when others do something.
use Rattle.std.proofs.Common.{ℕ, ◌≡◌, ◌≤◌, List, [], ◌∷◌, ◌++◌, map, arith, refl, sym, subst, ap, ◌∙◌}
use Rattle.std.specs.Prelude.{◌==◌, true, cond, None}
use Rattle.std.proofs.lemmas.Bool.Decides.{Decides-eqb}
use mathlib.Core.Logic.{◌⊎◌, inl, inr}
use Rattle.actor_trace.specs.History.{entries_of}
use Rattle.actor_trace.specs.Steps.{Adds, Rests}
use Rattle.actor_trace.proofs.Entries.{idle_step, not_eq}
use Rattle.cluster_consensus.specs.Enabled.{Enabled}
use Rattle.cluster_consensus.specs.Events.{NodeEvent, change}
use Rattle.cluster_consensus.specs.Facts.{Own, World}
use Rattle.cluster_events.specs.Arms.{last_fired, fired_by, HasFallen}
use Rattle.cluster_events.specs.Parts.{ActorEvent}
use Rattle.cluster_events.specs.Settings.{Setting}
use Rattle.cluster_requests.specs.KeptEntries.{KeptEntry, plain}
use Rattle.cluster_steps.specs.Guards.{IsAllowed, IsExact, IsPlan, MayTakeStep, AreLegalSteps}
use Rattle.cluster_steps.specs.Named.{named, steps, world}
use Rattle.cluster_steps.specs.declared.events.Event.{Event}
use Rattle.cluster_steps.specs.declared.events.Event.TheVariants.{Stand, Grant, Lead, Learn, Probe, Confirm}
use Rattle.cluster_steps.proofs.OwnLaws.{own_adds, own_rests, tells_adds, tells_rests}
use Rattle.core_lists.specs.Lists.{In}
use Rattle.election_core.specs.Allowed.{MayStand, Allows}
use Rattle.election_core.specs.Counted.{acted, counted}
use Rattle.election_core.specs.Senders.{sender_of}
use Rattle.election_core.specs.Told.{IsPart, IsEventOf}
use Rattle.election_core.proofs.Acted.{acted_counted, counted_on}
use Rattle.election_core.proofs.Allowing.{allowed_enabled}
use Rattle.election_core.proofs.Enabling.{stand_enabled}
use Rattle.election_core.proofs.Keeping.{part_kept, same_nodes, counted_kept, same_after}
use Rattle.election_core.specs.declared.messages.Action.{Action}
use Rattle.election_core.specs.declared.messages.Action.TheVariants as action
use Rattle.election_core.specs.declared.messages.Message.{Message}
use Rattle.election_core.specs.declared.messages.Message.TheVariants.{Pong}
use Rattle.election_core.specs.declared.votes.NodeVote.{NodeVote}
use Rattle.phys_log.specs.Logs.{IsLog}
use Rattle.phys_log.specs.declared.entries.Entry.{Entry}
use Rattle.node_state.specs.Nodes.{IsNode, Follows}
use Rattle.node_state.specs.Packets.{IsPacket}

-- the events of elections and shipping: nothing of requests, scripts or pages is asked of them
abbrev pub IsPlain : NodeEvent KeptEntry → Type 0
IsPlain (NodeEvent.Admits k p a) = ⊥
IsPlain (NodeEvent.Boot p a l) = ⊥
IsPlain NodeEvent.Down = ⊥
IsPlain (NodeEvent.Back p) = ⊥
IsPlain NodeEvent.BackLead = ⊥
IsPlain (NodeEvent.BackTake g l) = ⊥
IsPlain (NodeEvent.BackGrow l) = ⊥
IsPlain (NodeEvent.BackAppend e) = ⊥
IsPlain (NodeEvent.Stand g) = Unit {0}
IsPlain (NodeEvent.Grants g to) = Unit {0}
IsPlain NodeEvent.Lead = Unit {0}
IsPlain (NodeEvent.Take g l) = Unit {0}
IsPlain (NodeEvent.Grow l) = Unit {0}
IsPlain (NodeEvent.Append e) = ⊥
IsPlain (NodeEvent.LearnLead l) = Unit {0}
IsPlain (NodeEvent.LearnFollow l) = Unit {0}
IsPlain (NodeEvent.Asks t) = ⊥
IsPlain (NodeEvent.Probe t) = Unit {0}
IsPlain (NodeEvent.Confirm t g) = Unit {0}

-- such an event of a node may happen where the core allows it
pub plain_allowed : (G : Setting) (seen : List (ℕ × Event)) (i : ℕ) (c : NodeEvent KeptEntry) → IsPlain c → 1 ≤ i → i ≤ G.nodes → last_fired i (steps G seen) ≡ None
    → Enabled G.nodes (world G seen) i ((world G seen).nodes i) c → IsAllowed G (steps G seen) i (ActorEvent.Node c)
plain_allowed G seen i (NodeEvent.Admits k p a) simple low high none en = absurd simple
plain_allowed G seen i (NodeEvent.Boot p a l) simple low high none en = absurd simple
plain_allowed G seen i NodeEvent.Down simple low high none en = absurd simple
plain_allowed G seen i (NodeEvent.Back p) simple low high none en = absurd simple
plain_allowed G seen i NodeEvent.BackLead simple low high none en = absurd simple
plain_allowed G seen i (NodeEvent.BackTake g l) simple low high none en = absurd simple
plain_allowed G seen i (NodeEvent.BackGrow l) simple low high none en = absurd simple
plain_allowed G seen i (NodeEvent.BackAppend e) simple low high none en = absurd simple
plain_allowed G seen i (NodeEvent.Stand g) simple low high none en = record { may = ((en, tt), tt, (low, high)); by_script = record { heeds = tt; goes_on = subst (λ f. HasFallen G (steps G seen) i f) (sym none) tt }; pages = (tt, tt) }
plain_allowed G seen i (NodeEvent.Grants g to) simple low high none en = record { may = ((en, tt), tt, (low, high)); by_script = record { heeds = tt; goes_on = subst (λ f. HasFallen G (steps G seen) i f) (sym none) tt }; pages = (tt, tt) }
plain_allowed G seen i NodeEvent.Lead simple low high none en = record { may = ((en, tt), tt, (low, high)); by_script = record { heeds = tt; goes_on = subst (λ f. HasFallen G (steps G seen) i f) (sym none) tt }; pages = (tt, tt) }
plain_allowed G seen i (NodeEvent.Take g l) simple low high none en = record { may = ((en, tt), tt, (low, high)); by_script = record { heeds = tt; goes_on = subst (λ f. HasFallen G (steps G seen) i f) (sym none) tt }; pages = (tt, tt) }
plain_allowed G seen i (NodeEvent.Grow l) simple low high none en = record { may = ((en, tt), tt, (low, high)); by_script = record { heeds = tt; goes_on = subst (λ f. HasFallen G (steps G seen) i f) (sym none) tt }; pages = (tt, tt) }
plain_allowed G seen i (NodeEvent.Append e) simple low high none en = absurd simple
plain_allowed G seen i (NodeEvent.LearnLead l) simple low high none en = record { may = ((en, tt), tt, (low, high)); by_script = record { heeds = tt; goes_on = subst (λ f. HasFallen G (steps G seen) i f) (sym none) tt }; pages = (tt, tt) }
plain_allowed G seen i (NodeEvent.LearnFollow l) simple low high none en = record { may = ((en, tt), tt, (low, high)); by_script = record { heeds = tt; goes_on = subst (λ f. HasFallen G (steps G seen) i f) (sym none) tt }; pages = (tt, tt) }
plain_allowed G seen i (NodeEvent.Asks t) simple low high none en = absurd simple
plain_allowed G seen i (NodeEvent.Probe t) simple low high none en = record { may = ((en, tt), tt, (low, high)); by_script = record { heeds = tt; goes_on = subst (λ f. HasFallen G (steps G seen) i f) (sym none) tt }; pages = (tt, tt) }
plain_allowed G seen i (NodeEvent.Confirm t g) simple low high none en = record { may = ((en, tt), tt, (low, high)); by_script = record { heeds = tt; goes_on = subst (λ f. HasFallen G (steps G seen) i f) (sym none) tt }; pages = (tt, tt) }

pub may_do : (G : Setting) (seen : List (ℕ × Event)) (i : ℕ) (e : Event) (c : NodeEvent KeptEntry) → IsPlan G → IsPlain c → 1 ≤ i → i ≤ G.nodes → last_fired i (steps G seen) ≡ None
    → IsExact G (steps G seen) i e → named G (steps G seen) i e ≡ ActorEvent.Node c → Enabled G.nodes (world G seen) i ((world G seen).nodes i) c → MayTakeStep G seen i e
may_do G seen i e c plan p low high none exact name en = record {
  plan = plan;
  exact = exact;
  allowed = subst (λ s. IsAllowed G (steps G seen) i s) (sym name) (plain_allowed G seen i c p low high none en);
}

-- the arm that an actor let fire last, when it does something else, and when others do something
self_eq : (i : ℕ) → (i == i) ≡ true
self_eq i = (Decides-eqb i i).1 refl

pub fired_more : (G : Setting) (i : ℕ) (between old : List (ℕ × Event)) → entries_of i (between ++ old) ≡ entries_of i old → last_fired i (steps G (between ++ old)) ≡ last_fired i (steps G old)
fired_more G i [] old own = refl
fired_more G i (x ∷ between) old own =
    let s = idle_step i x between old own in
    let k = steps G (between ++ old) in
    ap (λ b. cond b (fired_by k x.0 (named G k x.0 x.1)) (last_fired i k)) (not_eq i x.0 s.0) ∙ fired_more G i between old s.1

pub fired_rests : (G : Setting) (i : ℕ) (old new : List (ℕ × Event)) → Rests i old new → last_fired i (steps G old) ≡ None → last_fired i (steps G new) ≡ None
fired_rests G i old new d e = ap (λ t. last_fired i (steps G t)) d.whole ∙ (fired_more G i d.between old d.none ∙ e)

pub fired_adds : (G : Setting) (i : ℕ) (e : Event) (old new : List (ℕ × Event)) → ((g : List (ℕ × ActorEvent)) → fired_by g i (named G g i e) ≡ None) → Adds i e old new
    → last_fired i (steps G new) ≡ None
fired_adds G i e old new silent d =
    let k = steps G (d.between ++ old) in
    ap (λ t. last_fired i (steps G t)) d.whole
    ∙ (ap (λ b. cond b (fired_by k i (named G k i e)) (last_fired i k)) (self_eq i) ∙ silent k)

-- after an event of its own
pub after_adds : (G : Setting) (v u : NodeVote) (log' : List Entry) (i : ℕ) (e : Event) (old new : List (ℕ × Event)) → v.node ≡ i → Follows G v.node e u log' old
    → Adds i e old new → AreLegalSteps G new → IsNode G u log' new
after_adds G v u log' i e old new vi f d legal =
    let dv : Adds v.node e old new = subst (λ t. Adds t e old new) (sym vi) d in
    let own = own_adds G v.node e f.core old new f.name f.may.exact dv legal in
    let at : (world G new).nodes u.node ≡ change v.node ((world G old).nodes v.node) f.core = ap (λ t. (world G new).nodes t) f.same ∙ own in
    record {
      low = subst (λ t. 1 ≤ t) (sym f.same) f.low;
      high = subst (λ t. t ≤ G.nodes) (sym f.same) f.high;
      nodes_is = f.nodes;
      few = f.few;
      plan = f.may.plan;
      legal = legal;
      unarmed = ap (λ t. last_fired t (steps G new)) f.same ∙ fired_adds G v.node e old new f.silent dv;
      part = subst (λ (t : Own KeptEntry). IsPart u t) (sym at) f.part;
      log_is = f.log_is ∙ ap (λ (t : Own KeptEntry). map plain t.log) (sym at);
      logged = f.logged;
      counted = counted_on (world G old) (world G new) u (tells_adds G v.node e old new dv) f.counted;
    }

-- when it hears more
pub after_rests : (G : Setting) (v : NodeVote) (log : List Entry) (i : ℕ) (old new : List (ℕ × Event)) → IsNode G v log old → v.node ≡ i → Rests i old new → AreLegalSteps G new → IsNode G v log new
after_rests G v log i old new is vi d legal =
    let dv : Rests v.node old new = subst (λ t. Rests t old new) (sym vi) d in
    let still : (world G new).nodes v.node ≡ (world G old).nodes v.node = own_rests G v.node old new dv in
    record {
      low = is.low;
      high = is.high;
      nodes_is = is.nodes_is;
      few = is.few;
      plan = is.plan;
      legal = legal;
      unarmed = fired_rests G v.node old new dv is.unarmed;
      part = subst (λ (t : Own KeptEntry). IsPart v t) (sym still) is.part;
      log_is = is.log_is ∙ ap (λ (t : Own KeptEntry). map plain t.log) (sym still);
      logged = is.logged;
      counted = counted_on (world G old) (world G new) v (tells_rests G v.node old new dv) is.counted;
    }

pub seven : {G : Setting} {v : NodeVote} {log es : List Entry} {m : Message} {seen : List (ℕ × Event)} → IsNode G v log seen → IsPacket G m es seen → sender_of m ≤ 7
seven {G} {m = m} is p = let a : sender_of m ≤ G.nodes = p.high in let b : G.nodes ≤ 7 = is.few in omega arith

-- an event that is an action's, with the log that it leaves
pub follows : {G : Setting} (v : NodeVote) (log log' : List Entry) (seen : List (ℕ × Event)) (m : Message) (es : List Entry) (a : Action) (e : Event) (c : NodeEvent KeptEntry) → IsNode G v log seen → IsPacket G m es seen
    → IsPlain c → IsExact G (steps G seen) v.node e → named G (steps G seen) v.node e ≡ ActorEvent.Node c → ((g : List (ℕ × ActorEvent)) → fired_by g v.node (named G g v.node e) ≡ None)
    → Enabled G.nodes (world G seen) v.node ((world G seen).nodes v.node) c → IsPart (acted (counted v m) a) (change v.node ((world G seen).nodes v.node) c)
    → log' ≡ map plain (change v.node ((world G seen).nodes v.node) c).log → IsLog log'
    → Follows G v.node e (acted (counted v m) a) log' seen
follows {G} v log log' seen m es a e c is p simple exact name silent en part l logged =
    let w = world G seen in
    let same = same_after v (acted (counted v m) a) m a refl in
    record {
      low = is.low;
      high = is.high;
      few = is.few;
      may = may_do G seen v.node e c is.plan simple is.low is.high is.unarmed exact name en;
      silent = silent;
      core = c;
      name = name;
      part = part;
      log_is = l;
      logged = logged;
      counted = acted_counted w (counted v m) a (counted_kept w v m p.low (seven is p) is.counted p.told);
      same = same.0;
      nodes = same.1 ∙ is.nodes_is;
    }

-- what a message allows, as an event of the core
abbrev pub Allowed : Setting → List (ℕ × Event) → NodeVote → Message → Action → Type 0
Allowed G seen v m a = (e : NodeEvent KeptEntry) × IsEventOf (counted v m) a e × Enabled G.nodes (world G seen) v.node ((world G seen).nodes v.node) e × IsPart (acted (counted v m) a) (change v.node ((world G seen).nodes v.node) e)

pub allowed : {G : Setting} (v : NodeVote) (log : List Entry) (seen : List (ℕ × Event)) (m : Message) (es : List Entry) (a : Action) → IsNode G v log seen → IsPacket G m es seen → Allows v m a → Allowed G seen v m a
allowed {G} v log seen m es a is p may = allowed_enabled G.nodes (world G seen) v m a is.nodes_is is.part is.counted p.told p.low (seven is p) may

pub grants : {G : Setting} (v : NodeVote) (log : List Entry) (seen : List (ℕ × Event)) (m : Message) (es : List Entry) (g to : ℕ) → IsNode G v log seen → IsPacket G m es seen → Allows v m (action.Promise g to)
    → Follows G v.node (Grant g to) (acted (counted v m) (action.Promise g to)) log seen
grants {G} v log seen m es g to is p may =
    let w = world G seen in
    let o = w.nodes v.node in
    let x = allowed v log seen m es (action.Promise g to) is p may in
    follows v log log seen m es (action.Promise g to) (Grant g to) (NodeEvent.Grants g to) is p tt tt refl (λ g. refl)
    (subst (λ t. Enabled G.nodes w v.node o t) x.1 x.2) (subst (λ t. IsPart (acted (counted v m) (action.Promise g to)) (change v.node o t)) x.1 x.3) is.log_is is.logged

pub leads : {G : Setting} (v : NodeVote) (log : List Entry) (seen : List (ℕ × Event)) (m : Message) (es : List Entry) (g : ℕ) → IsNode G v log seen → IsPacket G m es seen → Allows v m (action.Lead g)
    → Follows G v.node (Lead g) (acted (counted v m) (action.Lead g)) log seen
leads {G} v log seen m es g is p may =
    let w = world G seen in
    let o = w.nodes v.node in
    let x = allowed v log seen m es (action.Lead g) is p may in
    let q = part_kept v m o is.part in
    follows v log log seen m es (action.Lead g) (Lead g) NodeEvent.Lead is p tt (x.1.0 ∙ q.promised) refl (λ g. refl)
    (subst (λ t. Enabled G.nodes w v.node o t) x.1.1 x.2) (subst (λ t. IsPart (acted (counted v m) (action.Lead g)) (change v.node o t)) x.1.1 x.3) is.log_is is.logged

pub learns : {G : Setting} (v : NodeVote) (log : List Entry) (seen : List (ℕ × Event)) (m : Message) (es : List Entry) (d : ℕ) → IsNode G v log seen → IsPacket G m es seen → Allows v m (action.Know d)
    → Follows G v.node (Learn d) (acted (counted v m) (action.Know d)) log seen
learns {G} v log seen m es d is p may = go x.1
  where
    w : World KeptEntry
    w = world G seen

    o : Own KeptEntry
    o = w.nodes v.node

    x : Allowed G seen v m (action.Know d)
    x = allowed v log seen m es (action.Know d) is p may

    by : (c : NodeEvent KeptEntry) → IsPlain c → x.0 ≡ c → (Enabled G.nodes w v.node o c → cond o.leading (NodeEvent.LearnLead d) (NodeEvent.LearnFollow d) ≡ c) → log ≡ map plain (change v.node o c).log
        → Follows G v.node (Learn d) (acted (counted v m) (action.Know d)) log seen
    by c simple q name l =
        let en = subst (λ t. Enabled G.nodes w v.node o t) q x.2 in
        follows v log log seen m es (action.Know d) (Learn d) c is p simple tt (ap ActorEvent.Node (name en)) (λ g. refl) en (subst (λ t. IsPart (acted (counted v m) (action.Know d)) (change v.node o t)) q x.3) l is.logged

    go : (x.0 ≡ NodeEvent.LearnLead d) ⊎ (x.0 ≡ NodeEvent.LearnFollow d) → Follows G v.node (Learn d) (acted (counted v m) (action.Know d)) log seen
    go (inl q) = by (NodeEvent.LearnLead d) tt q (λ en. ap (λ b. cond b (NodeEvent.LearnLead d) (NodeEvent.LearnFollow d)) en.1) is.log_is
    go (inr q) = by (NodeEvent.LearnFollow d) tt q (λ en. ap (λ b. cond b (NodeEvent.LearnLead d) (NodeEvent.LearnFollow d)) en.1) is.log_is

pub confirms : {G : Setting} (v : NodeVote) (log : List Entry) (seen : List (ℕ × Event)) (m : Message) (es : List Entry) (g t to : ℕ) → IsNode G v log seen → IsPacket G m es seen
    → Allows v m (action.Answer (Pong v.node g t) to) → Follows G v.node (Confirm t g) (acted (counted v m) (action.Answer (Pong v.node g t) to)) log seen
confirms {G} v log seen m es g t to is p may =
    let w = world G seen in
    let o = w.nodes v.node in
    let a = action.Answer (Pong v.node g t) to in
    let x = allowed v log seen m es a is p may in
    follows v log log seen m es a (Confirm t g) (NodeEvent.Confirm t g) is p tt tt refl (λ g. refl)
    (subst (λ y. Enabled G.nodes w v.node o y) x.1 x.2) (subst (λ y. IsPart (acted (counted v m) a) (change v.node o y)) x.1 x.3) is.log_is is.logged

pub stands : {G : Setting} (v : NodeVote) (log : List Entry) (seen : List (ℕ × Event)) (g : ℕ) → IsNode G v log seen → MayStand v g
    → Follows G v.node (Stand g) (acted v (action.Promise g v.node)) log seen
stands {G} v log seen g is may =
    let w = world G seen in
    let x = stand_enabled G.nodes w v g is.part may in
    record {
      low = is.low;
      high = is.high;
      few = is.few;
      may = may_do G seen v.node (Stand g) (NodeEvent.Stand g) is.plan tt is.low is.high is.unarmed tt refl x.0;
      silent = λ g. refl;
      core = NodeEvent.Stand g;
      name = refl;
      part = x.1;
      log_is = is.log_is;
      logged = is.logged;
      counted = acted_counted w v (action.Promise g v.node) is.counted;
      same = refl;
      nodes = is.nodes_is;
    }

-- a leader that knows all that it adopted as durable answers a begin that was asked for
pub probes : {G : Setting} (v : NodeVote) (log : List Entry) (seen : List (ℕ × Event)) (t : ℕ) → IsNode G v log seen → In t (world G seen).asks
    → v.up ≡ true → v.leading ≡ true → 1 ≤ v.durable → v.adopted ≤ v.durable → Follows G v.node (Probe t) v log seen
probes {G} v log seen t is asked up leading one adopted =
    let w = world G seen in
    let o = w.nodes v.node in
    let q = is.part in
    let low : 1 ≤ o.durable = subst (λ d. 1 ≤ d) q.durable one in
    let reaches : o.adopted ≤ o.durable = subst (λ a. a ≤ o.durable) q.adopted (subst (λ d. v.adopted ≤ d) q.durable adopted) in
    record {
      low = is.low;
      high = is.high;
      few = is.few;
      may = may_do G seen v.node (Probe t) (NodeEvent.Probe t) is.plan tt is.low is.high is.unarmed tt refl (sym q.up ∙ up, sym q.leading ∙ leading, record { it = t; mem = asked; is = refl }, low, reaches);
      silent = λ g. refl;
      core = NodeEvent.Probe t;
      name = refl;
      part = record { promised = q.promised; accepted = q.accepted; length = q.length; adopted = q.adopted; durable = q.durable; leading = q.leading; up = q.up };
      log_is = is.log_is;
      logged = is.logged;
      counted = is.counted;
      same = refl;
      nodes = is.nodes_is;
    }

-- a message that is counted, and allows nothing else
pub counts : {G : Setting} (v : NodeVote) (log : List Entry) (seen : List (ℕ × Event)) (m : Message) (es : List Entry) → IsNode G v log seen → IsPacket G m es seen → IsNode G (counted v m) log seen
counts {G} v log seen m es is p =
    let same = same_nodes v m in
    let w = world G seen in
    record {
      low = subst (λ k. 1 ≤ k) (sym same.0) is.low;
      high = subst (λ k. k ≤ G.nodes) (sym same.0) is.high;
      nodes_is = same.1 ∙ is.nodes_is;
      few = is.few;
      plan = is.plan;
      legal = is.legal;
      unarmed = ap (λ k. last_fired k (steps G seen)) same.0 ∙ is.unarmed;
      part = subst (λ k. IsPart (counted v m) (w.nodes k)) (sym same.0) (part_kept v m (w.nodes v.node) is.part);
      log_is = is.log_is ∙ ap (λ k. map plain (w.nodes k).log) (sym same.0);
      logged = is.logged;
      counted = counted_kept w v m p.low (seven is p) is.counted p.told;
    }

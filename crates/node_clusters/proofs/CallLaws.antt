-- A node stands, sets its log up, or ships it, between two looks at what was done.
use Rattle.std.specs.declared.alloc.Global.{Global}
use Rattle.std.proofs.Common.{ℕ, ◌≡◌, ◌<◌, ◌≤◌, List, [], ◌∷◌, arith, refl, sym, subst, ap, ◌∙◌}
use Rattle.std.specs.Prelude.{Vec, true, false, Option, Result, Ok, Err, IfOk, OnErr}
use mathlib.Core.Logic.{◌⊎◌, inl, inr}
use Rattle.cdb_values.specs.declared.tables.TableDef.{TableDef}
use Rattle.cluster_events.specs.Settings.{Setting}
use Rattle.cluster_steps.specs.declared.events.Event.{Event}
use Rattle.cluster_steps.specs.declared.events.Event.TheVariants as event
use Rattle.election_core.specs.Counted.{acted}
use Rattle.election_core.specs.declared.messages.Action.TheVariants as action
use Rattle.election_core.specs.declared.votes.NodeVote.{NodeVote}
use Rattle.node_clusters.proofs.EventLaws.{calm_append, calm_none, calm_stand}
use Rattle.node_clusters.proofs.PacketLaws.{appending_told, standing_told}
use Rattle.node_clusters.proofs.PassLaws.{passes_between}
use Rattle.node_clusters.proofs.ReignLaws.{reigns_between, reigns_setting_up, reigns_standing, reigns_still}
use Rattle.node_clusters.proofs.StepLaws.{passes_by, passes_falling, still_up}
use Rattle.node_clusters.proofs.TurnLaws.{turns_between}
use Rattle.node_clusters.specs.Elections.{HasSetUp, HasStood, IsSetUpBy, IsStoodBy}
use Rattle.node_clusters.specs.Looks.{IsNoted, IsReady}
use Rattle.node_clusters.specs.Numbers.{numbers, sent_if}
use Rattle.node_clusters.specs.Passes.{Passes}
use Rattle.node_clusters.specs.Reigns.{Reigns}
use Rattle.node_state.proofs.CallLaws.{unchanged}
use Rattle.node_state.specs.Calls.{Falls, IsAsBefore, IsSetUp, IsStood, StandsAsCandidate}
use Rattle.node_state.specs.Nodes.{IsOwn}
use Rattle.node_state.specs.Packets.{SentPacket}
use Rattle.node_state.specs.Stores.{AsksStore, HasFailed, Stored, held_of}
use Rattle.node_state.specs.declared.steps.Step.{Step}
use Rattle.node_state.specs.declared.steps.Step.TheVariants as step
use Rattle.quiet_cluster.specs.Packets.{appending_packets, standing_packets}

fell : (G : Setting) (old new : Stored) → IsOwn G (held_of old) → IsOwn G (held_of new) → old.vote.up ≡ true → Falls true (held_of old) (held_of new) → HasFailed old.over new.over → Passes old new
fell G old new a b up f store = passes_falling G [] old new a b up f.did calm_none (ap (λ (v : NodeVote). v.up) f.vote) store

same_passes : (G : Setting) (mid next : Stored) → IsOwn G (held_of mid) → mid.vote.up ≡ true → next ≡ mid → Passes mid next
same_passes G mid next a up e = subst (λ t. Passes mid t) (sym e) (passes_by G [] mid mid a a up (unchanged (held_of mid)).did calm_none (refl, refl))

-- it stands
stood : (G : Setting) (g : ℕ) (s : Step (Vec SentPacket Global)) (mid next : Stored) → IsOwn G (held_of mid) → IsOwn G (held_of next) → mid.vote.up ≡ true → IsStood g s (held_of mid) (held_of next) → AsksStore s mid.over next.over → Passes mid next
stood G g (step.Sent ps) mid next a b up d o = go d.1
  where
    go : ((g ≤ mid.vote.promised) × (ps.items ≡ []) × IsAsBefore (held_of mid) (held_of next)) ⊎ ((mid.vote.promised < g) × StandsAsCandidate g ps.items (held_of mid) (held_of next)) → Passes mid next
    go (inl t) = passes_by G [] mid next a b up t.2.did calm_none o
    go (inr t) = passes_by G (event.Stand g ∷ []) mid next a b up t.1.did (calm_stand g) o
stood G g step.Down mid next a b up d o = absurd (let x : mid.vote.up ≡ false = d.0 in cc)
stood G g step.Fault mid next a b up d o = fell G mid next a b up d.2 o

stood_or_not : {E : Type 0} (G : Setting) (g : ℕ) (r : Result (Step (Vec SentPacket Global)) E) (mid next : Stored) → IsOwn G (held_of mid) → IsOwn G (held_of next) → mid.vote.up ≡ true
    → IfOk r (λ s. IsStood g s (held_of mid) (held_of next)) → IfOk r (λ s. AsksStore s mid.over next.over) → OnErr r (next ≡ mid) → Passes mid next
stood_or_not G g (Ok s) mid next a b up d o e = stood G g s mid next a b up d o
stood_or_not G g (Err x) mid next a b up d o e = same_passes G mid next a up e

pub stands_passes : {E : Type 0} (G : Setting) (g : ℕ) (r : Result (Step (Vec SentPacket Global)) E) (last next : Option (List (ℕ × Event))) (old mid between new : Stored) → IsReady G last old mid → IsNoted G between new next → old.vote.up ≡ true
    → IfOk r (λ s. IsStood g s (held_of mid) (held_of between)) → IfOk r (λ s. AsksStore s mid.over between.over) → OnErr r (between ≡ mid) → Passes old new
stands_passes G g r last next old mid between new ready noted up d o e =
    passes_between G last next old mid between new ready (stood_or_not G g r mid between ready.own noted.own (still_up G last old mid ready up) d o e) noted

sent_standing : (g : ℕ) (ps : Vec SentPacket Global) (mid next : Stored) → mid.vote.promised < g → IsStood g (step.Sent ps) (held_of mid) (held_of next) → StandsAsCandidate g ps.items (held_of mid) (held_of next)
sent_standing g ps mid next above d = go d.1
  where
    go : ((g ≤ mid.vote.promised) × (ps.items ≡ []) × IsAsBefore (held_of mid) (held_of next)) ⊎ ((mid.vote.promised < g) × StandsAsCandidate g ps.items (held_of mid) (held_of next)) → StandsAsCandidate g ps.items (held_of mid) (held_of next)
    go (inl t) = absurd (let x : g ≤ mid.vote.promised = t.0 in omega arith)
    go (inr t) = t.1

stands_sent : (g : ℕ) (ps : Vec SentPacket Global) (old mid next new : Stored) → IsAsBefore (held_of old) (held_of mid) → old.vote.promised < g → IsStood g (step.Sent ps) (held_of mid) (held_of next) → IsAsBefore (held_of next) (held_of new)
    → (new.vote ≡ acted old.vote (action.Promise g old.vote.node)) × (numbers ps.items ≡ standing_packets new.vote g)
stands_sent g ps old mid next new same above d noted =
    let s = sent_standing g ps mid next (subst (λ (v : NodeVote). v.promised < g) (sym same.vote) above) d in (
      noted.vote ∙ (s.vote ∙ ap (λ (v : NodeVote). acted v (action.Promise g v.node)) same.vote),
      ap numbers s.sends ∙ (standing_told next.vote g ∙ ap (λ v. standing_packets v g) (sym noted.vote)),
    )

stood_as : (g : ℕ) (s : Step (Vec SentPacket Global)) (old mid next new : Stored) → IsAsBefore (held_of old) (held_of mid) → old.vote.promised < g → IsStood g s (held_of mid) (held_of next) → IsAsBefore (held_of next) (held_of new) → IsStoodBy g (sent_if s) old new
stood_as g (step.Sent ps) old mid next new same above d noted = stands_sent g ps old mid next new same above d noted
stood_as g step.Down old mid next new same above d noted = ap (λ (v : NodeVote). v.up) (noted.vote ∙ d.1.vote) ∙ d.0
stood_as g step.Fault old mid next new same above d noted = ap (λ (v : NodeVote). v.up) (noted.vote ∙ d.2.vote)

reigned : (g : ℕ) (s : Step (Vec SentPacket Global)) (mid next : Stored) → IsStood g s (held_of mid) (held_of next) → next.vote.up ≡ true → Reigns mid next
reigned g (step.Sent ps) mid next d up = go d.1
  where
    go : ((g ≤ mid.vote.promised) × (ps.items ≡ []) × IsAsBefore (held_of mid) (held_of next)) ⊎ ((mid.vote.promised < g) × StandsAsCandidate g ps.items (held_of mid) (held_of next)) → Reigns mid next
    go (inl t) = reigns_still mid next t.2
    go (inr t) = reigns_standing mid next g mid.vote.node t.1.vote t.1.entries
reigned g step.Down mid next d up = reigns_still mid next d.1
reigned g step.Fault mid next d up = absurd (let x : next.vote.up ≡ false = ap (λ (v : NodeVote). v.up) d.2.vote in cc)

pub stands_at_its_turn : {E : Type 0} (G : Setting) (g : ℕ) (r : Result (Step (Vec SentPacket Global)) E) (s : Step (Vec SentPacket Global)) (o : Option (Vec SentPacket Global)) (last next : Option (List (ℕ × Event))) (old mid between new : Stored) → IsReady G last old mid → IsNoted G between new next
    → old.vote.up ≡ true → old.vote.promised < g → r ≡ Ok s → o ≡ sent_if s → IfOk r (λ s. IsStood g s (held_of mid) (held_of between)) → IfOk r (λ s. AsksStore s mid.over between.over) → OnErr r (between ≡ mid) → HasStood g o last old new next
stands_at_its_turn G g r s o last next old mid between new ready noted up above is sent d asked e = record {
  stood = subst (λ t. IsStoodBy g t old new) (sym sent) (stood_as g s old mid between new ready.same above done noted.same);
  reigns = λ on. reigns_between old mid between new ready.same (λ at. reigned g s mid between done at) noted.same on;
  turn = turns_between G last next old mid between new (stood_or_not G g r mid between ready.own noted.own (still_up G last old mid ready up) d asked e) ready noted;
}
  where
    done : IsStood g s (held_of mid) (held_of between)
    done = subst (λ t. IfOk t (λ x. IsStood g x (held_of mid) (held_of between))) is d

-- it sets its log up
set_up : (G : Setting) (tables : List TableDef) (s : Step (Vec SentPacket Global)) (mid next : Stored) → IsOwn G (held_of mid) → IsOwn G (held_of next) → mid.vote.up ≡ true → IsSetUp tables s (held_of mid) (held_of next) → AsksStore s mid.over next.over → Passes mid next
set_up G tables (step.Sent ps) mid next a b up d o = passes_by G (d.1.event ∷ []) mid next a b up d.1.did (calm_append d.1.entry d.1.event d.1.appends) o
set_up G tables step.Down mid next a b up d o = absurd (let x : mid.vote.up ≡ false = d.0 in cc)
set_up G tables step.Fault mid next a b up d o = fell G mid next a b up d.1 o

set_up_or_not : {E : Type 0} (G : Setting) (tables : List TableDef) (r : Result (Step (Vec SentPacket Global)) E) (mid next : Stored) → IsOwn G (held_of mid) → IsOwn G (held_of next) → mid.vote.up ≡ true
    → IfOk r (λ s. IsSetUp tables s (held_of mid) (held_of next)) → IfOk r (λ s. AsksStore s mid.over next.over) → OnErr r (next ≡ mid) → Passes mid next
set_up_or_not G tables (Ok s) mid next a b up d o e = set_up G tables s mid next a b up d o
set_up_or_not G tables (Err x) mid next a b up d o e = same_passes G mid next a up e

pub sets_up_passes : {E : Type 0} (G : Setting) (tables : List TableDef) (r : Result (Step (Vec SentPacket Global)) E) (last next : Option (List (ℕ × Event))) (old mid between new : Stored) → IsReady G last old mid → IsNoted G between new next → old.vote.up ≡ true
    → IfOk r (λ s. IsSetUp tables s (held_of mid) (held_of between)) → IfOk r (λ s. AsksStore s mid.over between.over) → OnErr r (between ≡ mid) → Passes old new
sets_up_passes G tables r last next old mid between new ready noted up d o e =
    passes_between G last next old mid between new ready (set_up_or_not G tables r mid between ready.own noted.own (still_up G last old mid ready up) d o e) noted

set_up_as : (tables : List TableDef) (s : Step (Vec SentPacket Global)) (old mid next new : Stored) → IsAsBefore (held_of old) (held_of mid) → IsSetUp tables s (held_of mid) (held_of next) → IsAsBefore (held_of next) (held_of new) → IsSetUpBy (sent_if s) old new
set_up_as tables (step.Sent ps) old mid next new same d noted = (
  noted.vote ∙ (d.1.vote ∙ ap (λ (v : NodeVote). record v { length = 1 }) same.vote),
  ap numbers d.1.sends ∙ (appending_told next.vote (d.1.entry ∷ []) ∙ ap (λ v. appending_packets v 1) (sym noted.vote)),
)
set_up_as tables step.Down old mid next new same d noted = ap (λ (v : NodeVote). v.up) (noted.vote ∙ d.1.vote) ∙ d.0
set_up_as tables step.Fault old mid next new same d noted = ap (λ (v : NodeVote). v.up) (noted.vote ∙ d.1.vote)

set_up_reigned : (tables : List TableDef) (s : Step (Vec SentPacket Global)) (mid next : Stored) → mid.vote.length ≡ 0 → IsSetUp tables s (held_of mid) (held_of next) → next.vote.up ≡ true → Reigns mid next
set_up_reigned tables (step.Sent ps) mid next empty d up = reigns_setting_up mid next d.1.event d.1.entry empty d.1.appends d.1.did d.1.vote
set_up_reigned tables step.Down mid next empty d up = reigns_still mid next d.1
set_up_reigned tables step.Fault mid next empty d up = absurd (let x : next.vote.up ≡ false = ap (λ (v : NodeVote). v.up) d.1.vote in cc)

pub sets_up_at_its_turn : {E : Type 0} (G : Setting) (tables : List TableDef) (r : Result (Step (Vec SentPacket Global)) E) (s : Step (Vec SentPacket Global)) (o : Option (Vec SentPacket Global)) (last next : Option (List (ℕ × Event))) (old mid between new : Stored) → IsReady G last old mid → IsNoted G between new next
    → old.vote.up ≡ true → old.vote.length ≡ 0 → r ≡ Ok s → o ≡ sent_if s → IfOk r (λ s. IsSetUp tables s (held_of mid) (held_of between)) → IfOk r (λ s. AsksStore s mid.over between.over) → OnErr r (between ≡ mid) → HasSetUp o last old new next
sets_up_at_its_turn G tables r s o last next old mid between new ready noted up empty is sent d asked e = record {
  set_up = subst (λ t. IsSetUpBy t old new) (sym sent) (set_up_as tables s old mid between new ready.same done noted.same);
  reigns = λ on. reigns_between old mid between new ready.same (λ at. set_up_reigned tables s mid between (ap (λ (v : NodeVote). v.length) ready.same.vote ∙ empty) done at) noted.same on;
  turn = turns_between G last next old mid between new (set_up_or_not G tables r mid between ready.own noted.own (still_up G last old mid ready up) d asked e) ready noted;
}
  where
    done : IsSetUp tables s (held_of mid) (held_of between)
    done = subst (λ t. IfOk t (λ x. IsSetUp tables x (held_of mid) (held_of between))) is d

-- A leader appends an entry, or tells what it decided in place of one.
use Rattle.std.proofs.Common.{ℕ, ◌≡◌, ◌+◌, ◌-◌, List, [], ◌∷◌, ◌++◌, length, get_or, slice_set, refl, sym, ap, ◌∙◌}
use Rattle.std.specs.Prelude.{true, Some}
use Rattle.std.proofs.lemmas.List.{length_push}
use Rattle.cluster_events.specs.Settings.{Setting}
use Rattle.cluster_steps.specs.declared.events.Event.{Event}
use Rattle.cluster_steps.specs.declared.events.Event.TheVariants as event
use Rattle.election_core.specs.declared.votes.NodeVote.{NodeVote}
use Rattle.node_clusters.proofs.AloneLaws.{passes_alone, stays_alone}
use Rattle.node_clusters.proofs.EventLaws.{calm_append}
use Rattle.kept_log.specs.Kept.{OverStore}
use Rattle.node_clusters.proofs.LedLaws.{appends_so}
use Rattle.node_clusters.proofs.OutcomeLaws.{long}
use Rattle.node_clusters.proofs.PacketLaws.{appending_told}
use Rattle.node_clusters.proofs.PlaceLaws.{placed}
use Rattle.node_clusters.specs.Clusters.{HasPlace, IsAlone, IsCluster, IsQuiet}
use Rattle.node_clusters.specs.Events.{AreCalm}
use Rattle.node_clusters.specs.Passes.{PassAll}
use Rattle.node_clusters.specs.Numbers.{numbers}
use Rattle.node_clusters.specs.Places.{votes}
use Rattle.node_state.specs.Commits.{Enters, IsSettle, Settles}
use Rattle.node_state.specs.Nodes.{IsOwn}
use Rattle.node_state.specs.Packets.{SentPacket}
use Rattle.node_state.specs.Stores.{IsCalm, Stored, held_of}
use Rattle.phys_log.specs.declared.entries.CommitId.{CommitId}
use Rattle.phys_log.specs.declared.entries.Entry.{Entry}
use Rattle.phys_log.specs.declared.requests.Decision.{Decision}

-- its log is longer by one, and it is shipped: the leader leads on
pub enters_so : (G : Setting) (vs us : List Stored) (q r ps : List SentPacket) (m : ℕ) (v u : Stored) (next : Entry) → IsCluster G vs q (Some m) → HasPlace vs m → v ≡ get_or vs (m - 1) v → us ≡ slice_set vs (m - 1) u
    → IsOwn G (held_of v) → IsOwn G (held_of u) → IsCalm v.over u.over → Enters next ps (held_of v) (held_of u) → q ≡ [] → r ≡ q ++ ps
    → PassAll vs us × (IsCluster G us r (Some m) × (IsAlone vs (Some m) → IsAlone us (Some m)))
enters_so G vs us q r ps m v u next k place at put own after calm e none behind = (passed, appends_so G vs us q r ps m u k passed place put changed (ap numbers e.sends ∙ appending_told u.vote (next ∷ [])) none behind)
  where
    its : votes vs m ≡ v.vote
    its = ap (λ (t : Stored). t.vote) (placed vs m v place.0 place.1 at)

    up : v.vote.up ≡ true
    up = ap (λ (t : NodeVote). t.up) (sym its) ∙ k.led.leads.up

    passed : PassAll vs us
    passed = passes_alone G vs us m v u (e.event ∷ []) place at put own after up e.did (calm_append next e.event e.appends) calm

    longer : length u.entries ≡ v.vote.length + 1
    longer = ap length e.entries ∙ (length_push v.entries next ∙ ap (λ l. l + 1) (long G (held_of v) own))

    changed : u.vote ≡ record (votes vs m) { length = (votes vs m).length + 1 }
    changed = e.vote ∙ (ap (λ l. record v.vote { length = l }) longer ∙ ap (λ (t : NodeVote). record t { length = t.length + 1 }) (sym its))

calm_settled : (id : CommitId) (d : Decision) (e : Event) → IsSettle id d e → AreCalm (e ∷ [])
calm_settled id d (event.Settle request told) h = record { no_ups = (tt, tt); no_falls = refl }
calm_settled id d _ h = absurd h

-- its numbers stay, and those of all others
pub settles_so : (G : Setting) (vs us : List Stored) (q : List SentPacket) (m : ℕ) (v u : Stored) (id : CommitId) (d : Decision) → IsCluster G vs q (Some m) → HasPlace vs m → v ≡ get_or vs (m - 1) v → us ≡ slice_set vs (m - 1) u
    → IsOwn G (held_of v) → IsOwn G (held_of u) → u.over ≡ v.over → Settles id d (held_of v) (held_of u)
    → PassAll vs us × (IsCluster G us q (Some m) × (IsQuiet G vs (Some m) → IsQuiet G us (Some m)))
settles_so G vs us q m v u id d k place at put own after over s = (
  passes_alone G vs us m v u (s.event ∷ []) place at put own after up s.did (calm_settled id d s.event s.settles) (ap (λ (o : OverStore). o.faults) over, ap (λ (o : OverStore). o.cluster) over),
  stays_alone G vs us q (Some m) m v u k place at put s.vote,
)
  where
    up : v.vote.up ≡ true
    up = ap (λ (t : Stored). t.vote.up) (sym (placed vs m v place.0 place.1 at)) ∙ k.led.leads.up

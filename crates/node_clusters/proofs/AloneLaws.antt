-- One node alone had a call of its own.
use Rattle.std.proofs.Common.{ℕ, ◌≡◌, ◌-◌, ◌<◌, ◌≤◌, List, length, get_or, slice_set, sym, subst, ap, ◌∙◌}
use Rattle.std.specs.Prelude.{true, Option, None, Some, IfSome}
use Rattle.std.proofs.Math.ListN.{length-set}
use mathlib.Core.Logic.{◌⊎◌, inl, inr}
use Rattle.blkseq_table.specs.OfLogs.{identities_of}
use Rattle.cluster_events.specs.Settings.{Setting}
use Rattle.cluster_steps.specs.declared.events.Event.{Event}
use Rattle.election_core.specs.declared.votes.NodeVote.{NodeVote}
use Rattle.node_commits.specs.Ledgers.{Book, IsBookOf}
use Rattle.node_clusters.proofs.PassLaws.{one_passes}
use Rattle.node_clusters.proofs.PlaceLaws.{place_other, place_self, placed}
use Rattle.node_clusters.proofs.StepLaws.{passes_by}
use Rattle.node_clusters.specs.Clusters.{HasPlace, IsCluster, IsQuiet}
use Rattle.node_clusters.specs.Events.{AreCalm}
use Rattle.node_clusters.specs.Numbers.{numbers}
use Rattle.node_clusters.specs.Passes.{PassAll}
use Rattle.node_clusters.specs.Places.{node_at, votes}
use Rattle.node_clusters.specs.Reigns.{KeepsBook, told_at}
use Rattle.node_state.specs.Calls.{Did}
use Rattle.node_state.specs.Nodes.{IsOwn}
use Rattle.node_state.specs.Packets.{SentPacket}
use Rattle.node_state.specs.Stores.{IsCalm, Stored, held_of}
use Rattle.quiet_cluster.proofs.Lists.{same_or}
use Rattle.quiet_cluster.specs.Led.{Led}
use Rattle.quiet_cluster.specs.Quiet.{Quiet}

-- it did these events
pub passes_alone : (G : Setting) (vs us : List Stored) (i : ℕ) (v u : Stored) (es : List Event) → HasPlace vs i → v ≡ get_or vs (i - 1) v → us ≡ slice_set vs (i - 1) u → IsOwn G (held_of v) → IsOwn G (held_of u) → v.vote.up ≡ true → Did es (held_of v) (held_of u) → AreCalm es → IsCalm v.over u.over → PassAll vs us
passes_alone G vs us i v u es place at put own after up did calm store = one_passes vs us i v u place.0 place.1 at put (passes_by G es v u own after up did calm store)

-- its numbers stay, and those of all others
same_votes : (vs us : List Stored) → ((k : ℕ) → votes us k ≡ votes vs k) → votes us ≡ votes vs
same_votes vs us h = λ i k. h k i

pub votes_alone : (vs us : List Stored) (i : ℕ) (v u : Stored) → HasPlace vs i → v ≡ get_or vs (i - 1) v → us ≡ slice_set vs (i - 1) u → u.vote ≡ v.vote → votes us ≡ votes vs
votes_alone vs us i v u place at put same = same_votes vs us (λ j. each j (same_or j i))
  where
    each : (j : ℕ) → (j ≡ i) ⊎ (j ≡ i → ⊥) → votes us j ≡ votes vs j
    each j (inl e) = ap (λ k. votes us k) e
        ∙ (ap (λ (t : Stored). t.vote) (ap (λ t. node_at t i) put ∙ place_self vs i u place.0 place.1)
        ∙ (same ∙ (ap (λ (t : Stored). t.vote) (sym (placed vs i v place.0 place.1 at)) ∙ ap (λ k. votes vs k) (sym e))))
    each j (inr ne) = ap (λ (t : Stored). t.vote) (ap (λ t. node_at t j) put ∙ place_other vs i u j place.0 ne)

quiet_alone : (G : Setting) (vs us : List Stored) (master : Option ℕ) → votes us ≡ votes vs → IsQuiet G vs master → IsQuiet G us master
quiet_alone G vs us None same quiet = quiet
quiet_alone G vs us (Some m) same quiet = subst (λ (to : ℕ → NodeVote). Quiet G.nodes to m (to m).accepted (to m).length) (sym same) quiet

stays_so : (G : Setting) (vs us : List Stored) (q : List SentPacket) (master : Option ℕ) → length us ≡ length vs → votes us ≡ votes vs → IsCluster G vs q master → IsCluster G us q master
stays_so G vs us q master size same k = record {
  nodes = record {
    size = size ∙ k.nodes.size;
    few = k.nodes.few;
    placed = subst (λ (to : ℕ → NodeVote). (j : ℕ) → 0 < j → j ≤ G.nodes → (to j).node ≡ j) (sym same) k.nodes.placed;
  };
  led = subst (λ (to : ℕ → NodeVote). IfSome master (λ m. Led G.nodes to (numbers q) m (to m).accepted (to m).length)) (sym same) k.led;
}

pub stays_alone : (G : Setting) (vs us : List Stored) (q : List SentPacket) (master : Option ℕ) (i : ℕ) (v u : Stored) → IsCluster G vs q master → HasPlace vs i → v ≡ get_or vs (i - 1) v → us ≡ slice_set vs (i - 1) u → u.vote ≡ v.vote
    → IsCluster G us q master × (IsQuiet G vs master → IsQuiet G us master)
stays_alone G vs us q master i v u k place at put same = (stays_so G vs us q master (ap length put ∙ length-set vs (i - 1) u) all k, λ quiet. quiet_alone G vs us master all quiet)
  where
    all : votes us ≡ votes vs
    all = votes_alone vs us i v u place at put same

-- and so do its log and what it told
kept_book : (vs us : List Stored) (i : ℕ) (v u : Stored) (m : ℕ) (b : Book) → HasPlace vs i → v ≡ get_or vs (i - 1) v → us ≡ slice_set vs (i - 1) u → u.entries ≡ v.entries → told_at u ≡ told_at v → (m ≡ i) ⊎ (m ≡ i → ⊥) → IsBookOf b (held_of (node_at vs m)) → IsBookOf b (held_of (node_at us m))
kept_book vs us i v u m b place at put log told (inl e) k =
    subst (λ (t : Stored). IsBookOf b (held_of t)) (sym (ap (λ j. node_at us j) e ∙ (ap (λ t. node_at t i) put ∙ place_self vs i u place.0 place.1))) (record { known = its.known ∙ ap identities_of (sym log); told = its.told ∙ sym told })
  where
    its : IsBookOf b (held_of v)
    its = subst (λ (t : Stored). IsBookOf b (held_of t)) (ap (λ j. node_at vs j) e ∙ placed vs i v place.0 place.1 at) k
kept_book vs us i v u m b place at put log told (inr ne) k = subst (λ (t : Stored). IsBookOf b (held_of t)) (sym (ap (λ t. node_at t m) put ∙ place_other vs i u m place.0 ne)) k

pub book_alone_stays : (vs us : List Stored) (master : Option ℕ) (i : ℕ) (v u : Stored) → HasPlace vs i → v ≡ get_or vs (i - 1) v → us ≡ slice_set vs (i - 1) u → u.entries ≡ v.entries → told_at u ≡ told_at v → KeepsBook vs master us master
book_alone_stays vs us None i v u place at put log told = λ b k. tt
book_alone_stays vs us (Some m) i v u place at put log told = λ b k. kept_book vs us i v u m b place at put log told (same_or m i) k

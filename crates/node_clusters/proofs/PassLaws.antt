-- What nodes do while packets are delivered, one delivery after the other.
use Rattle.std.proofs.Common.{ℕ, ◌≡◌, ◌-◌, ◌<◌, ◌≤◌, List, [], ◌++◌, length, get_or, slice_set, arith, refl, sym, subst, ap, ◌∙◌}
use Rattle.std.specs.Prelude.{false, Option}
use Rattle.std.proofs.Math.ListN.{length-set}
use mathlib.Core.Logic.{◌⊎◌, inl, inr}
use Rattle.cdb_outside.specs.Faults.{Rose}
use Rattle.cluster_events.specs.Settings.{Setting}
use Rattle.cluster_steps.specs.declared.events.Event.{Event}
use Rattle.election_core.specs.declared.votes.NodeVote.{NodeVote}
use Rattle.kept_log.specs.Kept.{OverStore}
use Rattle.node_clusters.proofs.EventLaws.{falls_join, no_ups_join}
use Rattle.node_clusters.proofs.PlaceLaws.{place_other, place_self, placed}
use Rattle.node_clusters.specs.Clusters.{HasPlace}
use Rattle.node_clusters.specs.Events.{falls_in}
use Rattle.node_clusters.specs.Looks.{IsNoted, IsReady}
use Rattle.node_clusters.specs.Passes.{CountsFaults, PassAll, Passes, Sleeps}
use Rattle.node_clusters.specs.Places.{node_at}
use Rattle.node_state.proofs.CallLaws.{before_then, did_then, unchanged}
use Rattle.node_state.specs.Calls.{IsAsBefore}
use Rattle.node_state.specs.Stores.{Stored, held_of}
use Rattle.quiet_cluster.proofs.Lists.{same_or}

pub as_before_passes : (old new : Stored) → IsAsBefore (held_of old) (held_of new) → new.over ≡ old.over → Passes old new
as_before_passes old new same over = record {
  events = [];
  did = same.did;
  no_up = tt;
  node = ap (λ (v : NodeVote). v.node) same.vote;
  cluster = ap (λ (o : OverStore). o.cluster) over;
  sleeps = λ down. record { none = refl; same = same; over = over };
  counts = inl (refl, ap (λ (o : OverStore). o.faults) over);
}

-- nothing is done
pub unmoved : (v u : Stored) → u ≡ v → IsAsBefore (held_of v) (held_of u)
unmoved v u e = subst (λ t. IsAsBefore (held_of v) (held_of t)) (sym e) (unchanged (held_of v))

pub passes_itself : (v : Stored) → Passes v v
passes_itself v = as_before_passes v v (unchanged (held_of v)) refl

sleeps_then : (es fs : List Event) (a b c : Stored) → Sleeps es a b → Sleeps fs b c → Sleeps (es ++ fs) a c
sleeps_then es fs a b c x y = record {
  none = ap (λ t. t ++ fs) x.none ∙ y.none;
  same = before_then (held_of a) (held_of b) (held_of c) x.same y.same;
  over = y.over ∙ x.over;
}

still_down : (es : List Event) (a b : Stored) → a.vote.up ≡ false → Sleeps es a b → b.vote.up ≡ false
still_down es a b down x = ap (λ (v : NodeVote). v.up) x.same.vote ∙ down

counts_then : (es fs : List Event) (a b c : Stored) → CountsFaults es a b → CountsFaults fs b c → (b.vote.up ≡ false → Sleeps fs b c) → CountsFaults (es ++ fs) a c
counts_then es fs a b c (inl x) (inl y) sleeps =
    inl ((let j = falls_join es fs in let p : falls_in es ≡ 0 = x.0 in let q : falls_in fs ≡ 0 = y.0 in let r : falls_in (es ++ fs) ≡ 0 = omega arith in r), y.1 ∙ x.1)
counts_then es fs a b c (inl x) (inr y) sleeps =
    inr ((let j = falls_join es fs in let p : falls_in es ≡ 0 = x.0 in let q : falls_in fs ≡ 1 = y.0 in let r : falls_in (es ++ fs) ≡ 1 = omega arith in r), y.1, subst (λ n. Rose n c.over.faults) x.1 y.2)
counts_then es fs a b c (inr x) y sleeps =
    let s = sleeps x.1 in
    let none : falls_in fs ≡ 0 = ap falls_in s.none in
    inr (
      (let j = falls_join es fs in let p : falls_in es ≡ 1 = x.0 in let r : falls_in (es ++ fs) ≡ 1 = omega arith in r),
      still_down fs b c x.1 s,
      subst (λ (o : OverStore). Rose a.over.faults o.faults) (sym s.over) x.2,
    )

pub passes_then : (a b c : Stored) → Passes a b → Passes b c → Passes a c
passes_then a b c x y = record {
  events = x.events ++ y.events;
  did = did_then x.events y.events (held_of a) (held_of b) (held_of c) x.did y.did;
  no_up = no_ups_join x.events y.events x.no_up y.no_up;
  node = y.node ∙ x.node;
  cluster = y.cluster ∙ x.cluster;
  sleeps = λ down. let s = x.sleeps down in sleeps_then x.events y.events a b c s (y.sleeps (still_down x.events a b down s));
  counts = counts_then x.events y.events a b c x.counts y.counts y.sleeps;
}

-- a call between two looks
pub ready_passes : (G : Setting) (last : Option (List (ℕ × Event))) (old new : Stored) → IsReady G last old new → Passes old new
ready_passes G last old new a = as_before_passes old new a.same a.over

pub passes_between : (G : Setting) (last next : Option (List (ℕ × Event))) (old mid between new : Stored) → IsReady G last old mid → Passes mid between → IsNoted G between new next → Passes old new
passes_between G last next old mid between new a p b = passes_then old mid new (as_before_passes old mid a.same a.over) (passes_then mid between new p (as_before_passes between new b.same b.over))

pub all_pass_themselves : (vs : List Stored) → PassAll vs vs
all_pass_themselves vs = record { size = refl; each = λ k. passes_itself (node_at vs k) }

pub all_pass_then : (vs us ws : List Stored) → PassAll vs us → PassAll us ws → PassAll vs ws
all_pass_then vs us ws a b = record { size = b.size ∙ a.size; each = λ k. passes_then (node_at vs k) (node_at us k) (node_at ws k) (a.each k) (b.each k) }

-- one node alone
pub passes_at : (vs us : List Stored) (i : ℕ) (u : Stored) → HasPlace vs i → us ≡ slice_set vs (i - 1) u → Passes (node_at vs i) u → PassAll vs us
passes_at vs us i u place put p = subst (λ t. PassAll vs t) (sym put) (record { size = length-set vs (i - 1) u; each = λ k. go k (same_or k i) })
  where
    go : (k : ℕ) → (k ≡ i) ⊎ (k ≡ i → ⊥) → Passes (node_at vs k) (node_at (slice_set vs (i - 1) u) k)
    go k (inl e) = subst (λ j. Passes (node_at vs j) (node_at (slice_set vs (i - 1) u) j)) (sym e) (subst (λ t. Passes (node_at vs i) t) (sym (place_self vs i u place.0 place.1)) p)
    go k (inr ne) = subst (λ t. Passes (node_at vs k) t) (sym (place_other vs i u k place.0 ne)) (passes_itself (node_at vs k))

pub one_passes : (vs us : List Stored) (i : ℕ) (v u : Stored) → 0 < i → i ≤ length vs → v ≡ get_or vs (i - 1) v → us ≡ slice_set vs (i - 1) u → Passes v u → PassAll vs us
one_passes vs us i v u low high at put p = passes_at vs us i u (low, high) put (subst (λ t. Passes t u) (sym (placed vs i v low high at)) p)

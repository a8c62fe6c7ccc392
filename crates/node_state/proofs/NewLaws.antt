-- A node that did nothing yet.
use Rattle.std.proofs.Common.{ℕ, ◌≡◌, ◌≤◌, List, [], ◌++◌, map, refl, sym, subst, ap, ◌∙◌}
use Rattle.std.specs.Prelude.{true, false}
use Rattle.actor_trace.specs.Actors.{Knows}
use Rattle.actor_trace.specs.History.{entries_of}
use Rattle.cluster_consensus.specs.Facts.{Own, blank}
use Rattle.cluster_events.specs.Arms.{last_fired}
use Rattle.cluster_events.specs.Settings.{Setting}
use Rattle.cluster_requests.specs.KeptEntries.{KeptEntry, plain}
use Rattle.cluster_steps.specs.Guards.{IsPlan, AreLegalSteps}
use Rattle.cluster_steps.specs.Named.{steps, world}
use Rattle.cluster_steps.specs.declared.events.Event.{Event}
use Rattle.cluster_steps.proofs.StepLaws.{idle}
use Rattle.election_core.specs.Told.{IsPart}
use Rattle.election_core.proofs.Acted.{no_bit}
use Rattle.election_core.specs.declared.votes.NodeVote.{NodeVote}
use Rattle.kept_log.specs.Kept.{OverStore}
use Rattle.node_state.specs.declared.faults.UnderWay.{UnderWay}
use Rattle.node_state.specs.Nodes.{IsOwn, blank_vote, held}
use Rattle.node_state.specs.Stores.{IsKeptBy, IsStored}
use Rattle.node_state.proofs.LogLists.{none_behind}
use Rattle.node_state.proofs.NodeLaws.{fired_more}

-- who did nothing
pub nothing_done : (i : ℕ) (seen : List (ℕ × Event)) → entries_of i seen ≡ [] → entries_of i (seen ++ []) ≡ entries_of i []
nothing_done i seen e = ap (entries_of i) (none_behind seen) ∙ e

pub blank_part : (G : Setting) (i : ℕ) (seen : List (ℕ × Event)) → entries_of i seen ≡ [] → (world G seen).nodes i ≡ blank
blank_part G i seen e = ap (λ t. (world G t).nodes i) (sym (none_behind seen)) ∙ idle G i seen [] (nothing_done i seen e)

pub new_own : (G : Setting) (node nodes : ℕ) (a : Knows Event) → IsPlan G → nodes ≡ G.nodes → nodes ≤ 7 → 1 ≤ node → node ≤ nodes → a.number ≡ node → a.made ≡ [] → a.made ≡ entries_of a.number a.seen → AreLegalSteps G a.seen
    → IsOwn G (held (blank_vote node nodes) [] a)
new_own G node nodes a plan n few low high number made own legal =
    let none : entries_of node a.seen ≡ [] = ap (λ i. entries_of i a.seen) (sym number) ∙ (sym own ∙ made) in
    let part = blank_part G node a.seen none in
    record {
      node = record {
        low = low;
        high = subst (λ k. node ≤ k) n high;
        nodes_is = n;
        few = subst (λ k. k ≤ 7) n few;
        plan = plan;
        legal = legal;
        unarmed = ap (λ t. last_fired node (steps G t)) (sym (none_behind a.seen)) ∙ fired_more G node a.seen [] (nothing_done node a.seen none);
        part = subst (λ (o : Own KeptEntry). IsPart (blank_vote node nodes) o) (sym part) (record { promised = refl; accepted = refl; length = refl; adopted = refl; durable = refl; leading = refl; up = refl });
        log_is = ap (λ (o : Own KeptEntry). map plain o.log) (sym part);
        logged = tt;
        counted = record { size = refl; granted = λ k e. absurd (no_bit k e); acked = λ (lead : false ≡ true) l k one e. absurd (cc) };
      };
      number_is = sym number;
    }

-- over a store that it did not open yet
pub new_stored : (G : Setting) (node nodes : ℕ) (v : NodeVote) (o : OverStore) (a : Knows Event) (u : UnderWay) → a.number ≡ node → a.made ≡ [] → a.made ≡ entries_of a.number a.seen → v ≡ blank_vote node nodes → IsKeptBy (blank_vote node nodes) o
    → o.entries ≡ [] → IsOwn G (held (blank_vote node nodes) [] a) → IsStored G (held v o.entries a) o u
new_stored G node nodes v o a u number made own e k none is =
    subst (λ t. IsStored G (held t o.entries a) o u) (sym e) (record {
      own = subst (λ es. IsOwn G (held (blank_vote node nodes) es a)) (sym none) is;
      over = k;
      down = λ down was. (let z : false ≡ true = ap (λ (x : Own KeptEntry). x.was_up) (sym (blank_part G node a.seen nothing)) ∙ was in absurd (cc));
    })
  where
    nothing : entries_of node a.seen ≡ []
    nothing = ap (λ i. entries_of i a.seen) (sym number) ∙ (sym own ∙ made)

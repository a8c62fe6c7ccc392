-- A commit that may be told is known: its entry ends what is known then.
use Rattle.std.proofs.Common.{ℕ, ◌≡◌, ◌+◌, ◌≤◌, List, [], ◌∷◌, ◌++◌, length, arith, sym, subst, ap, ◌∙◌, length-append}
use Rattle.std.specs.Prelude.{Some, unwrap_or}
use mathlib.Core.Logic.{inl}
use Rattle.core_lists.specs.Fronts.{Front}
use Rattle.core_lists.specs.Lists.{In}
use Rattle.core_lists.proofs.Fronts.{front_refl}
use Rattle.core_lists.proofs.Lists.{nothing}
use Rattle.cluster_consensus.specs.Events.{NodeEvent, change}
use Rattle.cluster_consensus.specs.Events.NodeEvent.{Lead, Append, Down, Asks}
use Rattle.cluster_consensus.specs.Facts.{Claim, Own, World}
use Rattle.cluster_consensus.specs.Shipped.{find_log}
use Rattle.cluster_consensus.proofs.Kept.{at_node}
use Rattle.cluster_consensus.proofs.Lengths.{front_found}
use Rattle.cluster_events.specs.Guards.{IsActedBy, IsKept, IsLegalHistory, MayDo}
use Rattle.cluster_events.specs.Parts.{ActorEvent, add_act, acts, field}
use Rattle.cluster_events.specs.Settings.{Setting}
use Rattle.cluster_events.proofs.HistoryLaws.{steps as core_steps}
use Rattle.cluster_facts.proofs.ToldLaws.{shipped_accepted}
use Rattle.cluster_masters.proofs.MasterLaws.{committed_by}
use Rattle.cluster_requests.specs.KeptEntries.{KeptEntry}
use Rattle.cluster_requests.specs.Requests.{field_after}
use Rattle.cluster_steps.specs.Guards.{AreLegalSteps}
use Rattle.cluster_steps.specs.Named.{steps, world}
use Rattle.cluster_steps.specs.declared.events.Event.{Event}
use Rattle.cluster_steps.proofs.StepLaws.{core_legal, inv_of, legal_steps, world_is}
use Rattle.phys_log.specs.declared.entries.CommitId.{CommitId}
use Rattle.session_fronts.specs.Fronts.{front_of, IsKnown}

-- a node that ships a log is one of n
abbrev pub ShipsOf : ℕ → ℕ → Own KeptEntry → Type 0
ShipsOf n k o = (x : Claim KeptEntry) → In x o.ships → (1 ≤ k) × (k ≤ n)

new_ships : (n i : ℕ) (o : Own KeptEntry) (e : NodeEvent KeptEntry) → IsActedBy n i e → ShipsOf n i o → ShipsOf n i (change i o e)
new_ships n i o Lead by old x m = by
new_ships n i o (Append e) by old x m = by
new_ships n i o _ by old x m = old x m

ships_step : (G : Setting) (g : List (ℕ × ActorEvent)) (i : ℕ) (e : ActorEvent) → MayDo G g i e → ((k : ℕ) → ShipsOf G.nodes k ((field g).core.nodes k)) → (k : ℕ) → ShipsOf G.nodes k ((field_after (add_act i e (acts g))).core.nodes k)
ships_step G g i (ActorEvent.Node e) may old k = at_node (field g).core i e (λ j o. ShipsOf G.nodes j o) k (new_ships G.nodes i ((field g).core.nodes i) e may.2 (old i)) (old k)
ships_step G g i ActorEvent.Stop may old k = at_node (field g).core i Down (λ j o. ShipsOf G.nodes j o) k (old i) (old k)
ships_step G g i (ActorEvent.Ask t) may old k = at_node (field g).core i (Asks t) (λ j o. ShipsOf G.nodes j o) k (old i) (old k)
ships_step G g i _ may old k = old k

ships_of_nodes : (G : Setting) (g : List (ℕ × ActorEvent)) → IsLegalHistory G g → (k : ℕ) → ShipsOf G.nodes k ((field g).core.nodes k)
ships_of_nodes G [] legal k = λ x m. absurd (nothing m)
ships_of_nodes G (x ∷ g) legal k = ships_step G g x.0 x.1 legal.0 (ships_of_nodes G g legal.1) k

pub shipped_is_accepted : (G : Setting) (h : List (ℕ × Event)) → AreLegalSteps G h → (m : ℕ) (c : Claim KeptEntry) → In c ((world G h).nodes m).ships → In c ((world G h).nodes m).accepts
shipped_is_accepted G h l m c mem =
    let q = world_is G h in
    subst (λ (w : World KeptEntry). In c (w.nodes m).accepts) (sym q) (shipped_accepted G.nodes m (core_steps (steps G h)) c (core_legal G h l) (subst (λ (w : World KeptEntry). In c (w.nodes m).ships) q mem))

pub committed_known : (G : Setting) (h : List (ℕ × Event)) → AreLegalSteps G h → (id : CommitId) (position : ℕ) (k : IsKept (field (steps G h)) id position)
    → IsKnown G (world G h) (record { begin = position; gen = k.gen }) × (front_of G (world G h) (record { begin = position; gen = k.gen }) ≡ k.before ++ k.entry ∷ [])
committed_known G h l id position k = (known, named)
  where
    size : length (k.before ++ k.entry ∷ []) ≡ position
    size = let n = length-append k.before (k.entry ∷ []) in let p = k.position in omega (arith, n, p)

    by : (1 ≤ k.kept.0) × (k.kept.0 ≤ G.nodes)
    by = ships_of_nodes G (steps G h) (legal_steps G h l) k.kept.0 k.kept.2.it k.kept.2.mem

    found : find_log (world G h) k.gen position G.nodes ≡ Some (k.before ++ k.entry ∷ [])
    found = subst (λ z. find_log (world G h) k.gen z G.nodes ≡ Some (k.before ++ k.entry ∷ [])) size
        (front_found (inv_of G h l) k.gen k.kept.0 G.nodes k.kept.2.it (k.before ++ k.entry ∷ []) k.kept.2.mem k.kept.2.is.0 k.kept.2.is.1 by.0 by.1)

    named : front_of G (world G h) (record { begin = position; gen = k.gen }) ≡ k.before ++ k.entry ∷ []
    named = ap (λ z. unwrap_or z []) found

    known : IsKnown G (world G h) (record { begin = position; gen = k.gen })
    known = record {
      found = found ∙ ap (λ z. Some z) (sym named);
      gen = k.gen;
      log = k.before ++ k.entry ∷ [];
      durable = committed_by (inv_of G h l) k.gen k.kept.0 k.kept.1 (k.before ++ k.entry ∷ []) k.kept.2.it k.kept.3.it
          (shipped_is_accepted G h l k.kept.0 k.kept.2.it k.kept.2.mem) k.kept.2.is.0 k.kept.2.is.1 k.kept.3.mem k.kept.3.is.0 k.kept.3.is.1;
      begins = subst (λ z. Front z (k.before ++ k.entry ∷ [])) (sym named) (front_refl (k.before ++ k.entry ∷ []));
      by = k.gen;
      answered = inl (k.kept.1, record { it = k.kept.3.it; mem = k.kept.3.mem; is = (k.kept.3.is.0, let long = k.kept.3.is.1 in omega (arith, size, long)) });
    }

-- An entry of a leader's log is committed where a length that is told durable in its generation reaches it.
use Rattle.std.proofs.Common.{ℕ, ◌≡◌, ◌+◌, ◌≤◌, List, [], ◌∷◌, ◌++◌, length, arith, sym, subst, length-append}
use Rattle.std.specs.Prelude.{true}
use Rattle.core_lists.specs.Fronts.{Front}
use Rattle.core_lists.specs.Lists.{Has, In}
use Rattle.cluster_consensus.specs.Facts.{Claim, World}
use Rattle.cluster_events.specs.Guards.{IsKept}
use Rattle.cluster_events.specs.Parts.{field}
use Rattle.cluster_events.specs.Settings.{Setting}
use Rattle.cluster_events.proofs.HistoryLaws.{steps as core_steps}
use Rattle.cluster_facts.proofs.ToldLaws.{shipping}
use Rattle.cluster_requests.specs.Identities.{HasAt}
use Rattle.cluster_requests.specs.KeptEntries.{KeptEntry}
use Rattle.cluster_steps.specs.Named.{steps, world}
use Rattle.cluster_steps.specs.declared.events.Event.{Event}
use Rattle.cluster_steps.proofs.StepLaws.{core_legal, world_is}
use Rattle.cluster_steps.specs.Guards.{AreLegalSteps}
use Rattle.phys_log.specs.declared.entries.CommitId.{CommitId}

pub kept_by : (G : Setting) (h : List (ℕ × Event)) (i j position : ℕ) (id : CommitId) (d : Claim KeptEntry) → AreLegalSteps G h → ((world G h).nodes i).leading ≡ true → HasAt id position ((world G h).nodes i).log
    → In d ((world G h).nodes j).durables → d.gen ≡ ((world G h).nodes i).accepted → position ≤ length d.log → IsKept (field (steps G h)) id position
kept_by G h i j position id d l lead at mem gen long =
    let q = world_is G h in
    let w : World KeptEntry = world G h in
    let s : Has (λ s. (s.gen ≡ (w.nodes i).accepted) × (s.log ≡ (w.nodes i).log)) (w.nodes i).ships =
    subst (λ (v : World KeptEntry). Has (λ s. (s.gen ≡ (v.nodes i).accepted) × (s.log ≡ (v.nodes i).log)) (v.nodes i).ships) (sym q)
    (shipping G.nodes i (core_steps (steps G h)) (core_legal G h l) (subst (λ (v : World KeptEntry). (v.nodes i).leading ≡ true) q lead)) in
    let n = length-append at.before (at.entry ∷ []) in
    let place : length at.before + 1 ≡ position = at.place in
    record {
      gen = ((world G h).nodes i).accepted;
      before = at.before;
      entry = at.entry;
      kept = (
        i,
        j,
        record { it = s.it; mem = s.mem; is = (s.is.0, subst (λ z. Front (at.before ++ at.entry ∷ []) z) (sym s.is.1) at.front) },
        record { it = d; mem = mem; is = (gen, omega arith) },
      );
      its_id = at.is;
      position = sym place;
    }

-- Stores of an earlier run: node 2 has one entry more. Node 1 leads, then node 2. The newest event comes first.
use Rattle.std.specs.Prelude.{ℕ, List, [], ◌∷◌}
use Rattle.cluster_consensus.specs.Events.{NodeEvent}
use Rattle.cluster_consensus.specs.Events.NodeEvent.{Admits, Boot, Stand, Grants, Lead, Take}

abbrev pub two_masters : List (ℕ × NodeEvent ℕ)
two_masters =
    (3, Take 7 (7 ∷ 8 ∷ [])) ∷ (2, Lead) ∷ (3, Grants 7 2) ∷ (2, Stand 7) ∷ (1, Lead) ∷ (3, Grants 6 1) ∷ (1, Stand 6) ∷ (3, Boot 5 5 (7 ∷ [])) ∷ (2, Boot 5 5 (7 ∷ 8 ∷ [])) ∷ (1, Boot 5 5 (7 ∷ [])) ∷ (0, Admits 3 5 5) ∷ (0, Admits 2 5 5) ∷ (0, Admits 1 5 5) ∷ []

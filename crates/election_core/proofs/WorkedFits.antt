-- The stores that the head of specs/Fits.antt tells of.
use Rattle.std.proofs.Common.{ℕ, ◌≡◌, ◌<◌, List, [], ◌∷◌, arith, refl}
use Rattle.core_lists.specs.Lists.{In, Each}
use Rattle.core_lists.specs.Lists.In.{here, there}
use Rattle.core_lists.proofs.Lists.{each_add, each_none}
use Rattle.cluster_consensus.specs.Enabled.{Fit}
use Rattle.cluster_consensus.specs.Facts.{Admit}
use Rattle.election_core.specs.Fits.{IsLowestUnfit, IsPromised}
use Rattle.election_core.proofs.Fitting.{covered_yes, covered_no}

abbrev read : ℕ → ℕ → ℕ → Admit
read node promised accepted = record { node = node; promised = promised; accepted = accepted }

abbrev two : List Admit
two = read 1 5 5 ∷ read 2 4 4 ∷ []

abbrev three : List Admit
three = read 1 5 5 ∷ read 2 4 4 ∷ read 3 4 4 ∷ []

-- the store of node 3 was not read: nodes 1 and 3 count for generation 5, and all three for generation 4
two_fit : Fit 3 two
two_fit = each_add (covered_yes 3 two 5 refl) (each_add (covered_yes 3 two 4 refl) each_none)

-- it was read: node 1 alone counts for generation 5
three_do_not : IsLowestUnfit 3 three 1
three_do_not = record { lacks = record { it = read 1 5 5; mem = here; is = (refl, covered_no 3 three 5 refl) }; lowest = record { at = λ a h lt. none a h lt } }
  where
    none : (a : Admit) → In a three → a.node < 1 → IsPromised 3 three a.accepted
    none a here lt = absurd (omega arith)
    none a (there here) lt = absurd (omega arith)
    none a (there (there here)) lt = absurd (omega arith)
    none a (there (there (there x))) lt = elim x [ ]

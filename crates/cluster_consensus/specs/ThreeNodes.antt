-- Histories of three nodes, written out. A list has its newest event first, so each is read from its end.
use Rattle.std.specs.Prelude.{ℕ, List, [], ◌∷◌}
use Rattle.cluster_consensus.specs.Events.{NodeEvent}
use Rattle.cluster_consensus.specs.Events.NodeEvent.{Admits, Boot, Down, Stand, Grants, Lead, Take, Grow, Append, LearnLead}

-- three empty stores are admitted, and their nodes come up
abbrev pub opened : List (ℕ × NodeEvent ℕ)
opened = (3, Boot 0 0 []) ∷ (2, Boot 0 0 []) ∷ (1, Boot 0 0 []) ∷ (0, Admits 3 0 0) ∷ (0, Admits 2 0 0) ∷ (0, Admits 1 0 0) ∷ []

-- node 1 leads in generation 1 by the vote of node 2, and the entry 7 becomes durable
abbrev pub one_entry : List (ℕ × NodeEvent ℕ)
one_entry = (1, LearnLead 1) ∷ (2, Grow (7 ∷ [])) ∷ (1, Append 7) ∷ (2, Take 1 []) ∷ (1, Lead) ∷ (2, Grants 1 1) ∷ (1, Stand 1) ∷ opened

-- node 1 falls, node 2 leads in generation 2 by the vote of node 3, and the log grows on by the entry 8
abbrev pub grown_on : List (ℕ × NodeEvent ℕ)
grown_on =
    (2, LearnLead 2) ∷ (3, Take 2 (7 ∷ 8 ∷ [])) ∷ (2, Append 8) ∷ (2, Lead) ∷ (3, Grants 2 2) ∷ (2, Stand 2) ∷ (1, Down) ∷ one_entry

-- node 1 does not fall: it appends 9, which nobody takes, while node 2 leads in generation 2 and 8 becomes durable
abbrev pub two_leaders : List (ℕ × NodeEvent ℕ)
two_leaders =
    (2, LearnLead 2) ∷ (3, Take 2 (7 ∷ 8 ∷ [])) ∷ (2, Append 8) ∷ (2, Lead) ∷ (3, Grants 2 2) ∷ (2, Stand 2) ∷ (1, Append 9) ∷ one_entry

-- then node 1 hears of generation 2, and takes its log
abbrev pub tail_dropped : List (ℕ × NodeEvent ℕ)
tail_dropped = (1, Take 2 (7 ∷ 8 ∷ [])) ∷ two_leaders

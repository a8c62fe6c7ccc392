-- Three nodes, written out: an election that node 1 wins, an entry that reaches nobody, and a node that comes up and gets it.
--
-- Nodes 1 and 2 have a log of length 2, accepted in generation 3, and promised 4. Node 3 is down.
--
--   first     node 1 stands in 5. Delivered are: its vote to 2, who grants, and to 3, who is down; its own grant; that of 2, by
--             which it leads; its log to 2, who has it and acknowledges, and to 3; its own acknowledgement; that of 2, by which
--             it knows 2 entries as durable; this to 2, and to 3
--   chosen    quiet: both know 2 entries as durable. Node 1 appends the third
--   longer    delivered are: the entry to 2, who falls, and to 3; its own acknowledgement, by which it tells again that 2 are
--             durable; this to 2 and to 3, who are down
--   alone     it leads, and knows the third entry not to be durable. Node 3 comes up, with a log of length 1
--   joined    delivered are: the whole log to 3, who acknowledges; this to 1, who knows 3 as durable; this to 2, and to 3
--   again     quiet: nodes 1 and 3 know 3 entries as durable
use Rattle.std.specs.Prelude.{ℕ, Bool, true, false, [], ◌∷◌, replicate}
use Rattle.election_core.specs.declared.votes.NodeVote.{NodeVote}
use Rattle.quiet_cluster.specs.Places.{at_of}

abbrev pub three : NodeVote → NodeVote → NodeVote → ℕ → NodeVote
three a b c = at_of (a ∷ b ∷ c ∷ [])

-- before the election, with a log of that length
abbrev pub fresh : ℕ → ℕ → Bool → NodeVote
fresh k l up = record { node = k; nodes = 3; promised = 4; accepted = 3; length = l; adopted = 0; durable = 0; granted = 0; acked = replicate 7 0; leading = false; up = up }

-- one that promised generation 5
abbrev pub voter : ℕ → NodeVote
voter k = record { node = k; nodes = 3; promised = 5; accepted = 3; length = 2; adopted = 0; durable = 0; granted = 0; acked = replicate 7 0; leading = false; up = true }

-- node 1 leads, with the lengths that nodes 1, 2 and 3 acknowledged
abbrev pub leader : ℕ → ℕ → ℕ → ℕ → ℕ → NodeVote
leader l d x y z = record { node = 1; nodes = 3; promised = 5; accepted = 5; length = l; adopted = 2; durable = d; granted = 6; acked = x ∷ y ∷ z ∷ 0 ∷ 0 ∷ 0 ∷ 0 ∷ []; leading = true; up = true }

-- one that accepted generation 5
abbrev pub follower : ℕ → ℕ → ℕ → Bool → NodeVote
follower k l d up = record { node = k; nodes = 3; promised = 5; accepted = 5; length = l; adopted = 0; durable = d; granted = 0; acked = replicate 7 0; leading = false; up = up }

abbrev pub first : ℕ → NodeVote
first = three (fresh 1 2 true) (fresh 2 2 true) (fresh 3 1 false)

abbrev pub standing : ℕ → NodeVote
standing = three (voter 1) (fresh 2 2 true) (fresh 3 1 false)

abbrev pub chosen : ℕ → NodeVote
chosen = three (leader 2 2 2 2 0) (follower 2 2 2 true) (fresh 3 1 false)

abbrev pub longer : ℕ → NodeVote
longer = three (leader 3 2 2 2 0) (follower 2 2 2 true) (fresh 3 1 false)

abbrev pub alone : ℕ → NodeVote
alone = three (leader 3 2 3 2 0) (follower 2 2 2 false) (fresh 3 1 false)

abbrev pub joined : ℕ → NodeVote
joined = three (leader 3 2 3 2 0) (follower 2 2 2 false) (fresh 3 1 true)

abbrev pub again : ℕ → NodeVote
again = three (leader 3 3 3 2 3) (follower 2 2 2 false) (follower 3 3 3 true)

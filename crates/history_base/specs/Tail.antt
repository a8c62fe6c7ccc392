-- Whose log is reported, and behind which base.
--
-- The reported node is the one with the greatest pair of accepted generation and length of its log, of such the
-- lowest. The first master is the one of the least generation in which a majority accepted: its adopted log became
-- durable then. The base is how long that log was; without a first master it is how long the reported log is.
use Rattle.std.specs.Prelude.{ℕ, zero, suc, ◌≡◌, ◌+◌, ◌-◌, ◌<◌, ◌≤◌, ◌==◌, ◌&&◌, ◌||◌, Bool, List, [], ◌∷◌, ◌++◌, length, ltb, if◌then◌else◌, Option, Some, None, slice_get, unwrap_or}
use Rattle.std.specs.List.{list_any}
use Rattle.cluster_steps.specs.declared.events.Event.{Event}
use Rattle.history_base.specs.Sizes.{Sizes, sizes_of, up_lengths}
use Rattle.history_base.specs.declared.sizes.Size.{Size}
use Rattle.history_base.specs.declared.tails.Best.{Best}
use Rattle.history_base.specs.declared.tails.Tail.{Tail}

-- the lengths that are noted of a node, from 1
abbrev pub lengths_of : List (List ℕ) → ℕ → List ℕ
lengths_of lengths k = unwrap_or (slice_get lengths (k - 1)) []

-- the sizes of the nodes 1 to n
abbrev pub all_sizes : ℕ → List (List ℕ) → List (ℕ × Event) → List Sizes
all_sizes zero lengths h = []
all_sizes (suc k) lengths h = all_sizes k lengths h ++ sizes_of (suc k) (lengths_of lengths (suc k)) h ∷ []

-- the lengths that were noted are those with which the nodes came up
abbrev pub AreNoted : ℕ → List (List ℕ) → List (ℕ × Event) → Type 0
AreNoted n lengths h = (k : ℕ) → 0 < k → k ≤ n → lengths_of lengths k ≡ up_lengths k h

-- whether a node accepted in a generation, how many did, and whether these are a majority of n
abbrev pub has_accepted : ℕ → Sizes → Bool
has_accepted g t = list_any (λ a. a.generation == g) t.accepts

abbrev pub count_accepted : ℕ → List Sizes → ℕ
count_accepted g [] = 0
count_accepted g (t ∷ ts) = (if has_accepted g t then 1 else 0) + count_accepted g ts

abbrev pub is_accepted : List Sizes → ℕ → Bool
is_accepted all g = ltb (length all - count_accepted g all) (count_accepted g all)

-- of two logs that were led with the one of the lower generation, and of two of one generation the first
abbrev pub earlier : Size → Option Size → Size
earlier a None = a
earlier a (Some b) = if ltb a.generation b.generation then a else b

abbrev pub first_if : Bool → Size → Option Size → Option Size
first_if accepted a found = if accepted then Some (earlier a found) else found

-- the first of those that a majority accepted
abbrev pub first_led : List Sizes → Option Size → List Size → Option Size
first_led all found [] = found
first_led all found (a ∷ leads) = first_led all (first_if (is_accepted all a.generation) a found) leads

abbrev pub first_of : List Sizes → Option Size → List Sizes → Option Size
first_of all found [] = found
first_of all found (t ∷ ts) = first_of all (first_led all found t.leads) ts

abbrev pub first_master : List Sizes → Option Size
first_master all = first_of all None all

-- whether its pair is greater than that of the best one so far
abbrev pub outranks : Sizes → Best → Bool
outranks t best = ltb best.accepted t.accepted || ((t.accepted == best.accepted) && ltb best.length t.length)

abbrev pub better : Best → ℕ → Sizes → Best
better best k t = if outranks t best then record { node = k; accepted = t.accepted; length = t.length } else best

-- the first of those whose pair is greatest, where these nodes have the numbers from `k` on
abbrev pub best_from : Best → ℕ → List Sizes → Best
best_from best k [] = best
best_from best k (t ∷ ts) = best_from (better best k t) (k + 1) ts

abbrev pub best_of : List Sizes → Best
best_of all = best_from (record { node = 1; accepted = 0; length = 0 }) 1 all

abbrev pub base_by : Option Size → Best → ℕ
base_by None best = best.length
base_by (Some a) best = a.length

abbrev pub tail_by : List Sizes → Tail
tail_by all = record { reported = (best_of all).node; base = base_by (first_master all) (best_of all) }

-- of n nodes, with the lengths that were noted, and a history with the newest event first
abbrev pub tail : ℕ → List (List ℕ) → List (ℕ × Event) → Tail
tail n lengths h = tail_by (all_sizes n lengths h)

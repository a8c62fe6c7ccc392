-- Who leads: the choice of a candidate, its election, the setup of an empty log, and the shipping of a log.
--
-- A candidate is chosen where a majority is up, and nobody leads or one that is up promised above the leader. It is the node that
-- is up with the greatest pair of accepted generation and length of its log, of such the one with the lowest number. It stands in
-- the generation above all that those up promised. Each other node that is up promises that to it, in order of their numbers; a
-- majority makes it the leader, it accepts its own log, and ships it whole. Where its log is empty it appends the setup. Then the
-- choice is made again, where there is need: each time it is, a node went down.
--
-- All that is under way is delivered before anything else happens: so each node has taken what it was sent, or is down.
use Rattle.std.specs.Prelude.{ℕ, zero, suc, ◌+◌, ◌==◌, ◌&&◌, ◌||◌, ◌++◌, ◌∷◌, [], List, length, map, drop, Bool, true, false, not, Option, Some, None, if◌then◌else◌, max, leb, ltb}
use Rattle.std.specs.List.{list_any}
use Rattle.report_text.specs.declared.reports.EntryLine.{EntryLine}
use Rattle.report_text.specs.declared.reports.EntryLine.TheVariants.{Setup}
use Rattle.play_order.specs.Peers.{Holding, Peer, Peers, are_most, call, holding_at, is_majority_up, is_up_in, log_at, numbers_to, one_of, provided, with_master, master_but}

-- whether a pair of accepted generation and length is greater than another one
abbrev pub outranks : Holding → Holding → Bool
outranks a b = ltb b.accepted a.accepted || ((a.accepted == b.accepted) && ltb (length b.log) (length a.log))

-- a node, and what it holds
pub record Ranked : Type 0 where
  pub node : ℕ
  pub has : Holding

abbrev pub outranks_found : Holding → Option Ranked → Bool
outranks_found a None = true
outranks_found a (Some b) = outranks a b.has

abbrev pub greater_of : ℕ → Option Holding → Option Ranked → Option Ranked
greater_of k None found = found
greater_of k (Some has) found = if outranks_found has found then Some (record { node = k; has = has }) else found

-- of what the nodes from number k on hold, as far as they are in the choice, the greatest pair, and the first node that has it
abbrev pub greatest_pair_from : ℕ → Option Ranked → List (Option Holding) → Option Ranked
greatest_pair_from k found [] = found
greatest_pair_from k found (h ∷ hs) = greatest_pair_from (k + 1) (greater_of k h found) hs

abbrev pub held_if : (Peer → Bool) → Peer → Option Holding
held_if q v = if q v then Some v.has else None

abbrev pub best_of : (Peer → Bool) → Peers → Option Ranked
best_of q p = greatest_pair_from 1 None (map (held_if q) p.all)

-- the greatest promise of those up
abbrev pub greatest_promise : List Peer → ℕ
greatest_promise [] = 0
greatest_promise (v ∷ vs) = max (if v.up then v.has.promised else 0) (greatest_promise vs)

-- whether one that is up promised above that generation
abbrev pub is_passed : ℕ → Peers → Bool
is_passed generation p = list_any (λ v. v.up && ltb generation v.has.promised) p.all

-- whether nobody leads, or not for long
abbrev pub is_unled : Option ℕ → Peers → Bool
is_unled None p = true
is_unled (Some m) p = is_passed (holding_at p m).accepted p

abbrev pub wants_choice : ℕ → Peers → Bool
wants_choice n p = is_majority_up n p && is_unled p.master p

-- a node promises a generation, by its own standing or by its vote, and leads no longer
abbrev pub resigns : ℕ → Peers → Peers
resigns k p = with_master (master_but k p.master) p

abbrev pub pledges : ℕ → ℕ → Peers → Peers
pledges k generation p = resigns k (call k (record { promised = generation; accepted = (holding_at p k).accepted; log = log_at p k }) false p)

-- each other node that is up votes for the candidate
abbrev pub may_vote : ℕ → ℕ → ℕ → Peers → Bool
may_vote c generation k p = not (k == c) && (is_up_in p k && ltb (holding_at p k).promised generation)

abbrev pub votes : ℕ → ℕ → List ℕ → Peers → Peers
votes c generation [] p = p
votes c generation (k ∷ ks) p = votes c generation ks (provided (may_vote c generation k) (λ q. pledges k generation q) p)

-- a node takes an entry more; and those entries that it lacks of the log of the one that it follows, one after the other
abbrev pub takes_one : ℕ → EntryLine → Peers → Peers
takes_one k e p = call k (record { promised = (holding_at p k).promised; accepted = (holding_at p k).accepted; log = log_at p k ++ e ∷ [] }) true p

abbrev pub catches_up : ℕ → List EntryLine → Peers → Peers
catches_up k [] p = p
catches_up k (e ∷ es) p = catches_up k es (provided (λ q. is_up_in q k) (λ q. takes_one k e q) p)

-- a node takes the leader's whole log
abbrev pub takes_all : ℕ → ℕ → Peers → Peers
takes_all m k p = call k (record { promised = (holding_at p m).accepted; accepted = (holding_at p m).accepted; log = log_at p m }) true p

-- a node is sent the leader's log, and takes it whole, where it accepted an earlier generation; else what it lacks of it
abbrev pub may_follow : ℕ → ℕ → Peers → Bool
may_follow m k p = not (k == m) && (is_up_in p m && (is_up_in p k && leb (holding_at p k).promised (holding_at p m).accepted))

abbrev pub is_behind : ℕ → ℕ → Peers → Bool
is_behind m k p = ltb (holding_at p k).accepted (holding_at p m).accepted

abbrev pub ships_to : ℕ → ℕ → Peers → Peers
ships_to m k p = provided (may_follow m k) (λ q. one_of (is_behind m k) (λ r. takes_all m k r) (λ r. catches_up k (drop (length (log_at r k)) (log_at r m)) r) q) p

abbrev pub ships : ℕ → List ℕ → Peers → Peers
ships m [] p = p
ships m (k ∷ ks) p = ships m ks (ships_to m k p)

-- the leader's log is empty: it appends the setup, and ships it
abbrev pub has_no_entry : ℕ → Peers → Bool
has_no_entry m p = is_up_in p m && (length (log_at p m) == 0)

abbrev pub sets_up : ℕ → ℕ → Peers → Peers
sets_up n m p = provided (has_no_entry m) (λ q. ships m (numbers_to n) (takes_one m (Setup 1) q)) p

-- the candidate leads with its log: it accepts that, and ships it
abbrev pub reigns_in : ℕ → ℕ → Peers → Peers
reigns_in c generation p = record { all = p.all; master = p.master; reigns = p.reigns ++ record { generation = generation; adopted = length (log_at p c) } ∷ []; falls = p.falls; told = p.told }

abbrev pub accepts_own : ℕ → ℕ → Peers → Peers
accepts_own c generation p = call c (record { promised = generation; accepted = generation; log = log_at p c }) true p

abbrev pub leads : ℕ → ℕ → ℕ → Peers → Peers
leads n c generation p = provided (λ q. is_up_in q c) (λ q. sets_up n c (ships c (numbers_to n) (with_master (Some c) q))) (accepts_own c generation (reigns_in c generation p))

-- a round: the candidate stands, the others vote, and it leads where it has the votes of a majority
abbrev pub has_votes : ℕ → ℕ → ℕ → Peers → Bool
has_votes n c generation p = is_up_in p c && are_most n (λ v. v.up && (v.has.promised == generation)) p

abbrev pub elects : ℕ → ℕ → ℕ → Peers → Peers
elects n c generation p = provided (has_votes n c generation) (λ q. leads n c generation q) (provided (λ q. is_up_in q c) (λ q. votes c generation (numbers_to n) q) (pledges c generation p))

-- the best of those that are up stands
abbrev pub elects_best : ℕ → Option Ranked → Peers → Peers
elects_best n None p = p
elects_best n (Some c) p = elects n c.node (greatest_promise p.all + 1) p

-- the choice is made where there is need, so often at most. Each round but the last one has a node that goes down, so there is no
-- more than one round more than there are nodes
abbrev pub chooses_in : ℕ → ℕ → Peers → Peers
chooses_in zero n p = p
chooses_in (suc more) n p = provided (wants_choice n) (λ q. chooses_in more n (elects_best n (best_of (λ v. v.up) q) q)) p

abbrev pub chooses : ℕ → Peers → Peers
chooses n p = chooses_in (n + 1) n p

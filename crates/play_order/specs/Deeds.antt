-- What the lines of a script do to the nodes: a stop, a start, a commit that is sent to the leader.
--
-- A commit is sent only while a majority is up. The leader appends its entry and ships it. An arm of the append stops the leader
-- before it ships; one of the ship when a majority accepted the entry. A session with hasql whose leader went down sends it
-- again to the next one, which appends it where its log has it not.
use Rattle.std.specs.Prelude.{ℕ, zero, suc, ◌+◌, ◌==◌, ◌&&◌, ◌∷◌, [], List, length, Bool, true, false, not, Option, Some, None, if◌then◌else◌, ltb}
use Rattle.std.specs.List.{list_any}
use Rattle.std.specs.Str.{bytes_eq}
use Rattle.cdb_values.specs.declared.rows.Level.{Level}
use Rattle.script_form.specs.declared.scripts.Moment.{Moment}
use Rattle.script_form.specs.declared.scripts.Moment.TheVariants as moment
use Rattle.report_text.specs.declared.reports.EntryLine.{EntryLine}
use Rattle.report_text.specs.declared.reports.EntryLine.TheVariants.{Commit, Setup}
use Rattle.play_order.specs.Elections.{chooses, ships, ships_to, takes_one}
use Rattle.play_order.specs.Peers.{Peers, Remains, are_most, called, due, one_of, holding_at, is_majority_up, is_up_in, log_at, peer_at, risen, stop_one, switched, numbers_to, provided}
use Rattle.play_order.specs.Peers.Switch.{Fell, Rose}

-- a commit that is sent: whose transaction, its begin position and its level
pub record CommitSent : Type 0 where
  pub session : List ℕ
  pub txn : ℕ
  pub begin : ℕ
  pub level : Level

-- a node is stopped or started; or a commit is sent, so often at most, while these arms wait
pub data Deed : Type 0 where
  Stops : ℕ → Deed
  Starts : ℕ → Deed
  Sends : CommitSent → ℕ → List Moment → Deed

-- a stop of a node that is up
abbrev pub stops_at : ℕ → ℕ → Peers → Peers
stops_at n k p = provided (λ q. is_up_in q k) (λ q. chooses n (stop_one k q)) p

-- the leader ships its log to a node that comes up
abbrev pub shipped_by : Option ℕ → ℕ → Peers → Peers
shipped_by None k p = p
shipped_by (Some m) k p = ships_to m k p

abbrev pub arrives : ℕ → ℕ → Peers → Peers
arrives n k p = chooses n (shipped_by p.master k p)

-- a start of a node that is down: its store is read again, and where that fails it went down once more
abbrev pub reads_again : Option Remains → ℕ → ℕ → Peers → Peers
reads_again (Some remains) n k p = called k (switched k (peer_at p k) (Fell k true ∷ []) p)
reads_again None n k p = arrives n k (called k (switched k (risen (peer_at p k)) (Rose k ∷ []) p))

abbrev pub starts_at : ℕ → ℕ → Peers → Peers
starts_at n k p = one_of (λ q. is_up_in q k) (λ q. q) (λ q. reads_again (due k q.falls) n k q) p

-- an entry is that of a commit which was sent
abbrev pub is_its : CommitSent → EntryLine → Bool
is_its sent (Setup position) = false
is_its sent (Commit position session txn begin level) = ltb sent.begin position && (bytes_eq session sent.session && (txn == sent.txn))

-- the entry of a commit behind that log
abbrev pub entry_behind : List EntryLine → CommitSent → EntryLine
entry_behind log sent = Commit (length log + 1) sent.session sent.txn sent.begin sent.level

-- whether there is such an arm, and the arms without the first of these
abbrev pub is_append : Moment → Bool
is_append (moment.Row r) = false
is_append moment.Append = true
is_append moment.Ship = false

abbrev pub is_ship : Moment → Bool
is_ship (moment.Row r) = false
is_ship moment.Append = false
is_ship moment.Ship = true

abbrev pub without_first : (Moment → Bool) → List Moment → List Moment
without_first q [] = []
without_first q (a ∷ arms) = if q a then arms else a ∷ without_first q arms

-- whether a majority accepted the leader's log
abbrev pub is_durable : ℕ → ℕ → Peers → Bool
is_durable n m p = are_most n (λ v. (v.has.accepted == (holding_at p m).accepted) && (length v.has.log == length (log_at p m))) p

-- a commit goes on by `again` with the arms that are left, where the leader went down: it is stopped by an arm, and the choice made
abbrev pub stops_master : (List Moment → Peers → Peers) → (Moment → Bool) → ℕ → ℕ → List Moment → Peers → Peers
stops_master again q n m arms p = again (without_first q arms) (chooses n (stop_one m p))

-- behind the append the entry is shipped, and the leader may be stopped behind that
abbrev pub is_reached : ℕ → ℕ → List Moment → Peers → Bool
is_reached n m arms p = list_any is_ship arms && is_durable n m p

abbrev pub ships_entry : (List Moment → Peers → Peers) → ℕ → ℕ → List Moment → Peers → Peers
ships_entry again n m arms p = one_of (is_reached n m arms) (λ q. stops_master again is_ship n m arms q) (λ q. chooses n q) (ships m (numbers_to n) p)

abbrev pub behind_append : (List Moment → Peers → Peers) → ℕ → ℕ → List Moment → Peers → Peers
behind_append again n m arms p = one_of (λ q. list_any is_append arms) (λ q. stops_master again is_append n m arms q) (λ q. ships_entry again n m arms q) p

-- the leader appends the entry of a commit, or goes down in it
abbrev pub attempts : (List Moment → Peers → Peers) → ℕ → ℕ → CommitSent → List Moment → Peers → Peers
attempts again n m sent arms p =
    one_of (λ q. is_up_in q m) (λ q. behind_append again n m arms q) (λ q. again arms (chooses n q)) (takes_one m (entry_behind (log_at p m) sent) p)

-- nothing is sent where few are up; a leader that has the entry appends none
abbrev pub may_append : ℕ → ℕ → CommitSent → Peers → Bool
may_append n m sent p = is_majority_up n p && not (list_any (is_its sent) (log_at p m))

abbrev pub sends_to : Option ℕ → (List Moment → Peers → Peers) → ℕ → CommitSent → List Moment → Peers → Peers
sends_to None again n sent arms p = p
sends_to (Some m) again n sent arms p = provided (may_append n m sent) (λ q. attempts again n m sent arms q) p

-- a commit is sent so often at most, again where the leader went down
abbrev pub sends_in : ℕ → ℕ → CommitSent → List Moment → Peers → Peers
sends_in zero n sent arms p = p
sends_in (suc more) n sent arms p = sends_to p.master (λ left q. sends_in more n sent left q) n sent arms p

-- once by a session without hasql. By one with hasql again where the leader went down, so not more often than there are nodes, and
-- once more
abbrev pub tries : Bool → ℕ → ℕ
tries false n = 1
tries true n = n + 1

-- what each deed does to the nodes
abbrev pub does_deed : ℕ → Deed → Peers → Peers
does_deed n (Stops k) p = stops_at n k p
does_deed n (Starts k) p = starts_at n k p
does_deed n (Sends sent often arms) p = sends_in often n sent arms p

abbrev pub does_all : ℕ → List Deed → Peers → Peers
does_all n [] p = p
does_all n (d ∷ ds) p = does_all n ds (does_deed n d p)

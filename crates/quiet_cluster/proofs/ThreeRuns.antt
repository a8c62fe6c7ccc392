-- Three nodes, from the election to the node that comes up, by the laws.
use Rattle.std.proofs.Common.{ℕ, ◌≡◌, ◌<◌, ◌≤◌, [], ◌∷◌, arith, refl}
use Rattle.std.specs.Prelude.{zero, suc, true, false}
use mathlib.Core.Logic.{inr}
use Rattle.cluster_consensus.specs.Enabled.{Below}
use Rattle.core_lists.proofs.Lists.{each_none}
use Rattle.election_core.specs.declared.messages.Message.TheVariants.{Vote, Granted, Adopt, Ship, Ack, Durable}
use Rattle.quiet_cluster.specs.Deliveries.{Run}
use Rattle.quiet_cluster.specs.Deliveries.Run.{rest, step}
use Rattle.quiet_cluster.specs.Led.{Led, LedAlone}
use Rattle.quiet_cluster.specs.Packets.{packet, standing_packets, appending_packets}
use Rattle.quiet_cluster.specs.Polled.{Best}
use Rattle.quiet_cluster.specs.Quiet.{Quiet}
use Rattle.quiet_cluster.specs.ThreeNodes.{fresh, voter, leader, follower, first, standing, chosen, longer, alone, joined, again}
use Rattle.quiet_cluster.proofs.Ends.{led_up}
use Rattle.quiet_cluster.proofs.Runs.{elected, led_is_quiet, run_led}
use Rattle.quiet_cluster.proofs.Starts.{stands, appends}
use Rattle.quiet_cluster.proofs.ThreeDeliveries.{only1, only3, to1, to2, to3, is_down, own_vote, grants, counts_own, is_elected, takes_log, counts_log, knows_log, hears_log, tells_again, takes_all_of_it, knows_all, hears_all}

pub best : Best 3 first 1 5
best = record {
  few = omega arith;
  up = refl;
  nodes = refl;
  size = refl;
  within = omega arith;
  named = named;
  above = above;
  covered = covered;
  best = pair;
}
  where
    named : (k : ℕ) → (first k).up ≡ true → (0 < k) × (k ≤ 3) × ((first k).node ≡ k)
    named zero up = absurd (cc)
    named (suc zero) up = (omega arith, omega arith, refl)
    named (suc (suc zero)) up = (omega arith, omega arith, refl)
    named (suc (suc (suc zero))) up = absurd (cc)
    named (suc (suc (suc (suc k)))) up = absurd (cc)

    above : (k : ℕ) → (first k).up ≡ true → (first k).promised < 5
    above zero up = omega arith
    above (suc zero) up = omega arith
    above (suc (suc zero)) up = omega arith
    above (suc (suc (suc zero))) up = omega arith
    above (suc (suc (suc (suc k)))) up = omega arith

    covered : (k : ℕ) → (first k).up ≡ true → (first k).accepted ≤ (first k).promised
    covered zero up = omega arith
    covered (suc zero) up = omega arith
    covered (suc (suc zero)) up = omega arith
    covered (suc (suc (suc zero))) up = omega arith
    covered (suc (suc (suc (suc k)))) up = omega arith

    pair : (k : ℕ) → (first k).up ≡ true → Below (first k).accepted (first k).length 3 2
    pair zero up = absurd (cc)
    pair (suc zero) up = inr (refl, omega arith)
    pair (suc (suc zero)) up = inr (refl, omega arith)
    pair (suc (suc (suc zero))) up = absurd (cc)
    pair (suc (suc (suc (suc k)))) up = absurd (cc)

-- the election, with the shipping of the leader's log
pub election : Run standing (standing_packets (voter 1) 5) chosen
election =
    step (packet 1 (Granted 2 5 1) 0 ∷ []) (to2 (voter 1) (fresh 2 2 true) (voter 2) (fresh 3 1 false) (Vote 1 5 3 2) 0 (packet 1 (Granted 2 5 1) 0 ∷ []) grants)
    (step [] (to3 (voter 1) (voter 2) (fresh 3 1 false) (fresh 3 1 false) (Vote 1 5 3 2) 0 [] (is_down (fresh 3 1 false) (fresh 3 1 false) (packet 3 (Vote 1 5 3 2) 0) refl))
    (step [] (to1 (voter 1) own_vote (voter 2) (fresh 3 1 false) (Granted 1 5 1) 0 [] counts_own)
    (step (packet 2 (Adopt 1 5 2) 2 ∷ packet 3 (Adopt 1 5 2) 2 ∷ packet 1 (Ack 1 5 2) 0 ∷ []) (to1 own_vote (leader 2 0 0 0 0) (voter 2) (fresh 3 1 false) (Granted 2 5 1) 0 (packet 2 (Adopt 1 5 2) 2 ∷ packet 3 (Adopt 1 5 2) 2 ∷ packet 1 (Ack 1 5 2) 0 ∷ []) is_elected)
    (step (packet 1 (Ack 2 5 2) 0 ∷ []) (to2 (leader 2 0 0 0 0) (voter 2) (follower 2 2 0 true) (fresh 3 1 false) (Adopt 1 5 2) 2 (packet 1 (Ack 2 5 2) 0 ∷ []) takes_log)
    (step [] (to3 (leader 2 0 0 0 0) (follower 2 2 0 true) (fresh 3 1 false) (fresh 3 1 false) (Adopt 1 5 2) 2 [] (is_down (fresh 3 1 false) (fresh 3 1 false) (packet 3 (Adopt 1 5 2) 2) refl))
    (step [] (to1 (leader 2 0 0 0 0) (leader 2 0 2 0 0) (follower 2 2 0 true) (fresh 3 1 false) (Ack 1 5 2) 0 [] counts_log)
    (step (packet 2 (Durable 1 5 2) 0 ∷ packet 3 (Durable 1 5 2) 0 ∷ []) (to1 (leader 2 0 2 0 0) (leader 2 2 2 2 0) (follower 2 2 0 true) (fresh 3 1 false) (Ack 2 5 2) 0 (packet 2 (Durable 1 5 2) 0 ∷ packet 3 (Durable 1 5 2) 0 ∷ []) knows_log)
    (step [] (to2 (leader 2 2 2 2 0) (follower 2 2 0 true) (follower 2 2 2 true) (fresh 3 1 false) (Durable 1 5 2) 0 [] hears_log)
    (step [] (to3 (leader 2 2 2 2 0) (follower 2 2 2 true) (fresh 3 1 false) (fresh 3 1 false) (Durable 1 5 2) 0 [] (is_down (fresh 3 1 false) (fresh 3 1 false) (packet 3 (Durable 1 5 2) 0) refl))
    rest)))))))))

is_led : LedAlone 3 chosen [] 1 5 2
is_led = elected 3 1 5 3 2 (stands 3 first standing 1 5 best (only1 (fresh 1 2 true) (voter 1) (fresh 2 2 true) (fresh 3 1 false)) refl) election refl (omega arith)

pub quiet : Quiet 3 chosen 1 5 2
quiet = led_is_quiet 3 chosen 1 5 2 is_led (omega arith)

-- an entry more, and node 2 falls where it gets it
pub append : Run longer (appending_packets (leader 3 2 2 2 0) 1) alone
append =
    step [] (to2 (leader 3 2 2 2 0) (follower 2 2 2 true) (follower 2 2 2 false) (fresh 3 1 false) (Ship 1 5 3) 1 [] (is_down (follower 2 2 2 true) (follower 2 2 2 false) (packet 2 (Ship 1 5 3) 1) refl))
    (step [] (to3 (leader 3 2 2 2 0) (follower 2 2 2 false) (fresh 3 1 false) (fresh 3 1 false) (Ship 1 5 3) 1 [] (is_down (fresh 3 1 false) (fresh 3 1 false) (packet 3 (Ship 1 5 3) 1) refl))
    (step (packet 2 (Durable 1 5 2) 0 ∷ packet 3 (Durable 1 5 2) 0 ∷ []) (to1 (leader 3 2 2 2 0) (leader 3 2 3 2 0) (follower 2 2 2 false) (fresh 3 1 false) (Ack 1 5 3) 0 (packet 2 (Durable 1 5 2) 0 ∷ packet 3 (Durable 1 5 2) 0 ∷ []) tells_again)
    (step [] (to2 (leader 3 2 3 2 0) (follower 2 2 2 false) (follower 2 2 2 false) (fresh 3 1 false) (Durable 1 5 2) 0 [] (is_down (follower 2 2 2 false) (follower 2 2 2 false) (packet 2 (Durable 1 5 2) 0) refl))
    (step [] (to3 (leader 3 2 3 2 0) (follower 2 2 2 false) (fresh 3 1 false) (fresh 3 1 false) (Durable 1 5 2) 0 [] (is_down (fresh 3 1 false) (fresh 3 1 false) (packet 3 (Durable 1 5 2) 0) refl))
    rest))))

pub leads_still : LedAlone 3 alone [] 1 5 3
leads_still = run_led 3 1 5 3 (record { led = appends 3 chosen longer 1 5 2 (only1 (leader 2 2 2 2 0) (leader 3 2 2 2 0) (follower 2 2 2 true) (fresh 3 1 false)) refl is_led.led; below = below }) append refl
  where
    below : (k : ℕ) → (longer k).up ≡ true → (longer k).promised ≤ 5
    below zero up = omega arith
    below (suc zero) up = omega arith
    below (suc (suc zero)) up = omega arith
    below (suc (suc (suc zero))) up = omega arith
    below (suc (suc (suc (suc k)))) up = omega arith

-- one of three is no majority: the third entry is not durable
pub few : Quiet 3 alone 1 5 3 → ⊥
few q = let x : (alone 1).durable ≡ 3 = q.knows in omega arith

-- node 3 comes up, and gets the whole log
pub arrival : Run joined (packet 3 (Adopt 1 5 3) 3 ∷ []) again
arrival =
    step (packet 1 (Ack 3 5 3) 0 ∷ []) (to3 (leader 3 2 3 2 0) (follower 2 2 2 false) (fresh 3 1 true) (follower 3 3 0 true) (Adopt 1 5 3) 3 (packet 1 (Ack 3 5 3) 0 ∷ []) takes_all_of_it)
    (step (packet 2 (Durable 1 5 3) 0 ∷ packet 3 (Durable 1 5 3) 0 ∷ []) (to1 (leader 3 2 3 2 0) (leader 3 3 3 2 3) (follower 2 2 2 false) (follower 3 3 0 true) (Ack 3 5 3) 0 (packet 2 (Durable 1 5 3) 0 ∷ packet 3 (Durable 1 5 3) 0 ∷ []) knows_all)
    (step [] (to2 (leader 3 3 3 2 3) (follower 2 2 2 false) (follower 2 2 2 false) (follower 3 3 0 true) (Durable 1 5 3) 0 [] (is_down (follower 2 2 2 false) (follower 2 2 2 false) (packet 2 (Durable 1 5 3) 0) refl))
    (step [] (to3 (leader 3 3 3 2 3) (follower 2 2 2 false) (follower 3 3 0 true) (follower 3 3 3 true) (Durable 1 5 3) 0 [] hears_all)
    rest)))

pub quiet_again : Quiet 3 again 1 5 3
quiet_again = led_is_quiet 3 again 1 5 3 (run_led 3 1 5 3 (record { led = led; below = below }) arrival refl) (omega arith)
  where
    led : Led 3 joined (packet 3 (Adopt 1 5 3) 3 ∷ []) 1 5 3
    led = led_up 3 alone joined [] 1 5 3 3 (λ e. absurd (omega arith)) (only3 (leader 3 2 3 2 0) (follower 2 2 2 false) (fresh 3 1 false) (fresh 3 1 true)) (omega arith) (omega arith) refl refl (omega arith) (λ e. absurd (omega arith)) each_none leads_still.led

    below : (k : ℕ) → (joined k).up ≡ true → (joined k).promised ≤ 5
    below zero up = omega arith
    below (suc zero) up = omega arith
    below (suc (suc zero)) up = omega arith
    below (suc (suc (suc zero))) up = omega arith
    below (suc (suc (suc (suc k)))) up = omega arith

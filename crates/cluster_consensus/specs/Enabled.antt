-- Where each event may happen.
use Rattle.std.specs.Prelude.{ℕ, ◌≡◌, ◌≢◌, ◌+◌, ◌<◌, ◌≤◌, true, false, List, ◌∷◌, length}
use mathlib.Core.Logic.{◌⊎◌}
use Rattle.cluster_consensus.specs.Events.{NodeEvent}
use Rattle.cluster_consensus.specs.Events.NodeEvent.{Admits, Boot, Down, Back, BackLead, BackTake, BackGrow, BackAppend, Stand, Grants, Lead, Take, Grow, Append, LearnLead, LearnFollow, Asks, Probe, Confirm}
use Rattle.cluster_consensus.specs.Facts.{Own, Admit, World}
use Rattle.core_lists.specs.Fronts.{Front}
use Rattle.core_lists.specs.Lists.{In, Each, Has}
use Rattle.core_lists.specs.Majorities.{Majority}

-- (accepted, length) isn't less
abbrev pub Below : ℕ → ℕ → ℕ → ℕ → Type 0
Below a n b m = (a < b) ⊎ ((a ≡ b) × (n ≤ m))

-- 'Granted' to i in g is told by k
abbrev pub IsGranted : {E : Type 0} → World E → ℕ → ℕ → ℕ → Type 0
IsGranted w g i k = Has (λ x. (x.gen ≡ g) × (x.to ≡ i)) (w.nodes k).grants

abbrev pub CanLead : {E : Type 0} → ℕ → World E → ℕ → Own E → Type 0
CanLead n w i o = (o.accepted < o.promised) × Majority n (IsGranted w o.promised i)

-- a message 'Adopt' or 'Ship' of g with exactly this log is told
abbrev pub IsShipped : {E : Type 0} → World E → ℕ → List E → Type 0
IsShipped w g l = (m : ℕ) × Has (λ s. (s.gen ≡ g) × (s.log ≡ l)) (w.nodes m).ships

abbrev pub CanTake : {E : Type 0} → World E → Own E → ℕ → List E → Type 0
CanTake w o g l = (o.promised ≤ g) × (o.accepted < g) × IsShipped w g l

-- one more entry of the master's log, or the whole message's log again
abbrev pub CanGrow : {E : Type 0} → World E → Own E → List E → Type 0
CanGrow w o l =
    (o.promised ≤ o.accepted)
    × (m : ℕ) × Has (λ s. (s.gen ≡ o.accepted) × Front l s.log × ((length l ≡ length o.log + 1) ⊎ ((length l ≡ length o.log) × (length l ≡ length s.log)))) (w.nodes m).ships

abbrev pub Fit : ℕ → List Admit → Type 0
Fit n admits = Each (λ a. Majority n (λ k. Each (λ b. b.node ≡ k → a.accepted ≤ b.promised) admits)) admits

abbrev pub Enabled : {E : Type 0} → ℕ → World E → ℕ → Own E → NodeEvent E → Type 0
Enabled n w i o (Admits k p a) = Each (λ b. b.node ≢ k) w.admits × Fit n (record { node = k; promised = p; accepted = a } ∷ w.admits)
Enabled n w i o (Boot p a l) = (o.up ≡ false) × (o.was_up ≡ false) × (a ≤ p) × In (record { node = i; promised = p; accepted = a }) w.admits
Enabled n w i o Down = Unit {0}
Enabled n w i o (Back p) = (o.up ≡ false) × (o.was_up ≡ true) × (o.promised ≤ p)
Enabled n w i o BackLead = (o.up ≡ false) × (o.was_up ≡ true) × CanLead n w i o
Enabled n w i o (BackTake g l) = (o.up ≡ false) × (o.was_up ≡ true) × CanTake w o g l
Enabled n w i o (BackGrow l) = (o.up ≡ false) × (o.was_up ≡ true) × CanGrow w o l
Enabled n w i o (BackAppend e) = (o.up ≡ false) × (o.was_up ≡ true) × (o.leading ≡ true)
Enabled n w i o (Stand g) = (o.up ≡ true) × (o.promised < g)
Enabled n w i o (Grants g to) = (o.up ≡ true) × (o.promised < g) × Has (λ v. (v.gen ≡ g) × Below o.accepted (length o.log) v.accepted (length v.log)) (w.nodes to).votes
Enabled n w i o Lead = (o.up ≡ true) × CanLead n w i o
Enabled n w i o (Take g l) = (o.up ≡ true) × CanTake w o g l
Enabled n w i o (Grow l) = (o.up ≡ true) × CanGrow w o l
Enabled n w i o (Append e) = (o.up ≡ true) × (o.leading ≡ true)
Enabled n w i o (LearnLead l) = (o.up ≡ true) × (o.leading ≡ true) × (1 ≤ l) × (o.durable ≤ l) × Majority n (λ k. Has (λ c. (c.gen ≡ o.accepted) × (l ≤ length c.log)) (w.nodes k).acks)
Enabled n w i o (LearnFollow l) = (o.up ≡ true) × (o.leading ≡ false) × (o.durable < l) × (l ≤ length o.log) × (m : ℕ) × Has (λ c. (c.gen ≤ o.accepted) × (l ≤ length c.log)) (w.nodes m).durables
Enabled n w i o (Asks t) = Each (λ s. s ≢ t) w.asks
Enabled n w i o (Probe t) = (o.up ≡ true) × (o.leading ≡ true) × Has (λ s. s ≡ t) w.asks × (1 ≤ o.durable) × (o.adopted ≤ o.durable)
Enabled n w i o (Confirm t g) = (o.up ≡ true) × (o.promised ≤ g) × (m : ℕ) × Has (λ x. (x.ask ≡ t) × (x.gen ≡ g)) (w.nodes m).pings

-- The invariant: of each node alone, and of what its facts say of other nodes.
use Rattle.std.proofs.Common.{◌≡◌, ℕ, ◌<◌, ◌≤◌, List, length, take}
use Rattle.std.specs.Prelude.{true, false}
use mathlib.Core.Logic.{◌⊎◌}
use Rattle.cluster_consensus.specs.Durable.{DurableIn}
use Rattle.cluster_consensus.specs.Enabled.{Below, IsGranted, Fit}
use Rattle.cluster_consensus.specs.Facts.{Claim, Vote, Grant, Own, Admit, World, blank}
use Rattle.core_lists.specs.Fronts.{Front}
use Rattle.core_lists.specs.Lists.{In, Each, Has}
use Rattle.core_lists.specs.Majorities.{Majority}

-- f tells the elements apart
pub record Once {A : Type 0} (f : A → ℕ) (xs : List A) : Type 0 where
  pub same : (x y : A) → In x xs → In y xs → f x ≡ f y → x ≡ y

-- of two logs accepted in one generation one begins the other
pub record Chain {E : Type 0} (xs : List (Claim E)) : Type 0 where
  pub one : (x y : Claim E) → In x xs → In y xs → x.gen ≡ y.gen → Front x.log y.log ⊎ Front y.log x.log

-- the pair was accepted by an event, or its generation isn't above that of the store
abbrev pub Held : {E : Type 0} → Own E → ℕ → List E → Type 0
Held o a l = Has (λ c. (c.gen ≡ a) × (c.log ≡ l)) o.accepts ⊎ (a ≤ o.store_accepted)

-- what was accepted below g was accepted before the pair
abbrev pub Closed : {E : Type 0} → Own E → ℕ → ℕ → List E → Type 0
Closed o g a l = Each (λ c. c.gen < g → (c.gen ≤ a) × (c.gen ≡ a → Front c.log l)) o.accepts

pub record GrantOk {E : Type 0} (o : Own E) (x : Grant E) : Type 0 where
  pub low : x.gen ≤ o.promised
  pub above : x.accepted < x.gen
  pub held : Held o x.accepted x.log
  pub store : o.store_promised < x.gen
  pub was : o.was_up ≡ true
  pub closed : Closed o x.gen x.accepted x.log

pub record VoteOk {E : Type 0} (o : Own E) (v : Vote E) : Type 0 where
  pub low : v.gen ≤ o.promised
  pub above : v.accepted < v.gen
  pub held : Held o v.accepted v.log
  pub still : v.gen ≡ o.promised → o.accepted < v.gen → (o.accepted ≡ v.accepted) × (o.log ≡ v.log)

pub record Local {E : Type 0} (o : Own E) : Type 0 where
  pub below : o.accepted ≤ o.promised
  pub store : o.store_promised ≤ o.promised
  pub awake : o.up ≡ true → o.was_up ≡ true
  pub fresh : o.was_up ≡ false → o ≡ blank
  pub heads : o.leading ≡ true → (o.accepted ≡ o.promised) × Has (λ l. l.gen ≡ o.accepted) o.leads
  pub last : Each (λ c. (c.gen ≤ o.accepted) × (c.gen ≡ o.accepted → Front c.log o.log)) o.accepts
  pub held : Held o o.accepted o.log
  pub grants : Each (GrantOk o) o.grants
  pub grant_once : Once (λ x. x.gen) o.grants
  pub votes : Each (VoteOk o) o.votes
  pub vote_once : Once (λ v. v.gen) o.votes
  pub leads : Each (λ l. Has (λ v. (v.gen ≡ l.gen) × (v.log ≡ l.log)) o.votes) o.leads
  pub chain : Chain o.accepts
  pub ships : Each (λ s. Has (λ l. l.gen ≡ s.gen) o.leads × In s o.accepts) o.ships
  pub acks : Each (λ c. In c o.accepts) o.acks

-- who led the generation of this acceptance: it begins with what that node adopted, and begins what it accepted
pub record Follows {E : Type 0} (w : World E) (c : Claim E) : Type 0 where
  pub by : ℕ
  pub adopted : Has (λ l. (l.gen ≡ c.gen) × Front l.log c.log) (w.nodes by).leads
  pub whole : Has (λ d. (d.gen ≡ c.gen) × Front c.log d.log) (w.nodes by).accepts

abbrev pub Known : {E : Type 0} → ℕ → World E → Own E → Type 0
Known n w o = (o.durable ≡ 0) ⊎ ((g : ℕ) × (g ≤ o.accepted) × DurableIn n w g (take o.durable o.log))

pub record Refs {E : Type 0} (n : ℕ) (w : World E) (i : ℕ) (o : Own E) : Type 0 where
  pub admitted : o.was_up ≡ true → In (record { node = i; promised = o.store_promised; accepted = o.store_accepted }) w.admits
  pub granted : Each (λ x. Has (λ v. (v.gen ≡ x.gen) × Below x.accepted (length x.log) v.accepted (length v.log)) (w.nodes x.to).votes) o.grants
  pub led : Each (λ l. Majority n (IsGranted w l.gen i)) o.leads
  pub follows : Each (Follows w) o.accepts
  pub durables : Each (λ d. DurableIn n w d.gen d.log) o.durables
  pub known : Known n w o
  pub fits : o.durable ≤ length o.log

pub record Inv {E : Type 0} (n : ℕ) (w : World E) : Type 0 where
  pub local : (i : ℕ) → Local (w.nodes i)
  pub refs : (i : ℕ) → Refs n w i (w.nodes i)
  pub fit : Fit n w.admits

pub record Grows {E : Type 0} (w v : World E) : Type 0 where
  pub votes : (k : ℕ) (x : Vote E) → In x (w.nodes k).votes → In x (v.nodes k).votes
  pub grants : (k : ℕ) (x : Grant E) → In x (w.nodes k).grants → In x (v.nodes k).grants
  pub leads : (k : ℕ) (x : Claim E) → In x (w.nodes k).leads → In x (v.nodes k).leads
  pub accepts : (k : ℕ) (x : Claim E) → In x (w.nodes k).accepts → In x (v.nodes k).accepts
  pub admits : (x : Admit) → In x w.admits → In x v.admits

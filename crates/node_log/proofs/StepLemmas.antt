-- A log that its store holds: what the store stands for, before and after it is stopped.
use Rattle.std.proofs.Common.{◌≡◌, ℕ, zero, suc, ◌<◌, ltb, List, [], ◌++◌, false, true, take, refl, sym, ap, ◌∙◌, subst}
use Rattle.std.proofs.Math.Logic.{∥∥₁_elim, ∥∥₁_map}
use Rattle.std.specs.Coded.{Coded-set, coded_bool}
use Rattle.std.proofs.lemmas.Bool.{ltb-true, lt-ltb}
use Rattle.std.proofs.lemmas.List.{append-nil}
use Rattle.cdb_outside.specs.Stores.{JoinsFront}
use Rattle.store_log.specs.Holds.{plain}
use Rattle.store_log.proofs.KeptLaws.{held_stand}
use Rattle.node_log.specs.Logged.{Logged, IsInStep, Stand}

-- as long as no call of the store failed
abbrev pub IsKeptUp : Logged → Type 0
IsKeptUp l = l.failed ≡ false → IsInStep l.node l.cluster l.store l.promised l.accepted l.entries

pub same_kept : {l k : Logged} → l ≡ k → IsKeptUp l → IsKeptUp k
same_kept e h = subst IsKeptUp e h

pub step_stands : (l : Logged) → IsInStep l.node l.cluster l.store l.promised l.accepted l.entries → ∥ Stand l.store.synced l ∥₁
step_stands l i = ∥∥₁_map i.holds (held_stand l.node l.cluster l.store.synced (plain l.promised l.accepted l.entries))

take_none : (n : ℕ) → take {A = ℕ} n [] ≡ []
take_none zero = refl
take_none (suc n) = refl

-- a stop leaves settled bytes as they are
pub none_join : (synced pending joined : List ℕ) → pending ≡ [] → JoinsFront synced pending joined → joined ≡ synced
none_join synced pending joined e j =
    j.1 ∙ ap (λ (bytes : List ℕ). synced ++ take j.0 bytes) e ∙ ap (λ (bytes : List ℕ). synced ++ bytes) (take_none j.0) ∙ append-nil synced

pub stopped_stands : (l : Logged) (joined : List ℕ) → IsKeptUp l → JoinsFront l.store.synced l.store.pending joined
    → l.failed ≡ false → ∥ Stand joined l ∥₁
stopped_stands l joined k j running =
    subst (λ (bytes : List ℕ). ∥ Stand bytes l ∥₁) (sym (none_join l.store.synced l.store.pending joined (k running).settled j)) (step_stands l (k running))

-- a number that is below another in each case
pub below_each : {A : Type 0} (m n : ℕ) → ∥ A ∥₁ → (A → m < n) → m < n
below_each m n t f = ltb-true m n (∥∥₁_elim t (Coded-set coded_bool (ltb m n) true) (λ a. lt-ltb m n (f a)))

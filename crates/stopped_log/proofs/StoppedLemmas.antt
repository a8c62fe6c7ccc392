-- What a stop leaves of a store, and what an opening finds in it.
use Rattle.std.proofs.Common.{◌≡◌, inl, inr, ℕ, List, [], ◌∷◌, arith, sym, subst}
use Rattle.std.specs.Coded.{Coded-set, coded_ℕ}
use Rattle.std.specs.List.{AllByRecursion}
use mathlib.Core.Logic.{∥∥₁_elim, ∥∥₁_map}
use Rattle.phys_log.specs.declared.entries.Entry.{Entry}
use Rattle.store_log.specs.declared.standings.Standing.{Standing}
use Rattle.store_log.specs.declared.standings.Standing.TheVariants.{Log, Bad, Foreign}
use Rattle.store_log.specs.Held.{StandsFor}
use Rattle.store_log.specs.Opens.{IsLater, IsOpenFault, StandsAlike}
use Rattle.store_log.specs.declared.opens.OpenFault.{OpenFault}
use Rattle.store_log.specs.declared.opens.OpenFault.TheVariants as fault
use Rattle.store_log.proofs.HeldLaws.{one_standing}
use Rattle.node_log.specs.Logged.{Logged, Stand, StandForOne}
use Rattle.node_log.specs.Same.{IsNode, IsOfNode, IsOneOf}
use Rattle.node_log.proofs.SameLaws.{log_among}
use Rattle.stopped_log.specs.Stopped.{Excuses, HoldsOne, Stopped}

-- the log of a node
pub named_of : (node cluster : ℕ) (bytes : List ℕ) (l : Logged) → IsOfNode node cluster l → Stand bytes l → StandsFor node cluster bytes (Log l.promised l.accepted l.entries)
named_of node cluster bytes l is s =
    subst (λ (k : ℕ). StandsFor k cluster bytes (Log l.promised l.accepted l.entries)) is.node
    (subst (λ (k : ℕ). StandsFor l.node k bytes (Log l.promised l.accepted l.entries)) is.cluster s)

-- bytes that stand for whatever others did stand for one of the same logs
alike_of : (node cluster : ℕ) (old new : List ℕ) (l : Logged) → IsOfNode node cluster l → StandsAlike node cluster old new → Stand old l → Stand new l
alike_of node cluster old new l is alike s =
    let n = named_of node cluster old l is s in
    subst (λ (k : ℕ). StandsFor k l.cluster new (Log l.promised l.accepted l.entries)) (sym is.node)
    (subst (λ (k : ℕ). StandsFor node k new (Log l.promised l.accepted l.entries)) (sym is.cluster) (alike (Log l.promised l.accepted l.entries) n))

one_alike : (node cluster : ℕ) (old new : List ℕ) (ls : List Logged) → AllByRecursion (IsOfNode node cluster) ls → StandsAlike node cluster old new → StandForOne old ls → StandForOne new ls
one_alike node cluster old new [] all alike s = absurd s
one_alike node cluster old new (l ∷ ls) all alike (inl s) = inl (alike_of node cluster old new l all.0 alike s)
one_alike node cluster old new (l ∷ ls) all alike (inr s) = inr (one_alike node cluster old new ls all.1 alike s)

pub still_one : (node cluster : ℕ) (old new : List ℕ) (ls : List Logged) → AllByRecursion (IsOfNode node cluster) ls → StandsAlike node cluster old new → ∥ StandForOne old ls ∥₁ → ∥ StandForOne new ls ∥₁
still_one node cluster old new ls all alike t = ∥∥₁_map t (one_alike node cluster old new ls all alike)

-- they stand for a log, so they are neither bad nor another's
log_of : (node cluster : ℕ) (bytes : List ℕ) (ls : List Logged) (s : Standing) → IsNode node cluster → AllByRecursion (IsOfNode node cluster) ls → StandsFor node cluster bytes s → StandForOne bytes ls
    → (p : ℕ) × (a : ℕ) × (es : List Entry) × (s ≡ Log p a es)
log_of node cluster bytes [] s n all x h = absurd h
log_of node cluster bytes (l ∷ ls) s n all x (inl h) =
    (l.promised, l.accepted, l.entries, one_standing node cluster bytes s (Log l.promised l.accepted l.entries) n.node n.cluster x (named_of node cluster bytes l all.0 h))
log_of node cluster bytes (l ∷ ls) s n all x (inr h) = log_of node cluster bytes ls s n all.1 x h

not_foreign : (p a : ℕ) (es : List Entry) → Foreign ≡ Log p a es → ◌≡◌ {A = ℕ} 0 1
not_foreign p a es e = absurd (cc)

not_bad : (at p a : ℕ) (es : List Entry) → Bad at ≡ Log p a es → ◌≡◌ {A = ℕ} 0 1
not_bad at p a es e = absurd (cc)

never : ◌≡◌ {A = ℕ} 0 1 → ⊥
never e = absurd (omega arith)

pub excuses : (why : OpenFault) (node cluster : ℕ) (bytes : List ℕ) (ls : List Logged) (before now : ℕ) → IsNode node cluster → AllByRecursion (IsOfNode node cluster) ls → ∥ StandForOne bytes ls ∥₁
    → IsOpenFault why node cluster bytes before now → IsLater why before now → Excuses why before now
excuses (fault.StoreFault read) node cluster bytes ls before now n all t x l = x
excuses fault.Foreign node cluster bytes ls before now n all t x l =
    absurd (never (∥∥₁_elim t (Coded-set coded_ℕ 0 1) (λ h. let q = log_of node cluster bytes ls Foreign n all x h in not_foreign q.0 q.1 q.2 q.3)))
excuses (fault.Corrupt at) node cluster bytes ls before now n all t x l =
    absurd (never (∥∥₁_elim t (Coded-set coded_ℕ 0 1) (λ h. let q = log_of node cluster bytes ls (Bad at) n all x h in not_bad at q.0 q.1 q.2 q.3)))
excuses fault.NoMemory node cluster bytes ls before now n all t x l = l

-- what a call of it leaves
pub found_one : (s : Stopped) (n : Logged) → IsNode s.node s.cluster → IsOfNode s.node s.cluster n → StandsFor s.node s.cluster s.synced (Log n.promised n.accepted n.entries) → (logs : List Logged) → HoldsOne s logs → ∥ IsOneOf n logs ∥₁
found_one s n is of st logs h =
    let stand : Stand s.synced n =
    subst (λ (k : ℕ). StandsFor k n.cluster s.synced (Log n.promised n.accepted n.entries)) (sym of.node)
    (subst (λ (k : ℕ). StandsFor s.node k s.synced (Log n.promised n.accepted n.entries)) (sym of.cluster) st) in
    log_among s.node s.cluster s.synced logs n is h.of_node of h.one ∣ stand ∣₁

pub holds_still : (s t u : Stopped) → t ≡ u → u.node ≡ s.node → u.cluster ≡ s.cluster → StandsAlike s.node s.cluster s.synced u.synced → (logs : List Logged) → HoldsOne s logs → HoldsOne t logs
holds_still s t u q a b alike logs h = subst (λ x. HoldsOne x logs) (sym q) (record {
  of_node = subst (λ k. AllByRecursion (IsOfNode k u.cluster) logs) (sym a) (subst (λ k. AllByRecursion (IsOfNode s.node k) logs) (sym b) h.of_node);
  one = still_one s.node s.cluster s.synced u.synced logs h.of_node alike h.one;
})

pub excused : (why told : OpenFault) (s t u : Stopped) → t ≡ u → told ≡ why → IsNode s.node s.cluster → IsOpenFault why s.node s.cluster s.synced s.faults u.faults → IsLater why s.faults u.faults → (logs : List Logged) → HoldsOne s logs → Excuses told s.faults t.faults
excused why told s t u q e is x l logs h =
    subst (λ w. Excuses w s.faults t.faults) (sym e) (subst (λ (y : Stopped). Excuses why s.faults y.faults) (sym q) (excuses why s.node s.cluster s.synced logs s.faults u.faults is h.of_node h.one x l))

-- what is told of a store that was not opened is told of what stands there then
pub refused_is : (why told : OpenFault) (node cluster : ℕ) (bytes : List ℕ) (before : ℕ) (t u : Stopped) → t ≡ u → told ≡ why → IsOpenFault why node cluster bytes before u.faults → IsOpenFault told node cluster bytes before t.faults
refused_is why told node cluster bytes before t u q e x =
    subst (λ w. IsOpenFault w node cluster bytes before t.faults) (sym e) (subst (λ (y : Stopped). IsOpenFault why node cluster bytes before y.faults) (sym q) x)

pub later_is : (why told : OpenFault) (before : ℕ) (t u : Stopped) → t ≡ u → told ≡ why → IsLater why before u.faults → IsLater told before t.faults
later_is why told before t u q e x = subst (λ w. IsLater w before t.faults) (sym e) (subst (λ (y : Stopped). IsLater why before y.faults) (sym q) x)

pub alike_is : (node cluster : ℕ) (bytes : List ℕ) (t u : Stopped) → t ≡ u → StandsAlike node cluster bytes u.synced → StandsAlike node cluster bytes t.synced
alike_is node cluster bytes t u q x = subst (λ (y : Stopped). StandsAlike node cluster bytes y.synced) (sym q) x

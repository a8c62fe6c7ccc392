-- What is read off a stopped store.
use Rattle.std.proofs.Common.{◌≡◌, ℕ, ◌<◌, ◌^◌, List, sym, subst, ap, ◌∙◌}
use mathlib.Core.Logic.{∥∥₁_map}
use Rattle.phys_log.specs.declared.entries.Entry.{Entry}
use Rattle.store_log.specs.declared.standings.Standing.TheVariants.{Log}
use Rattle.store_log.specs.Held.{StandsFor}
use Rattle.store_log.specs.Opens.{StandsAlike}
use Rattle.store_log.proofs.HeldLaws.{one_standing}
use Rattle.node_log.specs.Logged.{Logged, Stand}
use Rattle.node_log.specs.Same.{IsNode, IsOfNode}
use Rattle.stopped_log.proofs.StoppedLemmas.{named_of}
use Rattle.kept_log.specs.Kept.{StandsStill}

pub stood_of : (node cluster : ℕ) (bytes : List ℕ) (p a : ℕ) (es : List Entry) (l : Logged) → p ≡ l.promised → a ≡ l.accepted → es ≡ l.entries
    → StandsFor node cluster bytes (Log l.promised l.accepted l.entries) → StandsFor node cluster bytes (Log p a es)
stood_of node cluster bytes p a es l ep ea ee s =
    let same : Log l.promised l.accepted l.entries ≡ Log p a es =
    ap (λ x. Log x l.accepted l.entries) (sym ep) ∙ (ap (λ x. Log p x l.entries) (sym ea) ∙ ap (λ x. Log p a x) (sym ee)) in
    subst (λ x. StandsFor node cluster bytes x) same s

-- a store that stands for a log stood for nothing else
pub still_read : (node cluster : ℕ) (old new : List ℕ) (l : Logged) → IsNode l.node l.cluster → IsOfNode node cluster l
    → StandsFor node cluster old (Log l.promised l.accepted l.entries) → ∥ Stand new l ∥₁ → StandsStill node cluster old new
still_read node cluster old new l n is stood t s x =
    let below : node < 256 = subst (λ k. k < 256) is.node n.node in
    let named : cluster < 2 ^ 128 = subst (λ k. k < 2 ^ 128) is.cluster n.cluster in
    subst (λ y. ∥ StandsFor node cluster new y ∥₁)
    (one_standing node cluster old (Log l.promised l.accepted l.entries) s below named stood x)
    (∥∥₁_map t (named_of node cluster new l is))

pub still_alike : (node cluster : ℕ) (old new : List ℕ) → StandsAlike node cluster old new → StandsStill node cluster old new
still_alike node cluster old new alike s x = ∣ alike s x ∣₁

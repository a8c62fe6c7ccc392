-- A store tells one log.
use Rattle.std.proofs.Common.{◌≡◌, inl, inr, ℕ, List, [], ◌∷◌, subst}
use Rattle.std.specs.Coded.{Coded, Coded-set, coded_list, coded_ℕ}
use Rattle.std.specs.List.{AllByRecursion}
use mathlib.Core.Logic.{∥∥₁_elim, ∥∥₁_map}
use Rattle.phys_log.specs.contracts.entries.Entry as entry
use Rattle.phys_log.specs.declared.entries.Entry.{Entry}
use Rattle.store_log.specs.declared.standings.Standing.TheVariants.{Log}
use Rattle.store_log.specs.Held.{StandsFor}
use Rattle.store_log.proofs.HeldLaws.{one_standing}
use Rattle.node_log.specs.Logged.{Logged, Stand, StandForOne}
use Rattle.node_log.specs.Same.{IsNode, IsOfNode, IsSameLog, IsOneOf}

abbrev entries_code : Coded (List Entry)
entries_code = coded_list (entry.the_row).coded

of_node : (node cluster : ℕ) (bytes : List ℕ) (l : Logged) → IsOfNode node cluster l → Stand bytes l
    → StandsFor node cluster bytes (Log l.promised l.accepted l.entries)
of_node node cluster bytes l is s =
    subst (λ (n : ℕ). StandsFor n cluster bytes (Log l.promised l.accepted l.entries)) is.node
    (subst (λ (n : ℕ). StandsFor l.node n bytes (Log l.promised l.accepted l.entries)) is.cluster s)

one_log : (node cluster : ℕ) (bytes : List ℕ) (l k : Logged) → IsNode node cluster → IsOfNode node cluster l → IsOfNode node cluster k
    → Stand bytes l → Stand bytes k → IsSameLog l k
one_log node cluster bytes l k n il ik sl sk =
    let e : Log l.promised l.accepted l.entries ≡ Log k.promised k.accepted k.entries =
    one_standing node cluster bytes (Log l.promised l.accepted l.entries) (Log k.promised k.accepted k.entries) n.node n.cluster
    (of_node node cluster bytes l il sl) (of_node node cluster bytes k ik sk) in
    record { promised = cc; accepted = cc; entries = cc }

pub same_log : (node cluster : ℕ) (bytes : List ℕ) (l k : Logged) → IsNode node cluster → IsOfNode node cluster l → IsOfNode node cluster k
    → ∥ Stand bytes l ∥₁ → ∥ Stand bytes k ∥₁ → IsSameLog l k
same_log node cluster bytes l k n il ik tl tk = record {
  promised = ∥∥₁_elim tl (Coded-set coded_ℕ l.promised k.promised) (λ sl. ∥∥₁_elim tk (Coded-set coded_ℕ l.promised k.promised) (λ sk.
      (one_log node cluster bytes l k n il ik sl sk).promised));
  accepted = ∥∥₁_elim tl (Coded-set coded_ℕ l.accepted k.accepted) (λ sl. ∥∥₁_elim tk (Coded-set coded_ℕ l.accepted k.accepted) (λ sk.
      (one_log node cluster bytes l k n il ik sl sk).accepted));
  entries = ∥∥₁_elim tl (Coded-set entries_code l.entries k.entries) (λ sl. ∥∥₁_elim tk (Coded-set entries_code l.entries k.entries) (λ sk.
      (one_log node cluster bytes l k n il ik sl sk).entries));
}

one_among : (node cluster : ℕ) (bytes : List ℕ) (ls : List Logged) (k : Logged) → IsNode node cluster
    → AllByRecursion (IsOfNode node cluster) ls → IsOfNode node cluster k → ∥ Stand bytes k ∥₁ → StandForOne bytes ls → IsOneOf k ls
one_among node cluster bytes [] k n all ik tk s = s
one_among node cluster bytes (l ∷ ls) k n all ik tk (inl s) = inl (same_log node cluster bytes l k n all.0 ik ∣ s ∣₁ tk)
one_among node cluster bytes (l ∷ ls) k n all ik tk (inr s) = inr (one_among node cluster bytes ls k n all.1 ik tk s)

pub log_among : (node cluster : ℕ) (bytes : List ℕ) (ls : List Logged) (k : Logged) → IsNode node cluster
    → AllByRecursion (IsOfNode node cluster) ls → IsOfNode node cluster k → ∥ StandForOne bytes ls ∥₁ → ∥ Stand bytes k ∥₁ → ∥ IsOneOf k ls ∥₁
log_among node cluster bytes ls k n all ik t tk = ∥∥₁_map t (one_among node cluster bytes ls k n all ik tk)

-- Which entry of a log has the identity of a request, by the identities of the log.
use Rattle.std.proofs.Common.{◌≡◌, ℕ, ◌↔◌, inl, inr, List, [], ◌∷◌, Option, Some, None, refl, subst}
use Rattle.std.specs.Prelude.{IfSome, IsNone}
use Rattle.blkseq_table.proofs.LogLemmas.{of_stands}
use Rattle.blkseq_table.specs.Known.{Known, StandsAt, IsAbsent}
use Rattle.blkseq_table.specs.OfLogs.{identities_of, HasId}
use Rattle.phys_log.specs.declared.entries.CommitId.{CommitId}
use Rattle.phys_log.specs.declared.entries.Entry.{Entry}
use Rattle.phys_log.specs.declared.requests.CommitRequest.{CommitRequest}
use Rattle.block_processor.specs.Decided.{IsNew}

-- one that stands nowhere stands at no position
absent_nowhere : (known : List Known) (id : CommitId) (position : ℕ) → IsAbsent known id → StandsAt known id position → ⊥
absent_nowhere [] id position absent at = at
absent_nowhere (k ∷ known) id position absent (inl here) = absent.0 here.0
absent_nowhere (k ∷ known) id position absent (inr later) = absent_nowhere known id position absent.1 later

pub new_is : (known : List Known) (entries : List Entry) (request : CommitRequest) → known ≡ identities_of entries → IsAbsent known request.id → IsNew request entries
new_is known entries request are absent = record {
  nowhere = λ position has. absent_nowhere (identities_of entries) request.id position (subst (λ (k : List Known). IsAbsent k request.id) are absent)
      ((of_stands entries request.id position).1 has);
}

pub repeat_is : (known : List Known) (entries : List Entry) (request : CommitRequest) (position : ℕ) → known ≡ identities_of entries → StandsAt known request.id position
    → HasId entries position request.id
repeat_is known entries request position are at =
    (of_stands entries request.id position).0 (subst (λ (k : List Known). StandsAt k request.id position) are at)

-- what a lookup finds
pub found_is : (known : List Known) (request : CommitRequest) (found : Option ℕ) → ((position : ℕ) → (found ≡ Some position) ↔ StandsAt known request.id position)
    → IfSome found (λ position. (entries : List Entry) → known ≡ identities_of entries → HasId entries position request.id)
found_is known request None at = tt
found_is known request (Some position) at = λ entries are. repeat_is known entries request position are ((at position).0 refl)

pub none_is : (known : List Known) (request : CommitRequest) (found : Option ℕ) → (IsNone found ↔ IsAbsent known request.id)
    → IsNone found → (entries : List Entry) → known ≡ identities_of entries → IsNew request entries
none_is known request found absent none entries are = new_is known entries request are (absent.0 none)

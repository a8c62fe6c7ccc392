-- What the laws on requests see of an entry of a log: its generation, and the identity of a commit.
use Rattle.std.specs.Prelude.{ℕ, ◌≡◌, ◌≢◌, ◌+◌, length, List, [], ◌∷◌, ◌++◌, Option, Some, None}
use Rattle.core_lists.specs.Fronts.{Front}
use Rattle.phys_log.specs.declared.entries.CommitId.{CommitId}
use Rattle.cluster_requests.specs.KeptEntries.{KeptEntry}
use Rattle.cluster_requests.specs.KeptEntries.KeptEntry.{SetupKept, CommitKept}

abbrev pub generation_of : KeptEntry → ℕ
generation_of (SetupKept generation schema records reached) = generation
generation_of (CommitKept generation id begin level changes records reached) = generation

abbrev pub identity_of : KeptEntry → Option CommitId
identity_of (SetupKept generation schema records reached) = None
identity_of (CommitKept generation id begin level changes records reached) = Some id

-- the entry at a position has it
pub record HasAt (id : CommitId) (position : ℕ) (l : List KeptEntry) : Type 0 where
  pub before : List KeptEntry
  pub entry : KeptEntry
  pub front : Front (before ++ entry ∷ []) l
  pub place : length before + 1 ≡ position
  pub is : identity_of entry ≡ Some id

-- no entry of the log has this identity
abbrev pub Lacks : CommitId → List KeptEntry → Type 0
Lacks id l = (xs : List KeptEntry) (e : KeptEntry) → Front (xs ++ e ∷ []) l → identity_of e ≢ Some id

-- The identities of a log with their positions. An entry's position is its place in the log, from 1; a setup has no
-- identity.
use Rattle.std.specs.Prelude.{◌≡◌, ℕ, ◌+◌, ◌-◌, ◌≤◌, List, [], ◌∷◌, ◌++◌, Option, None, Some, slice_get}
use Rattle.phys_log.specs.declared.entries.CommitId.{CommitId}
use Rattle.phys_log.specs.declared.entries.Entry.{Entry}
use Rattle.phys_log.specs.declared.entries.Entry.TheVariants.{Setup, Commit}
use Rattle.blkseq_table.specs.Known.{Known, known_at}

-- the identity of an entry, where it is that of a transaction
abbrev pub id_of : Entry → Option CommitId
id_of (Setup generation schema records) = None
id_of (Commit generation id begin level changes records) = Some id

-- what a table has of an entry at a position
abbrev pub known_of : ℕ → Entry → List Known
known_of position (Setup generation schema records) = []
known_of position (Commit generation id begin level changes records) = known_at id position ∷ []

-- what it has of entries, the first of which stands at a position; and of a log
abbrev pub identities_from : ℕ → List Entry → List Known
identities_from position [] = []
identities_from position (e ∷ es) = known_of position e ++ identities_from (position + 1) es

abbrev pub identities_of : List Entry → List Known
identities_of entries = identities_from 1 entries

-- the entry at a position has an identity
abbrev pub HasId : List Entry → ℕ → CommitId → Type 0
HasId entries position id =
    (1 ≤ position) × ((entry : Entry) × (slice_get entries (position - 1) ≡ Some entry) × (id_of entry ≡ Some id))

-- The identities of the transactions of a log: of each the generation in which it began, its session, and its number
-- there.
--
-- Of the entries
--
--     1   setup    the table t
--     2   commit   the transaction 1 of the session a, begun in generation 1
--     3   commit   the transaction 1 of the session b, begun in generation 1
--
-- these are (1, a, 1) and (1, b, 1). They are apart: two identities are the same only where all three parts are.
use Rattle.std.specs.Prelude.{◌≡◌, List, [], ◌∷◌, ◌++◌, map, Bool, true, false}
use Rattle.std.specs.List.{AllByRecursion}
use Rattle.phys_log.specs.declared.entries.CommitId.{CommitId}
use Rattle.phys_log.specs.declared.entries.Entry.{Entry}
use Rattle.phys_log.specs.declared.entries.Entry.TheVariants.{Setup, Commit}
use Rattle.table_store.specs.Listings.{IsAmong}
use Rattle.sound_log.specs.declared.identities.IdKey.{IdKey}

-- the identity of an entry, where it is that of a transaction; and those of entries in order
abbrev pub ids_of : Entry → List CommitId
ids_of (Setup generation schema records) = []
ids_of (Commit generation id begin level changes records) = id ∷ []

abbrev pub ids_in : List Entry → List CommitId
ids_in [] = []
ids_in (e ∷ es) = ids_of e ++ ids_in es

-- no identity comes twice
abbrev pub AreApart : List CommitId → Type 0
AreApart [] = Unit {0}
AreApart (id ∷ ids) = (IsAmong id ids → ⊥) × AreApart ids

-- the identities by which a set has them
abbrev pub id_by : IdKey → CommitId
id_by key = record { began = key.began; session = key.session.now; txn = key.txn }

abbrev pub ids_by : List IdKey → List CommitId
ids_by keys = map id_by keys

-- what is told where the identity of an entry, if it has one, is put behind others: that it is not among them, and
-- stands there now; or that it is among them
abbrev pub IsPut : List CommitId → List CommitId → List CommitId → Bool → Type 0
IsPut old ids new true = AllByRecursion (λ id. IsAmong id old → ⊥) ids × (new ≡ old ++ ids)
IsPut old ids new false = (id : CommitId) × IsAmong id ids × IsAmong id old

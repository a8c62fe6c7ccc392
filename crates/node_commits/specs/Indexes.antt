-- The identities of a log that was read or taken. A node appends no identity that its log has; of a log that it comes up with, or
-- takes, its type does not say so.
--
--   entries                        the index
--   a setup, (1, a, 1), (1, b, 1)    (1, a, 1) at 2, (1, b, 1) at 3
--   a setup, (1, a, 1), (1, a, 1)    none
use Rattle.std.specs.Prelude.{◌≡◌, Bool, true, false, List, ◌++◌, Option, None, Some}
use Rattle.std.specs.List.{AllByRecursion}
use Rattle.blkseq_table.specs.Known.{Known, AreApart, IsAbsent}
use Rattle.blkseq_table.specs.OfLogs.{identities_of}
use Rattle.phys_log.specs.declared.entries.Entry.{Entry}

-- what is told where identities are put behind others: that none of them is among these, and they stand there now; or that one is
-- among them
abbrev pub IsPut : List Known → List Known → List Known → Bool → Type 0
IsPut old its new true = AllByRecursion (λ k. IsAbsent old k.id) its × (new ≡ old ++ its)
IsPut old its new false = AllByRecursion (λ k. IsAbsent old k.id) its → ⊥

-- the identities of a log, which are apart; none, where they are not
abbrev pub IsIndex : List Entry → Option (List Known) → Type 0
IsIndex entries (Some known) = (known ≡ identities_of entries) × AreApart known
IsIndex entries None = AreApart (identities_of entries) → ⊥

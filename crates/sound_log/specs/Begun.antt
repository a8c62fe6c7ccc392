-- The test of one entry behind the first.
use Rattle.std.specs.Prelude.{ℕ, Bool, false, nat_le}
use Rattle.phys_log.specs.declared.entries.Entry.{Entry}
use Rattle.phys_log.specs.declared.entries.Entry.TheVariants.{Setup, Commit}

-- whether an entry is that of a transaction that began in a generation, or before it
abbrev pub is_begun_by : ℕ → Entry → Bool
is_begun_by accepted (Setup generation schema records) = false
is_begun_by accepted (Commit generation id begin level changes records) = nat_le id.began accepted

-- each genid that a pair names is there, or its pair is still to be looked at
use Rattle.std.proofs.Common.{ℕ, ◌^◌, ◌<◌, ◌⊎◌, List, length}
use Rattle.byteorder.specs.Endian.{big_bytes}
use Rattle.page_workspace.specs.Spare.{IsIn}
use Rattle.table_store.specs.Listings.{IsAmong, keyed}
use Rattle.page_rows.proofs.genids.all_genids.Given as goal

abbrev pub invariant-pairs : goal.invariant-pairs
invariant-pairs l = record {
  has : (genid : ℕ) (code : List ℕ) → genid < 2 ^ 64 → IsAmong (keyed l.unique code (big_bytes 8 genid)) l.fn.pairs
      → IsIn genid l.genids.items ⊎ IsAmong (keyed l.unique code (big_bytes 8 genid)) l.rest;
}

abbrev pub decreases-pairs : goal.decreases-pairs
decreases-pairs l = length l.rest

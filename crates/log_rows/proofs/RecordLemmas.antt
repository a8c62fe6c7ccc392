-- Faults of a source that loses no pages, and records behind a log.
use Rattle.std.proofs.Common.{◌≡◌, ℕ, List, inl, inr, ap, arith, drop, Result, Ok, Err}
use Rattle.byteorder.specs.Endian.{big_number}
use Rattle.edit_records.specs.Alike.{AreAlike}
use Rattle.page_store.specs.Image.{Image}
use Rattle.page_workspace.specs.Spare.{first_cell, next_genid, count_of}
use Rattle.page_store.specs.Sources.{IsExcused, Rose}
use Rattle.page_store.specs.declared.sources.PageFault.{PageFault}
use Rattle.page_store.specs.declared.sources.PageFault.TheVariants.{Gone, NoMemory}
use Rattle.log_rows.specs.Sources.{IsWant}

never : Rose 0 0 → ⊥
never (inl less) = omega arith
never (inr same) = omega arith

pub want_alone : {T : Type 0} (result : Result T PageFault) (fault : PageFault) → result ≡ Err fault → IsExcused result 0 0 → IsWant fault
want_alone (Ok x) fault e h = absurd cc
want_alone (Err Gone) fault e h = absurd (never h.1)
want_alone (Err NoMemory) Gone e h = absurd cc
want_alone (Err NoMemory) NoMemory e h = tt

-- pages with other LSNs have the same meta page but for its LSN
pub alike_genid : (old new : ℕ → Image) → AreAlike old new → next_genid new ≡ next_genid old
alike_genid old new like = ap (λ (cells : List (List ℕ)). big_number 8 (first_cell cells)) (like 0).cells

pub alike_count : (old new : ℕ → Image) → AreAlike old new → count_of new ≡ count_of old
alike_count old new like = ap (λ (cells : List (List ℕ)). big_number 8 (drop 8 (first_cell cells))) (like 0).cells

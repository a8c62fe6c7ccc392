-- The pages of a log as a source of pages, which loses none.
use Rattle.std.specs.Prelude.{ℕ}
use Rattle.page_store.specs.Image.{Image}
use Rattle.page_store.specs.declared.sources.PageFault.{PageFault}
use Rattle.page_store.specs.declared.sources.PageFault.TheVariants.{Gone, NoMemory}
use Rattle.phys_log.specs.Logs.{pages_of}
use Rattle.log_replay.specs.Answers.{LogSource}

abbrev pub source_pages : LogSource → ℕ → Image
source_pages source = pages_of source.entries

-- a fault is want of memory
abbrev pub IsWant : PageFault → Type 0
IsWant Gone = ⊥
IsWant NoMemory = Unit {0}

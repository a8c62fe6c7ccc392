-- A log whose pages tell numbers below 2^62: the next genid, and the number of pages.
use Rattle.std.specs.Prelude.{◌^◌, ◌<◌, List}
use Rattle.page_workspace.specs.Spare.{next_genid, count_of}
use Rattle.phys_log.specs.Logs.{pages_of}
use Rattle.phys_log.specs.declared.entries.Entry.{Entry}

pub record IsSmall (entries : List Entry) : Type 0 where
  pub genid : next_genid (pages_of entries) < 2 ^ 62
  pub count : count_of (pages_of entries) < 2 ^ 62

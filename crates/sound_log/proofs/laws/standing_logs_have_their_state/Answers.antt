use Rattle.std.proofs.Common.{arith}
use Rattle.phys_log.specs.Logs.{pages_of}
use Rattle.log_rows.specs.History.{no_ground, rows_of, tables_of}
use Rattle.table_store.specs.Stored.{Stands}
use Rattle.sound_log.proofs.laws.standing_logs_have_their_state.Goals as goal

pub returns : goal.returns
returns c = λ entries some throughout fit next count.
    let stands : Stands (pages_of entries) (tables_of entries) (rows_of entries) = c.entries_stand.ensures.whole no_ground (tables_of entries) entries some (omega arith) throughout in
    record {
      stands = stands;
      good = c.pages_that_stand_keep_their_keys.ensures.good (pages_of entries) (tables_of entries) (rows_of entries) stands fit;
      next = next;
      count = count;
    }

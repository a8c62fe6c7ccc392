use Rattle.std.proofs.Common.{rules}
use Rattle.cdb_outside.proofs.TurnLemmas.{writes_more}
use Rattle.cdb_outside.proofs.sink.write_whole.Goals as goal

pub loop-written-preserved : goal.loop-written-preserved
loop-written-preserved g c =
    let (within, calm, appended) = c.loop-written.invariant in
    let write = c.in_ok-written.ensures in (
      search rules,
      search rules,
      writes_more _ _ _ _ _ _ appended write.bytes,
    )

use Rattle.std.proofs.KnownBytes.{Consumes-trans}
use Rattle.cdb_outside.proofs.source.read_up_to.Goals as goal

pub returns-then-is_err-clause-lost : goal.returns-then-is_err-clause-lost
returns-then-is_err-clause-lost g c =
    (_, Consumes-trans _ _ _ _ _ c.loop-piece.invariant.2 c.in-Ok.ensures.bytes.0)

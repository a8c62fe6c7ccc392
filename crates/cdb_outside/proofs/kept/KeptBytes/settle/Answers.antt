use Rattle.std.proofs.Common.{refl}
use Rattle.cdb_outside.proofs.FrontLemmas.{take-kept, take-own, drop-own}
use Rattle.cdb_outside.proofs.kept.KeptBytes.settle.Goals as goal

pub returns : goal.returns
returns c =
    rw (← c.self.view_is, c.truncate.ensures.items, c.min-kept.ensures, c.len.ensures, c.self.inside.bytes.ok.0, take-own, drop-own, take-kept) refl

-- The bytes of frames that may follow.
use Rattle.std.proofs.Common.{◌∙◌}
use Rattle.store_log.proofs.FollowLemmas.{next_of}
use Rattle.store_log.proofs.stores.Held.keep.Goals as goal

pub keep_bytes-requires-clause-next : goal.keep_bytes-requires-clause-next
keep_bytes-requires-clause-next g c =
    next_of c.args.self.now.synced c.as_slice.result.now c.args.frames.now (c.as_slice.ensures.value ∙ c.in-Ok.ensures) c.requires.follow

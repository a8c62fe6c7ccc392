use Rattle.std.proofs.Common.{refl}
use Rattle.store_log.specs.declared.walks.Reach.{Reach}
use Rattle.store_log.specs.Held.{at_first}
use Rattle.store_log.proofs.WalkLemmas.{walk_begun, walk_same}
use Rattle.store_log.proofs.walks.read_frames.Goals as goal

pub frames-init : goal.frames-init
frames-init g c =
    let reach : Reach = record { at = 27; closed = 27; window = c.args.window; used = 27 } in
    record {
      walk = walk_same (g.D.LogStore.synced c.args.store.now) at_first c.new-held.result reach c.new-held.ensures
          (walk_begun (g.D.LogStore.synced c.args.store.now) reach refl refl refl c.requires.begun c.requires.front);
      synced = refl;
      pending = refl;
      unwritten = refl;
      calm = refl;
    }

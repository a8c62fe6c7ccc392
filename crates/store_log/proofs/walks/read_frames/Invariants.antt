-- the frames in front of the offset are held, and the window has bytes from there on
use Rattle.std.proofs.Common.{◌≡◌}
use Rattle.store_log.specs.Walks.{IsWalk, ahead}
use Rattle.store_log.proofs.walks.read_frames.Given as goal

abbrev pub invariant-frames : goal.invariant-frames
invariant-frames g l = record {
  walk : IsWalk (g.D.LogStore.synced l.fn.store) l.held l.reach;
  synced : g.D.LogStore.synced l.store ≡ g.D.LogStore.synced l.fn.store;
  pending : g.D.LogStore.pending l.store ≡ g.D.LogStore.pending l.fn.store;
  unwritten : g.D.LogStore.writes l.store ≡ g.D.LogStore.writes l.fn.store;
  calm : g.D.LogStore.faults l.store ≡ g.D.LogStore.faults l.fn.store;
}

abbrev pub decreases-frames : goal.decreases-frames
decreases-frames g l = ahead (g.D.LogStore.synced l.fn.store) l.reach

-- the window has the first bytes of the store
use Rattle.std.proofs.Common.{◌≡◌, ◌-◌, length}
use Rattle.std.specs.Io.{StartsWith}
use Rattle.store_log.proofs.windows.first_window.Given as goal

abbrev pub invariant-begin : goal.invariant-begin
invariant-begin g l = record {
  window : StartsWith (g.D.LogStore.synced l.fn.store) l.window.items;
  synced : g.D.LogStore.synced l.store ≡ g.D.LogStore.synced l.fn.store;
  pending : g.D.LogStore.pending l.store ≡ g.D.LogStore.pending l.fn.store;
  unwritten : g.D.LogStore.writes l.store ≡ g.D.LogStore.writes l.fn.store;
  calm : g.D.LogStore.faults l.store ≡ g.D.LogStore.faults l.fn.store;
}

abbrev pub decreases-begin : goal.decreases-begin
decreases-begin g l = length (g.D.LogStore.synced l.fn.store) - length l.window.items

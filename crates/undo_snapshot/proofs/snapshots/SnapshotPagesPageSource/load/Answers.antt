use Rattle.std.proofs.Common.{ℕ, List, Some, ap, ◌∙◌}
use Rattle.page_store.specs.Image.{Image}
use Rattle.phys_log.specs.Logs.{pages_of}
use Rattle.undo_snapshot.specs.Kept.{kept_page}
use Rattle.undo_snapshot.specs.Snapshots.{Snapshot}
use Rattle.undo_snapshot.proofs.KeptLemmas.{used_found, used_snapshot}
use Rattle.undo_snapshot.proofs.snapshots.SnapshotPagesPageSource.load.Goals as goal

pub invariant_of-self-2 : goal.invariant_of-self-2
invariant_of-self-2 g c =
    let fact = c.in_ok-use_page.ensures in
    used_snapshot (g.G.Granter.front c.self.inside.granter) (g.G.Granter.front c.use_page.new.granter) c.self.inside.position c.args.id
    c.self.inside.kept c.use_page.new.kept c.self.invariant fact.front fact.kept

pub returns-clause-loaded : goal.returns-clause-loaded
returns-clause-loaded g c =
    let front = g.G.Granter.front in
    ap (λ (k : List (ℕ × Image)). kept_page k c.args.id) c.in_ok-use_page.ensures.kept
    ∙ used_found c.self.inside.kept c.args.id (pages_of (front c.self.inside.granter) c.args.id)
    ∙ ap (λ (s : Snapshot g.row.G.Denot). Some (pages_of (front s.granter) c.args.id)) c.self.view_is

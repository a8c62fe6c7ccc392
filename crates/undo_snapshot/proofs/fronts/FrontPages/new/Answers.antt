use Rattle.std.proofs.Common.{List, ℕ, subst, sym}
use Rattle.page_store.specs.Image.{Image}
use Rattle.phys_log.specs.Logs.{pages_of}
use Rattle.undo_snapshot.specs.Kept.{Further, as_before}
use Rattle.undo_snapshot.proofs.fronts.FrontPages.new.Goals as goal

pub invariant_of-result : goal.invariant_of-result
invariant_of-result g c =
    (c.requires.front, subst (λ (k : List (ℕ × Image)). Further (pages_of g.F.Front.front) g.F.Front.kept k) (sym c.requires.kept) as_before)

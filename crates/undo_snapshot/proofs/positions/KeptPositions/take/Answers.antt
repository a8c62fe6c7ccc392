use Rattle.std.proofs.Common.{ℕ, ◌∙◌, [], List, Option, ap, subst, sym, take, unwrap_or}
use Rattle.page_store.specs.Image.{Image}
use Rattle.phys_log.specs.Logs.{pages_of}
use Rattle.undo_snapshot.specs.Kept.{AreOf}
use Rattle.undo_snapshot.proofs.PositionLemmas.{begun_pages}
use Rattle.undo_snapshot.proofs.positions.KeptPositions.take.Goals as goal

pub returns-clause-pages : goal.returns-clause-pages
returns-clause-pages c = λ log are.
    subst (λ (k : List (ℕ × Image)). AreOf (pages_of (take c.args.position log)) k)
    (sym (c.or_none.ensures ∙ ap (λ (had : Option (List (ℕ × Image))). unwrap_or had []) c.in_ok-had.ensures.had))
    (begun_pages log c.args.self.now c.args.position are)

use Rattle.std.proofs.Common.{ℕ, List, subst}
use Rattle.page_store.specs.Image.{Image}
use Rattle.undo_snapshot.specs.Positions.{Served, none_served}
use Rattle.script_play.proofs.reader.LogReader.new.Goals as goal

pub invariant_of-result : goal.invariant_of-result
invariant_of-result g c = (c.requires.of_log, subst (λ (k : List (ℕ × List (ℕ × Image))). Served c.args.log.now k c.args.undone) c.requires.begins none_served)

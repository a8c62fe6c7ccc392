use Rattle.std.proofs.Common.{◌≡◌, ◌-◌, ◌∙◌, length, ap, arith}
use Rattle.std.specs.Prelude.{swap_remove}
use Rattle.script_play.proofs.AppendLemmas.{swapped_at}
use Rattle.script_play.proofs.run.put_down.Goals as goal

pub returns : goal.returns
returns c = λ front outcome lost down is.
    c.swap_remove.ensures.items
    ∙ ap (λ n. swap_remove c.args.lines.now.items n c.swap_remove.result) place
    ∙ swapped_at c.args.lines.now.items front outcome lost down c.swap_remove.result is
  where
    place : c.len-place.result - 3 ≡ length c.args.lines.now.items - 3
    place = let a = c.len-place.ensures in let b = c.args.lines.now.ok in omega (arith, a, b)

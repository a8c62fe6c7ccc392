use Rattle.std.proofs.Common.{◌≡◌, ℕ, List, ap, ◌∙◌, rules}
use Rattle.page_store.specs.declared.edits.Edit.TheVariants.{SwapCell}
use Rattle.page_workspace.specs.Spare.{first_cell}
use Rattle.page_workspace.specs.Metas.{cell_of}
use Rattle.page_workspace.proofs.MetaLaws.{meta_decides}
use Rattle.page_workspace.proofs.metas.meta_swap.Goals as goal

pub returns-clause-swap : goal.returns-clause-swap
returns-clause-swap c =
    let found = c.in-Some.ensures.some in
    let before : c.in_ok-before.before ≡ c.in-Some.cell.now = search rules in
    let after : c.in_ok-after.after ≡ cell_of c.args.meta = search rules in
    record {
      on = (meta_decides c.args.page.now).0 found.0;
      is = ap (λ (b : List ℕ). SwapCell 0 b c.in_ok-after.after) (before ∙ found.1)
          ∙ ap (λ (a : List ℕ). SwapCell 0 (first_cell c.args.page.now.cells) a) after;
    }

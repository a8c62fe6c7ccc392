use Rattle.std.proofs.Common.{◌≡◌, ℕ, ap, ◌∙◌, rules}
use Rattle.std.specs.List.{remove}
use Rattle.page_workspace.specs.Drafts.{meant}
use Rattle.btree_index.specs.Steps.{TakesAt}
use Rattle.btree_index.proofs.FreeFitLemmas.{LeavesChild, leaves_child}
use Rattle.btree_index.proofs.frees.drop_child.Goals as goal

pub returns-clause-fit : goal.returns-clause-fit
returns-clause-fit g c = λ can.
    let old = meant g.P.PageSource.pages c.args.space.now in
    let mid = meant g.P.PageSource.pages c.take_at.new.space in
    let id = c.args.id in
    let first : c.args.at ≡ 0 = search rules in
    let taken : TakesAt old mid id c.args.at = c.in_ok-take_at.ensures.taken in
    let left : LeavesChild (old id).cells = leaves_child (old id) c.args.at can in
    c.rekey_first.ensures.fit left.cell left.others (taken.alters.is ∙ ap (λ (n : ℕ). remove (old id).cells n) first ∙ left.is) left.inner

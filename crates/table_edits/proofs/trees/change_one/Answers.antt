-- The laws of several trees and of one tree, called in the body, make one step of what `change_tree` does.
use Rattle.std.proofs.Common.{refl}
use Rattle.std.specs.Option.{option_copied}
use Rattle.page_workspace.specs.Drafts.{meant}
use Rattle.table_edits.specs.Halfway.{planned}
use Rattle.table_edits.proofs.StepLemmas.{Laws, stepped}
use Rattle.table_edits.proofs.trees.change_one.Goals as goal

pub returns-clause-changed : goal.returns-clause-changed
returns-clause-changed g c = λ start rows plan left known half.
    let forest = c.a_change_of_one_tree_keeps_the_others.ensures in
    let tree = c.a_tree_after_operations.ensures in
    let laws : Laws = record { stands = forest.stands; keeps = forest.kept; listed = tree.listed; kept = tree.kept; broken = tree.broken } in
    stepped laws start (meant g.P.PageSource.pages c.args.space.now) (meant g.P.PageSource.pages c.change_tree.new.space) rows c.args.ops.now plan c.args.next c.args.root _
    (planned c.args.place (option_copied c.args.key)) left refl known c.requires.named half c.change_tree.result c.change_tree.ensures.changed
    c.change_tree.ensures.freed c.change_tree.ensures.filled

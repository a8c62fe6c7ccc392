-- A table that no operation names is passed over; and the tree of its rows tells no duplicate.
use Rattle.std.proofs.Common.{◌++◌, sym, ◌∙◌, refl}
use Rattle.page_workspace.specs.Drafts.{meant}
use Rattle.table_store.specs.Plans.{key_trees}
use Rattle.table_edits.proofs.StepLemmas.{Laws, unnamed}
use Rattle.table_edits.proofs.PassLemmas.{never_told, skipped_table}
use Rattle.table_edits.proofs.trees.change_table.Goals as goal

pub returns-then-not-is_named-clause-changed : goal.returns-then-not-is_named-clause-changed
returns-then-not-is_named-clause-changed g c = λ start rows plan left known half.
    let forest = c.a_change_of_one_tree_keeps_the_others.ensures in
    let tree = c.a_tree_after_operations.ensures in
    let laws : Laws = record { stands = forest.stands; keeps = forest.kept; listed = tree.listed; kept = tree.kept; broken = tree.broken } in
    skipped_table laws start (meant g.P.PageSource.pages c.args.space.now) rows c.args.ops.now plan c.args.next c.args.root _ c.args.place c.args.keys.now left
    refl known (unnamed c.args.place c.args.ops.now c.args.next (sym c.is_named.ensures ∙ c.if-not-is_named.true)) half

pub returns-in-Err-clause-changed : goal.returns-in-Err-clause-changed
returns-in-Err-clause-changed g c = λ start rows plan left known half.
    never_told _ _ _ c.in-Err.fault (c.in-Err.ensures.changed start rows plan (key_trees c.args.place c.args.keys.now ++ left) known half)

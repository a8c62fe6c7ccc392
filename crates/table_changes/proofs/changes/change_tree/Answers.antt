-- What is put stands behind what was taken out.
use Rattle.std.specs.Option.{option_copied}
use Rattle.page_workspace.specs.Drafts.{meant}
use Rattle.page_workspace.proofs.OwnLaws.{ok_all}
use Rattle.btree_index.specs.Changes.{Becomes}
use Rattle.btree_index.specs.Filled.{KeepsFilled}
use Rattle.btree_index.proofs.FilledLemmas.{filled_after}
use Rattle.table_store.specs.Operations as ops
use Rattle.table_changes.proofs.ChangedLemmas.{put_behind_taken}
use Rattle.table_changes.proofs.FreedLemmas.{then_put}
use Rattle.table_changes.proofs.changes.change_tree.Goals as goal

pub returns-in-Ok-clause-changed : goal.returns-in-Ok-clause-changed
returns-in-Ok-clause-changed g c = λ own free list stands.
    let taken : Becomes (meant g.P.PageSource.pages c.args.space.now) (meant g.P.PageSource.pages c.take_all.new.space) c.args.root own free
    (ops.removed (option_copied c.args.key) (ops.gone c.args.table c.args.ops.now) list) = c.in-Ok.ensures.taken own free list stands in
    put_behind_taken (meant g.P.PageSource.pages c.args.space.now) (meant g.P.PageSource.pages c.take_all.new.space) (meant g.P.PageSource.pages c.put_all.new.space)
    c.args.root own free _ _ c.put_all.result taken (c.put_all.ensures.put taken.more taken.spare _ taken.stands)

pub returns-in-Ok-clause-freed : goal.returns-in-Ok-clause-freed
returns-in-Ok-clause-freed g c =
    then_put (meant g.P.PageSource.pages c.args.space.now) (meant g.P.PageSource.pages c.take_all.new.space) (meant g.P.PageSource.pages c.put_all.new.space)
    c.args.root (option_copied c.args.key) (ops.gone c.args.table c.args.ops.now) (ops.born c.args.table c.args.next c.args.ops.now) c.put_all.result
    c.in-Ok.ensures.freed c.put_all.ensures.put

pub returns-in-Ok-clause-filled : goal.returns-in-Ok-clause-filled
returns-in-Ok-clause-filled g c = λ own free list stands.
    let old = meant g.P.PageSource.pages c.args.space.now in
    let mid = meant g.P.PageSource.pages c.take_all.new.space in
    let new = meant g.P.PageSource.pages c.put_all.new.space in
    let taken : Becomes old mid c.args.root own free
    (ops.removed (option_copied c.args.key) (ops.gone c.args.table c.args.ops.now) list) = c.in-Ok.ensures.taken own free list stands in
    ok_all c.put_all.result (λ (f : KeepsFilled mid new c.args.root). filled_after old mid new c.args.root (c.in-Ok.ensures.filled own free list stands) f)
    (c.put_all.ensures.filled taken.more taken.spare _ taken.stands)

-- All trees, and then the next genid.
use Rattle.page_workspace.specs.Drafts.{meant}
use Rattle.cdb_values.specs.Rows.{apply_all}
use Rattle.table_edits.specs.Broken.{broken_place}
use Rattle.table_edits.specs.Freed.{FreesLeaves}
use Rattle.table_edits.specs.Genids.{SetsGenid}
use Rattle.table_edits.specs.Kept.{store_of, Leaves}
use Rattle.table_edits.proofs.FreedLemmas.{frees_leaves}
use Rattle.table_edits.proofs.EndLemmas.{last_told, fault_told}
use Rattle.table_edits.proofs.PassLemmas.{begins, ends}
use Rattle.table_edits.proofs.edits.change_from.Goals as goal

pub returns-in-Ok-clause-done : goal.returns-in-Ok-clause-done
returns-in-Ok-clause-done g c = λ rows stands able.
    let start = meant g.P.PageSource.pages c.args.space.now in
    let tables = c.args.schema.now in
    let pages = meant g.P.PageSource.pages c.change_tables.new.space in
    let new = meant g.P.PageSource.pages c.tell_genid.new.space in
    let passed = c.in-Ok.ensures.changed (store_of start tables rows stands) rows stands.state.tables_are
    (begins start tables rows c.args.ops.now c.args.next stands able c.requires.next) in
    last_told c.tell_genid.result (SetsGenid pages new c.in-Some.last) (Leaves start new tables rows c.args.ops.now stands × FreesLeaves start new tables c.args.ops.now)
    (broken_place (apply_all rows c.args.ops.now) 0 tables) passed.1
    (λ set. (
      ends start pages new tables rows c.args.ops.now c.args.next passed.0.0 c.in-Some.last stands passed.0.1 set c.in-Some.ensures.last c.in-Some.ensures.below,
      frees_leaves start pages new tables rows c.args.ops.now c.args.next passed.0.0 c.in-Some.last stands passed.0.1 set c.in-Some.ensures.last,
    ))
    c.tell_genid.ensures.set

pub returns-in-Err-clause-done : goal.returns-in-Err-clause-done
returns-in-Err-clause-done g c = λ rows stands able.
    let start = meant g.P.PageSource.pages c.args.space.now in
    fault_told _ _ _ c.in-Err.fault
    (c.in-Err.ensures.changed (store_of start c.args.schema.now rows stands) rows stands.state.tables_are
    (begins start c.args.schema.now rows c.args.ops.now c.args.next stands able c.requires.next))

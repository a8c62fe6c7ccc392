-- The request is what is asked of inserts over the log, and the log goes on with its entry.
use Rattle.std.proofs.Common.{List, subst}
use Rattle.std.specs.List.{AllByRecursion}
use Rattle.cdb_values.specs.declared.rows.RowOp.{RowOp}
use Rattle.table_edits.specs.Fits.{WritesFitting}
use Rattle.log_tests.proofs.BegunLemmas.{asked, each_ok, goes_on, some_ops}
use Rattle.log_tests.proofs.begun.decided.Goals as goal

pub decide-requires : goal.decide-requires
decide-requires c =
    let request = c.args.request in
    let tables = c.args.schema.now in
    let fit : AllByRecursion (WritesFitting tables) request.ops =
    subst (λ (l : List RowOp). AllByRecursion (WritesFitting tables) l) c.as_slice.ensures (c.in_ok-all_fit.ensures c.if-not-branch.false) in
    (asked request c.args.log.now tables c.requires.begun c.requires.asks (some_ops request.ops c.is_empty.result c.is_empty.ensures c.if-is_empty.false) fit, c.requires.known)

pub returns : goal.returns
returns c = each_ok c.decide.result (λ d is. goes_on c.args.request c.args.log.now c.args.schema.now 1 d c.requires.begun is) c.decide.ensures

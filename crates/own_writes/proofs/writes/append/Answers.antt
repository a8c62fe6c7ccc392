use Rattle.std.proofs.Common.{◌++◌, ◌∙◌, List, ap}
use Rattle.std.specs.Prelude.{is_ok, if◌then◌else◌}
use Rattle.cdb_values.specs.declared.rows.RowOp.{RowOp}
use Rattle.own_writes.proofs.KeptLemmas.{kept_if}
use Rattle.own_writes.proofs.writes.append.Goals as goal

pub returns-clause-kept : goal.returns-clause-kept
returns-clause-kept c =
    kept_if (is_ok c.append.result) c.args.ops.now.items c.args.writes c.append.new.self.items c.args.stamps.now c.args.marks.now c.requires
    (c.append.ensures.items ∙ ap (λ (l : List RowOp). if is_ok c.append.result then c.args.ops.now.items ++ l else c.args.ops.now.items) c.into_vec-added.ensures)

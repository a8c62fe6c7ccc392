use Rattle.std.proofs.Common.{◌++◌, map, Some, refl, ap}
use Rattle.sql_bind.proofs.ListLemmas.{no_more, one_more}
use Rattle.sql_bind.proofs.inserts.kinds_of_columns.Goals as goal

pub columns-init : goal.columns-init
columns-init c = ap (λ ws. ws ++ map (λ column. Some column.kind) c.args.columns.now) c.new-kinds.ensures.items

pub columns-preserved : goal.columns-preserved
columns-preserved c =
    one_more (λ ys. map (λ column. Some column.kind) ys) c.columns.kinds.items c.push.new.self.items (map (λ column. Some column.kind) c.args.columns.now) (Some c.column-item.result.kind) c.args.columns.now c.columns.column-index c.column-item.result c.columns-test.true c.column-item.is
    c.in_ok-push.ensures.items (λ ys. refl) c.columns.invariant

pub returns : goal.returns
returns c = no_more (λ ys. map (λ column. Some column.kind) ys) c.columns.kinds.items (map (λ column. Some column.kind) c.args.columns.now) c.args.columns.now c.columns.column-index refl c.columns-test.false c.columns.invariant

-- the lines so far, before those of the rows that are left, are those of all
use Rattle.std.proofs.Common.{◌≡◌, ◌++◌, map}
use Rattle.std.specs.Vec.Iter.{into_iter_items}
use Rattle.cdb_values.specs.declared.replies.Reply.TheVariants as reply
use Rattle.sql_answer_plain.proofs.queries.add_row_lines.Given as goal

abbrev pub invariant-rows : goal.invariant-rows
invariant-rows l = l.replies ++ map (λ row. reply.Row row) (into_iter_items l.row-iterator) ≡ l.fn.replies ++ map (λ row. reply.Row row) l.fn.rows

use Rattle.std.proofs.Common.{◌≡◌, map}
use Rattle.sql_grammar.specs.Views.{part_in, definition_in}
use Rattle.table_read.specs.Keys.{written_keys}
use Rattle.table_read.specs.Tables.{columns_with}
use Rattle.table_read.proofs.TableLaws.{said}
use Rattle.table_read.proofs.reading.table.Goals as goal

pub returns : goal.returns
returns c =
    let w : c.in_ok-written.written ≡ written_keys (map part_in c.args.definition.now.parts.items.items) = rw c.as_slice-parts.ensures at c.in_ok-written.ensures in
    let s : c.in_ok-columns.columns ≡ columns_with c.in_ok-written.written (map part_in c.args.definition.now.parts.items.items) = rw (c.as_slice-parts.ensures, c.as_slice.ensures) at c.in_ok-columns.ensures in
    said (definition_in c.args.definition.now) c.in_ok-written.written c.in_ok-columns.columns c.in_ok-keys.keys c.in_ok-copied.field-0 w s (rw c.as_bytes.ensures at c.in_ok-copied.ensures) (rw (c.as_slice-2.ensures, c.as_slice-3.ensures) at c.in_ok-keys.ensures)

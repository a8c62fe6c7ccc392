-- A scan of the rows' tree gives the pairs of the versions, in order.
use Rattle.std.proofs.Common.{◌≡◌, ℕ, ◌+◌, List, ap, ◌∙◌, take, length}
use Rattle.cdb_values.specs.Rows.{versions_of}
use Rattle.cdb_values.specs.declared.tables.TableDef.{TableDef}
use Rattle.table_store.specs.Plans.{plan_from}
use Rattle.table_store.specs.Readings.{row_pairs}
use Rattle.table_store.proofs.ReadLaws.{IsToRead, to_read}
use Rattle.table_store.proofs.reads.table_versions.Goals as goal

pub returns-in-Ok-clause-versions : goal.returns-in-Ok-clause-versions
returns-in-Ok-clause-versions g c = λ rows stands.
    let table : ℕ = c.args.table in
    let tables : List TableDef = c.args.schema.now in
    let root : c.in_ok-root.root ≡ 1 + length (plan_from 0 (take table tables))
    = c.in_ok-root.ensures.root ∙ ap (λ (ts : List TableDef). 1 + length (plan_from 0 (take table ts))) c.tables.ensures in
    let read : IsToRead (g.P.PageSource.pages c.args.pages.now) c.in_ok-root.root (versions_of rows table)
    = to_read (g.P.PageSource.pages c.args.pages.now) tables rows table c.in_ok-root.root stands c.requires.known root in
    c.in-Ok.ensures (versions_of rows table) read.readable
    (c.as_slice.ensures.value ∙ c.in_ok-pairs.ensures.found (row_pairs (versions_of rows table)) read.tree ∙ read.pairs)

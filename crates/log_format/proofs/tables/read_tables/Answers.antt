use Rattle.std.proofs.Common.{◌≡◌, ◌+◌, ◌<◌, List, [], ◌∷◌, ◌++◌, length, sym, ap, subst, rules, arith, length-append}
use Rattle.std.specs.List.{flat_map, AllByRecursion}
use Rattle.cdb_values.specs.declared.tables.TableDef.{TableDef}
use Rattle.frame_code.specs.Codes.{table_code}
use Rattle.frame_code.specs.Spelled.{IsTable, Grow}
use Rattle.log_format.proofs.ListLemmas.{tables_lack, schema_lack, parts_more, all_more, grow_more}
use Rattle.log_format.proofs.tables.read_tables.Goals as goal

pub returns-in_default : goal.returns-in_default
returns-in_default c =
    let fewer : length c.tables.schema < c.args.count = first_of (search rules, grind arith) in
    tables_lack c.args.count c.tables.schema c.tables.rest.now c.args.bytes.now c.tables.invariant.each c.tables.invariant.read fewer
    (rw c.in_default.is at c.in_ok-table.ensures)

pub returns-then-not-branch : goal.returns-then-not-branch
returns-then-not-branch c =
    let fewer : length c.tables.schema < c.args.count = first_of (search rules, grind arith) in
    let refused = rw c.if-not-branch.true at c.in_ok-grow.ensures in
    schema_lack c.args.count c.tables.schema c.in-Some.table c.in-Some.others.now c.tables.rest.now c.args.bytes.now c.tables.invariant.each
    (rw c.in-Some.is at c.in_ok-table.ensures) c.tables.invariant.read fewer refused.0

pub tables-preserved : goal.tables-preserved
tables-preserved c =
    let fewer : length c.tables.schema < c.args.count = first_of (search rules, grind arith) in
    let here = rw c.in-Some.is at c.in_ok-table.ensures in
    let grown = rw c.if-not-branch.false at c.in_ok-grow.ensures in
    let size : length c.grow.new.schema ≡ length (c.tables.schema ++ c.in-Some.table ∷ []) = ap length grown.1 in
    let parts : length (c.tables.schema ++ c.in-Some.table ∷ []) ≡ length c.tables.schema + length (c.in-Some.table ∷ []) =
    length-append c.tables.schema (c.in-Some.table ∷ []) in
    record {
      read = subst (λ (l : List TableDef). flat_map table_code l ++ c.in-Some.others.now ≡ c.args.bytes.now) (sym grown.1)
          (parts_more table_code c.tables.schema c.in-Some.table c.in-Some.others.now c.tables.rest.now c.args.bytes.now here.1 c.tables.invariant.read);
      each = subst (λ (l : List TableDef). AllByRecursion IsTable l) (sym grown.1)
          (all_more IsTable c.tables.schema c.in-Some.table c.tables.invariant.each here.0);
      grow = subst (λ (l : List TableDef). Grow [] l) (sym grown.1)
          (grow_more [] c.tables.schema c.in-Some.table c.tables.invariant.grow grown.0);
      within = omega arith;
    }

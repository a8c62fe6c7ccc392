use Rattle.std.proofs.Common.{ℕ, List, take, drop, length, sym, ap, ◌∙◌, subst}
use Rattle.std.proofs.lemmas.Bool.{eqb-true}
use Rattle.cdb_values.specs.declared.rows.Version.{Version}
use Rattle.table_state.specs.Grown.{list_of, lists_of}
use Rattle.table_state.specs.Listed.{AllClimb, IsTable, AreTables}
use Rattle.table_state.proofs.AmongLaws.{empty_is}
use Rattle.table_state.proofs.TableLaws.{IsNext, take_climb, drop_climb, tables_none, tables_to, tables_from, tables_end}
use Rattle.table_state.proofs.tables.read_tables.Goals as goal

pub read_table-requires-clause-climb_all : goal.read_table-requires-clause-climb_all
read_table-requires-clause-climb_all c =
    let climb = subst AllClimb c.in-Some-split_first.ensures.cases.0 c.tables.invariant.climb in
    take_climb c.len.result c.in-Some-split_first.later.now c.cut.result.0.now c.cut.ensures.first climb.1

pub returns-in_default-2 : goal.returns-in_default-2
returns-in_default-2 c =
    let next : IsNext c.in-Some.table.now c.in-Some.others.now c.in-Some-split_first.rows.now c.in-Some-split_first.later.now c.cut.result.0.now c.cut.result.1.now c.tables.rest.now c.tables.left.now = record {
      tables_are = c.in-Some.ensures.cases.0;
      trees_are = c.in-Some-split_first.ensures.cases.0;
      keys_are = c.cut.ensures.first ∙ ap (λ (n : ℕ). take n c.in-Some-split_first.later.now) c.len.ensures;
      behind_are = c.cut.ensures.others ∙ ap (λ (n : ℕ). drop n c.in-Some-split_first.later.now) c.len.ensures;
    } in
    let none : (vs : List Version) → IsTable c.in-Some.table.now c.args.next (list_of c.in-Some-split_first.rows.now) (lists_of c.cut.result.0.now) vs → ⊥ = rw c.in_default-2.is at c.in_ok-versions.ensures in
    λ all h. tables_none c.args.next c.in-Some.table.now c.in-Some.others.now c.in-Some-split_first.rows.now c.in-Some-split_first.later.now c.cut.result.0.now c.cut.result.1.now
    c.tables.rest.now c.tables.left.now c.tables.found all next none (c.tables.invariant.from all h)

pub tables-preserved : goal.tables-preserved
tables-preserved c =
    let next : IsNext c.in-Some.table.now c.in-Some.others.now c.in-Some-split_first.rows.now c.in-Some-split_first.later.now c.cut.result.0.now c.cut.result.1.now c.tables.rest.now c.tables.left.now = record {
      tables_are = c.in-Some.ensures.cases.0;
      trees_are = c.in-Some-split_first.ensures.cases.0;
      keys_are = c.cut.ensures.first ∙ ap (λ (n : ℕ). take n c.in-Some-split_first.later.now) c.len.ensures;
      behind_are = c.cut.ensures.others ∙ ap (λ (n : ℕ). drop n c.in-Some-split_first.later.now) c.len.ensures;
    } in
    let read : IsTable c.in-Some.table.now c.args.next (list_of c.in-Some-split_first.rows.now) (lists_of c.cut.result.0.now) c.in-Some-2.versions = rw c.in-Some-2.is at c.in_ok-versions.ensures in
    let climb = subst AllClimb c.in-Some-split_first.ensures.cases.0 c.tables.invariant.climb in
    record {
      climb = drop_climb c.len.result c.in-Some-split_first.later.now c.cut.result.1.now c.cut.ensures.others climb.1;
      to = tables_to c.args.next c.in-Some.table.now c.in-Some.others.now c.in-Some-split_first.rows.now c.in-Some-split_first.later.now c.cut.result.0.now c.cut.result.1.now
          c.tables.rest.now c.tables.left.now c.in-Some-2.versions c.tables.found c.push.new.self (AreTables c.args.next c.args.tables.now (lists_of c.args.trees.now)) next read
          c.in_ok-push.ensures.ok c.tables.invariant.to;
      from = λ all h. tables_from c.args.next c.in-Some.table.now c.in-Some.others.now c.in-Some-split_first.rows.now c.in-Some-split_first.later.now c.cut.result.0.now c.cut.result.1.now
          c.tables.rest.now c.tables.left.now c.in-Some-2.versions c.tables.found c.push.new.self all c.requires.next next read
          c.in_ok-push.ensures.ok (c.tables.invariant.from all h);
    }

pub returns : goal.returns
returns c =
    tables_end c.args.next c.tables.rest.now c.tables.left.now c.tables.found (AreTables c.args.next c.args.tables.now (lists_of c.args.trees.now))
    (empty_is c.tables.rest.now c.in_default.ensures.cases) (empty_is c.tables.left.now (eqb-true (length c.tables.left.now) 0 (sym c.is_empty.ensures ∙ c.if-not-is_empty.false))) c.tables.invariant.to

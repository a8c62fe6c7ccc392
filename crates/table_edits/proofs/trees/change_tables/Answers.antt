-- One table more, or one where it stops, or none.
use Rattle.std.proofs.Common.{◌≡◌, ◌≤◌, ◌<◌, ◌+◌, ◌*◌, ℕ, suc, List, length, sym, ◌∙◌, subst, arith}
use Rattle.page_workspace.specs.Drafts.{meant}
use Rattle.cdb_values.specs.declared.tables.TableDef.{TableDef}
use Rattle.table_store.specs.Plans.{plan_from}
use Rattle.table_edits.specs.Halfway.{IsHalfway}
use Rattle.table_edits.proofs.FitLemmas.{table_at, rows_fit, keys_fit_there}
use Rattle.table_edits.proofs.PassLemmas.{tables_more, tables_stop, tables_end}
use Rattle.table_edits.proofs.trees.change_tables.Goals as goal

pub change_table-requires-clause-row_fits : goal.change_table-requires-clause-row_fits
change_table-requires-clause-row_fits g c =
    let within : c.tables.place < length c.args.schema.now = subst (λ (ts : List TableDef). c.tables.place < length ts) c.tables-count.ensures c.tables-test.true in
    let there = table_at c.args.schema.now c.tables.place c.keys.result.now within c.keys.ensures.keys in
    rows_fit c.args.schema.now c.tables.place c.args.next there.table c.args.ops.now there.at c.requires.fit

pub change_table-requires-clause-keys_fit : goal.change_table-requires-clause-keys_fit
change_table-requires-clause-keys_fit g c =
    let within : c.tables.place < length c.args.schema.now = subst (λ (ts : List TableDef). c.tables.place < length ts) c.tables-count.ensures c.tables-test.true in
    let there = table_at c.args.schema.now c.tables.place c.keys.result.now within c.keys.ensures.keys in
    keys_fit_there c.args.schema.now c.tables.place c.args.next c.keys.result.now c.args.ops.now there c.requires.fit

pub returns-in-Err-clause-changed : goal.returns-in-Err-clause-changed
returns-in-Err-clause-changed g c = λ start rows long half.
    let within : c.tables.place < length c.args.schema.now = subst (λ (ts : List TableDef). c.tables.place < length ts) c.tables-count.ensures c.tables-test.true in
    let there = table_at c.args.schema.now c.tables.place c.keys.result.now within c.keys.ensures.keys in
    tables_stop start (meant g.P.PageSource.pages c.tables.space) (meant g.P.PageSource.pages c.change_table.new.space) rows c.args.ops.now c.args.schema.now c.args.next
    c.tables.root c.tables.place there.table c.keys.result.now
    (λ left behind. IsHalfway start (meant g.P.PageSource.pages c.change_table.new.space) rows c.args.ops.now (plan_from 0 c.args.schema.now) c.args.next behind left) _ c.in-Err.fault there.at there.keys_are
    (c.tables.invariant.done start rows long half)
    (λ left h. c.in-Err.ensures.changed start rows (plan_from 0 c.args.schema.now) left (subst (λ (n : ℕ). c.tables.place < n) (sym long) within) h)

pub tables-preserved : goal.tables-preserved
tables-preserved g c =
    let within : c.tables.place < length c.args.schema.now = subst (λ (ts : List TableDef). c.tables.place < length ts) c.tables-count.ensures c.tables-test.true in
    let there = table_at c.args.schema.now c.tables.place c.keys.result.now within c.keys.ensures.keys in
    let rose : g.P.PageSource.losses c.tables.space.base ≤ g.P.PageSource.losses c.change_table.new.space.base = c.in-Ok.ensures.excused in
    let earlier : g.P.PageSource.losses c.args.space.now.base ≤ g.P.PageSource.losses c.tables.space.base = c.tables.invariant.losses in
    let behind : c.in-Ok.behind ≡ c.tables.root + 1 + length c.keys.result.now = c.in-Ok.ensures.behind in
    let few : length c.keys.result.now ≤ 8 = c.keys.ensures.few in
    let low : c.tables.root ≤ 1 + 9 * c.tables.place = c.tables.invariant.low in
    let later : c.tables.place + 1 ≡ suc c.tables.place = omega arith in
    record {
      done = λ start rows long half.
          tables_more start (meant g.P.PageSource.pages c.tables.space) (meant g.P.PageSource.pages c.change_table.new.space) rows c.args.ops.now c.args.schema.now c.args.next
          c.tables.root c.in-Ok.behind c.tables.place (c.tables.place + 1) there.table c.keys.result.now there.at there.keys_are later
          (c.tables.invariant.done start rows long half)
          (λ left h. c.in-Ok.ensures.changed start rows (plan_from 0 c.args.schema.now) left (subst (λ (n : ℕ). c.tables.place < n) (sym long) within) h);
      low = omega (arith, behind, few, low);
      base = c.in-Ok.ensures.base ∙ c.tables.invariant.base;
      losses = omega (arith, rose, earlier);
    }

pub returns-clause-changed : goal.returns-clause-changed
returns-clause-changed g c = λ start rows long half.
    let past : length c.args.schema.now ≤ c.tables.place = subst (λ (ts : List TableDef). length ts ≤ c.tables.place) c.tables-count.ensures c.tables-test.false in
    tables_end start (meant g.P.PageSource.pages c.tables.space) rows c.args.ops.now c.args.schema.now c.args.next c.tables.root c.tables.place past
    (c.tables.invariant.done start rows long half)

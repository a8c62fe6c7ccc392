-- The genids have all that lie in the interval, and what is picked lies there.
use Rattle.std.proofs.Common.{◌≡◌, ◌+◌, ◌<◌, ℕ, List, None, Some, take, length, refl, sym, ap, ◌∙◌, subst, arith}
use Rattle.page_store.specs.Image.{Image}
use Rattle.cdb_values.specs.Rows.{versions_of}
use Rattle.cdb_values.specs.declared.rows.Version.{Version}
use Rattle.cdb_values.specs.declared.tables.TableDef.{TableDef}
use Rattle.std.specs.List.{filter}
use Rattle.query_laws.specs.Intervals.{lies}
use Rattle.query_plan.specs.Views.{interval_in}
use Rattle.table_store.specs.Plans.{plan_from}
use Rattle.page_rows.specs.Listed.{IsTreeOf, AreReadable, tree_of, versions_readable, rows_planned}
use Rattle.page_rows.specs.Picks.{picked}
use Rattle.page_rows.proofs.PlanLemmas.{key_planned}
use Rattle.page_rows.proofs.ReadLemmas.{IsKeyOf, key_of_table, known_table, read_by}
use Rattle.page_rows.proofs.StandingLemmas.{if_ok_then}
use Rattle.page_rows.proofs.reads.read_by_key.Goals as goal

pub returns-clause-lying : goal.returns-clause-lying
returns-clause-lying g c = λ rows stands.
    let pages : ℕ → Image = g.P.PageSource.pages c.args.pages.now in
    let tables : List TableDef = c.args.schema.now in
    let table : ℕ = c.args.interval.now.table in
    let versions : List Version = versions_of rows table in
    let root : ℕ = c.rows_root-root.result in
    let k : IsKeyOf tables table c.args.place c.args.key.now = key_of_table tables table c.args.place c.args.key.now c.requires.there in
    let known : table < length tables = known_table tables table k.found k.here in
    let at : ℕ = length (plan_from 0 (take table tables)) in
    let first : root ≡ 1 + at = c.rows_root-root.ensures.root in
    let behind : root + 1 + c.args.place ≡ 1 + (at + (1 + c.args.place)) = omega (arith, first) in
    let all : IsTreeOf pages root None versions =
    tree_of pages tables rows at root (record { table = table; key = None }) stands (rows_planned 0 table table tables known (omega arith)) first in
    let keyed : IsTreeOf pages (root + 1 + c.args.place) (Some c.args.key.now) versions =
    tree_of pages tables rows (at + (1 + c.args.place)) (root + 1 + c.args.place) (record { table = table; key = Some c.args.key.now }) stands
    (key_planned 0 table c.args.place table (at + (1 + c.args.place)) tables k.found c.args.key.now k.here k.there (omega arith) refl) behind in
    let r : AreReadable versions = versions_readable pages tables rows table stands in
    let after : IsTreeOf (g.P.PageSource.pages c.genids_between.new.pages) root None versions =
    subst (λ (f : ℕ → Image). IsTreeOf f root None versions) (sym c.in_ok-genids.ensures.pages) all in
    if_ok_then c.pick.result
    (λ found. found ≡ picked (λ v. lies c.tables.result.now (interval_in c.args.interval.now) v.row) versions c.as_slice.result.now)
    (λ found. found ≡ filter (λ v. lies tables (interval_in c.args.interval.now) v.row) versions)
    (c.pick.ensures.found versions after r)
    (λ found e. e
    ∙ ap (λ (ts : List TableDef). picked (λ v. lies ts (interval_in c.args.interval.now) v.row) versions c.as_slice.result.now) c.tables.ensures
    ∙ ap (λ (gs : List ℕ). picked (λ v. lies tables (interval_in c.args.interval.now) v.row) versions gs) c.as_slice.ensures.value
    ∙ read_by tables (interval_in c.args.interval.now) c.args.place c.args.key.now c.in_ok-genids.genids.items versions c.requires.chosen c.requires.there
    c.in_ok-genids.ensures.rising r.ascend (c.in_ok-genids.ensures.covers versions keyed r))

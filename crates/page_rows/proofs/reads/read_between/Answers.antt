-- Where no row lies in the interval, and where each does.
use Rattle.std.proofs.Common.{◌≡◌, List, None, sym, ap, ◌∙◌}
use Rattle.std.specs.List.{filter, slice_get}
use Rattle.cdb_values.specs.Rows.{versions_of}
use Rattle.cdb_values.specs.declared.tables.KeyDef.{KeyDef}
use Rattle.query_laws.specs.Intervals.{lies}
use Rattle.query_plan.specs.Views.{interval_in}
use Rattle.sql_answer.specs.Writes.{keys_of}
use Rattle.page_rows.proofs.ReadLemmas.{none_of_empty, all_of_no_key, none_of_no_key, none_past, keys_same}
use Rattle.page_rows.proofs.StandingLemmas.{if_ok_then}
use Rattle.page_rows.proofs.reads.read_between.Goals as goal

pub returns-then-interval-clause-lying : goal.returns-then-interval-clause-lying
returns-then-interval-clause-lying g c = λ rows stands.
    c.new.ensures
    ∙ none_of_empty c.args.schema.now (interval_in c.args.interval.now) (versions_of rows c.args.interval.now.table) c.if-interval.true

pub returns-in-None-clause-lying : goal.returns-in-None-clause-lying
returns-in-None-clause-lying g c = λ rows stands.
    if_ok_then c.read_rows.result
    (λ found. found ≡ versions_of rows c.args.interval.now.table)
    (λ found. found ≡ filter (λ v. lies c.args.schema.now (interval_in c.args.interval.now) v.row) (versions_of rows c.args.interval.now.table))
    (c.read_rows.ensures.versions rows stands)
    (λ found e. e
    ∙ all_of_no_key c.args.schema.now (interval_in c.args.interval.now) (versions_of rows c.args.interval.now.table) c.if-interval.false c.in-None.is)

pub returns-in-None-get-clause-lying : goal.returns-in-None-get-clause-lying
returns-in-None-get-clause-lying g c = λ rows stands.
    let none : slice_get (keys_of (slice_get c.args.schema.now c.args.interval.now.table)) c.in-Some.key ≡ None =
    ap (λ (ks : List KeyDef). slice_get ks c.in-Some.key) (sym (keys_same c.args.schema.now c.args.interval.now.table c.keys.result.now c.keys.ensures.keys))
    ∙ none_past c.keys.result.now c.in-Some.key c.in-None-get.ensures.lookup.3 in
    c.new-in-None-get.ensures
    ∙ none_of_no_key c.args.schema.now (interval_in c.args.interval.now) c.in-Some.key (versions_of rows c.args.interval.now.table) c.in-Some.is none

-- One edit more.
use Rattle.std.proofs.Common.{◌≡◌, ◌≤◌, ◌∷◌, ◌∙◌, arith}
use Rattle.phys_log.specs.declared.entries.LogRecord.{LogRecord}
use Rattle.edit_records.specs.Numbered.{records_behind, lsns_over}
use Rattle.edit_records.proofs.NumberLemmas.{one_more, small_more}
use Rattle.edit_records.proofs.records.number_all.Goals as goal

pub numbering-preserved : goal.numbering-preserved
numbering-preserved g c =
    let before = g.P.PageSource.pages c.numbering.pages in
    let first = g.P.PageSource.pages c.args.pages.now in
    let left_is : c.numbering.left.items ≡ (c.in-Some.page, c.in-Some.edit) ∷ c.pop_front.new.self.items = c.in-Some.ensures.items in
    let rose : g.P.PageSource.losses c.numbering.pages ≤ g.P.PageSource.losses c.number_one.new.pages = c.in-Ok.ensures.excused in
    let earlier : g.P.PageSource.losses c.args.pages.now ≤ g.P.PageSource.losses c.numbering.pages = c.numbering.invariant.losses in
    let entry : LogRecord = record {
      lsn = c.in-Ok.lsn;
      prev = lsns_over before c.numbering.lsns.entries c.in-Some.page;
      page = c.in-Some.page;
      edit = c.in-Some.edit;
    } in
    record {
      whole = one_more before first c.numbering.lsns.entries c.number_one.new.lsns.entries c.numbering.newest c.in-Ok.lsn c.in-Some.page c.in-Some.edit
          c.numbering.left.items c.pop_front.new.self.items c.numbering.records c.number_one.new.records
          (records_behind first c.args.last c.args.edits.items) c.numbering.invariant.pages c.in-Ok.ensures.number left_is
          c.in-Ok.ensures.raised c.in-Ok.ensures.made c.numbering.invariant.whole;
      small = small_more c.numbering.records c.number_one.new.records entry c.in-Ok.ensures.made c.in-Ok.ensures.small c.numbering.invariant.small;
      pages = c.in-Ok.ensures.pages ∙ c.numbering.invariant.pages;
      losses = omega arith;
    }

use Rattle.std.proofs.Common.{◌≡◌, ◌≤◌, ◌<◌, length, ap, sym, ◌∙◌, arith, rules}
use Rattle.std.proofs.lemmas.Option.{same_Some}
use Rattle.page_store.specs.Image.{Image}
use Rattle.page_workspace.specs.Drafts.{meant}
use Rattle.btree_index.proofs.FitLemmas.{IsCopyFit, filling_fits}
use Rattle.btree_index.proofs.StepLemmas.{filling_more, filling_ends}
use Rattle.btree_index.proofs.steps.fill.Goals as goal

pub filling-preserved : goal.filling-preserved
filling-preserved g c =
    let rose : g.P.PageSource.losses c.filling.space.base ≤ g.P.PageSource.losses c.copy_cell.new.space.base = c.in_ok-copy_cell.ensures.excused in
    let earlier : g.P.PageSource.losses c.args.space.now.base ≤ g.P.PageSource.losses c.filling.space.base = c.filling.invariant.losses in
    record {
      filling = λ off. filling_more (meant g.P.PageSource.pages c.args.space.now) (meant g.P.PageSource.pages c.filling.space)
          (meant g.P.PageSource.pages c.copy_cell.new.space) c.args.from c.args.to c.args.start c.filling.at off (c.filling.invariant.filling off)
          c.in_ok-copy_cell.ensures.copied;
      base = c.in_ok-copy_cell.ensures.base ∙ c.filling.invariant.base;
      losses = omega arith;
    }

pub returns-clause-filled : goal.returns-clause-filled
returns-clause-filled g c = λ off.
    let pages = meant g.P.PageSource.pages c.args.space.now in
    let page = c.page.result.now in
    let now : page ≡ pages c.args.from = same_Some page (pages c.args.from) (sym c.page.ensures ∙ c.in_ok-load_to_edit.ensures.loaded) in
    let count : c.count-count.result ≡ length (pages c.args.from).cells = c.count-count.ensures ∙ ap (λ (i : Image). length i.cells) now in
    let all : length (pages c.args.from).cells ≤ c.filling.at = omega arith in
    filling_ends pages (meant g.P.PageSource.pages c.filling.space) c.args.from c.args.to c.args.start c.filling.at (c.filling.invariant.filling off) all

pub returns-in_err-copy_cell-clause-fit : goal.returns-in_err-copy_cell-clause-fit
returns-in_err-copy_cell-clause-fit g c = λ off room.
    let pages = meant g.P.PageSource.pages c.args.space.now in
    let page = c.page.result.now in
    let now : page ≡ pages c.args.from = same_Some page (pages c.args.from) (sym c.page.ensures ∙ c.in_ok-load_to_edit.ensures.loaded) in
    let count : c.count-count.result ≡ length (pages c.args.from).cells = c.count-count.ensures ∙ ap (λ (i : Image). length i.cells) now in
    let within : c.filling.at < length (pages c.args.from).cells = omega arith in
    let fits : IsCopyFit (meant g.P.PageSource.pages c.filling.space) c.args.from c.args.to c.filling.at =
    filling_fits pages (meant g.P.PageSource.pages c.filling.space) c.args.from c.args.to c.args.start c.filling.at off room (c.filling.invariant.filling off) within in
    search (rules, c.in_err-copy_cell.ensures.fit fits.cell fits.here fits.room)

use Rattle.std.proofs.Common.{◌≡◌, List, [], sym, subst}
use Rattle.page_store.specs.Image.{blank_image}
use Rattle.phys_log.specs.declared.entries.Entry.{Entry}
use Rattle.phys_log.specs.Logs.{pages_of}
use Rattle.phys_log.specs.Undone.{later_records}
use Rattle.log_replay.specs.Kept.{page_in, IsKept}
use Rattle.log_replay.proofs.LogLemmas.{page_blank, page_unedited, page_edited}
use Rattle.log_replay.proofs.NumberLemmas.{if_none_all, on_some_all}
use Rattle.log_replay.proofs.logs.PagedLog.page.Goals as goal

pub returns-clause-blank : goal.returns-clause-blank
returns-clause-blank c =
    let entries = c.self.inside.entries.items in
    let pages = c.self.inside.pages in
    let kept : IsKept entries pages c.self.inside.blank = c.self.invariant in
    if_none_all c.edited_page.result ((page_in pages c.args.id).lsn ≡ 0) (pages_of c.args.self.now c.args.id ≡ blank_image)
    (λ zero. subst (λ (l : List Entry). pages_of l c.args.id ≡ blank_image) c.self.view_is (page_blank entries pages c.self.inside.blank c.args.id kept zero))
    c.edited_page.ensures.none

pub returns-clause-unedited : goal.returns-clause-unedited
returns-clause-unedited c =
    let entries = c.self.inside.entries.items in
    let pages = c.self.inside.pages in
    let kept : IsKept entries pages c.self.inside.blank = c.self.invariant in
    if_none_all c.edited_page.result ((page_in pages c.args.id).lsn ≡ 0) (later_records c.args.self.now 0 c.args.id ≡ [])
    (λ zero. subst (λ (l : List Entry). later_records l 0 c.args.id ≡ []) c.self.view_is (page_unedited entries pages c.self.inside.blank c.args.id kept zero))
    c.edited_page.ensures.none

pub returns-clause-edited : goal.returns-clause-edited
returns-clause-edited c =
    let entries = c.self.inside.entries.items in
    let pages = c.self.inside.pages in
    let kept : IsKept entries pages c.self.inside.blank = c.self.invariant in
    on_some_all c.edited_page.result ((page_in pages c.args.id).lsn ≡ 0 → ⊥) (later_records c.args.self.now 0 c.args.id ≡ [] → ⊥)
    (λ some none. some (page_edited entries pages c.self.inside.blank c.args.id kept
    (subst (λ (l : List Entry). later_records l 0 c.args.id ≡ []) (sym c.self.view_is) none)))
    c.edited_page.ensures.some

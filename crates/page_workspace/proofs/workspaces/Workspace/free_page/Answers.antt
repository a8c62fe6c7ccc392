use Rattle.std.proofs.Common.{◌≡◌, ℕ, ap, ◌∙◌}
use Rattle.page_store.specs.Image.{Image}
use Rattle.page_store.specs.declared.pages.Head.{Head}
use Rattle.page_store.specs.declared.pages.PageKind.TheVariants.{Free}
use Rattle.page_store.specs.declared.edits.Edit.TheVariants.{SetHead}
use Rattle.page_workspace.specs.Drafts.{meant, edited}
use Rattle.page_workspace.specs.Metas.{SetsMeta}
use Rattle.page_workspace.proofs.MetaLaws.{frees}
use Rattle.page_workspace.proofs.OwnLaws.{ok_all}
use Rattle.page_workspace.proofs.workspaces.Workspace.free_page.Goals as goal

pub returns-clause-freed : goal.returns-clause-freed
returns-clause-freed g c =
    let pages = g.P.PageSource.pages in
    let old = meant pages c.args.self.now in
    let read = meant pages c.load_to_edit.new.self in
    let mid = meant pages c.edit.new.self in
    let new = meant pages c.set_meta.new.self in
    let m = c.in_ok-meta.meta in
    let id = c.args.id in
    let before = c.head-before.result in
    let after : Head = record { kind = Free; level = 0; right = m.free } in
    let same : read ≡ old = c.in_ok-load_to_edit.ensures.pages ∙ c.in_ok-meta.ensures.pages in
    let made : mid ≡ edited old id (SetHead before after) =
    c.in_ok-edit.ensures.pages ∙ ap (λ (h : Head). edited read id (SetHead before h)) c.free_head-after.ensures
    ∙ ap (λ (f : ℕ → Image). edited f id (SetHead before after)) same in
    ok_all c.set_meta.result (λ (set : SetsMeta mid new (record { next = m.next; count = m.count; free = id })).
    frees old mid new m id before c.if-id-eq0.false c.in_ok-meta.ensures.told made set)
    c.set_meta.ensures.set

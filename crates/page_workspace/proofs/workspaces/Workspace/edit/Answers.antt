use Rattle.std.proofs.Common.{ap, ◌≡◌, ℕ, List, ◌++◌, ◌∷◌, [], ◌∙◌}
use Rattle.page_store.specs.Image.{Image}
use Rattle.page_store.specs.declared.edits.Edit.{Edit}
use Rattle.page_workspace.specs.Drafts.{edited_by, edited, meant, Draft}
use Rattle.page_workspace.proofs.DraftLaws.{edited_by-more}
use Rattle.page_workspace.proofs.OwnLaws.{ok_all}
use Rattle.page_workspace.proofs.workspaces.Workspace.edit.Goals as goal

pub returns-clause-pages : goal.returns-clause-pages
returns-clause-pages g c =
    let pages = g.P.PageSource.pages in
    let before = c.self.inside.edits.items in
    ok_all c.edit_parts.result (λ (made : c.edit_parts.new.edits.items ≡ before ++ (c.args.id, c.args.edit) ∷ []).
    ap (λ (es : List (ℕ × Edit)). edited_by es (pages c.edit_parts.new.base)) made
    ∙ ap (λ (below : ℕ → Image). edited_by (before ++ (c.args.id, c.args.edit) ∷ []) below) c.edit_parts.ensures.pages
    ∙ edited_by-more before (pages c.self.inside.base) c.args.id c.args.edit
    ∙ ap (λ (d : Draft g.row.P.Denot). edited (meant pages d) c.args.id c.args.edit) c.self.view_is)
    c.edit_parts.ensures.made

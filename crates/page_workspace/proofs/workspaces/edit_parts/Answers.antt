use Rattle.std.proofs.Common.{ap, sym, subst, ◌≡◌, ◌≤◌, ℕ, ◌∙◌, rules, refl, List, ◌++◌, ◌∷◌, []}
use Rattle.page_store.specs.Image.{Image}
use Rattle.page_store.specs.declared.edits.Edit.{Edit}
use Rattle.page_workspace.specs.Owned.{IsKept}
use Rattle.page_workspace.specs.Drafts.{IsEditExcused, IsNotUnfit}
use Rattle.std.specs.Result.{IsErr}
use Rattle.page_workspace.proofs.DraftLaws.{reading_tells, excused_after}
use Rattle.page_workspace.proofs.OwnLaws.{kept_same, kept_edit}
use Rattle.page_workspace.proofs.workspaces.edit_parts.Goals as goal

pub returns-in_err-hold-clause-fits : goal.returns-in_err-hold-clause-fits
returns-in_err-hold-clause-fits g c = λ _.
    let err : IsErr c.from_residual.result = search rules in
    let reading : IsNotUnfit c.from_residual.result = search rules in
    reading_tells c.from_residual.result _ err reading

pub returns-in_err-edit_own-clause-excused : goal.returns-in_err-edit_own-clause-excused
returns-in_err-edit_own-clause-excused g c =
    let rose : g.P.PageSource.losses c.args.base.now ≤ g.P.PageSource.losses c.hold.new.base = c.in_ok-hold.ensures.excused in
    let here : IsEditExcused c.from_residual-in_err-edit_own.result (g.P.PageSource.losses c.hold.new.base) (g.P.PageSource.losses c.hold.new.base) = search rules in
    excused_after c.from_residual-in_err-edit_own.result (g.P.PageSource.losses c.args.base.now) (g.P.PageSource.losses c.hold.new.base) rose here

pub returns-clause-kept : goal.returns-clause-kept
returns-clause-kept g c = λ kept.
    let pages = g.P.PageSource.pages c.args.base.now in
    let held : IsKept c.hold.new.owns.entries c.args.edits.now.items pages =
    kept_same c.args.owns.now.entries c.hold.new.owns.entries c.args.edits.now.items pages pages refl c.in_ok-hold.ensures.same kept in
    let more : IsKept c.edit_own.new.owns.entries (c.args.edits.now.items ++ (c.args.id, c.args.edit) ∷ []) pages =
    kept_edit c.hold.new.owns.entries c.edit_own.new.owns.entries c.args.edits.now.items pages c.args.id c.args.edit
    (c.in_ok-edit_own.ensures.made pages) (c.in_ok-edit_own.ensures.fits pages) held in
    let now : c.push.new.self.items ≡ c.args.edits.now.items ++ (c.args.id, c.args.edit) ∷ [] =
    c.in-Ok.ensures.items ∙ ap (λ (es : List (ℕ × Edit)). es ++ (c.args.id, c.args.edit) ∷ []) c.reserve.ensures.items in
    let P : List (ℕ × Edit) → Type 0 = λ es. IsKept c.edit_own.new.owns.entries es (g.P.PageSource.pages c.hold.new.base) in
    let Q : (ℕ → Image) → Type 0 = λ below. IsKept c.edit_own.new.owns.entries (c.args.edits.now.items ++ (c.args.id, c.args.edit) ∷ []) below in
    subst P (sym now) (subst Q (sym c.in_ok-hold.ensures.pages) more)

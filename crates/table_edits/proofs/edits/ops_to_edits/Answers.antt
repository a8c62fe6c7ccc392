-- The edits of the workspace, made on the pages that went into it.
use Rattle.std.proofs.Common.{◌≡◌, ℕ, List, sym, ap, ◌∙◌, subst}
use Rattle.page_store.specs.Image.{Image}
use Rattle.page_store.specs.declared.edits.Edit.{Edit}
use Rattle.page_workspace.specs.Drafts.{Draft, meant, edited_by}
use Rattle.table_store.specs.Stored.{Stands}
use Rattle.cdb_values.specs.Rows.{Rows}
use Rattle.table_edits.specs.Answers.{AreWithin}
use Rattle.table_edits.specs.Fits.{AreAllDoable}
use Rattle.table_edits.specs.Freed.{FreesLeaves}
use Rattle.table_edits.specs.Kept.{Leaves}
use Rattle.table_edits.proofs.edits.ops_to_edits.Goals as goal

pub returns-in-Ok-clause-within : goal.returns-in-Ok-clause-within
returns-in-Ok-clause-within g c = λ rows stands able.
    let pages = g.P.PageSource.pages in
    let new = c.change_rows.new.space in
    let items = c.finish.result.items in
    let first : meant pages c.new-space.result ≡ pages c.args.pages = ap (λ (d : Draft g.row.P.Denot). meant pages d) c.new-space.ensures in
    let base : pages new.base ≡ pages c.args.pages = c.in-Ok.ensures.base ∙ ap (λ (d : Draft g.row.P.Denot). pages d.base) c.new-space.ensures in
    let after : meant pages new ≡ edited_by items (pages c.args.pages) =
    ap (λ (es : List (ℕ × Edit)). edited_by es (pages new.base)) (sym c.finish.ensures.edits) ∙ ap (λ (f : ℕ → Image). edited_by items f) base in
    subst (λ (f : ℕ → Image). AreWithin f (edited_by items (pages c.args.pages))) first
    (subst (λ (f : ℕ → Image). AreWithin (meant pages c.new-space.result) f) after
    (c.in-Ok.ensures.within rows (subst (λ (f : ℕ → Image). Stands f c.args.schema.now rows) (sym first) stands) able))

pub returns-in-Ok-clause-kept : goal.returns-in-Ok-clause-kept
returns-in-Ok-clause-kept g c =
    let pages = g.P.PageSource.pages in
    let new = c.change_rows.new.space in
    let items = c.finish.result.items in
    let tables = c.args.schema.now in
    let ops = c.args.ops.now in
    let first : meant pages c.new-space.result ≡ pages c.args.pages = ap (λ (d : Draft g.row.P.Denot). meant pages d) c.new-space.ensures in
    let base : pages new.base ≡ pages c.args.pages = c.in-Ok.ensures.base ∙ ap (λ (d : Draft g.row.P.Denot). pages d.base) c.new-space.ensures in
    let after : meant pages new ≡ edited_by items (pages c.args.pages) =
    ap (λ (es : List (ℕ × Edit)). edited_by es (pages new.base)) (sym c.finish.ensures.edits) ∙ ap (λ (f : ℕ → Image). edited_by items f) base in
    let P : (ℕ → Image) → Type 0 =
    λ f. (rows : Rows) → (stands : Stands f tables rows) → AreAllDoable rows ops → Leaves f (edited_by items (pages c.args.pages)) tables rows ops stands in
    subst P first (λ rows stands able.
    subst (λ (f : ℕ → Image). Leaves (meant pages c.new-space.result) f tables rows ops stands) after (c.in-Ok.ensures.kept rows stands able))

pub returns-in-Ok-clause-freed : goal.returns-in-Ok-clause-freed
returns-in-Ok-clause-freed g c = λ rows stands able.
    let pages = g.P.PageSource.pages in
    let new = c.change_rows.new.space in
    let items = c.finish.result.items in
    let first : meant pages c.new-space.result ≡ pages c.args.pages = ap (λ (d : Draft g.row.P.Denot). meant pages d) c.new-space.ensures in
    let base : pages new.base ≡ pages c.args.pages = c.in-Ok.ensures.base ∙ ap (λ (d : Draft g.row.P.Denot). pages d.base) c.new-space.ensures in
    let after : meant pages new ≡ edited_by items (pages c.args.pages) =
    ap (λ (es : List (ℕ × Edit)). edited_by es (pages new.base)) (sym c.finish.ensures.edits) ∙ ap (λ (f : ℕ → Image). edited_by items f) base in
    subst (λ (f : ℕ → Image). FreesLeaves f (edited_by items (pages c.args.pages)) c.args.schema.now c.args.ops.now) first
    (subst (λ (f : ℕ → Image). FreesLeaves (meant pages c.new-space.result) f c.args.schema.now c.args.ops.now) after
    (c.in-Ok.ensures.freed rows (subst (λ (f : ℕ → Image). Stands f c.args.schema.now rows) (sym first) stands) able))

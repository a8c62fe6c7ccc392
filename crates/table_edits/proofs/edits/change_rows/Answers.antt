-- The pages stay while the next genid is read.
use Rattle.std.proofs.Common.{ℕ, ap, sym, ◌∙◌, subst}
use Rattle.std.specs.Prelude.{OnOk}
use Rattle.page_store.specs.Image.{Image}
use Rattle.page_workspace.specs.Drafts.{meant}
use Rattle.page_workspace.specs.Spare.{next_genid}
use Rattle.cdb_values.specs.Rows.{Rows}
use Rattle.table_store.specs.Stored.{Stands}
use Rattle.table_edits.specs.Answers.{AreWithin}
use Rattle.table_edits.specs.Fits.{AreAllDoable}
use Rattle.table_edits.specs.Freed.{FreesLeaves}
use Rattle.table_edits.specs.Kept.{Leaves}
use Rattle.table_edits.proofs.EndLemmas.{done_told, broken_told}
use Rattle.table_edits.proofs.edits.change_rows.Goals as goal

pub change_from-requires-clause-next : goal.change_from-requires-clause-next
change_from-requires-clause-next g c =
    c.in-Ok.ensures.next ∙ ap (λ (pages : ℕ → Image). next_genid pages) (sym c.in-Ok.ensures.pages)

pub returns-in-Ok-clause-stands : goal.returns-in-Ok-clause-stands
returns-in-Ok-clause-stands g c = λ rows stands able.
    let there = subst (λ (pages : ℕ → Image). Stands pages c.args.schema.now rows) (sym c.in-Ok.ensures.pages) stands in
    done_told c.change_from.result _ _ _ (λ d. d.0.after) (c.change_from.ensures.done rows there able)

pub returns-in-Ok-clause-duplicate : goal.returns-in-Ok-clause-duplicate
returns-in-Ok-clause-duplicate g c = λ rows stands able.
    let there = subst (λ (pages : ℕ → Image). Stands pages c.args.schema.now rows) (sym c.in-Ok.ensures.pages) stands in
    broken_told c.change_from.result _ _ (c.change_from.ensures.done rows there able)

pub returns-in-Ok-clause-within : goal.returns-in-Ok-clause-within
returns-in-Ok-clause-within g c = λ rows stands able.
    let there = subst (λ (pages : ℕ → Image). Stands pages c.args.schema.now rows) (sym c.in-Ok.ensures.pages) stands in
    done_told c.change_from.result _ _ _
    (λ d. subst (λ (pages : ℕ → Image). AreWithin pages (meant g.P.PageSource.pages c.change_from.new.space)) c.in-Ok.ensures.pages d.0.within)
    (c.change_from.ensures.done rows there able)

pub returns-in-Ok-clause-kept : goal.returns-in-Ok-clause-kept
returns-in-Ok-clause-kept g c =
    let new = meant g.P.PageSource.pages c.change_from.new.space in
    let tables = c.args.schema.now in
    let ops = c.args.ops.now in
    let P : (ℕ → Image) → Type 0 = λ f. (rows : Rows) → (stands : Stands f tables rows) → AreAllDoable rows ops → OnOk c.change_from.result (Leaves f new tables rows ops stands) in
    subst P c.in-Ok.ensures.pages (λ rows stands able. done_told c.change_from.result _ _ _ (λ d. d.0) (c.change_from.ensures.done rows stands able))

pub returns-in-Ok-clause-freed : goal.returns-in-Ok-clause-freed
returns-in-Ok-clause-freed g c = λ rows stands able.
    let there = subst (λ (pages : ℕ → Image). Stands pages c.args.schema.now rows) (sym c.in-Ok.ensures.pages) stands in
    done_told c.change_from.result _ _ _
    (λ d. subst (λ (pages : ℕ → Image). FreesLeaves pages (meant g.P.PageSource.pages c.change_from.new.space) c.args.schema.now c.args.ops.now) c.in-Ok.ensures.pages d.1)
    (c.change_from.ensures.done rows there able)

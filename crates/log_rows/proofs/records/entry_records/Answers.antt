-- The edits of the workspace, numbered behind the log, over whose pages they were made.
use Rattle.std.proofs.Common.{◌≡◌, ℕ, List, true, IfOk, sym, ap, ◌∙◌, subst, rules}
use Rattle.page_store.specs.Image.{Image}
use Rattle.page_store.specs.declared.edits.Edit.{Edit}
use Rattle.page_workspace.specs.Drafts.{meant, edited_by, AreFit}
use Rattle.page_workspace.specs.Spare.{count_of}
use Rattle.phys_log.specs.Logs.{pages_of, replayed}
use Rattle.table_store.specs.Stored.{Stands}
use Rattle.edit_records.specs.Alike.{AreAlike}
use Rattle.edit_records.specs.Numbered.{are_below}
use Rattle.log_rows.specs.Sources.{source_pages}
use Rattle.log_rows.proofs.records.entry_records.Goals as goal

pub returns-clause-next : goal.returns-clause-next
returns-clause-next c =
    c.number.ensures.next
    (subst (λ (f : ℕ → Image). AreFit c.finish-edits.result.items f) (c.in-Ok.ensures.base ∙ c.requires.over) c.finish-edits.ensures.fit)

pub returns-clause-stands : goal.returns-clause-stands
returns-clause-stands c = λ tables rows h.
    let items = c.finish-edits.result.items in
    let log = pages_of c.args.log.now in
    let same : items ≡ c.args.space.edits = c.finish-edits.ensures.edits ∙ c.in-Ok.ensures.edits in
    let made : meant source_pages c.args.space ≡ edited_by items log =
    ap (λ (es : List (ℕ × Edit)). edited_by es (source_pages c.args.space.base)) (sym same) ∙ ap (λ (f : ℕ → Image). edited_by items f) c.requires.over in
    let within : are_below c.in-Ok.count items ≡ true = search rules in
    c.number.ensures.stands tables rows (subst (λ (f : ℕ → Image). Stands f tables rows) made h)
    (subst (λ (n : ℕ). are_below n items ≡ true) (c.in-Ok.ensures.count ∙ ap count_of made) within)

pub returns-clause-alike : goal.returns-clause-alike
returns-clause-alike c =
    let items = c.finish-edits.result.items in
    let log = pages_of c.args.log.now in
    let same : items ≡ c.args.space.edits = c.finish-edits.ensures.edits ∙ c.in-Ok.ensures.edits in
    let made : edited_by items log ≡ meant source_pages c.args.space =
    ap (λ (f : ℕ → Image). edited_by items f) (sym c.requires.over) ∙ ap (λ (es : List (ℕ × Edit)). edited_by es (source_pages c.args.space.base)) same in
    subst (λ (f : ℕ → Image). IfOk c.number.result (λ records. AreAlike f (replayed log records))) made c.number.ensures.alike

-- What is known of records of edits, of those that were made.
use Rattle.std.proofs.Common.{◌≡◌, ◌+◌, ℕ, List, sym, subst}
use Rattle.page_store.specs.declared.edits.Edit.{Edit}
use Rattle.page_workspace.specs.Drafts.{edited_by}
use Rattle.phys_log.specs.Logs.{replayed, AreNext}
use Rattle.table_store.specs.Stored.{Stands}
use Rattle.edit_records.specs.Alike.{AreAlike}
use Rattle.edit_records.specs.Numbered.{records_behind, IsUnedited}
use Rattle.edit_records.proofs.NumberLemmas.{ok_of}
use Rattle.edit_records.proofs.AlikeLemmas.{records_next, records_alike, records_others}
use Rattle.edit_records.proofs.BlindLemmas.{records_still}
use Rattle.edit_records.proofs.records.records_of.Goals as goal

pub returns-clause-next : goal.returns-clause-next
returns-clause-next g c = λ fit.
    let pages = g.P.PageSource.pages c.args.pages.now in
    let items : c.args.edits.items ≡ c.from.result.items = sym c.from.ensures.0 in
    ok_of c.number_all.result (records_behind pages c.args.last c.from.result.items) (λ r. AreNext pages (c.args.last + 1) r) c.number_all.ensures.made
    (subst (λ (es : List (ℕ × Edit)). AreNext pages (c.args.last + 1) (records_behind pages c.args.last es)) items
    (records_next pages c.args.last c.args.edits.items fit))

pub returns-clause-alike : goal.returns-clause-alike
returns-clause-alike g c =
    let pages = g.P.PageSource.pages c.args.pages.now in
    let items : c.args.edits.items ≡ c.from.result.items = sym c.from.ensures.0 in
    let made = edited_by c.args.edits.items pages in
    ok_of c.number_all.result (records_behind pages c.args.last c.from.result.items) (λ r. AreAlike made (replayed pages r)) c.number_all.ensures.made
    (subst (λ (es : List (ℕ × Edit)). AreAlike made (replayed pages (records_behind pages c.args.last es))) items
    (records_alike pages c.args.last c.args.edits.items))

pub returns-clause-others : goal.returns-clause-others
returns-clause-others g c =
    let pages = g.P.PageSource.pages c.args.pages.now in
    let edits = c.args.edits.items in
    let items : edits ≡ c.from.result.items = sym c.from.ensures.0 in
    ok_of c.number_all.result (records_behind pages c.args.last c.from.result.items)
    (λ r. (n : ℕ) → IsUnedited n edits → replayed pages r n ≡ pages n) c.number_all.ensures.made
    (subst (λ (es : List (ℕ × Edit)). (n : ℕ) → IsUnedited n edits → replayed pages (records_behind pages c.args.last es) n ≡ pages n) items
    (records_others pages c.args.last edits))

pub returns-clause-stands : goal.returns-clause-stands
returns-clause-stands g c = λ tables rows stands within.
    let pages = g.P.PageSource.pages c.args.pages.now in
    let items : c.args.edits.items ≡ c.from.result.items = sym c.from.ensures.0 in
    ok_of c.number_all.result (records_behind pages c.args.last c.from.result.items) (λ r. Stands (replayed pages r) tables rows) c.number_all.ensures.made
    (subst (λ (es : List (ℕ × Edit)). Stands (replayed pages (records_behind pages c.args.last es)) tables rows) items
    (records_still pages c.args.last c.args.edits.items tables rows stands within))

-- What was done on the workspace, which began as the pages of the log.
use Rattle.std.proofs.Common.{◌≡◌, ℕ, List, length, None, Some, refl, sym, ap, ◌∙◌, subst, rules}
use Rattle.std.proofs.lemmas.Option.{same_Some}
use Rattle.page_workspace.specs.Drafts.{Draft, meant}
use Rattle.cdb_values.specs.Rows.{apply_all}
use Rattle.cdb_values.specs.declared.rows.RowOp.{RowOp}
use Rattle.cdb_values.specs.declared.tables.TableDef.{TableDef}
use Rattle.log_replay.specs.Answers.{LogSource}
use Rattle.phys_log.specs.Logs.{pages_of}
use Rattle.table_store.specs.Stored.{Stands}
use Rattle.page_store.specs.Image.{Image}
use Rattle.table_edits.specs.Answers.{AreWithin}
use Rattle.table_edits.specs.Broken.{broken_place, KeyPlace}
use Rattle.table_edits.specs.Fits.{AreAllDoable}
use Rattle.log_rows.specs.History.{rows_over, tables_of}
use Rattle.log_rows.specs.Sources.{source_pages}
use Rattle.block_processor.specs.Decided.{broken_by}
use Rattle.block_processor.proofs.EntryLemmas.{begun, duplicate_is}
use Rattle.block_processor.proofs.decisions.decide_free.Goals as goal

pub next_entry-requires : goal.next_entry-requires
next_entry-requires g c = (c.requires.0, (c.requires.1.0, (c.requires.1.1, (c.if-not-are_able.ensures refl, (kept, (over, (done, within)))))))
  where
    -- no key is broken
    kept : broken_by g.footing c.args.request c.args.log.now ≡ None
    kept =
        let request = c.args.request in
        let log = c.args.log.now in
        let rows = rows_over g.footing log in
        let schema = c.in-Some.schema.now in
        let ops = c.as_slice.result.now in
        let tables : schema ≡ tables_of log = same_Some schema (tables_of log) (c.in-Some.ensures ∙ c.requires.0.schema) in
        let start : meant source_pages c.new-space.result ≡ pages_of log =
        ap (λ (d : Draft LogSource). meant source_pages d) c.new-space.ensures ∙ ap source_pages c.in_ok-new.ensures in
        let stands = begun g.footing log schema (meant source_pages c.new-space.result) tables start c.requires.0.stands in
        let doable : AreAllDoable rows ops = subst (λ (l : List RowOp). AreAllDoable rows l) (sym c.as_slice.ensures) (c.if-not-are_able.ensures refl).doable in
        subst (λ (t : List TableDef). broken_place (apply_all rows request.ops) 0 t ≡ None) tables
        (subst (λ (l : List RowOp). broken_place (apply_all rows l) 0 schema ≡ None) c.as_slice.ensures (c.in-Ok.ensures.duplicate rows stands doable))

    -- the workspace is still over the pages of the log
    over : source_pages c.change_rows.new.space.base ≡ pages_of c.args.log.now
    over = search rules

    -- the operations were done
    done : Stands (meant source_pages c.change_rows.new.space) (tables_of c.args.log.now) (apply_all (rows_over g.footing c.args.log.now) c.args.request.ops)
    done =
        let request = c.args.request in
        let log = c.args.log.now in
        let rows = rows_over g.footing log in
        let schema = c.in-Some.schema.now in
        let ops = c.as_slice.result.now in
        let after = meant source_pages c.change_rows.new.space in
        let tables : schema ≡ tables_of log = same_Some schema (tables_of log) (c.in-Some.ensures ∙ c.requires.0.schema) in
        let start : meant source_pages c.new-space.result ≡ pages_of log =
        ap (λ (d : Draft LogSource). meant source_pages d) c.new-space.ensures ∙ ap source_pages c.in_ok-new.ensures in
        let stands = begun g.footing log schema (meant source_pages c.new-space.result) tables start c.requires.0.stands in
        let doable : AreAllDoable rows ops = subst (λ (l : List RowOp). AreAllDoable rows l) (sym c.as_slice.ensures) (c.if-not-are_able.ensures refl).doable in
        subst (λ (t : List TableDef). Stands after t (apply_all rows request.ops)) tables
        (subst (λ (l : List RowOp). Stands after schema (apply_all rows l)) c.as_slice.ensures (c.in-Ok.ensures.stands rows stands doable))

    -- the next genid and the number of pages are below 2^62
    within : AreWithin (pages_of c.args.log.now) (meant source_pages c.change_rows.new.space)
    within =
        let log = c.args.log.now in
        let rows = rows_over g.footing log in
        let schema = c.in-Some.schema.now in
        let ops = c.as_slice.result.now in
        let after = meant source_pages c.change_rows.new.space in
        let tables : schema ≡ tables_of log = same_Some schema (tables_of log) (c.in-Some.ensures ∙ c.requires.0.schema) in
        let start : meant source_pages c.new-space.result ≡ pages_of log =
        ap (λ (d : Draft LogSource). meant source_pages d) c.new-space.ensures ∙ ap source_pages c.in_ok-new.ensures in
        let stands = begun g.footing log schema (meant source_pages c.new-space.result) tables start c.requires.0.stands in
        let doable : AreAllDoable rows ops = subst (λ (l : List RowOp). AreAllDoable rows l) (sym c.as_slice.ensures) (c.if-not-are_able.ensures refl).doable in
        subst (λ (f : ℕ → Image). AreWithin f after) start (c.in-Ok.ensures.within rows stands doable)

pub returns-in-Err-Duplicate : goal.returns-in-Err-Duplicate
returns-in-Err-Duplicate g c =
    let request = c.args.request in
    let log = c.args.log.now in
    let rows = rows_over g.footing log in
    let schema = c.in-Some.schema.now in
    let ops = c.as_slice.result.now in
    let tables : schema ≡ tables_of log = same_Some schema (tables_of log) (c.in-Some.ensures ∙ c.requires.0.schema) in
    let start : meant source_pages c.new-space.result ≡ pages_of log =
    ap (λ (d : Draft LogSource). meant source_pages d) c.new-space.ensures ∙ ap source_pages c.in_ok-new.ensures in
    let stands = begun g.footing log schema (meant source_pages c.new-space.result) tables start c.requires.0.stands in
    let doable : AreAllDoable rows ops = subst (λ (l : List RowOp). AreAllDoable rows l) (sym c.as_slice.ensures) (c.if-not-are_able.ensures refl).doable in
    let said = c.in-Err-Duplicate.ensures.duplicate rows stands doable in
    let told = rw c.in-Err-Duplicate.field-0-is at said in
    let place : KeyPlace = record { table = c.in-Err-Duplicate.table; key = c.in-Err-Duplicate.key } in
    let broken : broken_by g.footing request log ≡ Some place =
    subst (λ (t : List TableDef). broken_place (apply_all rows request.ops) 0 t ≡ Some place) tables
    (subst (λ (l : List RowOp). broken_place (apply_all rows l) 0 schema ≡ Some place) c.as_slice.ensures told) in
    duplicate_is g.footing request log _ _ _ c.in-Err-Duplicate.table c.in-Err-Duplicate.key c.requires.1.0 c.requires.1.1 (ap length c.entries.ensures) broken
    c.in-Err-Duplicate.table-is c.in-Err-Duplicate.key-is

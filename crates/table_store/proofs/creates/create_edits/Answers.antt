use Rattle.std.proofs.Common.{◌≡◌, ℕ, ◌^◌, ◌<◌, ◌++◌, List, ap, sym, ◌∙◌, subst}
use Rattle.page_store.specs.Image.{Image}
use Rattle.page_store.specs.declared.edits.Edit.{Edit}
use Rattle.page_workspace.specs.Drafts.{edited_by, AreFit}
use Rattle.page_workspace.specs.Spare.{count_of}
use Rattle.cdb_values.specs.Rows.{no_rows}
use Rattle.cdb_values.specs.declared.tables.TableDef.{TableDef}
use Rattle.table_store.specs.Plans.{plan_from}
use Rattle.table_store.specs.Stored.{Stands}
use Rattle.table_store.specs.Begins.{leaf_edits, meta_edits}
use Rattle.table_store.proofs.BeginLaws.{begin_counts, begin_fits, begin_stands}
use Rattle.table_store.proofs.creates.create_edits.Goals as goal

pub returns-clause-fit : goal.returns-clause-fit
returns-clause-fit c = λ pages blank.
    let trees = c.in_ok-trees.trees in
    let made : c.add_meta.new.edits.items ≡ leaf_edits trees ++ meta_edits trees =
    c.in_ok-add_meta.ensures ∙ ap (λ (es : List (ℕ × Edit)). es ++ meta_edits trees) c.in_ok-edits.ensures in
    subst (λ (es : List (ℕ × Edit)). AreFit es pages) (sym made) (begin_fits pages blank trees)

pub returns-clause-stands : goal.returns-clause-stands
returns-clause-stands c = λ pages blank.
    let trees = c.in_ok-trees.trees in
    let made : c.add_meta.new.edits.items ≡ leaf_edits trees ++ meta_edits trees =
    c.in_ok-add_meta.ensures ∙ ap (λ (es : List (ℕ × Edit)). es ++ meta_edits trees) c.in_ok-edits.ensures in
    let all = c.in_ok-trees.ensures.count in
    let tables : c.tables.result.now ≡ c.args.schema.now = c.tables.ensures in
    subst (λ (es : List (ℕ × Edit)). Stands (edited_by es pages) c.args.schema.now (no_rows c.args.schema.now)) (sym made)
    (subst (λ (ts : List TableDef). Stands (edited_by (leaf_edits trees ++ meta_edits trees) pages) ts (no_rows ts)) tables
    (begin_stands pages blank c.tables.result.now trees all c.in_ok-trees.ensures.few))

pub returns-clause-few : goal.returns-clause-few
returns-clause-few c = λ pages blank.
    let trees = c.in_ok-trees.trees in
    let made : c.add_meta.new.edits.items ≡ leaf_edits trees ++ meta_edits trees =
    c.in_ok-add_meta.ensures ∙ ap (λ (es : List (ℕ × Edit)). es ++ meta_edits trees) c.in_ok-edits.ensures in
    subst (λ (es : List (ℕ × Edit)). count_of (edited_by es pages) < 2 ^ 62) (sym made) (begin_counts pages blank trees c.in_ok-trees.ensures.few)

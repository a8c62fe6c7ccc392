use Rattle.std.proofs.Common.{◌≡◌, ◌≤◌, ◌+◌, ℕ, List, length, sym, ap, ◌∙◌, subst, arith, rules}
use Rattle.std.proofs.lemmas.Option.{same_Some}
use Rattle.std.specs.List.{insert}
use Rattle.page_store.specs.Image.{Image, HasRoom, taken}
use Rattle.page_store.specs.Edits.{IsFit}
use Rattle.page_store.specs.declared.edits.Edit.TheVariants.{PutCell}
use Rattle.page_workspace.specs.Drafts.{meant}
use Rattle.btree_index.specs.Cells.{leaf_cell}
use Rattle.btree_index.specs.Pairs.{place_in}
use Rattle.btree_index.specs.Steps.{Alters}
use Rattle.btree_index.specs.Trees.{Ascends}
use Rattle.btree_index.proofs.CellLemmas.{cell_length}
use Rattle.btree_index.proofs.FitLemmas.{put_fits}
use Rattle.btree_index.proofs.inserts.put_pair.Goals as goal

pub returns-clause-put : goal.returns-clause-put
returns-clause-put g c = λ up.
    let old = meant g.P.PageSource.pages c.args.space.now in
    let new = meant g.P.PageSource.pages c.alter.new.space in
    let loaded = c.in_ok-load_to_edit.ensures in
    let leaf = c.args.leaf in
    let image = c.page.result.now in
    let is : image ≡ old leaf = same_Some image (old leaf) (sym c.page.ensures ∙ loaded.loaded) in
    let at : c.count_before-at.result ≡ place_in c.args.key.now (old leaf).cells =
    c.count_before-at.ensures.place (subst (λ (i : Image). Ascends i.cells) (sym is) up) ∙ ap (λ (i : Image). place_in c.args.key.now i.cells) is in
    let cell : c.in_ok-cell.cell ≡ leaf_cell c.args.key.now c.args.value.now = search rules in
    let one : Alters old new leaf (old leaf).head (insert (old leaf).cells c.count_before-at.result c.in_ok-cell.cell) =
    subst (λ (f : ℕ → Image). Alters f new leaf (f leaf).head (insert (f leaf).cells c.count_before-at.result c.in_ok-cell.cell)) loaded.pages c.in_ok-alter.ensures.altered in
    subst (λ (x : List ℕ). Alters old new leaf (old leaf).head (insert (old leaf).cells (place_in c.args.key.now (old leaf).cells) x)) cell
    (subst (λ (n : ℕ). Alters old new leaf (old leaf).head (insert (old leaf).cells n c.in_ok-cell.cell)) at one)

pub returns-clause-room : goal.returns-clause-room
returns-clause-room g c = subst HasRoom (sym c.in_ok-alter.ensures.altered.is) c.in_ok-alter.ensures.room

pub returns-in_err-alter-clause-fit : goal.returns-in_err-alter-clause-fit
returns-in_err-alter-clause-fit g c = λ room.
    let old = meant g.P.PageSource.pages c.args.space.now in
    let loaded = c.in_ok-load_to_edit.ensures in
    let leaf = c.args.leaf in
    let image = c.page.result.now in
    let key = c.args.key.now in
    let value = c.args.value.now in
    let cell = c.in_ok-cell.cell in
    let at = c.count_before-at.result in
    let is : image ≡ old leaf = same_Some image (old leaf) (sym c.page.ensures ∙ loaded.loaded) in
    let within : at ≤ length (old leaf).cells = subst (λ (i : Image). at ≤ length i.cells) is c.count_before-at.ensures.within in
    let made : cell ≡ leaf_cell key value = search rules in
    let long : length cell ≡ length (leaf_cell key value) = ap length made in
    let size : length (leaf_cell key value) ≡ 2 + (length key + length value) = cell_length key value in
    let all : taken (old leaf).cells + (6 + length key + length value) ≤ 4072 = room in
    let fits : IsFit (old leaf) (PutCell at cell) = put_fits (old leaf) at cell (omega arith) (omega arith) in
    search (rules, c.in_err-alter.ensures.fit (subst (λ (f : ℕ → Image). IsFit (f leaf) (PutCell at cell)) (sym loaded.pages) fits))

-- The leaf of the way takes the pair, or passes do.
use Rattle.std.proofs.Common.{◌≡◌, ◌≤◌, ◌+◌, ℕ, None, OnOk, length, sym, ap, ◌∙◌, subst, rules}
use Rattle.std.proofs.lemmas.Option.{same_Some}
use Rattle.std.specs.List.{insert}
use Rattle.page_store.specs.Image.{Image, HasRoom, taken}
use Rattle.page_workspace.specs.Drafts.{meant}
use Rattle.btree_index.specs.Cells.{leaf_cell}
use Rattle.btree_index.specs.Pairs.{cell_value, place_in, with_pair}
use Rattle.btree_index.specs.Changes.{TreeStands, Becomes}
use Rattle.btree_index.specs.Filled.{KeepsFilled}
use Rattle.btree_index.specs.Steps.{Alters}
use Rattle.btree_index.specs.Trees.{Ascends}
use Rattle.btree_index.proofs.FilledLemmas.{filled_one, insert_some}
use Rattle.btree_index.proofs.PlaceLemmas.{leaf_rises}
use Rattle.btree_index.proofs.PruneLemmas.{ok_when, on_ok}
use Rattle.btree_index.proofs.StandLemmas.{value_there, puts}
use Rattle.btree_index.proofs.inserts.put_behind.Goals as goal

pub returns-then-has_room-clause-put : goal.returns-then-has_room-clause-put
returns-then-has_room-clause-put g c = λ own free list stands absent said.
    let old = meant g.P.PageSource.pages c.args.space.now in
    let read = meant g.P.PageSource.pages c.load_to_edit.new.self in
    let new = meant g.P.PageSource.pages c.put_pair.new.space in
    let way = c.args.way in
    let key = c.args.key.now in
    let value = c.args.value.now in
    let same : read ≡ old = c.in_ok-load_to_edit.ensures.pages in
    let none : cell_value key (old way.leaf).cells ≡ None =
    sym (value_there old c.args.root key way.leaf said.leaf said.kind own free list stands) ∙ absent in
    let rises : Ascends (read way.leaf).cells =
    subst (λ (f : ℕ → Image). Ascends (f way.leaf).cells) (sym same) (leaf_rises old c.args.root key way.leaf said.leaf said.kind own free list stands) in
    ok_when c.put_pair.result
    (λ x e.
    (let put : Alters old new way.leaf (old way.leaf).head (insert (old way.leaf).cells (place_in key (old way.leaf).cells) (leaf_cell key value)) =
    subst (λ (f : ℕ → Image). Alters f new way.leaf (f way.leaf).head (insert (f way.leaf).cells (place_in key (f way.leaf).cells) (leaf_cell key value)))
    same (on_ok c.put_pair.result x e (c.put_pair.ensures.put rises)) in
    (puts old new c.args.root key value way.leaf said.leaf said.kind none c.requires.key c.requires.cell
    (record { is = put.is; head = put.head_is; others = put.others }) (subst HasRoom put.is (on_ok c.put_pair.result x e c.put_pair.ensures.room)) own free list stands).1))

pub returns-clause-put : goal.returns-clause-put
returns-clause-put g c = λ own free list stands absent said.
    let new = meant g.P.PageSource.pages c.put_new.new.space in
    let P : (ℕ → Image) → Type 0 = λ f. TreeStands f c.args.root own free list
    → OnOk c.put_new.result (Becomes f new c.args.root own free (with_pair c.args.key.now c.args.value.now list)) in
    subst P c.in_ok-load_to_edit.ensures.pages (λ there. c.put_new.ensures.put own free list there absent) stands

pub returns-clause-fit : goal.returns-clause-fit
returns-clause-fit g c = λ own free list stands absent.
    c.put_new.ensures.fit own free list
    (subst (λ (f : ℕ → Image). TreeStands f c.args.root own free list) (sym c.in_ok-load_to_edit.ensures.pages) stands) absent

pub returns-then-has_room-clause-fit : goal.returns-then-has_room-clause-fit
returns-then-has_room-clause-fit g c = λ own free list stands absent.
    let old = meant g.P.PageSource.pages c.args.space.now in
    let read = meant g.P.PageSource.pages c.load_to_edit.new.self in
    let leaf = c.args.way.leaf in
    let size = 6 + length c.args.key.now + length c.args.value.now in
    let image = c.page.result.now in
    let is : image ≡ old leaf = same_Some image (old leaf) (sym c.page.ensures ∙ c.in_ok-load_to_edit.ensures.loaded) in
    let here : taken image.cells + size ≤ 4072 = search rules in
    let room : taken (read leaf).cells + size ≤ 4072 =
    subst (λ (i : Image). taken i.cells + size ≤ 4072) (is ∙ ap (λ (f : ℕ → Image). f leaf) (sym c.in_ok-load_to_edit.ensures.pages)) here in
    c.put_pair.ensures.fit room

pub returns-then-has_room-clause-filled : goal.returns-then-has_room-clause-filled
returns-then-has_room-clause-filled g c = λ own free list stands absent said.
    let old = meant g.P.PageSource.pages c.args.space.now in
    let read = meant g.P.PageSource.pages c.load_to_edit.new.self in
    let new = meant g.P.PageSource.pages c.put_pair.new.space in
    let way = c.args.way in
    let key = c.args.key.now in
    let value = c.args.value.now in
    let same : read ≡ old = c.in_ok-load_to_edit.ensures.pages in
    let rises : Ascends (read way.leaf).cells =
    subst (λ (f : ℕ → Image). Ascends (f way.leaf).cells) (sym same) (leaf_rises old c.args.root key way.leaf said.leaf said.kind own free list stands) in
    ok_when c.put_pair.result
    (λ x e.
    (let put : Alters old new way.leaf (old way.leaf).head (insert (old way.leaf).cells (place_in key (old way.leaf).cells) (leaf_cell key value)) =
    subst (λ (f : ℕ → Image). Alters f new way.leaf (f way.leaf).head (insert (f way.leaf).cells (place_in key (f way.leaf).cells) (leaf_cell key value)))
    same (on_ok c.put_pair.result x e (c.put_pair.ensures.put rises)) in
    filled_one old new c.args.root way.leaf put.others (λ k. insert_some _ _ _ (sym put.is ∙ k))))

pub returns-clause-filled : goal.returns-clause-filled
returns-clause-filled g c = λ own free list stands absent said.
    let new = meant g.P.PageSource.pages c.put_new.new.space in
    let P : (ℕ → Image) → Type 0 = λ f. TreeStands f c.args.root own free list → OnOk c.put_new.result (KeepsFilled f new c.args.root) in
    subst P c.in_ok-load_to_edit.ensures.pages (λ there. c.put_new.ensures.filled own free list there absent) stands

-- The leaf of the way takes the pair, or more room is made.
use Rattle.std.proofs.Common.{◌≡◌, ◌≤◌, ◌<◌, ◌+◌, ℕ, None, length, sym, ap, ◌∙◌, subst, arith, rules}
use Rattle.std.proofs.lemmas.Option.{same_Some}
use Rattle.std.specs.List.{insert}
use Rattle.page_store.specs.Image.{Image, HasRoom, taken}
use Rattle.page_workspace.specs.Drafts.{meant}
use Rattle.btree_index.specs.Cells.{leaf_cell}
use Rattle.btree_index.specs.Pairs.{cell_value, place_in}
use Rattle.btree_index.specs.Changes.{TreeStands, Becomes, LeadsOver}
use Rattle.btree_index.specs.Filled.{IsEmptyLeaf, KeepsFilled}
use Rattle.btree_index.specs.Fits.{IsFull, IsFullUnder}
use Rattle.btree_index.specs.Steps.{Alters}
use Rattle.btree_index.specs.Trees.{Ascends}
use Rattle.btree_index.proofs.DepthLemmas.{stands_tree, until_under}
use Rattle.btree_index.proofs.FilledLemmas.{filled_one, insert_some, leaf_root}
use Rattle.btree_index.proofs.PlaceLemmas.{leaf_rises}
use Rattle.btree_index.proofs.StandLemmas.{value_there, puts}
use Rattle.btree_index.proofs.inserts.pass_once.Goals as goal

pub returns-then-has_room-clause-passed : goal.returns-then-has_room-clause-passed
returns-then-has_room-clause-passed g c = λ own free list stands absent.
    let old = meant g.P.PageSource.pages c.args.space.now in
    let new = meant g.P.PageSource.pages c.put_pair.new.space in
    let way = c.in_ok-way.way in
    let said = c.in_ok-way.ensures in
    let key = c.args.key.now in
    let value = c.args.value.now in
    let none : cell_value key (old way.leaf).cells ≡ None =
    sym (value_there old c.args.root key way.leaf said.way.leaf said.way.kind own free list stands) ∙ absent in
    let put : Alters old new way.leaf (old way.leaf).head (insert (old way.leaf).cells (place_in key (old way.leaf).cells) (leaf_cell key value)) =
    subst (λ (f : ℕ → Image). Alters f new way.leaf (f way.leaf).head (insert (f way.leaf).cells (place_in key (f way.leaf).cells) (leaf_cell key value)))
    said.pages
    (c.in_ok-put_pair.ensures.put
    (subst (λ (f : ℕ → Image). Ascends (f way.leaf).cells) (sym said.pages) (leaf_rises old c.args.root key way.leaf said.way.leaf said.way.kind own free list stands))) in
    (puts old new c.args.root key value way.leaf said.way.leaf said.way.kind none c.requires.key c.requires.cell
    (record { is = put.is; head = put.head_is; others = put.others }) (subst HasRoom put.is c.in_ok-put_pair.ensures.room) own free list stands).1

pub returns-clause-passed : goal.returns-clause-passed
returns-clause-passed g c = λ own free list stands absent.
    let old = meant g.P.PageSource.pages c.args.space.now in
    let new = meant g.P.PageSource.pages c.make_room.new.space in
    let way = c.in_ok-way.way in
    let said = c.in_ok-way.ensures in
    let R : (ℕ → Image) → Type 0 = λ f. LeadsOver f c.args.root c.args.key.now way.roomy → TreeStands f c.args.root own free list
    → Becomes f new c.args.root own free list in
    subst R said.pages (λ over there. c.in_ok-make_room.ensures.room over own free list there) said.way.roomy stands

pub returns-in_err-way-clause-fit : goal.returns-in_err-way-clause-fit
returns-in_err-way-clause-fit g c = λ own free list stands.
    search (rules, c.in_err-way.ensures.fit list (stands_tree (meant g.P.PageSource.pages c.args.space.now) c.args.root own free list stands))

pub returns-in_err-put_pair-clause-fit : goal.returns-in_err-put_pair-clause-fit
returns-in_err-put_pair-clause-fit g c = λ own free list stands.
    let old = meant g.P.PageSource.pages c.args.space.now in
    let way = c.in_ok-way.way in
    let said = c.in_ok-way.ensures in
    let size = 6 + length c.args.key.now + length c.args.value.now in
    let image = c.page.result.now in
    let is : image ≡ old way.leaf = same_Some image (old way.leaf) (sym c.page.ensures ∙ said.loaded) in
    let here : taken image.cells + size ≤ 4072 = search rules in
    let room : taken (meant g.P.PageSource.pages c.way_for.new.space way.leaf).cells + size ≤ 4072 =
    subst (λ (i : Image). taken i.cells + size ≤ 4072) (is ∙ ap (λ (f : ℕ → Image). f way.leaf) (sym said.pages)) here in
    search (rules, c.in_err-put_pair.ensures.fit room)

pub returns-in_err-make_room-clause-fit : goal.returns-in_err-make_room-clause-fit
returns-in_err-make_room-clause-fit g c = λ own free list stands.
    let old = meant g.P.PageSource.pages c.args.space.now in
    let way = c.in_ok-way.way in
    let said = c.in_ok-way.ensures in
    let key = c.args.key.now in
    let size = 6 + length key + length c.args.value.now in
    let image = c.page.result.now in
    let is : image ≡ old way.leaf = same_Some image (old way.leaf) (sym c.page.ensures ∙ said.loaded) in
    let small : 2 + length key + length c.args.value.now ≤ 1640 = c.requires.cell in
    let none : 4072 < taken image.cells + size = grind arith in
    let here : IsFull image = omega arith in
    let full : IsFull (old way.leaf) = subst IsFull is here in
    let under : IsFullUnder old key way.roomy = until_under old key way.roomy way.leaf said.way.full full in
    let R : (ℕ → Image) → Type 0 = λ f. LeadsOver f c.args.root key way.roomy × IsFullUnder f key way.roomy × TreeStands f c.args.root own free list in
    let there : R (meant g.P.PageSource.pages c.way_for.new.space) = subst R (sym said.pages) (said.way.roomy, under, stands) in
    search (rules, c.in_err-make_room.ensures.fit there.0 there.1 own free list there.2)

pub returns-then-has_room-clause-filled : goal.returns-then-has_room-clause-filled
returns-then-has_room-clause-filled g c = λ own free list stands.
    let old = meant g.P.PageSource.pages c.args.space.now in
    let new = meant g.P.PageSource.pages c.put_pair.new.space in
    let way = c.in_ok-way.way in
    let said = c.in_ok-way.ensures in
    let key = c.args.key.now in
    let value = c.args.value.now in
    let put : Alters old new way.leaf (old way.leaf).head (insert (old way.leaf).cells (place_in key (old way.leaf).cells) (leaf_cell key value)) =
    subst (λ (f : ℕ → Image). Alters f new way.leaf (f way.leaf).head (insert (f way.leaf).cells (place_in key (f way.leaf).cells) (leaf_cell key value)))
    said.pages
    (c.in_ok-put_pair.ensures.put
    (subst (λ (f : ℕ → Image). Ascends (f way.leaf).cells) (sym said.pages) (leaf_rises old c.args.root key way.leaf said.way.leaf said.way.kind own free list stands))) in
    filled_one old new c.args.root way.leaf put.others (λ e. insert_some _ _ _ (sym put.is ∙ e))

pub returns-clause-filled : goal.returns-clause-filled
returns-clause-filled g c = λ own free list stands.
    let old = meant g.P.PageSource.pages c.args.space.now in
    let new = meant g.P.PageSource.pages c.make_room.new.space in
    let way = c.in_ok-way.way in
    let said = c.in_ok-way.ensures in
    let root = c.args.root in
    let size = 6 + length c.args.key.now + length c.args.value.now in
    let image = c.page.result.now in
    let is : image ≡ old way.leaf = same_Some image (old way.leaf) (sym c.page.ensures ∙ said.loaded) in
    let small : 2 + length c.args.key.now + length c.args.value.now ≤ 1640 = c.requires.cell in
    let full : 4072 < taken image.cells + size = grind arith in
    let some : IsEmptyLeaf (old root) → ⊥ =
    λ e. (let here : root ≡ way.leaf = leaf_root old c.args.key.now root way.leaf said.leaf e.kind in
    let none : taken image.cells ≡ 0 =
    ap (λ (i : Image). taken i.cells) is ∙ ap (λ (n : ℕ). taken (old n).cells) (sym here) ∙ ap taken e.none in
    omega arith) in
    let R : (ℕ → Image) → Type 0 = λ f. TreeStands f root own free list → (IsEmptyLeaf (f root) → ⊥) → KeepsFilled f new root in
    subst R said.pages (λ there full. c.in_ok-make_room.ensures.filled own free list there full) stands some

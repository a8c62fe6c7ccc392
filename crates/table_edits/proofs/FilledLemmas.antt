-- Trees that are changed one after the other, each with no leaf emptied.
use Rattle.std.proofs.Common.{◌≡◌, ℕ, ◌+◌, ◌<◌, List, [], ◌∷◌, ◌++◌, length, sym, ap, ◌∙◌, subst, arith, length-append}
use Rattle.page_store.specs.Image.{Image}
use Rattle.btree_index.specs.Filled.{IsEmptyLeaf, KeepsFilled}
use Rattle.table_store.specs.Plans.{Planned}
use Rattle.table_edits.specs.Filled.{KeepsLeavesFilled}
use Rattle.table_edits.specs.Genids.{SetsGenid}

-- one tree more
pub tree_filled : (start old new : ℕ → Image) (root : ℕ) (plan done left : List Planned) (p : Planned) → root ≡ 1 + length done → done ++ (p ∷ left) ≡ plan
    → KeepsLeavesFilled start old (length plan) → KeepsFilled old new root → KeepsLeavesFilled start new (length plan)
tree_filled start old new root plan done left p at whole before one n beyond e =
    let long : length (done ++ (p ∷ left)) ≡ length plan = ap (λ (ps : List Planned). length ps) whole in
    let both = length-append done (p ∷ left) in
    before n beyond (one n (λ same. (let is : n ≡ root = same in omega (arith, at, long, both, beyond, is))) e)

-- and the meta page
pub genid_filled : (start pages new : ℕ → Image) (genid trees : ℕ) → SetsGenid pages new genid → KeepsLeavesFilled start pages trees → KeepsLeavesFilled start new trees
genid_filled start pages new genid trees set before n beyond e =
    before n beyond (subst IsEmptyLeaf (set.others n (λ z. (let is : n ≡ 0 = z in omega (arith, beyond, is)))) e)

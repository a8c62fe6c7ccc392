use Rattle.std.proofs.Common.{List, ℕ, ◌≡◌, subst}
use Rattle.std.specs.Bool.{Decides}
use Rattle.btree_index.specs.Trees.{pair_of}
use Rattle.table_store.specs.Forests.{Pair}
use Rattle.table_state.proofs.AmongLaws.{empty_is}
use Rattle.table_state.proofs.KeyedLaws.{none_found, first_found}
use Rattle.table_state.proofs.keys.is_pair_listed.Goals as goal

pub returns-in-None : goal.returns-in-None
returns-in-None c =
    none_found c.args.cells.now c.split_at.result.1.now c.args.key.now c.args.value.now c.place_of.result c.place_of.ensures c.split_at.ensures.back
    (empty_is c.split_at.result.1.now c.in-None.ensures.cases)

pub returns-in-Some : goal.returns-in-Some
returns-in-Some c =
    first_found c.args.cells.now c.split_at.result.1.now c.in-Some.field-0-1.now c.in-Some.cell.now c.args.key.now c.args.value.now c.place_of.result c.is_pair.result
    c.requires c.place_of.ensures c.split_at.ensures.back c.in-Some.ensures.cases.0
    (subst (λ (x : List ℕ). Decides c.is_pair.result (◌≡◌ {A = Pair} (c.args.key.now, c.args.value.now) (pair_of x))) c.as_slice.ensures c.is_pair.ensures)

use Rattle.std.proofs.Common.{ℕ, ◌∙◌, ap}
use Rattle.std.proofs.lemmas.List.Sorted.{IsNonDecreasingBy-from_sort}
use Rattle.table_state.specs.Numbers.{rise_from}
use Rattle.table_state.proofs.NumberLaws.{own_decides}
use Rattle.table_state.proofs.numbers.are_own.Goals as goal

pub returns : goal.returns
returns c =
    own_decides c.args.numbers.items c.sort_unstable.new.self.items c.args.limit c.are_rising.result c.sort_unstable.ensures.permutation
    (IsNonDecreasingBy-from_sort (λ (x : ℕ). x) c.sort_unstable.new.self.items c.sort_unstable.ensures.sorted)
    (c.are_rising.ensures ∙ ap (rise_from 0 c.args.limit) c.as_slice.ensures.value)

-- No key is called `all`.
use Rattle.std.proofs.Common.{◌≡◌, [], ◌∷◌, true, false}
use Rattle.std.specs.List.{AllByRecursion}
use Rattle.script_form.specs.Named.{IsNamedTable}
use Rattle.report_worked.specs.WorkedWrong.{all_table}

pub all_is_no_key : AllByRecursion IsNamedTable (all_table ∷ []) → ⊥
all_is_no_key is = let one : true ≡ false = is.0.1.0.one in cc

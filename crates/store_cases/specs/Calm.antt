-- When the calls of a node may be made.
use Rattle.std.specs.Prelude.{◌≡◌, [], false}
use Rattle.store_cases.specs.declared.steps.Node.{Node}
use Rattle.store_cases.specs.declared.steps.Node.TheVariants.{Shut, Up}

-- nothing is pending in the store, and no call of it failed
abbrev pub IsCalm : Node → Type 0
IsCalm (Shut store) = store.waiting ≡ []
IsCalm (Up log) = log.failed ≡ false

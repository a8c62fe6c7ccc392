-- What an answer of the code says of a binding: it is that binding, or the statement is refused for that kind of error.
-- Of want of memory nothing is said.
use Rattle.std.specs.Prelude.{◌≡◌, Bool, true, Result, Err}
use Rattle.sql_bind.specs.declared.faults.BindFault.{BindFault}
use Rattle.sql_bind.specs.declared.faults.BindFault.TheVariants as faults
use Rattle.sql_bind.specs.Bound.{BoundStatement}
use Rattle.sql_bind.specs.Faults.{FaultKind, UnknownTable, UnknownColumn, AmbiguousName, WrongType, WrongCount}

abbrev pub Refuses : BindFault → Result BoundStatement FaultKind → Type 0
Refuses faults.Table binding = binding ≡ Err UnknownTable
Refuses faults.Column binding = binding ≡ Err UnknownColumn
Refuses faults.Ambiguous binding = binding ≡ Err AmbiguousName
Refuses faults.Type_ binding = binding ≡ Err WrongType
Refuses faults.Count binding = binding ≡ Err WrongCount
Refuses faults.NoMemory binding = Unit {0}

-- the same of the look-up of tables, where one may be unknown
abbrev pub Misses : BindFault → Bool → Type 0
Misses faults.Table unknown = unknown ≡ true
Misses faults.Column unknown = ⊥
Misses faults.Ambiguous unknown = ⊥
Misses faults.Type_ unknown = ⊥
Misses faults.Count unknown = ⊥
Misses faults.NoMemory unknown = Unit {0}

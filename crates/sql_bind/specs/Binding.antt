-- The binding of a statement to a schema: the first kind of error that it has, or else what it means.
use Rattle.std.specs.Prelude.{List, if◌then◌else◌, Result, Ok, Err}
use Rattle.cdb_values.specs.declared.tables.TableDef.{TableDef}
use Rattle.sql_grammar.specs.Trees.{Statement}
use Rattle.sql_bind.specs.Bound.{BoundStatement}
use Rattle.sql_bind.specs.Faults.{FaultKind, UnknownTable, UnknownColumn, AmbiguousName, WrongType, WrongCount, has_unknown_table, has_unknown_column, has_ambiguous_name, has_wrong_type, has_wrong_count}
use Rattle.sql_bind.specs.Meaning.{bound_as}

unfoldable pub binding : List TableDef → Statement → Result BoundStatement FaultKind
binding tables statement =
    if has_unknown_table tables statement then Err UnknownTable
    else if has_unknown_column tables statement then Err UnknownColumn
    else if has_ambiguous_name tables statement then Err AmbiguousName
    else if has_wrong_type tables statement then Err WrongType
    else if has_wrong_count tables statement then Err WrongCount
    else Ok (bound_as tables statement)

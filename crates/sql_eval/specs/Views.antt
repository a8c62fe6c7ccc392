-- What values of the code say.
use Rattle.std.specs.Prelude.{List, map, Option, unwrap_or}
use Rattle.cdb_values.specs.declared.rows.Version.{Version}
use Rattle.cdb_values.specs.declared.values.Value.{Value}
use Rattle.cdb_values.specs.declared.values.Value.TheVariants.{Null}
use Rattle.sql_answer.specs.Shapes as laws
use Rattle.sql_answer.specs.Truth as truths
use Rattle.sql_eval.specs.declared.orders.Keyed.{Keyed}
use Rattle.sql_eval.specs.declared.truths.Truth.{Truth}
use Rattle.sql_eval.specs.declared.truths.Truth.TheVariants.{No, Unknown, Yes}

abbrev pub truth_in : Truth → truths.Truth
truth_in No = truths.No
truth_in Unknown = truths.Unknown
truth_in Yes = truths.Yes

-- the rows of a combination of versions
abbrev pub rows_in : List Version → List (List Value)
rows_in versions = map (λ v. v.row) versions

-- a value, NULL where there is none
abbrev pub value_or_null : Option Value → Value
value_or_null found = unwrap_or found Null

-- a row with the values of its keys
abbrev pub keyed_in : Keyed → laws.Keyed
keyed_in r = laws.keyed r.row r.keys

-- The three truth values, and what a comparison of two values says.
--
-- A comparison with NULL is unknown. Of the values No < Unknown < Yes, AND is the least, OR the
-- greatest, and NOT exchanges No and Yes.
use Rattle.std.specs.Prelude.{Bool, true, false, ◌||◌, if◌then◌else◌}
use Rattle.std.specs.declared.cmp.Ordering.{Ordering}
use Rattle.std.specs.Ordering.{is_eq, is_ne, is_lt, is_le, is_gt, is_ge}
use Rattle.cdb_values.specs.Order.{value_order}
use Rattle.cdb_values.specs.declared.values.Value.{Value}
use Rattle.sql_bind.specs.declared.types.Cmp.{Cmp}
use Rattle.sql_bind.specs.declared.types.Cmp.TheVariants as cmp
use Rattle.session_language.specs.Intervals.{is_null}

pub data Truth : Type 0 where
  No : Truth
  Unknown : Truth
  Yes : Truth

abbrev pub not3 : Truth → Truth
not3 No = Yes
not3 Unknown = Unknown
not3 Yes = No

abbrev pub and3 : Truth → Truth → Truth
and3 No b = No
and3 Unknown No = No
and3 Unknown Unknown = Unknown
and3 Unknown Yes = Unknown
and3 Yes b = b

abbrev pub or3 : Truth → Truth → Truth
or3 No b = b
or3 Unknown No = Unknown
or3 Unknown Unknown = Unknown
or3 Unknown Yes = Yes
or3 Yes b = Yes

abbrev pub is_yes : Truth → Bool
is_yes No = false
is_yes Unknown = false
is_yes Yes = true

-- what is known to be so, or known not to be
abbrev pub truth_of : Bool → Truth
truth_of false = No
truth_of true = Yes

-- whether values that stand so in the order compare so
abbrev pub stands : Cmp → Ordering → Bool
stands cmp.Eq order = is_eq order
stands cmp.Ne order = is_ne order
stands cmp.Lt order = is_lt order
stands cmp.Le order = is_le order
stands cmp.Gt order = is_gt order
stands cmp.Ge order = is_ge order

-- the truth of a comparison of two values
abbrev pub compared : Cmp → Value → Value → Truth
compared op a b = if is_null a || is_null b then Unknown else truth_of (stands op (value_order a b))

-- Where given tables differ from those of a log.
--
-- Of the given tables t, u and the log's tables t, v, w the place is 1. Of t, u and t, u, w it is 1 too, which is that of
-- the last given one. No given tables differ from nothing.
use Rattle.std.specs.Prelude.{◌≡◌, ◌⊎◌, ℕ, ◌+◌, ◌<◌, ◌≤◌, List, [], length, take, slice_get, Some}
use Rattle.cdb_values.specs.declared.tables.TableDef.{TableDef}

-- no tables are given, or those of the log
abbrev pub AreMatched : List TableDef → List TableDef → Type 0
AreMatched given logged = (given ≡ []) ⊎ (given ≡ logged)

-- the given tables are the first ones of the log, which has more, and this is the place of the last one
pub record IsLast (given logged : List TableDef) (place : ℕ) : Type 0 where
  pub first : given ≡ take (length given) logged
  pub more : length given < length logged
  pub last : place + 1 ≡ length given

-- the place of the first given table that differs from the log's table there, or has none there; where there is none,
-- and the log has more tables, that of the last one
pub record IsDifference (given logged : List TableDef) (place : ℕ) : Type 0 where
  pub within : place < length given
  pub before : take place given ≡ take place logged
  pub differs : (slice_get given place ≡ slice_get logged place → ⊥) ⊎ IsLast given logged place

-- so many first tables are the same, and no more of them
pub record AreSame (given logged : List TableDef) (count : ℕ) : Type 0 where
  pub within : count ≤ length given
  pub first : take count given ≡ take count logged
  pub differs : count < length given → slice_get given count ≡ slice_get logged count → ⊥

-- both have the same table at a place
pub record IsSameAt (given logged : List TableDef) (at : ℕ) : Type 0 where
  pub table : TableDef
  pub given_is : slice_get given at ≡ Some table
  pub logged_is : slice_get logged at ≡ Some table

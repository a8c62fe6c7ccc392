-- How a reader's stop is told: the place of the first of the tokens that are left, or the end where none is.
use Rattle.std.specs.Prelude.{◌≡◌, ℕ, ◌-◌, List, length, option_map, slice_get, unwrap_or}
use Rattle.sql_tokens.specs.Spot.{Spot, place_of}
use Rattle.sql_reader.specs.declared.ReadStop.{ReadStop}
use Rattle.sql_reader.specs.declared.ReadStop.TheVariants as told
use Rattle.sql_reader.specs.declared.cursor.ReadError.{ReadError}
use Rattle.sql_reader.specs.declared.cursor.ReadError.TheVariants as errors

abbrev pub place_left : List Spot → ℕ → ℕ → ℕ
place_left ss end left = unwrap_or (option_map place_of (slice_get ss (length ss - left))) end

abbrev pub StopsAs : List Spot → ℕ → ReadError → ReadStop → Type 0
StopsAs ss end errors.Memory stop = stop ≡ told.NoMemory
StopsAs ss end (errors.Refused k) stop = stop ≡ told.Syntax (place_left ss end (length k.now))

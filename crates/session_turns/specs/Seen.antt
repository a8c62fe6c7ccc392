-- The rows at each position of the history so far, and the next genid.
use Rattle.std.specs.Prelude.{ℕ}
use Rattle.cdb_values.specs.Rows.{Rows}

pub record SeenRows : Type 0 where
  pub at : ℕ → Rows
  pub next : ℕ

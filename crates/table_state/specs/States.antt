-- The state that pages have.
use Rattle.std.specs.Prelude.{ℕ, ◌^◌, ◌<◌, List}
use Rattle.page_store.specs.Image.{Image}
use Rattle.page_workspace.specs.Spare.{count_of}
use Rattle.cdb_values.specs.Good.{IsGood}
use Rattle.cdb_values.specs.Rows.{Rows}
use Rattle.cdb_values.specs.declared.tables.TableDef.{TableDef}
use Rattle.table_store.specs.Stored.{Stands}

-- the pages stand for these rows, which are a good state, and the next genid and the number of pages are below 2^62
pub record HasState (pages : ℕ → Image) (tables : List TableDef) (rows : Rows) : Type 0 where
  pub stands : Stands pages tables rows
  pub good : IsGood tables rows.tables
  pub next : rows.next < 2 ^ 62
  pub count : count_of pages < 2 ^ 62

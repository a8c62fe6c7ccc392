-- The operations of a session's transaction name versions that are there, and what the log's pages stand for tells them
-- apart.
use Rattle.std.proofs.Common.{ℕ, zero, suc, ◌∷◌, [], List, drop}
use Rattle.std.specs.List.{AllByRecursion}
use Rattle.cdb_values.specs.Rows.{Rows}
use Rattle.cdb_values.specs.declared.rows.Version.{Version}
use Rattle.cdb_values.specs.declared.tables.TableDef.{TableDef}
use Rattle.live_operations.proofs.LiveLaws.{text_leaves_live, transaction_leaves_live}
use Rattle.live_operations.proofs.StayLaws.{rising_are_distinct}
use Rattle.live_operations.specs.Live.{AreDistinct, AreLive}
use Rattle.log_rows.specs.History.{IsCommit}
use Rattle.page_store.specs.Image.{Image}
use Rattle.phys_log.specs.declared.entries.Entry.{Entry}
use Rattle.session_language.specs.Language.{alone_from}
use Rattle.query_laws.specs.Alone.{sql_language}
use Rattle.table_store.specs.Stored.{Stands}

-- the rows that pages stand for have no genid twice in a table
pub stands_distinct : {pages : ℕ → Image} (tables : List TableDef) (rows : Rows) → Stands pages tables rows → AreDistinct rows.tables
stands_distinct tables rows stands = rising_are_distinct rows.next rows.tables stands.state.versions

pub alone_leaves_live : (tables : List TableDef) (versions : List (List Version)) (texts : List (List ℕ)) → AreDistinct versions → AreLive versions (alone_from sql_language tables versions [] texts).ops
alone_leaves_live tables versions texts distinct = transaction_leaves_live tables versions texts distinct

pub text_alone_leaves_live : (tables : List TableDef) (versions : List (List Version)) (text : List ℕ) → AreDistinct versions → AreLive versions (sql_language.answer tables versions [] text).ops
text_alone_leaves_live tables versions text distinct =
    text_leaves_live tables versions [] text distinct (record { there = λ table. tt; once = λ table. tt })

-- what stands behind a later position stands behind an earlier one
pub commits_behind : (more : ℕ) (log : List Entry) → AllByRecursion IsCommit log → AllByRecursion IsCommit (drop more log)
commits_behind zero log all = all
commits_behind (suc more) [] all = tt
commits_behind (suc more) (e ∷ log) all = commits_behind more log all.1

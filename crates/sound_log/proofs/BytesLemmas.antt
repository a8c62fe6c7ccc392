-- Rows of bytes: of a log without entries, and of pages whose rows were read.
use Rattle.std.proofs.Common.{◌≡◌, ℕ, List, [], ◌∷◌, length, sym, subst, arith}
use Rattle.cdb_values.specs.Rows.{Rows}
use Rattle.cdb_values.specs.declared.rows.Version.{Version}
use Rattle.cdb_values.specs.declared.tables.TableDef.{TableDef}
use Rattle.page_store.specs.Image.{Image}
use Rattle.phys_log.specs.declared.entries.Entry.{Entry}
use Rattle.table_store.specs.Stored.{Stands}
use Rattle.table_state.specs.States.{HasState}
use Rattle.sound_log.specs.Bytes.{RowsAreOfBytes, StandForBytes, AreOfBytes}

no_tables : (tables : List (List Version)) → length tables ≡ 0 → RowsAreOfBytes tables
no_tables [] e = tt
no_tables (versions ∷ tables) e = absurd (omega arith)

pub none_of_bytes : (entries : List Entry) → entries ≡ [] → AreOfBytes entries
none_of_bytes entries none =
    subst (λ (es : List Entry). AreOfBytes es) (sym none) (λ rows has. no_tables rows.tables has.stands.state.tables_are)

-- the rows that were read are all for which the pages stand
pub read_of_bytes : (pages : ℕ → Image) (tables : List TableDef) (found : Rows)
    → ((rows others : Rows) → Stands pages tables rows → Stands pages tables others → rows ≡ others) → HasState pages tables found
    → RowsAreOfBytes found.tables → StandForBytes pages tables
read_of_bytes pages tables found one has told rows other =
    subst (λ (r : Rows). RowsAreOfBytes r.tables) (one found rows has.stands other.stands) told

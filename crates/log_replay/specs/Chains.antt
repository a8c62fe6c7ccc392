-- The chain of a page: its records in LSN order, each by its LSN and the position of its entry.
use Rattle.std.specs.Prelude.{ℕ, ◌+◌, ◌-◌, ◌==◌, nat_lt, if◌then◌else◌, List, [], ◌∷◌, ◌++◌, Option, Some, None, option_to_list}
use Rattle.std.specs.List.{slice_get}
use Rattle.page_store.specs.Image.{Image}
use Rattle.page_store.specs.Edits.{IsAfter, before_edit}
use Rattle.phys_log.specs.declared.entries.LogRecord.{LogRecord}
use Rattle.phys_log.specs.declared.entries.Entry.{Entry}
use Rattle.phys_log.specs.Logs.{records_of}
use Rattle.log_replay.specs.declared.chains.ChainLink.{ChainLink}

-- the links of a page among the records of the entry at a position
abbrev pub links_on : ℕ → ℕ → List LogRecord → List ChainLink
links_on id position [] = []
links_on id position (r ∷ rs) = if id == r.page then record { position = position; lsn = r.lsn } ∷ links_on id position rs else links_on id position rs

-- the links of a page among entries, the first of which stands at a position
abbrev pub chain_from : ℕ → ℕ → List Entry → List ChainLink
chain_from id position [] = []
chain_from id position (e ∷ es) = links_on id position (records_of e) ++ chain_from id (position + 1) es

-- the chain of a page of a log
abbrev pub chain_of : List Entry → ℕ → List ChainLink
chain_of entries id = chain_from id 1 entries

-- the record of a link: in the entry at its position, as far behind the first one as its LSN tells
abbrev pub in_records : List LogRecord → ℕ → Option LogRecord
in_records [] lsn = None
in_records (r ∷ rs) lsn = slice_get (r ∷ rs) (lsn - r.lsn)

abbrev pub in_entry : Option Entry → ℕ → Option LogRecord
in_entry None lsn = None
in_entry (Some e) lsn = in_records (records_of e) lsn

abbrev pub record_by : List Entry → ChainLink → Option LogRecord
record_by entries link = in_entry (slice_get entries (link.position - 1)) link.lsn

-- each of these records made the page on which it is undone, when those before it in the list are undone
abbrev pub CanUndo : Image → List LogRecord → Type 0
CanUndo image [] = Unit {0}
CanUndo image (r ∷ rs) = IsAfter r.edit image × CanUndo (before_edit image r.edit r.prev) rs

-- the records of the links after a position, newest first
abbrev pub granted : List Entry → ℕ → List ChainLink → List LogRecord
granted entries position [] = []
granted entries position (k ∷ ks) =
    granted entries position ks ++ (if nat_lt position k.position then option_to_list (record_by entries k) else [])

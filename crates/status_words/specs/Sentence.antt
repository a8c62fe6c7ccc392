-- What a sentence on a status has for certain: how it begins, with the line or the byte, and how it ends, with the page that
-- helps. What stands between is free.
use Rattle.std.specs.Prelude.{◌≡◌, ◌==◌, ℕ, ◌++◌, ◌∷◌, [], List, if◌then◌else◌, codes}
use Rattle.std.specs.Fmt.{decimal}
use Rattle.cdb_outside.specs.declared.statuses.Status.{Status}
use Rattle.cdb_outside.specs.declared.statuses.Status.TheVariants as status

-- the store of a node, and the byte in it
abbrev pub byte_place : ℕ → ℕ → List ℕ
byte_place node at = codes "cdb: the store of node " ++ (decimal node ++ (codes ", byte " ++ (decimal at ++ codes ": ")))

-- where it is: the line of the script, or the node's store and the byte
abbrev pub place_of : Status → List ℕ
place_of status.Done = codes "cdb: "
place_of status.Usage = codes "cdb: "
place_of (status.Refused line why) = codes "cdb: line " ++ (decimal line ++ codes ": ")
place_of status.ReadFault = codes "cdb: "
place_of status.WriteFault = codes "cdb: "
place_of (status.StoreRefused node at) = byte_place node at
place_of status.NoMemory = codes "cdb: "
place_of (status.Unsound node) = codes "cdb: the store of node " ++ (decimal node ++ codes ": ")

-- the page that helps with a reason against a line
abbrev pub reason_page : ℕ → List ℕ
reason_page why =
    if why == 7 then codes "docs/script.md#tables"
    else if why == 10 then codes "docs/script.md#what-runs-today"
    else codes "docs/script.md#refusals"

-- the number of a reason, and the page that helps with it
abbrev pub reason_end : ℕ → List ℕ
reason_end why = codes " (reason " ++ (decimal why ++ (codes "); " ++ (reason_page why ++ (10 ∷ []))))

-- the page that helps, behind the number of the reason where there is one
abbrev pub page_of : Status → List ℕ
page_of status.Done = codes "; docs/report.md" ++ (10 ∷ [])
page_of status.Usage = codes "; docs/script.md#the-command" ++ (10 ∷ [])
page_of (status.Refused line why) = reason_end why
page_of status.ReadFault = codes "; docs/script.md#the-command" ++ (10 ∷ [])
page_of status.WriteFault = codes "; docs/script.md#the-command" ++ (10 ∷ [])
page_of (status.StoreRefused node at) = codes "; docs/keeping_a_store.md#after-status-6" ++ (10 ∷ [])
page_of status.NoMemory = codes "; docs/keeping_a_store.md#after-status-7" ++ (10 ∷ [])
page_of (status.Unsound node) = codes "; docs/keeping_a_store.md#after-status-9" ++ (10 ∷ [])

-- a sentence on a status
abbrev pub IsSentence : Status → List ℕ → Type 0
IsSentence status text = (words : List ℕ) × (text ≡ place_of status ++ (words ++ page_of status))

-- What the lines of the head say, behind their first piece, or the smallest reason against them.
--
--     nodes NUMBER
--     cluster NAME
--     workers NUMBER
--     session NAME NUMBER [hasql]
--     create table ..
--     watch NAME
--
-- A line that is none of these has reason 3. What does not fit the rule of names is no name; what
-- fits it and has an upper-case letter or more than 32 bytes is a malformed one.
use Rattle.std.specs.Prelude.{ℕ, ◌==◌, List, length, Bool, true, false, ◌&&◌, ◌||◌, not, if◌then◌else◌, nat_lt, nat_le, Option, Some, None, Result, Ok, Err, codes, bytes_eq}
use Rattle.std.specs.List.{list_any}
use Rattle.std.specs.Str.{is_utf8}
use Rattle.cdb_values.specs.Tables.{place_of}
use Rattle.cdb_values.specs.declared.tables.TableDef.{TableDef}
use Rattle.byte_words.specs.Words.{◌>>=◌, piece, after_piece, is_end, is_name, fits_name, number_of_piece}
use Rattle.table_read.specs.Verdict.{TableFault, Unlawful, Limit, table_of}
use Rattle.script_read.specs.Answers.{Refusal, refusal}
use Rattle.script_read.specs.declared.drafts.Draft.{Draft}
use Rattle.script_read.specs.declared.said.Said.{Said}
use Rattle.script_read.specs.declared.said.Said.TheVariants as said
use Rattle.script_form.specs.declared.scripts.SessionLine.{SessionLine}

-- the piece that comes next, where it fits the rule of names, and what stands behind it
abbrev pub fitting_at : List ℕ → Option (List ℕ × List ℕ)
fitting_at bytes = if fits_name (piece bytes) then Some (piece bytes, after_piece bytes) else None

-- the number that comes next, and what stands behind it
abbrev pub numeral_at : List ℕ → Option (ℕ × List ℕ)
numeral_at bytes = number_of_piece (piece bytes) >>= (λ number. Some (number, after_piece bytes))

-- a value where nothing is left behind it
abbrev pub alone : {A : Type 0} → A × List ℕ → Option A
alone found = if is_end found.1 then Some found.0 else None

-- the number that bytes are
abbrev pub only_number : List ℕ → Option ℕ
only_number bytes = numeral_at bytes >>= alone

-- the one piece that bytes are, where it fits the rule of names
abbrev pub only_fitting : List ℕ → Option (List ℕ)
only_fitting bytes = fitting_at bytes >>= alone

-- whether a session of that name is among these
abbrev pub is_declared : List ℕ → List SessionLine → Bool
is_declared name sessions = list_any (λ session. bytes_eq session.name name) sessions

-- whether a number is that of a node
abbrev pub is_node : ℕ → ℕ → Bool
is_node nodes node = nat_le 1 node && nat_le node nodes

-- the number of nodes: 1 to 7 (else reason 4), with a store for each (else 8)
abbrev pub nodes_said : Draft → ℕ → Option ℕ → Result Said Refusal
nodes_said draft line None = Err (refusal line 3)
nodes_said draft line (Some nodes) =
    if (nodes == 0) || nat_lt 7 nodes then Err (refusal line 4)
    else if nat_lt draft.stores nodes then Err (refusal line 8)
    else Ok (said.Nodes nodes)

-- the name of the cluster
abbrev pub cluster_said : ℕ → Option (List ℕ) → Result Said Refusal
cluster_said line None = Err (refusal line 3)
cluster_said line (Some name) = if is_name name then Ok (said.Cluster name) else Err (refusal line 3)

-- the number of workers: 1 to 64 (else reason 8)
abbrev pub workers_said : ℕ → Option ℕ → Result Said Refusal
workers_said line None = Err (refusal line 3)
workers_said line (Some workers) = if (workers == 0) || nat_lt 64 workers then Err (refusal line 8) else Ok (said.Workers workers)

-- whether a session survives its node: the last piece of its line says so
abbrev pub hasql_of : List ℕ → Option Bool
hasql_of bytes =
    if is_end bytes then Some false
    else if bytes_eq (piece bytes) (codes "hasql") && is_end (after_piece bytes) then Some true
    else None

-- the name, the node and the mark of a session line
unfoldable pub session_of : List ℕ → Option ((List ℕ × ℕ) × Bool)
session_of bytes = do
  name ← fitting_at bytes
  node ← numeral_at name.1
  hasql ← hasql_of node.1
  Some ((name.0, node.0), hasql)

-- a session: its name is well-formed and new (else reason 5), its node is one (else 6), and it is
-- at most the 64th (else 8)
abbrev pub session_said : Draft → ℕ → Option ((List ℕ × ℕ) × Bool) → Result Said Refusal
session_said draft line None = Err (refusal line 3)
session_said draft line (Some ((name, node), hasql)) =
    if not (is_name name) || is_declared name draft.sessions then Err (refusal line 5)
    else if not (is_node draft.nodes node) then Err (refusal line 6)
    else if nat_le 64 (length draft.sessions) then Err (refusal line 8)
    else Ok (said.Session (record { line = line; name = name; node = node; hasql = hasql }))

abbrev pub tabled : ℕ → Result TableDef TableFault → Result TableDef Refusal
tabled line (Ok table) = Ok table
tabled line (Err Unlawful) = Err (refusal line 7)
tabled line (Err Limit) = Err (refusal line 8)

-- a table: its text gives one that can be added to those before it, else there is reason 7 or 8
-- (the text of a line that is UTF-8 is UTF-8 too)
abbrev pub table_said : List TableDef → ℕ → List ℕ → Result TableDef Refusal
table_said tables line text = if is_utf8 text then tabled line (table_of tables text) else Err (refusal line 7)

-- a watch at that place: at most the 8th, with a consumer for it (else reason 8)
abbrev pub watched : Draft → ℕ → Option ℕ → Result Said Refusal
watched draft line None = Err (refusal line 7)
watched draft line (Some place) =
    if nat_le 8 (length draft.watches) || nat_le draft.consumers (length draft.watches) then Err (refusal line 8)
    else Ok (said.Watch place)

-- a watch: it names a table (else reason 7)
abbrev pub watch_said : Draft → ℕ → Option (List ℕ) → Result Said Refusal
watch_said draft line None = Err (refusal line 3)
watch_said draft line (Some name) = if is_name name then watched draft line (place_of draft.schema name) else Err (refusal line 7)

-- The script of bytes, or the first refusal.
--
-- The lines are judged in their order, and the first one that has a reason against it is told, with
-- the smallest of its reasons:
--
--     1   the line is not UTF-8
--     2   it is longer than 65,535 bytes
--     3   it is no line of the grammar, or stands in the wrong part
--     4   it says another number of nodes than 1 to 7
--     5   the name of its session is malformed, declared twice or not declared
--     6   its number is no node's
--     7   its table or its watch is wrong
--     8   a limit is passed, or there are too few stores or consumers
--     10  it does not run today
--
-- Reasons 1 and 2 are tested on every line. A line without text, or whose text begins with `#`, has
-- no other reason. A script without any other line has reason 4 at the line after its last. Where
-- there are more than 67,108,864 bytes, the line of the first one past them has reason 8, whatever
-- stands in it; the lines before it are judged as always, and no later byte matters.
use Rattle.std.specs.Prelude.{ℕ, ◌+◌, ◌==◌, ◌++◌, ◌∷◌, [], List, length, take, if◌then◌else◌, nat_lt, Option, Some, None, Result, Ok, Err, codes}
use Rattle.std.specs.Str.{is_utf8}
use Rattle.cdb_values.specs.declared.tables.TableDef.{TableDef}
use Rattle.byte_words.specs.Lines.{lines_of_bytes, but_last, text_of, is_skipped}
use Rattle.byte_words.specs.Words.{after_piece}
use Rattle.script_read.specs.Answers.{Refusal, refusal}
use Rattle.script_read.specs.Bodies.{said_of, say_said, stop_said, start_said, arm_of, arm_said, barrier_said, feed_said}
use Rattle.script_read.specs.Built.{is_built}
use Rattle.script_read.specs.Heads.{only_number, only_fitting, nodes_said, cluster_said, workers_said, session_of, session_said, table_said, watch_said}
use Rattle.script_read.specs.Kinds.{kind_of, part_of, may_come}
use Rattle.script_read.specs.declared.drafts.Draft.{Draft}
use Rattle.script_read.specs.declared.kinds.Keyword.{Keyword}
use Rattle.script_read.specs.declared.kinds.Keyword.TheVariants as keywords
use Rattle.script_read.specs.declared.kinds.LineKind.{LineKind}
use Rattle.script_read.specs.declared.kinds.LineKind.TheVariants as lines
use Rattle.script_read.specs.declared.said.Said.{Said}
use Rattle.script_read.specs.declared.said.Said.TheVariants as said
use Rattle.script_form.specs.declared.scripts.Script.{Script}

-- the most bytes of a script
abbrev pub most_bytes : ℕ
most_bytes = 67108864

-- the most bytes of a line
abbrev pub most_line_bytes : ℕ
most_line_bytes = 65535

abbrev pub and_then : {A B : Type 0} → Result A Refusal → (A → Result B Refusal) → Result B Refusal
and_then (Ok x) next = next x
and_then (Err e) next = Err e

-- what a line says that a keyword begins, by what stands behind that
abbrev pub told : Draft → ℕ → List ℕ → Keyword → Result Said Refusal
told draft line rest keywords.Nodes = nodes_said draft line (only_number rest)
told draft line rest keywords.Cluster = cluster_said line (only_fitting rest)
told draft line rest keywords.Workers = workers_said line (only_number rest)
told draft line rest keywords.Session = session_said draft line (session_of rest)
told draft line rest keywords.Watch = watch_said draft line (only_fitting rest)
told draft line rest keywords.Stop = stop_said draft line (only_number rest)
told draft line rest keywords.Start = start_said draft line (only_number rest)
told draft line rest keywords.Arm = arm_said draft line (arm_of rest)
told draft line rest keywords.Barrier = barrier_said line rest
told draft line rest keywords.Feed = feed_said line rest

-- what was read, with what a line says
abbrev pub with_said : Draft → ℕ → Said → Draft
with_said draft line (said.Nodes nodes) = record draft { part = 1; nodes = nodes }
with_said draft line (said.Cluster name) = record draft { part = 2; cluster = Some name }
with_said draft line (said.Workers workers) = record draft { part = 3; workers = workers }
with_said draft line (said.Session session) = record draft { part = 4; sessions = draft.sessions ++ session ∷ [] }
with_said draft line (said.Watch place) = record draft { part = 6; watches = draft.watches ++ place ∷ [] }
with_said draft line (said.Runs act) = record draft { part = 7; body = draft.body ++ record { line = line; act = act } ∷ [] }

-- what was read, with a table
abbrev pub with_table : Draft → ℕ → TableDef → Draft
with_table draft line table = record draft { part = 5; schema = draft.schema ++ table ∷ []; tables = draft.tables ++ record { line = line; table = table } ∷ [] }

-- the same for a line without any other reason against it
abbrev pub if_built : Draft → ℕ → Said → Result Draft Refusal
if_built draft line said = if is_built said then Ok (with_said draft line said) else Err (refusal line 10)

-- a line that says a table; one without columns may not be (and none is spelled)
abbrev pub tables_with : Draft → ℕ → TableDef → Result Draft Refusal
tables_with draft line table = if length table.columns == 0 then Err (refusal line 7) else Ok (with_table draft line table)

-- the same where the schema has the table
abbrev pub tables_more : Draft → ℕ → TableDef → Result Draft Refusal
tables_more draft line table =
    if length table.columns == 0 then Err (refusal line 7)
    else Ok (record draft { part = 5; tables = draft.tables ++ record { line = line; table = table } ∷ [] })

-- a line of that kind, where it may come
abbrev pub read_placed : Draft → ℕ → List ℕ → LineKind → Result Draft Refusal
read_placed draft line text (lines.Told keyword) = and_then (told draft line (after_piece text) keyword) (if_built draft line)
read_placed draft line text lines.Create = and_then (table_said draft.schema line text) (tables_with draft line)
read_placed draft line text lines.Say = and_then (say_said draft line (said_of text)) (if_built draft line)

-- a text of that kind, behind what was read before it
abbrev pub read_kind : Draft → ℕ → List ℕ → Option LineKind → Result Draft Refusal
read_kind draft line text None = Err (refusal line 3)
read_kind draft line text (Some kind) = if may_come draft.part (part_of kind) then read_placed draft line text kind else Err (refusal line 3)

-- one line read behind what was read before it
unfoldable pub read_line : Draft → ℕ → List ℕ → Result Draft Refusal
read_line draft line bytes =
    if is_utf8 bytes then
    if nat_lt most_line_bytes (length bytes) then Err (refusal line 2)
    else if is_skipped (text_of bytes) then Ok draft
    else read_kind draft line (text_of bytes) (kind_of (text_of bytes))
    else Err (refusal line 1)

-- these lines read one after the other, the first of them with that number, and the number of the line after them
unfoldable pub read_lines : Draft → ℕ → List (List ℕ) → Result (Draft × ℕ) Refusal
read_lines draft line [] = Ok (draft, line)
read_lines draft line (bytes ∷ lines) = and_then (read_line draft line bytes) (λ next. read_lines next (line + 1) lines)

-- nothing read yet
abbrev pub no_draft : ℕ → ℕ → Draft
no_draft stores consumers = record { stores = stores; consumers = consumers; part = 0; nodes = 0; cluster = None; workers = 1; sessions = []; schema = []; tables = []; watches = []; body = [] }

-- the name of the cluster where no line says it
abbrev pub cluster_name : Option (List ℕ) → List ℕ
cluster_name None = codes "main"
cluster_name (Some name) = name

abbrev pub script_with : Draft → Script
script_with draft = record { nodes = draft.nodes; cluster = cluster_name draft.cluster; workers = draft.workers; sessions = draft.sessions; tables = draft.tables; watches = draft.watches; body = draft.body }

-- the script at the end of the bytes
abbrev pub finished : Draft → ℕ → Result Script Refusal
finished draft line = if draft.part == 0 then Err (refusal line 4) else Ok (script_with draft)

-- the script of bytes within the limit
abbrev pub whole_script : Draft → List ℕ → Result Script Refusal
whole_script draft bytes = and_then (read_lines draft 1 (lines_of_bytes bytes)) (λ last. finished last.0 last.1)

-- the refusal of bytes past it, by the lines before the one that passes it
abbrev pub past_limit : Draft → List (List ℕ) → Result Script Refusal
past_limit draft lines = and_then (read_lines draft 1 lines) (λ last. Err (refusal last.1 8))

-- the script of bytes, for the numbers of stores and consumers
abbrev pub script_of : ℕ → ℕ → List ℕ → Result Script Refusal
script_of stores consumers bytes =
    if nat_lt most_bytes (length bytes) then past_limit (no_draft stores consumers) (but_last (lines_of_bytes (take (most_bytes + 1) bytes)))
    else whole_script (no_draft stores consumers) bytes

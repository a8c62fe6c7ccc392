-- What kind of line a text is, and where such a line may stand.
--
-- A text whose first word is directly followed by a colon is a line of a session. One whose first
-- word is `create`, in any case, is a table. All others are told by their first piece.
--
-- A script has seven parts: the nodes line, the cluster line, the workers line, sessions, tables,
-- watches, and the body. They come in this order, each of the first three at most once.
use Rattle.std.specs.Prelude.{ℕ, ◌==◌, ◌∷◌, [], List, map, Bool, false, ◌&&◌, ◌||◌, if◌then◌else◌, nat_lt, nat_le, Option, Some, None, codes, bytes_eq}
use Rattle.std.specs.Char.{to_ascii_lowercase}
use Rattle.byte_words.specs.Words.{front, behind, is_word_byte, piece}
use Rattle.script_read.specs.declared.kinds.Keyword.{Keyword}
use Rattle.script_read.specs.declared.kinds.Keyword.TheVariants as keywords
use Rattle.script_read.specs.declared.kinds.LineKind.{LineKind}
use Rattle.script_read.specs.declared.kinds.LineKind.TheVariants as lines

-- the keyword of a line of the head
abbrev pub head_keyword : List ℕ → Option Keyword
head_keyword found =
    if bytes_eq found (codes "nodes") then Some keywords.Nodes
    else if bytes_eq found (codes "cluster") then Some keywords.Cluster
    else if bytes_eq found (codes "workers") then Some keywords.Workers
    else if bytes_eq found (codes "session") then Some keywords.Session
    else if bytes_eq found (codes "watch") then Some keywords.Watch
    else None

-- any keyword
abbrev pub keyword_of : List ℕ → Option Keyword
keyword_of found =
    if bytes_eq found (codes "stop") then Some keywords.Stop
    else if bytes_eq found (codes "start") then Some keywords.Start
    else if bytes_eq found (codes "arm") then Some keywords.Arm
    else if bytes_eq found (codes "barrier") then Some keywords.Barrier
    else if bytes_eq found (codes "feed") then Some keywords.Feed
    else head_keyword found

abbrev pub begins_with : ℕ → List ℕ → Bool
begins_with sign [] = false
begins_with sign (byte ∷ bytes) = byte == sign

-- the word `create` in any case
abbrev pub is_create : List ℕ → Bool
is_create found = bytes_eq (map to_ascii_lowercase found) (codes "create")

abbrev pub kind_of_keyword : Option Keyword → Option LineKind
kind_of_keyword None = None
kind_of_keyword (Some keyword) = Some (lines.Told keyword)

-- what kind of line a text is
abbrev pub kind_of : List ℕ → Option LineKind
kind_of text =
    if begins_with 58 (behind is_word_byte text) then Some lines.Say
    else if is_create (front is_word_byte text) then Some lines.Create
    else kind_of_keyword (keyword_of (piece text))

-- the part of a script in which a line stands, from 1
abbrev pub keyword_part : Keyword → ℕ
keyword_part keywords.Nodes = 1
keyword_part keywords.Cluster = 2
keyword_part keywords.Workers = 3
keyword_part keywords.Session = 4
keyword_part keywords.Watch = 6
keyword_part keywords.Stop = 7
keyword_part keywords.Start = 7
keyword_part keywords.Arm = 7
keyword_part keywords.Barrier = 7
keyword_part keywords.Feed = 7

abbrev pub part_of : LineKind → ℕ
part_of (lines.Told keyword) = keyword_part keyword
part_of lines.Create = 5
part_of lines.Say = 7

-- whether a line of a part may come where the line before it stands in another one, 0 where there is none:
-- the nodes line comes first, and the parts from the sessions on may have many lines
abbrev pub may_come : ℕ → ℕ → Bool
may_come before part = if before == 0 then part == 1 else nat_lt before part || ((before == part) && nat_le 4 part)

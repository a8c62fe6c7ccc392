-- A worked example and the reasons of small scripts, computed by the definitions.
use Rattle.std.proofs.Common.{◌≡◌, ℕ, List, [], ◌∷◌, ◌++◌, false, Ok, Err, codes, refl}
use Rattle.std.specs.Str.{is_utf8, chars}
use Rattle.script_read.specs.Answers.{refusal}
use Rattle.script_read.specs.Heads.{session_of}
use Rattle.script_read.specs.ScriptText.{script_of, read_lines, read_line}
use Rattle.script_form.specs.declared.scripts.Act.TheVariants.{Say}

-- lines, each with its LF
abbrev lines : List (List ℕ) → List ℕ
lines [] = []
lines (line ∷ others) = line ++ 10 ∷ lines others

pub is_read : script_of 1 0 (lines (codes "nodes 1" ∷ codes "session a 1" ∷ codes "# run" ∷ codes " a: set transaction serializable " ∷ [])) ≡ Ok (record {
  nodes = 1;
  cluster = codes "main";
  workers = 1;
  sessions = record { line = 2; name = codes "a"; node = 1; hasql = false } ∷ [];
  tables = [];
  watches = [];
  body = record { line = 4; act = Say (codes "a") (codes "set transaction serializable") } ∷ [];
})
unfolding read_lines read_line session_of is_utf8 chars lib.Utf8.encode
is_read = refl

pub empty_is_refused : script_of 1 0 [] ≡ Err (refusal 1 4)
unfolding read_lines
empty_is_refused = refl

pub bad_byte_is_refused : script_of 1 0 (255 ∷ []) ≡ Err (refusal 1 1)
unfolding read_lines read_line is_utf8 chars lib.Utf8.encode
bad_byte_is_refused = refl

pub hello_is_refused : script_of 1 0 (lines (codes "nodes 1" ∷ codes "hello" ∷ [])) ≡ Err (refusal 2 3)
unfolding read_lines read_line is_utf8 chars lib.Utf8.encode
hello_is_refused = refl

pub eight_nodes_are_refused : script_of 9 0 (codes "nodes 8") ≡ Err (refusal 1 4)
unfolding read_lines read_line is_utf8 chars lib.Utf8.encode
eight_nodes_are_refused = refl

pub a_session_twice_is_refused : script_of 1 0 (lines (codes "nodes 1" ∷ codes "session a 1" ∷ codes "session a 1" ∷ [])) ≡ Err (refusal 3 5)
unfolding read_lines read_line session_of is_utf8 chars lib.Utf8.encode
a_session_twice_is_refused = refl

pub another_node_is_refused : script_of 1 0 (lines (codes "nodes 1" ∷ codes "session a 2" ∷ [])) ≡ Err (refusal 2 6)
unfolding read_lines read_line session_of is_utf8 chars lib.Utf8.encode
another_node_is_refused = refl

pub watch_of_no_table_is_refused : script_of 1 0 (lines (codes "nodes 1" ∷ codes "watch t" ∷ [])) ≡ Err (refusal 2 7)
unfolding read_lines read_line is_utf8 chars lib.Utf8.encode
watch_of_no_table_is_refused = refl

pub workers_are_refused : script_of 1 0 (lines (codes "nodes 1" ∷ codes "workers 65" ∷ [])) ≡ Err (refusal 2 8)
unfolding read_lines read_line is_utf8 chars lib.Utf8.encode
workers_are_refused = refl

pub two_nodes_do_not_run : script_of 7 0 (codes "nodes 2") ≡ Err (refusal 1 10)
unfolding read_lines read_line is_utf8 chars lib.Utf8.encode
two_nodes_do_not_run = refl

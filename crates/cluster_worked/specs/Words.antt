-- What the written runs are of: three nodes, two sessions a and b, one table with a unique key, that is watched, and two texts. The text w inserts
-- a row, and any other one reads all rows. An actor is called by its own number, so a is actor 97, and b is actor 98.
use Rattle.std.specs.Prelude.{◌++◌, List, [], ◌∷◌, false, true, if◌then◌else◌, length, map, slice_get, unwrap_or}
use Rattle.std.specs.Str.{bytes_eq}
use Rattle.cdb_values.specs.declared.replies.Reply.TheVariants as reply
use Rattle.cdb_values.specs.declared.rows.RowOp.{RowOp}
use Rattle.cdb_values.specs.declared.rows.RowOp.TheVariants.{Insert}
use Rattle.cdb_values.specs.declared.rows.Version.{Version}
use Rattle.cdb_values.specs.declared.tables.ColumnType.TheVariants as kinds
use Rattle.cdb_values.specs.declared.tables.TableDef.{TableDef}
use Rattle.cdb_values.specs.declared.values.Value.{Value}
use Rattle.cdb_values.specs.declared.values.Value.TheVariants.{Text}
use Rattle.cluster_events.specs.Settings.{Setting}
use Rattle.cluster_runs.specs.Written.{as_scripted}
use Rattle.script_form.specs.declared.scripts.BodyLine.{BodyLine}
use Rattle.script_form.specs.declared.scripts.Script.{Script}
use Rattle.session_language.specs.Language.{Answered, Language, OtherText}

abbrev pub its_row : List Value
its_row = Text (120 ∷ []) ∷ []

abbrev pub its_ops : List RowOp
its_ops = Insert 0 its_row ∷ []

abbrev pub rows_read : List (List Version) → List (List Value)
rows_read versions = map (λ v. v.row) (unwrap_or (slice_get versions 0) [])

abbrev pub writing : List RowOp → Answered
writing done = record { replies = reply.Changed 1 ∷ []; ops = done ++ its_ops; uses = []; ranges = []; failed = false }

abbrev pub reading : List (List Version) → List RowOp → Answered
reading versions done = record {
  replies = map reply.Row (rows_read versions) ++ reply.Done (length (rows_read versions)) ∷ [];
  ops = done;
  uses = [];
  ranges = [];
  failed = false;
}

abbrev pub words : Language
words = record {
  kind = λ text. OtherText;
  answer = λ tables versions done text. if bytes_eq text (119 ∷ []) then writing done else reading versions done;
}

abbrev pub its_table : TableDef
its_table = record { name = 116 ∷ []; columns = record { name = 99 ∷ []; kind = kinds.Text; nullable = false } ∷ []; keys = record { name = 107 ∷ []; columns = 0 ∷ []; unique = true } ∷ [] }

abbrev pub script_of : List BodyLine → Script
script_of body = record {
  nodes = 3;
  cluster = [];
  workers = 1;
  sessions = record { line = 2; name = 97 ∷ []; node = 1; hasql = false } ∷ record { line = 3; name = 98 ∷ []; node = 2; hasql = false } ∷ [];
  tables = record { line = 4; table = its_table } ∷ [];
  watches = 0 ∷ [];
  body = body;
}

abbrev pub unwritten_of : List BodyLine → Setting
unwritten_of body = record { nodes = 3; language = words; script = script_of body; tables = its_table ∷ []; names = λ i. i ∷ []; phase = λ s told. 0; armed = λ s told line. false }

-- the setting that is read off such a script
abbrev pub setting_of : List BodyLine → Setting
setting_of body = as_scripted (unwritten_of body)

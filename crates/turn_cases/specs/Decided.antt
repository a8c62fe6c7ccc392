-- What the plain node decides on a request: by the first touch of what was used, and then by the first broken key.
use Rattle.std.specs.Prelude.{◌≡◌, ℕ, ◌+◌, ◌++◌, ◌∷◌, [], List, length, drop}
use Rattle.cdb_values.specs.Changes.{changes_of}
use Rattle.cdb_values.specs.Rows.{apply_all}
use Rattle.cdb_values.specs.declared.replies.Reply.{Reply}
use Rattle.cdb_values.specs.declared.replies.Reply.TheVariants as reply
use Rattle.cdb_values.specs.declared.rows.RowOp.{RowOp}
use Rattle.cdb_values.specs.declared.tables.TableDef.{TableDef}
use Rattle.osql_session.specs.Sessions.{Session}
use Rattle.session_language.specs.Touched.{Used, first_use}
use Rattle.session_turns.specs.Decisions.{judged}
use Rattle.session_turns.specs.Outcomes.{outcome_told, IsRefusal, IsRightFor}
use Rattle.session_turns.specs.declared.answers.CommitOutcome.TheVariants.{Committed}
use Rattle.turn_cases.specs.Plain.{changes_in, rows_at, rows_of, world_by}
use Rattle.turn_cases.specs.declared.plain.Decided.{Decided}
use Rattle.turn_cases.specs.declared.plain.Decided.TheVariants.{Told, Enters}
use Rattle.turn_cases.specs.declared.rows.PlainEntry.{PlainEntry}

-- how it is told
abbrev pub told_by : List TableDef → List PlainEntry → ℕ → List Used → List RowOp → Reply
told_by tables entries begin used ops =
    judged tables (rows_at entries (length entries)) (length entries) ops (first_use tables begin (drop begin (changes_in entries)) used)

-- it is refused so; or it is committed at the next position, and this is its entry
abbrev pub Decides : List TableDef → List PlainEntry → Reply → List RowOp → Decided → Type 0
Decides tables entries told ops (Told outcome) = IsRefusal outcome × (outcome_told tables outcome ≡ told)
Decides tables entries told ops (Enters entry) =
    (told ≡ reply.Committed (length entries + 1)) × (rows_of entry.rows ≡ apply_all (rows_at entries (length entries)) ops)
    × (entry.changes ≡ changes_of ops (rows_at entries (length entries)).next)

-- the same of a session: what is told is right, and an entry is that of a right commit
abbrev pub Judges : List TableDef → List PlainEntry → Session → Decided → Type 0
Judges tables entries s (Told outcome) = IsRightFor (world_by tables entries) (world_by tables entries) s outcome
Judges tables entries s (Enters entry) = IsRightFor (world_by tables entries) (world_by tables (entries ++ entry ∷ [])) s (Committed (length entries + 1))

-- A run of statements as the laws of reports see it: a transaction run alone; and the language of SQL, which reads
-- the intervals that plans read.
use Rattle.std.specs.Prelude.{◌∷◌, [], List, Bool, true, false, map}
use Rattle.std.specs.List.{flat_map, list_any}
use Rattle.cdb_values.specs.declared.items.Edge.{Edge}
use Rattle.cdb_values.specs.declared.items.Edge.TheVariants as edge
use Rattle.cdb_values.specs.declared.items.GenidItem.{GenidItem}
use Rattle.cdb_values.specs.declared.items.Interval.{Interval}
use Rattle.session_language.specs.Language.{Answered, Language}
use Rattle.cdb_values.specs.declared.replies.Reply.{Reply}
use Rattle.cdb_values.specs.declared.replies.Reply.TheVariants as reply
use Rattle.sql_answer.specs.Answers.{Outcome, Fails, Gives}
use Rattle.sql_answer.specs.Language.{IntervalReader, sql_binder, language_of}
use Rattle.query_laws.specs.Intervals as laws
use Rattle.query_laws.specs.Runs.{Run, ranges_of}

-- an interval as values of the code say it
abbrev pub edge_out : laws.Edge → Edge
edge_out laws.Free = edge.Free
edge_out (laws.AtLeast value) = edge.AtLeast value
edge_out (laws.Above value) = edge.Above value
edge_out (laws.AtMost value) = edge.AtMost value
edge_out (laws.Below value) = edge.Below value

abbrev pub interval_out : laws.Interval → Interval
interval_out i = record { table = i.table; key = i.key; equal = i.equal; low = edge_out i.low; high = edge_out i.high; empty = i.empty }

-- a statement reads what its plan reads
abbrev pub reads_of : IntervalReader
reads_of tables versions ops statement = map interval_out (ranges_of tables versions ops statement)

-- the language of SQL
abbrev pub sql_language : Language
sql_language = language_of sql_binder reads_of

abbrev pub replies_of : Outcome → List Reply
replies_of (Fails cause) = reply.Error cause ∷ []
replies_of (Gives told after) = told.replies

abbrev pub uses_of : Outcome → List GenidItem
uses_of (Fails cause) = []
uses_of (Gives told after) = told.uses

abbrev pub is_failure : Outcome → Bool
is_failure (Fails cause) = true
is_failure (Gives told after) = false

-- all replies of a run, its operations, what it uses, and whether a statement of it failed
abbrev pub run_answered : Run → Answered
run_answered run = record {
  replies = flat_map replies_of run.outcomes;
  ops = run.ops;
  uses = flat_map uses_of run.outcomes;
  ranges = map interval_out run.ranges;
  failed = list_any is_failure run.outcomes;
}

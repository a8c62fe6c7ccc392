-- The language that sessions speak, as far as the laws of reports need it: what each text is to
-- transactions, and how it is answered. The laws hold of every language.
--
-- A text is answered by the tables, the versions at the transaction's begin position, and the
-- transaction's own operations so far. Its answer are reply lines, the operations after it, the versions
-- that it uses besides those that its operations take away, the intervals that it reads, and whether it
-- failed by the rows that it met. A transaction run alone is its texts answered one after the other, begun without operations.
use Rattle.std.specs.Prelude.{ℕ, ◌++◌, ◌∷◌, [], List, Bool, false, ◌||◌}
use Rattle.cdb_values.specs.Rows.{Rows}
use Rattle.cdb_values.specs.declared.rows.Level.{Level}
use Rattle.cdb_values.specs.declared.rows.RowOp.{RowOp}
use Rattle.cdb_values.specs.declared.rows.Version.{Version}
use Rattle.cdb_values.specs.declared.tables.TableDef.{TableDef}
use Rattle.cdb_values.specs.declared.items.GenidItem.{GenidItem}
use Rattle.cdb_values.specs.declared.items.Interval.{Interval}
use Rattle.cdb_values.specs.declared.replies.Reply.{Reply}

-- what a text is to transactions: it begins one, commits or rolls back one, sets the level of later
-- ones, or is any other text
pub data Kind : Type 0 where
  BeginText : Kind
  CommitText : Kind
  RollbackText : Kind
  LevelText : Level → Kind
  OtherText : Kind

pub record Answered : Type 0 where
  pub replies : List Reply
  pub ops : List RowOp
  pub uses : List GenidItem
  pub ranges : List Interval
  pub failed : Bool

pub record Language : Type 0 where
  pub kind : List ℕ → Kind
  pub answer : List TableDef → List (List Version) → List RowOp → List ℕ → Answered

-- a transaction's texts, answered one after the other behind these operations
abbrev pub answers_from : Language → List TableDef → List (List Version) → List RowOp → List (List ℕ) → List Answered
answers_from language tables versions done [] = []
answers_from language tables versions done (text ∷ texts) =
    language.answer tables versions done text ∷ answers_from language tables versions (language.answer tables versions done text).ops texts

-- what answers one after the other give together, behind these operations
abbrev pub together : List RowOp → List Answered → Answered
together done [] = record { replies = []; ops = done; uses = []; ranges = []; failed = false }
together done (a ∷ answers) = record {
  replies = a.replies ++ (together a.ops answers).replies;
  ops = (together a.ops answers).ops;
  uses = a.uses ++ (together a.ops answers).uses;
  ranges = a.ranges ++ (together a.ops answers).ranges;
  failed = a.failed || (together a.ops answers).failed;
}

abbrev pub alone_from : Language → List TableDef → List (List Version) → List RowOp → List (List ℕ) → Answered
alone_from language tables versions done texts = together done (answers_from language tables versions done texts)

-- a transaction's texts, run alone on these rows
abbrev pub alone : Language → List TableDef → Rows → List (List ℕ) → Answered
alone language tables rows texts = alone_from language tables rows.tables [] texts

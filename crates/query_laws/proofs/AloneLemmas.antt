-- A transaction run alone in the language of SQL is the run of what its texts mean.
use Rattle.std.proofs.Common.{◌≡◌, ℕ, List, [], ◌∷◌, ◌++◌, refl, sym, ap, map, ◌||◌, ◌∙◌}
use Rattle.std.proofs.lemmas.List.{map-append}
use Rattle.cdb_values.specs.declared.rows.RowOp.{RowOp}
use Rattle.cdb_values.specs.declared.rows.Version.{Version}
use Rattle.cdb_values.specs.declared.tables.TableDef.{TableDef}
use Rattle.session_language.specs.Language.{Answered, alone_from}
use Rattle.sql_answer.specs.Answers.{Outcome, Fails, Gives, answer, ops_after}
use Rattle.sql_answer.specs.Language.{Binder, meaning, answered, language_of}
use Rattle.query_laws.specs.Alone.{run_answered, replies_of, uses_of, is_failure, interval_out, reads_of}
use Rattle.query_laws.specs.Intervals.{Interval}
use Rattle.cdb_values.specs.declared.items.GenidItem.{GenidItem}
use Rattle.cdb_values.specs.declared.items.Interval as declared
use Rattle.cdb_values.specs.declared.replies.Reply.{Reply}
use Rattle.std.specs.List.{flat_map, list_any}
use Rattle.query_laws.specs.Runs.{ranges_of, Run, run_then, run_from}

-- an answer before others
abbrev joined : Answered → Answered → Answered
joined first later = record { replies = first.replies ++ later.replies; ops = later.ops; uses = first.uses ++ later.uses; ranges = first.ranges ++ later.ranges; failed = first.failed || later.failed }

-- what a statement that does not fail and a run behind it give, but for the intervals
abbrev joined_with : List Reply → List GenidItem → Run → List declared.Interval → Answered
joined_with replies uses run ranges = record {
  replies = replies ++ flat_map replies_of run.outcomes;
  ops = run.ops;
  uses = uses ++ flat_map uses_of run.outcomes;
  ranges = ranges;
  failed = list_any is_failure run.outcomes;
}

one_more : (ops : List RowOp) (o : Outcome) (ranges : List Interval) (run : Run) → joined (answered (map interval_out ranges) ops o) (run_answered run) ≡ run_answered (run_then o ranges run)
one_more ops (Fails cause) ranges run = refl
one_more ops (Gives told after) ranges run =
    ap (λ (l : List declared.Interval). joined_with told.replies told.uses run l) (sym (map-append interval_out ranges run.ranges))

pub after_is : (ranges : List declared.Interval) (ops : List RowOp) (o : Outcome) → (answered ranges ops o).ops ≡ ops_after ops o
after_is ranges ops (Fails cause) = refl
after_is ranges ops (Gives told after) = refl

pub alone_is_run : (bind : Binder) (tables : List TableDef) (versions : List (List Version)) (ops : List RowOp) (texts : List (List ℕ)) →
    alone_from (language_of bind reads_of) tables versions ops texts ≡ run_answered (run_from tables versions ops (map (meaning bind tables) texts))
alone_is_run bind tables versions ops [] = refl
alone_is_run bind tables versions ops (text ∷ texts) =
    let o : Outcome = answer tables versions ops (meaning bind tables text) in
    let ranges : List declared.Interval = reads_of tables versions ops (meaning bind tables text) in
    ap (λ after. joined (answered ranges ops o) (alone_from (language_of bind reads_of) tables versions after texts)) (after_is ranges ops o)
    ∙ ap (joined (answered ranges ops o)) (alone_is_run bind tables versions (ops_after ops o) texts)
    ∙ one_more ops o (ranges_of tables versions ops (meaning bind tables text)) (run_from tables versions (ops_after ops o) (map (meaning bind tables) texts))

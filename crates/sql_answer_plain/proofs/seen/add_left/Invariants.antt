-- the rows so far, before those of the versions that are left, are those of all
use Rattle.std.proofs.Common.{◌≡◌, ◌++◌, map, length}
use Rattle.std.specs.Prelude.{filter}
use Rattle.sql_answer.specs.Combinations.{seen_version, is_left}
use Rattle.sql_answer_plain.specs.Views.{all_seen_in}
use Rattle.sql_answer_plain.proofs.seen.add_left.Given as goal

abbrev pub invariant-versions : goal.invariant-versions
invariant-versions l =
    all_seen_in l.rows ++ map seen_version (filter (is_left l.ops l.table) l.rest) ≡ all_seen_in l.initial.rows ++ map seen_version (filter (is_left l.ops l.table) l.versions)

abbrev pub decreases-versions : goal.decreases-versions
decreases-versions l = length l.rest

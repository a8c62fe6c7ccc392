-- How often the lines of a report tell that the store of a node failed.
use Rattle.std.specs.Prelude.{ℕ, ◌+◌, ◌==◌, cond, List, [], ◌∷◌}
use Rattle.report_text.specs.declared.reports.Line.{Line}
use Rattle.report_text.specs.declared.reports.Line.TheVariants as line

abbrev pub fall_in : ℕ → Line → ℕ
fall_in k (line.Down count node fault) = cond fault (cond (k == node) 1 0) 0
fall_in k _ = 0

abbrev pub falls_told : ℕ → List Line → ℕ
falls_told k [] = 0
falls_told k (l ∷ ls) = fall_in k l + falls_told k ls

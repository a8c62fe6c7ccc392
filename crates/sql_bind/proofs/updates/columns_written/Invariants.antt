use Rattle.std.proofs.Common.{◌≡◌, ◌++◌, map, drop}
use Rattle.sql_grammar.specs.Views.{setting_in}
use Rattle.sql_bind.proofs.updates.columns_written.Given as goal

abbrev pub invariant-assigns : goal.invariant-assigns
invariant-assigns l = map (λ n. n.now) l.found.items ++ map (λ s. s.column) (map setting_in (drop l.assign-index l.assigns)) ≡ map (λ s. s.column) (map setting_in l.assigns)

use Rattle.std.proofs.Common.{◌≡◌, ◌++◌, ◌∷◌, [], map, drop}
use Rattle.sql_grammar.specs.Views.{setting_in}
use Rattle.sql_bind.specs.Meaning.{bound_setting}
use Rattle.sql_bind.specs.Seen.{visible_in}
use Rattle.sql_bind.proofs.updates.assigns.Given as goal

abbrev pub invariant-assigns : goal.invariant-assigns
invariant-assigns l = l.bound ++ map (bound_setting (visible_in l.table ∷ [])) (map setting_in (drop l.assign-index l.assigns)) ≡ map (bound_setting (visible_in l.table ∷ [])) (map setting_in l.assigns)

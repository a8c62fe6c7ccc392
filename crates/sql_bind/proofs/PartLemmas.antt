-- What holds of a condition with several parts, by what holds of its parts.
use Rattle.std.proofs.Common.{◌≡◌, List, [], ◌∷◌, ◌||◌, map, refl, ap, ◌∙◌}
use Rattle.std.specs.List.{list_any}
use Rattle.std.proofs.lemmas.List.Folds.{list_any-append}
use Rattle.sql_grammar.specs.declared.seq.Seq.{Seq}
use Rattle.sql_grammar.specs.declared.types.Test.{Test}
use Rattle.sql_grammar.specs.declared.types.Test as tests
use Rattle.sql_grammar.specs.Trees as written
use Rattle.sql_grammar.specs.Views.{condition_in}
use Rattle.sql_bind.specs.declared.columns.Doubt.{Doubt}
use Rattle.sql_bind.specs.Bound.{AnyOf, AllOf, conds, more_conds}
use Rattle.sql_bind.specs.Scope.{Visible}
use Rattle.sql_bind.specs.Faults.{cond_columns, parts_columns, cond_differs, parts_differ}
use Rattle.sql_bind.specs.Meaning.{bound_cond, bound_conds}
use Rattle.sql_bind.specs.Seen.{doubted, doubts_cond}
use Rattle.sql_bind.proofs.LevelLemmas.{written_or, written_and}

pub doubts_parts : (scope : List Visible) (doubt : Doubt) (parts : List written.Cond) → list_any (doubted scope doubt) (parts_columns (written.conds parts)) ≡ list_any (doubts_cond scope doubt) parts
doubts_parts scope doubt [] = refl
doubts_parts scope doubt (part ∷ parts) =
    list_any-append (doubted scope doubt) (cond_columns part) (parts_columns (written.conds parts))
    ∙ ap (λ b. doubts_cond scope doubt part || b) (doubts_parts scope doubt parts)

pub differ_parts : (scope : List Visible) (parts : List written.Cond) → parts_differ scope (written.conds parts) ≡ list_any (cond_differs scope) parts
differ_parts scope [] = refl
differ_parts scope (part ∷ parts) = ap (λ b. cond_differs scope part || b) (differ_parts scope parts)

pub bound_parts : (scope : List Visible) (parts : List written.Cond) → bound_conds scope (written.conds parts) ≡ conds (map (bound_cond scope) parts)
bound_parts scope [] = refl
bound_parts scope (part ∷ parts) = ap (λ cs. more_conds (bound_cond scope part) cs) (bound_parts scope parts)

-- The same of a condition of the code.

module _ (scope : List Visible) where
  pub doubts_or : (doubt : Doubt) (test : Test) (parts : Seq Test) → test ≡ tests.Or parts → doubts_cond scope doubt (condition_in test) ≡ list_any (doubts_cond scope doubt) (map condition_in parts.items.items)
  doubts_or doubt test parts is =
      ap (λ t. doubts_cond scope doubt (condition_in t)) is ∙ ap (doubts_cond scope doubt) (written_or parts) ∙ doubts_parts scope doubt (map condition_in parts.items.items)

  pub doubts_and : (doubt : Doubt) (test : Test) (parts : Seq Test) → test ≡ tests.And parts → doubts_cond scope doubt (condition_in test) ≡ list_any (doubts_cond scope doubt) (map condition_in parts.items.items)
  doubts_and doubt test parts is =
      ap (λ t. doubts_cond scope doubt (condition_in t)) is ∙ ap (doubts_cond scope doubt) (written_and parts) ∙ doubts_parts scope doubt (map condition_in parts.items.items)

  pub differ_or : (test : Test) (parts : Seq Test) → test ≡ tests.Or parts → cond_differs scope (condition_in test) ≡ list_any (cond_differs scope) (map condition_in parts.items.items)
  differ_or test parts is =
      ap (λ t. cond_differs scope (condition_in t)) is ∙ ap (cond_differs scope) (written_or parts) ∙ differ_parts scope (map condition_in parts.items.items)

  pub differ_and : (test : Test) (parts : Seq Test) → test ≡ tests.And parts → cond_differs scope (condition_in test) ≡ list_any (cond_differs scope) (map condition_in parts.items.items)
  differ_and test parts is =
      ap (λ t. cond_differs scope (condition_in t)) is ∙ ap (cond_differs scope) (written_and parts) ∙ differ_parts scope (map condition_in parts.items.items)

  pub means_or : (test : Test) (parts : Seq Test) → test ≡ tests.Or parts → bound_cond scope (condition_in test) ≡ AnyOf (conds (map (bound_cond scope) (map condition_in parts.items.items)))
  means_or test parts is =
      ap (λ t. bound_cond scope (condition_in t)) is ∙ ap (bound_cond scope) (written_or parts) ∙ ap AnyOf (bound_parts scope (map condition_in parts.items.items))

  pub means_and : (test : Test) (parts : Seq Test) → test ≡ tests.And parts → bound_cond scope (condition_in test) ≡ AllOf (conds (map (bound_cond scope) (map condition_in parts.items.items)))
  means_and test parts is =
      ap (λ t. bound_cond scope (condition_in t)) is ∙ ap (bound_cond scope) (written_and parts) ∙ ap AllOf (bound_parts scope (map condition_in parts.items.items))

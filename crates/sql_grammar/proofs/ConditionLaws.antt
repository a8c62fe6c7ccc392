-- The readers of comparisons and conditions are exact, at each number of levels.
use Rattle.std.proofs.Common.{ℕ, zero, suc, true, false, List, [], ◌∷◌, ◌++◌, refl}
use Rattle.grammar_forms.specs.Forms.{Spelling, Reader}
use Rattle.grammar_forms.specs.Laws.{Exact}
use Rattle.grammar_forms.proofs.Sequence.{exact_nothing, exact_as, exact_both}
use Rattle.grammar_forms.proofs.Choice.{exact_either, widen}
use Rattle.grammar_forms.proofs.Usual.{exact_before, exact_optional, exact_separated}
use Rattle.sql_tokens.specs.declared.kinds.Keyword.TheVariants as words
use Rattle.sql_tokens.specs.declared.kinds.Sign.TheVariants as sign
use Rattle.sql_tokens.specs.declared.kinds.Token.{Token}
use Rattle.sql_tokens.specs.declared.kinds.Token.TheVariants as token
use Rattle.sql_grammar.specs.declared.types.Comparison.TheVariants as comparison
use Rattle.sql_grammar.specs.Trees.{Cond, AnyOf, AllOf, NotOf, Grouped}
use Rattle.sql_grammar.specs.Words.{kind, code, keyword, sign_code, sign_is, a_name}
use Rattle.sql_grammar.specs.Grammar.{SignS, NegationS, TestS, IsNullTest, CompareTest, tested, ComparisonS, AndS, OrS, NotS, ConditionS, WhereS, joined}
use Rattle.sql_grammar.specs.Readers.{sign_r, negation_r, test_r, comparison_r, and_of, or_of, not_r, and_r, condition_r, where_r}
use Rattle.sql_grammar.proofs.OperandLaws.{literals, exact_operand, exact_word_as, exact_sign_as, after_word, exact_enclosed}

abbrev comparisons : List ℕ
comparisons = sign_code sign.Equal ∷ sign_code sign.NotEqual ∷ sign_code sign.Less ∷ sign_code sign.LessEqual ∷ sign_code sign.Greater ∷ sign_code sign.GreaterEqual ∷ []

abbrev pub dot : List ℕ
dot = sign_code sign.Dot ∷ []

exact_sign : Exact kind SignS sign_r false comparisons []
unfolding SignS sign_r keyword sign_is
exact_sign = exact_either kind _ _ _ _ _ (exact_sign_as sign.Equal comparison.Eq refl)
    (exact_either kind _ _ _ _ _ (exact_sign_as sign.NotEqual comparison.Ne refl)
    (exact_either kind _ _ _ _ _ (exact_sign_as sign.Less comparison.Lt refl)
    (exact_either kind _ _ _ _ _ (exact_sign_as sign.LessEqual comparison.Le refl)
    (exact_either kind _ _ _ _ _ (exact_sign_as sign.Greater comparison.Gt refl) (exact_sign_as sign.GreaterEqual comparison.Ge refl) (λ t. refl) refl)
    (λ t. refl) refl)
    (λ t. refl) refl)
    (λ t. refl) refl)
    (λ t. refl) refl

exact_negation : Exact kind NegationS negation_r true (code words.Not ∷ []) (code words.Not ∷ [])
unfolding NegationS negation_r keyword sign_is
exact_negation = exact_either kind _ _ _ _ _ (exact_word_as words.Not true refl) (exact_nothing kind false) (λ t. refl) refl

pub exact_test : Exact kind TestS test_r false (code words.Is ∷ comparisons) dot
unfolding TestS test_r keyword sign_is
exact_test = widen kind
    (exact_either kind _ _ _ _ _
    (exact_as kind IsNullTest _ _ (after_word words.Is refl
    (exact_before kind (code words.Null ∷ []) (token.Keyword words.Null) refl
    exact_negation refl)))
    (exact_both kind CompareTest _ _ _ _ exact_sign exact_operand refl)
    (λ t. refl) refl)
    refl refl

abbrev pub operands : List ℕ
operands = literals ++ a_name ∷ []

pub exact_comparison : Exact kind ComparisonS comparison_r false operands dot
unfolding ComparisonS comparison_r keyword sign_is
exact_comparison = exact_both kind tested _ _ _ _ exact_operand exact_test refl

abbrev pub conditions : List ℕ
conditions = code words.Not ∷ sign_code sign.Open ∷ operands

module _ {S : Spelling Token Cond} {r : Reader Token Cond} (E : Exact kind S r false conditions dot) where
  pub exact_and : Exact kind (AndS S) (and_of r) false conditions (code words.And ∷ dot)
  unfolding keyword
  exact_and = exact_as kind (joined AllOf) _ _ (exact_separated kind E (code words.And ∷ []) (token.Keyword words.And) refl refl)

  pub exact_or : Exact kind (OrS S) (or_of r) false conditions (code words.Or ∷ code words.And ∷ dot)
  unfolding keyword
  exact_or = exact_as kind (joined AnyOf) _ _ (exact_separated kind exact_and (code words.Or ∷ []) (token.Keyword words.Or) refl refl)

pub exact_not : (levels : ℕ) → Exact kind (NotS levels) (not_r levels) false conditions dot
unfolding NotS not_r keyword sign_is
exact_not zero = widen kind exact_comparison refl refl
exact_not (suc levels) = widen kind
    (exact_either kind _ _ _ _ _
    (after_word words.Not refl (exact_as kind NotOf _ _ (exact_not levels)))
    (exact_either kind _ _ _ _ _ (exact_as kind Grouped _ _ (exact_enclosed (exact_or (exact_not levels)) refl)) exact_comparison (λ t. refl) refl)
    (λ t. refl) refl)
    refl refl

pub exact_all : (levels : ℕ) → Exact kind (AndS (NotS levels)) (and_r levels) false conditions (code words.And ∷ dot)
unfolding and_r
exact_all levels = exact_and (exact_not levels)

pub exact_condition : (levels : ℕ) → Exact kind (ConditionS levels) (condition_r levels) false conditions (code words.Or ∷ code words.And ∷ dot)
unfolding ConditionS condition_r keyword sign_is
exact_condition levels = exact_or (exact_not levels)

pub exact_where : Exact kind WhereS where_r true (code words.Where ∷ []) (code words.Or ∷ code words.And ∷ sign_code sign.Dot ∷ code words.Where ∷ [])
unfolding WhereS where_r keyword sign_is
exact_where = exact_optional kind (after_word words.Where refl (exact_condition 100))

-- What a condition is with levels left to open, and with none.
use Rattle.std.proofs.Common.{◌≡◌, ℕ, zero, suc, ◌-◌, ◌<◌, List, true, false, cond, refl, arith, ap, sub-one, ◌∙◌}
use Rattle.grammar_forms.specs.Forms.{either, as_of, Read, and_then, next_is}
use Rattle.grammar_forms.specs.Parts.{after, before, word, first_of_two}
use Rattle.sql_tokens.specs.declared.kinds.Keyword.TheVariants as words
use Rattle.sql_tokens.specs.declared.kinds.Sign.TheVariants as sign
use Rattle.sql_tokens.specs.declared.kinds.Token.{Token}
use Rattle.sql_grammar.specs.Trees.{Cond, NotOf, Grouped}
use Rattle.sql_grammar.specs.Words.{keyword, sign_is}
use Rattle.sql_grammar.specs.Readers.{enclosed, not_r, condition_r, comparison_r}
use Rattle.sql_reader.proofs.StepLemmas.{after_read}

pub not_last : (levels : ℕ) (ts : List Token) → levels ≡ 0 → not_r levels ts ≡ comparison_r ts
unfolding not_r
not_last zero ts e = refl
not_last (suc n) ts e = absurd (omega arith)

pub not_deeper : (levels : ℕ) (ts : List Token) → 0 < levels → not_r levels ts ≡ either (keyword words.Not) (after (keyword words.Not) (as_of NotOf (not_r (levels - 1)))) (either (sign_is sign.Open) (as_of Grouped (enclosed (condition_r (levels - 1)))) comparison_r) ts
unfolding not_r condition_r
not_deeper zero ts h = absurd (omega arith)
not_deeper (suc n) ts h = rw sub-one refl

module _ (levels : ℕ) (ts k : List Token) (y : Cond) (h : 0 < levels) where
  pub take_not : (j : List Token) → next_is (keyword words.Not) ts ≡ true → word (keyword words.Not) ts ≡ Read tt k → not_r (levels - 1) k ≡ Read y j → not_r levels ts ≡ Read (NotOf y) j
  take_not j t w e =
      not_deeper levels ts h
      ∙ ap (λ b. cond b (after (keyword words.Not) (as_of NotOf (not_r (levels - 1))) ts) (either (sign_is sign.Open) (as_of Grouped (enclosed (condition_r (levels - 1)))) comparison_r ts)) t
      ∙ after_read (keyword words.Not) (as_of NotOf (not_r (levels - 1))) ts k w (NotOf y) j (ap (λ o. and_then o (λ x i. Read (NotOf x) i)) e)

  -- what stands in parentheses
  closed_part : (i j : List Token) → condition_r (levels - 1) k ≡ Read y i → word (sign_is sign.Close) i ≡ Read tt j → before (sign_is sign.Close) (condition_r (levels - 1)) k ≡ Read y j
  closed_part i j e w =
      ap (λ o. and_then o (λ x l. and_then (word (sign_is sign.Close) l) (λ u m. Read (first_of_two x u) m))) e ∙ ap (λ o. and_then o (λ u m. Read y m)) w

  pub take_group : (i j : List Token) → next_is (keyword words.Not) ts ≡ false → next_is (sign_is sign.Open) ts ≡ true → word (sign_is sign.Open) ts ≡ Read tt k → condition_r (levels - 1) k ≡ Read y i → word (sign_is sign.Close) i ≡ Read tt j → not_r levels ts ≡ Read (Grouped y) j
  take_group i j t u w e v =
      not_deeper levels ts h
      ∙ ap (λ b. cond b (after (keyword words.Not) (as_of NotOf (not_r (levels - 1))) ts) (either (sign_is sign.Open) (as_of Grouped (enclosed (condition_r (levels - 1)))) comparison_r ts)) t
      ∙ ap (λ b. cond b (as_of Grouped (enclosed (condition_r (levels - 1))) ts) (comparison_r ts)) u
      ∙ ap (λ o. and_then o (λ x l. Read (Grouped x) l)) (after_read (sign_is sign.Open) (before (sign_is sign.Close) (condition_r (levels - 1))) ts k w y j (closed_part i j e v))

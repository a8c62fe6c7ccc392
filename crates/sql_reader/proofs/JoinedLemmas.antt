-- Conditions with a word between every two: one stands as itself, more are joined.
use Rattle.std.proofs.Common.{◌≡◌, ℕ, ◌≤◌, Bool, true, false, List, [], ◌∷◌, map, length, refl, sym, ap, ◌∙◌, arith, Box, Global}
use Rattle.grammar_forms.specs.Forms.{Spelling, Reader, Read, next_is, and_then, as_of, many}
use Rattle.grammar_forms.specs.Parts.{After, after, separated}
use Rattle.grammar_forms.specs.Laws.{Exact}
use Rattle.grammar_forms.proofs.Loops.{with_front, loop_end, loop_stop}
use Rattle.sql_tokens.specs.declared.kinds.Token.{Token}
use Rattle.sql_grammar.specs.declared.seq.Seq.{Seq}
use Rattle.sql_grammar.specs.declared.types.Test.{Test}
use Rattle.sql_grammar.specs.declared.types.Test as tests
use Rattle.sql_grammar.specs.declared.types.Test.{fold-Test, fold-roll-Test}
use Rattle.sql_grammar.specs.declared.types.Test.TheOpen.{Test-F}
use Rattle.sql_grammar.specs.declared.types.Test.TheVariants.{rolls-And, rolls-Or, rolls-Not, rolls-Group}
use Rattle.sql_grammar.specs.Trees.{Cond, Conds, AllOf, AnyOf, NotOf, Grouped, conds}
use Rattle.sql_grammar.specs.Views.{condition_in, level}
use Rattle.sql_grammar.specs.Words.{kind}
use Rattle.sql_grammar.specs.Grammar.{joined}
use Rattle.sql_reader.specs.Gives.{Fails}
use Rattle.sql_reader.specs.declared.cursor.ReadError.{ReadError}
use Rattle.sql_reader.specs.declared.cursor.ReadError.TheVariants as errors

module _ (f : Conds → Cond) (p : Token → Bool) (S : Spelling Token Cond) (r : Reader Token Cond) {firsts mores : List ℕ} (E : Exact kind (After p S) (after p r) false firsts mores) where
  pub first_part : (ts : List Token) (x : Cond) (k : List Token) → r ts ≡ Read x k → separated p r ts ≡ with_front (x ∷ []) (many p (after p r) k)
  first_part ts x k e = ap (λ o. and_then o (λ z i. and_then (many p (after p r) i) (λ y j. Read (z ∷ y) j))) e

  pub joined_one : (ts : List Token) (x : Cond) (k : List Token) → r ts ≡ Read x k → next_is p k ≡ false → as_of (joined f) (separated p r) ts ≡ Read x k
  joined_one ts x k e t = ap (λ o. and_then o (λ y j. Read (joined f y) j)) (first_part ts x k e ∙ loop_end kind p (After p S) (after p r) E (x ∷ []) k t)

  two_joined : (xs : List Cond) → 2 ≤ length xs → joined f xs ≡ f (conds xs)
  two_joined [] h = absurd (omega arith)
  two_joined (c ∷ []) h = absurd (omega arith)
  two_joined (c ∷ d ∷ cs) h = refl

  pub joined_all : (xs : List Cond) (ts k : List Token) → separated p r ts ≡ with_front xs (many p (after p r) k) → next_is p k ≡ false → 2 ≤ length xs → as_of (joined f) (separated p r) ts ≡ Read (f (conds xs)) k
  joined_all xs ts k e t h =
      ap (λ o. and_then o (λ y j. Read (joined f y) j)) (e ∙ loop_end kind p (After p S) (after p r) E xs k t) ∙ ap (λ c. Read c k) (two_joined xs h)

  pub joined_fails : (stop : ReadError) (xs : List Cond) (ts k : List Token) → separated p r ts ≡ with_front xs (many p (after p r) k) → next_is p k ≡ true → Fails stop (after p r k) → Fails stop (as_of (joined f) (separated p r) ts)
  joined_fails errors.Memory xs ts k e t h = tt
  joined_fails (errors.Refused j) xs ts k e t h = ap (λ o. and_then o (λ y j. Read (joined f y) j)) (e ∙ loop_stop kind p (After p S) (after p r) E xs k j.now t h)

  pub first_fails : (stop : ReadError) (ts : List Token) → Fails stop (r ts) → Fails stop (as_of (joined f) (separated p r) ts)
  first_fails errors.Memory ts h = tt
  first_fails (errors.Refused j) ts h = ap (λ o. and_then (and_then o (λ z i. and_then (many p (after p r) i) (λ y j. Read (z ∷ y) j))) (λ y j. Read (joined f y) j)) h

-- What a condition of the code says, by its outermost part.
pub seen_and : (s : Seq Test) → condition_in (tests.And s) ≡ AllOf (conds (map condition_in s.items.items))
unfolding condition_in
seen_and s = ap (fold-Test Cond level) (sym (rolls-And s)) ∙ fold-roll-Test Cond level (Test-F.And s)

pub seen_or : (s : Seq Test) → condition_in (tests.Or s) ≡ AnyOf (conds (map condition_in s.items.items))
unfolding condition_in
seen_or s = ap (fold-Test Cond level) (sym (rolls-Or s)) ∙ fold-roll-Test Cond level (Test-F.Or s)

pub seen_not : (b : Box Test Global) → condition_in (tests.Not b) ≡ NotOf (condition_in b.value)
unfolding condition_in
seen_not b = ap (fold-Test Cond level) (sym (rolls-Not b)) ∙ fold-roll-Test Cond level (Test-F.Not b)

pub seen_group : (b : Box Test Global) → condition_in (tests.Group b) ≡ Grouped (condition_in b.value)
unfolding condition_in
seen_group b = ap (fold-Test Cond level) (sym (rolls-Group b)) ∙ fold-roll-Test Cond level (Test-F.Group b)

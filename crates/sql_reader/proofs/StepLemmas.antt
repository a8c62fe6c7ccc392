-- Steps of a loop over parts, for what a function of the code returned.
use Rattle.std.proofs.Common.{◌≡◌, ℕ, Bool, true, false, List, ap, ◌∙◌}
use Rattle.grammar_forms.specs.Forms.{Spelling, Reader, Read, next_is, and_then, many}
use Rattle.grammar_forms.specs.Parts.{word, after, second_of_two}
use Rattle.grammar_forms.specs.Laws.{Exact}
use Rattle.grammar_forms.proofs.Loops.{with_front, loop_stop}
use Rattle.sql_tokens.specs.declared.kinds.Token.{Token}
use Rattle.sql_reader.specs.Gives.{Fails}
use Rattle.sql_reader.specs.declared.cursor.ReadError.{ReadError}
use Rattle.sql_reader.specs.declared.cursor.ReadError.TheVariants as errors

module _ {A : Type 0} (p : Token → Bool) (r : Reader Token A) (ts k : List Token) (h : word p ts ≡ Read tt k) where
  behind : after p r ts ≡ and_then (r k) (λ y j. Read y j)
  behind = ap (λ o. and_then o (λ u i. and_then (r i) (λ y j. Read (second_of_two u y) j))) h

  -- a word, and the part behind it
  pub after_read : (x : A) (j : List Token) → r k ≡ Read x j → after p r ts ≡ Read x j
  after_read x j e = behind ∙ ap (λ o. and_then o (λ y i. Read y i)) e

  pub after_fails : (e : ReadError) → Fails e (r k) → Fails e (after p r ts)
  after_fails errors.Memory f = tt
  after_fails (errors.Refused j) f = behind ∙ ap (λ o. and_then o (λ y i. Read y i)) f

-- a part that is not read stops the loop
pub loop_fails : {A : Type 0} (kind : Token → ℕ) (p : Token → Bool) (S : Spelling Token A) (r : Reader Token A) {firsts mores : List ℕ} → Exact kind S r false firsts mores → (e : ReadError) (front : List A) (ts : List Token) → next_is p ts ≡ true → Fails e (r ts) → Fails e (with_front front (many p r ts))
loop_fails kind p S r E errors.Memory front ts t f = tt
loop_fails kind p S r E (errors.Refused k) front ts t f = loop_stop kind p S r E front ts k.now t f

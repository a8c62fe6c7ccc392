-- A part and what may stand behind it, as a whole list.
use Rattle.std.proofs.Common.{◌≡◌, List, [], ◌∷◌, Option, Result, Ok, Err, refl, ap, ◌∙◌}
use Rattle.std.specs.Result.{result_and}
use Rattle.grammar_forms.specs.Forms.{Reader, ReadOutcome, Read, Refused, and_then, only}
use Rattle.grammar_forms.specs.Parts.{first_of_two}
use Rattle.sql_tokens.specs.declared.kinds.Token.{Token}
use Rattle.sql_grammar.specs.Readers.{closed, closing, ended}
use Rattle.sql_reader.specs.Gives.{Fails, Gives}
use Rattle.sql_reader.specs.declared.cursor.ReadError.{ReadError}
use Rattle.sql_reader.specs.declared.cursor.ReadError.TheVariants as errors

abbrev end_of : ReadOutcome Token (Option (Unit {0})) → ReadOutcome Token (Unit {0})
end_of o = only (and_then o (λ y j. Read tt j))

abbrev read_unit : List Token → ReadOutcome Token (Unit {0})
read_unit j = Read tt j

module _ {A : Type 0} where
  -- the value, with what is found behind it
  abbrev with_value : A → ReadOutcome Token (Option (Unit {0})) → ReadOutcome Token A
  with_value x o = only (and_then o (λ y j. Read x j))

  ends : (x : A) (o : ReadOutcome Token (Option (Unit {0}))) → end_of o ≡ read_unit [] → with_value x o ≡ Read x []
  ends x (Read y []) e = refl
  ends x (Read y (t ∷ k)) e = cc
  ends x (Refused k) e = cc

  stops : (x : A) (o : ReadOutcome Token (Option (Unit {0}))) (j : List Token) → end_of o ≡ Refused j → with_value x o ≡ Refused j
  stops x (Read y []) j e = cc
  stops x (Read y (t ∷ k)) j e = let h : t ∷ k ≡ j = cc in ap Refused h
  stops x (Refused k) j e = let h : k ≡ j = cc in ap Refused h

  module _ (r : Reader Token A) (ts : List Token) where
    then_closing : (x : A) (k : List Token) → r ts ≡ Read x k → only (closed r ts) ≡ with_value x (closing k)
    then_closing x k e = ap (λ o. only (and_then o (λ z i. and_then (closing i) (λ y j. Read (first_of_two z y) j)))) e

    closed_read : (x : A) (k : List Token) → r ts ≡ Read x k → ended k ≡ read_unit [] → only (closed r ts) ≡ Read x []
    closed_read x k e h = then_closing x k e ∙ ends x (closing k) h

    end_fails : (stop : ReadError) (x : A) (k : List Token) → r ts ≡ Read x k → Fails stop (ended k) → Fails stop (only (closed r ts))
    end_fails errors.Memory x k e f = tt
    end_fails (errors.Refused j) x k e f = then_closing x k e ∙ stops x (closing k) j.now f

    pub part_fails : (stop : ReadError) → Fails stop (r ts) → Fails stop (only (closed r ts))
    part_fails errors.Memory f = tt
    part_fails (errors.Refused j) f = ap (λ o. only (and_then o (λ z i. and_then (closing i) (λ y j. Read (first_of_two z y) j)))) f

    -- a part that was read, and what was found behind it
    pub with_end : {X U : Type 0} (value : X → A) (y : X) (k : List Token) → r ts ≡ Read (value y) k → (found : Result U ReadError) → Gives (λ _. tt) (λ _. []) found (ended k) → Gives value (λ _. []) (result_and found (Ok y)) (only (closed r ts))
    with_end value y k e (Ok u) h = closed_read (value y) k e h
    with_end value y k e (Err stop) h = end_fails stop (value y) k e h

-- What a function of the code returned is what a reader finds, unless memory ran out.
use Rattle.std.specs.Prelude.{◌≡◌, List, Result, Ok, Err}
use Rattle.grammar_forms.specs.Forms.{ReadOutcome, Read, Refused}
use Rattle.sql_tokens.specs.declared.kinds.Token.{Token}
use Rattle.sql_reader.specs.declared.cursor.ReadError.{ReadError}
use Rattle.sql_reader.specs.declared.cursor.ReadError.TheVariants as errors

abbrev pub Fails : {A : Type 0} → ReadError → ReadOutcome Token A → Type 0
Fails errors.Memory o = Unit {0}
Fails (errors.Refused k) o = o ≡ Refused k.now

abbrev pub Gives : {X A : Type 0} → (X → A) → (X → List Token) → Result X ReadError → ReadOutcome Token A → Type 0
Gives value rest (Ok x) o = o ≡ Read (value x) (rest x)
Gives value rest (Err e) o = Fails e o

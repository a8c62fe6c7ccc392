-- The parts that most grammars have, said by the six forms: a word that only marks its place, one part behind another
-- where only one of them means something, a part that may be left out, parts with a separator between them, and
-- parts up to a number.
use Rattle.std.specs.Prelude.{true, false, ℕ, zero, suc, Bool, List, [], ◌∷◌, Option, Some, None}
use Rattle.grammar_forms.specs.Forms.{Spelling, Reader, One, one, Nothing, nothing, Both, both, Either, either, As, as_of, Many, many}

-- a token that passes the test, which means no more than that
abbrev pub passed : Bool → Option (Unit {0})
passed true = Some tt
passed false = None

abbrev pub kept : {T : Type 0} → (T → Bool) → T → Option (Unit {0})
kept p t = passed (p t)

abbrev pub Word : {T : Type 0} → (T → Bool) → Spelling T (Unit {0})
Word p = One (kept p)

abbrev pub word : {T : Type 0} → (T → Bool) → Reader T (Unit {0})
word p = one (kept p)

abbrev pub first_of_two : {A B : Type 0} → A → B → A
first_of_two x y = x

abbrev pub second_of_two : {A B : Type 0} → A → B → B
second_of_two x y = y

-- a word, and then a part, which means what the part means
abbrev pub After : {T A : Type 0} → (T → Bool) → Spelling T A → Spelling T A
After p S = Both second_of_two (Word p) S

abbrev pub after : {T A : Type 0} → (T → Bool) → Reader T A → Reader T A
after p r = both second_of_two (word p) r

-- a part, and then a word
abbrev pub Before : {T A : Type 0} → (T → Bool) → Spelling T A → Spelling T A
Before p S = Both first_of_two S (Word p)

abbrev pub before : {T A : Type 0} → (T → Bool) → Reader T A → Reader T A
before p r = both first_of_two r (word p)

-- a part that may be left out; the test is whether it begins
abbrev pub Optional : {T A : Type 0} → Spelling T A → Spelling T (Option A)
Optional S = Either (As Some S) (Nothing None)

abbrev pub optional : {T A : Type 0} → (T → Bool) → Reader T A → Reader T (Option A)
optional p r = either p (as_of Some r) (nothing None)

abbrev pub list_of : {A : Type 0} → A → List A → List A
list_of x xs = x ∷ xs

-- one part or more, with a word between every two
abbrev pub Separated : {T A : Type 0} → (T → Bool) → Spelling T A → Spelling T (List A)
Separated p S = Both list_of S (Many (After p S))

abbrev pub separated : {T A : Type 0} → (T → Bool) → Reader T A → Reader T (List A)
separated p r = both list_of r (many p (after p r))

-- at most n parts; the test is whether one begins
abbrev pub UpTo : {T A : Type 0} → ℕ → Spelling T A → Spelling T (List A)
UpTo zero S = Nothing []
UpTo (suc n) S = Either (Both list_of S (UpTo n S)) (Nothing [])

abbrev pub up_to : {T A : Type 0} → ℕ → (T → Bool) → Reader T A → Reader T (List A)
up_to zero p r = nothing []
up_to (suc n) p r = either p (both list_of r (up_to n p r)) (nothing [])

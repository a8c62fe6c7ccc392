-- A grammar says which token lists spell which values, and a reader says what is read at the front of a token list.
-- Both are built from the same six forms: one token, nothing, one part and then another, either of two, a part seen
-- as something else, and as many parts as come. The upper case word is the relation, the lower case word its reader.
use Rattle.std.specs.Prelude.{◌≡◌, ℕ, zero, suc, Bool, false, cond, ◌⊎◌, List, [], ◌∷◌, ◌++◌, length, Option, Some, None}

-- which values a list of tokens spells
abbrev pub Spelling : Type 0 → Type 0 → Type 1
Spelling T A = A → List T → Type 0

-- What a reader finds at the front of a list: a value and the tokens after it, or the tokens from the first one on
-- that cannot stand where it stands (none, where the list ends too early).
pub data ReadOutcome (T A : Type 0) : Type 0 where
  Read : A → List T → ReadOutcome T A
  Refused : List T → ReadOutcome T A

abbrev pub Reader : Type 0 → Type 0 → Type 0
Reader T A = List T → ReadOutcome T A

-- the next token is there, and passes the test
abbrev pub next_is : {T : Type 0} → (T → Bool) → List T → Bool
next_is p [] = false
next_is p (t ∷ ts) = p t

-- what is read goes on, with the value and the tokens after it
abbrev pub and_then : {T A B : Type 0} → ReadOutcome T A → (A → List T → ReadOutcome T B) → ReadOutcome T B
and_then (Read x k) f = f x k
and_then (Refused k) f = Refused k

-- One token, which means x.
abbrev pub One : {T A : Type 0} → (T → Option A) → Spelling T A
One {T} f x w = (t : T) × (f t ≡ Some x) × (w ≡ t ∷ [])

abbrev pub meant : {T A : Type 0} → Option A → T → List T → ReadOutcome T A
meant None t ts = Refused (t ∷ ts)
meant (Some x) t ts = Read x ts

abbrev pub one : {T A : Type 0} → (T → Option A) → Reader T A
one f [] = Refused []
one f (t ∷ ts) = meant (f t) t ts

-- No token, which means a.
abbrev pub Nothing : {T A : Type 0} → A → Spelling T A
Nothing a x w = (x ≡ a) × (w ≡ [])

abbrev pub nothing : {T A : Type 0} → A → Reader T A
nothing a ts = Read a ts

-- A part and then another, which together mean f of both.
abbrev pub Both : {T A B C : Type 0} → (A → B → C) → Spelling T A → Spelling T B → Spelling T C
Both {T} {A} {B} f S R z w = (x : A) × (y : B) × (u : List T) × (v : List T) × (z ≡ f x y) × (w ≡ u ++ v) × S x u × R y v

abbrev pub both : {T A B C : Type 0} → (A → B → C) → Reader T A → Reader T B → Reader T C
both f r s ts = and_then (r ts) (λ x k. and_then (s k) (λ y j. Read (f x y) j))

-- One of two parts: the reader takes the first where the next token passes the test.
abbrev pub Either : {T A : Type 0} → Spelling T A → Spelling T A → Spelling T A
Either S R x w = S x w ⊎ R x w

abbrev pub either : {T A : Type 0} → (T → Bool) → Reader T A → Reader T A → Reader T A
either p r s ts = cond (next_is p ts) (r ts) (s ts)

-- A part whose value x stands for f x.
abbrev pub As : {T A B : Type 0} → (A → B) → Spelling T A → Spelling T B
As {T} {A} f S y w = (x : A) × (y ≡ f x) × S x w

abbrev pub as_of : {T A B : Type 0} → (A → B) → Reader T A → Reader T B
as_of f r ts = and_then (r ts) (λ x k. Read (f x) k)

-- Parts one behind the other, as many as come: the reader goes on while the next token passes the test.
abbrev pub Many : {T A : Type 0} → Spelling T A → Spelling T (List A)
Many S [] w = w ≡ []
Many {T} S (x ∷ xs) w = (u : List T) × (v : List T) × (w ≡ u ++ v) × S x u × Many S xs v

abbrev pub many_within : {T A : Type 0} → ℕ → (T → Bool) → Reader T A → Reader T (List A)
many_within zero p r ts = Read [] ts
many_within (suc n) p r ts = cond (next_is p ts) (and_then (r ts) (λ x k. and_then (many_within n p r k) (λ xs j. Read (x ∷ xs) j))) (Read [] ts)

-- each part takes a token, so a list holds no more parts than tokens
unfoldable pub many : {T A : Type 0} → (T → Bool) → Reader T A → Reader T (List A)
many p r ts = many_within (length ts) p r ts

-- The whole list: a value with tokens behind it is refused at the first of those.
abbrev pub only : {T A : Type 0} → ReadOutcome T A → ReadOutcome T A
only (Read x []) = Read x []
only (Read x (t ∷ ts)) = Refused (t ∷ ts)
only (Refused ts) = Refused ts

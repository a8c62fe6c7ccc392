-- What makes a reader exact for a relation. At each list it either reads a value and the tokens that spell it, or
-- refuses at a place up to which the tokens begin a spelling; which of the two depends on no token beyond the next one.
-- What is spelled is read, unless the token behind it could carry it on. Beside that stand the kinds with which a
-- spelling begins, the kinds that may carry one on (both may name too many, never too few), whether nothing is a
-- spelling, and one value that is spelled.
use Rattle.std.specs.Prelude.{◌≡◌, ℕ, Bool, true, List, [], ◌∷◌, ◌++◌}
use Rattle.grammar_forms.specs.Forms.{Spelling, Reader, Read, Refused}
use Rattle.grammar_forms.specs.Kinds.{has, Stops}

-- both lists end, or both go on with the same token
abbrev pub Alike : {T : Type 0} → List T → List T → Type 0
Alike [] [] = Unit {0}
Alike [] (u ∷ us) = ⊥
Alike (t ∷ ts) [] = ⊥
Alike (t ∷ ts) (u ∷ us) = t ≡ u

pub data Run {T A : Type 0} (S : Spelling T A) (r : Reader T A) (ts : List T) : Type 0 where
  reads : (x : A) (w rest : List T) → ts ≡ w ++ rest → S x w → ((k : List T) → Alike rest k → r (w ++ k) ≡ Read x k) → Run S r ts
  refuses : (w rest : List T) (x : A) (v : List T) → ts ≡ w ++ rest → S x (w ++ v) → ((k : List T) → Alike rest k → r (w ++ k) ≡ Refused k) → Run S r ts

pub record Exact {T A : Type 0} (kind : T → ℕ) (S : Spelling T A) (r : Reader T A) (null : Bool) (first more : List ℕ) : Type 0 where
  pub run : (ts : List T) → Run S r ts
  pub complete : (x : A) (w k : List T) → S x w → Stops kind more k → r (w ++ k) ≡ Read x k
  pub empty : (x : A) → S x [] → null ≡ true
  pub begins : (x : A) (t : T) (w : List T) → S x (t ∷ w) → has first (kind t) ≡ true
  pub value : A
  pub shortest : List T
  pub is_spelled : S value shortest

-- exact, with some such sets
abbrev pub IsExact : {T A : Type 0} → (T → ℕ) → Spelling T A → Reader T A → Type 0
IsExact kind S r = (null : Bool) × (first : List ℕ) × (more : List ℕ) × Exact kind S r null first more

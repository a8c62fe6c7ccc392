-- Each token has a kind, a number. A set of kinds is a list of them, so that what a grammar owes for its seams (two
-- sets have no kind in common, one set lies within another) is a test that computes.
use Rattle.std.specs.Prelude.{◌≡◌, ℕ, Bool, true, false, cond, List, [], ◌∷◌, nat_eq}
use Rattle.grammar_forms.specs.Forms.{next_is}

abbrev pub has : List ℕ → ℕ → Bool
has [] n = false
has (k ∷ ks) n = cond (nat_eq n k) true (has ks n)

-- a token's kind is of the set
abbrev pub of : {T : Type 0} → (T → ℕ) → List ℕ → T → Bool
of kind ks t = has ks (kind t)

-- the second set, where there is a reason for it
abbrev pub when : Bool → List ℕ → List ℕ
when true ks = ks
when false ks = []

-- no kind is of both
abbrev pub apart : List ℕ → List ℕ → Bool
apart ks [] = true
apart ks (j ∷ js) = cond (has ks j) false (apart ks js)

-- each kind of the first is of the second
abbrev pub within : List ℕ → List ℕ → Bool
within [] js = true
within (k ∷ ks) js = cond (has js k) (within ks js) false

-- the next token, if there is one, is of none of these kinds
abbrev pub Stops : {T : Type 0} → (T → ℕ) → List ℕ → List T → Type 0
Stops kind more k = next_is (of kind more) k ≡ false

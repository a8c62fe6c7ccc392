-- What is said of a spelling, whatever it spells.
use Rattle.std.specs.Prelude.{◌≡◌, ℕ, List, ◌++◌}

-- the bytes of what has a spelling tell it, and what stands behind them
abbrev pub Tells : {A : Type 0} → (A → List ℕ) → (A → Type 0) → Type 0
Tells {A = A} code Has = (v w : A) (ps qs : List ℕ) → Has v → Has w → code v ++ ps ≡ code w ++ qs → (v ≡ w) × (ps ≡ qs)

-- no such bytes stand at the front
abbrev pub Lacks : {A : Type 0} → (A → List ℕ) → (A → Type 0) → List ℕ → Type 0
Lacks {A = A} code Has bytes = (v : A) (rest : List ℕ) → Has v → code v ++ rest ≡ bytes → ⊥

-- the bytes of a value that has a spelling stand there, before a rest
abbrev pub Begins : {A : Type 0} → (A → List ℕ) → (A → Type 0) → A → List ℕ → List ℕ → Type 0
Begins code Has v rest bytes = Has v × (code v ++ rest ≡ bytes)

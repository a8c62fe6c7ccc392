-- Walks over the cells of one page.
use Rattle.std.proofs.Common.{◌≡◌, ℕ, zero, suc, ◌<◌, List, [], ◌∷◌, length, drop, Some, Result, Ok, Err, refl, sym, ap, subst, arith}
use Rattle.std.specs.List.{slice_get}
use Rattle.std.specs.Result.{MatchResult, IfOk, IsErrAnd}

-- the item at a place, and those behind it
pub drop_here : {X : Type 0} (xs : List X) (i : ℕ) (x : X) → slice_get xs i ≡ Some x → drop i xs ≡ x ∷ drop (suc i) xs
drop_here [] i x h = cc
drop_here (y ∷ ys) zero x h = let e : y ≡ x = cc in ap (λ z. z ∷ ys) e
drop_here (y ∷ ys) (suc i) x h = drop_here ys i x h

-- the item at a place below the length
pub cell_at : (cells : List (List ℕ)) (i : ℕ) → i < length cells → (c : List ℕ) × (slice_get cells i ≡ Some c)
cell_at [] i h = absurd (none i h)
  where
    none : (i : ℕ) → i < 0 → ⊥
    none i h = omega arith
cell_at (c ∷ cs) zero h = (c, refl)
cell_at (c ∷ cs) (suc i) h = cell_at cs i (omega arith)

-- another error leaves an `Ok` as it is
pub ok_through : {T E F : Type 0} (r : Result T E) (s : Result T F) (Q : E → F → Type 0) (P : T → Type 0)
    → MatchResult r (λ x. s ≡ Ok x) (λ e. IsErrAnd s (Q e)) → IfOk r P → IfOk s P
ok_through {T} {E} {F} (Ok x) s Q P same h = subst (λ (t : Result T F). IfOk t P) (sym same) h
ok_through (Err e) (Ok y) Q P wrong h = absurd wrong
ok_through (Err e) (Err f) Q P same h = tt

-- an `Ok` behind another error was one before it
pub ok_before : {T E F : Type 0} (r : Result T E) (s : Result T F) (Q : E → F → Type 0) (y : T)
    → MatchResult r (λ x. s ≡ Ok x) (λ e. IsErrAnd s (Q e)) → s ≡ Ok y → r ≡ Ok y
ok_before (Ok x) s Q y same h = let e : x ≡ y = cc in ap Ok e
ok_before {T} {E} {F} (Err e) s Q y wrong h = absurd (subst (λ (t : Result T F). IsErrAnd t (Q e)) h wrong)

-- what holds of an `Ok` holds of what it has
pub if_ok : {T E : Type 0} (r : Result T E) (x : T) (P : T → Type 0) → IfOk r P → r ≡ Ok x → P x
if_ok {T} {E} r x P h is = subst (λ (s : Result T E). IfOk s P) is h

-- Small facts on tests, options and the front of a list that passes a test.
use Rattle.std.proofs.Common.{◌≡◌, ℕ, ◌+◌, Bool, true, false, cond, List, [], ◌∷◌, ◌++◌, length, take, drop, Option, Some, None, refl, sym, ◌∙◌, ap, subst, arith, option_map, inl, inr, ◌⊎◌, eqb, eqb-true, suc}
use Rattle.std.specs.List.{prefix_len, take_while}
use Rattle.std.proofs.lemmas.List.Sums.{take_while-cons}
use Rattle.std.proofs.Math.Seq.{drop-append_seam}
use Rattle.sql_tokens.specs.Letters.{next_is, Each}

pub bool_cases : (v : Bool) → (v ≡ true) ⊎ (v ≡ false)
bool_cases true = inl refl
bool_cases false = inr refl

pub never_both : {P : Type 0} (v : Bool) → v ≡ true → v ≡ false → P
never_both v h k = let e : true ≡ false = sym h ∙ k in cc

-- the value from which an option was mapped
pub record IsMapped {A B : Type 0} (f : A → B) (o : Option A) (y : B) : Type 0 where
  pub from : A
  pub there : o ≡ Some from
  pub made : y ≡ f from

pub mapped : {A B : Type 0} (f : A → B) (o : Option A) (y : B) → option_map f o ≡ Some y → IsMapped f o y
mapped f None y h = cc
mapped f (Some x) y h = record { from = x; there = refl; made = (cc) }

-- a choice between two options by whether two numbers are equal
pub either_way : {A P : Type 0} (a k : ℕ) (x y : Option A) (s : A) → (a ≡ k → x ≡ Some s → P) → (y ≡ Some s → P) → cond (eqb a k) x y ≡ Some s → P
either_way a k x y s f g h = elim (bool_cases (eqb a k)) [ inl e ↦ f (eqb-true a k e) (subst (λ v. cond v x y ≡ Some s) e h) | inr e ↦ g (subst (λ v. cond v x y ≡ Some s) e h) ]

-- the front of a list that passes a test
pub front_passes : (p : ℕ → Bool) (bs : List ℕ) → Each p (take (prefix_len p bs) bs)
front_passes p [] = tt
front_passes p (b ∷ bs) = subst (λ xs. Each p xs) (sym (take_while-cons p b bs)) (go (p b) refl (front_passes p bs))
  where
    go : (v : Bool) → p b ≡ v → Each p (take (prefix_len p bs) bs) → Each p (cond v (b ∷ take_while p bs) [])
    go true e h = (e, h)
    go false e h = tt

-- and what stands behind it
pub behind_front : (p : ℕ → Bool) (b : ℕ) (bs : List ℕ) → drop (prefix_len p (b ∷ bs)) (b ∷ bs) ≡ cond (p b) (drop (prefix_len p bs) bs) (b ∷ bs)
behind_front p b bs = go (p b)
  where
    go : (v : Bool) → drop (cond v (1 + prefix_len p bs) 0) (b ∷ bs) ≡ cond v (drop (prefix_len p bs) bs) (b ∷ bs)
    go true = let e : 1 + prefix_len p bs ≡ suc (prefix_len p bs) = omega arith in ap (λ n. drop n (b ∷ bs)) e
    go false = refl

pub front_ends : (p : ℕ → Bool) (bs : List ℕ) → next_is p (drop (prefix_len p bs) bs) ≡ false
front_ends p [] = refl
front_ends p (b ∷ bs) = ap (next_is p) (behind_front p b bs) ∙ go (p b) refl (front_ends p bs)
  where
    go : (v : Bool) → p b ≡ v → next_is p (drop (prefix_len p bs) bs) ≡ false → next_is p (cond v (drop (prefix_len p bs) bs) (b ∷ bs)) ≡ false
    go true e h = h
    go false e h = e

-- bytes that pass, before one that does not, are the front
pub front_is : (p : ℕ → Bool) (w rest : List ℕ) → Each p w → next_is p rest ≡ false → prefix_len p (w ++ rest) ≡ length w
front_is p [] [] a e = refl
front_is p [] (b ∷ bs) a e = ap (λ v. cond v (1 + prefix_len p bs) 0) e
front_is p (b ∷ w) rest a e = ap (λ v. cond v (1 + prefix_len p (w ++ rest)) 0) a.0 ∙ (let h : prefix_len p (w ++ rest) ≡ length w = front_is p w rest a.1 e in omega arith)

-- the first byte of a front that is not empty passes
pub front_begins : (p : ℕ → Bool) (b : ℕ) (bs : List ℕ) → p b ≡ true → take (prefix_len p (b ∷ bs)) (b ∷ bs) ≡ b ∷ take (prefix_len p bs) bs
front_begins p b bs h = take_while-cons p b bs ∙ ap (λ v. cond v (b ∷ take_while p bs) []) h

pub cancel_front : (w v rest after : List ℕ) → length w ≡ length v → w ++ rest ≡ v ++ after → rest ≡ after
cancel_front w v rest after l e = sym (drop-append_seam w rest) ∙ (ap (λ n. drop n (w ++ rest)) l ∙ (ap (drop (length v)) e ∙ drop-append_seam v after))

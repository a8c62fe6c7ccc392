-- Escaped bytes and their end.
use Rattle.std.proofs.Common.{◌≡◌, ℕ, zero, suc, List, [], ◌∷◌, ◌++◌, refl, sym, ap, ◌∙◌, append_assoc, arith}
use Rattle.std.specs.Ordering.{nat_cmp, ordering_then}
use Rattle.key_code.specs.Codes.{escaped, ended}
use Rattle.key_code.specs.Reads.{IsDead}
use Rattle.key_code.proofs.NumberLaws.{byte_order, less, greater, then_assoc}

-- escaped bytes with their end tell the bytes and what is behind them
pub escaped_tells : (t u ps qs : List ℕ) → escaped t ++ (0 ∷ 0 ∷ ps) ≡ escaped u ++ (0 ∷ 0 ∷ qs) → (t ≡ u) × (ps ≡ qs)
escaped_tells [] [] ps qs h = (refl, cc)
escaped_tells [] (zero ∷ u) ps qs h = let e : ◌≡◌ {A = ℕ} 0 255 = cc in absurd (omega arith)
escaped_tells [] (suc b ∷ u) ps qs h = let e : 0 ≡ suc b = cc in absurd (omega arith)
escaped_tells (zero ∷ t) [] ps qs h = let e : ◌≡◌ {A = ℕ} 255 0 = cc in absurd (omega arith)
escaped_tells (suc a ∷ t) [] ps qs h = let e : suc a ≡ 0 = cc in absurd (omega arith)
escaped_tells (zero ∷ t) (zero ∷ u) ps qs h =
    let both = escaped_tells t u ps qs (cc) in (ap (λ l. 0 ∷ l) both.0, both.1)
escaped_tells (zero ∷ t) (suc b ∷ u) ps qs h = let e : 0 ≡ suc b = cc in absurd (omega arith)
escaped_tells (suc a ∷ t) (zero ∷ u) ps qs h = let e : suc a ≡ 0 = cc in absurd (omega arith)
escaped_tells (suc a ∷ t) (suc b ∷ u) ps qs h =
    let first : suc a ≡ suc b = cc in
    let both = escaped_tells t u ps qs (cc) in
    (ap (λ x. x ∷ t) first ∙ ap (λ l. suc b ∷ l) both.0, both.1)

-- escaped bytes with their end keep the order of the bytes
pub escaped_order : (t u ps qs : List ℕ)
    → byte_order (escaped t ++ (0 ∷ 0 ∷ ps)) (escaped u ++ (0 ∷ 0 ∷ qs)) ≡ ordering_then (byte_order t u) (byte_order ps qs)
escaped_order [] [] ps qs = refl
escaped_order [] (zero ∷ u) ps qs = refl
escaped_order [] (suc b ∷ u) ps qs = ap (λ o. ordering_then o (byte_order (0 ∷ ps) (escaped u ++ (0 ∷ 0 ∷ qs)))) (less 0 (suc b) (omega arith))
escaped_order (zero ∷ t) [] ps qs = refl
escaped_order (suc a ∷ t) [] ps qs = ap (λ o. ordering_then o (byte_order (escaped t ++ (0 ∷ 0 ∷ ps)) (0 ∷ qs))) (greater (suc a) 0 (omega arith))
escaped_order (zero ∷ t) (zero ∷ u) ps qs = escaped_order t u ps qs
escaped_order (zero ∷ t) (suc b ∷ u) ps qs = let e = less 0 (suc b) (omega arith) in rw e refl
escaped_order (suc a ∷ t) (zero ∷ u) ps qs = let e = greater (suc a) 0 (omega arith) in rw e refl
escaped_order (suc a ∷ t) (suc b ∷ u) ps qs =
    ap (ordering_then (nat_cmp (suc a) (suc b))) (escaped_order t u ps qs)
    ∙ sym (then_assoc (nat_cmp (suc a) (suc b)) (byte_order t u) (byte_order ps qs))

-- one byte in front
pub escaped-cons : (b : ℕ) (bs : List ℕ) → escaped (b ∷ bs) ≡ escaped (b ∷ []) ++ escaped bs
escaped-cons zero bs = refl
escaped-cons (suc b) bs = refl

pub escaped-zero : (b : ℕ) → b ≡ 0 → escaped (b ∷ []) ≡ b ∷ 255 ∷ []
escaped-zero b h = rw h refl

pub escaped-other : (b : ℕ) → (b ≡ 0 → ⊥) → escaped (b ∷ []) ≡ b ∷ []
escaped-other zero h = absurd (h refl)
escaped-other (suc b) h = refl

-- escaped bytes go by parts
pub escaped-append : (xs ys : List ℕ) → escaped (xs ++ ys) ≡ escaped xs ++ escaped ys
escaped-append [] ys = refl
escaped-append (zero ∷ xs) ys = ap (λ l. 0 ∷ 255 ∷ l) (escaped-append xs ys)
escaped-append (suc b ∷ xs) ys = ap (λ l. suc b ∷ l) (escaped-append xs ys)

-- bytes at which nothing goes on are no end of escaped bytes
pub dead : (t u rest ps : List ℕ) → IsDead rest → escaped t ++ rest ≡ escaped u ++ (0 ∷ 0 ∷ ps) → ⊥
dead [] [] rest ps d h = d.no_end ps h
dead [] (zero ∷ u) rest ps d h = d.no_zero (escaped u ++ (0 ∷ 0 ∷ ps)) h
dead [] (suc b ∷ u) rest ps d h = d.no_other b (escaped u ++ (0 ∷ 0 ∷ ps)) h
dead (zero ∷ t) [] rest ps d h = let e : ◌≡◌ {A = ℕ} 255 0 = cc in omega arith
dead (suc a ∷ t) [] rest ps d h = let e : suc a ≡ 0 = cc in omega arith
dead (zero ∷ t) (zero ∷ u) rest ps d h = dead t u rest ps d (cc)
dead (zero ∷ t) (suc b ∷ u) rest ps d h = let e : 0 ≡ suc b = cc in omega arith
dead (suc a ∷ t) (zero ∷ u) rest ps d h = let e : suc a ≡ 0 = cc in omega arith
dead (suc a ∷ t) (suc b ∷ u) rest ps d h = dead t u rest ps d (cc)

-- a reader's step over one byte
pub read_more : (t after rest bytes : List ℕ) (b : ℕ) → escaped (b ∷ []) ++ after ≡ rest → escaped t ++ rest ≡ bytes
    → escaped (t ++ b ∷ []) ++ after ≡ bytes
read_more t after rest bytes b one so_far =
    ap (λ l. l ++ after) (escaped-append t (b ∷ [])) ∙ append_assoc (escaped t) (escaped (b ∷ [])) after
    ∙ ap (λ l. escaped t ++ l) one ∙ so_far

-- a reader at the end
pub read_end : (t after rest bytes : List ℕ) → 0 ∷ 0 ∷ after ≡ rest → escaped t ++ rest ≡ bytes → ended t ++ after ≡ bytes
read_end t after rest bytes here so_far = append_assoc (escaped t) (0 ∷ 0 ∷ []) after ∙ ap (λ l. escaped t ++ l) here ∙ so_far

-- a reader that cannot go on
pub read_dead : (t rest bytes : List ℕ) → IsDead rest → escaped t ++ rest ≡ bytes → (u ps : List ℕ) → ended u ++ ps ≡ bytes → ⊥
read_dead t rest bytes d so_far u ps h =
    dead t u rest ps d (so_far ∙ sym h ∙ append_assoc (escaped u) (0 ∷ 0 ∷ []) ps)

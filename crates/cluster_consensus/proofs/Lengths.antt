-- A generation and a length name one log.
use Rattle.std.proofs.Common.{◌≡◌, ℕ, ◌<◌, ◌≤◌, List, [], ◌∷◌, length, take, arith, refl, ap, sym, subst, ◌∙◌}
use Rattle.std.proofs.lemmas.Bool.Decides.{nat_tests}
use Rattle.std.specs.Prelude.{◌==◌, ◌&&◌, leb, zero, suc, Bool, true, false, cond, Some, None}
use mathlib.Core.Logic.{◌⊎◌, inl, inr}
use Rattle.cluster_consensus.proofs.Generations.{comparable}
use Rattle.cluster_consensus.proofs.Invariant.{Inv}
use Rattle.cluster_consensus.specs.Facts.{Claim, World}
use Rattle.cluster_consensus.specs.Shipped.{find_ship, either_of, find_log}
use Rattle.core_lists.proofs.Fronts.{front_trans, front_length, front_take, front_same, front_shorter, length_take, take_length}
use Rattle.core_lists.proofs.Numbers.{lt_or_eq}
use Rattle.core_lists.specs.Fronts.{Front}
use Rattle.core_lists.specs.Lists.{In, Each, Has}
use Rattle.core_lists.specs.Lists.In.{here, there}

-- where all logs that could be found have one front, and there is one, that front is found
abbrev pub Agrees : {E : Type 0} → ℕ → ℕ → List E → List (Claim E) → Type 0
Agrees g n l cs = Each (λ c. c.gen ≡ g → n ≤ length c.log → take n c.log ≡ l) cs

tail_of : {E : Type 0} {P : Claim E → Type 0} {c : Claim E} {cs : List (Claim E)} → Each P (c ∷ cs) → Each P cs
tail_of e = record { at = λ x h. e.at x (there h) }

pub passes : (a g n m : ℕ) → (a == g && leb n m) ≡ true → (a ≡ g) × (n ≤ m)
passes a g n m h = grind (arith, nat_tests)

fails : (a g n m : ℕ) → (a == g && leb n m) ≡ false → a ≡ g → n ≤ m → ⊥
fails a g n m h e le = grind (arith, nat_tests)

ship_here : {E : Type 0} (g n : ℕ) (l : List E) (cs : List (Claim E)) → Agrees g n l cs → Has (λ c. (c.gen ≡ g) × (n ≤ length c.log)) cs → find_ship g n cs ≡ Some l
ship_here g n l [] all h = elim h.mem [ ]
ship_here {E} g n l (c ∷ cs) all h = go (c.gen == g && leb n (length c.log)) refl (λ a b. ship_here g n l cs a b)
  where
    rest : (x : Claim E) → In x (c ∷ cs) → (c.gen == g && leb n (length c.log)) ≡ false → x.gen ≡ g → n ≤ length x.log → Has (λ c. (c.gen ≡ g) × (n ≤ length c.log)) cs
    rest x here f e le = absurd (fails c.gen g n (length c.log) f e le)
    rest x (there m) f e le = record { it = x; mem = m; is = (e, le) }

    go : (b : Bool) → (c.gen == g && leb n (length c.log)) ≡ b → (Agrees g n l cs → Has (λ c. (c.gen ≡ g) × (n ≤ length c.log)) cs → find_ship g n cs ≡ Some l) → cond b (Some (take n c.log)) (find_ship g n cs) ≡ Some l
    go true e again = let p = passes c.gen g n (length c.log) e in ap Some (all.at c here p.0 p.1)
    go false e again = again (tail_of all) (rest h.it h.mem e h.is.0 h.is.1)

ship_none : {E : Type 0} (g n : ℕ) (l : List E) (cs : List (Claim E)) → Agrees g n l cs → (find_ship g n cs ≡ None) ⊎ (find_ship g n cs ≡ Some l)
ship_none g n l [] all = inl refl
ship_none {E} g n l (c ∷ cs) all = go (c.gen == g && leb n (length c.log)) refl (ship_none g n l cs (tail_of all))
  where
    go : (b : Bool) → (c.gen == g && leb n (length c.log)) ≡ b → (find_ship g n cs ≡ None) ⊎ (find_ship g n cs ≡ Some l) → (cond b (Some (take n c.log)) (find_ship g n cs) ≡ None) ⊎ (cond b (Some (take n c.log)) (find_ship g n cs) ≡ Some l)
    go true e again = let p = passes c.gen g n (length c.log) e in inr (ap Some (all.at c here p.0 p.1))
    go false e again = again

log_here : {E : Type 0} (w : World E) (g n : ℕ) (l : List E) → ((j : ℕ) → Agrees g n l (w.nodes j).ships) → (k m : ℕ) → 0 < m → m ≤ k → Has (λ c. (c.gen ≡ g) × (n ≤ length c.log)) (w.nodes m).ships → find_log w g n k ≡ Some l
log_here w g n l all zero m pos lt h = absurd (omega arith)
log_here {E} w g n l all (suc k) m pos lt h = go (lt_or_eq m (suc k) (omega arith)) (λ q. log_here w g n l all k m pos q h)
  where
    first : find_ship g n (w.nodes (suc k)).ships ≡ Some l → either_of (find_ship g n (w.nodes (suc k)).ships) (find_log w g n k) ≡ Some l
    first e = ap (λ x. either_of x (find_log w g n k)) e

    second : (find_ship g n (w.nodes (suc k)).ships ≡ None) ⊎ (find_ship g n (w.nodes (suc k)).ships ≡ Some l) → find_log w g n k ≡ Some l → either_of (find_ship g n (w.nodes (suc k)).ships) (find_log w g n k) ≡ Some l
    second (inl e) r = ap (λ x. either_of x (find_log w g n k)) e ∙ r
    second (inr e) r = first e

    go : (m < suc k) ⊎ (m ≡ suc k) → (m ≤ k → find_log w g n k ≡ Some l) → either_of (find_ship g n (w.nodes (suc k)).ships) (find_log w g n k) ≡ Some l
    go (inl q) again = second (ship_none g n l (w.nodes (suc k)).ships (all (suc k))) (again (omega arith))
    go (inr q) again = first (ship_here g n l (w.nodes (suc k)).ships (all (suc k)) (subst (λ j. Has (λ c. (c.gen ≡ g) × (n ≤ length c.log)) (w.nodes j).ships) q h))

-- the front of a shipped log is found by its generation and length alone
pub front_found : {E : Type 0} {n : ℕ} {w : World E} → Inv n w → (g m k : ℕ) (s : Claim E) (l : List E) → In s (w.nodes m).ships → s.gen ≡ g → Front l s.log → 0 < m → m ≤ k → find_log w g (length l) k ≡ Some l
front_found {E} {n} {w} inv g m k s l hs sg p pos lt = log_here w g (length l) l all k m pos lt (record { it = s; mem = hs; is = (sg, front_length p) })
  where
    same : (c : Claim E) → length l ≤ length c.log → Front s.log c.log ⊎ Front c.log s.log → take (length l) c.log ≡ l
    same c long (inl q) = let a = length_take (length l) c.log in let b = take_length (length l) c.log long in front_same (front_shorter (front_take (length l) c.log) (front_trans p q) (omega arith)) (omega arith)
    same c long (inr q) = let a = length_take (length l) c.log in let b = take_length (length l) c.log long in front_same (front_shorter (front_trans (front_take (length l) c.log) q) p (omega arith)) (omega arith)

    all : (j : ℕ) → Agrees g (length l) l (w.nodes j).ships
    all j = record { at = λ c hc cg long. same c long (comparable inv m j s c ((inv.local m).ships.at s hs).1 ((inv.local j).ships.at c hc).1 (sg ∙ sym cg)) }

-- The actors that are dealt.
use Rattle.std.proofs.Common.{◌≡◌, ℕ, zero, suc, ◌+◌, ◌<◌, ◌≤◌, ◌⊎◌, inl, inr, List, [], ◌∷◌, ◌++◌, sym, refl, ap, subst, arith}
use Rattle.std.specs.Prelude.{◌==◌, Bool, true, false}
use Rattle.std.proofs.lemmas.Bool.Decides.{Decides-eqb}
use Rattle.actor_trace.specs.Lists.In.{here, there}
use Rattle.actor_trace.proofs.Entries.{not_eq}
use Rattle.actor_trace.specs.Actors.{IsBlank, Knows, fresh}
use Rattle.actor_trace.specs.History.{entries_of}
use Rattle.actor_trace.specs.Lists.{In, deal, times}
use Rattle.actor_trace.proofs.Totals.{in_append}

pub deal_fits : {E : Type 0} (a : ℕ) (xs : List (ℕ × E)) (k m n : ℕ) → k + m ≤ n → In {A = ℕ × List (ℕ × E)} (a, xs) (deal k m) → (a < n) × (xs ≡ entries_of {E = E} a [])
deal_fits a xs k zero n le m = elim m [ ]
deal_fits a xs k (suc i) n le here = (omega arith, refl)
deal_fits a xs k (suc i) n le (there m) = deal_fits a xs (suc k) i n (omega arith) m

deal_below : (B : Type 0) (a k m : ℕ) → a < k → times a (deal {B = B} k m) ≡ 0
deal_below B a k zero lt = refl
deal_below B a k (suc m) lt = let r : times a (deal {B = B} (suc k) m) ≡ 0 = deal_below B a (suc k) m (omega arith) in rw (not_eq a k (λ q. omega arith)) (omega arith)

pub deal_once : (B : Type 0) (a k m : ℕ) → times a (deal {B = B} k m) ≤ 1
deal_once B a k zero = omega arith
deal_once B a k (suc m) = go (deal_once B a (suc k) m) (a == k) refl
  where
    go : times a (deal {B = B} (suc k) m) ≤ 1 → (t : Bool) → (a == k) ≡ t → times a (deal {B = B} k (suc m)) ≤ 1
    go r true e = let q : a ≡ k = (Decides-eqb a k).0 e in let z : times a (deal {B = B} (suc k) m) ≡ 0 = deal_below B a (suc k) m (omega arith) in rw e (omega arith)
    go r false e = rw e (omega arith)

pub in_one : {A : Type 0} (x y : A) → In x (y ∷ []) → x ≡ y
in_one x y here = refl
in_one x y (there m) = elim m [ ]

pub fresh_blank : {E : Type 0} (n : ℕ) (x : Knows E) → In x (fresh n) → x.seen ≡ []
fresh_blank zero x m = elim m [ ]
fresh_blank {E} (suc n) x m = go (λ k. fresh_blank n x k) (in_append x (fresh n) (record { number = n; made = []; seen = []; room = 0 } ∷ []) m)
  where
    go : (In x (fresh {E = E} n) → x.seen ≡ []) → In x (fresh {E = E} n) ⊎ In x (record { number = n; made = []; seen = []; room = 0 } ∷ []) → x.seen ≡ []
    go r (inl k) = r k
    go r (inr k) = ap (λ (y : Knows E). y.seen) (in_one x (record { number = n; made = []; seen = []; room = 0 }) k)

pub blank_front : {E : Type 0} (xs ys zs : List (Knows E)) → IsBlank xs → xs ≡ ys ++ zs → IsBlank ys
blank_front xs ys zs b e = record { seen = λ x m. b.seen x (subst (λ t. In x t) (sym e) (left ys zs x m)) }
  where
    left : {A : Type 0} (ys zs : List A) (x : A) → In x ys → In x (ys ++ zs)
    left [] zs x m = elim m [ ]
    left (y ∷ ys) zs x here = here
    left (y ∷ ys) zs x (there m) = there (left ys zs x m)

-- What one actor did in a history.
use Rattle.std.proofs.Common.{◌≡◌, ℕ, zero, suc, ◌+◌, ◌*◌, ◌<◌, ◌≤◌, ◌≢◌, List, [], ◌∷◌, ◌++◌, length, sym, refl, ap, subst, ◌∙◌, arith, length-append, suc-mul}
use Rattle.std.specs.Prelude.{◌==◌, Bool, true, false, cond}
use Rattle.std.proofs.lemmas.Bool.Decides.{Decides-eqb}
use Rattle.actor_trace.specs.History.{AllBelow, entries_of, parts_after}
use Rattle.actor_trace.specs.Lists.{Begins}
use Rattle.actor_trace.specs.Steps.{Adds, Rests}
use Rattle.actor_trace.proofs.Totals.{eq_self}

pub not_eq : (a b : ℕ) → a ≢ b → (a == b) ≡ false
not_eq a b n = go (a == b) refl
  where
    go : (t : Bool) → (a == b) ≡ t → (a == b) ≡ false
    go true e = absurd (n ((Decides-eqb a b).0 e))
    go false e = e

pub entries_same : {E : Type 0} (a : ℕ) (e : E) (h : List (ℕ × E)) → entries_of a ((a, e) ∷ h) ≡ entries_of a h ++ (length h, e) ∷ []
entries_same a e h = rw (eq_self a) refl

pub entries_else : {E : Type 0} (a b : ℕ) (e : E) (h : List (ℕ × E)) → a ≢ b → entries_of a ((b, e) ∷ h) ≡ entries_of a h
entries_else a b e h n = rw (not_eq a b n) refl

pub entries_more : {E : Type 0} (a : ℕ) (later h : List (ℕ × E)) → length (entries_of a h) ≤ length (entries_of a (later ++ h))
entries_more a [] h = omega arith
entries_more {E} a (x ∷ later) h = go (entries_more a later h) (a == x.0) refl
  where
    go : length (entries_of a h) ≤ length (entries_of a (later ++ h)) → (t : Bool) → (a == x.0) ≡ t → length (entries_of a h) ≤ length (entries_of a ((x ∷ later) ++ h))
    go r true e = let l : length (entries_of a (later ++ h) ++ (length (later ++ h), x.1) ∷ []) ≡ length (entries_of a (later ++ h)) + 1 = length-append (entries_of a (later ++ h)) _ in rw e (omega arith)
    go r false e = rw e r

-- where an actor did nothing since, its part is as it was
pub idle_part : {P E : Type 0} (change : ℕ → P → E → P) (start : ℕ → P) (a : ℕ) (later h : List (ℕ × E))
    → entries_of a (later ++ h) ≡ entries_of a h → parts_after change start (later ++ h) a ≡ parts_after change start h a
idle_part change start a [] h e = refl
idle_part {P} {E} change start a (x ∷ later) h e = go (λ s. idle_part change start a later h s) (a == x.0) refl
  where
    all : List (ℕ × E)
    all = later ++ h

    go : (entries_of a all ≡ entries_of a h → parts_after change start all a ≡ parts_after change start h a) → (t : Bool) → (a == x.0) ≡ t → parts_after change start ((x ∷ later) ++ h) a ≡ parts_after change start h a
    go r true d =
        let s : entries_of a all ++ (length all, x.1) ∷ [] ≡ entries_of a h = subst (λ b. cond b (entries_of a all ++ (length all, x.1) ∷ []) (entries_of a all) ≡ entries_of a h) d e in
        let l : length (entries_of a all ++ (length all, x.1) ∷ []) ≡ length (entries_of a all) + 1 = length-append (entries_of a all) _ in
        let k : length (entries_of a all ++ (length all, x.1) ∷ []) ≡ length (entries_of a h) = ap length s in
        let m : length (entries_of a h) ≤ length (entries_of a all) = entries_more a later h in
        absurd (omega arith)
    go r false d =
        let s : entries_of a all ≡ entries_of a h = subst (λ b. cond b (entries_of a all ++ (length all, x.1) ∷ []) (entries_of a all) ≡ entries_of a h) d e in
        rw d (r s)

-- who did nothing since did not do the last event, and nothing before it since
pub idle_step : {E : Type 0} (a : ℕ) (x : ℕ × E) (later h : List (ℕ × E)) → entries_of a ((x ∷ later) ++ h) ≡ entries_of a h → (a ≢ x.0) × (entries_of a (later ++ h) ≡ entries_of a h)
idle_step {E} a x later h e = go (a == x.0) refl
  where
    all : List (ℕ × E)
    all = later ++ h

    go : (t : Bool) → (a == x.0) ≡ t → (a ≢ x.0) × (entries_of a all ≡ entries_of a h)
    go true d =
        let s : entries_of a all ++ (length all, x.1) ∷ [] ≡ entries_of a h = subst (λ b. cond b (entries_of a all ++ (length all, x.1) ∷ []) (entries_of a all) ≡ entries_of a h) d e in
        let l : length (entries_of a all ++ (length all, x.1) ∷ []) ≡ length (entries_of a all) + 1 = length-append (entries_of a all) _ in
        let k : length (entries_of a all ++ (length all, x.1) ∷ []) ≡ length (entries_of a h) = ap length s in
        let m : length (entries_of a h) ≤ length (entries_of a all) = entries_more a later h in
        absurd (omega arith)
    go false d = (
      λ q. absurd (cc (d, (Decides-eqb a x.0).1 q)),
      subst (λ b. cond b (entries_of a all ++ (length all, x.1) ∷ []) (entries_of a all) ≡ entries_of a h) d e,
    )

-- how many events the actors from 0 to n - 1 have
abbrev pub sum_to : {E : Type 0} → ℕ → List (ℕ × E) → ℕ
sum_to zero h = 0
sum_to (suc n) h = length (entries_of n h) + sum_to n h

sum_nil : (E : Type 0) (n : ℕ) → sum_to {E = E} n [] ≡ 0
sum_nil E zero = refl
sum_nil E (suc n) = let r : sum_to {E = E} n [] ≡ 0 = sum_nil E n in omega arith

sum_else : {E : Type 0} (n : ℕ) (a : ℕ) (e : E) (h : List (ℕ × E)) → n ≤ a → sum_to n ((a, e) ∷ h) ≡ sum_to n h
sum_else zero a e h le = refl
sum_else (suc n) a e h le =
    let ne : n ≢ a = λ q. omega arith in
    let s : length (entries_of n ((a, e) ∷ h)) ≡ length (entries_of n h) = ap length (entries_else n a e h ne) in
    let r : sum_to n ((a, e) ∷ h) ≡ sum_to n h = sum_else n a e h (omega arith) in omega arith

sum_more : {E : Type 0} (n : ℕ) (a : ℕ) (e : E) (h : List (ℕ × E)) → a < n → sum_to n ((a, e) ∷ h) ≡ sum_to n h + 1
sum_more zero a e h lt = absurd (omega arith)
sum_more {E} (suc n) a e h lt = go (λ l. sum_more n a e h l) (n == a) refl
  where
    go : (a < n → sum_to n ((a, e) ∷ h) ≡ sum_to n h + 1) → (t : Bool) → (n == a) ≡ t → sum_to (suc n) ((a, e) ∷ h) ≡ sum_to (suc n) h + 1
    go r' true d =
        let q : n ≡ a = (Decides-eqb n a).0 d in
        let s : length (entries_of n ((a, e) ∷ h)) ≡ length (entries_of n h) + 1 = rw d (length-append (entries_of n h) ((length h, e) ∷ [])) in
        let r : sum_to n ((a, e) ∷ h) ≡ sum_to n h = sum_else n a e h (omega arith) in omega arith
    go r' false d =
        let ne : n ≢ a = λ q. absurd (cc (d, (Decides-eqb n a).1 q)) in
        let s : length (entries_of n ((a, e) ∷ h)) ≡ length (entries_of n h) = ap length (entries_else n a e h ne) in
        let r : sum_to n ((a, e) ∷ h) ≡ sum_to n h + 1 = r' (omega arith) in omega arith

pub sum_all : {E : Type 0} (n : ℕ) (h : List (ℕ × E)) → AllBelow n h → sum_to n h ≡ length h
sum_all {E} n [] b = sum_nil E n
sum_all n (x ∷ h) b = let s : sum_to n (x ∷ h) ≡ sum_to n h + 1 = sum_more n x.0 x.1 h b.0 in let r : sum_to n h ≡ length h = sum_all n h b.1 in omega arith

sum_bound : {E : Type 0} (n m : ℕ) (h : List (ℕ × E)) → ((a : ℕ) → length (entries_of a h) ≤ m) → sum_to n h ≤ n * m
sum_bound zero m h few = omega arith
sum_bound (suc n) m h few = let f : length (entries_of n h) ≤ m = few n in let r : sum_to n h ≤ n * m = sum_bound n m h few in omega (arith, suc-mul n m)

-- the word stays small
pub length_bound : {E : Type 0} (n m : ℕ) (h : List (ℕ × E)) → AllBelow n h → ((a : ℕ) → length (entries_of a h) ≤ m) → length h ≤ n * m
length_bound n m h b few = let s : sum_to n h ≡ length h = sum_all n h b in let t : sum_to n h ≤ n * m = sum_bound n m h few in omega arith

-- the part of the actor that made a step
pub adds_part : {P E : Type 0} (change : ℕ → P → E → P) (start : ℕ → P) (a : ℕ) (e : E) (old new : List (ℕ × E)) → Adds a e old new
    → parts_after change start new a ≡ change a (parts_after change start old a) e
adds_part change start a e old new d =
    ap (λ t. parts_after change start t a) d.whole ∙ (rw (eq_self a) (ap (λ p. change a p e) (idle_part change start a d.between old d.none)))

pub rests_part : {P E : Type 0} (change : ℕ → P → E → P) (start : ℕ → P) (a : ℕ) (old new : List (ℕ × E)) → Rests a old new
    → parts_after change start new a ≡ parts_after change start old a
rests_part change start a old new d = ap (λ t. parts_after change start t a) d.whole ∙ idle_part change start a d.between old d.none

pub rests : {E : Type 0} (a : ℕ) (made old new : List (ℕ × E)) → Begins old new → made ≡ entries_of a old → made ≡ entries_of a new → Rests a old new
rests a made old new b m n = record { between = b.later; whole = sym b.whole; none = ap (λ t. entries_of a t) b.whole ∙ (sym n ∙ m) }

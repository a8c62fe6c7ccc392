-- Lists that go on alike, and tests of the next token.
use Rattle.std.proofs.Common.{◌≡◌, ℕ, Bool, true, false, cond, List, [], ◌∷◌, ◌++◌, refl, sym, ap, ◌∙◌, true≢false, eqb-true, nat_eq}
use Rattle.grammar_forms.specs.Forms.{next_is}
use Rattle.grammar_forms.specs.Kinds.{has, when, apart, within, Stops}
use Rattle.grammar_forms.specs.Laws.{Alike}

pub alike_self : {T : Type 0} → (k : List T) → Alike k k
alike_self [] = tt
alike_self (t ∷ k) = refl

pub alike_front : {T : Type 0} → (u rest k : List T) → Alike rest k → Alike (u ++ rest) (u ++ k)
alike_front [] rest k a = a
alike_front (t ∷ u) rest k a = refl

pub alike_next : {T : Type 0} → (p : T → Bool) (rest k : List T) → Alike rest k → next_is p k ≡ next_is p rest
alike_next p [] [] a = refl
alike_next p [] (u ∷ us) a = absurd a
alike_next p (t ∷ ts) [] a = absurd a
alike_next p (t ∷ ts) (u ∷ us) a = ap p (sym a)

-- a test that fails, of one or the other
or_left : (b c : Bool) → cond b true c ≡ false → b ≡ false
or_left true c e = e
or_left false c e = refl

or_right : (b c : Bool) → cond b true c ≡ false → c ≡ false
or_right true c e = absurd (true≢false e)
or_right false c e = e

or_assoc : (b c d : Bool) → cond b true (cond c true d) ≡ cond (cond b true c) true d
or_assoc true c d = refl
or_assoc false c d = refl

pub has_append : (ks js : List ℕ) (n : ℕ) → has (ks ++ js) n ≡ cond (has ks n) true (has js n)
has_append [] js n = refl
has_append (k ∷ ks) js n = ap (λ b. cond (nat_eq n k) true b) (has_append ks js n) ∙ or_assoc (nat_eq n k) (has ks n) (has js n)

pub has_left : (ks js : List ℕ) (n : ℕ) → has (ks ++ js) n ≡ false → has ks n ≡ false
has_left ks js n e = or_left (has ks n) (has js n) (sym (has_append ks js n) ∙ e)

pub has_right : (ks js : List ℕ) (n : ℕ) → has (ks ++ js) n ≡ false → has js n ≡ false
has_right ks js n e = or_right (has ks n) (has js n) (sym (has_append ks js n) ∙ e)

-- what is of one set is of the longer one
pub in_left : (ks js : List ℕ) (n : ℕ) → has ks n ≡ true → has (ks ++ js) n ≡ true
in_left ks js n e = has_append ks js n ∙ ap (λ b. cond b true (has js n)) e

either_true : (b : Bool) → cond b true true ≡ true
either_true true = refl
either_true false = refl

pub in_right : (ks js : List ℕ) (n : ℕ) → has js n ≡ true → has (ks ++ js) n ≡ true
in_right ks js n e = has_append ks js n ∙ ap (λ b. cond (has ks n) true b) e ∙ either_true (has ks n)

-- What a test of two sets says of their kinds.
both_tests : (b c : Bool) → cond b c false ≡ true → (b ≡ true) × (c ≡ true)
both_tests true c e = (refl, e)
both_tests false c e = absurd (true≢false (sym e))

neither_test : (b c : Bool) → cond b false c ≡ true → (b ≡ false) × (c ≡ true)
neither_test true c e = absurd (true≢false (sym e))
neither_test false c e = (refl, e)

apart_step : (ks : List ℕ) (j n : ℕ) (b : Bool) → nat_eq n j ≡ b → has ks j ≡ false → (b ≡ false → has ks n ≡ false) → has ks n ≡ false
apart_step ks j n true e off rest = ap (has ks) (eqb-true n j e) ∙ off
apart_step ks j n false e off rest = rest refl

pub apart_means : (ks js : List ℕ) (n : ℕ) → apart ks js ≡ true → has js n ≡ true → has ks n ≡ false
apart_means ks [] n t h = absurd (true≢false (sym h))
apart_means ks (j ∷ js) n t h =
    let p = neither_test (has ks j) (apart ks js) t in
    apart_step ks j n (nat_eq n j) refl p.0 (λ e. apart_means ks js n p.1 (sym (ap (λ b. cond b true (has js n)) e) ∙ h))

within_step : (js : List ℕ) (k n : ℕ) (b : Bool) → nat_eq n k ≡ b → has js k ≡ true → (b ≡ false → has js n ≡ true) → has js n ≡ true
within_step js k n true e on rest = ap (has js) (eqb-true n k e) ∙ on
within_step js k n false e on rest = rest refl

pub within_means : (ks js : List ℕ) → within ks js ≡ true → (n : ℕ) → has ks n ≡ true → has js n ≡ true
within_means [] js t n h = absurd (true≢false (sym h))
within_means (k ∷ ks) js t n h =
    let p = both_tests (has js k) (within ks js) t in
    within_step js k n (nat_eq n k) refl p.0 (λ e. within_means ks js p.1 n (sym (ap (λ b. cond b true (has ks n)) e) ∙ h))

-- the same backwards: what is not of the larger set is not of the smaller
pub outside : (ks js : List ℕ) (n : ℕ) (b : Bool) → ((m : ℕ) → has ks m ≡ true → has js m ≡ true) → has ks n ≡ b → has js n ≡ false → has ks n ≡ false
outside ks js n true w e h = absurd (true≢false (sym (w n e) ∙ h))
outside ks js n false w e h = e

module _ {T : Type 0} (kind : T → ℕ) where
  pub stops_left : (ks js : List ℕ) (k : List T) → Stops kind (ks ++ js) k → Stops kind ks k
  stops_left ks js [] e = refl
  stops_left ks js (t ∷ k) e = has_left ks js (kind t) e

  pub stops_right : (ks js : List ℕ) (k : List T) → Stops kind (ks ++ js) k → Stops kind js k
  stops_right ks js [] e = refl
  stops_right ks js (t ∷ k) e = has_right ks js (kind t) e

  pub stops_within : (ks js : List ℕ) (k : List T) → ((m : ℕ) → has ks m ≡ true → has js m ≡ true) → Stops kind js k → Stops kind ks k
  stops_within ks js [] w e = refl
  stops_within ks js (t ∷ k) w e = outside ks js (kind t) (has ks (kind t)) w refl e

  pub stops_when : (b : Bool) (ks : List ℕ) (k : List T) → b ≡ true → Stops kind (when b ks) k → Stops kind ks k
  stops_when true ks k e s = s
  stops_when false ks k e s = absurd (true≢false (sym e))

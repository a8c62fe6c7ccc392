-- The law of parts one behind the other, as many as come.
use Rattle.std.proofs.Common.{◌≡◌, ℕ, zero, suc, ◌≤◌, ◌<◌, Bool, true, false, cond, List, [], ◌∷◌, ◌++◌, length, refl, sym, ap, subst, ◌∙◌, true≢false, append_assoc, append-nil, length-append, arith}
use Rattle.grammar_forms.specs.Forms.{Spelling, Reader, ReadOutcome, Read, Refused, next_is, and_then, Many, many, many_within}
use Rattle.grammar_forms.specs.Kinds.{has, apart, Stops}
use Rattle.grammar_forms.specs.Laws.{Alike, Run, reads, refuses, Exact}
use Rattle.grammar_forms.proofs.Alike.{alike_self, alike_front, alike_next, apart_means, stops_left, stops_right}

-- What a reader that runs has read is spelled by the tokens before the rest.
pub record Takes {T A : Type 0} (S : Spelling T A) (ts : List T) (x : A) (k : List T) : Type 0 where
  pub taken : List T
  pub split : ts ≡ taken ++ k
  pub spelled : S x taken

pub takes : {T A : Type 0} (S : Spelling T A) (r : Reader T A) (ts : List T) (x : A) (k : List T) → Run S r ts → r ts ≡ Read x k → Takes S ts x k
takes {T} {A} S r ts x k (reads y w rest e s at) h =
    let there : Read y rest ≡ Read x k = sym (ap r e ∙ at rest (alike_self rest)) ∙ h in
    let same_value : y ≡ x = cc in
    let same_rest : rest ≡ k = cc in
    record { taken = w; split = e ∙ ap (λ l. w ++ l) same_rest; spelled = subst (λ z. S z w) same_value s }
takes {T} {A} S r ts x k (refuses w rest y v e s at) h =
    let refused_of : List T → ReadOutcome T A = λ l. Refused l in
    let there : refused_of rest ≡ Read x k = sym (ap r e ∙ at rest (alike_self rest)) ∙ h in cc

-- one part, and then the rest of the list
abbrev pub with_first : {T A : Type 0} → ReadOutcome T A → (List T → ReadOutcome T (List A)) → ReadOutcome T (List A)
with_first o f = and_then o (λ x k. and_then (f k) (λ xs j. Read (x ∷ xs) j))

module _ {T A : Type 0} (kind : T → ℕ) (p : T → Bool) (S : Spelling T A) (r : Reader T A) {firsts mores : List ℕ} (E : Exact kind S r false firsts mores) where
  taken_some : (x : A) (w k ts : List T) → ts ≡ w ++ k → S x w → length k < length ts
  taken_some x [] k ts e s = absurd (true≢false (sym (E.empty x s)))
  taken_some x (t ∷ w) k ts e s = omega (arith, ap length e, length-append w k)

  -- a part takes a token
  pub part_takes : (ts : List T) (x : A) (k : List T) → r ts ≡ Read x k → length k < length ts
  part_takes ts x k h = let t = takes S r ts x k (E.run ts) h in taken_some x t.taken k ts t.split t.spelled

  -- any number of turns that is large enough gives the same
  rest_same : (ts : List T) (o : ReadOutcome T A) (f g : List T → ReadOutcome T (List A)) → r ts ≡ o → ((k : List T) → length k < length ts → f k ≡ g k) → with_first o f ≡ with_first o g
  rest_same ts (Read x k) f g h same_later = ap (λ q. and_then q (λ xs j. Read (x ∷ xs) j)) (same_later k (part_takes ts x k h))
  rest_same ts (Refused k) f g h same_later = refl

  turns : (n m : ℕ) (ts : List T) → length ts ≤ n → length ts ≤ m → many_within n p r ts ≡ many_within m p r ts
  turns zero zero ts a b = refl
  turns zero (suc m) [] a b = refl
  turns zero (suc m) (t ∷ ts) a b = absurd (omega arith)
  turns (suc n) zero [] a b = refl
  turns (suc n) zero (t ∷ ts) a b = absurd (omega arith)
  turns (suc n) (suc m) ts a b =
      ap (λ o. cond (next_is p ts) o (Read [] ts)) (rest_same ts (r ts) (many_within n p r) (many_within m p r) refl (λ k h. turns n m k (omega arith) (omega arith)))

  -- a list is one part and a list, or ends
  pub many_step : (ts : List T) → many p r ts ≡ cond (next_is p ts) (with_first (r ts) (many p r)) (Read [] ts)
  unfolding many
  many_step [] = refl
  many_step (t ∷ ts) =
      ap (λ o. cond (p t) o (Read [] (t ∷ ts))) (rest_same (t ∷ ts) (r (t ∷ ts)) (many_within (length ts) p r) (λ k. many_within (length k) p r k) refl (λ k h. turns (length ts) (length k) k (omega arith) (omega arith)))

  pub many_on : (ts : List T) → next_is p ts ≡ true → many p r ts ≡ with_first (r ts) (many p r)
  many_on ts t = many_step ts ∙ ap (λ b. cond b (with_first (r ts) (many p r)) (Read [] ts)) t

  pub many_end : (ts : List T) → next_is p ts ≡ false → many p r ts ≡ Read [] ts
  many_end ts t = many_step ts ∙ ap (λ b. cond b (with_first (r ts) (many p r)) (Read [] ts)) t

  pub first_part : (x : A) (k ts : List T) → next_is p ts ≡ true → r ts ≡ Read x k → many p r ts ≡ and_then (many p r k) (λ xs j. Read (x ∷ xs) j)
  first_part x k ts t e = many_on ts t ∙ ap (λ o. with_first o (many p r)) e

  module _ (test : (t : T) → p t ≡ has firsts (kind t)) (seam : apart mores firsts ≡ true) where
    begins_part : (x : A) (w k : List T) → S x w → next_is p (w ++ k) ≡ true
    begins_part x [] k s = absurd (true≢false (sym (E.empty x s)))
    begins_part x (t ∷ w) k s = test t ∙ E.begins x t w s

    many_begins : (xs : List A) (t : T) (w : List T) → Many S xs (t ∷ w) → has firsts (kind t) ≡ true
    many_begins [] t w s = cc
    many_begins (x ∷ xs) t w s = part_begins x t w s.0 s.1 s.2 s.3
      where
        part_begins : (x : A) (t : T) (w u v : List T) → t ∷ w ≡ u ++ v → S x u → has firsts (kind t) ≡ true
        part_begins x t w [] v e s = absurd (true≢false (sym (E.empty x s)))
        part_begins x t w (a ∷ u) v e s = let h : t ≡ a = cc in ap (λ b. has firsts (kind b)) h ∙ E.begins x a u s

    no_test : (k : List T) → Stops kind firsts k → next_is p k ≡ false
    no_test [] stop = refl
    no_test (t ∷ k) stop = test t ∙ stop

    part_stops : (xs : List A) (v k : List T) → Many S xs v → Stops kind mores k → Stops kind mores (v ++ k)
    part_stops xs [] k s stop = stop
    part_stops xs (t ∷ v) k s stop = apart_means mores firsts (kind t) seam (many_begins xs t v s)

    many_complete : (xs : List A) (w k : List T) → Many S xs w → Stops kind mores k → Stops kind firsts k → many p r (w ++ k) ≡ Read xs k
    many_complete [] w k s stop out = ap (λ l. many p r (l ++ k)) s ∙ many_end k (no_test k out)
    many_complete (x ∷ xs) w k s stop out =
        let u : List T = s.0 in
        let v : List T = s.1 in
        ap (λ l. many p r (l ++ k)) s.2 ∙ ap (many p r) (append_assoc u v k)
        ∙ first_part x (v ++ k) (u ++ (v ++ k)) (begins_part x u (v ++ k) s.3) (E.complete x u (v ++ k) s.3 (part_stops xs v k s.4 stop))
        ∙ ap (λ o. and_then o (λ ys j. Read (x ∷ ys) j)) (many_complete xs v k s.4 stop out)

    -- the test is the same at each list that goes on alike
    test_alike : (ts w rest k : List T) → ts ≡ w ++ rest → Alike rest k → next_is p (w ++ k) ≡ next_is p ts
    test_alike ts w rest k e a = alike_next p (w ++ rest) (w ++ k) (alike_front w rest k a) ∙ ap (next_is p) (sym e)

    many_after : (ts : List T) → next_is p ts ≡ true → (x : A) (w rest : List T) → ts ≡ w ++ rest → S x w → ((k : List T) → Alike rest k → r (w ++ k) ≡ Read x k) → Run (Many S) (many p r) rest → Run (Many S) (many p r) ts
    many_after ts t x w rest e sx at (reads xs u rest2 e2 ss at2) =
        reads (x ∷ xs) (w ++ u) rest2 (e ∙ ap (λ l. w ++ l) e2 ∙ sym (append_assoc w u rest2)) (w, u, refl, sx, ss)
        (λ k a. ap (many p r) (append_assoc w u k)
        ∙ first_part x (u ++ k) (w ++ (u ++ k)) (begins_part x w (u ++ k) sx) (at (u ++ k) (subst (λ l. Alike l (u ++ k)) (sym e2) (alike_front u rest2 k a)))
        ∙ ap (λ o. and_then o (λ ys j. Read (x ∷ ys) j)) (at2 k a))
    many_after ts t x w rest e sx at (refuses u rest2 xs v e2 ss at2) =
        refuses (w ++ u) rest2 (x ∷ xs) v (e ∙ ap (λ l. w ++ l) e2 ∙ sym (append_assoc w u rest2)) (w, u ++ v, append_assoc w u v, sx, ss)
        (λ k a. ap (many p r) (append_assoc w u k)
        ∙ first_part x (u ++ k) (w ++ (u ++ k)) (begins_part x w (u ++ k) sx) (at (u ++ k) (subst (λ l. Alike l (u ++ k)) (sym e2) (alike_front u rest2 k a)))
        ∙ ap (λ o. and_then o (λ ys j. Read (x ∷ ys) j)) (at2 k a))

    many_first : (ts : List T) → next_is p ts ≡ true → Run S r ts → ((k : List T) → length k < length ts → Run (Many S) (many p r) k) → Run (Many S) (many p r) ts
    many_first ts t (reads x w rest e sx at) later = many_after ts t x w rest e sx at (later rest (taken_some x w rest ts e sx))
    many_first ts t (refuses w rest x v e sx at) later =
        refuses w rest (x ∷ []) v e (w ++ v, [], sym (append-nil (w ++ v)), sx, refl)
        (λ k a. many_on (w ++ k) (test_alike ts w rest k e a ∙ t) ∙ ap (λ o. with_first o (many p r)) (at k a))

    many_none : (ts k : List T) → next_is p ts ≡ false → Alike ts k → many p r k ≡ Read [] k
    many_none ts k t a = many_end k (alike_next p ts k a ∙ t)

    many_turn : (ts : List T) (b : Bool) → next_is p ts ≡ b → ((k : List T) → length k < length ts → Run (Many S) (many p r) k) → Run (Many S) (many p r) ts
    many_turn ts true t later = many_first ts t (E.run ts) later
    many_turn ts false t later = reads [] [] ts refl refl (λ k a. many_none ts k t a)

    many_run : (n : ℕ) (ts : List T) → length ts < n → Run (Many S) (many p r) ts
    many_run zero ts h = absurd (omega arith)
    many_run (suc n) ts h = many_turn ts (next_is p ts) refl (λ k l. many_run n k (omega arith))

    pub exact_many : Exact kind (Many S) (many p r) true firsts (firsts ++ mores)
    exact_many = record {
      run = λ ts. many_run (suc (length ts)) ts (omega arith);
      complete = λ xs w k s stop. many_complete xs w k s (stops_right kind firsts mores k stop) (stops_left kind firsts mores k stop);
      empty = λ xs s. refl;
      begins = many_begins;
      value = [];
      shortest = [];
      is_spelled = refl;
    }

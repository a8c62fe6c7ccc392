-- The laws of one of two parts, and of larger sets.
use Rattle.std.proofs.Common.{◌≡◌, ℕ, Bool, true, false, cond, ◌⊎◌, inl, inr, List, [], ◌∷◌, ◌++◌, refl, sym, ap, ◌∙◌, true≢false}
use Rattle.grammar_forms.specs.Forms.{Spelling, Reader, Read, next_is, Either, either}
use Rattle.grammar_forms.specs.Kinds.{has, when, apart, within, Stops}
use Rattle.grammar_forms.specs.Laws.{Alike, Run, reads, refuses, Exact}
use Rattle.grammar_forms.proofs.Alike.{alike_front, alike_next, apart_means, stops_left, stops_right, stops_within, stops_when, within_means, in_left, in_right}

module _ {T A : Type 0} (kind : T → ℕ) (p : T → Bool) (S : Spelling T A) (R : Spelling T A) (r s : Reader T A) where
  either_is : (ts : List T) (b : Bool) → next_is p ts ≡ b → either p r s ts ≡ cond b (r ts) (s ts)
  either_is ts b e = ap (λ c. cond c (r ts) (s ts)) e

  -- the test is the same at each list that goes on alike
  either_alike : (ts w rest k : List T) (b : Bool) → ts ≡ w ++ rest → Alike rest k → next_is p ts ≡ b → either p r s (w ++ k) ≡ cond b (r (w ++ k)) (s (w ++ k))
  either_alike ts w rest k b e a t = either_is (w ++ k) b (alike_next p (w ++ rest) (w ++ k) (alike_front w rest k a) ∙ ap (next_is p) (sym e) ∙ t)

  either_first : (ts : List T) → next_is p ts ≡ true → Run S r ts → Run (Either S R) (either p r s) ts
  either_first ts t (reads x w rest e sx at) = reads x w rest e (inl sx) (λ k a. either_alike ts w rest k true e a t ∙ at k a)
  either_first ts t (refuses w rest x v e sx at) = refuses w rest x v e (inl sx) (λ k a. either_alike ts w rest k true e a t ∙ at k a)

  either_second : (ts : List T) → next_is p ts ≡ false → Run R s ts → Run (Either S R) (either p r s) ts
  either_second ts t (reads x w rest e sx at) = reads x w rest e (inr sx) (λ k a. either_alike ts w rest k false e a t ∙ at k a)
  either_second ts t (refuses w rest x v e sx at) = refuses w rest x v e (inr sx) (λ k a. either_alike ts w rest k false e a t ∙ at k a)

  either_run : (ts : List T) (b : Bool) → next_is p ts ≡ b → Run S r ts → Run R s ts → Run (Either S R) (either p r s) ts
  either_run ts true t f g = either_first ts t f
  either_run ts false t f g = either_second ts t g

  module _ {m : Bool} {firsts mores firsts2 mores2 : List ℕ} (E : Exact kind S r false firsts mores) (F : Exact kind R s m firsts2 mores2) (test : (t : T) → p t ≡ has firsts (kind t)) (seam : apart firsts firsts2 ≡ true) where
    test_of : (k : List T) → Stops kind firsts k → next_is p k ≡ false
    test_of [] stop = refl
    test_of (t ∷ k) stop = test t ∙ stop

    left_complete : (x : A) (w k : List T) → S x w → Stops kind mores k → either p r s (w ++ k) ≡ Read x k
    left_complete x [] k sx stop = absurd (true≢false (sym (E.empty x sx)))
    left_complete x (t ∷ w) k sx stop = either_is (t ∷ w ++ k) true (test t ∙ E.begins x t w sx) ∙ E.complete x (t ∷ w) k sx stop

    right_complete : (x : A) (w k : List T) → R x w → Stops kind mores2 k → Stops kind (when m firsts) k → either p r s (w ++ k) ≡ Read x k
    right_complete x [] k sx stop out = either_is k false (test_of k (stops_when kind m firsts k (F.empty x sx) out)) ∙ F.complete x [] k sx stop
    right_complete x (t ∷ w) k sx stop out = either_is (t ∷ w ++ k) false (test t ∙ apart_means firsts firsts2 (kind t) seam (F.begins x t w sx)) ∙ F.complete x (t ∷ w) k sx stop

    either_complete : (x : A) (w k : List T) → S x w ⊎ R x w → Stops kind (mores ++ (mores2 ++ when m firsts)) k → either p r s (w ++ k) ≡ Read x k
    either_complete x w k (inl sx) stop = left_complete x w k sx (stops_left kind mores (mores2 ++ when m firsts) k stop)
    either_complete x w k (inr sx) stop =
        let both : Stops kind (mores2 ++ when m firsts) k = stops_right kind mores (mores2 ++ when m firsts) k stop in
        right_complete x w k sx (stops_left kind mores2 (when m firsts) k both) (stops_right kind mores2 (when m firsts) k both)

    either_empty : (x : A) → S x [] ⊎ R x [] → m ≡ true
    either_empty x (inl sx) = absurd (true≢false (sym (E.empty x sx)))
    either_empty x (inr sx) = F.empty x sx

    either_begins : (x : A) (t : T) (w : List T) → S x (t ∷ w) ⊎ R x (t ∷ w) → has (firsts ++ firsts2) (kind t) ≡ true
    either_begins x t w (inl sx) = in_left firsts firsts2 (kind t) (E.begins x t w sx)
    either_begins x t w (inr sx) = in_right firsts firsts2 (kind t) (F.begins x t w sx)

    pub exact_either : Exact kind (Either S R) (either p r s) m (firsts ++ firsts2) (mores ++ (mores2 ++ when m firsts))
    exact_either = record {
      run = λ ts. either_run ts (next_is p ts) refl (E.run ts) (F.run ts);
      complete = either_complete;
      empty = either_empty;
      begins = either_begins;
      value = E.value;
      shortest = E.shortest;
      is_spelled = inl E.is_spelled;
    }

-- The sets may grow.
module _ {T A : Type 0} (kind : T → ℕ) {S : Spelling T A} {r : Reader T A} {n : Bool} {firsts mores firsts2 mores2 : List ℕ} (E : Exact kind S r n firsts mores) where
  pub widen_to : ((m : ℕ) → has firsts m ≡ true → has firsts2 m ≡ true) → ((m : ℕ) → has mores m ≡ true → has mores2 m ≡ true) → Exact kind S r n firsts2 mores2
  widen_to f g = record {
    run = E.run;
    complete = λ x w k s stop. E.complete x w k s (stops_within kind mores mores2 k g stop);
    empty = E.empty;
    begins = λ x t w s. f (kind t) (E.begins x t w s);
    value = E.value;
    shortest = E.shortest;
    is_spelled = E.is_spelled;
  }

  pub widen : within firsts firsts2 ≡ true → within mores mores2 ≡ true → Exact kind S r n firsts2 mores2
  widen f g = widen_to (within_means firsts firsts2 f) (within_means mores mores2 g)

-- The laws of one token, of nothing, of a part seen as something else, and of one part behind another.
use Rattle.std.proofs.Common.{◌≡◌, ℕ, Bool, true, false, ◌&&◌, List, [], ◌∷◌, ◌++◌, Option, Some, None, refl, sym, ap, subst, ◌∙◌, append_assoc}
use Rattle.grammar_forms.specs.Forms.{Spelling, Reader, ReadOutcome, Read, Refused, and_then, One, one, meant, Nothing, nothing, As, as_of, Both, both}
use Rattle.grammar_forms.specs.Kinds.{has, when, apart, Stops}
use Rattle.grammar_forms.specs.Laws.{Alike, Run, reads, refuses, Exact}
use Rattle.grammar_forms.proofs.Alike.{alike_front, apart_means, stops_left, stops_right, stops_when, in_left, in_right}

-- One token.
module _ {T A : Type 0} (kind : T → ℕ) (f : T → Option A) where
  one_at : (t : T) (k : List T) (o : Option A) → f t ≡ o → one f (t ∷ k) ≡ meant o t k
  one_at t k o e = ap (λ p. meant p t k) e

  one_stop : (t : T) → f t ≡ None → (k : List T) → Alike (t ∷ []) k → one f k ≡ Refused k
  one_stop t e [] a = absurd a
  one_stop t e (u ∷ k) a = one_at u k None (ap f (sym a) ∙ e)

  one_end : (k : List T) → Alike {T = T} [] k → one f k ≡ Refused k
  one_end [] a = refl
  one_end (u ∷ k) a = absurd a

  one_first : (t : T) (ts : List T) (o : Option A) → f t ≡ o → (t0 : T) (x0 : A) → f t0 ≡ Some x0 → Run (One f) (one f) (t ∷ ts)
  one_first t ts (Some x) e t0 x0 e0 = reads x (t ∷ []) ts refl (t, e, refl) (λ k a. one_at t k (Some x) e)
  one_first t ts None e t0 x0 e0 = refuses [] (t ∷ ts) x0 (t0 ∷ []) refl (t0, e0, refl) (one_stop t e)

  one_run : (t0 : T) (x0 : A) → f t0 ≡ Some x0 → (ts : List T) → Run (One f) (one f) ts
  one_run t0 x0 e0 [] = refuses [] [] x0 (t0 ∷ []) refl (t0, e0, refl) one_end
  one_run t0 x0 e0 (t ∷ ts) = one_first t ts (f t) refl t0 x0 e0

  pub exact_one : (ks : List ℕ) → ((t : T) (x : A) → f t ≡ Some x → has ks (kind t) ≡ true) → (t0 : T) (x0 : A) → f t0 ≡ Some x0 → Exact kind (One f) (one f) false ks []
  exact_one ks fits t0 x0 e0 = record {
    run = one_run t0 x0 e0;
    complete = λ x w k s stop. ap (λ l. one f (l ++ k)) s.2 ∙ one_at s.0 k (Some x) s.1;
    empty = λ x s. cc;
    begins = λ x t w s. let e : t ≡ s.0 = cc in ap (λ u. has ks (kind u)) e ∙ fits s.0 x s.1;
    value = x0;
    shortest = t0 ∷ [];
    is_spelled = (t0, e0, refl);
  }

-- Nothing.
module _ {T A : Type 0} (kind : T → ℕ) (a : A) where
  pub exact_nothing : Exact kind (Nothing a) (nothing a) true [] []
  exact_nothing = record {
    run = λ ts. reads a [] ts refl (refl, refl) (λ k h. refl);
    complete = λ x w k s stop. cc;
    empty = λ x s. refl;
    begins = λ x t w s. cc;
    value = a;
    shortest = [];
    is_spelled = (refl, refl);
  }

-- A part seen as something else.
module _ {T A B : Type 0} (kind : T → ℕ) (f : A → B) (S : Spelling T A) (r : Reader T A) where
  as_run : (ts : List T) → Run S r ts → Run (As f S) (as_of f r) ts
  as_run ts (reads x w rest e s at) = reads (f x) w rest e (x, refl, s) (λ k a. ap (λ o. and_then o (λ y j. Read (f y) j)) (at k a))
  as_run ts (refuses w rest x v e s at) = refuses w rest (f x) v e (x, refl, s) (λ k a. ap (λ o. and_then o (λ y j. Read (f y) j)) (at k a))

  pub exact_as : {null : Bool} {first more : List ℕ} → Exact kind S r null first more → Exact kind (As f S) (as_of f r) null first more
  exact_as E = record {
    run = λ ts. as_run ts (E.run ts);
    complete = λ y w k s stop. ap (λ o. and_then o (λ x j. Read (f x) j)) (E.complete s.0 w k s.2 stop) ∙ ap (λ z. Read z k) (sym s.1);
    empty = λ y s. E.empty s.0 s.2;
    begins = λ y t w s. E.begins s.0 t w s.2;
    value = f E.value;
    shortest = E.shortest;
    is_spelled = (E.value, refl, E.is_spelled);
  }

-- One part behind another.
module _ {T A B C : Type 0} (kind : T → ℕ) (f : A → B → C) (S : Spelling T A) (R : Spelling T B) (r : Reader T A) (s : Reader T B) where
  and_second : A → ReadOutcome T B → ReadOutcome T C
  and_second x o = and_then o (λ y j. Read (f x y) j)

  first_read : (ts : List T) (x : A) (k : List T) → r ts ≡ Read x k → both f r s ts ≡ and_then (s k) (λ y j. Read (f x y) j)
  first_read ts x k e = ap (λ o. and_then o (λ z i. and_then (s i) (λ y j. Read (f z y) j))) e

  first_refused : (ts k : List T) → r ts ≡ Refused k → both f r s ts ≡ Refused k
  first_refused ts k e = ap (λ o. and_then o (λ z i. and_then (s i) (λ y j. Read (f z y) j))) e

  then_is : (x : A) (k : List T) (o : ReadOutcome T B) → s k ≡ o → and_then (s k) (λ y j. Read (f x y) j) ≡ and_then o (λ y j. Read (f x y) j)
  then_is x k o e = ap (λ p. and_then p (λ y j. Read (f x y) j)) e

  both_after : (ts : List T) (x : A) (w rest : List T) → ts ≡ w ++ rest → S x w → ((k : List T) → Alike rest k → r (w ++ k) ≡ Read x k) → Run R s rest → Run (Both f S R) (both f r s) ts
  both_after ts x w rest e sx at (reads y u rest2 e2 sy at2) =
      reads (f x y) (w ++ u) rest2 (e ∙ ap (λ l. w ++ l) e2 ∙ sym (append_assoc w u rest2)) (x, y, w, u, refl, refl, sx, sy)
      (λ k a. ap (both f r s) (append_assoc w u k)
      ∙ first_read (w ++ (u ++ k)) x (u ++ k) (at (u ++ k) (subst (λ l. Alike l (u ++ k)) (sym e2) (alike_front u rest2 k a)))
      ∙ then_is x (u ++ k) (Read y k) (at2 k a))
  both_after ts x w rest e sx at (refuses u rest2 y v e2 sy at2) =
      refuses (w ++ u) rest2 (f x y) v (e ∙ ap (λ l. w ++ l) e2 ∙ sym (append_assoc w u rest2)) (x, y, w, u ++ v, refl, append_assoc w u v, sx, sy)
      (λ k a. ap (both f r s) (append_assoc w u k)
      ∙ first_read (w ++ (u ++ k)) x (u ++ k) (at (u ++ k) (subst (λ l. Alike l (u ++ k)) (sym e2) (alike_front u rest2 k a)))
      ∙ then_is x (u ++ k) (Refused k) (at2 k a))

  both_run : (ts : List T) → Run S r ts → ((k : List T) → Run R s k) → (y0 : B) (w0 : List T) → R y0 w0 → Run (Both f S R) (both f r s) ts
  both_run ts (reads x w rest e sx at) runs y0 w0 s0 = both_after ts x w rest e sx at (runs rest)
  both_run ts (refuses w rest x v e sx at) runs y0 w0 s0 =
      refuses w rest (f x y0) (v ++ w0) e (x, y0, w ++ v, w0, refl, sym (append_assoc w v w0), sx, s0) (λ k a. first_refused (w ++ k) k (at k a))

  module _ {n m : Bool} {firsts mores firsts2 mores2 : List ℕ} (E : Exact kind S r n firsts mores) (F : Exact kind R s m firsts2 mores2) (seam : apart mores firsts2 ≡ true) where
    -- no token that may carry the first part on begins the second
    both_stops : (y : B) (v k : List T) → R y v → Stops kind (mores2 ++ when m mores) k → Stops kind mores (v ++ k)
    both_stops y [] k sy stop = stops_when kind m mores k (F.empty y sy) (stops_right kind mores2 (when m mores) k stop)
    both_stops y (t ∷ v) k sy stop = apart_means mores firsts2 (kind t) seam (F.begins y t v sy)

    both_empty : (x : A) (y : B) (u v : List T) → [] ≡ u ++ v → S x u → R y v → n && m ≡ true
    both_empty x y [] [] e sx sy = ap (λ b. b && m) (E.empty x sx) ∙ F.empty y sy
    both_empty x y [] (t ∷ v) e sx sy = cc
    both_empty x y (t ∷ u) v e sx sy = cc

    both_begins : (x : A) (y : B) (t : T) (w u v : List T) → t ∷ w ≡ u ++ v → S x u → R y v → has (firsts ++ when n firsts2) (kind t) ≡ true
    both_begins x y t w (a ∷ u) v e sx sy =
        let h : a ≡ t = cc in
        in_left firsts (when n firsts2) (kind t) (ap (λ b. has firsts (kind b)) (sym h) ∙ E.begins x a u sx)
    both_begins x y t w [] [] e sx sy = cc
    both_begins x y t w [] (a ∷ v) e sx sy =
        let h : a ≡ t = cc in
        in_right firsts (when n firsts2) (kind t) (ap (λ b. has (when b firsts2) (kind t)) (E.empty x sx) ∙ ap (λ b. has firsts2 (kind b)) (sym h) ∙ F.begins y a v sy)

    pub exact_both : Exact kind (Both f S R) (both f r s) (n && m) (firsts ++ when n firsts2) (mores2 ++ when m mores)
    exact_both = record {
      run = λ ts. both_run ts (E.run ts) F.run F.value F.shortest F.is_spelled;
      complete = λ z w k t stop.
          let x : A = t.0 in
          let y : B = t.1 in
          let u : List T = t.2 in
          let v : List T = t.3 in
          ap (λ l. both f r s (l ++ k)) t.5 ∙ ap (both f r s) (append_assoc u v k)
          ∙ first_read (u ++ (v ++ k)) x (v ++ k) (E.complete x u (v ++ k) t.6 (both_stops y v k t.7 stop))
          ∙ then_is x (v ++ k) (Read y k) (F.complete y v k t.7 (stops_left kind mores2 (when m mores) k stop))
          ∙ ap (λ c. Read c k) (sym t.4);
      empty = λ z t. both_empty t.0 t.1 t.2 t.3 t.5 t.6 t.7;
      begins = λ z a w t. both_begins t.0 t.1 a w t.2 t.3 t.5 t.6 t.7;
      value = f E.value F.value;
      shortest = E.shortest ++ F.shortest;
      is_spelled = (E.value, F.value, E.shortest, F.shortest, refl, refl, E.is_spelled, F.is_spelled);
    }

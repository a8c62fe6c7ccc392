-- What an exact reader says of a whole list.
use Rattle.std.proofs.Common.{◌≡◌, ℕ, Bool, List, [], ◌∷◌, ◌++◌, refl, sym, ap, subst, ◌∙◌, append_assoc, append-nil}
use Rattle.grammar_forms.specs.Forms.{Spelling, Reader, ReadOutcome, Read, Refused, only}
use Rattle.grammar_forms.specs.Faults.{Begins, IsFault}
use Rattle.grammar_forms.specs.Laws.{Alike, Run, reads, refuses, Exact}
use Rattle.grammar_forms.proofs.Alike.{alike_self}

-- Where a list splits twice, one front begins the other.
pub data Splits {T : Type 0} (w k w2 k2 : List T) : Type 0 where
  longer : (z : List T) → w2 ≡ w ++ z → k ≡ z ++ k2 → Splits w k w2 k2
  shorter : (z : List T) → w ≡ w2 ++ z → k2 ≡ z ++ k → Splits w k w2 k2

splits_on : {T : Type 0} (t t2 : T) (w k w2 k2 : List T) → t ≡ t2 → Splits w k w2 k2 → Splits (t ∷ w) k (t2 ∷ w2) k2
splits_on t t2 w k w2 k2 e (longer z a b) = longer z (cc) b
splits_on t t2 w k w2 k2 e (shorter z a b) = shorter z (cc) b

pub splits : {T : Type 0} (w k w2 k2 : List T) → w ++ k ≡ w2 ++ k2 → Splits w k w2 k2
splits [] k w2 k2 e = longer w2 refl e
splits (t ∷ w) k [] k2 e = shorter (t ∷ w) refl (sym e)
splits (t ∷ w) k (t2 ∷ w2) k2 e = splits_on t t2 w k w2 k2 (cc) (splits w k w2 k2 (cc))

module _ {T A : Type 0} (S : Spelling T A) where
  -- what a spelling goes on from begins it
  begins_front : (w z : List T) → Begins S (w ++ z) → Begins S w
  begins_front w z b = (b.0, z ++ b.1, subst (S b.0) (append_assoc w z b.1) b.2)

  begins_with : (w : List T) (t : T) (z : List T) → Begins S (w ++ t ∷ z) → Begins S (w ++ t ∷ [])
  begins_with w t z b = begins_front (w ++ t ∷ []) z (subst (Begins S) (sym (append_assoc w (t ∷ []) z)) b)

  fault_begins : (w k : List T) → IsFault S w k → Begins S w
  fault_begins w [] f = f.0
  fault_begins w (t ∷ k) f = f.0

  fault_stops : (w : List T) (t : T) (z k : List T) → IsFault S w (t ∷ z ++ k) → Begins S (w ++ t ∷ z) → ⊥
  fault_stops w t z k f b = f.1 (begins_with w t z b)

  one_split : (w k w2 k2 : List T) → IsFault S w k → IsFault S w2 k2 → Splits w k w2 k2 → (w ≡ w2) × (k ≡ k2)
  one_split w k w2 k2 f g (longer [] a b) = (sym (a ∙ append-nil w), b)
  one_split w k w2 k2 f g (longer (t ∷ z) a b) = absurd (fault_stops w t z k2 (subst (IsFault S w) b f) (subst (Begins S) a (fault_begins w2 k2 g)))
  one_split w k w2 k2 f g (shorter [] a b) = (a ∙ append-nil w2, sym b)
  one_split w k w2 k2 f g (shorter (t ∷ z) a b) = absurd (fault_stops w2 t z k (subst (IsFault S w2) b g) (subst (Begins S) a (fault_begins w k f)))

  -- a list has one fault
  pub one_fault : (w k w2 k2 : List T) → IsFault S w k → IsFault S w2 k2 → w ++ k ≡ w2 ++ k2 → (w ≡ w2) × (k ≡ k2)
  one_fault w k w2 k2 f g e = one_split w k w2 k2 f g (splits w k w2 k2 e)

  -- what spells a value has none
  pub no_fault : (x : A) (w k : List T) → S x (w ++ k) → IsFault S w k → ⊥
  no_fault x w [] s f = f.1 x (subst (S x) (append-nil w) s)
  no_fault x w (t ∷ k) s f = f.1 (begins_with w t k (x, [], subst (S x) (sym (append-nil (w ++ t ∷ k))) s))

-- What is read of a whole list, and what is refused.
module _ {T A : Type 0} (kind : T → ℕ) (S : Spelling T A) (r : Reader T A) {null : Bool} {first more : List ℕ} (E : Exact kind S r null first more) where
  abbrev refusal : List T → ReadOutcome T A
  refusal k = Refused k

  not_read : (k : List T) (x : A) → Refused k ≡ Read x [] → ⊥
  not_read k x e = cc

  not_same : (x y : A) (t : T) (k : List T) → Read x (t ∷ k) ≡ Read y [] → ⊥
  not_same x y t k e = cc

  same_rest : (j k : List T) → refusal j ≡ refusal k → j ≡ k
  same_rest j k e = cc

  pub is_read : (x : A) (ts : List T) → S x ts → only (r ts) ≡ Read x []
  is_read x ts s = ap (λ l. only (r l)) (sym (append-nil ts)) ∙ ap only (E.complete x ts [] s refl)

  spelled_run : (x : A) (ts : List T) → Run S r ts → only (r ts) ≡ Read x [] → S x ts
  spelled_run x ts (reads y w [] e s at) h =
      let there : r ts ≡ Read y [] = ap r e ∙ at [] tt in
      let same_value : Read y [] ≡ Read x [] = ap only (sym there) ∙ h in
      let v : y ≡ x = cc in
      subst (λ z. S z ts) v (subst (S y) (sym (e ∙ append-nil w)) s)
  spelled_run x ts (reads y w (t ∷ k) e s at) h = absurd (not_read (t ∷ k) x (ap only (sym (ap r e ∙ at (t ∷ k) refl)) ∙ h))
  spelled_run x ts (refuses w k y v e s at) h = absurd (not_read k x (ap only (sym (ap r e ∙ at k (alike_self k))) ∙ h))

  pub was_spelled : (x : A) (ts : List T) → only (r ts) ≡ Read x [] → S x ts
  was_spelled x ts h = spelled_run x ts (E.run ts) h

  read_whole : (x : A) (w : List T) (t : T) (v : List T) → S x ((w ++ t ∷ []) ++ v) → r (w ++ t ∷ v) ≡ Read x []
  read_whole x w t v s = ap r (sym (append_assoc w (t ∷ []) v) ∙ sym (append-nil ((w ++ t ∷ []) ++ v))) ∙ E.complete x ((w ++ t ∷ []) ++ v) [] s refl

  -- Since the reader sees no token beyond the next one, it takes the same step whatever follows.
  left_over : (y : A) (w : List T) (t : T) (k : List T) → S y w → ((j : List T) → Alike (t ∷ k) j → r (w ++ j) ≡ Read y j) → IsFault S w (t ∷ k)
  left_over y w t k s at = (
    (y, [], subst (S y) (sym (append-nil w)) s),
    λ b. not_same y b.0 t b.1 (sym (at (t ∷ b.1) refl) ∙ read_whole b.0 w t b.1 b.2),
  )

  refused_here : (y : A) (v w k : List T) → S y (w ++ v) → ((j : List T) → Alike k j → r (w ++ j) ≡ Refused j) → IsFault S w k
  refused_here y v w [] s at =
      ((y, v, s), λ x sx. not_read [] x (sym (at [] tt) ∙ E.complete x w [] sx refl))
  refused_here y v w (t ∷ k) s at =
      ((y, v, s), λ b. not_read (t ∷ b.1) b.0 (sym (at (t ∷ b.1) refl) ∙ read_whole b.0 w t b.1 b.2))

  fault_run : (ts k : List T) → Run S r ts → only (r ts) ≡ Refused k → (w : List T) × (ts ≡ w ++ k) × IsFault S w k
  fault_run ts k (reads y w [] e s at) h = absurd (not_read k y (sym h ∙ ap only (ap r e ∙ at [] tt)))
  fault_run ts k (reads y w (t ∷ j) e s at) h =
      let same : t ∷ j ≡ k = same_rest (t ∷ j) k (sym (ap only (ap r e ∙ at (t ∷ j) refl)) ∙ h) in
      (w, e ∙ ap (λ l. w ++ l) same, subst (IsFault S w) same (left_over y w t j s at))
  fault_run ts k (refuses w j y v e s at) h =
      let same : j ≡ k = same_rest j k (sym (ap only (ap r e ∙ at j (alike_self j))) ∙ h) in
      (w, e ∙ ap (λ l. w ++ l) same, subst (IsFault S w) same (refused_here y v w j s at))

  pub fault_at : (ts k : List T) → only (r ts) ≡ Refused k → (w : List T) × (ts ≡ w ++ k) × IsFault S w k
  fault_at ts k h = fault_run ts k (E.run ts) h

  -- a list spells one value
  pub one_value : (x y : A) (ts : List T) → S x ts → S y ts → x ≡ y
  one_value x y ts s t = let h : Read x [] ≡ Read y [] = sym (is_read x ts s) ∙ is_read y ts t in cc

-- A turn of an actor that knows all that was done adds its steps behind that.
use Rattle.std.proofs.Common.{ℕ, ◌≡◌, ◌+◌, ◌<◌, ◌≤◌, List, [], ◌∷◌, ◌++◌, length, length-append, append_assoc, arith, refl, sym, subst, ap, ◌∙◌}
use Rattle.std.specs.Prelude.{suc, ◌==◌, Bool, true, false, cond}
use Rattle.std.proofs.lemmas.Bool.Decides.{Decides-eqb}
use Rattle.std.proofs.lemmas.List.{append-nil}
use Rattle.actor_trace.specs.Actors.{Knows}
use Rattle.actor_trace.specs.History.{entries_of}
use Rattle.actor_trace.specs.Lists.{Begins, In}
use Rattle.trace_order.specs.Done.{Done, AreUnder, AreRising, AreBelow, AreAll, done_by}
use Rattle.trace_order.specs.Turns.{AreFrom, IsSoFar, done_more}

from_wider : {E : Type 0} (a b : ℕ) (xs : List (ℕ × E)) → AreFrom a b xs → AreFrom a (suc b) xs
from_wider a b [] low = let l : a ≤ b = low in omega arith
from_wider a b ((t, e) ∷ xs) is = (is.0, from_wider (t + 1) b xs is.1)

from_snoc : {E : Type 0} (a b : ℕ) (xs : List (ℕ × E)) (e : E) → AreFrom a b xs → AreFrom a (suc b) (xs ++ (b, e) ∷ [])
from_snoc a b [] e low = (low, omega arith)
from_snoc a b ((t, f) ∷ xs) e is = (is.0, from_snoc (t + 1) b xs e is.1)

-- what an actor did since has tickets from then on
pub record IsSince {E : Type 0} (k : ℕ) (old new : List (ℕ × E)) : Type 0 where
  pub steps : List (ℕ × E)
  pub are : entries_of k new ≡ entries_of k old ++ steps
  pub from : AreFrom (length old) (length new) steps

pub since : {E : Type 0} (k : ℕ) (later old : List (ℕ × E)) → IsSince k old (later ++ old)
since k [] old = record { steps = []; are = sym (append-nil (entries_of k old)); from = omega arith }
since {E} k (x ∷ later) old = go (since k later old) (k == x.0) refl
  where
    go : IsSince k old (later ++ old) → (b : Bool) → (k == x.0) ≡ b → IsSince k old (x ∷ (later ++ old))
    go was true same = record {
      steps = was.steps ++ (length (later ++ old), x.1) ∷ [];
      are = ap (λ (b : Bool). cond b (entries_of k (later ++ old) ++ (length (later ++ old), x.1) ∷ []) (entries_of k (later ++ old))) same
          ∙ (ap (λ (es : List (ℕ × E)). es ++ (length (later ++ old), x.1) ∷ []) was.are ∙ append_assoc (entries_of k old) was.steps ((length (later ++ old), x.1) ∷ []));
      from = from_snoc (length old) (length (later ++ old)) was.steps x.1 was.from;
    }
    go was false other = record {
      steps = was.steps;
      are = ap (λ (b : Bool). cond b (entries_of k (later ++ old) ++ (length (later ++ old), x.1) ∷ []) (entries_of k (later ++ old))) other ∙ was.are;
      from = from_wider (length old) (length (later ++ old)) was.steps was.from;
    }

under_wider : {E : Type 0} (a b : ℕ) (ds : List (Done E)) → a ≤ b → AreUnder a ds → AreUnder b ds
under_wider a b [] le is = tt
under_wider a b (d ∷ ds) le is = (let l : d.ticket < a = is.0 in omega (arith, l, le), under_wider a b ds le is.1)

more_rising : {E : Type 0} (k a b : ℕ) (xs : List (ℕ × E)) (ds : List (Done E)) → AreFrom a b xs → AreRising ds → AreUnder a ds → AreRising (done_more k xs ds) × AreUnder b (done_more k xs ds)
more_rising k a b [] ds from rising under = (rising, under_wider a b ds from under)
more_rising k a b ((t, e) ∷ xs) ds from rising under =
    let le : a ≤ t = from.0 in
    let le' : a ≤ t + 1 = omega arith in
    let less : t < t + 1 = omega arith in
    more_rising k (t + 1) b xs (record { ticket = t; by = k; event = e } ∷ ds) from.1 (under_wider a t ds le under, rising) (less, under_wider a (t + 1) ds le' under)

more_below : {E : Type 0} (n k : ℕ) (xs : List (ℕ × E)) (ds : List (Done E)) → k < n → AreBelow n ds → AreBelow n (done_more k xs ds)
more_below n k [] ds low is = is
more_below n k ((t, e) ∷ xs) ds low is = more_below n k xs (record { ticket = t; by = k; event = e } ∷ ds) low (low, is)

own_more : {E : Type 0} (k : ℕ) (xs : List (ℕ × E)) (ds : List (Done E)) → done_by k (done_more k xs ds) ≡ done_by k ds ++ xs
own_more k [] ds = sym (append-nil (done_by k ds))
own_more {E} k ((t, e) ∷ xs) ds =
    own_more k xs (record { ticket = t; by = k; event = e } ∷ ds)
    ∙ (ap (λ (b : Bool). cond b (done_by k ds ++ (t, e) ∷ []) (done_by k ds) ++ xs) ((Decides-eqb k k).1 refl) ∙ append_assoc (done_by k ds) ((t, e) ∷ []) xs)

other_more : {E : Type 0} (j k : ℕ) (xs : List (ℕ × E)) (ds : List (Done E)) → (j == k) ≡ false → done_by j (done_more k xs ds) ≡ done_by j ds
other_more j k [] ds ne = refl
other_more {E} j k ((t, e) ∷ xs) ds ne =
    other_more j k xs (record { ticket = t; by = k; event = e } ∷ ds) ne ∙ ap (λ (b : Bool). cond b (done_by j ds ++ (t, e) ∷ []) (done_by j ds)) ne

-- nothing is done at first
pub so_far_first : {E : Type 0} (n : ℕ) → IsSoFar {E = E} n 0 (λ k. []) []
so_far_first n = record { rising = tt; under = tt; below = tt; steps = λ k. refl }

-- a turn: the actor knows what the last one knew, and does something or not; the others do nothing that is theirs
pub so_far_more : {E : Type 0} (n k : ℕ) (last old new : List (ℕ × E)) (made next : ℕ → List (ℕ × E)) (done : List (Done E)) → k < n → IsSoFar n (length last) made done → Begins last old → Begins old new → made k ≡ entries_of k old → next k ≡ entries_of k new
    → ((j : ℕ) → (j == k) ≡ false → next j ≡ made j) → (more : List (Done E)) × IsSoFar n (length new) next more
so_far_more {E} n k last old new made next done low is knows adds own then others = go (since k adds.later old)
  where
    longer : length last ≤ length old
    longer = let l : length (knows.later ++ last) ≡ length knows.later + length last = length-append knows.later last in let w : length (knows.later ++ last) ≡ length old = ap length knows.whole in omega arith

    go : IsSince k old (adds.later ++ old) → (more : List (Done E)) × IsSoFar n (length new) next more
    go s =
        let from : AreFrom (length old) (length new) s.steps = subst (λ (h : List (ℕ × E)). AreFrom (length old) (length h) s.steps) adds.whole s.from in
        let r = more_rising k (length old) (length new) s.steps done from is.rising (under_wider (length last) (length old) done longer is.under) in
        let mine : entries_of k new ≡ entries_of k old ++ s.steps = ap (λ (h : List (ℕ × E)). entries_of k h) (sym adds.whole) ∙ s.are in (
          done_more k s.steps done,
          record {
            rising = r.0;
            under = r.1;
            below = more_below n k s.steps done low is.below;
            steps = λ j. by j (j == k) refl s.steps mine;
          },
        )
      where
        by : (j : ℕ) (b : Bool) → (j == k) ≡ b → (xs : List (ℕ × E)) → entries_of k new ≡ entries_of k old ++ xs → next j ≡ done_by j (done_more k xs done)
        by j true e xs mine =
            let same : j ≡ k = (Decides-eqb j k).0 e in
            subst (λ i. next i ≡ done_by i (done_more k xs done)) (sym same)
            (then ∙ (mine ∙ (ap (λ (es : List (ℕ × E)). es ++ xs) (sym own ∙ is.steps k) ∙ sym (own_more k xs done))))
        by j false ne xs mine = others j ne ∙ (is.steps j ∙ sym (other_more j k xs done ne))

pub all_so_far : {E : Type 0} (n size : ℕ) (made : ℕ → List (ℕ × E)) (done : List (Done E)) (actors : List (Knows E)) → IsSoFar n size made done → ((x : Knows E) → In x actors → x.made ≡ made x.number) → AreAll n actors done
all_so_far n size made done actors is each = record { rising = is.rising; below = is.below; made = λ x m. each x m ∙ is.steps x.number }

-- Looks, notes, splits and joins keep the rule.
use Rattle.std.proofs.Common.{◌≡◌, ℕ, ◌+◌, ◌≤◌, ◌≢◌, List, [], ◌∷◌, ◌++◌, length, set, sym, refl, ◌∙◌, arith}
use mathlib.Core.Option.{some}
use lib.ListN.{get_elem?}
use Rattle.atomic_table.proofs.Lists.{set_else}
use Rattle.actor_trace.specs.declared.view.View.{View}
use Rattle.actor_trace.specs.Lists.In.{here, there}
use Rattle.actor_trace.proofs.Totals.{total_set, total_snoc}
use Rattle.actor_trace.specs.Lists.{In, times, total}
use Rattle.actor_trace.specs.Plays.{Looks}
use Rattle.actor_trace.specs.Rules.{Kept}
use Rattle.actor_trace.specs.Views.{Fits, a_view, front, others}
use Rattle.actor_trace.proofs.Keeping.{begins_self, begins_nil, fits_set, fits_snoc, own_of}

module _ {E : Type 0} (enabled : List (ℕ × E) → ℕ → E → Type 0) (n : ℕ) where
  Rule : List ℕ → List (View E) → Type 0
  Rule words views = Kept enabled n words views

  -- other views of the same history
  pub again : (words : List ℕ) (views : List (View E)) (k : Kept enabled n words views) (views' : List (View E))
      → ((i : ℕ) (v : View E) → get_elem? views' i ≡ some v → Fits n k.log v)
      → ((a : ℕ) → total (own_of a) views' ≤ total (own_of a) views) → Kept enabled n words views'
  again words views k views' f t = record { log = k.log; word = k.word; legal = k.legal; small = k.small; few = k.few; below = k.below; fits = f; once = λ a. (let o : total (own_of a) views ≤ 1 = k.once a in let r : total (own_of a) views' ≤ total (own_of a) views = t a in omega arith) }

  -- kind 5
  pub looks : (words : List ℕ) (views : List (View E)) (id : ℕ) (v : View E) (k : Kept enabled n words views) → get_elem? views id ≡ some v
      → Kept enabled n words (set views id (a_view v.made k.log [])) × Looks enabled v (length k.log) (a_view v.made k.log [])
  looks words views id v k e =
      let w : View E = a_view v.made k.log [] in
      let fv = k.fits id v e in
      let fw : Fits n k.log w = record { sees = begins_self k.log; hears = λ s m. elim m [ ]; made = fv.made } in (
        again words views k (set views id w) (fits_set n k.log views id w fw (λ i u d g. k.fits i u g))
            (λ a. let s : total (own_of a) (set views id w) + own_of a v ≡ total (own_of a) views + own_of a w = total_set (own_of a) views id v w e in let q : own_of a w ≡ own_of a v = refl in omega arith),
        record { made = refl; sees = fv.sees; hears = fv.hears; none = refl; own = λ a xs m. (fv.made a xs m).1; length_is = refl; legal = k.legal },
      )

  -- kind 3
  pub jots : (words : List ℕ) (views : List (View E)) (id : ℕ) (v : View E) (k : Kept enabled n words views) → get_elem? views id ≡ some v
      → Kept enabled n words (set views id v ++ a_view [] v.seen [] ∷ [])
  jots words views id v k e =
      let w : View E = a_view [] v.seen [] in
      let fv = k.fits id v e in
      let fw : Fits n k.log w = record { sees = fv.sees; hears = λ s m. elim m [ ]; made = λ a xs m. elim m [ ] } in
      again words views k (set views id v ++ w ∷ []) (fits_snoc n k.log (set views id v) w fw (fits_set n k.log views id v fv (λ i u d g. k.fits i u g)))
      (λ a. let s : total (own_of a) (set views id v) + own_of a v ≡ total (own_of a) views + own_of a v = total_set (own_of a) views id v v e in
      let t : total (own_of a) (set views id v ++ w ∷ []) ≡ total (own_of a) (set views id v) + own_of a w = total_snoc (own_of a) (set views id v) w in
      let q : own_of a w ≡ 0 = refl in omega arith)

  -- kind 2
  pub deals : (words : List ℕ) (views : List (View E)) (id : ℕ) (v : View E) (k : Kept enabled n words views) → get_elem? views id ≡ some v
      → Kept enabled n words (set views id (a_view (others v.made) v.seen v.heard) ++ a_view (front v.made) [] [] ∷ [])
  deals words views id v k e =
      let l : View E = a_view (others v.made) v.seen v.heard in
      let w : View E = a_view (front v.made) [] [] in
      let fv = k.fits id v e in
      let fl : Fits n k.log l = record { sees = fv.sees; hears = fv.hears; made = λ a xs m. fv.made a xs (in_others (a, xs) v.made m) } in
      let fw : Fits n k.log w = record { sees = begins_nil k.log; hears = λ s m. elim m [ ]; made = λ a xs m. fv.made a xs (in_front (a, xs) v.made m) } in
      again words views k (set views id l ++ w ∷ []) (fits_snoc n k.log (set views id l) w fw (fits_set n k.log views id l fl (λ i u d g. k.fits i u g)))
      (λ a. let s : total (own_of a) (set views id l) + own_of a v ≡ total (own_of a) views + own_of a l = total_set (own_of a) views id v l e in
      let t : total (own_of a) (set views id l ++ w ∷ []) ≡ total (own_of a) (set views id l) + own_of a w = total_snoc (own_of a) (set views id l) w in
      let q : own_of a l + own_of a w ≡ own_of a v = cut_times a v.made in omega arith)
    where
      in_others : {A : Type 0} (x : ℕ × List (ℕ × A)) (xs : List (ℕ × List (ℕ × A))) → In x (others xs) → In x xs
      in_others x [] m = elim m [ ]
      in_others x (y ∷ xs) m = there m

      in_front : {A : Type 0} (x : ℕ × List (ℕ × A)) (xs : List (ℕ × List (ℕ × A))) → In x (front xs) → In x xs
      in_front x [] m = elim m [ ]
      in_front x (y ∷ xs) here = here
      in_front x (y ∷ xs) (there m) = elim m [ ]

      cut_times : {A : Type 0} (a : ℕ) (xs : List (ℕ × List (ℕ × A))) → times a (others xs) + times a (front xs) ≡ times a xs
      cut_times a [] = omega arith
      cut_times a (x ∷ xs) = omega arith

  -- kinds 4 and 7: a view takes in another, which is spent
  pub joins : (words : List ℕ) (views : List (View E)) (id : ℕ) (v : View E) (other : ℕ) (w both : View E) (k : Kept enabled n words views)
      → get_elem? views id ≡ some v → other ≢ id → get_elem? (set views id both) other ≡ some w
      → ((fv : Fits n k.log v) (fw : Fits n k.log w) → Fits n k.log both)
      → ((a : ℕ) → own_of a both ≤ own_of a v + own_of a w)
      → Kept enabled n words (set (set views id both) other (a_view [] [] []))
  joins words views id v other w both k e ne d fb t =
      let spent : View E = a_view [] [] [] in
      let d' : get_elem? views other ≡ some w = sym (set_else views id other both ne) ∙ d in
      let fboth : Fits n k.log both = fb (k.fits id v e) (k.fits other w d') in
      let fs : Fits n k.log spent = record { sees = begins_nil k.log; hears = λ s m. elim m [ ]; made = λ a xs m. elim m [ ] } in
      again words views k (set (set views id both) other spent) (fits_set n k.log (set views id both) other spent fs (λ i u ne' g. fits_set n k.log views id both fboth (λ i u d g. k.fits i u g) i u g))
      (λ a. let s : total (own_of a) (set views id both) + own_of a v ≡ total (own_of a) views + own_of a both = total_set (own_of a) views id v both e in
      let r : total (own_of a) (set (set views id both) other spent) + own_of a w ≡ total (own_of a) (set views id both) + own_of a spent = total_set (own_of a) (set views id both) other w spent d in
      let q : own_of a spent ≡ 0 = refl in
      let u : own_of a both ≤ own_of a v + own_of a w = t a in omega arith)

-- Kind 6: a step of an actor that has its number alone.
use Rattle.std.proofs.Common.{◌≡◌, ℕ, suc, ◌+◌, ◌<◌, ◌≤◌, ◌≢◌, List, [], ◌∷◌, ◌++◌, length, set, sym, refl, ap, subst, ◌∙◌, arith, length-append}
use mathlib.Core.Option.{some}
use mathlib.Core.Logic.{dite}
use native.Mathlib.Decide.{ℕ_discrete}
use lib.ListN.{get_elem?}
use Rattle.actor_trace.specs.declared.view.View.{View}
use Rattle.actor_trace.specs.Lists.In.{here, there}
use Rattle.actor_trace.proofs.Totals.{total_set, total_two, times_has}
use Rattle.actor_trace.proofs.Entries.{entries_same, entries_else}
use Rattle.actor_trace.specs.History.{IsLegal, entries_of}
use Rattle.actor_trace.specs.Lists.{Begins, In, times, total}
use Rattle.actor_trace.specs.Plays.{Told}
use Rattle.actor_trace.specs.Rules.{Kept}
use Rattle.actor_trace.specs.Views.{Fits, a_view}
use Rattle.actor_trace.proofs.Keeping.{begins_self, begins_more, fits_set, own_of}

abbrev second : {B : Type 0} → List (ℕ × List B) → List B
second [] = []
second (x ∷ xs) = x.1

module _ {E : Type 0} (enabled : List (ℕ × E) → ℕ → E → Type 0) (known : (later h : List (ℕ × E)) (i : ℕ) (e : E) → IsLegal enabled (later ++ h) → entries_of i (later ++ h) ≡ entries_of i h → enabled h i e → enabled (later ++ h) i e) where
  -- what is enabled by what was seen is enabled
  pub still : (log seen : List (ℕ × E)) (a : ℕ) (e : E) → IsLegal enabled log → Begins seen log → entries_of a log ≡ entries_of a seen
      → enabled seen a e → enabled log a e
  still log seen a e legal b own en =
      let own' : entries_of a (b.later ++ seen) ≡ entries_of a seen = subst (λ t. entries_of a t ≡ entries_of a seen) (sym b.whole) own in
      let legal' : IsLegal enabled (b.later ++ seen) = subst (λ t. IsLegal enabled t) (sym b.whole) legal in
      subst (λ t. enabled t a e) b.whole (known b.later seen a e legal' own' en)

  pub tells_more : (n : ℕ) (words : List ℕ) (views : List (View E)) (id : ℕ) (v : View E) (a : ℕ) (e : E) (xs : List (ℕ × E)) (k : Kept enabled n words views) → get_elem? views id ≡ some v
      → v.made ≡ (a, xs) ∷ [] → length xs < 2147483648 → xs ≡ entries_of a v.seen → enabled v.seen a e
      → (m : ℕ) → m ≡ length k.log + 1
      → Kept enabled n (m ∷ []) (set views id (a_view ((a, xs ++ (length k.log, e) ∷ []) ∷ []) ((a, e) ∷ k.log) []))
      × Told enabled a e v (length k.log) (a_view ((a, xs ++ (length k.log, e) ∷ []) ∷ []) ((a, e) ∷ k.log) [])
  tells_more n words views id v a e xs k g made room own en m m_is = (kept, told)
    where
      log : List (ℕ × E)
      log = k.log

      log' : List (ℕ × E)
      log' = (a, e) ∷ log

      fv : Fits n k.log v
      fv = k.fits id v g

      stands : In (a, xs) v.made
      stands = subst (λ t. In (a, xs) t) (sym made) here

      truth : xs ≡ entries_of a k.log
      truth = (fv.made a xs stands).1

      w : View E
      w = a_view ((a, xs ++ (length k.log, e) ∷ []) ∷ []) ((a, e) ∷ k.log) []

      legal' : IsLegal enabled ((a, e) ∷ k.log)
      legal' = (still k.log v.seen a e k.legal fv.sees (sym truth ∙ own) en, k.legal)

      entries : xs ++ (length k.log, e) ∷ [] ≡ entries_of a ((a, e) ∷ k.log)
      entries = ap (λ t. t ++ (length k.log, e) ∷ []) truth ∙ sym (entries_same a e k.log)

      fw : Fits n ((a, e) ∷ k.log) (a_view ((a, xs ++ (length k.log, e) ∷ []) ∷ []) ((a, e) ∷ k.log) [])
      fw = record { sees = begins_self ((a, e) ∷ k.log); hears = λ s m. elim m [ ]; made = mine }
        where
          mine : (b : ℕ) (ys : List (ℕ × E)) → In {A = ℕ × List (ℕ × E)} (b, ys) ((a, xs ++ (length k.log, e) ∷ []) ∷ []) → (b < n) × (ys ≡ entries_of b ((a, e) ∷ k.log))
          mine b ys here = ((fv.made a xs stands).0, entries)
          mine b ys (there q) = elim q [ ]

      -- another view has not this number
      apart : (i : ℕ) (u : View E) → i ≢ id → get_elem? views i ≡ some u → (b : ℕ) (ys : List (ℕ × E)) → In (b, ys) u.made → b ≢ a
      apart i u ne d b ys q h =
          let one : 1 ≤ times a v.made = times_has a xs v.made stands in
          let two : 1 ≤ times b u.made = times_has b ys u.made q in
          let two' : 1 ≤ times a u.made = subst (λ t. 1 ≤ times t u.made) h two in
          let s : own_of a v + own_of a u ≤ total (own_of a) views = total_two (own_of a) views id i v u ne g d in
          let o : total (own_of a) views ≤ 1 = k.once a in
          absurd (omega arith)

      others_fit : (i : ℕ) (u : View E) → i ≢ id → get_elem? views i ≡ some u → Fits n ((a, e) ∷ k.log) u
      others_fit i u ne d =
          let f = k.fits i u d in
          record {
            sees = begins_more (a, e) u.seen k.log f.sees;
            hears = λ s m. begins_more (a, e) s k.log (f.hears s m);
            made = λ b ys q. ((f.made b ys q).0, (f.made b ys q).1 ∙ sym (entries_else b a e k.log (apart i u ne d b ys q)));
          }

      few' : (b : ℕ) → length (entries_of b ((a, e) ∷ k.log)) ≤ 2147483648
      few' b = dite (ℕ_discrete b a)
          (λ q. subst (λ t. length (entries_of t ((a, e) ∷ k.log)) ≤ 2147483648) (sym q) (let l : length (xs ++ (length k.log, e) ∷ []) ≡ length xs + 1 = length-append xs ((length k.log, e) ∷ []) in let r : length (xs ++ (length k.log, e) ∷ []) ≡ length (entries_of a ((a, e) ∷ k.log)) = ap length entries in omega arith))
          (λ q. let r : length (entries_of b ((a, e) ∷ k.log)) ≡ length (entries_of b k.log) = ap length (entries_else b a e k.log q) in let f : length (entries_of b k.log) ≤ 2147483648 = k.few b in omega arith)

      same_own : (b : ℕ) → own_of b w ≡ own_of b v
      same_own b = sym (ap (λ t. times b t) made)

      kept : Kept enabled n (m ∷ []) (set views id (a_view ((a, xs ++ (length k.log, e) ∷ []) ∷ []) ((a, e) ∷ k.log) []))
      kept = record {
        log = (a, e) ∷ k.log;
        word = ap (λ t. t ∷ []) (m_is ∙ (let z : length k.log + 1 ≡ suc (length k.log) = omega arith in z));
        legal = legal';
        small = k.small;
        few = few';
        below = ((fv.made a xs stands).0, k.below);
        fits = fits_set n ((a, e) ∷ k.log) views id w fw others_fit;
        once = λ b. (let s : total (own_of b) (set views id w) + own_of b v ≡ total (own_of b) views + own_of b w = total_set (own_of b) views id v w g in let q : own_of b w ≡ own_of b v = same_own b in let o : total (own_of b) views ≤ 1 = k.once b in omega arith);
      }

      told : Told enabled a e v (length k.log) (a_view ((a, xs ++ (length k.log, e) ∷ []) ∷ []) ((a, e) ∷ k.log) [])
      told = record {
        made = λ ys q. (let p : (a, xs) ∷ [] ≡ (a, ys) ∷ [] = sym made ∙ q in let h : xs ≡ ys = ap second p in ap (λ t. (a, t ++ (length k.log, e) ∷ []) ∷ []) h);
        adds = record { between = fv.sees.later; whole = ap (λ t. (a, e) ∷ t) (sym fv.sees.whole); none = ap (λ t. entries_of a t) fv.sees.whole ∙ (sym truth ∙ own) };
        none = refl;
        length_is = (let z : length k.log + 1 ≡ suc (length k.log) = omega arith in z);
        legal = legal';
      }

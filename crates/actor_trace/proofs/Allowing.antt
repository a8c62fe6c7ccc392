-- What the table asks of each kind of step.
use Rattle.std.proofs.Common.{◌≡◌, ℕ, zero, suc, ◌+◌, ◌<◌, ◌≤◌, List, [], ◌∷◌, ◌++◌, set, sym, refl, subst, arith}
use Rattle.std.specs.Prelude.{slice_index}
use mathlib.Core.Option.{some, some-injective, some-ne-none}
use Rattle.std.proofs.Common.{◌⊎◌, inl, inr}
use Rattle.actor_trace.proofs.Dealt.{deal_fits, deal_once}
use lib.ListN.{get_elem?}
use Rattle.atomic_table.specs.Table.{State, Me, Allows, Splits, Joins, Enters}
use Rattle.atomic_table.specs.Table.Act.{keeps}
use Rattle.actor_trace.specs.declared.view.View.{View}
use Rattle.actor_trace.specs.Lists.In.{here, there}
use Rattle.actor_trace.proofs.Totals.{times_append, in_append, total_snoc}
use Rattle.actor_trace.proofs.Keeping.{own_of, begins_nil, fits_snoc}
use Rattle.actor_trace.specs.History.{entries_of}
use Rattle.actor_trace.specs.Lists.{Begins, In, deal, times, total}
use Rattle.actor_trace.specs.Plays.{Looks}
use Rattle.actor_trace.specs.Rules.{Kept}
use Rattle.actor_trace.specs.Views.{Fits, a_view, front, others}
use Rattle.actor_trace.proofs.Keeps as keeping

module _ {E : Type 0} (enabled : List (ℕ × E) → ℕ → E → Type 0) where
  Holds : ℕ → State (Unit {0}) (View E) → Type 0
  Holds n s = Kept enabled n s.words s.views

  pub look_allowed : (n slots id : ℕ) (me : Me (Unit {0}) (View E))
      → Allows (λ (s : State (Unit {0}) (View E)). Kept enabled n s.words s.views) slots id me 0 (λ m. m) (λ found w. (w.1 ≡ me.1) × Looks enabled me.0 found w.0)
  look_allowed n slots id me s k len get lt =
      let w : View E = a_view me.0.made k.log [] in
      let r = keeping.looks enabled n s.words s.views id me.0 k get in (
        w,
        keeps,
        tt,
        subst (λ (ws : List ℕ). Kept enabled n (set ws 0 (slice_index ws 0)) (set s.views id w)) (sym k.word)
            (subst (λ (ws : List ℕ). Kept enabled n ws (set s.views id w)) k.word r.0),
        (refl, subst (λ (ws : List ℕ). Looks enabled me.0 (slice_index ws 0) w) (sym k.word) r.1),
      )

  pub jot_allowed : (n id : ℕ) (v : View E) → Splits (λ (s : State (Unit {0}) (View E)). Kept enabled n s.words s.views) id v v (a_view [] v.seen [])
  jot_allowed n id v s k get = keeping.jots enabled n s.words s.views id v k get

  pub deal_allowed : (n id : ℕ) (v : View E) → Splits (λ (s : State (Unit {0}) (View E)). Kept enabled n s.words s.views) id v (a_view (others v.made) v.seen v.heard) (a_view (front v.made) [] [])
  deal_allowed n id v s k get = keeping.deals enabled n s.words s.views id v k get

  pub heard_more : {n : ℕ} {log : List (ℕ × E)} {v w : View E} → Fits n log v → Fits n log w → (s : List (ℕ × E)) → In s (w.seen ∷ v.heard) → Begins s log
  heard_more fv fw s here = fw.sees
  heard_more fv fw s (there m) = fv.hears s m

  heard_last : {n : ℕ} {log : List (ℕ × E)} {v w : View E} → Fits n log v → Fits n log w → (s : List (ℕ × E)) → In s v.heard ⊎ In s (w.seen ∷ []) → Begins s log
  heard_last fv fw s (inl m) = fv.hears s m
  heard_last fv fw s (inr here) = fw.sees
  heard_last fv fw s (inr (there m)) = elim m [ ]

  -- a new seat that knows nothing
  pub enter_allowed : (n slots : ℕ) → Enters (λ (s : State (Unit {0}) (View E)). Kept enabled n s.words s.views) slots 0 (λ found w. w ≡ a_view [] [] [])
  enter_allowed n slots s k len lt =
      let w : View E = a_view [] [] [] in
      let fw : Fits n k.log w = record { sees = begins_nil k.log; hears = λ s m. elim m [ ]; made = λ a xs m. elim m [ ] } in (
        w,
        keeping.again enabled n s.words s.views k (s.views ++ w ∷ []) (fits_snoc n k.log s.views w fw k.fits)
            (λ a. let t : total (own_of a) (s.views ++ w ∷ []) ≡ total (own_of a) s.views + own_of a w = total_snoc (own_of a) s.views w in let q : own_of a w ≡ 0 = refl in omega arith),
        refl,
      )

  pub hear_allowed : (n id : ℕ) (v : View E) (other : ℕ) (w : View E) → Joins (λ (s : State (Unit {0}) (View E)). Kept enabled n s.words s.views) id v other w (a_view v.made v.seen (w.seen ∷ v.heard)) (a_view [] [] [])
  hear_allowed n id v other w s k get ne d =
      keeping.joins enabled n s.words s.views id v other w (a_view v.made v.seen (w.seen ∷ v.heard)) k get ne d
      (λ fv fw. record { sees = fv.sees; hears = heard_more fv fw; made = fv.made })
      (λ a. omega arith)

  pub gather_allowed : (n id : ℕ) (v : View E) (other : ℕ) (w : View E) → Joins (λ (s : State (Unit {0}) (View E)). Kept enabled n s.words s.views) id v other w (a_view (v.made ++ w.made) v.seen (v.heard ++ w.seen ∷ [])) (a_view [] [] [])
  gather_allowed n id v other w s k get ne d =
      keeping.joins enabled n s.words s.views id v other w (a_view (v.made ++ w.made) v.seen (v.heard ++ w.seen ∷ [])) k get ne d
      (λ fv fw. record { sees = fv.sees; hears = λ s m. heard_last fv fw s (in_append s v.heard (w.seen ∷ []) m); made = λ a xs m. either_made fv fw a xs (in_append (a, xs) v.made w.made m) })
      (λ a. let q : own_of a (a_view (v.made ++ w.made) v.seen (v.heard ++ w.seen ∷ [])) ≡ own_of a v + own_of a w = times_append a v.made w.made in omega arith)
    where
      either_made : {log : List (ℕ × E)} → Fits n log v → Fits n log w → (a : ℕ) (xs : List (ℕ × E)) → In {A = ℕ × List (ℕ × E)} (a, xs) v.made ⊎ In {A = ℕ × List (ℕ × E)} (a, xs) w.made → (a < n) × (xs ≡ entries_of a log)
      either_made fv fw a xs (inl m) = fv.made a xs m
      either_made fv fw a xs (inr m) = fw.made a xs m

  -- the start
  pub opens : (n : ℕ) → n < 4294967296 → Kept enabled n (0 ∷ []) (a_view (deal 0 n) [] [] ∷ [])
  opens n small = record { log = []; word = refl; legal = tt; small = small; few = λ a. omega arith; below = tt; fits = fits; once = λ a. (let t : times a (deal {B = ℕ × E} 0 n) ≤ 1 = deal_once (ℕ × E) a 0 n in omega arith) }
    where
      fits : (i : ℕ) (v : View E) → get_elem? (a_view (deal 0 n) [] [] ∷ []) i ≡ some v → Fits n [] v
      fits zero v e = subst (λ (u : View E). Fits n [] u) (some-injective (a_view (deal 0 n) [] []) v e) (record { sees = begins_nil []; hears = λ s m. elim m [ ]; made = λ a xs m. deal_fits a xs 0 n n (omega arith) m })
      fits (suc i) v e = absurd (some-ne-none v (sym e))

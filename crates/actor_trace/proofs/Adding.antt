-- What the table asks of a step.
use Rattle.std.proofs.Common.{◌≡◌, ℕ, ◌+◌, ◌*◌, ◌%◌, ◌^◌, ◌<◌, ◌≤◌, List, [], ◌∷◌, ◌++◌, length, set, sym, refl, subst, ◌∙◌, arith}
use Rattle.std.specs.Prelude.{slice_index}
use Rattle.atomic_table.specs.Table.{State, Me, Allows}
use Rattle.atomic_table.specs.Table.Act.{keeps}
use Rattle.actor_trace.specs.declared.view.View.{View}
use Rattle.actor_trace.proofs.Entries.{length_bound}
use Rattle.actor_trace.specs.History.{IsLegal, entries_of}
use Rattle.actor_trace.specs.Plays.{Told}
use Rattle.actor_trace.specs.Rules.{Kept}
use Rattle.actor_trace.specs.Views.{a_view}
use Rattle.actor_trace.proofs.Telling as telling

second_one : {E : Type 0} (e f : E) → e ∷ [] ≡ f ∷ [] → e ≡ f
second_one e f p = cc (p)

module _ {E : Type 0} (enabled : List (ℕ × E) → ℕ → E → Type 0) (known : (later h : List (ℕ × E)) (i : ℕ) (e : E) → IsLegal enabled (later ++ h) → entries_of i (later ++ h) ≡ entries_of i h → enabled h i e → enabled (later ++ h) i e) where
  pub tell_allowed : (n slots id : ℕ) (me : Me (Unit {0}) (View E)) (a by : ℕ) (e : E) (xs : List (ℕ × E)) (events : List E)
      → by ≡ a → events ≡ e ∷ [] → me.0.made ≡ (a, xs) ∷ [] → length xs < 2147483648 → xs ≡ entries_of a me.0.seen → enabled me.0.seen a e
      → Allows (λ (s : State (Unit {0}) (View E)). Kept enabled n s.words s.views) slots id me 0 (λ m. (m + 1) % 2 ^ 64)
      (λ found w. (w.1 ≡ me.1) × ((f : E) → events ≡ f ∷ [] → Told enabled by f me.0 found w.0))
  tell_allowed n slots id me a by e xs events by_is events_are made room own en s k len get lt =
      let old : ℕ = length k.log in
      let w : View E = a_view ((a, xs ++ (old, e) ∷ []) ∷ []) ((a, e) ∷ k.log) [] in
      let bound : old ≤ n * 2147483648 = length_bound n 2147483648 k.log k.below k.few in
      let small : n < 4294967296 = k.small in
      let m_is : (old + 1) % 18446744073709551616 ≡ old + 1 = omega arith in
      let r = telling.tells_more enabled known n s.words s.views id me.0 a e xs k get made room own en ((old + 1) % 18446744073709551616) m_is in (
        w,
        keeps,
        tt,
        subst (λ (ws : List ℕ). Kept enabled n (set ws 0 ((slice_index ws 0 + 1) % 18446744073709551616)) (set s.views id w)) (sym k.word) r.0,
        (
          refl,
          λ f q. subst (λ (ws : List ℕ). Told enabled by f me.0 (slice_index ws 0) w) (sym k.word)
              (subst (λ (b : ℕ). Told enabled b f me.0 old w) (sym by_is) (subst (λ (g : E). Told enabled a g me.0 old w) (second_one e f (sym events_are ∙ q)) r.1)),
        ),
      )

-- Which nodes the lines have up, by the nodes themselves.
use Rattle.std.proofs.Common.{ℕ, ◌≡◌, ◌+◌, ◌<◌, ◌≤◌, List, arith, refl, sym, ap, ◌∙◌}
use Rattle.std.specs.Prelude.{zero, suc, ◌==◌, Bool, true, false, if◌then◌else◌, Some}
use Rattle.std.proofs.lemmas.Bool.Decides.{Decides-eqb}
use Rattle.cluster_events.specs.Parts.{ActorEvent, field, lines}
use Rattle.cluster_events.specs.Settings.{Setting}
use Rattle.cluster_events.specs.Sites.{next_node, next_up}
use Rattle.cluster_events.proofs.LinePlaces.{sees}
use mathlib.Core.Logic.{◌⊎◌, inl, inr}
use Rattle.core_lists.proofs.Numbers.{lt_or_eq}
use Rattle.report_laws.specs.Nodes.{is_up, up_count}
use Rattle.report_text.specs.declared.reports.Line.{Line}
use Rattle.session_sites.specs.Sites.{AgreeUpTo, count_by, next_by}

-- a node that was up is so by the lines as it is
pub up_as_told : (G : Setting) (h : List (ℕ × ActorEvent)) (k : ℕ) → ((field h).core.nodes k).was_up ≡ true → is_up k (lines G h) ≡ ((field h).core.nodes k).up
up_as_told G h k was = go ((field h).core.nodes k).up refl
  where
    go : (b : Bool) → ((field h).core.nodes k).up ≡ b → is_up k (lines G h) ≡ ((field h).core.nodes k).up
    go true e = (sees G h k).up e ∙ sym e
    go false e = (sees G h k).down e was ∙ sym e

-- the node behind a node is one of n
next_within : (n k : ℕ) → 1 ≤ n → k ≤ n → (1 ≤ next_node n k) × (next_node n k ≤ n)
next_within n k some le = go (k == n) refl
  where
    go : (b : Bool) → (k == n) ≡ b → (1 ≤ (if b then 1 else k + 1)) × ((if b then 1 else k + 1) ≤ n)
    go true e = let one : 1 ≤ 1 = omega arith in (one, some)
    go false e = let one : 1 ≤ k + 1 = omega arith in (one, less (apart e))
      where
        apart : (k == n) ≡ false → k ≡ n → ⊥
        apart e q = let y : (k == n) ≡ true = (Decides-eqb k n).1 q in let z : true ≡ false = sym y ∙ e in absurd (cc)

        less : (k ≡ n → ⊥) → k + 1 ≤ n
        less ne = at_most (lt_or_eq k n le)
          where
            at_most : (k < n) ⊎ (k ≡ n) → k + 1 ≤ n
            at_most (inl lt) = omega arith
            at_most (inr q) = absurd (ne q)

pub next_as_told : (more n : ℕ) (ls : List Line) (up : ℕ → Bool) (k : ℕ) → 1 ≤ n → k ≤ n → AgreeUpTo n (λ j. is_up j ls) up → next_up more n ls k ≡ next_by more n up k
next_as_told zero n ls up k some le agree = refl
next_as_told (suc more) n ls up k some le agree =
    let w = next_within n k some le in
    ap (λ b. if b then Some (next_node n k) else next_up more n ls (next_node n k)) (agree (next_node n k) w.0 w.1)
    ∙ ap (λ z. if up (next_node n k) then Some (next_node n k) else z) (next_as_told more n ls up (next_node n k) some w.1 agree)

pub count_as_told : (n m : ℕ) (ls : List Line) (up : ℕ → Bool) → n ≤ m → AgreeUpTo m (λ j. is_up j ls) up → up_count n ls ≡ count_by n up
count_as_told zero m ls up le agree = refl
count_as_told (suc n) m ls up le agree =
    ap (λ z. z + (if is_up (suc n) ls then 1 else 0)) (count_as_told n m ls up (omega arith) agree)
    ∙ ap (λ b. count_by n up + (if b then 1 else 0)) (agree (suc n) (omega arith) le)

-- What events tell that come behind others, and what steps tell by their events.
use Rattle.std.proofs.Common.{ℕ, ◌≡◌, ◌+◌, List, [], ◌∷◌, ◌++◌, arith, refl, sym, ap, ◌∙◌, append_assoc}
use Rattle.std.specs.Prelude.{Option, Some, None}
use Rattle.cluster_steps.specs.declared.events.Event.{Event}
use Rattle.history_base.specs.Sizes.{lengths_with}
use Rattle.kept_log.specs.Kept.{Kept}
use Rattle.node_state.specs.Nodes.{events_of}
use Rattle.run_nodes.specs.SoFar.{faults_by, first_by, noted_by}
use Rattle.run_results.specs.Stores.{fault_of, faults_in, first_in, noted_in, or_before, up_of}

pub before_none : (o : Option Kept) → or_before o None ≡ o
before_none None = refl
before_none (Some k) = refl

before_both : (a b c : Option Kept) → or_before a (or_before b c) ≡ or_before (or_before a b) c
before_both None b c = refl
before_both (Some k) b c = refl

pub first_more : (xs es : List Event) → first_by (xs ++ es) ≡ or_before (first_by xs) (first_by es)
first_more [] es = refl
first_more (x ∷ xs) es = ap (λ o. or_before (up_of x) o) (first_more xs es) ∙ before_both (up_of x) (first_by xs) (first_by es)

pub faults_more : (xs es : List Event) → faults_by (xs ++ es) ≡ faults_by xs + faults_by es
faults_more [] es = omega arith
faults_more (x ∷ xs) es =
    let q : faults_by (xs ++ es) ≡ faults_by xs + faults_by es = faults_more xs es in
    omega arith

pub noted_more : (xs es : List Event) → noted_by (xs ++ es) ≡ noted_by xs ++ noted_by es
noted_more [] es = refl
noted_more (x ∷ xs) es = ap (λ (ls : List ℕ). lengths_with [] x ++ ls) (noted_more xs es) ∙ sym (append_assoc (lengths_with [] x) (noted_by xs) (noted_by es))

pub first_steps : (xs : List (ℕ × Event)) → first_in xs ≡ first_by (events_of xs)
first_steps [] = refl
first_steps (x ∷ xs) = ap (λ o. or_before (up_of x.1) o) (first_steps xs)

pub faults_steps : (xs : List (ℕ × Event)) → faults_in xs ≡ faults_by (events_of xs)
faults_steps [] = refl
faults_steps (x ∷ xs) = ap (λ n. fault_of x.1 + n) (faults_steps xs)

pub noted_steps : (xs : List (ℕ × Event)) → noted_in xs ≡ noted_by (events_of xs)
noted_steps [] = refl
noted_steps (x ∷ xs) = ap (λ (ls : List ℕ). lengths_with [] x.1 ++ ls) (noted_steps xs)

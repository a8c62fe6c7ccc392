-- What a node's own steps tell of a history.
use Rattle.std.proofs.Common.{ℕ, ◌≡◌, ◌+◌, List, [], ◌∷◌, ◌++◌, length, arith, refl, sym, ap, ◌∙◌}
use Rattle.std.specs.Prelude.{◌==◌, Bool, true, false, cond, Option, Some, None}
use Rattle.std.proofs.Common.{append_assoc}
use Rattle.std.proofs.lemmas.List.{append-nil}
use Rattle.actor_trace.specs.History.{entries_of}
use Rattle.cluster_steps.specs.declared.events.Event.{Event}
use Rattle.cluster_steps.specs.declared.events.Event.TheVariants as event
use Rattle.history_base.specs.Sizes.{lengths_with, up_lengths}
use Rattle.kept_log.specs.Kept.{Kept}
use Rattle.run_results.specs.Stores.{fault_of, faults_in, faults_of, first_in, first_up, noted_in, or_before, up_of}

before_none : (o : Option Kept) → or_before o None ≡ o
before_none None = refl
before_none (Some k) = refl

before_both : (a b c : Option Kept) → or_before a (or_before b c) ≡ or_before (or_before a b) c
before_both None b c = refl
before_both (Some k) b c = refl

first_snoc : (xs : List (ℕ × Event)) (t : ℕ) (e : Event) → first_in (xs ++ (t, e) ∷ []) ≡ or_before (first_in xs) (up_of e)
first_snoc [] t e = before_none (up_of e)
first_snoc (x ∷ xs) t e = ap (λ o. or_before (up_of x.1) o) (first_snoc xs t e) ∙ before_both (up_of x.1) (first_in xs) (up_of e)

pub first_is : (k : ℕ) (h : List (ℕ × Event)) → first_up k h ≡ first_in (entries_of k h)
first_is k [] = refl
first_is k (x ∷ h) = go (k == x.0) (first_is k h)
  where
    go : (b : Bool) → first_up k h ≡ first_in (entries_of k h) → or_before (first_up k h) (cond b (up_of x.1) None) ≡ first_in (cond b (entries_of k h ++ (length h, x.1) ∷ []) (entries_of k h))
    go true e = ap (λ o. or_before o (up_of x.1)) e ∙ sym (first_snoc (entries_of k h) (length h) x.1)
    go false e = before_none (first_up k h) ∙ e

faults_snoc : (xs : List (ℕ × Event)) (t : ℕ) (e : Event) → faults_in (xs ++ (t, e) ∷ []) ≡ fault_of e + faults_in xs
faults_snoc [] t e = refl
faults_snoc (x ∷ xs) t e =
    let q : faults_in (xs ++ (t, e) ∷ []) ≡ fault_of e + faults_in xs = faults_snoc xs t e in
    omega arith

pub faults_are : (k : ℕ) (h : List (ℕ × Event)) → faults_of k h ≡ faults_in (entries_of k h)
faults_are k [] = refl
faults_are k (x ∷ h) = go (k == x.0) (faults_are k h)
  where
    go : (b : Bool) → faults_of k h ≡ faults_in (entries_of k h) → cond b (fault_of x.1) 0 + faults_of k h ≡ faults_in (cond b (entries_of k h ++ (length h, x.1) ∷ []) (entries_of k h))
    go true e = ap (λ n. fault_of x.1 + n) e ∙ sym (faults_snoc (entries_of k h) (length h) x.1)
    go false e = let q : faults_of k h ≡ faults_in (entries_of k h) = e in omega arith

lengths_more : (ls : List ℕ) (e : Event) → lengths_with ls e ≡ ls ++ lengths_with [] e
lengths_more ls (event.Up how promised accepted entries) = refl
lengths_more ls _ = sym (append-nil ls)

noted_snoc : (xs : List (ℕ × Event)) (t : ℕ) (e : Event) → noted_in (xs ++ (t, e) ∷ []) ≡ noted_in xs ++ lengths_with [] e
noted_snoc [] t e = append-nil (lengths_with [] e)
noted_snoc (x ∷ xs) t e = ap (λ (ls : List ℕ). lengths_with [] x.1 ++ ls) (noted_snoc xs t e) ∙ sym (append_assoc (lengths_with [] x.1) (noted_in xs) (lengths_with [] e))

pub lengths_are : (k : ℕ) (h : List (ℕ × Event)) → up_lengths k h ≡ noted_in (entries_of k h)
lengths_are k [] = refl
lengths_are k (x ∷ h) = go (k == x.0) (lengths_are k h)
  where
    go : (b : Bool) → up_lengths k h ≡ noted_in (entries_of k h) → cond b (lengths_with (up_lengths k h) x.1) (up_lengths k h) ≡ noted_in (cond b (entries_of k h ++ (length h, x.1) ∷ []) (entries_of k h))
    go true e = lengths_more (up_lengths k h) x.1 ∙ (ap (λ (ls : List ℕ). ls ++ lengths_with [] x.1) e ∙ sym (noted_snoc (entries_of k h) (length h) x.1))
    go false e = e

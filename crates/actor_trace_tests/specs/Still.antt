-- What stays so in the ledger: what the machine's law needs.
use Rattle.std.specs.Prelude.{ℕ, ◌≡◌, ◌≢◌, ◌||◌, Bool, true, false, List, [], ◌∷◌, ◌++◌, refl}
use mathlib.Core.Path.{sym, ◌∙◌}
use Rattle.actor_trace.specs.History.{IsLegal, entries_of}
use Rattle.actor_trace.proofs.Entries.{idle_step}
use Rattle.actor_trace_tests.specs.declared.entries.Entry.{Entry}
use Rattle.actor_trace_tests.specs.declared.entries.Entry.TheVariants.{Add, Read}
use Rattle.actor_trace_tests.specs.Entries.{is_given}
use Rattle.actor_trace_tests.specs.Ledger.{count_of, turn_of, gives, MayWrite}

abbrev pub Ruled : List (ℕ × Entry) → Type 0
Ruled h = IsLegal (λ g i e. MayWrite g i e) h

-- What a history gives stays given.
pub gives_more : (later h : List (ℕ × Entry)) (v i : ℕ) → gives v i h ≡ true → gives v i (later ++ h) ≡ true
gives_more [] h v i g = g
gives_more (x ∷ later) h v i g = go (is_given v i x.1) (gives_more later h v i g)
  where
    go : (t : Bool) → gives v i (later ++ h) ≡ true → (t || gives v i (later ++ h)) ≡ true
    go true r = refl
    go false r = r

-- Who has the turn has it until it adds, and the counter stands still.
turn_stays : (later h : List (ℕ × Entry)) (i : ℕ) → Ruled (later ++ h) → entries_of i (later ++ h) ≡ entries_of i h → turn_of h ≡ i
    → (turn_of (later ++ h) ≡ i) × (count_of (later ++ h) ≡ count_of h)
turn_stays [] h i legal own t = (t, refl)
turn_stays ((a, Read v) ∷ later) h i legal own t = turn_stays later h i legal.1 (idle_step i (a, Read v) later h own).1 t
turn_stays ((a, Add v n) ∷ later) h i legal own t =
    let idle : (i ≢ a) × (entries_of i (later ++ h) ≡ entries_of i h) = idle_step i (a, Add v n) later h own in
    absurd (idle.0 (sym (turn_stays later h i legal.1 idle.1 t).0 ∙ legal.0.0))

-- What an actor may write it may write while it does nothing.
pub stays : (later h : List (ℕ × Entry)) (i : ℕ) (e : Entry) → IsLegal (λ g j f. MayWrite g j f) (later ++ h)
    → entries_of i (later ++ h) ≡ entries_of i h → MayWrite h i e → MayWrite (later ++ h) i e
stays later h i (Add v n) legal own may =
    let s : (turn_of (later ++ h) ≡ i) × (count_of (later ++ h) ≡ count_of h) = turn_stays later h i legal own may.0 in
    (s.0, may.1 ∙ sym s.1)
stays later h i (Read v) legal own may = (may.0, gives_more later h v may.0 may.1)

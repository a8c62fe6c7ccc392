-- Who has the turn, and what a turn tells.
use Rattle.std.proofs.Common.{◌≡◌, ℕ, suc, ◌+◌, ◌<◌, Bool, true, false, cond, List, [], ◌∷◌, ◌++◌, length, sym, refl, ap, subst, ◌∙◌, arith}
use Rattle.std.specs.Prelude.{◌==◌, ◌||◌, ◌&&◌, nat_lt, Some}
use Rattle.std.specs.List.{AllPass, range_with_len}
use Rattle.std.proofs.lemmas.Bool.Decides.{Decides-eqb, Decides-ltb}
use Rattle.std.proofs.lemmas.List.Elements.{All-pop}
use Rattle.actor_trace.specs.Lists.{Begins}
use Rattle.actor_trace.specs.History.{entries_of}
use Rattle.actor_trace.specs.Steps.{Adds, Rests}
use Rattle.actor_trace.proofs.Totals.{eq_self}
use Rattle.actor_trace.proofs.Entries.{entries_same}
use Rattle.actor_trace_tests.specs.declared.entries.Entry.{Entry}
use Rattle.actor_trace_tests.specs.declared.entries.Entry.TheVariants.{Add, Read}
use Rattle.actor_trace_tests.specs.Entries.{is_below, is_given}
use Rattle.actor_trace_tests.specs.Ledger.{count_of, turn_of, gives, values_of, adders_of, named_of}
use Rattle.actor_trace_tests.proofs.Numbered.{range_snoc}
use Rattle.actor_trace_tests.specs.Still.{Ruled, gives_more}

and_left : (p q : Bool) → (p && q) ≡ true → p ≡ true
and_left true q e = refl
and_left false q e = e

and_right : (p q : Bool) → (p && q) ≡ true → q ≡ true
and_right true q e = e
and_right false q e = cc

pub gives_begins : (h g : List (ℕ × Entry)) (v i : ℕ) → Begins h g → gives v i h ≡ true → gives v i g ≡ true
gives_begins h g v i b t = subst (λ xs. gives v i xs ≡ true) b.whole (gives_more b.later h v i t)

pub gives_rests : (a : ℕ) (h g : List (ℕ × Entry)) (v i : ℕ) → Rests a h g → gives v i h ≡ true → gives v i g ≡ true
gives_rests a h g v i r t = subst (λ xs. gives v i xs ≡ true) (sym r.whole) (gives_more r.between h v i t)

-- every history begins by giving the turn to 0
pub gives_first : (h : List (ℕ × Entry)) → gives 0 0 h ≡ true
gives_first [] = refl
gives_first (x ∷ h) = go (is_given 0 0 x.1) (gives_first h)
  where
    go : (t : Bool) → gives 0 0 h ≡ true → (t || gives 0 0 h) ≡ true
    go true r = refl
    go false r = r

-- an add gives the turn
pub gives_added : (a v n : ℕ) (h g : List (ℕ × Entry)) → Adds a (Add v n) h g → gives (v + 1) n g ≡ true
gives_added a v n h g b = subst (λ xs. gives (v + 1) n xs ≡ true) (sym b.whole) (rw (eq_self (v + 1), eq_self n) refl)

-- all adds of i are below v
abbrev pub Unused : ℕ → ℕ → List (ℕ × Entry) → Type 0
Unused v i h = AllPass (λ (x : ℕ × Entry). is_below v x.1) (entries_of i h)

unused_before : (i v : ℕ) (x : ℕ × Entry) (h : List (ℕ × Entry)) → Unused v i (x ∷ h) → Unused v i h
unused_before i v x h u = go (i == x.0) refl
  where
    go : (t : Bool) → (i == x.0) ≡ t → Unused v i h
    go true e =
        let own : entries_of i (x ∷ h) ≡ entries_of i h ++ (length h, x.1) ∷ [] = ap (λ b. cond b (entries_of i h ++ (length h, x.1) ∷ []) (entries_of i h)) e in
        (All-pop (λ (y : ℕ × Entry). is_below v y.1 ≡ true) (entries_of i (x ∷ h)) (entries_of i h) (Some (length h, x.1)) own u).0
    go false e =
        let own : entries_of i (x ∷ h) ≡ entries_of i h = ap (λ b. cond b (entries_of i h ++ (length h, x.1) ∷ []) (entries_of i h)) e in
        subst (λ es. AllPass (λ (y : ℕ × Entry). is_below v y.1) es) own u

unused_last : (i v : ℕ) (e : Entry) (h : List (ℕ × Entry)) → Unused v i ((i, e) ∷ h) → is_below v e ≡ true
unused_last i v e h u = (All-pop (λ (y : ℕ × Entry). is_below v y.1 ≡ true) (entries_of i ((i, e) ∷ h)) (entries_of i h) (Some (length h, e)) (entries_same i e h) u).1

-- who got the turn, and did not add since, has it
pub has_turn : (h : List (ℕ × Entry)) (v i : ℕ) → Ruled h → gives v i h ≡ true → Unused v i h → (turn_of h ≡ i) × (v ≡ count_of h)
has_turn [] v i legal g u = (sym ((Decides-eqb i 0).0 (and_right (v == 0) (i == 0) g)), (Decides-eqb v 0).0 (and_left (v == 0) (i == 0) g))
has_turn ((a, Read w) ∷ h) v i legal g u = has_turn h v i legal.1 g (unused_before i v (a, Read w) h u)
has_turn ((a, Add w n) ∷ h) v i legal g u = go ((v == w + 1) && (i == n)) refl (λ s. has_turn h v i legal.1 s (unused_before i v (a, Add w n) h u))
  where
    go : (t : Bool) → ((v == w + 1) && (i == n)) ≡ t → (gives v i h ≡ true → (turn_of h ≡ i) × (v ≡ count_of h)) → (n ≡ i) × (v ≡ count_of h + 1)
    go true e r = (sym ((Decides-eqb i n).0 (and_right (v == w + 1) (i == n) e)), (Decides-eqb v (w + 1)).0 (and_left (v == w + 1) (i == n) e) ∙ ap (λ k. k + 1) legal.0.1)
    go false e r =
        let s : (turn_of h ≡ i) × (v ≡ count_of h) = r (subst (λ t. (t || gives v i h) ≡ true) e g) in
        let same : i ≡ a = sym s.0 ∙ legal.0.0 in
        let b : nat_lt w v ≡ true = unused_last i v (Add w n) h (subst (λ k. Unused v i ((k, Add w n) ∷ h)) (sym same) u) in
        let l : w < v = (Decides-ltb w v).0 b in
        let q : w ≡ count_of h = legal.0.1 in
        let p : v ≡ count_of h = s.1 in
        absurd (omega arith)

-- lists of adds in a legal history
pub values : (h : List (ℕ × Entry)) → Ruled h → values_of h ≡ range_with_len 0 (count_of h)
values [] legal = refl
values ((a, Read v) ∷ h) legal = values h legal.1
values ((a, Add v n) ∷ h) legal =
    let place : v ≡ 0 + count_of h = legal.0.1 ∙ omega arith in
    let size : suc (count_of h) ≡ count_of h + 1 = omega arith in
    ap (λ xs. xs ++ v ∷ []) (values h legal.1)
    ∙ (ap (λ (k : ℕ). range_with_len 0 (count_of h) ++ k ∷ []) place
    ∙ (sym (range_snoc 0 (count_of h)) ∙ ap (λ (k : ℕ). range_with_len 0 k) size))

pub turns : (h : List (ℕ × Entry)) → Ruled h → adders_of h ++ turn_of h ∷ [] ≡ 0 ∷ named_of h
turns [] legal = refl
turns ((a, Read v) ∷ h) legal = turns h legal.1
turns ((a, Add v n) ∷ h) legal =
    ap (λ xs. xs ++ n ∷ []) (ap (λ (k : ℕ). adders_of h ++ k ∷ []) (sym legal.0.0) ∙ turns h legal.1)

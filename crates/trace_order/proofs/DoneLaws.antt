-- The history is what the loop did.
use Rattle.std.proofs.Common.{ℕ, zero, suc, ◌≡◌, ◌+◌, ◌<◌, ◌≤◌, ◌≢◌, List, [], ◌∷◌, ◌++◌, length, length-append, arith, refl, sym, subst, ap, ◌∙◌}
use Rattle.std.specs.Prelude.{◌==◌, Bool, true, false, cond, map}
use Rattle.std.proofs.lemmas.Bool.Decides.{Decides-eqb}
use Rattle.actor_trace.specs.Lists.{In, times}
use Rattle.actor_trace.specs.Lists.In.{here, there}
use Rattle.actor_trace.specs.History.{AllBelow, entries_of}
use Rattle.actor_trace.specs.Actors.{Knows, IsHistory, tag_of}
use Rattle.actor_trace.proofs.Entries.{not_eq}
use Rattle.actor_trace.proofs.Numbers.{each_once}
use Rattle.trace_order.specs.Done.{Done, AreUnder, AreRising, AreBelow, AreAll, done_by, events}

-- lists with one item more at the end
pub last_same : {A : Type 0} (xs ys : List A) (x y : A) → xs ++ x ∷ [] ≡ ys ++ y ∷ [] → (xs ≡ ys) × (x ≡ y)
last_same [] [] x y e = (refl, cc e)
last_same {A} [] (b ∷ ys) x y e =
    let l : length (ys ++ y ∷ []) ≡ length ys + 1 = length-append ys _ in
    let k : length (x ∷ []) ≡ length (b ∷ (ys ++ y ∷ [])) = ap length e in
    absurd (omega arith)
last_same {A} (a ∷ xs) [] x y e =
    let l : length (xs ++ x ∷ []) ≡ length xs + 1 = length-append xs _ in
    let k : length (a ∷ (xs ++ x ∷ [])) ≡ length (y ∷ []) = ap length e in
    absurd (omega arith)
last_same {A} (a ∷ xs) (b ∷ ys) x y e = go (last_same xs ys x y (cc e))
  where
    go : (xs ≡ ys) × (x ≡ y) → (a ∷ xs ≡ b ∷ ys) × (x ≡ y)
    go r = (cc (e, r.0), r.1)

-- nothing with one more at the end
pub no_last : {A B : Type 0} (xs : List A) (x : A) → [] ≡ xs ++ x ∷ [] → B
no_last xs x e =
    let l : length (xs ++ x ∷ []) ≡ length xs + 1 = length-append xs _ in
    let k : 0 ≡ length (xs ++ x ∷ []) = ap length e in
    absurd (omega arith)

-- the last step of an actor has one of the tickets
pub last_under : {E : Type 0} (a t : ℕ) (ds : List (Done E)) → AreUnder t ds → (xs : List (ℕ × E)) (k : ℕ) (e : E) → done_by a ds ≡ xs ++ (k, e) ∷ [] → k < t
last_under a t [] u xs k e q = no_last xs (k, e) q
last_under {E} a t (d ∷ ds) u xs k e q = go (last_under a t ds u.1 xs k e) (a == d.by) refl
  where
    go : (done_by a ds ≡ xs ++ (k, e) ∷ [] → k < t) → (b : Bool) → (a == d.by) ≡ b → k < t
    go i true p =
        let s : done_by a ds ++ (d.ticket, d.event) ∷ [] ≡ xs ++ (k, e) ∷ [] = subst (λ b. cond b (done_by a ds ++ (d.ticket, d.event) ∷ []) (done_by a ds) ≡ xs ++ (k, e) ∷ []) p q in
        let r : ◌≡◌ {A = ℕ × E} (d.ticket, d.event) (k, e) = (last_same (done_by a ds) xs (d.ticket, d.event) (k, e) s).1 in
        subst (λ (m : ℕ × E). m.0 < t) r u.0
    go i false p = i (subst (λ b. cond b (done_by a ds ++ (d.ticket, d.event) ∷ []) (done_by a ds) ≡ xs ++ (k, e) ∷ []) p q)

-- the last entry of an actor stands in the history
pub entry_under : {E : Type 0} (a : ℕ) (h : List (ℕ × E)) (xs : List (ℕ × E)) (k : ℕ) (e : E) → entries_of a h ≡ xs ++ (k, e) ∷ [] → k < length h
entry_under a [] xs k e q = no_last xs (k, e) q
entry_under {E} a (x ∷ h) xs k e q = go (entry_under a h xs k e) (a == x.0) refl
  where
    go : (entries_of a h ≡ xs ++ (k, e) ∷ [] → k < length h) → (b : Bool) → (a == x.0) ≡ b → k < suc (length h)
    go i true p =
        let s : entries_of a h ++ (length h, x.1) ∷ [] ≡ xs ++ (k, e) ∷ [] = subst (λ b. cond b (entries_of a h ++ (length h, x.1) ∷ []) (entries_of a h) ≡ xs ++ (k, e) ∷ []) p q in
        let r : ◌≡◌ {A = ℕ × E} (length h, x.1) (k, e) = (last_same (entries_of a h) xs (length h, x.1) (k, e) s).1 in
        subst (λ (m : ℕ × E). m.0 < suc (length h)) r (let g : length h < suc (length h) = omega arith in g)
    go i false p =
        let r : k < length h = i (subst (λ b. cond b (entries_of a h ++ (length h, x.1) ∷ []) (entries_of a h) ≡ xs ++ (k, e) ∷ []) p q) in
        omega arith

done_at : {E : Type 0} (a : ℕ) (d : Done E) (ds : List (Done E)) → a ≡ d.by → done_by a (d ∷ ds) ≡ done_by a ds ++ (d.ticket, d.event) ∷ []
done_at {E} a d ds q = let t : (a == d.by) ≡ true = (Decides-eqb a d.by).1 q in ap (λ (b : Bool). cond b (done_by a ds ++ (d.ticket, d.event) ∷ []) (done_by a ds)) t

done_else : {E : Type 0} (a : ℕ) (d : Done E) (ds : List (Done E)) → a ≢ d.by → done_by a (d ∷ ds) ≡ done_by a ds
done_else {E} a d ds q = let t : (a == d.by) ≡ false = not_eq a d.by q in ap (λ (b : Bool). cond b (done_by a ds ++ (d.ticket, d.event) ∷ []) (done_by a ds)) t

at : {E : Type 0} (a : ℕ) (x : ℕ × E) (h : List (ℕ × E)) → a ≡ x.0 → entries_of a (x ∷ h) ≡ entries_of a h ++ (length h, x.1) ∷ []
at {E} a x h q = let t : (a == x.0) ≡ true = (Decides-eqb a x.0).1 q in ap (λ (b : Bool). cond b (entries_of a h ++ (length h, x.1) ∷ []) (entries_of a h)) t

else_at : {E : Type 0} (a : ℕ) (x : ℕ × E) (h : List (ℕ × E)) → a ≢ x.0 → entries_of a (x ∷ h) ≡ entries_of a h
else_at {E} a x h q = let t : (a == x.0) ≡ false = not_eq a x.0 q in ap (λ (b : Bool). cond b (entries_of a h ++ (length h, x.1) ∷ []) (entries_of a h)) t

-- Two lists with rising tickets, in which each actor did the same, are the same.
pub same_events : {E : Type 0} (n : ℕ) (log : List (ℕ × E)) (done : List (Done E)) → AllBelow n log → AreRising done → AreBelow n done
    → ((a : ℕ) → a < n → done_by a done ≡ entries_of a log) → events done ≡ log
same_events n [] [] b r m f = refl
same_events n [] (d ∷ ds) b r m f = no_last (done_by d.by ds) (d.ticket, d.event) (sym (f d.by m.0) ∙ done_at d.by d ds refl)
same_events n (x ∷ h) [] b r m f = no_last (entries_of x.0 h) (length h, x.1) (f x.0 b.0 ∙ at x.0 x h refl)
same_events {E} n (x ∷ h) (d ∷ ds) b r m f = go (same_events n h ds b.1 r.1 m.1) (d.by == x.0) refl
  where
    earlier : d.by ≡ x.0 → (done_by x.0 ds ≡ entries_of x.0 h) × (◌≡◌ {A = ℕ × E} (d.ticket, d.event) (length h, x.1)) → (a : ℕ) → a < n → done_by a ds ≡ entries_of a h
    earlier q s a lt = by (a == x.0) refl
      where
        by : (t : Bool) → (a == x.0) ≡ t → done_by a ds ≡ entries_of a h
        by true e = let p : a ≡ x.0 = (Decides-eqb a x.0).0 e in cc (p, s.0)
        by false e =
            let p : a ≢ x.0 = λ u. absurd (cc (e, (Decides-eqb a x.0).1 u)) in
            let o : a ≢ d.by = λ u. p (u ∙ q) in
            sym (done_else a d ds o) ∙ f a lt ∙ else_at a x h p

    go : (((a : ℕ) → a < n → done_by a ds ≡ entries_of a h) → events ds ≡ h) → (t : Bool) → (d.by == x.0) ≡ t → events (d ∷ ds) ≡ x ∷ h
    go i true e =
        let q : d.by ≡ x.0 = (Decides-eqb d.by x.0).0 e in
        let s : (done_by x.0 ds ≡ entries_of x.0 h) × (◌≡◌ {A = ℕ × E} (d.ticket, d.event) (length h, x.1)) = last_same (done_by x.0 ds) (entries_of x.0 h) (d.ticket, d.event) (length h, x.1) (sym (done_at x.0 d ds (sym q)) ∙ f x.0 b.0 ∙ at x.0 x h refl) in
        let v : d.event ≡ x.1 = ap (λ (y : ℕ × E). y.1) s.1 in
        let k : events ds ≡ h = i (earlier q s) in
        joined d.by d.event x (events ds) h q v k
      where
        joined : (i : ℕ) (e : E) (x : ℕ × E) (ys h : List (ℕ × E)) → i ≡ x.0 → e ≡ x.1 → ys ≡ h → (i, e) ∷ ys ≡ x ∷ h
        joined i e x ys h q v k = ap (λ j. (j, e) ∷ ys) q ∙ ap (λ (c : E). (x.0, c) ∷ ys) v ∙ ap (λ t. x ∷ t) k
    go i false e =
        let p : d.by ≢ x.0 = λ u. absurd (cc (e, (Decides-eqb d.by x.0).1 u)) in
        let o : x.0 ≢ d.by = λ u. p (sym u) in
        let k : length h < d.ticket = last_under x.0 d.ticket ds r.0 (entries_of x.0 h) (length h) x.1 (sym (done_else x.0 d ds o) ∙ f x.0 b.0 ∙ at x.0 x h refl) in
        let j : d.ticket < length h = entry_under d.by h (done_by d.by ds) d.ticket d.event (sym (else_at d.by x h p) ∙ sym (f d.by m.0) ∙ done_at d.by d ds refl) in
        absurd (omega arith)

-- who has a number that some actor has
has_number : {E : Type 0} (a : ℕ) (actors : List (Knows E)) → 1 ≤ times a (map tag_of actors) → (x : Knows E) × In x actors × (x.number ≡ a)
has_number a [] one = absurd (omega arith)
has_number {E} a (x ∷ xs) one = go (has_number a xs) (a == x.number) refl
  where
    go : (1 ≤ times a (map tag_of xs) → (y : Knows E) × In y xs × (y.number ≡ a)) → (t : Bool) → (a == x.number) ≡ t → (y : Knows E) × In y (x ∷ xs) × (y.number ≡ a)
    go i true q = (x, here, sym ((Decides-eqb a x.number).0 q))
    go i false q =
        let z : times a (map tag_of (x ∷ xs)) ≡ 0 + times a (map tag_of xs) = ap (λ (b : Bool). cond b 1 0 + times a (map tag_of xs)) q in
        let one' : 1 ≤ times a (map tag_of (x ∷ xs)) = one in
        let f = i (omega arith) in
        (f.0, there f.1, f.2)

-- the history is what the loop did
pub done_is_history : {E : Type 0} (enabled : List (ℕ × E) → ℕ → E → Type 0) (n : ℕ) (actors : List (Knows E)) (log : List (ℕ × E)) (done : List (Done E))
    → length actors ≡ n → IsHistory enabled n actors log → AreAll n actors done → events done ≡ log
done_is_history {E} enabled n actors log done all h d = same_events n log done h.below d.rising d.below per
  where
    per : (a : ℕ) → a < n → done_by a done ≡ entries_of a log
    per a lt = go (has_number a actors (let t : times a (map tag_of actors) ≡ 1 = each_once n actors all h.low h.once a lt in omega arith))
      where
        go : (x : Knows E) × In x actors × (x.number ≡ a) → done_by a done ≡ entries_of a log
        go x = subst (λ b. done_by b done ≡ entries_of b log) x.2 (sym (d.made x.0 x.1) ∙ h.made x.0 x.1)

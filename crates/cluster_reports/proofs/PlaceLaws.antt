-- The operator's lines have their places in the lines of a history.
use Rattle.std.proofs.Common.{◌≡◌, ℕ, ◌+◌, ◌<◌, List, [], ◌∷◌, ◌++◌, length, arith, refl, ap, sym, subst, ◌∙◌}
use Rattle.std.specs.Prelude.{true, false, if◌then◌else◌}
use mathlib.Core.Logic.{◌⊎◌, inl, inr}
use Rattle.cluster_events.specs.ByScript.{Heeds, AllHeed}
use Rattle.cluster_events.specs.Operator.{operators_if, operators_from, Duty, next_left, fed_over, heed, duty}
use Rattle.cluster_events.specs.Parts.{ActorEvent}
use Rattle.cluster_events.specs.Parts.ActorEvent.{Order, Obeyed, Barrier, Fed, FedAgain}
use Rattle.cluster_events.specs.Settings.{Setting}
use Rattle.cluster_events.proofs.Obeying.{fewer}
use Rattle.cluster_reports.proofs.OrderLaws.{is_calm, Calm, calm_tail}
use Rattle.cluster_reports.proofs.SessionLaws.{is_barrier_event, NoBarrier}
use Rattle.core_lists.proofs.Lists.{each_add, each_none}
use Rattle.core_lists.specs.Lists.In.{here}
use Rattle.node_reports.specs.Operator.{is_barrier, barrier_lines}
use Rattle.script_form.specs.declared.scripts.Act.{Act}
use Rattle.script_form.specs.declared.scripts.Act.TheVariants as act
use Rattle.script_form.specs.declared.scripts.BodyLine.{BodyLine}

-- two beginnings of a history
pub two_ends : {A : Type 0} (mid last later before : List A) → mid ++ last ≡ later ++ before → ((v : List A) × (before ≡ v ++ last) × (mid ≡ later ++ v)) ⊎ ((x : A) × (w : List A) × (last ≡ x ∷ (w ++ before)))
two_ends mid last [] before e = inl (mid, sym e, refl)
two_ends [] last (x ∷ later) before e = inr (x, later, e)
two_ends (m ∷ mid) last (x ∷ later) before e =
    let h : m ≡ x = cc in
    let t : mid ++ last ≡ later ++ before = cc in
    elim (two_ends mid last later before t) [
      | inl k ↦ inl (k.0, k.1, ap (λ z. z ∷ mid) h ∙ ap (λ z. x ∷ z) k.2)
      | inr k ↦ inr k
    ]

pub calm_right : (a b : List (ℕ × ActorEvent)) → Calm (a ++ b) → Calm b
calm_right [] b k = k
calm_right (x ∷ a) b k = calm_right a b (calm_tail k)

pub calm_left : (a b : List (ℕ × ActorEvent)) → Calm (a ++ b) → Calm a
calm_left [] b k = each_none
calm_left (x ∷ a) b k = each_add (k.at x here) (calm_left a b (calm_tail k))

pub calm_bare : (a : List (ℕ × ActorEvent)) → Calm a → NoBarrier a
calm_bare [] k = each_none
calm_bare (x ∷ a) k = each_add (one x.1 (k.at x here)) (calm_bare a (calm_tail k))
  where
    one : (e : ActorEvent) → is_calm e ≡ true → is_barrier_event e ≡ false
    one Barrier q = absurd (cc)
    one _ q = refl

passes : (left : List (ℕ × Act)) (k : ℕ) (a : Act) (rest : List (ℕ × Act)) → left ≡ (k, a) ∷ rest → length (next_left left) < length left
passes left k a rest e = subst (λ z. length (next_left z) < length z) (sym e) (omega arith)

pub fed_left : (d : Duty) (k : ℕ) (rest : List (ℕ × Act)) → d.left ≡ (k, act.Feed) ∷ rest → fed_over d.left d ≡ record { left = rest; ordered = false }
fed_left d k rest e = ap (λ z. fed_over z d) e ∙ ap (λ z. record { left = next_left z; ordered = false }) e

module _ (G : Setting) (body : List BodyLine) where
  -- what is ordered stays so until the operator goes on
  pub stays_ordered : (z before : List (ℕ × ActorEvent)) → AllHeed G body (z ++ before) → (duty body before).ordered ≡ true → (((duty body (z ++ before)).ordered ≡ true) × ((duty body (z ++ before)).left ≡ (duty body before).left)) ⊎ (length (duty body (z ++ before)).left < length (duty body before).left)
  stays_ordered [] before all e = inl (e, refl)
  stays_ordered (x ∷ z) before all e = elim (stays_ordered z before all.1 e) [ inl k ↦ one x.0 x.1 all.0.heeds k | inr l ↦ inr (let f = fewer (duty body (z ++ before)) x.1 in omega arith) ]
    where
      same : length (duty body (z ++ before)).left ≡ length (duty body before).left → (n : ℕ) → n < length (duty body (z ++ before)).left → n < length (duty body before).left
      same q n l = subst (λ y. n < y) q l

      one : (i : ℕ) (ev : ActorEvent) → Heeds G body (z ++ before) i ev → ((duty body (z ++ before)).ordered ≡ true) × ((duty body (z ++ before)).left ≡ (duty body before).left)
          → (((heed (duty body (z ++ before)) ev).ordered ≡ true) × ((heed (duty body (z ++ before)) ev).left ≡ (duty body before).left)) ⊎ (length (heed (duty body (z ++ before)) ev).left < length (duty body before).left)
      one i Order may k = absurd (let u = may.unordered in let o = k.0 in cc)
      one i Obeyed may k = inr (same (ap (λ y. length y) k.1) (length (next_left (duty body (z ++ before)).left)) (passes (duty body (z ++ before)).left may.line may.act may.rest may.next))
      one i Barrier may k = inr (same (ap (λ y. length y) k.1) (length (next_left (duty body (z ++ before)).left)) (passes (duty body (z ++ before)).left may.0 act.Barrier may.1 may.2))
      one i (Fed p g) may k = inr (same (ap (λ y. length y) k.1) (length (fed_over (duty body (z ++ before)).left (duty body (z ++ before))).left) (subst (λ y. length y.left < length (duty body (z ++ before)).left) (sym (fed_left (duty body (z ++ before)) may.0 may.1 may.2)) (subst (λ y. length may.1 < length y) (sym may.2) (omega arith))))
      one i (FedAgain p) may k = inr (same (ap (λ y. length y) k.1) (length (fed_over (duty body (z ++ before)).left (duty body (z ++ before))).left) (subst (λ y. length y.left < length (duty body (z ++ before)).left) (sym (fed_left (duty body (z ++ before)) may.0 may.1 may.2)) (subst (λ y. length may.1 < length y) (sym may.2) (omega arith))))
      one i ev may k = inl k

-- how many barriers are among the operator's lines
abbrev pub bars : List (ℕ × Act) → ℕ
bars [] = 0
bars (x ∷ xs) = bars xs + (if is_barrier x.1 then 1 else 0)

pub bars_more : (xs : List (ℕ × Act)) (x : ℕ × Act) → bars (xs ++ x ∷ []) ≡ bars xs + (if is_barrier x.1 then 1 else 0)
bars_more [] x = refl
bars_more (y ∷ xs) x = ap (λ z. z + (if is_barrier y.1 then 1 else 0)) (bars_more xs x) ∙ swap (bars xs) (if is_barrier x.1 then 1 else 0) (if is_barrier y.1 then 1 else 0)
  where
    swap : (a b c : ℕ) → a + b + c ≡ a + c + b
    swap a b c = omega arith

head : {x y : ℕ × Act} {xs ys : List (ℕ × Act)} → x ∷ xs ≡ y ∷ ys → x ≡ y
head e = cc

tail : {x y : ℕ × Act} {xs ys : List (ℕ × Act)} → x ∷ xs ≡ y ∷ ys → xs ≡ ys
tail e = cc

-- where the operator is, in its lines of the script
pub record AtLine (n : ℕ) (body : List BodyLine) (done : List (ℕ × Act)) (k : ℕ) (a : Act) : Type 0 where
  pub front : List BodyLine
  pub bar : BodyLine
  pub back : List BodyLine
  pub stands : body ≡ front ++ bar ∷ back
  pub place : k ≡ n + length front
  pub is : bar.act ≡ a
  pub before : barrier_lines front ≡ bars done

pub at_line : (n : ℕ) (body : List BodyLine) (done : List (ℕ × Act)) (k : ℕ) (a : Act) (rest : List (ℕ × Act)) → done ++ (k, a) ∷ rest ≡ operators_from n body → AtLine n body done k a
at_line n [] done k a rest e = absurd (none done e)
  where
    none : (done : List (ℕ × Act)) → done ++ (k, a) ∷ rest ≡ [] → ⊥
    none [] q = absurd (cc)
    none (x ∷ xs) q = absurd (cc)
at_line n (b ∷ bs) done k a rest e = go b.act refl e (λ d q. at_line (n + 1) bs d k a rest q)
  where
    own : (c : Act) → b.act ≡ c → (xs : List (ℕ × Act)) → done ++ (k, a) ∷ rest ≡ (n, c) ∷ xs → ((d : List (ℕ × Act)) → d ++ (k, a) ∷ rest ≡ xs → AtLine (n + 1) bs d k a) → AtLine n (b ∷ bs) done k a
    own c is xs q old = by done q
      where
        by : (done : List (ℕ × Act)) → done ++ (k, a) ∷ rest ≡ (n, c) ∷ xs → AtLine n (b ∷ bs) done k a
        by [] q =
            let p = head q in
            let place : k ≡ n = ap (λ (z : ℕ × Act). z.0) p in
            let same : a ≡ c = ap (λ (z : ℕ × Act). z.1) p in
            record { front = []; bar = b; back = bs; stands = refl; place = omega arith; is = is ∙ sym same; before = refl }
        by (x ∷ done) q =
            let h = head q in
            let r = old done (tail q) in
            let place : k ≡ n + 1 + length r.front = r.place in
            record { front = b ∷ r.front; bar = r.bar; back = r.back; stands = ap (λ z. b ∷ z) r.stands; place = omega arith; is = r.is; before = ap (λ z. z + (if is_barrier b.act then 1 else 0)) r.before ∙ ap (λ z. bars done + (if is_barrier z then 1 else 0)) (is ∙ sym (ap (λ (z : ℕ × Act). z.1) h)) }

    other : is_barrier b.act ≡ false → ((d : List (ℕ × Act)) → d ++ (k, a) ∷ rest ≡ operators_from (n + 1) bs → AtLine (n + 1) bs d k a) → done ++ (k, a) ∷ rest ≡ operators_from (n + 1) bs → AtLine n (b ∷ bs) done k a
    other not old q =
        let r = old done q in
        let place : k ≡ n + 1 + length r.front = r.place in
        record { front = b ∷ r.front; bar = r.bar; back = r.back; stands = ap (λ z. b ∷ z) r.stands; place = omega arith; is = r.is; before = ap (λ z. barrier_lines r.front + (if z then 1 else 0)) not ∙ (plus (barrier_lines r.front) ∙ r.before) }
      where
        plus : (m : ℕ) → m + 0 ≡ m
        plus m = omega arith

    go : (c : Act) → b.act ≡ c → done ++ (k, a) ∷ rest ≡ operators_if n c (operators_from (n + 1) bs) → ((d : List (ℕ × Act)) → d ++ (k, a) ∷ rest ≡ operators_from (n + 1) bs → AtLine (n + 1) bs d k a) → AtLine n (b ∷ bs) done k a
    go (act.Say session text) is q old = other (ap (λ z. is_barrier z) is) old q
    go (act.Arm session moment) is q old = other (ap (λ z. is_barrier z) is) old q
    go (act.Stop node) is q old = own (act.Stop node) is (operators_from (n + 1) bs) q old
    go (act.Start node) is q old = own (act.Start node) is (operators_from (n + 1) bs) q old
    go act.Barrier is q old = own act.Barrier is (operators_from (n + 1) bs) q old
    go act.Feed is q old = own act.Feed is (operators_from (n + 1) bs) q old

-- Each line of a node that a stop or a start made is charged to a line of the script of its own.
use Rattle.std.proofs.Common.{◌≡◌, ℕ, ◌+◌, ◌<◌, ◌≤◌, List, [], ◌∷◌, ◌++◌, length, arith, refl, ap, sym, subst, ◌∙◌, length-append}
use Rattle.std.specs.Prelude.{◌==◌, Bool, true, false, cond, Option, Some, None, slice_get, option_map}
use Rattle.std.proofs.lemmas.Bool.Decides.{Decides-eqb}
use mathlib.Core.Logic.{◌⊎◌, inl, inr}
use Rattle.core_lists.specs.Lists.{In, Each, Has}
use Rattle.core_lists.specs.Lists.In.{here, there}
use Rattle.core_lists.proofs.Lists.{each_add, each_none, each_more, nothing}
use Rattle.cluster_consensus.specs.Events.NodeEvent.{Boot, Down, Back, BackLead, BackTake, BackGrow, BackAppend}
use Rattle.cluster_consensus.proofs.Invariant.{Once}
use Rattle.cluster_requests.specs.KeptEntries.{KeptEntry}
use Rattle.report_laws.specs.Nodes.{is_up}
use Rattle.report_text.specs.declared.reports.Line.{Line}
use Rattle.report_text.specs.declared.reports.Line.TheVariants as line
use Rattle.session_language.specs.Each.{EachAfter}
use Rattle.cluster_events.specs.Settings.{Setting}
use Rattle.cluster_events.specs.Parts.{ActorEvent, part, up_line, lines_by, lines}
use Rattle.cluster_events.specs.Parts.ActorEvent.{Node, Stop, Begun, Say, Note, Finish, Order, Obeyed, Fire, Barrier, Fed, FedAgain}
use Rattle.script_form.specs.declared.scripts.Act.{Act}
use Rattle.script_form.specs.declared.scripts.Act.TheVariants as act
use Rattle.script_form.specs.declared.scripts.BodyLine.{BodyLine}
use Rattle.session_language.proofs.EachLaws.{get_next}
use Rattle.cluster_events.specs.Operator.{act_at, Turn, turn, Count, turn_counted, count_of, operators_if, operators_from, Duty, next_left, over, fed_over, heed, duty, Ordered, node_in, new_orders, orders, IsStopOrdered, IsStartOrdered, IsOfNode}
use Rattle.cluster_events.specs.Arms.{Fired, fires, new_fires, IsStopArmed}
use Rattle.cluster_events.specs.ByScript.{Heeds, AllHeed}
use Rattle.cluster_events.specs.Charged.{IsArmedAt, IsChargeOf, ChargedBy, IsNewCharge, AreCharged}
use Rattle.cluster_events.specs.Guards.{AreNamedApart}
use Rattle.cluster_events.proofs.FireLaws.{counts_grow, IsLow, IsGone, gone_next, fires_ok, fires_once}
use Rattle.cluster_events.proofs.OwnLines.{knows}
use Rattle.script_form.specs.declared.scripts.Moment.{Moment}
use Rattle.cluster_events.specs.Operator.Turn.{Rise, Fall, Keep}
use Rattle.cluster_events.proofs.LineLists.{append_assoc, append_nil, each_after_more, in_append}

-- numbers in a list of lines rise
abbrev pub Rises : List (ℕ × Act) → Type 0
Rises [] = Unit {0}
Rises (x ∷ xs) = Each (λ y. x.0 < y.0) xs × Rises xs

-- what is so of the lines that are left
pub record FromOn (k : ℕ) (xs : List (ℕ × Act)) : Type 0 where
  pub above : Each (λ y. k ≤ y.0) xs
  pub rises : Rises xs

op_more : (k : ℕ) (a : Act) (xs : List (ℕ × Act)) → FromOn (k + 1) xs → FromOn k (operators_if k a xs)
op_more k (act.Say session text) xs f = record { above = each_more (λ y l. (let l' : k + 1 ≤ y.0 = l in omega arith)) f.above; rises = f.rises }
op_more k (act.Arm session moment) xs f = record { above = each_more (λ y l. (let l' : k + 1 ≤ y.0 = l in omega arith)) f.above; rises = f.rises }
op_more k (act.Stop node) xs f = record { above = each_add (omega arith) (each_more (λ y l. (let l' : k + 1 ≤ y.0 = l in omega arith)) f.above); rises = (each_more (λ y l. (let l' : k + 1 ≤ y.0 = l in omega arith)) f.above, f.rises) }
op_more k (act.Start node) xs f = record { above = each_add (omega arith) (each_more (λ y l. (let l' : k + 1 ≤ y.0 = l in omega arith)) f.above); rises = (each_more (λ y l. (let l' : k + 1 ≤ y.0 = l in omega arith)) f.above, f.rises) }
op_more k act.Barrier xs f = record { above = each_add (omega arith) (each_more (λ y l. (let l' : k + 1 ≤ y.0 = l in omega arith)) f.above); rises = (each_more (λ y l. (let l' : k + 1 ≤ y.0 = l in omega arith)) f.above, f.rises) }
op_more k act.Feed xs f = record { above = each_add (omega arith) (each_more (λ y l. (let l' : k + 1 ≤ y.0 = l in omega arith)) f.above); rises = (each_more (λ y l. (let l' : k + 1 ≤ y.0 = l in omega arith)) f.above, f.rises) }

op_rises : (k : ℕ) (body : List BodyLine) → FromOn k (operators_from k body)
op_rises k [] = record { above = each_none; rises = tt }
op_rises k (l ∷ ls) = op_more k l.act (operators_from (k + 1) ls) (op_rises (k + 1) ls)

-- each line that is left stands there in the script
abbrev pub StandThere : List BodyLine → List (ℕ × Act) → Type 0
StandThere body xs = Each (λ x. act_at body x.0 ≡ Some x.1) xs

op_one : (body : List BodyLine) (k : ℕ) (a : Act) (xs : List (ℕ × Act)) → act_at body k ≡ Some a → StandThere body xs → StandThere body (operators_if k a xs)
op_one body k (act.Say session text) xs e f = f
op_one body k (act.Arm session moment) xs e f = f
op_one body k (act.Stop node) xs e f = each_add e f
op_one body k (act.Start node) xs e f = each_add e f
op_one body k act.Barrier xs e f = each_add e f
op_one body k act.Feed xs e f = each_add e f

op_stand : (body front rest : List BodyLine) (k : ℕ) → front ++ rest ≡ body → k ≡ length front → StandThere body (operators_from k rest)
op_stand body front [] k e q = each_none
op_stand body front (l ∷ ls) k e q =
    let n = length-append front (l ∷ []) in
    op_one body k l.act (operators_from (k + 1) ls)
    (ap (λ z. option_map (λ y. y.act) (slice_get body z)) q ∙ (ap (λ z. option_map (λ y. y.act) (slice_get z (length front))) (sym e) ∙ ap (λ z. option_map (λ y. y.act) z) (get_next front l ls)))
    (op_stand body (front ++ l ∷ []) ls (k + 1) (append_assoc front (l ∷ []) ls ∙ e) (omega arith))

-- the operator's lines that are left, and its orders
pub record DutyOk (body : List BodyLine) (d : Duty) (os : List Ordered) : Type 0 where
  pub rises : Rises d.left
  pub stand : StandThere body d.left
  pub low : Each (λ x. Each (λ o. o.line ≤ x.0) os) d.left
  pub fresh : d.ordered ≡ false → Each (λ x. Each (λ o. o.line < x.0) os) d.left
  pub once : Once (λ o. o.line) os
  pub its : Each (λ o. act_at body o.line ≡ Some o.act) os

is_over : (body : List BodyLine) (d : Duty) (os : List Ordered) → DutyOk body d os → DutyOk body (over d) os
is_over body d os k = go d.left refl
  where
    lows : (x : ℕ × Act) (xs : List (ℕ × Act)) → d.left ≡ x ∷ xs → Each (λ y. x.0 < y.0) xs → Each (λ y. Each (λ o. o.line < y.0) os) xs
    lows x xs e r = each_more (λ y l. each_more (λ o m. (let m' : o.line ≤ x.0 = m in let l' : x.0 < y.0 = l in omega arith)) ((subst (λ z. Each (λ x. Each (λ o. o.line ≤ x.0) os) z) e k.low).at x here)) r

    go : (xs : List (ℕ × Act)) → d.left ≡ xs → DutyOk body (over d) os
    go [] e = subst (λ z. DutyOk body (record { left = next_left z; ordered = false }) os) (sym e) (record { rises = tt; stand = each_none; low = each_none; fresh = λ q. each_none; once = k.once; its = k.its })
    go (x ∷ xs) e =
        let r = subst (λ z. Rises z) e k.rises in
        let st = subst (λ z. StandThere body z) e k.stand in
        let f = lows x xs e r.0 in
        subst (λ z. DutyOk body (record { left = next_left z; ordered = false }) os) (sym e) (record {
          rises = r.1;
          stand = record { at = λ y m. st.at y (there m) };
          low = each_more (λ y l. each_more (λ o m. (let m' : o.line < y.0 = m in omega arith)) l) f;
          fresh = λ q. f;
          once = k.once;
          its = k.its;
        })

order_once : (x : Ordered) (xs : List Ordered) → Once (λ o. o.line) xs → Each (λ o. o.line < x.line) xs → Once (λ o. o.line) (x ∷ xs)
order_once x xs o e = record { same = go }
  where
    go : (a b : Ordered) → In a (x ∷ xs) → In b (x ∷ xs) → a.line ≡ b.line → a ≡ b
    go a b here here q = refl
    go a b here (there n) q = absurd (let l : b.line < x.line = e.at b n in let q' : x.line ≡ b.line = q in omega arith)
    go a b (there m) here q = absurd (let l : a.line < x.line = e.at a m in let q' : a.line ≡ x.line = q in omega arith)
    go a b (there m) (there n) q = o.same a b m n q

duty_order : (body : List BodyLine) (h : List (ℕ × ActorEvent)) (d : Duty) (os : List Ordered) → d.ordered ≡ false → DutyOk body d os → DutyOk body (record { left = d.left; ordered = true }) (new_orders h Order d.left ++ os)
duty_order body h d os unordered k = go d.left refl
  where
    go : (xs : List (ℕ × Act)) → d.left ≡ xs → DutyOk body (record { left = d.left; ordered = true }) (new_orders h Order d.left ++ os)
    go [] e = subst (λ z. DutyOk body (record { left = z; ordered = true }) (new_orders h Order z ++ os)) (sym e) (record { rises = tt; stand = each_none; low = each_none; fresh = λ q. each_none; once = k.once; its = k.its })
    go (x ∷ xs) e =
        let r = subst (λ z. Rises z) e k.rises in
        let st = subst (λ z. StandThere body z) e k.stand in
        let f = subst (λ z. Each (λ x. Each (λ o. o.line < x.0) os) z) e (k.fresh unordered) in
        let l = subst (λ z. Each (λ x. Each (λ o. o.line ≤ x.0) os) z) e k.low in
        subst (λ z. DutyOk body (record { left = z; ordered = true }) (new_orders h Order z ++ os)) (sym e) (record {
          rises = r;
          stand = st;
          low = each_add (each_add (omega arith) (l.at x here)) (record { at = λ y m. each_add (let q : x.0 < y.0 = r.0.at y m in omega arith) (l.at y (there m)) });
          fresh = λ q. absurd (cc);
          once = order_once _ os k.once (f.at x here);
          its = each_add (st.at x here) k.its;
        })

fed_ok : (body : List BodyLine) (d : Duty) (os : List Ordered) (xs : List (ℕ × Act)) → DutyOk body d os → DutyOk body (fed_over xs d) os
fed_ok body d os [] k = k
fed_ok body d os ((n, act.Feed) ∷ xs) k = is_over body d os k
fed_ok body d os ((n, act.Barrier) ∷ xs) k = k
fed_ok body d os ((n, act.Stop node) ∷ xs) k = k
fed_ok body d os ((n, act.Start node) ∷ xs) k = k
fed_ok body d os ((n, act.Say session text) ∷ xs) k = k
fed_ok body d os ((n, act.Arm session moment) ∷ xs) k = k

duty_row : (G : Setting) (body : List BodyLine) (h : List (ℕ × ActorEvent)) (i : ℕ) (e : ActorEvent) → Heeds G body h i e → DutyOk body (duty body h) (orders body h) → DutyOk body (heed (duty body h) e) (new_orders h e (duty body h).left ++ orders body h)
duty_row G body h i Order may k = duty_order body h (duty body h) (orders body h) may.unordered k
duty_row G body h i Obeyed may k = is_over body (duty body h) (orders body h) k
duty_row G body h i Barrier may k = is_over body (duty body h) (orders body h) k
duty_row G body h i (Fed p g) may k = fed_ok body (duty body h) (orders body h) (duty body h).left k
duty_row G body h i (FedAgain p) may k = fed_ok body (duty body h) (orders body h) (duty body h).left k
duty_row G body h i _ may k = k

pub duty_ok : (G : Setting) (body : List BodyLine) (h : List (ℕ × ActorEvent)) → AllHeed G body h → DutyOk body (duty body h) (orders body h)
duty_ok G body [] all = record { rises = (op_rises 0 body).rises; stand = op_stand body [] body 0 refl refl; low = record { at = λ x m. each_none }; fresh = λ q. record { at = λ x m. each_none }; once = record { same = λ a b m n q. absurd (nothing m) }; its = each_none }
duty_ok G body (x ∷ h) all = duty_row G body h x.0 x.1 all.0.heeds (duty_ok G body h all.1)

-- numbers of an order are those of a place before
pub record OrderOk (h : List (ℕ × ActorEvent)) (o : Ordered) : Type 0 where
  pub ups : o.ups ≤ (count_of (node_in o.act) h).ups
  pub falls : o.falls ≤ (count_of (node_in o.act) h).falls

order_later : (x : ℕ × ActorEvent) (h : List (ℕ × ActorEvent)) (o : Ordered) → OrderOk h o → OrderOk (x ∷ h) o
order_later x h o k =
    let m = counts_grow (node_in o.act) x h in
    let a = k.ups in
    let b = k.falls in
    let m0 = m.0 in
    let m1 = m.1 in
    record { ups = omega arith; falls = omega arith }

new_ok : (h : List (ℕ × ActorEvent)) (e : ActorEvent) (xs : List (ℕ × Act)) → Each (OrderOk h) (new_orders h e xs)
new_ok h Order [] = each_none
new_ok h Order (x ∷ xs) = each_add (record { ups = omega arith; falls = omega arith }) each_none
new_ok h _ xs = each_none

each_both : {A : Type 0} {P : A → Type 0} (xs ys : List A) → Each P xs → Each P ys → Each P (xs ++ ys)
each_both [] ys a b = b
each_both (x ∷ xs) ys a b = each_add (a.at x here) (each_both xs ys (record { at = λ y m. a.at y (there m) }) b)

pub orders_ok : (body : List BodyLine) (h : List (ℕ × ActorEvent)) → Each (OrderOk h) (orders body h)
orders_ok body [] = each_none
orders_ok body (x ∷ h) = each_both (new_orders h x.1 (duty body h).left) (orders body h) (each_more (λ o k. order_later x h o k) (new_ok h x.1 (duty body h).left)) (each_more (λ o k. order_later x h o k) (orders_ok body h))

-- an order to which a line is charged serves no further one
abbrev pub SpentBy : Act → ℕ → ℕ → Count → Type 0
SpentBy (act.Stop node) ups falls t = t.up ≡ true → ups < t.ups
SpentBy (act.Start node) ups falls t = t.up ≡ false → falls < t.falls
SpentBy _ ups falls t = Unit {0}

abbrev pub Spent : List (ℕ × ActorEvent) → Ordered → Type 0
Spent h o = SpentBy o.act o.ups o.falls (count_of (node_in o.act) h)

spent_tick : (a : Act) (ups falls : ℕ) (t : Count) (u : Turn) → ups ≤ t.ups → falls ≤ t.falls → SpentBy a ups falls t → SpentBy a ups falls (turn_counted t u)
spent_tick (act.Stop node) ups falls t Rise lu lf k = λ q. omega arith
spent_tick (act.Stop node) ups falls t Fall lu lf k = λ q. absurd (cc)
spent_tick (act.Stop node) ups falls t Keep lu lf k = k
spent_tick (act.Start node) ups falls t Rise lu lf k = λ q. absurd (cc)
spent_tick (act.Start node) ups falls t Fall lu lf k = λ q. omega arith
spent_tick (act.Start node) ups falls t Keep lu lf k = k
spent_tick (act.Say session text) ups falls t u lu lf k = tt
spent_tick (act.Arm session moment) ups falls t u lu lf k = tt
spent_tick act.Barrier ups falls t u lu lf k = tt
spent_tick act.Feed ups falls t u lu lf k = tt

spent_later : (x : ℕ × ActorEvent) (h : List (ℕ × ActorEvent)) (o : Ordered) → OrderOk h o → Spent h o → Spent (x ∷ h) o
spent_later x h o k s = go (node_in o.act == x.0)
  where
    go : (b : Bool) → SpentBy o.act o.ups o.falls (cond b (turn_counted (count_of (node_in o.act) h) (turn x.1)) (count_of (node_in o.act) h))
    go true = spent_tick o.act o.ups o.falls (count_of (node_in o.act) h) (turn x.1) k.ups k.falls s
    go false = s

-- orders are of stops and starts alone
new_of_node : (body : List BodyLine) (h : List (ℕ × ActorEvent)) (G : Setting) (i : ℕ) (e : ActorEvent) → Heeds G body h i e → (xs : List (ℕ × Act)) → (duty body h).left ≡ xs → Each (λ o. IsOfNode o.act) (new_orders h e xs)
new_of_node body h G i Order may [] q = each_none
new_of_node body h G i Order may (x ∷ xs) q =
    let e : x ∷ xs ≡ (may.line, may.act) ∷ may.rest = sym q ∙ may.next in
    let f : x ≡ (may.line, may.act) = cc in
    each_add (subst (λ z. IsOfNode z) (ap (λ z. z.1) (sym f)) may.of_node) each_none
new_of_node body h G i _ may xs q = each_none

orders_of_node : (G : Setting) (body : List BodyLine) (h : List (ℕ × ActorEvent)) → AllHeed G body h → Each (λ o. IsOfNode o.act) (orders body h)
orders_of_node G body [] all = each_none
orders_of_node G body (x ∷ h) all = each_both (new_orders h x.1 (duty body h).left) (orders body h) (new_of_node body h G x.0 x.1 all.0.heeds (duty body h).left refl) (orders_of_node G body h all.1)

new_low : (h : List (ℕ × ActorEvent)) (i : ℕ) (e : ActorEvent) → Each (IsLow ((i, e) ∷ h)) (new_fires h i e)
new_low h i (Fire l node) = each_add (counts_grow node (i, Fire l node) h).0 each_none
new_low h i _ = each_none

low_more : (x : ℕ × ActorEvent) (h : List (ℕ × ActorEvent)) (f : Fired) → IsLow h f → IsLow (x ∷ h) f
low_more x h f k = let m = (counts_grow f.node x h).0 in let k' : f.ups ≤ (count_of f.node h).ups = k in omega arith

fires_low : (h : List (ℕ × ActorEvent)) → Each (IsLow h) (fires h)
fires_low [] = each_none
fires_low (x ∷ h) = each_both (new_fires h x.0 x.1) (fires h) (new_low h x.0 x.1) (each_more (λ f k. low_more x h f k) (fires_low h))

-- a line of the script to which a line is charged serves no further one
abbrev IsSpentAt : List BodyLine → List (ℕ × ActorEvent) → ℕ → Type 0
IsSpentAt body h k = Has (λ o. (o.line ≡ k) × Spent h o) (orders body h) ⊎ Has (λ f. (f.line ≡ k) × IsGone h f) (fires h)

spent_next : (body : List BodyLine) (x : ℕ × ActorEvent) (h : List (ℕ × ActorEvent)) (k : ℕ) → IsSpentAt body h k → IsSpentAt body (x ∷ h) k
spent_next body x h k (inl s) = inl (record { it = s.it; mem = in_append (new_orders h x.1 (duty body h).left) (orders body h) s.mem; is = (s.is.0, spent_later x h s.it ((orders_ok body h).at s.it s.mem) s.is.1) })
spent_next body x h k (inr s) = inr (record { it = s.it; mem = in_append (new_fires h x.0 x.1) (fires h) s.mem; is = (s.is.0, gone_next x h s.it ((fires_low h).at s.it s.mem) s.is.1) })

in_last_or : {A : Type 0} {x y : A} (xs : List A) → In x (xs ++ y ∷ []) → In x xs ⊎ (x ≡ y)
in_last_or [] here = inr refl
in_last_or [] (there m) = absurd (nothing m)
in_last_or (z ∷ xs) here = inl here
in_last_or (z ∷ xs) (there m) = elim (in_last_or xs m) [ inl r ↦ inl (there r) | inr r ↦ inr r ]

not_some : {A : Type 0} {k : ℕ} → Some k ≡ None → A
not_some e = absurd (cc)

pub some_is : {j k : ℕ} → Some j ≡ Some k → j ≡ k
some_is e = cc

up_ticked : (i : ℕ) (h : List (ℕ × ActorEvent)) (e : ActorEvent) → turn e ≡ Rise → (count_of i ((i, e) ∷ h)) ≡ turn_counted (count_of i h) Rise
up_ticked i h e q = ap (λ z. cond z (turn_counted (count_of i h) (turn e)) (count_of i h)) ((Decides-eqb i i).1 refl) ∙ ap (λ z. turn_counted (count_of i h) z) q

stop_unspent : (h : List (ℕ × ActorEvent)) (i : ℕ) (o : Ordered) → (count_of i h).up ≡ true → o.act ≡ act.Stop i → o.ups ≡ (count_of i h).ups → Spent h o → ⊥
stop_unspent h i o up a u s =
    let s' = subst (λ z. SpentBy z o.ups o.falls (count_of (node_in z) h)) a s in
    let lt = s' up in
    let u' : o.ups ≡ (count_of i h).ups = u in
    omega arith

start_unspent : (h : List (ℕ × ActorEvent)) (i : ℕ) (o : Ordered) → (count_of i h).up ≡ false → o.act ≡ act.Start i → o.falls ≡ (count_of i h).falls → Spent h o → ⊥
start_unspent h i o up a u s =
    let s' = subst (λ z. SpentBy z o.ups o.falls (count_of (node_in z) h)) a s in
    let lt = s' up in
    let u' : o.falls ≡ (count_of i h).falls = u in
    omega arith

stop_now : (h : List (ℕ × ActorEvent)) (i : ℕ) (o : Ordered) → o.act ≡ act.Stop i → Spent ((i, Stop) ∷ h) o
stop_now h i o a = subst (λ z. SpentBy z o.ups o.falls (count_of (node_in z) ((i, Stop) ∷ h))) (sym a) (λ q. absurd (let e = ap (λ z. (cond z (turn_counted (count_of i h) Fall) (count_of i h)).up) ((Decides-eqb i i).1 refl) in let q' : (cond (i == i) (turn_counted (count_of i h) Fall) (count_of i h)).up ≡ true = q in cc))

start_now : (h : List (ℕ × ActorEvent)) (i : ℕ) (e : ActorEvent) (o : Ordered) → turn e ≡ Rise → o.act ≡ act.Start i → Spent ((i, e) ∷ h) o
start_now h i e o t a = subst (λ z. SpentBy z o.ups o.falls (count_of (node_in z) ((i, e) ∷ h))) (sym a) (λ q. absurd (let w = ap (λ z. z.up) (up_ticked i h e t) in let w' : (count_of i ((i, e) ∷ h)).up ≡ true = w in cc))

pub fired_unspent : (h : List (ℕ × ActorEvent)) (i : ℕ) (f : Fired) → (count_of i h).up ≡ true → f.node ≡ i → f.ups ≡ (count_of i h).ups → IsGone h f → ⊥
fired_unspent h i f up n u s =
    let s' = subst (λ z. (count_of z h).up ≡ true → f.ups < (count_of z h).ups) n s in
    let lt = s' up in
    let u' : f.ups ≡ (count_of i h).ups = u in
    omega arith

pub fired_now : (h : List (ℕ × ActorEvent)) (i : ℕ) (f : Fired) → f.node ≡ i → IsGone ((i, Stop) ∷ h) f
fired_now h i f n = subst (λ z. (count_of z ((i, Stop) ∷ h)).up ≡ true → f.ups < (count_of z ((i, Stop) ∷ h)).ups) (sym n) (λ q. absurd (let e = ap (λ z. (cond z (turn_counted (count_of i h) Fall) (count_of i h)).up) ((Decides-eqb i i).1 refl) in let q' : (cond (i == i) (turn_counted (count_of i h) Fall) (count_of i h)).up ≡ true = q in cc))

arm_is_none : (a : Act) (name : List ℕ) (when : Moment) → a ≡ act.Arm name when → IsOfNode a → ⊥
arm_is_none a name when e k = subst (λ z. IsOfNode z) e k

module _ (G : Setting) (body : List BodyLine) (far : AreNamedApart G) where
  charged_append : (before ls ms : List Line) (cs ds : List (Option ℕ)) → ChargedBy G body before ls cs → ChargedBy G body (before ++ ls) ms ds → ChargedBy G body before (ls ++ ms) (cs ++ ds)
  charged_append before [] ms [] ds a b = subst (λ z. ChargedBy G body z ms ds) (append_nil before) b
  charged_append before (l ∷ ls) ms (c ∷ cs) ds a b = (a.0, charged_append (before ++ l ∷ []) ls ms cs ds a.1 (subst (λ z. ChargedBy G body z ms ds) (sym (append_assoc before (l ∷ []) ls)) b))
  charged_append before [] ms (c ∷ cs) ds a b = absurd a
  charged_append before (l ∷ ls) ms [] ds a b = absurd a

  -- the lines so far are charged
  pub record Charges (ls : List Line) (h : List (ℕ × ActorEvent)) : Type 0 where
    pub charges : List (Option ℕ)
    pub each : ChargedBy G body [] ls charges
    pub once : EachAfter IsNewCharge [] charges
    pub spent : (k : ℕ) → In (Some k) charges → IsSpentAt body h k

  -- a line that needs no charge
  free_line : (x : ℕ × ActorEvent) (h : List (ℕ × ActorEvent)) (ls : List Line) (l : Line) → IsChargeOf G body ls l None → Charges ls h → Charges (ls ++ l ∷ []) (x ∷ h)
  free_line x h ls l free k = record {
    charges = k.charges ++ None ∷ [];
    each = charged_append [] ls (l ∷ []) k.charges (None ∷ []) k.each (free, tt);
    once = each_after_more IsNewCharge [] k.charges None k.once tt;
    spent = λ n m. elim (in_last_or k.charges m) [ inl r ↦ spent_next body x h n (k.spent n r) | inr r ↦ not_some r ];
  }

  -- a line that is charged to a line of the script
  charged_line : (x : ℕ × ActorEvent) (h : List (ℕ × ActorEvent)) (ls : List Line) (l : Line) (n : ℕ) → IsChargeOf G body ls l (Some n) → (IsSpentAt body h n → ⊥) → IsSpentAt body (x ∷ h) n → Charges ls h → Charges (ls ++ l ∷ []) (x ∷ h)
  charged_line x h ls l n is unspent now k = record {
    charges = k.charges ++ Some n ∷ [];
    each = charged_append [] ls (l ∷ []) k.charges (Some n ∷ []) k.each (is, tt);
    once = each_after_more IsNewCharge [] k.charges (Some n) k.once (λ i. unspent (k.spent n i));
    spent = λ j i. elim (in_last_or k.charges i) [ inl r ↦ spent_next body x h j (k.spent j r) | inr r ↦ subst (λ z. IsSpentAt body (x ∷ h) z) (some_is (sym r)) now ];
  }

  -- an order and an arm are of two lines
  apart : (h : List (ℕ × ActorEvent)) → AllHeed G body h → (o : Ordered) → In o (orders body h) → (f : Fired) → In f (fires h) → o.line ≡ f.line → ⊥
  apart h all o m f n q =
      let d = duty_ok G body h all in
      let k = (fires_ok G body h all).at f n in
      let a : act_at body o.line ≡ Some o.act = d.its.at o m in
      let b : act_at body f.line ≡ Some (act.Arm (G.names f.by) k.when) = k.stands in
      let c : act_at body o.line ≡ act_at body f.line = ap (λ z. act_at body z) q in
      let e : Some o.act ≡ Some (act.Arm (G.names f.by) k.when) = sym a ∙ (c ∙ b) in
      arm_is_none o.act (G.names f.by) k.when (cc) ((orders_of_node G body h all).at o m)

  order_unspent : (h : List (ℕ × ActorEvent)) → AllHeed G body h → (o : Ordered) → In o (orders body h) → (Spent h o → ⊥) → IsSpentAt body h o.line → ⊥
  order_unspent h all o m un (inl s) = un (subst (λ z. Spent h z) ((duty_ok G body h all).once.same s.it o s.mem m s.is.0) s.is.1)
  order_unspent h all o m un (inr s) = apart h all o m s.it s.mem (sym s.is.0)

  fire_unspent : (h : List (ℕ × ActorEvent)) → AllHeed G body h → (f : Fired) → In f (fires h) → (IsGone h f → ⊥) → IsSpentAt body h f.line → ⊥
  fire_unspent h all f m un (inl s) = apart h all s.it s.mem f m s.is.0
  fire_unspent h all f m un (inr s) = un (subst (λ z. IsGone h z) ((fires_once G body far h all).same s.it f s.mem m s.is.0) s.is.1)

  -- a node that is stopped by an arm: its session is still at the armed line
  armed_at : (h : List (ℕ × ActorEvent)) → AllHeed G body h → (f : Fired) → In f (fires h) → (IsGone h f → ⊥) → IsArmedAt G body (lines G h) f.line
  armed_at h all f m un =
      let k = (fires_ok G body h all).at f m in
      record {
        session = f.by;
        when = k.when;
        stands = k.stands;
        armed = elim k.waits [ inl p ↦ subst (λ z. G.armed f.by z f.line ≡ true) (sym (knows G far h f.by)) p.1 | inr g ↦ absurd (un g) ];
      }

  ordered : (h : List (ℕ × ActorEvent)) (i : ℕ) → AllHeed G body h → (count_of i h).up ≡ true → IsStopOrdered body h i → Charges (lines G h) h → Charges (lines G h ++ lines_by G (lines G h) (part G i h) i Stop) ((i, Stop) ∷ h)
  ordered h i all up o k =
      let d = duty_ok G body h all in
      charged_line (i, Stop) h (lines G h) _ o.it.line (inl (d.its.at o.it o.mem ∙ ap (λ z. Some z) o.is.0)) (order_unspent h all o.it o.mem (stop_unspent h i o.it up o.is.0 o.is.1)) (inl (record { it = o.it; mem = o.mem; is = (refl, stop_now h i o.it o.is.0) })) k

  armed : (h : List (ℕ × ActorEvent)) (i : ℕ) → AllHeed G body h → (count_of i h).up ≡ true → IsStopArmed h i → Charges (lines G h) h → Charges (lines G h ++ lines_by G (lines G h) (part G i h) i Stop) ((i, Stop) ∷ h)
  armed h i all up o k =
      let un = fired_unspent h i o.it up o.is.0 o.is.1 in
      charged_line (i, Stop) h (lines G h) _ o.it.line (inr (armed_at h all o.it o.mem un)) (fire_unspent h all o.it o.mem un) (inr (record { it = o.it; mem = o.mem; is = (refl, fired_now h i o.it o.is.0) })) k

  stopped : (h : List (ℕ × ActorEvent)) (i : ℕ) → AllHeed G body h → Heeds G body h i Stop → Charges (lines G h) h → Charges (lines G h ++ lines_by G (lines G h) (part G i h) i Stop) ((i, Stop) ∷ h)
  stopped h i all may k = elim may.1 [ inl o ↦ ordered h i all may.0 o k | inr f ↦ armed h i all may.0 f k ]

  started : (h : List (ℕ × ActorEvent)) (i : ℕ) (e : ActorEvent) → turn e ≡ Rise → (qs : List Ordered) → orders body ((i, e) ∷ h) ≡ qs ++ orders body h → AllHeed G body h → (count_of i h).up ≡ false → IsStartOrdered body h i → Charges (lines G h) h → Charges (lines G h ++ line.Up i ∷ []) ((i, e) ∷ h)
  started h i e t qs same all up o k =
      let d = duty_ok G body h all in
      charged_line (i, e) h (lines G h) (line.Up i) o.it.line (d.its.at o.it o.mem ∙ ap (λ z. Some z) o.is.0) (order_unspent h all o.it o.mem (start_unspent h i o.it up o.is.0 o.is.1)) (inl (record { it = o.it; mem = subst (λ z. In o.it z) (sym same) (in_append qs (orders body h) o.mem); is = (refl, start_now h i e o.it t o.is.0) })) k

  silent : (h : List (ℕ × ActorEvent)) (x : ℕ × ActorEvent) → Charges (lines G h) h → Charges (lines G h ++ []) (x ∷ h)
  silent h x k = subst (λ z. Charges z (x ∷ h)) (sym (append_nil (lines G h))) (record { charges = k.charges; each = k.each; once = k.once; spent = λ n m. spent_next body x h n (k.spent n m) })

  spoken : (h : List (ℕ × ActorEvent)) (x : ℕ × ActorEvent) (l : Line) → IsChargeOf G body (lines G h) l None → Charges (lines G h) h → Charges (lines G h ++ l ∷ []) (x ∷ h)
  spoken h x l free k = free_line x h (lines G h) l free k

  booted : (h : List (ℕ × ActorEvent)) (i p a : ℕ) (l : List KeptEntry) (b : Bool) → is_up i (lines G h) ≡ b → AllHeed G body h → (count_of i h).up ≡ false → (b ≡ true) ⊎ IsStartOrdered body h i → Charges (lines G h) h → Charges (lines G h ++ up_line b i) ((i, Node (Boot p a l)) ∷ h)
  booted h i p a l true e all up may k = silent h (i, Node (Boot p a l)) k
  booted h i p a l false e all up (inl q) k = absurd (cc)
  booted h i p a l false e all up (inr o) k = started h i (Node (Boot p a l)) refl [] refl all up o k

  charges_row : (h : List (ℕ × ActorEvent)) (i : ℕ) (e : ActorEvent) → AllHeed G body h → Heeds G body h i e → Charges (lines G h) h → Charges (lines G h ++ lines_by G (lines G h) (part G i h) i e) ((i, e) ∷ h)
  charges_row h i Stop all may k = stopped h i all may k
  charges_row h i (Node Down) all may k = spoken h (i, Node Down) _ tt k
  charges_row h i (Node (Boot p a l)) all may k = booted h i p a l (is_up i (lines G h)) refl all may.0 may.1 k
  charges_row h i (Node (Back p)) all may k = started h i (Node (Back p)) refl [] refl all may.0 may.1 k
  charges_row h i (Node BackLead) all may k = started h i (Node BackLead) refl [] refl all may.0 may.1 k
  charges_row h i (Node (BackTake g l)) all may k = started h i (Node (BackTake g l)) refl [] refl all may.0 may.1 k
  charges_row h i (Node (BackGrow l)) all may k = started h i (Node (BackGrow l)) refl [] refl all may.0 may.1 k
  charges_row h i (Node (BackAppend x)) all may k = started h i (Node (BackAppend x)) refl [] refl all may.0 may.1 k
  charges_row h i (Node e) all may k = silent h (i, Node e) k
  charges_row h i (Begun b g) all may k = spoken h (i, Begun b g) _ tt k
  charges_row h i (Say r) all may k = spoken h (i, Say r) _ tt k
  charges_row h i Note all may k = spoken h (i, Note) _ tt k
  charges_row h i (Finish a) all may k = spoken h (i, Finish a) _ tt k
  charges_row h i Barrier all may k = spoken h (i, Barrier) _ tt k
  charges_row h i (Fed d g) all may k = spoken h (i, Fed d g) _ tt k
  charges_row h i (FedAgain d) all may k = spoken h (i, FedAgain d) _ tt k
  charges_row h i e all may k = silent h (i, e) k

  charges_ok : (h : List (ℕ × ActorEvent)) → AllHeed G body h → Charges (lines G h) h
  charges_ok [] all = record { charges = []; each = tt; once = tt; spent = λ k m. absurd (nothing m) }
  charges_ok (x ∷ h) all = charges_row h x.0 x.1 all.1 all.0.heeds (charges_ok h all.1)

  pub charged : (h : List (ℕ × ActorEvent)) → AllHeed G body h → AreCharged G body (lines G h)
  charged h all = let k = charges_ok h all in record { charges = k.charges; each = k.each; once = k.once }

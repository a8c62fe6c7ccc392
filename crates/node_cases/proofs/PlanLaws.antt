-- The plan of a case.
use Rattle.std.proofs.Common.{ℕ, zero, suc, ◌≡◌, ◌+◌, ◌≢◌, List, [], ◌∷◌, ◌++◌, length, length-append, map, arith, refl, sym, subst, ap, ◌∙◌}
use Rattle.std.specs.Prelude.{◌==◌, Bool, true, false, replicate}
use Rattle.std.specs.Str.{bytes_eq}
use Rattle.std.proofs.lemmas.Bool.Decides.{Decides-eqb}
use Rattle.actor_trace.specs.Actors.{Knows, fresh}
use Rattle.cluster_steps.specs.declared.events.Event.{Event}
use Rattle.cluster_events.specs.Operator.{operators_from, operators_if}
use Rattle.cluster_events.specs.Settings.{lines_to_do, work_of}
use Rattle.cluster_steps.specs.Guards.{IsPlan}
use Rattle.script_form.specs.declared.scripts.Act.{Act}
use Rattle.report_laws.specs.Work.{items_at, place_from, said, said_by, start}
use Rattle.node_cases.specs.Offices.{placed}
use Rattle.node_cases.specs.Plans.{act_in, act_of, order_line, setting_of}
use Rattle.node_cases.specs.declared.orders.Order.{Order}

zeros_differ : (i j : ℕ) → (i ≡ j → ⊥) → bytes_eq (replicate i 0) (replicate j 0) ≡ false
zeros_differ zero zero n = absurd (n refl)
zeros_differ zero (suc j) n = refl
zeros_differ (suc i) zero n = refl
zeros_differ (suc i) (suc j) n = zeros_differ i j (λ e. n (ap suc e))

zeros_apart : (i j : ℕ) → (i == j) ≡ false → bytes_eq (replicate i 0) (replicate j 0) ≡ false
zeros_apart i j e = zeros_differ i j (λ q. absurd (let t : (i == j) ≡ true = (Decides-eqb i j).1 q in cc))

pub is_plan : (orders : List Order) → IsPlan (setting_of orders)
is_plan orders = record { apart = zeros_apart; steady = λ s x h legal. omega arith }

-- the operator's lines are the orders, from the second line on
is_operators : (starts : Bool) (node k : ℕ) (rest : List (ℕ × Act)) → operators_if k (act_in starts node) rest ≡ (k, act_in starts node) ∷ rest
is_operators true node k rest = refl
is_operators false node k rest = refl

all_placed : (k : ℕ) (orders : List Order) → operators_from k (map order_line orders ++ []) ≡ placed k orders
all_placed k [] = refl
all_placed k (o ∷ os) = is_operators o.starts o.node k (operators_from (k + 1) (map order_line os ++ [])) ∙ ap (λ t. (k, act_of o) ∷ t) (all_placed (k + 1) os)

pub all_due : (orders : List Order) → operators_from 0 (lines_to_do (setting_of orders)) ≡ placed 1 orders
all_due orders = all_placed 1 orders

-- the session has its one line to do
says_none : (starts : Bool) (node : ℕ) (name : List ℕ) (later : List (List ℕ)) → said_by name (act_in starts node) later ≡ later
says_none true node name later = refl
says_none false node name later = refl

said_nothing : (name : List ℕ) (orders : List Order) → said name (map order_line orders) ≡ []
said_nothing name [] = refl
said_nothing name (o ∷ os) = says_none o.starts o.node name (said name (map order_line os)) ∙ said_nothing name os

has_none : {A : Type 0} {x : A} {xs : List A} → x ∷ xs ≡ [] → ⊥
has_none e = absurd (cc)

pub has_work : (orders : List Order) → work_of (setting_of orders) 4 ≢ []
has_work orders =
    subst (λ (ts : List (List ℕ)). items_at (place_from (setting_of orders).language start ([] ∷ ts)) ≢ []) (sym (said_nothing (replicate 4 0) orders)) has_none

-- the last one of the actors
head_same : {A : Type 0} {x y : A} {xs ys : List A} → x ∷ xs ≡ y ∷ ys → x ≡ y
head_same e = cc

tail_same : {A : Type 0} {x y : A} {xs ys : List A} → x ∷ xs ≡ y ∷ ys → xs ≡ ys
tail_same e = cc

longer : {A : Type 0} (xs : List A) (x : A) → length (xs ++ x ∷ []) ≡ length xs + 1
longer xs x = length-append xs (x ∷ [])

last_same : {A : Type 0} (xs ys : List A) (x y : A) → xs ++ x ∷ [] ≡ ys ++ y ∷ [] → (xs ≡ ys) × (x ≡ y)
last_same [] [] x y e = (refl, head_same e)
last_same [] (z ∷ ys) x y e = absurd (let n : [] ≡ ys ++ y ∷ [] = tail_same e in let m : 0 ≡ length (ys ++ y ∷ []) = ap length n in let l = longer ys y in omega arith)
last_same (w ∷ xs) [] x y e = absurd (let n : xs ++ x ∷ [] ≡ [] = tail_same e in let m : length (xs ++ x ∷ []) ≡ 0 = ap length n in let l = longer xs x in omega arith)
last_same {A} (w ∷ xs) (z ∷ ys) x y e = go (last_same xs ys x y (tail_same e))
  where
    go : (xs ≡ ys) × (x ≡ y) → (w ∷ xs ≡ z ∷ ys) × (x ≡ y)
    go (a, b) = (ap (λ h. h ∷ xs) (head_same e) ∙ ap (λ t. z ∷ t) a, b)

pub last_fresh : (xs : List (Knows Event)) (x : Knows Event) (n : ℕ) → xs ++ x ∷ [] ≡ fresh (n + 1) → (xs ≡ fresh n) × (x.number ≡ n) × (x.made ≡ [])
last_fresh xs x n e =
    let s : n + 1 ≡ suc n = omega arith in
    let p = last_same xs (fresh n) x (record { number = n; made = []; seen = []; room = 0 }) (e ∙ ap (λ k. fresh k) s) in
    (p.0, ap (λ (a : Knows Event). a.number) p.1, ap (λ (a : Knows Event). a.made) p.1)

not_nil : {A : Type 0} (xs : List A) (x : A) (ys : List A) → ys ≡ xs ++ x ∷ [] → length ys ≡ 0 → ⊥
not_nil xs x ys e z = let m : length ys ≡ length (xs ++ x ∷ []) = ap length e in let l : length (xs ++ x ∷ []) ≡ length xs + 1 = longer xs x in absurd (omega arith)

pub none_fresh : (xs : List (Knows Event)) (n : ℕ) → xs ≡ fresh (n + 1) → length xs ≡ 0 → ⊥
none_fresh xs n e none =
    let s : n + 1 ≡ suc n = omega arith in
    not_nil (fresh n) (record { number = n; made = []; seen = []; room = 0 }) xs (e ∙ ap (λ k. fresh k) s) none

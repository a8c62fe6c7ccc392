-- The operator of a case orders a start, and sees that the node is up.
use Rattle.std.proofs.Common.{ℕ, suc, ◌≡◌, ◌+◌, ◌<◌, List, [], ◌∷◌, ◌++◌, length, get_or, arith, refl, sym, subst, ap, ◌∙◌}
use Rattle.std.proofs.lemmas.Option.{slice_get_read}
use Rattle.std.specs.Prelude.{Bool, true, false, Some, drop, slice_get}
use mathlib.Core.Logic.{inl}
use Rattle.actor_trace.specs.Actors.{Knows}
use Rattle.actor_trace.specs.History.{entries_of}
use Rattle.actor_trace.specs.Lists.{Begins}
use Rattle.actor_trace.specs.Steps.{Adds, Rests}
use Rattle.cluster_events.specs.Arms.{HasFallen}
use Rattle.cluster_events.specs.Operator.{Duty, IsHeededAt, IsOfNode, heed, over}
use Rattle.cluster_events.specs.Parts.{ActorEvent}
use Rattle.cluster_events.specs.Settings.{Setting, lines_to_do}
use Rattle.cluster_events.proofs.LinePlaces.{sees}
use Rattle.cluster_steps.specs.Guards.{IsPlan, AreLegalSteps, MayTakeStep}
use Rattle.cluster_steps.specs.Named.{steps, world}
use Rattle.cluster_steps.specs.declared.events.Event.{Event}
use Rattle.cluster_steps.specs.declared.events.Event.TheVariants as event
use Rattle.cluster_steps.proofs.StepLaws.{more_steps, steps_append}
use Rattle.script_form.specs.declared.scripts.Act.{Act}
use Rattle.node_state.proofs.CallLaws.{begins_on}
use Rattle.node_state.proofs.LogLists.{drop_at}
use Rattle.node_state.proofs.NodeLaws.{fired_adds}
use Rattle.node_cases.specs.Offices.{IsDoneAt, IsDoneIn, IsOffice, IsOrdered, due_of, duty_in, placed}
use Rattle.node_cases.specs.Plans.{act_in, act_of}
use Rattle.node_cases.specs.declared.orders.Order.{Order}
use Rattle.node_cases.proofs.OfficeLaws.{IsSmall, admits_adds, before, duty_adds, duty_idle}
use Rattle.node_cases.proofs.PlanLaws.{is_plan}
use Rattle.node_cases.proofs.WakeLaws.{squeezed}

-- the order at a place
pub order_there : (xs ys : List Order) (at : ℕ) (o : Order) → xs ≡ ys → at < length xs → o ≡ get_or xs at o → slice_get ys at ≡ Some o
order_there xs ys at o same less is = subst (λ zs. slice_get zs at ≡ Some o) same (slice_get_read xs (length xs) at o refl less is)

-- the next order
next_order : (os : List Order) (d : ℕ) (o : Order) → slice_get os d ≡ Some o → placed (d + 1) (drop d os) ≡ (d + 1, act_of o) ∷ placed (d + 1 + 1) (drop (d + 1) os)
next_order os d o at = let e : suc d ≡ d + 1 = omega arith in ap (λ xs. placed (d + 1) xs) (drop_at os d o at ∙ ap (λ k. o ∷ drop k os) e)

of_node : (starts : Bool) (node : ℕ) → IsOfNode (act_in starts node)
of_node true node = tt
of_node false node = tt

-- what is done is heeded
heeded : (G : Setting) (starts : Bool) (node : ℕ) (told : List (ℕ × Event)) → IsDoneIn G starts node told → IsHeededAt G (lines_to_do G) (steps G told) (act_in starts node)
heeded G true node told up = inl ((sees G (steps G told) node).up up)
heeded G false node told down = (sees G (steps G told) node).down down.0 down.1

pub may_order : (G : Setting) (a : Knows Event) (k : ℕ) (os : List Order) (d : ℕ) (order : Order) → IsOffice G (record { actor = a; admitted = k; orders = os; done = d; ordered = false }) → slice_get os d ≡ Some order
    → MayTakeStep G a.seen a.number event.Order
may_order G a k os d order o at =
    subst (λ i. MayTakeStep G a.seen i event.Order) (sym o.number) (record {
      plan = subst (λ S. IsPlan S) (sym o.plan) (is_plan os);
      exact = tt;
      allowed = record {
        may = refl;
        by_script = record {
          heeds = record {
            unordered = ap (λ (z : Duty). z.ordered) o.duty;
            line = d + 1;
            act = act_of order;
            rest = placed (d + 1 + 1) (drop (d + 1) os);
            next = ap (λ (z : Duty). z.left) o.duty ∙ next_order os d order at;
            of_node = of_node order.starts order.node;
          };
          goes_on = subst (λ f. HasFallen G (steps G a.seen) 0 f) (sym o.unfired) tt;
        };
        pages = tt;
      };
    })

pub office_orders : (G : Setting) (a b : Knows Event) (k : ℕ) (os : List Order) (d : ℕ) → IsOffice G (record { actor = a; admitted = k; orders = os; done = d; ordered = false }) → b.number ≡ a.number
    → Adds a.number event.Order a.seen b.seen → AreLegalSteps G b.seen → IsOffice G (record { actor = b; admitted = k; orders = os; done = d; ordered = true })
office_orders G a b k os d o same adds legal =
    let r : Adds 0 event.Order a.seen b.seen = subst (λ i. Adds i event.Order a.seen b.seen) o.number adds in
    record {
      number = same ∙ o.number;
      plan = o.plan;
      unfired = fired_adds G 0 event.Order a.seen b.seen (λ g. refl) r;
      admits = subst (λ t. IsSmall k (world G t).admits) (sym r.whole) (subst (λ xs. IsSmall k xs) (sym (admits_adds G event.Order a.seen b.seen r legal)) o.admits);
      duty = duty_adds G event.Order a.seen b.seen r legal ∙ ap (λ (z : Duty). heed z ActorEvent.Order) o.duty;
    }

-- who hears of it knows that the start is ordered
pub is_ordered : (G : Setting) (a b : Knows Event) (k : ℕ) (os : List Order) (d : ℕ) (order : Order) (j : ℕ) (heard last told : List (ℕ × Event)) → IsOffice G (record { actor = a; admitted = k; orders = os; done = d; ordered = false })
    → slice_get os d ≡ Some order → Begins heard a.seen → Adds a.number event.Order a.seen b.seen → AreLegalSteps G b.seen → Rests j b.seen last → told ≡ last → IsOrdered G order heard told
is_ordered G a b k os d order j heard last told o at knew adds legal more is =
    let r : Adds 0 event.Order a.seen b.seen = subst (λ i. Adds i event.Order a.seen b.seen) o.number adds in
    let on : Begins b.seen told = record { later = more.between; whole = sym (is ∙ more.whole) } in
    record {
      before = r.between ++ a.seen;
      from = begins_on knew (record { later = r.between; whole = refl });
      into = begins_on (record { later = []; whole = sym r.whole }) on;
      line = d + 1;
      rest = placed (d + 1 + 1) (drop (d + 1) os);
      next = ap (λ (z : Duty). z.left) (duty_idle G r.between a.seen (before G event.Order a.seen b.seen r legal) r.none ∙ o.duty) ∙ next_order os d order at;
    }

-- it sees that the node is up
pub may_obey : (G : Setting) (a : Knows Event) (k : ℕ) (os : List Order) (d : ℕ) (order : Order) (known told : List (ℕ × Event)) → IsOffice G (record { actor = a; admitted = k; orders = os; done = d; ordered = true })
    → slice_get os d ≡ Some order → AreLegalSteps G a.seen → a.made ≡ entries_of a.number a.seen → Begins known told → entries_of 0 known ≡ a.made → Begins told a.seen → IsDoneAt G order told
    → MayTakeStep G a.seen a.number event.Obeyed
may_obey G a k os d order known told o at legal own knew made heard done =
    let mine : entries_of 0 known ≡ entries_of 0 a.seen = made ∙ (own ∙ ap (λ i. entries_of i a.seen) o.number) in
    let idle : entries_of 0 (heard.later ++ told) ≡ entries_of 0 told = ap (λ t. entries_of 0 t) heard.whole ∙ (sym mine ∙ sym (squeezed 0 known told a.seen knew heard mine)) in
    let all : AreLegalSteps G (heard.later ++ told) = subst (λ t. AreLegalSteps G t) (sym heard.whole) legal in
    let same : duty_in G told ≡ duty_in G a.seen = sym (ap (λ t. duty_in G t) (sym heard.whole) ∙ duty_idle G heard.later told all idle) in
    let here : (duty_in G a.seen).ordered ≡ true = ap (λ (z : Duty). z.ordered) o.duty in
    subst (λ i. MayTakeStep G a.seen i event.Obeyed) (sym o.number) (record {
      plan = subst (λ S. IsPlan S) (sym o.plan) (is_plan os);
      exact = tt;
      allowed = record {
        may = refl;
        by_script = record {
          heeds = record {
            later = more_steps G heard.later told;
            before = steps G told;
            split = ap (λ t. steps G t) (sym heard.whole) ∙ steps_append G heard.later told;
            same = ap (λ (z : Duty). z.left) same;
            ordered = here;
            line = d + 1;
            act = act_of order;
            rest = placed (d + 1 + 1) (drop (d + 1) os);
            next = ap (λ (z : Duty). z.left) o.duty ∙ next_order os d order at;
            of_node = of_node order.starts order.node;
            since = ap (λ (z : Duty). z.ordered) same ∙ here;
            heeded = heeded G order.starts order.node told done;
          };
          goes_on = subst (λ f. HasFallen G (steps G a.seen) 0 f) (sym o.unfired) tt;
        };
        pages = tt;
      };
    })

pub office_obeys : (G : Setting) (a b : Knows Event) (k : ℕ) (os : List Order) (d : ℕ) (order : Order) → IsOffice G (record { actor = a; admitted = k; orders = os; done = d; ordered = true }) → slice_get os d ≡ Some order
    → b.number ≡ a.number → Adds a.number event.Obeyed a.seen b.seen → AreLegalSteps G b.seen → IsOffice G (record { actor = b; admitted = k; orders = os; done = d + 1; ordered = false })
office_obeys G a b k os d order o at same adds legal =
    let r : Adds 0 event.Obeyed a.seen b.seen = subst (λ i. Adds i event.Obeyed a.seen b.seen) o.number adds in
    record {
      number = same ∙ o.number;
      plan = o.plan;
      unfired = fired_adds G 0 event.Obeyed a.seen b.seen (λ g. refl) r;
      admits = subst (λ t. IsSmall k (world G t).admits) (sym r.whole) (subst (λ xs. IsSmall k xs) (sym (admits_adds G event.Obeyed a.seen b.seen r legal)) o.admits);
      duty = duty_adds G event.Obeyed a.seen b.seen r legal ∙ ap (λ (z : Duty). over z) (o.duty ∙ ap (λ (xs : List (ℕ × Act)). due_of xs true) (next_order os d order at));
    }

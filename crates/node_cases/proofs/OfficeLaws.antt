-- The operator of a case: what it has to do, and whom it admitted, stays as it is while it does nothing.
use Rattle.std.proofs.Common.{ℕ, ◌≡◌, ◌*◌, ◌<◌, ◌≤◌, List, [], ◌∷◌, ◌++◌, arith, refl, sym, subst, ap, ◌∙◌}
use Rattle.std.specs.Prelude.{Bool, true, false, None}
use Rattle.actor_trace.specs.Actors.{Knows}
use Rattle.actor_trace.specs.History.{entries_of}
use Rattle.actor_trace.specs.Lists.{Begins}
use Rattle.actor_trace.specs.Steps.{Adds, Rests}
use Rattle.actor_trace.proofs.Entries.{idle_step}
use Rattle.cluster_consensus.specs.Events.{NodeEvent}
use Rattle.cluster_consensus.specs.Facts.{Admit}
use Rattle.cluster_events.specs.Arms.{HasFallen, last_fired}
use Rattle.cluster_events.specs.Guards.{MayDo}
use Rattle.cluster_events.specs.Operator.{Duty, heed}
use Rattle.cluster_events.specs.Parts.{ActorEvent, acts, add_act, field}
use Rattle.cluster_events.specs.Settings.{Setting}
use Rattle.cluster_requests.specs.Requests.{field_after}
use Rattle.cluster_steps.specs.Guards.{IsPlan, AreLegalSteps, MayTakeStep}
use Rattle.cluster_steps.specs.Named.{named, steps, world}
use Rattle.cluster_steps.specs.declared.events.Event.{Event}
use Rattle.cluster_steps.specs.declared.events.Event.TheVariants as event
use Rattle.cluster_steps.proofs.OwnLaws.{tells_begins}
use Rattle.core_lists.specs.Lists.{Each, In}
use Rattle.core_lists.specs.Majorities.{Majority, count}
use Rattle.core_lists.proofs.Lists.{each_add, each_more, each_none}
use Rattle.script_form.specs.declared.scripts.Act.{Act}
use Rattle.node_state.proofs.LogLists.{none_behind}
use Rattle.node_state.proofs.NewLaws.{nothing_done}
use Rattle.node_state.proofs.NodeLaws.{fired_adds, fired_more, fired_rests}
use Rattle.node_cases.specs.Offices.{IsOffice, due_of, duty_in, placed}
use Rattle.node_cases.specs.Plans.{setting_of}
use Rattle.node_cases.specs.declared.orders.Order.{Order}
use Rattle.node_cases.proofs.PlanLaws.{all_due, is_plan}

-- an event of another actor
idle_heed : (G : Setting) (g : List (ℕ × ActorEvent)) (j : ℕ) (e : ActorEvent) (d : Duty) → (0 ≡ j → ⊥) → MayDo G g j e → heed d e ≡ d
idle_heed G g j ActorEvent.Order d n may = absurd (n (sym may))
idle_heed G g j ActorEvent.Obeyed d n may = absurd (n (sym may))
idle_heed G g j ActorEvent.Barrier d n may = absurd (n (sym may.0))
idle_heed G g j (ActorEvent.Fed p k) d n may = absurd (n (sym may.0))
idle_heed G g j (ActorEvent.FedAgain p) d n may = absurd (n (sym may.0))
idle_heed G g j _ d n may = refl

pub duty_idle : (G : Setting) (later h : List (ℕ × Event)) → AreLegalSteps G (later ++ h) → entries_of 0 (later ++ h) ≡ entries_of 0 h → duty_in G (later ++ h) ≡ duty_in G h
duty_idle G [] h legal own = refl
duty_idle G (x ∷ later) h legal own =
    let s = idle_step 0 x later h own in
    let g = steps G (later ++ h) in
    idle_heed G g x.0 (named G g x.0 x.1) (duty_in G (later ++ h)) s.0 legal.0.allowed.may ∙ duty_idle G later h legal.1 s.1

idle_admits : (G : Setting) (g : List (ℕ × ActorEvent)) (j : ℕ) (e : ActorEvent) → (0 ≡ j → ⊥) → MayDo G g j e → (field_after (add_act j e (acts g))).core.admits ≡ (field g).core.admits
idle_admits G g j (ActorEvent.Node (NodeEvent.Admits k p a)) n may = absurd (n (sym may.2))
idle_admits G g j (ActorEvent.Node e) n may = refl
idle_admits G g j _ n may = refl

admits_idle : (G : Setting) (later h : List (ℕ × Event)) → AreLegalSteps G (later ++ h) → entries_of 0 (later ++ h) ≡ entries_of 0 h → (world G (later ++ h)).admits ≡ (world G h).admits
admits_idle G [] h legal own = refl
admits_idle G (x ∷ later) h legal own =
    let s = idle_step 0 x later h own in
    let g = steps G (later ++ h) in
    idle_admits G g x.0 (named G g x.0 x.1) s.0 legal.0.allowed.may ∙ admits_idle G later h legal.1 s.1

abbrev pub IsSmall : ℕ → List Admit → Type 0
IsSmall k xs = Each (λ b. (b.node ≤ k) × (b.accepted ≡ 0)) xs

-- an operator that did nothing
pub office_new : (G : Setting) (a : Knows Event) (os : List Order) → G ≡ setting_of os → a.number ≡ 0 → a.made ≡ [] → a.made ≡ entries_of a.number a.seen → AreLegalSteps G a.seen
    → IsOffice G (record { actor = a; admitted = 0; orders = os; done = 0; ordered = false })
office_new G a os plan number made own legal =
    let none : entries_of 0 a.seen ≡ [] = ap (λ i. entries_of i a.seen) (sym number) ∙ (sym own ∙ made) in
    let idle = nothing_done 0 a.seen none in
    let all : AreLegalSteps G (a.seen ++ []) = subst (λ t. AreLegalSteps G t) (sym (none_behind a.seen)) legal in
    record {
      number = number;
      plan = plan;
      unfired = ap (λ t. last_fired 0 (steps G t)) (sym (none_behind a.seen)) ∙ fired_more G 0 a.seen [] idle;
      admits = subst (λ xs. IsSmall 0 xs) (sym (ap (λ t. (world G t).admits) (sym (none_behind a.seen)) ∙ admits_idle G a.seen [] all idle)) each_none;
      duty = ap (λ t. duty_in G t) (sym (none_behind a.seen)) ∙ (duty_idle G a.seen [] all idle
          ∙ subst (λ S. duty_in S [] ≡ due_of (placed 1 os) false) (sym plan) (ap (λ (xs : List (ℕ × Act)). due_of xs false) (all_due os)));
    }

-- it takes room
pub office_same : (G : Setting) (a b : Knows Event) (k : ℕ) (os : List Order) (d : ℕ) (w : Bool) → IsOffice G (record { actor = a; admitted = k; orders = os; done = d; ordered = w }) → b.number ≡ a.number
    → b.seen ≡ a.seen → IsOffice G (record { actor = b; admitted = k; orders = os; done = d; ordered = w })
office_same G a b k os d w o same seen = record {
  number = same ∙ o.number;
  plan = o.plan;
  unfired = subst (λ t. last_fired 0 (steps G t) ≡ None) (sym seen) o.unfired;
  admits = subst (λ t. IsSmall k (world G t).admits) (sym seen) o.admits;
  duty = ap (λ t. duty_in G t) seen ∙ o.duty;
}

-- it hears more
pub office_rests : (G : Setting) (a b : Knows Event) (k : ℕ) (os : List Order) (d : ℕ) (w : Bool) → IsOffice G (record { actor = a; admitted = k; orders = os; done = d; ordered = w }) → b.number ≡ a.number
    → Rests a.number a.seen b.seen → AreLegalSteps G b.seen → IsOffice G (record { actor = b; admitted = k; orders = os; done = d; ordered = w })
office_rests G a b k os d w o same more legal =
    let r : Rests 0 a.seen b.seen = subst (λ i. Rests i a.seen b.seen) o.number more in
    let all : AreLegalSteps G (r.between ++ a.seen) = subst (λ t. AreLegalSteps G t) r.whole legal in
    record {
      number = same ∙ o.number;
      plan = o.plan;
      unfired = fired_rests G 0 a.seen b.seen r o.unfired;
      admits = subst (λ xs. IsSmall k xs) (sym (ap (λ t. (world G t).admits) r.whole ∙ admits_idle G r.between a.seen all r.none)) o.admits;
      duty = ap (λ t. duty_in G t) r.whole ∙ (duty_idle G r.between a.seen all r.none ∙ o.duty);
    }

-- what stood before its own step
pub before : (G : Setting) (e : Event) (old new : List (ℕ × Event)) → (d : Adds 0 e old new) → AreLegalSteps G new → AreLegalSteps G (d.between ++ old)
before G e old new d legal = let l : AreLegalSteps G ((0, e) ∷ (d.between ++ old)) = subst (λ t. AreLegalSteps G t) d.whole legal in l.1

pub duty_adds : (G : Setting) (e : Event) (old new : List (ℕ × Event)) → (d : Adds 0 e old new) → AreLegalSteps G new → duty_in G new ≡ heed (duty_in G old) (named G (steps G (d.between ++ old)) 0 e)
duty_adds G e old new d legal =
    ap (λ t. duty_in G t) d.whole ∙ ap (λ z. heed z (named G (steps G (d.between ++ old)) 0 e)) (duty_idle G d.between old (before G e old new d legal) d.none)

pub admits_adds : (G : Setting) (e : Event) (old new : List (ℕ × Event)) → (d : Adds 0 e old new) → AreLegalSteps G new → (world G (d.between ++ old)).admits ≡ (world G old).admits
admits_adds G e old new d legal = admits_idle G d.between old (before G e old new d legal) d.none

-- it admits a store
pub office_admits : (G : Setting) (a b : Knows Event) (k node : ℕ) (os : List Order) (d : ℕ) (w : Bool) → IsOffice G (record { actor = a; admitted = k; orders = os; done = d; ordered = w }) → k < node
    → b.number ≡ a.number → Adds a.number (event.Admit node 0 0) a.seen b.seen → AreLegalSteps G b.seen
    → IsOffice G (record { actor = b; admitted = node; orders = os; done = d; ordered = w })
office_admits G a b k node os d w o above same adds legal =
    let r : Adds 0 (event.Admit node 0 0) a.seen b.seen = subst (λ i. Adds i (event.Admit node 0 0) a.seen b.seen) o.number adds in
    let old : IsSmall node (world G a.seen).admits = each_more (λ x q. let l : x.node ≤ k = q.0 in (omega arith, q.1)) o.admits in
    let mid = subst (λ xs. IsSmall node xs) (sym (admits_adds G (event.Admit node 0 0) a.seen b.seen r legal)) old in
    record {
      number = same ∙ o.number;
      plan = o.plan;
      unfired = fired_adds G 0 (event.Admit node 0 0) a.seen b.seen (λ g. refl) r;
      admits = subst (λ t. IsSmall node (world G t).admits) (sym r.whole) (each_add (omega arith, refl) mid);
      duty = duty_adds G (event.Admit node 0 0) a.seen b.seen r legal ∙ o.duty;
    }

-- what it admits is there
pub admitted_there : (G : Setting) (node i j : ℕ) (old new last note : List (ℕ × Event)) → Adds i (event.Admit node 0 0) old new → Rests j new last → note ≡ last
    → In (record { node = node; promised = 0; accepted = 0 }) (world G note).admits
admitted_there G node i j old new last note d more is =
    let b : Begins new note = record { later = more.between; whole = sym (is ∙ more.whole) } in
    (tells_begins G new note b).admits _ (subst (λ t. In (record { node = node; promised = 0; accepted = 0 }) (world G t).admits) (sym d.whole) In.here)

-- and it may do so, where it did not admit that node yet
fits_all : (n : ℕ) (xs ys : List Admit) (k : ℕ) → n ≡ 3 → IsSmall k xs → Each (λ a. Majority n (λ i. Each (λ b. b.node ≡ i → a.accepted ≤ b.promised) ys)) xs
fits_all n xs ys k three small =
    each_more (λ a q. record {
      who = λ i. true;
      many = subst (λ m. m < 2 * count m (λ i. true)) (sym three) (omega arith);
      hold = λ i low high w. record { at = λ b m e. (let z : a.accepted ≡ 0 = q.1 in omega arith) };
    }) small

pub may_admit : (G : Setting) (a : Knows Event) (k node : ℕ) (os : List Order) (d : ℕ) (w : Bool) → IsOffice G (record { actor = a; admitted = k; orders = os; done = d; ordered = w }) → k < node
    → MayTakeStep G a.seen a.number (event.Admit node 0 0)
may_admit G a k node os d w o above =
    let others : Each (λ (b : Admit). b.node ≡ node → ⊥) (world G a.seen).admits = each_more (λ x q. λ e. (let l : x.node ≤ k = q.0 in let s : x.node ≡ node = e in absurd (omega arith))) o.admits in
    let small : IsSmall node (world G a.seen).admits = each_more (λ x q. let l : x.node ≤ k = q.0 in (omega arith, q.1)) o.admits in
    let next : Admit = record { node = node; promised = 0; accepted = 0 } in
    let three : G.nodes ≡ 3 = ap (λ (S : Setting). S.nodes) o.plan in
    subst (λ i. MayTakeStep G a.seen i (event.Admit node 0 0)) (sym o.number) (record {
      plan = subst (λ S. IsPlan S) (sym o.plan) (is_plan os);
      exact = tt;
      allowed = record {
        may = (((others, fits_all G.nodes (next ∷ (world G a.seen).admits) (next ∷ (world G a.seen).admits) node three (each_add (omega arith, refl) small)), tt), tt, refl);
        by_script = record { heeds = tt; goes_on = subst (λ f. HasFallen G (steps G a.seen) 0 f) (sym o.unfired) tt };
        pages = (tt, tt);
      };
    })

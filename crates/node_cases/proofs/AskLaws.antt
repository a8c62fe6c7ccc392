-- The session of a case asks.
use Rattle.std.proofs.Common.{ℕ, suc, ◌≡◌, ◌+◌, ◌<◌, ◌≤◌, ◌≢◌, List, [], ◌∷◌, ◌++◌, length, arith, refl, sym, subst, ap, ◌∙◌}
use Rattle.std.specs.Prelude.{None}
use mathlib.Core.Logic.{inl}
use Rattle.actor_trace.specs.Actors.{Knows}
use Rattle.actor_trace.specs.History.{entries_of}
use Rattle.actor_trace.specs.Lists.{Begins}
use Rattle.actor_trace.specs.Steps.{Adds, Rests}
use Rattle.cluster_events.specs.Arms.{HasFallen, last_fired}
use Rattle.cluster_events.specs.Parts.{Part, barriers_printed, part}
use Rattle.cluster_events.specs.Settings.{Setting, work_of}
use Rattle.cluster_steps.specs.Guards.{IsPlan, AreLegalSteps, MayTakeStep}
use Rattle.cluster_steps.specs.Named.{steps, world}
use Rattle.cluster_steps.specs.declared.events.Event.{Event}
use Rattle.cluster_steps.specs.declared.events.Event.TheVariants as event
use Rattle.cluster_steps.proofs.OwnLaws.{tells_begins}
use Rattle.cluster_steps.proofs.StepLaws.{asks_below, idle_part, steps_length}
use Rattle.core_lists.specs.Lists.{Each, In}
use Rattle.core_lists.proofs.Lists.{each_more}
use Rattle.node_state.proofs.CallLaws.{begins_adds}
use Rattle.node_state.proofs.LogLists.{none_behind}
use Rattle.node_state.proofs.NewLaws.{nothing_done}
use Rattle.node_state.proofs.NodeLaws.{fired_adds, fired_more, fired_rests}
use Rattle.node_cases.specs.Asking.{IsAsker}
use Rattle.node_cases.specs.Plans.{setting_of}
use Rattle.node_cases.specs.Seats.{WereUp}
use Rattle.node_cases.specs.declared.orders.Order.{Order}
use Rattle.node_cases.proofs.PlanLaws.{has_work, is_plan}
use Rattle.node_cases.proofs.SeatLaws.{rests_begin, were_more}

pub asker_new : (G : Setting) (os : List Order) (a : Knows Event) → G ≡ setting_of os → a.number ≡ 4 → a.made ≡ [] → a.made ≡ entries_of a.number a.seen → WereUp G a.seen → IsAsker G a
asker_new G os a plan number made own saw =
    let none : entries_of 4 a.seen ≡ [] = ap (λ i. entries_of i a.seen) (sym number) ∙ (sym own ∙ made) in
    let idle = nothing_done 4 a.seen none in
    record {
      number = number;
      orders = os;
      plan = plan;
      unfired = ap (λ t. last_fired 4 (steps G t)) (sym (none_behind a.seen)) ∙ fired_more G 4 a.seen [] idle;
      saw = saw;
      left = subst (λ (p : Part). p.left ≢ []) (sym (ap (λ t. part G 4 (steps G t)) (sym (none_behind a.seen)) ∙ idle_part G 4 a.seen [] idle))
          (subst (λ S. work_of S 4 ≢ []) (sym plan) (has_work os));
    }

pub asker_rests : (G : Setting) (a b : Knows Event) → IsAsker G a → b.number ≡ a.number → Rests a.number a.seen b.seen → IsAsker G b
asker_rests G a b s same more =
    let r : Rests 4 a.seen b.seen = subst (λ i. Rests i a.seen b.seen) s.number more in
    record {
      number = same ∙ s.number;
      orders = s.orders;
      plan = s.plan;
      unfired = fired_rests G 4 a.seen b.seen r s.unfired;
      saw = were_more G a.seen b.seen (rests_begin 4 a.seen b.seen r) s.saw;
      left = subst (λ (p : Part). p.left ≢ []) (sym (ap (λ t. part G 4 (steps G t)) r.whole ∙ idle_part G 4 r.between a.seen r.none)) s.left;
    }

pub asker_same : (G : Setting) (a b : Knows Event) → IsAsker G a → b.number ≡ a.number → b.seen ≡ a.seen → IsAsker G b
asker_same G a b s same seen = record {
  number = same ∙ s.number;
  orders = s.orders;
  plan = s.plan;
  unfired = subst (λ t. last_fired 4 (steps G t) ≡ None) (sym seen) s.unfired;
  saw = subst (λ t. WereUp G t) (sym seen) s.saw;
  left = subst (λ t. (part G 4 (steps G t)).left ≢ []) (sym seen) s.left;
}

pub asker_asks : (G : Setting) (a b : Knows Event) → IsAsker G a → b.number ≡ a.number → Adds a.number event.Ask a.seen b.seen → IsAsker G b
asker_asks G a b s same adds =
    let r : Adds 4 event.Ask a.seen b.seen = subst (λ i. Adds i event.Ask a.seen b.seen) s.number adds in
    record {
      number = same ∙ s.number;
      orders = s.orders;
      plan = s.plan;
      unfired = fired_adds G 4 event.Ask a.seen b.seen (λ g. refl) r;
      saw = were_more G a.seen b.seen (begins_adds r) s.saw;
      left = subst (λ t. (part G 4 (steps G t)).left ≢ []) (sym r.whole)
          (subst (λ (p : Part). p.left ≢ []) (sym (idle_part G 4 r.between a.seen r.none)) s.left);
    }

pub may_ask : (G : Setting) (a : Knows Event) → IsAsker G a → AreLegalSteps G a.seen → MayTakeStep G a.seen a.number event.Ask
may_ask G a s legal =
    let g = steps G a.seen in
    let new : Each (λ t. t ≡ length g → ⊥) (world G a.seen).asks = each_more (λ t l. λ e. (let m : t < length g = l in let q : t ≡ length g = e in absurd (omega arith))) (asks_below G a.seen legal) in
    let waited : G.phase 4 (part G 4 g).told ≤ barriers_printed g = subst (λ (S : Setting). S.phase 4 (part G 4 g).told ≤ barriers_printed g) (sym s.plan) (omega arith) in
    subst (λ i. MayTakeStep G a.seen i event.Ask) (sym s.number) (record {
      plan = subst (λ S. IsPlan S) (sym s.plan) (is_plan s.orders);
      exact = tt;
      allowed = record {
        may = ((new, tt), waited, inl s.left);
        by_script = record {
          heeds = λ e. absurd (let q : 4 ≡ 0 = e in omega arith);
          goes_on = subst (λ f. HasFallen G g 4 f) (sym s.unfired) tt;
        };
        pages = tt;
      };
    })

-- what it asked is an ask
pub asked_there : (G : Setting) (i j ask : ℕ) (old new last note : List (ℕ × Event)) → Adds i event.Ask old new → ask + 1 ≡ length new → Rests j new last → note ≡ last → In ask (world G note).asks
asked_there G i j ask old new last note d ticket more is =
    let b : Begins new note = record { later = more.between; whole = sym (is ∙ more.whole) } in
    let mid = d.between ++ old in
    let size : length new ≡ suc (length mid) = ap length d.whole in
    let many : length (steps G mid) ≡ length mid = steps_length G mid in
    let same : length (steps G mid) ≡ ask = omega arith in
    (tells_begins G new note b).asks ask
    (subst (λ t. In ask (world G t).asks) (sym d.whole) (subst (λ t. In t (world G ((i, event.Ask) ∷ mid)).asks) same In.here))

-- What may be done may be done after whatever others do: the law of a machine.
use Rattle.std.proofs.Common.{ℕ, ◌≡◌, ◌≢◌, ◌<◌, List, [], ◌∷◌, ◌++◌, length, arith, refl, sym, subst, ap, ◌∙◌}
use Rattle.std.specs.Prelude.{◌==◌, Bool, true, false, Option, Some, None}
use Rattle.actor_trace.specs.History.{entries_of}
use Rattle.core_lists.specs.Lists.{Each}
use Rattle.core_lists.proofs.Lists.{each_more}
use Rattle.cluster_consensus.specs.Facts.{Own}
use Rattle.cluster_events.specs.ByScript.{IsByScript}
use Rattle.cluster_events.specs.Guards.{MayDo, IsLegalHistory}
use Rattle.cluster_events.specs.Parts.{ActorEvent, part, field}
use Rattle.cluster_events.specs.Settings.{Setting, lines_to_do}
use Rattle.cluster_events.proofs.Stays.{stays_long, asks_long, by_script_long, ask_by_script_long}
use Rattle.cluster_masters.specs.WholeLogs.{Leaves}
use Rattle.cluster_requests.specs.KeptEntries.{KeptEntry}
use Rattle.cluster_steps.specs.Guards.{MayTakeStep, IsAllowed, IsExact, LeavesPages, PagesStand, HasSchema, AreLegalSteps}
use Rattle.cluster_steps.specs.Named.{named, steps, world}
use Rattle.cluster_steps.specs.declared.events.Event.{Event}
use Rattle.cluster_steps.specs.declared.events.Event.TheVariants as event
use Rattle.cluster_steps.proofs.NameLaws.{same_name}
use Rattle.cluster_steps.proofs.StepLaws.{legal_steps, inv_of, more_steps, steps_append, idle_more, idle, idle_part, asks_below, ticket, ticket_of, named_ticket}
use Rattle.cluster_steps.proofs.TellsLaws.{tells}

pages_on : (G : Setting) (g k : List (ℕ × ActorEvent)) (i : ℕ) (e : ActorEvent) → (field k).core.nodes i ≡ (field g).core.nodes i → LeavesPages G g i e → LeavesPages G k i e
pages_on G g k i (ActorEvent.Node e) node x = subst (λ (o : Own KeptEntry). Leaves PagesStand o e × HasSchema G.tables e) (sym node) x
pages_on G g k i _ node x = tt

pages_ask : (G : Setting) (g : List (ℕ × ActorEvent)) (i t : ℕ) → LeavesPages G g i (ActorEvent.Ask t)
pages_ask G g i t = tt

-- an event that is no ask
others_stay : (G : Setting) (later h : List (ℕ × Event)) (i : ℕ) (e : Event) → AreLegalSteps G (later ++ h) → entries_of i (later ++ h) ≡ entries_of i h
    → ((t : ℕ) → ticket (length (steps G h)) e ≡ Some t → ⊥) → MayTakeStep G h i e → MayTakeStep G (later ++ h) i e
others_stay G later h i e legal own other may =
    let g = steps G h in
    let k = steps G (later ++ h) in
    let m = more_steps G later h in
    let q : k ≡ m ++ g = steps_append G later h in
    let none = idle_more G i later h own in
    let node = idle G i later h own in
    let name = same_name G g k i e (inv_of G (later ++ h) legal) (tells G later h) node (idle_part G i later h own) other may.exact in
    let whole : IsLegalHistory G (m ++ g) = subst (λ z. IsLegalHistory G z) q (legal_steps G (later ++ h) legal) in
    let no : (t : ℕ) → named G g i e ≡ ActorEvent.Ask t → ⊥ = λ t z. other t (sym (named_ticket G g i e) ∙ ap ticket_of z) in
    let step : MayDo G k i (named G g i e) = subst (λ z. MayDo G z i (named G g i e)) (sym q) (stays_long G g m i (named G g i e) may.plan.apart may.plan.steady whole none no may.allowed.may) in
    let script : IsByScript G (lines_to_do G) k i (named G g i e) = subst (λ z. IsByScript G (lines_to_do G) z i (named G g i e)) (sym q) (by_script_long G (lines_to_do G) g m i (named G g i e) may.plan.apart may.plan.steady whole none may.allowed.may may.allowed.by_script no) in
    record {
      plan = may.plan;
      exact = name.1;
      allowed = subst (λ z. IsAllowed G k i z) (sym name.0) (record { may = step; by_script = script; pages = pages_on G g k i (named G g i e) node may.allowed.pages });
    }

-- an ask has another ticket then
asks_stay : (G : Setting) (later h : List (ℕ × Event)) (i : ℕ) → AreLegalSteps G (later ++ h) → entries_of i (later ++ h) ≡ entries_of i h
    → MayTakeStep G h i event.Ask → MayTakeStep G (later ++ h) i event.Ask
asks_stay G later h i legal own may =
    let g = steps G h in
    let k = steps G (later ++ h) in
    let m = more_steps G later h in
    let q : k ≡ m ++ g = steps_append G later h in
    let none = idle_more G i later h own in
    let whole : IsLegalHistory G (m ++ g) = subst (λ z. IsLegalHistory G z) q (legal_steps G (later ++ h) legal) in
    let again = asks_long G g m i (length g) none may.allowed.may in
    let step : MayDo G k i (ActorEvent.Ask again.0) = subst (λ z. MayDo G z i (ActorEvent.Ask again.0)) (sym q) again.1 in
    let new : Each (λ s. s ≢ length k) (field k).core.asks = each_more (λ s l e. let l' : s < length k = l in let e' : s ≡ length k = e in omega arith) (asks_below G (later ++ h) legal) in
    let script : IsByScript G (lines_to_do G) k i (ActorEvent.Ask (length k)) = subst (λ z. IsByScript G (lines_to_do G) z i (ActorEvent.Ask (length k))) (sym q) (ask_by_script_long G (lines_to_do G) g m i (length g) (length k) may.plan.steady whole none may.allowed.by_script) in
    record { plan = may.plan; exact = tt; allowed = record { may = ((new, tt), step.1, step.2); by_script = script; pages = tt } }

not_some : (t : ℕ) → None ≡ Some t → ⊥
not_some t e = absurd (cc)

only_ask : (n t : ℕ) (e : Event) → ticket n e ≡ Some t → e ≡ event.Ask
only_ask n t event.Ask q = refl
only_ask n t _ q = absurd (not_some t q)

pub stays : (G : Setting) (later h : List (ℕ × Event)) (i : ℕ) (e : Event) → AreLegalSteps G (later ++ h) → entries_of i (later ++ h) ≡ entries_of i h
    → MayTakeStep G h i e → MayTakeStep G (later ++ h) i e
stays G later h i e legal own may = go (ticket (length (steps G h)) e) refl
  where
    go : (o : Option ℕ) → ticket (length (steps G h)) e ≡ o → MayTakeStep G (later ++ h) i e
    go None q = others_stay G later h i e legal own (λ t z. not_some t (sym q ∙ z)) may
    go (Some t) q =
        let is : e ≡ event.Ask = only_ask (length (steps G h)) t e q in
        subst (λ x. MayTakeStep G (later ++ h) i x) (sym is) (asks_stay G later h i legal own (subst (λ x. MayTakeStep G h i x) is may))

pub name_stays : (G : Setting) (later h : List (ℕ × Event)) (i : ℕ) (e : Event) → AreLegalSteps G (later ++ h) → entries_of i (later ++ h) ≡ entries_of i h → (e ≡ event.Ask → ⊥) → IsExact G (steps G h) i e
    → (named G (steps G (later ++ h)) i e ≡ named G (steps G h) i e) × IsExact G (steps G (later ++ h)) i e
name_stays G later h i e legal own other exact =
    same_name G (steps G h) (steps G (later ++ h)) i e (inv_of G (later ++ h) legal) (tells G later h) (idle G i later h own) (idle_part G i later h own) (λ t q. other (only_ask (length (steps G h)) t e q)) exact

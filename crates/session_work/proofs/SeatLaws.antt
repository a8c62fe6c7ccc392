-- What a session may do by what its part is, and what its part is then.
use Rattle.std.proofs.Common.{ℕ, ◌≡◌, ◌≢◌, ◌+◌, ◌<◌, List, [], ◌∷◌, ◌++◌, length, arith, refl, sym, subst, ap, ◌∙◌}
use Rattle.std.specs.Prelude.{◌==◌, true, false, cond, Some, None, suc}
use Rattle.std.proofs.lemmas.Bool.Decides.{Decides-eqb}
use mathlib.Core.Logic.{inl}
use Rattle.actor_trace.specs.History.{entries_of}
use Rattle.actor_trace.specs.Steps.{Adds, Rests as NoSteps}
use Rattle.actor_trace.proofs.Entries.{idle_step, not_eq}
use Rattle.cdb_values.specs.declared.replies.Reply.{Reply}
use Rattle.cluster_events.specs.Arms.{HasFallen, fired_by, last_fired}
use Rattle.cluster_events.specs.Guards.{HasWaited, MayDo}
use Rattle.cluster_events.specs.Parts.{ActorEvent, Part, moves, part, field}
use Rattle.cluster_events.specs.Settings.{Setting}
use Rattle.cluster_steps.specs.Guards.{AreLegalSteps, IsAllowed, IsExact, MayTakeStep}
use Rattle.cluster_steps.specs.Named.{named, named_reply, reply_in, steps}
use Rattle.cluster_steps.specs.declared.events.Event.{Event}
use Rattle.cluster_steps.specs.declared.events.Event.TheVariants as event
use Rattle.cluster_steps.proofs.StaysLaws.{name_stays}
use Rattle.cluster_steps.proofs.StepLaws.{asks_below, idle_part, steps_length}
use Rattle.core_lists.specs.Lists.{Each}
use Rattle.core_lists.proofs.Lists.{each_more}
use Rattle.report_laws.specs.Work.{WorkItem, Does, Lone}
use Rattle.session_work.specs.Seats.{IsOfSession, IsSeat}

-- no arm fires
unarmed_by : (G : Setting) (g : List (ℕ × ActorEvent)) (s : ℕ) → last_fired s g ≡ None → HasFallen G g s (last_fired s g)
unarmed_by G g s none = subst (λ f. HasFallen G g s f) (sym none) tt

zero_one : (s : ℕ) {A : Type 0} → (s == 0) ≡ false → s ≡ 0 → A
zero_one s other e = absurd (let q : (s == 0) ≡ true = (Decides-eqb s 0).1 e in let z : true ≡ false = sym q ∙ other in cc)

allowed : (G : Setting) (g : List (ℕ × ActorEvent)) (s : ℕ) (e : ActorEvent) → IsOfSession e → (s == 0) ≡ false → last_fired s g ≡ None → MayDo G g s e → IsAllowed G g s e
allowed G g s (ActorEvent.Ask t) is other none may = record { may = may; by_script = record { heeds = λ z. zero_one s other z; goes_on = unarmed_by G g s none }; pages = tt }
allowed G g s (ActorEvent.Begun b n) is other none may = record { may = may; by_script = record { heeds = tt; goes_on = unarmed_by G g s none }; pages = tt }
allowed G g s (ActorEvent.Say r) is other none may = record { may = may; by_script = record { heeds = tt; goes_on = unarmed_by G g s none }; pages = tt }
allowed G g s ActorEvent.Note is other none may = record { may = may; by_script = record { heeds = tt; goes_on = unarmed_by G g s none }; pages = tt }
allowed G g s (ActorEvent.Send x) is other none may = record { may = may; by_script = record { heeds = tt; goes_on = unarmed_by G g s none }; pages = tt }
allowed G g s (ActorEvent.Finish a) is other none may = record { may = may; by_script = record { heeds = tt; goes_on = unarmed_by G g s none }; pages = tt }
allowed G g s (ActorEvent.Move node) is other none may = record { may = may; by_script = record { heeds = tt; goes_on = unarmed_by G g s none }; pages = tt }
allowed G g s _ is other none may = absurd is

pub seat_may : (G : Setting) (s : ℕ) (seen : List (ℕ × Event)) → IsSeat G s seen → (e : Event) (a : ActorEvent) → IsOfSession a → IsExact G (steps G seen) s e → named G (steps G seen) s e ≡ a → MayDo G (steps G seen) s a
    → MayTakeStep G seen s e
seat_may G s seen seat e a is exact name may = record { plan = seat.plan; exact = exact; allowed = subst (λ x. IsAllowed G (steps G seen) s x) (sym name) (allowed G (steps G seen) s a is seat.other seat.unarmed may) }

pub waited : (G : Setting) (s : ℕ) (seen : List (ℕ × Event)) → IsSeat G s seen → HasWaited G (steps G seen) s
waited G s seen seat = let z : G.phase s (part G s (steps G seen)).told ≡ 0 = seat.unbarred (part G s (steps G seen)).told in omega (arith, z)

-- it asks for a begin where something is left
pub may_ask : (G : Setting) (s : ℕ) (seen : List (ℕ × Event)) → IsSeat G s seen → (part G s (steps G seen)).left ≢ [] → MayTakeStep G seen s event.Ask
may_ask G s seen seat some =
    let g = steps G seen in
    let new : Each (λ t. t ≢ length g) (field g).core.asks = each_more (λ t l e. let l' : t < length g = l in let e' : t ≡ length g = e in omega arith) (asks_below G seen seat.legal) in
    seat_may G s seen seat event.Ask (ActorEvent.Ask (length g)) tt tt refl ((new, tt), waited G s seen seat, inl some)

-- what it does is silent: no arm fires by it
silent_reply : (g : List (ℕ × ActorEvent)) (s : ℕ) (items : List WorkItem) (answer : Reply) → fired_by g s (named_reply items answer) ≡ None
silent_reply g s [] answer = refl
silent_reply g s (Lone r ∷ items) answer = refl
silent_reply g s (Does t ∷ items) answer = refl

-- an event of sessions, by its name in code
abbrev pub IsSessions : Event → Type 0
IsSessions event.Ask = Unit {0}
IsSessions (event.Begun position generation) = Unit {0}
IsSessions (event.Reply told) = Unit {0}
IsSessions (event.Send master generation) = Unit {0}
IsSessions (event.Outcome told) = Unit {0}
IsSessions (event.Move node) = Unit {0}
IsSessions _ = ⊥

silent : (G : Setting) (g : List (ℕ × ActorEvent)) (s : ℕ) (e : Event) → IsSessions e → fired_by g s (named G g s e) ≡ None
silent G g s event.Ask is = refl
silent G g s (event.Begun position generation) is = refl
silent G g s (event.Reply told) is = silent_reply g s (part G s g).left (reply_in told)
silent G g s (event.Send master generation) is = refl
silent G g s (event.Outcome told) is = refl
silent G g s (event.Move node) is = refl
silent G g s _ is = absurd is

self_eq : (i : ℕ) → (i == i) ≡ true
self_eq i = (Decides-eqb i i).1 refl

fired_more : (G : Setting) (s : ℕ) (between old : List (ℕ × Event)) → entries_of s (between ++ old) ≡ entries_of s old → last_fired s (steps G (between ++ old)) ≡ last_fired s (steps G old)
fired_more G s [] old own = refl
fired_more G s (x ∷ between) old own =
    let i = idle_step s x between old own in
    let k = steps G (between ++ old) in
    ap (λ b. cond b (fired_by k x.0 (named G k x.0 x.1)) (last_fired s k)) (not_eq s x.0 i.0) ∙ fired_more G s between old i.1

-- behind an event of its own it is a session still
pub seat_adds : (G : Setting) (s : ℕ) (e : Event) (old new : List (ℕ × Event)) → IsSeat G s old → IsSessions e → Adds s e old new → AreLegalSteps G new → IsSeat G s new
seat_adds G s e old new seat is d legal = record {
  plan = seat.plan;
  legal = legal;
  other = seat.other;
  unarmed = ap (λ t. last_fired s (steps G t)) d.whole
      ∙ (ap (λ b. cond b (fired_by (steps G (d.between ++ old)) s (named G (steps G (d.between ++ old)) s e)) (last_fired s (steps G (d.between ++ old)))) (self_eq s) ∙ silent G (steps G (d.between ++ old)) s e is);
  unbarred = seat.unbarred;
  answers = seat.answers;
}

-- and when it only heard more
pub seat_rests : (G : Setting) (s : ℕ) (old new : List (ℕ × Event)) → IsSeat G s old → NoSteps s old new → AreLegalSteps G new → IsSeat G s new × (part G s (steps G new) ≡ part G s (steps G old))
seat_rests G s old new seat d legal = (
  record {
    plan = seat.plan;
    legal = legal;
    other = seat.other;
    unarmed = ap (λ t. last_fired s (steps G t)) d.whole ∙ (fired_more G s d.between old d.none ∙ seat.unarmed);
    unbarred = seat.unbarred;
    answers = seat.answers;
  },
  ap (λ t. part G s (steps G t)) d.whole ∙ idle_part G s d.between old d.none,
)

part_own : (G : Setting) (s : ℕ) (a : ActorEvent) (k : List (ℕ × ActorEvent)) → part G s ((s, a) ∷ k) ≡ moves (part G s k) a
part_own G s a k = ap (λ b. cond b (moves (part G s k) a) (part G s k)) (self_eq s)

-- its part is moved by the event that it named
pub part_adds : (G : Setting) (s : ℕ) (e : Event) (old new : List (ℕ × Event)) → (e ≡ event.Ask → ⊥) → IsExact G (steps G old) s e → Adds s e old new → AreLegalSteps G new
    → part G s (steps G new) ≡ moves (part G s (steps G old)) (named G (steps G old) s e)
part_adds G s e old new other exact d legal =
    let k = steps G (d.between ++ old) in
    let law : AreLegalSteps G ((s, e) ∷ (d.between ++ old)) = subst (λ t. AreLegalSteps G t) d.whole legal in
    let name = (name_stays G d.between old s e law.1 d.none other exact).0 in
    ap (λ t. part G s (steps G t)) d.whole
    ∙ (part_own G s (named G k s e) k
    ∙ (ap (λ t. moves (part G s k) t) name ∙ ap (λ t. moves t (named G (steps G old) s e)) (idle_part G s d.between old d.none)))

-- and behind an ask it waits for the answer of its ticket
pub part_asks : (G : Setting) (s ticket : ℕ) (old new : List (ℕ × Event)) → Adds s event.Ask old new → ticket + 1 ≡ length new → part G s (steps G new) ≡ record (part G s (steps G old)) { asked = Some ticket }
part_asks G s ticket old new d last =
    let k = steps G (d.between ++ old) in
    let size : length new ≡ suc (length (d.between ++ old)) = ap (λ t. length t) d.whole in
    let at : length k ≡ ticket = steps_length G (d.between ++ old) ∙ (omega (arith, size, last)) in
    ap (λ t. part G s (steps G t)) d.whole
    ∙ (part_own G s (ActorEvent.Ask (length k)) k
    ∙ (ap (λ t. record (part G s k) { asked = Some t }) at ∙ ap (λ (t : Part). record t { asked = Some ticket }) (idle_part G s d.between old d.none)))

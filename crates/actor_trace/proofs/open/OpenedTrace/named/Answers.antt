use Rattle.std.proofs.Common.{ℕ, zero, suc, ◌≡◌, ◌<◌, ◌+◌, [], ◌∷◌, ◌++◌, ◌∙◌, sym, ap, subst, arith}
use Rattle.actor_trace.proofs.Dealt.{fresh_blank}
use Rattle.actor_trace.proofs.open.OpenedTrace.named.Given as given
use Rattle.actor_trace.specs.Actors.{Knows, fresh}
use Rattle.actor_trace.specs.Lists.{In, deal}
use Rattle.actor_trace.specs.Views.{a_view}
use Rattle.actor_trace.proofs.open.OpenedTrace.named.Goals as goal

left : (i k n : ℕ) → i + k ≡ n → i < n → (x : ℕ) × (k ≡ x + 1) × (i + 1 + x ≡ n)
left i zero n e lt = absurd (omega arith)
left i (suc k) n e lt = (k, omega arith, omega arith)

one_more : (E : Type 0) (n : ℕ) → fresh {E = E} (n + 1) ≡ fresh {E = E} n ++ record { number = n; made = []; seen = []; room = 0 } ∷ []
one_more E n = let e : n + 1 ≡ suc n = omega arith in ap (λ k. fresh {E = E} k) e

at_seat : (g : given.Over) (c : goal.After-seat-1 g) → (x : ℕ) × (c.loop-number.seat.me ≡ (a_view (deal {B = ℕ × g.row.M-Event.Denot} c.loop-number.number (x + 1)) [] [], [])) × (c.loop-number.number + 1 + x ≡ c.self.inside.actors)
at_seat g c =
    let i = c.loop-number.invariant.2 in
    let l = left c.loop-number.number i.0 c.self.inside.actors i.1 c.loop-number-test.true in
    (l.0, i.2 ∙ ap (λ (k : ℕ). (a_view (deal {B = ℕ × g.row.M-Event.Denot} c.loop-number.number k) [] [], [])) l.1, l.2)

pub first_actor-actor-requires-clause-seat : goal.first_actor-actor-requires-clause-seat
first_actor-actor-requires-clause-seat g c = let s = at_seat g c in (s.0, s.1)

pub loop-number-preserved : goal.loop-number-preserved
loop-number-preserved g c =
    let i = c.loop-number.invariant in
    let l = left c.loop-number.number i.2.0 c.self.inside.actors i.2.1 c.loop-number-test.true in
    let me = i.2.2 ∙ ap (λ (k : ℕ). (a_view (deal {B = ℕ × g.row.M-Event.Denot} c.loop-number.number k) [] [], [])) l.1 in (
      c.first_actor-actor.ensures.same.0 ∙ i.0,
      c.in_ok-push.ensures.items ∙ (ap (λ xs. xs ++ c.first_actor-actor.result ∷ []) i.1 ∙ (ap (λ (x : Knows g.row.M-Event.Denot). fresh c.loop-number.number ++ x ∷ []) c.first_actor-actor.ensures.actor ∙ sym (one_more g.row.M-Event.Denot c.loop-number.number))),
      (l.0, l.2, c.first_actor-actor.ensures.rest l.0 me),
    )

pub returns-clause-blank : goal.returns-clause-blank
returns-clause-blank g c = record { seen = λ x m. fresh_blank c.loop-number.number x (subst (λ t. In x t) c.loop-number.invariant.1 m) }

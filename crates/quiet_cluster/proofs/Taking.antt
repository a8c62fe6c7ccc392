-- A log that is taken entry by entry leaves the numbers that one take leaves.
use Rattle.std.proofs.Common.{ℕ, ◌≡◌, refl, ap, ◌∙◌}
use Rattle.std.specs.Prelude.{◌==◌, ◌&&◌, Bool, true, false}
use Rattle.std.proofs.lemmas.Bool.Decides.{Decides-eqb}
use Rattle.election_core.specs.Counted.{acted}
use Rattle.election_core.specs.declared.votes.NodeVote.{NodeVote}
use Rattle.election_core.specs.declared.messages.Message.TheVariants.{Adopt, Ship}
use Rattle.election_core.specs.declared.messages.Action.TheVariants as action
use Rattle.quiet_cluster.specs.Takes.{TakesAll}
use Rattle.quiet_cluster.specs.Takes.TakesAll.{last, more}

take_twice : (v : NodeVote) (g x l : ℕ) → acted (acted v (action.Take g x)) (action.Take g l) ≡ acted v (action.Take g l)
take_twice v g x l = ap (λ b. record v { promised = g; accepted = g; length = l; granted = 0; leading = b }) (again (v.leading && v.accepted == g) (g == g) ((Decides-eqb g g).1 refl))
  where
    again : (a b : Bool) → b ≡ true → (a && b) ≡ a
    again true true e = refl
    again false true e = refl
    again a false e = absurd (cc)

pub taken : (f g l : ℕ) {v u : NodeVote} → TakesAll (Adopt f g l) g l v u → u ≡ acted v (action.Take g l)
taken f g l (last d e) = e
taken f g l (more {v = v} {w = w} {u = u} x d e r) = taken f g l r ∙ (ap (λ z. acted z (action.Take g l)) e ∙ take_twice v g x l)

pub taken_ship : (f g l : ℕ) {v u : NodeVote} → TakesAll (Ship f g l) g l v u → u ≡ acted v (action.Take g l)
taken_ship f g l (last d e) = e
taken_ship f g l (more {v = v} {w = w} {u = u} x d e r) = taken_ship f g l r ∙ (ap (λ z. acted z (action.Take g l)) e ∙ take_twice v g x l)

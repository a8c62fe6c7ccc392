-- What an actor's seat is after a look.
use Rattle.std.proofs.Common.{◌≡◌, ℕ, ◌+◌, ◌≤◌, List, [], ◌∷◌, length, sym, subst, ◌∙◌}
use Rattle.atomic_table.specs.Table.{Me}
use Rattle.atomic_table.specs.Seated.{TableId}
use Rattle.actor_trace.specs.declared.view.View.{View}
use Rattle.actor_trace.specs.Lists.{In}
use Rattle.actor_trace.specs.Plays.{Looks}
use Rattle.actor_trace.specs.Seats.{IsActor}
use Rattle.actor_trace.specs.Lists.In.{here}

pub actor_looks : {E : Type 0} (enabled : List (ℕ × E) → ℕ → E → Type 0) (table id : TableId) (v : View E) (number : ℕ) (made : List (ℕ × E)) (room capacity : ℕ)
    → id ≡ table → v.made ≡ (number, made) ∷ [] → length made + room ≤ capacity → length made + room ≤ 2147483648
    → (me : Me (Unit {0}) (View E)) → me.1 ≡ [] → (found : ℕ) → Looks enabled v found me.0
    → IsActor enabled table id me number made room capacity
actor_looks enabled table id v number made room capacity t m fits few me none found l =
    record { table_is = t; made_is = l.made ∙ m; none = l.none; no_slot = none; own = l.own number made (subst (λ x. In (number, made) x) (sym m) here); legal = l.legal; fits = fits; few = few }

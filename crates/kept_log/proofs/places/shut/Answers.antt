use Rattle.std.proofs.Common.{ℕ, List, [], ◌∷◌, inl, subst}
use mathlib.Core.Logic.{∥∥₁_map}
use Rattle.kept_log.specs.Kept.{StandForAny, kept}
use Rattle.kept_log.proofs.places.shut.Goals as goal

pub returns-clause-holds : goal.returns-clause-holds
returns-clause-holds g c =
    let l = c.args.log in
    subst (λ (bytes : List ℕ). ∥ StandForAny l.node l.cluster bytes (kept l.promised l.accepted l.entries ∷ []) ∥₁) (c.give_back.ensures.same c.requires.running)
    (∥∥₁_map (c.give_back.ensures.stands c.requires.running) (λ x. inl x))

use Rattle.std.proofs.Common.{◌≡◌, ◌∷◌, [], subst}
use Rattle.std.specs.Prelude.{true}
use Rattle.kept_log.specs.Kept.{HoldsAny, kept_by}
use Rattle.node_state.specs.Stores.{Stored}
use Rattle.node_state.proofs.nodes.Node.give_back.Goals as goal

pub returns-clause-holds : goal.returns-clause-holds
returns-clause-holds g c = subst (λ (n : Stored). n.over.is_open ≡ true → HoldsAny n.over (kept_by n.over ∷ [])) c.self.view_is c.give_back.ensures.holds

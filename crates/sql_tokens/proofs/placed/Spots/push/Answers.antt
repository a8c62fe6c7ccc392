use Rattle.std.proofs.Common.{◌∙◌, ap, ◌++◌, [], ◌∷◌}
use Rattle.sql_tokens.specs.Spot.{spot, spots_of}
use Rattle.sql_tokens.proofs.SpotLemmas.{spots_push}
use Rattle.sql_tokens.proofs.placed.Spots.push.Goals as goal

pub returns-clause-ok : goal.returns-clause-ok
returns-clause-ok c = ap (λ x. spots_of x c.push.new.self.items) c.in_default.ensures.items
    ∙ (ap (spots_of (c.self.inside.tokens.items ++ c.args.token ∷ [])) c.in_ok-push.ensures.items
    ∙ (spots_push c.self.inside.tokens.items c.self.inside.places.items c.args.token c.args.place c.self.invariant
    ∙ ap (λ x. x ++ spot c.args.place c.args.token ∷ []) c.self.view_is))

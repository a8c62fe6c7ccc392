use Rattle.std.proofs.Common.{sym, ◌∙◌, ap, map}
use Rattle.sql_tokens.specs.Spot.{token_of}
use Rattle.sql_tokens.proofs.SpotLemmas.{spots_tokens}
use Rattle.sql_tokens.proofs.placed.Spots.tokens.Goals as goal

pub returns : goal.returns
returns c = c.deref.ensures.value ∙ (sym (spots_tokens c.self.inside.tokens.items c.self.inside.places.items c.self.invariant) ∙ ap (map token_of) c.self.view_is)

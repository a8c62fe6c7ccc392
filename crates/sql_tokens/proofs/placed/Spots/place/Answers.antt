use Rattle.std.proofs.Common.{◌∙◌, ap, option_map}
use Rattle.std.specs.Prelude.{slice_get}
use Rattle.sql_tokens.specs.Spot.{place_of}
use Rattle.sql_tokens.proofs.SpotLemmas.{get_is, spots_place}
use Rattle.sql_tokens.proofs.placed.Spots.place.Goals as goal

pub returns : goal.returns
returns c = c.copied.ensures
    ∙ (get_is c.deref.result.now c.args.index c.get.result c.get.ensures.lookup.1 c.get.ensures.lookup.3
    ∙ (ap (λ xs. slice_get xs c.args.index) c.deref.ensures.value
    ∙ (spots_place c.self.inside.tokens.items c.self.inside.places.items c.args.index c.self.invariant
    ∙ ap (λ ss. option_map place_of (slice_get ss c.args.index)) c.self.view_is)))

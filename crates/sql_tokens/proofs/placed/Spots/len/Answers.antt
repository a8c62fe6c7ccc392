use Rattle.std.proofs.Common.{◌∙◌, ap, length}
use Rattle.std.proofs.lemmas.List.{length-map}
use Rattle.sql_tokens.specs.Spot.{token_of}
use Rattle.sql_tokens.proofs.placed.Spots.len.Goals as goal

pub returns : goal.returns
returns c = ap length c.tokens.ensures ∙ length-map c.args.self.now token_of

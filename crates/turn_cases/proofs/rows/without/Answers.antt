use Rattle.std.proofs.Common.{◌≡◌, ◌==◌, not, filter, rules}
use Rattle.std.proofs.lemmas.Fn.{filter_same}
use Rattle.turn_cases.proofs.rows.without.Goals as goal

pub returns : goal.returns
returns c =
    let e : c.retain.new.self.items ≡ filter (λ v. not (v.genid == c.args.genid)) c.into_vec-items.result.items
    = filter_same _ _ _ (λ x b f' k. search rules) _ _ c.retain.ensures.filtered in
    cc

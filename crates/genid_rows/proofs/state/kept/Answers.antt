use Rattle.std.proofs.Common.{◌≡◌, ◌==◌, not, filter, rules}
use Rattle.std.proofs.lemmas.Fn.{filter_same}
use Rattle.genid_rows.proofs.state.kept.Goals as goal

pub returns : goal.returns
returns c =
    let e : c.retain.new.self.items ≡ filter (λ v. not (v.genid == c.args.target)) c.into_vec-items.result.items
    = filter_same _ _ _ (λ x b f' k. search rules) _ _ c.retain.ensures.filtered in
    cc

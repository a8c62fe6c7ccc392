use Rattle.std.proofs.Common.{◌≡◌, ◌==◌, not, filter, rules}
use Rattle.std.proofs.lemmas.Fn.{filter_same}
use Rattle.genid_rows.proofs.state.replaced.Goals as goal

pub returns-clause-done : goal.returns-clause-done
returns-clause-done c =
    λ _. let e : c.retain.new.self.items ≡ filter (λ v. not (v.genid == c.args.target)) c.reserve.new.self.items
    = filter_same _ _ _ (λ x b f' k. search rules) _ _ c.retain.ensures.filtered in
    cc

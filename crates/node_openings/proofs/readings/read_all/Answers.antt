use Rattle.std.proofs.Common.{rules, ◌≡◌, ◌<◌, ◌++◌, ◌∷◌, [], length, set, sym, subst, arith}
use Rattle.kept_log.specs.Kept.{OverStore}
use Rattle.node_openings.specs.Found.{IsFoundAs, IsStill}
use Rattle.node_openings.proofs.ReadLemmas.{put_back, read_more, stops_still}
use Rattle.node_openings.proofs.readings.read_all.Goals as goal

pub returns-in_err-one-clause-still : goal.returns-in_err-one-clause-still
returns-in_err-one-clause-still g c =
    let within : c.logs.log-index < length c.logs.log-items = omega arith in
    let still : IsStill c.log-item.result c.read_one.new.log = subst (λ (x : OverStore). IsStill x c.read_one.new.log) (sym c.log-item.is) c.read_one.ensures.still in
    put_back c.args.logs.now.len c.args.logs.now.items (set c.logs.log-items c.logs.log-index c.read_one.new.log) c.args.logs.now.ok.0
    (stops_still c.args.logs.now.items c.logs.log-items c.logs.found.items c.logs.log-index c.log-item.result c.read_one.new.log c.log-item.is c.logs.invariant within still)

pub returns-in_err-push-clause-still : goal.returns-in_err-push-clause-still
returns-in_err-push-clause-still g c =
    let within : c.logs.log-index < length c.logs.log-items = omega arith in
    let still : IsStill c.log-item.result c.read_one.new.log = subst (λ (x : OverStore). IsStill x c.read_one.new.log) (sym c.log-item.is) c.read_one.ensures.still in
    put_back c.args.logs.now.len c.args.logs.now.items (set c.logs.log-items c.logs.log-index c.read_one.new.log) c.args.logs.now.ok.0
    (stops_still c.args.logs.now.items c.logs.log-items c.logs.found.items c.logs.log-index c.log-item.result c.read_one.new.log c.log-item.is c.logs.invariant within still)

pub logs-preserved : goal.logs-preserved
logs-preserved g c =
    let within : c.logs.log-index < length c.logs.log-items = omega arith in
    let still : IsStill c.log-item.result c.read_one.new.log = subst (λ (x : OverStore). IsStill x c.read_one.new.log) (sym c.log-item.is) c.read_one.ensures.still in
    let is : IsFoundAs c.in_ok-one.one c.log-item.result c.read_one.new.log = subst (λ (x : OverStore). IsFoundAs c.in_ok-one.one x c.read_one.new.log) (sym c.log-item.is) c.in_ok-one.ensures.found in
    let more : c.push.new.self.items ≡ c.logs.found.items ++ c.in_ok-one.one ∷ [] = search rules in
    read_more c.args.logs.now.items c.logs.log-items c.logs.found.items c.push.new.self.items c.logs.log-index c.log-item.result c.read_one.new.log c.in_ok-one.one
    c.log-item.is c.logs.invariant within is still more

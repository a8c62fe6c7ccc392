use Rattle.std.proofs.Common.{◌≡◌, ◌≤◌, ◌+◌, suc, length, vec_len, vec_capacity, sym, ap, ◌∙◌, arith}
use Rattle.std.specs.Vec.Iter.{into_iter_items, into_iter_len}
use Rattle.node_starts.proofs.MakeLaws.{actor_fits, all_made, log_fits, made_more_of, none_of, run_fits}
use Rattle.node_starts.proofs.makes.new_nodes.Goals as goal

pub new-requires-clause-run : goal.new-requires-clause-run
new-requires-clause-run g c =
    run_fits g.J.Plan.setting.nodes c.count_of-count.result c.logs.node c.args.logs.items c.as_slice.result.now (into_iter_items c.logs.log-iterator) (into_iter_items c.next.new.self) c.in-Some.log
    c.args.actors.items (into_iter_items c.logs.others) c.logs.nodes.items c.in-Some.ensures.steps.0 c.logs.invariant.making c.as_slice.ensures.value c.count_of-count.ensures c.requires.run c.requires.few

pub new-requires-clause-log : goal.new-requires-clause-log
new-requires-clause-log g c =
    log_fits c.count_of-count.result c.args.logs.items (into_iter_items c.logs.log-iterator) (into_iter_items c.next.new.self) c.args.actors.items (into_iter_items c.logs.others) c.logs.nodes.items
    c.logs.node c.in-Some.log c.in-Some.ensures.steps.0 c.logs.invariant.making

pub new-requires-clause-actor : goal.new-requires-clause-actor
new-requires-clause-actor g c =
    actor_fits c.count_of-count.result c.args.logs.items (into_iter_items c.logs.log-iterator) c.args.actors.items (into_iter_items c.logs.others) (into_iter_items c.next-in-logs.new.self) c.logs.nodes.items
    c.logs.node c.in-Some-next.actor c.in-Some-next.ensures.cases.0 c.logs.invariant.making

pub logs-preserved : goal.logs-preserved
logs-preserved g c =
    let i = c.logs.invariant in
    let size : length (into_iter_items c.logs.log-iterator) ≡ suc (length (into_iter_items c.next.new.self)) = ap length c.in-Some.ensures.steps.0 in
    let less : into_iter_len c.next.new.self + 1 ≡ into_iter_len c.logs.log-iterator = c.in-Some.ensures.steps.1 in
    let len : vec_len c.push_reserved.new.self ≡ vec_len c.logs.nodes + 1 = c.push_reserved.ensures.len in
    let capacity : vec_capacity c.push_reserved.new.self ≡ vec_capacity c.logs.nodes = c.push_reserved.ensures.capacity in
    let room : vec_len c.logs.nodes + into_iter_len c.logs.log-iterator ≤ vec_capacity c.logs.nodes = i.room in
    let count : into_iter_len c.logs.log-iterator ≡ length (into_iter_items c.logs.log-iterator) = i.count in
    let low : c.logs.node + length (into_iter_items c.logs.log-iterator) ≤ 8 = i.low in
    record {
      making = made_more_of c.count_of-count.result c.args.logs.items (into_iter_items c.logs.log-iterator) (into_iter_items c.next.new.self) c.args.actors.items (into_iter_items c.logs.others)
          (into_iter_items c.next-in-logs.new.self) c.logs.nodes.items c.push_reserved.new.self.items c.logs.node c.in-Some.log c.in-Some-next.actor c.new.result c.in-Some.ensures.steps.0
          c.in-Some-next.ensures.cases.0 i.making c.new.ensures.vote c.new.ensures.over c.new.ensures.actor c.push_reserved.ensures.items;
      room = omega arith;
      count = omega arith;
      low = omega arith;
    }

pub returns-clause-nodes : goal.returns-clause-nodes
returns-clause-nodes g c =
    all_made g.J.Plan.setting.nodes c.count_of-count.result c.logs.node c.args.logs.items c.as_slice.result.now (into_iter_items c.logs.log-iterator) c.args.actors.items (into_iter_items c.logs.others)
    c.logs.nodes.items (none_of (into_iter_items c.logs.log-iterator) (sym c.logs.invariant.count ∙ c.in-None.ensures.steps.0)) c.logs.invariant.making c.as_slice.ensures.value c.count_of-count.ensures c.requires.run

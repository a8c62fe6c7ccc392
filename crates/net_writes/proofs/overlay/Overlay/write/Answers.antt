use Rattle.net_writes.proofs.CountLemmas.{last_there, all_written}
use Rattle.net_writes.proofs.overlay.Overlay.write.Goals as goal

pub replace_at-nothing-requires : goal.replace_at-nothing-requires
replace_at-nothing-requires c =
    last_there c.self.inside.held c.push.new.self c.take_target-taken.new.held c.args.op c.len-last.result c.in_ok-push.ensures.ok c.len-last.ensures c.take_target-taken.ensures.leaves

pub returns-clause-held : goal.returns-clause-held
returns-clause-held c =
    let is = all_written c.self.inside.held c.push.new.self c.take_target-taken.new.held c.replace_at-nothing.new.self c.args.op c.take_target-taken.result c.meant-now.result c.len-last.result
    c.in_ok-push.ensures.ok c.len-last.ensures c.take_target-taken.ensures.gives c.take_target-taken.ensures.leaves c.meant-now.ensures c.replace_at-nothing.ensures.after in
    cc

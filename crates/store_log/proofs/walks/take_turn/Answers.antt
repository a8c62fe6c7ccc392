use Rattle.std.proofs.Common.{drop}
use Rattle.store_log.specs.Steps.{IsMore, IsWrong}
use Rattle.store_log.proofs.WalkLemmas.{walk_to, walk_corrupt}
use Rattle.store_log.proofs.walks.take_turn.Goals as goal

pub returns-in-Wrong-clause-why : goal.returns-in-Wrong-clause-why
returns-in-Wrong-clause-why g c =
    let wrong : IsWrong c.args.held (drop c.args.reach.used c.args.reach.window.items) = rw c.in-Wrong.is at c.in_ok-next_of.ensures.step in
    walk_corrupt (g.D.LogStore.synced c.args.store.now) c.args.held c.args.reach c.requires wrong

pub returns-in_ok-next-in-More-clause-turn : goal.returns-in_ok-next-in-More-clause-turn
returns-in_ok-next-in-More-clause-turn g c =
    let more : IsMore c.args.held c.in-More.now c.in-More.size (drop c.args.reach.used c.args.reach.window.items) =
    rw c.in-More.is at c.in_ok-next_of.ensures.step in
    walk_to (g.D.LogStore.synced c.args.store.now) c.args.held c.in-More.now c.in-More.size c.args.reach c.in_ok-next-in-More.next c.requires more
    c.in_ok-next-in-More.ensures.reach

use Rattle.std.proofs.Common.{◌≡◌, ◌+◌, ℕ, length, drop, refl, ap, arith, rules}
use Rattle.store_log.specs.declared.walks.Ended.{Ended}
use Rattle.store_log.specs.declared.walks.Reach.{Reach}
use Rattle.store_log.proofs.WalkLemmas.{walk_grown, walk_ended}
use Rattle.store_log.proofs.walks.read_more.Goals as goal

pub returns-then-size-eq0-clause-turn : goal.returns-then-size-eq0-clause-turn
returns-then-size-eq0-clause-turn g c =
    let more : length c.grow.new.window.items ≡ length c.in_ok-window.window.items + c.in_ok-size.size = c.in_ok-size.ensures.more in
    let none : c.in_ok-size.size ≡ 0 = c.if-size-eq0.true in
    let left : length c.in_ok-window.window.items ≡ length (drop c.args.reach.used c.args.reach.window.items) =
    ap length c.in_ok-window.ensures.left in
    let size : length c.grow.new.window.items ≡ length (drop c.args.reach.used c.args.reach.window.items) = omega arith in
    let end : c.in_ok-end.end ≡ c.args.reach.at + length c.grow.new.window.items = search rules in
    let last : Ended = record { held = c.args.held; closed = c.args.reach.closed; end = c.in_ok-end.end } in
    walk_ended (g.D.LogStore.synced c.args.store.now) c.grow.new.window.items c.args.held c.args.reach last c.requires.walk c.requires.short
    (c.in_ok-size.ensures.end none) size refl refl end

pub returns-clause-turn : goal.returns-clause-turn
returns-clause-turn g c =
    let more : length c.grow.new.window.items ≡ length c.in_ok-window.window.items + c.in_ok-size.size = c.in_ok-size.ensures.more in
    let left : length c.in_ok-window.window.items ≡ length (drop c.args.reach.used c.args.reach.window.items) =
    ap length c.in_ok-window.ensures.left in
    let size : length c.grow.new.window.items ≡ length (drop c.args.reach.used c.args.reach.window.items) + c.in_ok-size.size = omega arith in
    let next : Reach = record { at = c.args.reach.at; closed = c.args.reach.closed; window = c.grow.new.window; used = 0 } in
    walk_grown (g.D.LogStore.synced c.args.store.now) c.args.held c.args.reach next c.in_ok-size.size c.requires.walk refl refl refl
    c.in_ok-size.ensures.window size c.if-size-eq0.false

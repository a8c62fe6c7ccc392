use Rattle.std.proofs.Common.{sym, subst}
use Rattle.election_core.specs.Allowed.{AllowsExactly, IsMost}
use Rattle.election_core.proofs.decisions.act_on.Goals as goal

pub returns-in-Adopt-clause-event : goal.returns-in-Adopt-clause-event
returns-in-Adopt-clause-event c = subst (λ m. AllowsExactly c.args.vote.now m c.on_log.result) (sym c.in-Adopt.is) (c.on_log.ensures.adopt c.in-Adopt.from)

pub returns-in-Ship-clause-event : goal.returns-in-Ship-clause-event
returns-in-Ship-clause-event c = subst (λ m. AllowsExactly c.args.vote.now m c.on_log-in-Ship.result) (sym c.in-Ship.is) (c.on_log-in-Ship.ensures.ship c.in-Ship.from)

pub returns-in-Durable-clause-event : goal.returns-in-Durable-clause-event
returns-in-Durable-clause-event c = subst (λ m. AllowsExactly c.args.vote.now m c.on_durable.result) (sym c.in-Durable.is) (c.on_durable.ensures.event c.in-Durable.from)

pub returns-in-Durable-clause-greatest : goal.returns-in-Durable-clause-greatest
returns-in-Durable-clause-greatest c = subst (λ m. IsMost c.args.vote.now m c.on_durable.result) (sym c.in-Durable.is) (c.on_durable.ensures.greatest c.in-Durable.from)

pub returns-in-Ping-clause-event : goal.returns-in-Ping-clause-event
returns-in-Ping-clause-event c = subst (λ m. AllowsExactly c.args.vote.now m c.on_ping.result) (sym c.in-Ping.is) (c.on_ping.ensures.event c.in-Ping.durable)

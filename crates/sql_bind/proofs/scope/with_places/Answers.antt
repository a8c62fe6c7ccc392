use Rattle.std.proofs.Common.{sym, arith}
use Rattle.std.proofs.lemmas.List.{take_all, length-take-le}
use Rattle.sql_bind.proofs.scope.with_places.Goals as goal

pub slice_bounds-result-end : goal.slice_bounds-result-end
slice_bounds-result-end g c = sym (length-take-le 256 c.args.items.now (omega arith))

pub returns-then-items-le-PLACES-clause-first : goal.returns-then-items-le-PLACES-clause-first
returns-then-items-le-PLACES-clause-first g c = sym (take_all 256 c.args.items.now c.if-items-le-PLACES.true)

pub returns-clause-places : goal.returns-clause-places
returns-clause-places g c =
    let e = length-take-le 256 c.args.items.now (omega arith) in
    omega (arith, e)

use Rattle.std.proofs.Common.{◌≡◌, ◌<◌, get_or, arith}
use Rattle.std.proofs.lemmas.List.Sorted.{searched}
use Rattle.std.specs.Prelude.{Ok, Err}
use Rattle.own_writes.proofs.KeptLemmas.{never_falls}
use Rattle.own_writes.proofs.places.place_of.Goals as goal

pub returns-in-Ok-clause-before : goal.returns-in-Ok-clause-before
returns-in-Ok-clause-before c = λ k below.
    let found = searched c.args.stamps.now c.args.stamp (Ok c.in-Ok.at) c.in-Ok.ensures.position (never_falls c.args.stamps.now c.requires) in
    let less : get_or c.args.stamps.now k 0 < get_or c.args.stamps.now c.in-Ok.at 0 = c.requires k c.in-Ok.at below found.0 in
    let is : get_or c.args.stamps.now c.in-Ok.at 0 ≡ c.args.stamp = found.1 in
    omega (arith, less, is)

pub returns-in-Err-clause-before : goal.returns-in-Err-clause-before
returns-in-Err-clause-before c = λ k below.
    (searched c.args.stamps.now c.args.stamp (Err c.in-Err.at) c.in-Err.ensures.position (never_falls c.args.stamps.now c.requires)).1 k below

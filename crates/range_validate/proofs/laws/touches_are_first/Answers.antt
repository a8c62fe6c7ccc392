use Rattle.std.proofs.Common.{◌≡◌, ℕ, sym, subst, arith}
use Rattle.range_validate.specs.Touches.{IsFirst}
use Rattle.range_validate.proofs.TouchLemmas.{none_touch, one_touch}
use Rattle.range_validate.proofs.laws.touches_are_first.Goals as goal

pub returns-clause-none : goal.returns-clause-none
returns-clause-none c = λ tables entries genids ranges none place. none_touch tables 0 entries genids ranges none place

pub returns-clause-one : goal.returns-clause-one
returns-clause-one c = λ tables entries genids ranges t is.
    let found = one_touch tables 0 entries genids ranges t is in
    let same : t.place ≡ found.0 = omega (arith, found.1) in
    subst (λ (n : ℕ). IsFirst tables entries genids ranges (record { place = n; item = t.item })) (sym same) found.2

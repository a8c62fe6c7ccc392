-- The written begin is legal, and may be answered.
use Rattle.std.proofs.Common.{arith, refl}
use mathlib.Core.Logic.{inl, inr}
use Rattle.core_lists.proofs.Lists.{each_none}
use Rattle.cluster_consensus.specs.Histories.{Legal, after}
use Rattle.cluster_consensus.specs.ThreeNodes.{grown_on}
use Rattle.cluster_consensus.proofs.ThreeNodes.{first_has, two_and_three, grown_legal}
use Rattle.cluster_begins.specs.Begins.{CanBegin, IsPositionAnswered}
use Rattle.cluster_begins.specs.AfterAFall.{begun}

pub begun_legal : Legal 3 begun
begun_legal = ((refl, omega arith, 2, first_has (refl, refl)), ((refl, refl, first_has refl, omega arith, omega arith), (each_none, grown_legal)))

pub one_before : IsPositionAnswered (after grown_on) 1 1
one_before = inl (1, first_has (refl, omega arith))

pub begin_two : CanBegin 3 (after begun) 5 2 2
begin_two = (2, first_has (refl, refl, refl), two_and_three (inl refl) (inr (first_has (refl, refl))))

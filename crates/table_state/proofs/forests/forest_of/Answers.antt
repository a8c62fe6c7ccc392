use Rattle.std.proofs.Common.{ℕ, length, subst}
use Rattle.page_store.specs.Image.{Image}
use Rattle.table_state.specs.Reserves.{HasReserve}
use Rattle.table_state.specs.Grown.{AreGrown, IsFelled}
use Rattle.table_state.proofs.GrownLaws.{forest_felled, forest_answer}
use Rattle.table_state.proofs.forests.forest_of.Goals as goal

pub returns-in_default-2-clause-found : goal.returns-in_default-2-clause-found
returns-in_default-2-clause-found g c =
    let felled : IsFelled (g.P.PageSource.pages c.reserve_of.new.pages) c.args.trees (length c.args.edited.now) = rw c.in_default-2.is at c.in_ok-grown.ensures.grown in
    forest_felled (g.P.PageSource.pages c.args.pages.now) c.args.trees c.args.edited.now c.requires.blank
    (subst (λ (f : ℕ → Image). IsFelled f c.args.trees (length c.args.edited.now)) c.in_ok-reserve.ensures.pages felled)

pub returns-clause-found : goal.returns-clause-found
returns-clause-found g c =
    let reserve : HasReserve (g.P.PageSource.pages c.args.pages.now) c.in-Some.reserve = rw c.in-Some.is at c.in_ok-reserve.ensures.reserve in
    let grown : AreGrown (g.P.PageSource.pages c.reserve_of.new.pages) c.args.trees (length c.args.edited.now) c.in-Some-2.grown.items = rw c.in-Some-2.is at c.in_ok-grown.ensures.grown in
    forest_answer (g.P.PageSource.pages c.args.pages.now) c.args.trees (length c.args.edited.now) c.in-Some.reserve c.in-Some-2.grown.items c.gather.result reserve
    (subst (λ (f : ℕ → Image). AreGrown f c.args.trees (length c.args.edited.now) c.in-Some-2.grown.items) c.in_ok-reserve.ensures.pages grown)
    c.gather.ensures.gathered

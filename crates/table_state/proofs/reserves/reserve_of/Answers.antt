use Rattle.std.proofs.Common.{ℕ, ◌≡◌, None, Some, refl, sym, ap, ◌∙◌}
use Rattle.page_store.specs.Image.{Image}
use Rattle.table_state.specs.Chains.{are_past, chain_from}
use Rattle.table_state.proofs.ReserveLaws.{reserve_not_past, reserve_unchained, reserve_there}
use Rattle.table_state.proofs.reserves.reserve_of.Goals as goal

pub returns-then-not-past-clause-reserve : goal.returns-then-not-past-clause-reserve
returns-then-not-past-clause-reserve g c =
    let old = g.P.PageSource.pages c.args.pages.now in
    reserve_not_past old c.args.edited.now c.in-Some.meta (sym c.in_ok-meta.ensures.told ∙ c.in-Some.is)
    (ap (λ (f : ℕ → Image). are_past f c.in-Some.meta.count c.args.edited.now) (sym c.in_ok-meta.ensures.pages) ∙ sym c.in_ok-past.ensures.past ∙ c.if-not-past.true)

pub returns-in_default-2-clause-reserve : goal.returns-in_default-2-clause-reserve
returns-in_default-2-clause-reserve g c =
    let old = g.P.PageSource.pages c.args.pages.now in
    let same = c.in_ok-past.ensures.pages ∙ c.in_ok-meta.ensures.pages in
    let found : None ≡ chain_from (g.P.PageSource.pages c.are_past_end.new.pages) c.args.limit c.in-Some.meta.free = rw c.in_default-2.is at c.in_ok-free.ensures.found in
    reserve_unchained old c.args.edited.now c.args.limit c.in-Some.meta c.requires.blank c.requires.limit (sym c.in_ok-meta.ensures.told ∙ c.in-Some.is)
    (ap (λ (f : ℕ → Image). chain_from f c.args.limit c.in-Some.meta.free) (sym same) ∙ sym found)

pub returns-clause-reserve : goal.returns-clause-reserve
returns-clause-reserve g c =
    let old = g.P.PageSource.pages c.args.pages.now in
    let same = c.in_ok-past.ensures.pages ∙ c.in_ok-meta.ensures.pages in
    let found : Some c.in-Some-2.free.items ≡ chain_from (g.P.PageSource.pages c.are_past_end.new.pages) c.args.limit c.in-Some.meta.free = rw c.in-Some-2.is at c.in_ok-free.ensures.found in
    reserve_there old c.args.edited.now c.args.limit c.in-Some.meta (record { next = c.in-Some.meta.next; count = c.in-Some.meta.count; free = c.in-Some-2.free })
    c.requires.blank (sym c.in_ok-meta.ensures.told ∙ c.in-Some.is)
    (ap (λ (f : ℕ → Image). are_past f c.in-Some.meta.count c.args.edited.now) (sym c.in_ok-meta.ensures.pages) ∙ sym c.in_ok-past.ensures.past ∙ c.if-not-past.false)
    (ap (λ (f : ℕ → Image). chain_from f c.args.limit c.in-Some.meta.free) (sym same) ∙ sym found) refl refl

-- A page halved, or the root raised, leaves the list.
use Rattle.std.proofs.Common.{ℕ, Option, subst}
use Rattle.page_workspace.specs.Drafts.{meant}
use Rattle.page_workspace.proofs.OwnLaws.{ok_all}
use Rattle.btree_index.specs.Fits.{IsFullUnder}
use Rattle.btree_index.specs.Changes.{LeadsOver}
use Rattle.btree_index.proofs.DepthLemmas.{splittable, raisable}
use Rattle.btree_index.proofs.FilledLemmas.{crown_filled, root_off, split_filled}
use Rattle.btree_index.proofs.RootLaws.{splits, crowns}
use Rattle.btree_index.proofs.inserts.make_room.Goals as goal

pub returns-in-Some-clause-room : goal.returns-in-Some-clause-room
returns-in-Some-clause-room g c = λ over own free list stands.
    let pages = meant g.P.PageSource.pages c.args.space.now in
    let there = subst (λ (o : Option ℕ). LeadsOver pages c.args.root c.args.key.now o) c.in-Some.is over in
    ok_all c.split_below.result (λ s. splits pages (meant g.P.PageSource.pages c.split_below.new.space) c.args.root c.args.key.now c.in-Some.parent s there.0 there.1 own free list stands)
    c.split_below.ensures.split

pub returns-in-None-clause-room : goal.returns-in-None-clause-room
returns-in-None-clause-room g c = λ over own free list stands.
    let pages = meant g.P.PageSource.pages c.args.space.now in
    ok_all c.crown.result (λ s. crowns pages (meant g.P.PageSource.pages c.crown.new.space) c.args.root s own free list stands) c.crown.ensures.crowned

pub returns-in-Some-clause-fit : goal.returns-in-Some-clause-fit
returns-in-Some-clause-fit g c = λ over full own free list stands.
    let pages = meant g.P.PageSource.pages c.args.space.now in
    let there = subst (λ (o : Option ℕ). LeadsOver pages c.args.root c.args.key.now o) c.in-Some.is over in
    let under = subst (λ (o : Option ℕ). IsFullUnder pages c.args.key.now o) c.in-Some.is full in
    c.split_below.ensures.fit (splittable pages c.args.root c.args.key.now c.in-Some.parent there.0 there.1 there.2 under own free list stands)

pub returns-in-None-clause-fit : goal.returns-in-None-clause-fit
returns-in-None-clause-fit g c = λ over full own free list stands.
    c.crown.ensures.fit (raisable (meant g.P.PageSource.pages c.args.space.now) c.args.root own free list stands)

pub returns-in-Some-clause-filled : goal.returns-in-Some-clause-filled
returns-in-Some-clause-filled g c = λ own free list stands some.
    ok_all c.split_below.result (λ s. split_filled (meant g.P.PageSource.pages c.args.space.now) (meant g.P.PageSource.pages c.split_below.new.space) c.args.root c.in-Some.parent s stands.spare.meta)
    c.split_below.ensures.split

pub returns-in-None-clause-filled : goal.returns-in-None-clause-filled
returns-in-None-clause-filled g c = λ own free list stands some.
    let pages = meant g.P.PageSource.pages c.args.space.now in
    ok_all c.crown.result
    (λ s. crown_filled pages (meant g.P.PageSource.pages c.crown.new.space) c.args.root s stands.spare.meta (root_off pages c.args.root own free list stands) some)
    c.crown.ensures.crowned

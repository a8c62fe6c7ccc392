-- A key that is there leaves all as it was; another is put.
use Rattle.std.proofs.Common.{ℕ, Option, Some, sym, subst, rules}
use Rattle.page_store.specs.Image.{Image}
use Rattle.page_workspace.specs.Drafts.{meant}
use Rattle.btree_index.specs.Pairs.{with_pair}
use Rattle.btree_index.specs.Changes.{TreeStands, Becomes, IsPlace, IsWay}
use Rattle.btree_index.specs.Filled.{KeepsFilled}
use Rattle.btree_index.specs.declared.paths.Way.{Way}
use Rattle.btree_index.proofs.DepthLemmas.{stands_tree}
use Rattle.btree_index.proofs.FilledLemmas.{filled_same}
use Rattle.btree_index.proofs.inserts.put_absent.Goals as goal

pub returns-in_default-clause-put : goal.returns-in_default-clause-put
returns-in_default-clause-put g c = λ own free list stands.
    let old = meant g.P.PageSource.pages c.args.space.now in
    subst (λ (o : Option Way). IsPlace old c.args.root c.args.key.now list o) c.in_default.is (c.in_ok-found.ensures.there own free list stands)

pub returns-clause-put : goal.returns-clause-put
returns-clause-put g c = λ own free list stands.
    let old = meant g.P.PageSource.pages c.args.space.now in
    let new = meant g.P.PageSource.pages c.put_behind.new.space in
    let place : IsPlace old c.args.root c.args.key.now list (Some c.in-Some.way) =
    subst (λ (o : Option Way). IsPlace old c.args.root c.args.key.now list o) c.in-Some.is (c.in_ok-found.ensures.there own free list stands) in
    let R : (ℕ → Image) → Type 0 = λ f. TreeStands f c.args.root own free list → IsWay f c.args.root c.args.key.now c.in-Some.way
    → Becomes f new c.args.root own free (with_pair c.args.key.now c.args.value.now list) in
    (place.0, subst R c.in_ok-found.ensures.pages (λ there way. c.in_ok-put_behind.ensures.put own free list there place.0 way) stands place.1)

pub returns-in_err-found-clause-fit : goal.returns-in_err-found-clause-fit
returns-in_err-found-clause-fit g c = λ own free list stands.
    search (rules, c.in_err-found.ensures.fit list (stands_tree (meant g.P.PageSource.pages c.args.space.now) c.args.root own free list stands))

pub returns-in_err-put_behind-clause-fit : goal.returns-in_err-put_behind-clause-fit
returns-in_err-put_behind-clause-fit g c = λ own free list stands.
    let old = meant g.P.PageSource.pages c.args.space.now in
    let place : IsPlace old c.args.root c.args.key.now list (Some c.in-Some.way) =
    subst (λ (o : Option Way). IsPlace old c.args.root c.args.key.now list o) c.in-Some.is (c.in_ok-found.ensures.there own free list stands) in
    let there : TreeStands (meant g.P.PageSource.pages c.way_of_absent.new.space) c.args.root own free list =
    subst (λ (f : ℕ → Image). TreeStands f c.args.root own free list) (sym c.in_ok-found.ensures.pages) stands in
    search (rules, c.in_err-put_behind.ensures.fit own free list there place.0)

pub returns-in_default-clause-filled : goal.returns-in_default-clause-filled
returns-in_default-clause-filled g c = λ own free list stands.
    filled_same (meant g.P.PageSource.pages c.args.space.now) (meant g.P.PageSource.pages c.way_of_absent.new.space) c.args.root c.in_ok-found.ensures.pages

pub returns-clause-filled : goal.returns-clause-filled
returns-clause-filled g c = λ own free list stands.
    let old = meant g.P.PageSource.pages c.args.space.now in
    let new = meant g.P.PageSource.pages c.put_behind.new.space in
    let place : IsPlace old c.args.root c.args.key.now list (Some c.in-Some.way) =
    subst (λ (o : Option Way). IsPlace old c.args.root c.args.key.now list o) c.in-Some.is (c.in_ok-found.ensures.there own free list stands) in
    let R : (ℕ → Image) → Type 0 = λ f. TreeStands f c.args.root own free list → IsWay f c.args.root c.args.key.now c.in-Some.way → KeepsFilled f new c.args.root in
    subst R c.in_ok-found.ensures.pages (λ there way. c.in_ok-put_behind.ensures.filled own free list there place.0 way) stands place.1

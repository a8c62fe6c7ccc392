-- The leaf is freed first, then each page above it.
use Rattle.std.proofs.Common.{◌≡◌, ℕ, List, length, Option, None, Some, sym, ap, ◌∙◌, subst, arith, rules}
use Rattle.std.proofs.lemmas.Option.{same_Some}
use Rattle.page_store.specs.Image.{Image}
use Rattle.page_workspace.specs.Drafts.{meant}
use Rattle.page_workspace.specs.Takes.{FreesPage}
use Rattle.page_workspace.proofs.OwnLaws.{ok_all}
use Rattle.page_workspace.specs.Spare.{IsMeta}
use Rattle.btree_index.specs.Fits.{HasOneChild}
use Rattle.btree_index.specs.Prunes.{IsOnly}
use Rattle.btree_index.specs.Steps.{TakesAt}
use Rattle.btree_index.proofs.FreeFitLemmas.{free_below, freed_meta, lone_cell, lone_child, lone_off}
use Rattle.btree_index.proofs.PruneLemmas.{free_leaf, free_inner}
use Rattle.btree_index.proofs.frees.+free_from.Goals as goal

pub returns-in-None-clause-freed : goal.returns-in-None-clause-freed
returns-in-None-clause-freed g t c = λ height root own free list stands lone stray.
    let pages = meant g.P.PageSource.pages c.args.space.now in
    let read = meant g.P.PageSource.pages c.load_to_edit.new.self in
    let new = meant g.P.PageSource.pages c.free_page.new.self in
    let id = c.args.id in
    let is : c.page.result.now ≡ pages id = same_Some c.page.result.now (pages id) (sym c.page.ensures ∙ c.in_ok-load_to_edit.ensures.loaded) in
    let only : IsOnly (pages id) None =
    subst (λ (o : Option ℕ). IsOnly (pages id) o) c.in-None.is (subst (λ (i : Image). IsOnly i c.in_ok-only.only) is c.in_ok-only.ensures.child) in
    ok_all c.free_page.result (λ (f : FreesPage read new id). free_leaf pages new height id root own free list stands lone only stray
    (subst (λ (p : ℕ → Image). FreesPage p new id) c.in_ok-load_to_edit.ensures.pages f))
    c.free_page.ensures.freed

pub returns-in_ok-free_from-in-Some-clause-freed : goal.returns-in_ok-free_from-in-Some-clause-freed
returns-in_ok-free_from-in-Some-clause-freed g t c = λ height root own free list stands lone stray.
    let pages = meant g.P.PageSource.pages c.args.space.now in
    let mid = meant g.P.PageSource.pages c.take_at.new.space in
    let late = meant g.P.PageSource.pages c.free_from.new.space in
    let new = meant g.P.PageSource.pages c.free_page-in-Some.new.self in
    let id = c.args.id in
    let child = c.in-Some.child in
    let is : c.page.result.now ≡ pages id = same_Some c.page.result.now (pages id) (sym c.page.ensures ∙ c.in_ok-load_to_edit.ensures.loaded) in
    let only : IsOnly (pages id) (Some child) =
    subst (λ (o : Option ℕ). IsOnly (pages id) o) c.in-Some.is (subst (λ (i : Image). IsOnly i c.in_ok-only.only) is c.in_ok-only.ensures.child) in
    let taken : TakesAt pages mid id 0 = subst (λ (p : ℕ → Image). TakesAt p mid id 0) c.in_ok-load_to_edit.ensures.pages c.in_ok-take_at-in-Some.ensures.taken in
    ok_all c.free_page-in-Some.result (λ (f : FreesPage late new id). free_inner pages mid late new height id child root own free list stands lone only.0 only.1 stray
    taken.alters (λ h low there strays. c.in_ok-free_from-in-Some.ensures.freed h root own free list there low strays) f)
    c.free_page-in-Some.ensures.freed

pub returns-then-turns-eq0-clause-fit : goal.returns-then-turns-eq0-clause-fit
returns-then-turns-eq0-clause-fit g t c = λ can. (let few = can.few in omega arith)

pub returns-in_err-only-clause-fit : goal.returns-in_err-only-clause-fit
returns-in_err-only-clause-fit g t c = λ can.
    let pages = meant g.P.PageSource.pages c.args.space.now in
    let id = c.args.id in
    let is : c.page.result.now ≡ pages id = same_Some c.page.result.now (pages id) (sym c.page.ensures ∙ c.in_ok-load_to_edit.ensures.loaded) in
    search (rules, c.in_err-only.ensures.fit (subst HasOneChild (sym is) (lone_child pages can.height id can.loose.lone)))

pub returns-in-None-clause-fit : goal.returns-in-None-clause-fit
returns-in-None-clause-fit g t c = λ can.
    let pages = meant g.P.PageSource.pages c.args.space.now in
    let read = meant g.P.PageSource.pages c.load_to_edit.new.self in
    c.free_page.ensures.fit (lone_off pages c.args.id c.args.turns can)
    (subst (λ (p : ℕ → Image). IsMeta (p 0)) (sym c.in_ok-load_to_edit.ensures.pages) can.loose.stands.spare.meta)

pub returns-in_err-take_at-in-Some-clause-fit : goal.returns-in_err-take_at-in-Some-clause-fit
returns-in_err-take_at-in-Some-clause-fit g t c = λ can.
    let pages = meant g.P.PageSource.pages c.args.space.now in
    let id = c.args.id in
    let child = c.in-Some.child in
    let is : c.page.result.now ≡ pages id = same_Some c.page.result.now (pages id) (sym c.page.ensures ∙ c.in_ok-load_to_edit.ensures.loaded) in
    let only : IsOnly (pages id) (Some child) =
    subst (λ (o : Option ℕ). IsOnly (pages id) o) c.in-Some.is (subst (λ (i : Image). IsOnly i c.in_ok-only.only) is c.in_ok-only.ensures.child) in
    let one : length (meant g.P.PageSource.pages c.load_to_edit.new.self id).cells ≡ 1 =
    ap (λ (f : ℕ → Image). length (f id).cells) c.in_ok-load_to_edit.ensures.pages
    ∙ ap (λ (l : List (List ℕ)). length l) (lone_cell pages can.height id can.loose.lone only.0) in
    search (rules, c.in_err-take_at-in-Some.ensures.fit (omega arith))

pub returns-in_err-free_from-in-Some-clause-fit : goal.returns-in_err-free_from-in-Some-clause-fit
returns-in_err-free_from-in-Some-clause-fit g t c = λ can.
    let pages = meant g.P.PageSource.pages c.args.space.now in
    let mid = meant g.P.PageSource.pages c.take_at.new.space in
    let id = c.args.id in
    let child = c.in-Some.child in
    let is : c.page.result.now ≡ pages id = same_Some c.page.result.now (pages id) (sym c.page.ensures ∙ c.in_ok-load_to_edit.ensures.loaded) in
    let only : IsOnly (pages id) (Some child) =
    subst (λ (o : Option ℕ). IsOnly (pages id) o) c.in-Some.is (subst (λ (i : Image). IsOnly i c.in_ok-only.only) is c.in_ok-only.ensures.child) in
    let taken : TakesAt pages mid id 0 = subst (λ (p : ℕ → Image). TakesAt p mid id 0) c.in_ok-load_to_edit.ensures.pages c.in_ok-take_at-in-Some.ensures.taken in
    search (rules, c.in_err-free_from-in-Some.ensures.fit (free_below pages mid id child c.args.turns can only.0 only.1 taken.alters))

pub returns-in_ok-free_from-in-Some-clause-fit : goal.returns-in_ok-free_from-in-Some-clause-fit
returns-in_ok-free_from-in-Some-clause-fit g t c = λ can.
    let pages = meant g.P.PageSource.pages c.args.space.now in
    let mid = meant g.P.PageSource.pages c.take_at.new.space in
    let late = meant g.P.PageSource.pages c.free_from.new.space in
    let id = c.args.id in
    let child = c.in-Some.child in
    let is : c.page.result.now ≡ pages id = same_Some c.page.result.now (pages id) (sym c.page.ensures ∙ c.in_ok-load_to_edit.ensures.loaded) in
    let only : IsOnly (pages id) (Some child) =
    subst (λ (o : Option ℕ). IsOnly (pages id) o) c.in-Some.is (subst (λ (i : Image). IsOnly i c.in_ok-only.only) is c.in_ok-only.ensures.child) in
    let taken : TakesAt pages mid id 0 = subst (λ (p : ℕ → Image). TakesAt p mid id 0) c.in_ok-load_to_edit.ensures.pages c.in_ok-take_at-in-Some.ensures.taken in
    c.free_page-in-Some.ensures.fit (lone_off pages id c.args.turns can)
    (freed_meta pages mid late id child c.args.turns can only.0 only.1 taken.alters c.in_ok-free_from-in-Some.ensures.freed)

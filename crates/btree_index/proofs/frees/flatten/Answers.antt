use Rattle.std.proofs.Common.{◌≡◌, ℕ, Option, None, Some, sym, ap, ◌∙◌, subst, rules}
use Rattle.std.proofs.lemmas.Option.{same_Some}
use Rattle.page_store.specs.Image.{Image}
use Rattle.page_workspace.specs.Drafts.{meant}
use Rattle.page_workspace.specs.Spare.{first_cell}
use Rattle.btree_index.specs.Fits.{HasOneChild}
use Rattle.btree_index.specs.Prunes.{IsOnly, Empties}
use Rattle.btree_index.proofs.FreeFitLemmas.{flat_free, lone_cell, lone_child}
use Rattle.btree_index.proofs.PruneLemmas.{flattened, ok_when, on_ok, stays_leaf}
use Rattle.btree_index.proofs.frees.flatten.Goals as goal

pub returns-in_ok-empty_root-in-Some-clause-flattened : goal.returns-in_ok-empty_root-in-Some-clause-flattened
returns-in_ok-empty_root-in-Some-clause-flattened g c = λ own free list stands lone.
    let pages = meant g.P.PageSource.pages c.args.space.now in
    let mid = meant g.P.PageSource.pages c.empty_root.new.space in
    let new = meant g.P.PageSource.pages c.free_from.new.space in
    let root = c.args.root in
    let child = c.in-Some.child in
    let is : c.page.result.now ≡ pages root = same_Some c.page.result.now (pages root) (sym c.page.ensures ∙ c.in_ok-load_to_edit.ensures.loaded) in
    let only : IsOnly (pages root) (Some child) =
    subst (λ (o : Option ℕ). IsOnly (pages root) o) c.in-Some.is (subst (λ (i : Image). IsOnly i c.in_ok-only.only) is c.in_ok-only.ensures.child) in
    let emptied : Empties pages mid root =
    subst (λ (p : ℕ → Image). Empties p mid root) c.in_ok-load_to_edit.ensures.pages c.in_ok-empty_root-in-Some.ensures.emptied in
    ok_when c.free_from.result (λ x e. flattened pages mid new root child own free list stands lone only.0 only.1 emptied
    (λ h mine low there stray. on_ok c.free_from.result x e (c.free_from.ensures.freed h root mine free list there low stray)))

pub returns-in-None-clause-flattened : goal.returns-in-None-clause-flattened
returns-in-None-clause-flattened g c = λ own free list stands lone.
    let pages = meant g.P.PageSource.pages c.args.space.now in
    let root = c.args.root in
    let is : c.page.result.now ≡ pages root = same_Some c.page.result.now (pages root) (sym c.page.ensures ∙ c.in_ok-load_to_edit.ensures.loaded) in
    let only : IsOnly (pages root) None =
    subst (λ (o : Option ℕ). IsOnly (pages root) o) c.in-None.is (subst (λ (i : Image). IsOnly i c.in_ok-only.only) is c.in_ok-only.ensures.child) in
    stays_leaf pages (meant g.P.PageSource.pages c.load_to_edit.new.self) root own free list c.in_ok-load_to_edit.ensures.pages stands lone only

pub returns-in_err-only-clause-fit : goal.returns-in_err-only-clause-fit
returns-in_err-only-clause-fit g c = λ own free list stands lone all.
    let pages = meant g.P.PageSource.pages c.args.space.now in
    let root = c.args.root in
    let is : c.page.result.now ≡ pages root = same_Some c.page.result.now (pages root) (sym c.page.ensures ∙ c.in_ok-load_to_edit.ensures.loaded) in
    search (rules, c.in_err-only.ensures.fit (subst HasOneChild (sym is) (lone_child pages stands.height root lone)))

pub returns-in_err-empty_root-in-Some-clause-fit : goal.returns-in_err-empty_root-in-Some-clause-fit
returns-in_err-empty_root-in-Some-clause-fit g c = λ own free list stands lone all.
    let pages = meant g.P.PageSource.pages c.args.space.now in
    let root = c.args.root in
    let child = c.in-Some.child in
    let is : c.page.result.now ≡ pages root = same_Some c.page.result.now (pages root) (sym c.page.ensures ∙ c.in_ok-load_to_edit.ensures.loaded) in
    let only : IsOnly (pages root) (Some child) =
    subst (λ (o : Option ℕ). IsOnly (pages root) o) c.in-Some.is (subst (λ (i : Image). IsOnly i c.in_ok-only.only) is c.in_ok-only.ensures.child) in
    search (
      rules,
      c.in_err-empty_root-in-Some.ensures.fit (first_cell (pages root).cells)
          (ap (λ (f : ℕ → Image). (f root).cells) c.in_ok-load_to_edit.ensures.pages ∙ lone_cell pages stands.height root lone only.0),
    )

pub returns-in_ok-empty_root-in-Some-clause-fit : goal.returns-in_ok-empty_root-in-Some-clause-fit
returns-in_ok-empty_root-in-Some-clause-fit g c = λ own free list stands lone all.
    let pages = meant g.P.PageSource.pages c.args.space.now in
    let mid = meant g.P.PageSource.pages c.empty_root.new.space in
    let root = c.args.root in
    let child = c.in-Some.child in
    let is : c.page.result.now ≡ pages root = same_Some c.page.result.now (pages root) (sym c.page.ensures ∙ c.in_ok-load_to_edit.ensures.loaded) in
    let only : IsOnly (pages root) (Some child) =
    subst (λ (o : Option ℕ). IsOnly (pages root) o) c.in-Some.is (subst (λ (i : Image). IsOnly i c.in_ok-only.only) is c.in_ok-only.ensures.child) in
    let emptied : Empties pages mid root =
    subst (λ (p : ℕ → Image). Empties p mid root) c.in_ok-load_to_edit.ensures.pages c.in_ok-empty_root-in-Some.ensures.emptied in
    c.free_from.ensures.fit (flat_free pages mid root child c.args.turns own free list stands lone only.0 only.1 emptied all)

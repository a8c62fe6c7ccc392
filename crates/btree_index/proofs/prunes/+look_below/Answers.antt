-- What is found at a leaf, and at a page above by what is found below it.
use Rattle.std.proofs.Common.{◌≡◌, ◌<◌, ◌≤◌, ◌-◌, ℕ, suc, nat_lt, List, [], ◌∷◌, ◌++◌, length, Some, sym, ap, ◌∙◌, subst, arith, rules}
use Rattle.std.proofs.Math.Logic.{⊎_elim}
use Rattle.std.proofs.lemmas.Bool.{false≢true, ltb-true, ltb-false}
use Rattle.std.proofs.lemmas.Option.{same_Some, slice_get_within}
use Rattle.page_store.specs.Image.{Image}
use Rattle.page_store.specs.declared.pages.Head.{Head}
use Rattle.page_store.specs.declared.pages.PageKind.TheVariants.{Leaf, Inner}
use Rattle.page_workspace.specs.Drafts.{meant}
use Rattle.btree_index.specs.Pairs.{choice}
use Rattle.btree_index.specs.Prunes.{IsFound, IsBeside, LeadsTo, last_page}
use Rattle.btree_index.specs.Steps.{IsBelow}
use Rattle.btree_index.specs.Trees.{Entry, Holds, IsInnerPage}
use Rattle.btree_index.specs.Keys.{Key}
use Rattle.btree_index.specs.declared.prunes.Found.{Found}
use Rattle.btree_index.specs.declared.prunes.Found.TheVariants.{Full, Lone}
use Rattle.btree_index.proofs.ForkLemmas.{UnderChild, found_at_leaf, found_below, found_hung, level_before, level_inner, level_kind}
use Rattle.btree_index.proofs.LeafWays.{hung_leads, leaf_leads}
use Rattle.btree_index.proofs.prunes.+look_below.Goals as goal

pub returns-in-Leaf-clause-found : goal.returns-in-Leaf-clause-found
returns-in-Leaf-clause-found g t c = λ height front others low cells h last.
    let pages = meant g.P.PageSource.pages c.args.space.now in
    let id = c.args.id in
    let image = c.page-page.result.now in
    let found = c.leaf_found.result in
    let is : image ≡ pages id = same_Some image (pages id) (sym c.page-page.ensures ∙ c.in_ok-load_to_edit.ensures.loaded) in
    let kind : (pages id).head.kind ≡ Leaf =
    ap (λ (i : Image). i.head.kind) (sym is) ∙ ap (λ (h : Head). h.kind) (sym c.head.ensures) ∙ c.in-Leaf.is in
    let R : Image → Type 0 = λ i. (i.cells ≡ [] → found ≡ Lone (record { left = c.args.left; right = i.head.right })) × ((i.cells ≡ [] → ⊥) → found ≡ Full) in
    let told : R (pages id) = subst R is c.leaf_found.ensures in
    found_at_leaf pages height front low id others cells c.args.left found h last kind told.0 told.1

pub returns-in_ok-found-in-Inner-clause-found : goal.returns-in_ok-found-in-Inner-clause-found
returns-in_ok-found-in-Inner-clause-found g t c = λ height front others low cells h last.
    let pages = meant g.P.PageSource.pages c.args.space.now in
    let read = meant g.P.PageSource.pages c.beside.new.space in
    let id = c.args.id in
    let image = c.page-page.result.now in
    let below = c.in-Some.below in
    let found = c.in_ok-found-in-Inner.found in
    let next = c.in_ok-next-in-Inner.next in
    let is : image ≡ pages id = same_Some image (pages id) (sym c.page-page.ensures ∙ c.in_ok-load_to_edit.ensures.loaded) in
    let kind : (pages id).head.kind ≡ Inner =
    ap (λ (i : Image). i.head.kind) (sym is) ∙ ap (λ (h : Head). h.kind) (sym c.head.ensures) ∙ c.in-Inner.is in
    let at : IsBelow (pages id) below = subst (λ (i : Image). IsBelow i below) is c.in-Some.ensures.place in
    let by : IsBeside pages id below.at c.args.left next =
    subst (λ (p : ℕ → Image). IsBeside p id below.at c.args.left next) c.in_ok-load_to_edit.ensures.pages c.in_ok-next-in-Inner.ensures.found in
    let same : read ≡ pages = c.in_ok-next-in-Inner.ensures.pages ∙ c.in_ok-load_to_edit.ensures.pages in
    let count : c.count-several.result ≡ length (pages id).cells = c.count-several.ensures ∙ ap (λ (i : Image). length i.cells) is in
    let rec : (height : ℕ) (front others : List Entry) (low : Key) (cells : List (List ℕ))
    → Holds pages height (front ++ (record { low = low; page = below.child } ∷ others)) cells → last_page front ≡ next
    → IsFound pages height front low below.child others cells found =
    λ k fs os l cs holds end. subst (λ (p : ℕ → Image). IsFound p k fs l below.child os cs found) same
    (c.in_ok-found-in-Inner.ensures.found k fs os l cs
    (subst (λ (p : ℕ → Image). Holds p k (fs ++ (record { low = l; page = below.child } ∷ os)) cs) (sym same) holds) end) in
    subst (λ (r : Found). IsFound pages height front low id others cells r) (sym c.hung.ensures)
    (found_hung pages height front low id others cells c.args.left next below found (nat_lt 1 c.count-several.result) h last kind at by
    (λ k. subst (λ (n : ℕ). 1 < n) count (ltb-true 1 c.count-several.result k))
    (λ k. subst (λ (n : ℕ). n ≤ 1) count (ltb-false 1 c.count-several.result k)) rec)

pub returns-in-Leaf-clause-way : goal.returns-in-Leaf-clause-way
returns-in-Leaf-clause-way g t c =
    let pages = meant g.P.PageSource.pages c.args.space.now in
    let id = c.args.id in
    let image = c.page-page.result.now in
    let found = c.leaf_found.result in
    let is : image ≡ pages id = same_Some image (pages id) (sym c.page-page.ensures ∙ c.in_ok-load_to_edit.ensures.loaded) in
    let kind : (pages id).head.kind ≡ Leaf =
    ap (λ (i : Image). i.head.kind) (sym is) ∙ ap (λ (h : Head). h.kind) (sym c.head.ensures) ∙ c.in-Leaf.is in
    let R : Image → Type 0 = λ i. (i.cells ≡ [] → found ≡ Lone (record { left = c.args.left; right = i.head.right })) × ((i.cells ≡ [] → ⊥) → found ≡ Full) in
    let told : R (pages id) = subst R is c.leaf_found.ensures in
    leaf_leads pages c.args.key.now id c.args.left found kind told.0 told.1

pub returns-in_ok-found-in-Inner-clause-way : goal.returns-in_ok-found-in-Inner-clause-way
returns-in_ok-found-in-Inner-clause-way g t c =
    let pages = meant g.P.PageSource.pages c.args.space.now in
    let read = meant g.P.PageSource.pages c.beside.new.space in
    let id = c.args.id in
    let image = c.page-page.result.now in
    let below = c.in-Some.below in
    let found = c.in_ok-found-in-Inner.found in
    let is : image ≡ pages id = same_Some image (pages id) (sym c.page-page.ensures ∙ c.in_ok-load_to_edit.ensures.loaded) in
    let kind : (pages id).head.kind ≡ Inner =
    ap (λ (i : Image). i.head.kind) (sym is) ∙ ap (λ (h : Head). h.kind) (sym c.head.ensures) ∙ c.in-Inner.is in
    let child : below.child ≡ choice c.args.key.now (pages id).cells = c.in-Some.ensures.child ∙ ap (λ (i : Image). choice c.args.key.now i.cells) is in
    let same : read ≡ pages = c.in_ok-next-in-Inner.ensures.pages ∙ c.in_ok-load_to_edit.ensures.pages in
    let rec : LeadsTo pages c.args.key.now below.child found =
    subst (λ (p : ℕ → Image). LeadsTo p c.args.key.now below.child found) same c.in_ok-found-in-Inner.ensures.way in
    subst (λ (r : Found). LeadsTo pages c.args.key.now id r) (sym c.hung.ensures)
    (hung_leads pages c.args.key.now id below found (nat_lt 1 c.count-several.result) kind child rec)

pub returns-then-turns-eq0-clause-fit : goal.returns-then-turns-eq0-clause-fit
returns-then-turns-eq0-clause-fit g t c = λ height front others low cells h last few. omega arith

pub returns-in_default-child_below-clause-fit : goal.returns-in_default-child_below-clause-fit
returns-in_default-child_below-clause-fit g t c = λ height front others low cells h last few.
    let pages = meant g.P.PageSource.pages c.args.space.now in
    let id = c.args.id in
    let image = c.page-page.result.now in
    let is : image ≡ pages id = same_Some image (pages id) (sym c.page-page.ensures ∙ c.in_ok-load_to_edit.ensures.loaded) in
    let kind : (pages id).head.kind ≡ Inner =
    ap (λ (i : Image). i.head.kind) (sym is) ∙ ap (λ (h : Head). h.kind) (sym c.head.ensures) ∙ c.in-Inner.is in
    let inner : IsInnerPage height image = subst (λ (i : Image). IsInnerPage height i) (sym is) (level_inner pages height front low id others cells h kind) in
    false≢true (c.in_default-child_below.ensures.some height inner)

pub returns-in_err-next-in-Inner-clause-fit : goal.returns-in_err-next-in-Inner-clause-fit
returns-in_err-next-in-Inner-clause-fit g t c = λ height front others low cells h last few.
    let pages = meant g.P.PageSource.pages c.args.space.now in
    let id = c.args.id in
    let image = c.page-page.result.now in
    let below = c.in-Some.below in
    let is : image ≡ pages id = same_Some image (pages id) (sym c.page-page.ensures ∙ c.in_ok-load_to_edit.ensures.loaded) in
    let kind : (pages id).head.kind ≡ Inner =
    ap (λ (i : Image). i.head.kind) (sym is) ∙ ap (λ (h : Head). h.kind) (sym c.head.ensures) ∙ c.in-Inner.is in
    let at : IsBelow (pages id) below = subst (λ (i : Image). IsBelow i below) is c.in-Some.ensures.place in
    let B : (ℕ → Image) → Type 0 = λ p.
    IsInnerPage height (p id) × (below.at < length (p id).cells) × ((n : ℕ) → c.args.left ≡ Some n → IsInnerPage height (p n)) in
    let there : B (meant g.P.PageSource.pages c.load_to_edit.new.self) = subst B (sym c.in_ok-load_to_edit.ensures.pages) (
      level_inner pages height front low id others cells h kind,
      slice_get_within (pages id).cells below.at at.cell at.here,
      λ n k. level_before pages height front low id others cells n h kind (last ∙ k),
    ) in
    search (rules, c.in_err-next-in-Inner.ensures.fit height there.0 there.1 there.2)

pub returns-in_err-found-in-Inner-clause-fit : goal.returns-in_err-found-in-Inner-clause-fit
returns-in_err-found-in-Inner-clause-fit g t c = λ height front others low cells h last few.
    let pages = meant g.P.PageSource.pages c.args.space.now in
    let read = meant g.P.PageSource.pages c.beside.new.space in
    let id = c.args.id in
    let image = c.page-page.result.now in
    let below = c.in-Some.below in
    let next = c.in_ok-next-in-Inner.next in
    let is : image ≡ pages id = same_Some image (pages id) (sym c.page-page.ensures ∙ c.in_ok-load_to_edit.ensures.loaded) in
    let kind : (pages id).head.kind ≡ Inner =
    ap (λ (i : Image). i.head.kind) (sym is) ∙ ap (λ (h : Head). h.kind) (sym c.head.ensures) ∙ c.in-Inner.is in
    let at : IsBelow (pages id) below = subst (λ (i : Image). IsBelow i below) is c.in-Some.ensures.place in
    let by : IsBeside pages id below.at c.args.left next =
    subst (λ (p : ℕ → Image). IsBeside p id below.at c.args.left next) c.in_ok-load_to_edit.ensures.pages c.in_ok-next-in-Inner.ensures.found in
    let same : read ≡ pages = c.in_ok-next-in-Inner.ensures.pages ∙ c.in_ok-load_to_edit.ensures.pages in
    let u : UnderChild pages height front low id others cells below.at below.child next =
    found_below pages height front low id others cells below.at below.child c.args.left next at.cell h last kind at.here at.child by in
    let tall : height ≡ suc u.under = u.tall in
    let less : u.under < c.args.turns - 1 = omega arith in
    search (
      rules,
      c.in_err-found-in-Inner.ensures.fit u.under u.before u.behind u.least cells
          (subst (λ (p : ℕ → Image). Holds p u.under (u.before ++ (record { low = u.least; page = below.child } ∷ u.behind)) cells) (sym same) u.holds) u.last less,
    )

pub returns-in_default-clause-fit : goal.returns-in_default-clause-fit
returns-in_default-clause-fit g t c = λ height front others low cells h last few.
    let pages = meant g.P.PageSource.pages c.args.space.now in
    let id = c.args.id in
    let image = c.page-page.result.now in
    let is : image ≡ pages id = same_Some image (pages id) (sym c.page-page.ensures ∙ c.in_ok-load_to_edit.ensures.loaded) in
    let kind : c.head.result.kind ≡ (pages id).head.kind = ap (λ (h : Head). h.kind) c.head.ensures ∙ ap (λ (i : Image). i.head.kind) is in
    ⊎_elim (λ l. c.in_default.not-Leaf (kind ∙ l)) (λ i. c.in_default.not-Inner (kind ∙ i)) (level_kind pages height front low id others cells h)

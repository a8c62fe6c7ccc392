-- The pages were only read when it is known what is to be done.
use Rattle.std.proofs.Common.{◌≡◌, ◌<◌, ◌≤◌, ℕ, [], refl, sym, ◌∙◌, subst, arith, rules}
use Rattle.std.specs.Result.{OnOk}
use Rattle.page_store.specs.Image.{Image}
use Rattle.page_workspace.specs.Drafts.{meant, IsNotUnfit}
use Rattle.page_workspace.specs.Metas.{TellsMeta}
use Rattle.page_workspace.specs.Spare.{count_of}
use Rattle.page_workspace.proofs.OwnLaws.{ok_all}
use Rattle.btree_index.specs.Changes.{TreeStands}
use Rattle.btree_index.specs.Prunes.{lone_leaf, CanFree, CanUnlink, GoesOn, IsFound, IsFork, IsLone, LeadsTo, LosesLeaf, Unlinks}
use Rattle.btree_index.specs.Trees.{Holds, top}
use Rattle.btree_index.specs.declared.prunes.Found.{Found}
use Rattle.btree_index.specs.declared.prunes.Found.TheVariants.{Lone}
use Rattle.btree_index.proofs.FilledLemmas.{filled_same}
use Rattle.btree_index.proofs.FreeFitLemmas.{cut_free, tree_few}
use Rattle.btree_index.proofs.LeafWays.{frees_fork, frees_lone, frees_none}
use Rattle.btree_index.proofs.PruneLemmas.{pruned_after}
use Rattle.btree_index.proofs.frees.free_empty_leaf.Goals as goal

pub returns-in-Lone-clause-freed : goal.returns-in-Lone-clause-freed
returns-in-Lone-clause-freed g c = λ own free list stands.
    let pages = meant g.P.PageSource.pages c.args.space.now in
    let first = meant g.P.PageSource.pages c.meta.new.self in
    let read = meant g.P.PageSource.pages c.look_below.new.space in
    let new = meant g.P.PageSource.pages c.flatten.new.space in
    let root = c.args.root in
    let one : first ≡ pages = c.in_ok-meta.ensures.pages in
    let same : read ≡ pages = c.in_ok-found.ensures.pages ∙ one in
    let there : IsFound pages stands.height [] [] root [] stands.cells c.in_ok-found.found =
    subst (λ (p : ℕ → Image). IsFound p stands.height [] [] root [] stands.cells c.in_ok-found.found) one
    (c.in_ok-found.ensures.found stands.height [] [] [] stands.cells
    (subst (λ (p : ℕ → Image). Holds p stands.height (top root) stands.cells) (sym one) stands.holds) refl) in
    let lone : IsFound pages stands.height [] [] root [] stands.cells (Lone c.in-Lone.field-0) =
    subst (λ (f : Found). IsFound pages stands.height [] [] root [] stands.cells f) c.in-Lone.is there in
    let R : (ℕ → Image) → Type 0 = λ p. (s : TreeStands p root own free list) → IsLone p s.height root → OnOk c.flatten.result (LosesLeaf p new root own free list (lone_leaf p s.height root)) in
    ok_all c.flatten.result (λ (l : LosesLeaf pages new root own free list (lone_leaf pages stands.height root)). l.becomes)
    (subst R same (λ s l. c.flatten.ensures.flattened own free list s l) stands lone.0)

pub returns-in-Forked-clause-freed : goal.returns-in-Forked-clause-freed
returns-in-Forked-clause-freed g c = λ own free list stands.
    let pages = meant g.P.PageSource.pages c.args.space.now in
    let first = meant g.P.PageSource.pages c.meta.new.self in
    let read = meant g.P.PageSource.pages c.look_below.new.space in
    let new = meant g.P.PageSource.pages c.cut.new.space in
    let root = c.args.root in
    let fork = c.in-Forked.fork in
    let one : first ≡ pages = c.in_ok-meta.ensures.pages in
    let same : read ≡ pages = c.in_ok-found.ensures.pages ∙ one in
    let there : IsFound pages stands.height [] [] root [] stands.cells c.in_ok-found.found =
    subst (λ (p : ℕ → Image). IsFound p stands.height [] [] root [] stands.cells c.in_ok-found.found) one
    (c.in_ok-found.ensures.found stands.height [] [] [] stands.cells
    (subst (λ (p : ℕ → Image). Holds p stands.height (top root) stands.cells) (sym one) stands.holds) refl) in
    let forked : IsFork pages stands.height (top root) stands.cells fork =
    subst (λ (f : Found). IsFound pages stands.height [] [] root [] stands.cells f) c.in-Forked.is there in
    ok_all c.cut.result (λ w. (pruned_after pages read new root own free list fork same stands forked w).becomes) c.cut.ensures.cut

pub returns-in-Lone-clause-gone : goal.returns-in-Lone-clause-gone
returns-in-Lone-clause-gone g c = λ own free list stands.
    let pages = meant g.P.PageSource.pages c.args.space.now in
    let first = meant g.P.PageSource.pages c.meta.new.self in
    let read = meant g.P.PageSource.pages c.look_below.new.space in
    let new = meant g.P.PageSource.pages c.flatten.new.space in
    let root = c.args.root in
    let one : first ≡ pages = c.in_ok-meta.ensures.pages in
    let same : read ≡ pages = c.in_ok-found.ensures.pages ∙ one in
    let there : IsFound pages stands.height [] [] root [] stands.cells c.in_ok-found.found =
    subst (λ (p : ℕ → Image). IsFound p stands.height [] [] root [] stands.cells c.in_ok-found.found) one
    (c.in_ok-found.ensures.found stands.height [] [] [] stands.cells
    (subst (λ (p : ℕ → Image). Holds p stands.height (top root) stands.cells) (sym one) stands.holds) refl) in
    let lone : IsFound pages stands.height [] [] root [] stands.cells (Lone c.in-Lone.field-0) =
    subst (λ (f : Found). IsFound pages stands.height [] [] root [] stands.cells f) c.in-Lone.is there in
    let R : (ℕ → Image) → Type 0 = λ p. (s : TreeStands p root own free list) → IsLone p s.height root → OnOk c.flatten.result (LosesLeaf p new root own free list (lone_leaf p s.height root)) in
    ok_all c.flatten.result (λ (l : LosesLeaf pages new root own free list (lone_leaf pages stands.height root)). frees_lone pages new root c.args.key.now own free list stands lone.0 l)
    (subst R same (λ s l. c.flatten.ensures.flattened own free list s l) stands lone.0)

pub returns-in-Forked-clause-gone : goal.returns-in-Forked-clause-gone
returns-in-Forked-clause-gone g c = λ own free list stands.
    let pages = meant g.P.PageSource.pages c.args.space.now in
    let first = meant g.P.PageSource.pages c.meta.new.self in
    let read = meant g.P.PageSource.pages c.look_below.new.space in
    let new = meant g.P.PageSource.pages c.cut.new.space in
    let root = c.args.root in
    let fork = c.in-Forked.fork in
    let one : first ≡ pages = c.in_ok-meta.ensures.pages in
    let same : read ≡ pages = c.in_ok-found.ensures.pages ∙ one in
    let there : IsFound pages stands.height [] [] root [] stands.cells c.in_ok-found.found =
    subst (λ (p : ℕ → Image). IsFound p stands.height [] [] root [] stands.cells c.in_ok-found.found) one
    (c.in_ok-found.ensures.found stands.height [] [] [] stands.cells
    (subst (λ (p : ℕ → Image). Holds p stands.height (top root) stands.cells) (sym one) stands.holds) refl) in
    let forked : IsFork pages stands.height (top root) stands.cells fork =
    subst (λ (f : Found). IsFound pages stands.height [] [] root [] stands.cells f) c.in-Forked.is there in
    let leads : LeadsTo pages c.args.key.now root c.in_ok-found.found =
    subst (λ (p : ℕ → Image). LeadsTo p c.args.key.now root c.in_ok-found.found) one c.in_ok-found.ensures.way in
    let on : GoesOn pages c.args.key.now root fork.child = subst (λ (f : Found). LeadsTo pages c.args.key.now root f) c.in-Forked.is leads in
    ok_all c.cut.result
    (λ w. frees_fork pages new root c.args.key.now own free list stands fork forked on (pruned_after pages read new root own free list fork same stands forked w))
    c.cut.ensures.cut

pub returns-in-Full-clause-gone : goal.returns-in-Full-clause-gone
returns-in-Full-clause-gone g c = λ own free list stands.
    let pages = meant g.P.PageSource.pages c.args.space.now in
    let read = meant g.P.PageSource.pages c.look_below.new.space in
    let root = c.args.root in
    let leads : LeadsTo pages c.args.key.now root c.in_ok-found.found =
    subst (λ (p : ℕ → Image). LeadsTo p c.args.key.now root c.in_ok-found.found) c.in_ok-meta.ensures.pages c.in_ok-found.ensures.way in
    frees_none pages read root c.args.key.now (subst (λ (f : Found). LeadsTo pages c.args.key.now root f) c.in-Full.is leads)

pub returns-in-Lone-clause-filled : goal.returns-in-Lone-clause-filled
returns-in-Lone-clause-filled g c = λ own free list stands.
    let pages = meant g.P.PageSource.pages c.args.space.now in
    let first = meant g.P.PageSource.pages c.meta.new.self in
    let read = meant g.P.PageSource.pages c.look_below.new.space in
    let new = meant g.P.PageSource.pages c.flatten.new.space in
    let root = c.args.root in
    let one : first ≡ pages = c.in_ok-meta.ensures.pages in
    let same : read ≡ pages = c.in_ok-found.ensures.pages ∙ one in
    let there : IsFound pages stands.height [] [] root [] stands.cells c.in_ok-found.found =
    subst (λ (p : ℕ → Image). IsFound p stands.height [] [] root [] stands.cells c.in_ok-found.found) one
    (c.in_ok-found.ensures.found stands.height [] [] [] stands.cells
    (subst (λ (p : ℕ → Image). Holds p stands.height (top root) stands.cells) (sym one) stands.holds) refl) in
    let lone : IsFound pages stands.height [] [] root [] stands.cells (Lone c.in-Lone.field-0) =
    subst (λ (f : Found). IsFound pages stands.height [] [] root [] stands.cells f) c.in-Lone.is there in
    let R : (ℕ → Image) → Type 0 = λ p. (s : TreeStands p root own free list) → IsLone p s.height root → OnOk c.flatten.result (LosesLeaf p new root own free list (lone_leaf p s.height root)) in
    ok_all c.flatten.result (λ (l : LosesLeaf pages new root own free list (lone_leaf pages stands.height root)). l.filled)
    (subst R same (λ s l. c.flatten.ensures.flattened own free list s l) stands lone.0)

pub returns-in-Forked-clause-filled : goal.returns-in-Forked-clause-filled
returns-in-Forked-clause-filled g c = λ own free list stands.
    let pages = meant g.P.PageSource.pages c.args.space.now in
    let first = meant g.P.PageSource.pages c.meta.new.self in
    let read = meant g.P.PageSource.pages c.look_below.new.space in
    let new = meant g.P.PageSource.pages c.cut.new.space in
    let root = c.args.root in
    let fork = c.in-Forked.fork in
    let one : first ≡ pages = c.in_ok-meta.ensures.pages in
    let same : read ≡ pages = c.in_ok-found.ensures.pages ∙ one in
    let there : IsFound pages stands.height [] [] root [] stands.cells c.in_ok-found.found =
    subst (λ (p : ℕ → Image). IsFound p stands.height [] [] root [] stands.cells c.in_ok-found.found) one
    (c.in_ok-found.ensures.found stands.height [] [] [] stands.cells
    (subst (λ (p : ℕ → Image). Holds p stands.height (top root) stands.cells) (sym one) stands.holds) refl) in
    let forked : IsFork pages stands.height (top root) stands.cells fork =
    subst (λ (f : Found). IsFound pages stands.height [] [] root [] stands.cells f) c.in-Forked.is there in
    ok_all c.cut.result (λ w. (pruned_after pages read new root own free list fork same stands forked w).filled) c.cut.ensures.cut

pub returns-in-Full-clause-filled : goal.returns-in-Full-clause-filled
returns-in-Full-clause-filled g c = λ own free list stands.
    filled_same (meant g.P.PageSource.pages c.args.space.now) (meant g.P.PageSource.pages c.look_below.new.space) c.args.root
    (c.in_ok-found.ensures.pages ∙ c.in_ok-meta.ensures.pages)

pub returns-in_err-meta-clause-fit : goal.returns-in_err-meta-clause-fit
returns-in_err-meta-clause-fit g c = λ own free list stands. search (rules, c.in_err-meta.ensures.fit stands.spare.meta)

pub returns-in_err-found-clause-fit : goal.returns-in_err-found-clause-fit
returns-in_err-found-clause-fit g c = λ own free list stands.
    let pages = meant g.P.PageSource.pages c.args.space.now in
    let root = c.args.root in
    let few : stands.height < count_of pages = tree_few pages root own free list stands in
    let told : TellsMeta pages c.in_ok-meta.meta = c.in_ok-meta.ensures.told in
    let count : c.in_ok-meta.meta.count ≡ count_of pages = told.count in
    let less : stands.height < c.in_ok-meta.meta.count = omega arith in
    search (
      rules,
      c.in_err-found.ensures.fit stands.height [] [] [] stands.cells
          (subst (λ (p : ℕ → Image). Holds p stands.height (top root) stands.cells) (sym c.in_ok-meta.ensures.pages) stands.holds) refl less,
    )

pub returns-in-Lone-clause-fit : goal.returns-in-Lone-clause-fit
returns-in-Lone-clause-fit g c = λ own free list stands.
    let pages = meant g.P.PageSource.pages c.args.space.now in
    let first = meant g.P.PageSource.pages c.meta.new.self in
    let read = meant g.P.PageSource.pages c.look_below.new.space in
    let root = c.args.root in
    let one : first ≡ pages = c.in_ok-meta.ensures.pages in
    let same : read ≡ pages = c.in_ok-found.ensures.pages ∙ one in
    let there : IsFound pages stands.height [] [] root [] stands.cells c.in_ok-found.found =
    subst (λ (p : ℕ → Image). IsFound p stands.height [] [] root [] stands.cells c.in_ok-found.found) one
    (c.in_ok-found.ensures.found stands.height [] [] [] stands.cells
    (subst (λ (p : ℕ → Image). Holds p stands.height (top root) stands.cells) (sym one) stands.holds) refl) in
    let lone : IsFound pages stands.height [] [] root [] stands.cells (Lone c.in-Lone.field-0) =
    subst (λ (f : Found). IsFound pages stands.height [] [] root [] stands.cells f) c.in-Lone.is there in
    let told : TellsMeta pages c.in_ok-meta.meta = c.in_ok-meta.ensures.told in
    let count : c.in_ok-meta.meta.count ≡ count_of pages = told.count in
    let all : count_of pages ≤ c.in_ok-meta.meta.count = omega arith in
    let R : (ℕ → Image) → Type 0 = λ p. (s : TreeStands p root own free list) → IsLone p s.height root → count_of p ≤ c.in_ok-meta.meta.count → IsNotUnfit c.flatten.result in
    (subst R same (λ s l a. c.flatten.ensures.fit own free list s l a)) stands lone.0 all

pub returns-in-Forked-clause-fit : goal.returns-in-Forked-clause-fit
returns-in-Forked-clause-fit g c = λ own free list stands.
    let pages = meant g.P.PageSource.pages c.args.space.now in
    let first = meant g.P.PageSource.pages c.meta.new.self in
    let read = meant g.P.PageSource.pages c.look_below.new.space in
    let root = c.args.root in
    let fork = c.in-Forked.fork in
    let one : first ≡ pages = c.in_ok-meta.ensures.pages in
    let same : read ≡ pages = c.in_ok-found.ensures.pages ∙ one in
    let there : IsFound pages stands.height [] [] root [] stands.cells c.in_ok-found.found =
    subst (λ (p : ℕ → Image). IsFound p stands.height [] [] root [] stands.cells c.in_ok-found.found) one
    (c.in_ok-found.ensures.found stands.height [] [] [] stands.cells
    (subst (λ (p : ℕ → Image). Holds p stands.height (top root) stands.cells) (sym one) stands.holds) refl) in
    let forked : IsFork pages stands.height (top root) stands.cells fork =
    subst (λ (f : Found). IsFound pages stands.height [] [] root [] stands.cells f) c.in-Forked.is there in
    let told : TellsMeta pages c.in_ok-meta.meta = c.in_ok-meta.ensures.told in
    let count : c.in_ok-meta.meta.count ≡ count_of pages = told.count in
    let all : count_of pages ≤ c.in_ok-meta.meta.count = omega arith in
    let R : (ℕ → Image) → Type 0 = λ p. CanUnlink p fork → ((mid : ℕ → Image) → Unlinks p mid fork → CanFree mid fork.child c.in_ok-meta.meta.count) → IsNotUnfit c.cut.result in
    (subst R same c.cut.ensures.fit) forked.able
    (λ mid u. cut_free pages mid root c.in_ok-meta.meta.count own free list fork stands forked all u)

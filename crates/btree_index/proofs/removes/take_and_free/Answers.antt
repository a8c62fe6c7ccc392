-- What was taken, and then the leaf that it emptied freed.
use Rattle.std.proofs.Common.{◌≡◌, ℕ, List, Option, Some, ap, ◌∙◌, subst, rules}
use Rattle.std.specs.Option.{is_some}
use Rattle.page_store.specs.Image.{Image}
use Rattle.page_store.specs.declared.edits.Edit.{Edit}
use Rattle.page_workspace.specs.Drafts.{meant, edited_by}
use Rattle.btree_index.specs.Changes.{Becomes}
use Rattle.btree_index.specs.Pairs.{value_at, without_key}
use Rattle.btree_index.specs.Prunes.{IsTaken, Takes}
use Rattle.btree_index.proofs.DepthLemmas.{stands_tree}
use Rattle.btree_index.proofs.FilledLemmas.{filled_same, last_filled, taken_filled}
use Rattle.btree_index.proofs.LeafWays.{taken_last}
use Rattle.btree_index.proofs.StandLemmas.{becomes_after}
use Rattle.btree_index.proofs.removes.take_and_free.Goals as goal

pub returns-in_default-clause-removed : goal.returns-in_default-clause-removed
returns-in_default-clause-removed g c = λ own free list stands.
    let old = meant g.P.PageSource.pages c.args.space.now in
    let mid = meant g.P.PageSource.pages c.take_key.new.space in
    subst (λ (o : Option ℕ). (is_some o ≡ is_some (value_at c.args.key.now list)) × Becomes old mid c.args.root own free (without_key c.args.key.now list))
    c.in_default.is (c.in_ok-taken.ensures.removed own free list stands)

pub returns-then-count-ne1-clause-removed : goal.returns-then-count-ne1-clause-removed
returns-then-count-ne1-clause-removed g c = λ own free list stands.
    let old = meant g.P.PageSource.pages c.args.space.now in
    let mid = meant g.P.PageSource.pages c.take_key.new.space in
    subst (λ (o : Option ℕ). (is_some o ≡ is_some (value_at c.args.key.now list)) × Becomes old mid c.args.root own free (without_key c.args.key.now list))
    c.in-Some.is (c.in_ok-taken.ensures.removed own free list stands)

pub returns-clause-removed : goal.returns-clause-removed
returns-clause-removed g c = λ own free list stands.
    let old = meant g.P.PageSource.pages c.args.space.now in
    let mid = meant g.P.PageSource.pages c.take_key.new.space in
    let new = meant g.P.PageSource.pages c.free_empty_leaf.new.space in
    let left = without_key c.args.key.now list in
    let P : Option ℕ → Type 0 = λ o. (is_some o ≡ is_some (value_at c.args.key.now list)) × Becomes old mid c.args.root own free left in
    let taken : P (Some c.in-Some.count) = subst P c.in-Some.is (c.in_ok-taken.ensures.removed own free list stands) in
    let first : Becomes old mid c.args.root own free left = taken.1 in (
      taken.0,
      becomes_after old mid new c.args.root own free left left first (c.in_ok-free_empty_leaf.ensures.freed first.more first.spare left first.stands),
    )

pub returns-clause-gone : goal.returns-clause-gone
returns-clause-gone g c = λ own free list stands was.
    let old = meant g.P.PageSource.pages c.args.space.now in
    let mid = meant g.P.PageSource.pages c.take_key.new.space in
    let new = meant g.P.PageSource.pages c.free_empty_leaf.new.space in
    let left = without_key c.args.key.now list in
    let first : Becomes old mid c.args.root own free left = (c.in_ok-taken.ensures.removed own free list stands).1 in
    let taken : Takes old mid c.args.root c.args.key.now c.in-Some.count =
    subst (λ (o : Option ℕ). IsTaken old mid c.args.root c.args.key.now o) c.in-Some.is c.in_ok-taken.ensures.taken in
    let one : c.in-Some.count ≡ 1 = search rules in
    taken_last old mid new c.args.root c.args.key.now c.in-Some.count taken one (c.in_ok-free_empty_leaf.ensures.gone first.more first.spare left first.stands)

pub returns-in_default-clause-filled : goal.returns-in_default-clause-filled
returns-in_default-clause-filled g c = λ own free list stands.
    let pages = g.P.PageSource.pages in
    let first = c.args.space.now in
    let last = c.take_key.new.space in
    let edits : last.edits ≡ first.edits = c.in_ok-taken.ensures.absent c.in_default.is in
    filled_same (meant pages first) (meant pages last) c.args.root
    (ap (λ (es : List (ℕ × Edit)). edited_by es (pages last.base)) edits ∙ ap (λ (f : ℕ → Image). edited_by first.edits f) c.in_ok-taken.ensures.base)

pub returns-then-count-ne1-clause-filled : goal.returns-then-count-ne1-clause-filled
returns-then-count-ne1-clause-filled g c = λ own free list stands.
    let old = meant g.P.PageSource.pages c.args.space.now in
    let mid = meant g.P.PageSource.pages c.take_key.new.space in
    let taken : Takes old mid c.args.root c.args.key.now c.in-Some.count =
    subst (λ (o : Option ℕ). IsTaken old mid c.args.root c.args.key.now o) c.in-Some.is c.in_ok-taken.ensures.taken in
    taken_filled old mid c.args.root c.args.key.now c.in-Some.count taken (search rules)

pub returns-clause-filled : goal.returns-clause-filled
returns-clause-filled g c = λ own free list stands.
    let old = meant g.P.PageSource.pages c.args.space.now in
    let mid = meant g.P.PageSource.pages c.take_key.new.space in
    let new = meant g.P.PageSource.pages c.free_empty_leaf.new.space in
    let left = without_key c.args.key.now list in
    let first : Becomes old mid c.args.root own free left = (c.in_ok-taken.ensures.removed own free list stands).1 in
    let taken : Takes old mid c.args.root c.args.key.now c.in-Some.count =
    subst (λ (o : Option ℕ). IsTaken old mid c.args.root c.args.key.now o) c.in-Some.is c.in_ok-taken.ensures.taken in
    let one : c.in-Some.count ≡ 1 = search rules in
    last_filled old mid new c.args.root c.args.key.now c.in-Some.count taken one
    (c.in_ok-free_empty_leaf.ensures.gone first.more first.spare left first.stands)
    (c.in_ok-free_empty_leaf.ensures.filled first.more first.spare left first.stands)

pub returns-in_err-taken-clause-fit : goal.returns-in_err-taken-clause-fit
returns-in_err-taken-clause-fit g c = λ own free list stands.
    search (rules, c.in_err-taken.ensures.fit list (stands_tree (meant g.P.PageSource.pages c.args.space.now) c.args.root own free list stands))

pub returns-in_err-free_empty_leaf-clause-fit : goal.returns-in_err-free_empty_leaf-clause-fit
returns-in_err-free_empty_leaf-clause-fit g c = λ own free list stands.
    let old = meant g.P.PageSource.pages c.args.space.now in
    let mid = meant g.P.PageSource.pages c.take_key.new.space in
    let left = without_key c.args.key.now list in
    let first : Becomes old mid c.args.root own free left = (c.in_ok-taken.ensures.removed own free list stands).1 in
    search (rules, c.in_err-free_empty_leaf.ensures.fit first.more first.spare left first.stands)

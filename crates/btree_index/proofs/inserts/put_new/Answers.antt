-- Pass after pass over one list.
use Rattle.std.proofs.Common.{◌≤◌, refl, ◌∙◌, subst, arith, rules}
use Rattle.page_workspace.specs.Drafts.{meant}
use Rattle.btree_index.specs.Pairs.{with_pair}
use Rattle.btree_index.specs.Changes.{IsPassed, Becomes}
use Rattle.btree_index.specs.declared.inserts.Pass.{Pass}
use Rattle.btree_index.proofs.FilledLemmas.{filled_after, filled_none}
use Rattle.btree_index.proofs.StandLemmas.{becomes_none, becomes_after}
use Rattle.btree_index.proofs.inserts.put_new.Goals as goal

pub passes-init : goal.passes-init
passes-init g c = record {
  becomes = λ own free list stands absent. becomes_none (meant g.P.PageSource.pages c.args.space.now) c.args.root own free list stands;
  filled = λ own free list stands absent. filled_none (meant g.P.PageSource.pages c.args.space.now) c.args.root;
  base = refl;
  losses = omega arith;
}

pub returns-in-Done-clause-put : goal.returns-in-Done-clause-put
returns-in-Done-clause-put g c = λ own free list stands absent.
    let old = meant g.P.PageSource.pages c.args.space.now in
    let now = meant g.P.PageSource.pages c.passes.space in
    let next = meant g.P.PageSource.pages c.pass_once.new.space in
    let before : Becomes old now c.args.root own free list = c.passes.invariant.becomes own free list stands absent in
    let done = subst (λ (p : Pass). IsPassed now next c.args.root before.more before.spare c.args.key.now c.args.value.now list p) c.in-Done.is
    (c.in_ok-came_to.ensures.passed before.more before.spare list before.stands absent) in
    becomes_after old now next c.args.root own free list (with_pair c.args.key.now c.args.value.now list) before done

pub passes-preserved : goal.passes-preserved
passes-preserved g c =
    let old = meant g.P.PageSource.pages c.args.space.now in
    let now = meant g.P.PageSource.pages c.passes.space in
    let next = meant g.P.PageSource.pages c.pass_once.new.space in
    let rose : g.P.PageSource.losses c.passes.space.base ≤ g.P.PageSource.losses c.pass_once.new.space.base = c.in_ok-came_to.ensures.excused in
    let earlier : g.P.PageSource.losses c.args.space.now.base ≤ g.P.PageSource.losses c.passes.space.base = c.passes.invariant.losses in
    record {
      becomes = λ own free list stands absent.
          (let before : Becomes old now c.args.root own free list = c.passes.invariant.becomes own free list stands absent in
          becomes_after old now next c.args.root own free list list before
          (subst (λ (p : Pass). IsPassed now next c.args.root before.more before.spare c.args.key.now c.args.value.now list p) c.in-Again.is
          (c.in_ok-came_to.ensures.passed before.more before.spare list before.stands absent)));
      filled = λ own free list stands absent.
          (let before : Becomes old now c.args.root own free list = c.passes.invariant.becomes own free list stands absent in
          filled_after old now next c.args.root (c.passes.invariant.filled own free list stands absent)
          (c.in_ok-came_to.ensures.filled before.more before.spare list before.stands));
      base = c.in_ok-came_to.ensures.base ∙ c.passes.invariant.base;
      losses = omega arith;
    }

pub returns-in_err-came_to-clause-fit : goal.returns-in_err-came_to-clause-fit
returns-in_err-came_to-clause-fit g c = λ own free list stands absent.
    let before : Becomes (meant g.P.PageSource.pages c.args.space.now) (meant g.P.PageSource.pages c.passes.space) c.args.root own free list =
    c.passes.invariant.becomes own free list stands absent in
    search (rules, c.in_err-came_to.ensures.fit before.more before.spare list before.stands)

pub returns-in-Done-clause-filled : goal.returns-in-Done-clause-filled
returns-in-Done-clause-filled g c = λ own free list stands absent.
    let old = meant g.P.PageSource.pages c.args.space.now in
    let now = meant g.P.PageSource.pages c.passes.space in
    let next = meant g.P.PageSource.pages c.pass_once.new.space in
    let before : Becomes old now c.args.root own free list = c.passes.invariant.becomes own free list stands absent in
    filled_after old now next c.args.root (c.passes.invariant.filled own free list stands absent)
    (c.in_ok-came_to.ensures.filled before.more before.spare list before.stands)

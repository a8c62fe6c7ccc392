-- One operation more, or none.
use Rattle.std.proofs.Common.{◌≡◌, ◌≤◌, refl, ◌∙◌, arith}
use Rattle.std.proofs.lemmas.List.{nil_from_length}
use Rattle.std.specs.Option.{option_copied}
use Rattle.page_workspace.specs.Drafts.{meant}
use Rattle.btree_index.proofs.FilledLemmas.{filled_after, filled_none}
use Rattle.table_store.specs.Operations.{gone, removed}
use Rattle.table_changes.proofs.ChangedLemmas.{begins, taken_more, taken_all}
use Rattle.table_changes.proofs.FreedLemmas.{pairs_more, pairs_none}
use Rattle.table_changes.proofs.takes.take_all.Goals as goal

pub ops-init : goal.ops-init
ops-init g c = record {
  becomes = λ own free list stands.
      begins (meant g.P.PageSource.pages c.args.space.now) c.args.root own free list
      (λ left. removed (option_copied c.args.key) (gone c.args.table c.args.ops.now) left ≡ removed (option_copied c.args.key) (gone c.args.table c.args.ops.now) list) stands refl;
  freed = λ new left. left;
  filled = λ own free list stands. filled_none (meant g.P.PageSource.pages c.args.space.now) c.args.root;
  base = refl;
  losses = omega arith;
}

pub ops-preserved : goal.ops-preserved
ops-preserved g c =
    let rose : g.P.PageSource.losses c.ops.space.base ≤ g.P.PageSource.losses c.take_one.new.space.base = c.in_ok-take_one.ensures.excused in
    let earlier : g.P.PageSource.losses c.args.space.now.base ≤ g.P.PageSource.losses c.ops.space.base = c.ops.invariant.losses in
    record {
      becomes = λ own free list stands.
          taken_more (meant g.P.PageSource.pages c.args.space.now) (meant g.P.PageSource.pages c.ops.space) (meant g.P.PageSource.pages c.take_one.new.space)
          c.args.root c.args.table own free (option_copied c.args.key) c.in-Some.op.now c.in-Some.others.now c.ops.rest.now _ c.in-Some.ensures.cases.0
          (c.ops.invariant.becomes own free list stands) c.in_ok-take_one.ensures.taken;
      freed = λ new left.
          c.ops.invariant.freed new (pairs_more (meant g.P.PageSource.pages c.ops.space) (meant g.P.PageSource.pages c.take_one.new.space) new
          c.args.root c.args.table (option_copied c.args.key) c.in-Some.op.now c.in-Some.others.now c.ops.rest.now c.in-Some.ensures.cases.0
          c.in_ok-take_one.ensures.freed left);
      filled = λ own free list stands.
          (let before = c.ops.invariant.becomes own free list stands in
          filled_after (meant g.P.PageSource.pages c.args.space.now) (meant g.P.PageSource.pages c.ops.space) (meant g.P.PageSource.pages c.take_one.new.space) c.args.root
          (c.ops.invariant.filled own free list stands)
          (c.in_ok-take_one.ensures.filled before.becomes.more before.becomes.spare before.list before.becomes.stands));
      base = c.in_ok-take_one.ensures.base ∙ c.ops.invariant.base;
      losses = omega arith;
    }

pub returns-clause-taken : goal.returns-clause-taken
returns-clause-taken g c = λ own free list stands.
    taken_all (meant g.P.PageSource.pages c.args.space.now) (meant g.P.PageSource.pages c.ops.space) c.args.root c.args.table own free (option_copied c.args.key)
    c.ops.rest.now _ (nil_from_length c.ops.rest.now c.in_default.ensures.cases) (c.ops.invariant.becomes own free list stands)

pub returns-clause-freed : goal.returns-clause-freed
returns-clause-freed g c =
    c.ops.invariant.freed (meant g.P.PageSource.pages c.ops.space) (pairs_none (meant g.P.PageSource.pages c.ops.space) c.args.root c.args.table (option_copied c.args.key)
    c.ops.rest.now (nil_from_length c.ops.rest.now c.in_default.ensures.cases))

pub returns-clause-filled : goal.returns-clause-filled
returns-clause-filled g c = λ own free list stands. c.ops.invariant.filled own free list stands

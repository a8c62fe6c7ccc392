-- One operation more, or none, or one that finds its key there.
use Rattle.std.proofs.Common.{◌≡◌, ◌≤◌, ◌<◌, ◌+◌, ◌^◌, ℕ, suc, List, length, sym, ap, ◌∙◌, subst, arith}
use Rattle.std.proofs.lemmas.List.{nil_from_length}
use Rattle.std.specs.List.{AllByRecursion}
use Rattle.std.specs.Option.{option_copied}
use Rattle.page_workspace.specs.Drafts.{meant}
use Rattle.btree_index.proofs.FilledLemmas.{filled_after}
use Rattle.cdb_values.specs.declared.rows.RowOp.{RowOp}
use Rattle.table_store.specs.Operations as ops
use Rattle.table_changes.specs.Changed.{BecomesSome, IsPuttable, next_of}
use Rattle.table_changes.proofs.ChangedLemmas.{put_more, put_stops, put_ends, fit_rest, next_few}
use Rattle.table_changes.proofs.puts.put_all.Goals as goal

pub returns-in-Err-clause-put : goal.returns-in-Err-clause-put
returns-in-Err-clause-put g c = λ own free list stands.
    put_stops (meant g.P.PageSource.pages c.args.space.now) (meant g.P.PageSource.pages c.ops.space) (meant g.P.PageSource.pages c.put_one.new.space)
    c.args.root c.args.table c.ops.genid own free (option_copied c.args.key) c.in-Some.op.now c.in-Some.others.now c.ops.rest.now _ c.in-Err.fault c.in-Some.ensures.cases.0
    (c.ops.invariant.becomes own free list stands) c.in-Err.ensures.put

pub ops-preserved : goal.ops-preserved
ops-preserved g c =
    let rose : g.P.PageSource.losses c.ops.space.base ≤ g.P.PageSource.losses c.put_one.new.space.base = c.in-Ok.ensures.excused in
    let earlier : g.P.PageSource.losses c.args.space.now.base ≤ g.P.PageSource.losses c.ops.space.base = c.ops.invariant.losses in
    let op : RowOp = c.in-Some.op.now in
    let others : List RowOp = c.in-Some.others.now in
    let next : c.next_genid-genid.result ≡ next_of c.ops.genid op = c.next_genid-genid.ensures in
    let more : next_of c.ops.genid op ≤ c.ops.genid + 1 = next_few c.ops.genid op in
    let long : length c.ops.rest.now ≡ suc (length others) = ap length c.in-Some.ensures.cases.0 in
    let few : c.ops.genid + length c.ops.rest.now < 2 ^ 64 = c.ops.invariant.few in
    record {
      becomes = λ own free list stands.
          subst (λ (n : ℕ). BecomesSome (meant g.P.PageSource.pages c.args.space.now) (meant g.P.PageSource.pages c.put_one.new.space) c.args.root own free
          (λ left. ops.put_all (option_copied c.args.key) (ops.born c.args.table n others) left ≡ ops.put_all (option_copied c.args.key) (ops.born c.args.table c.args.next c.args.ops.now) list)) (sym next)
          (put_more (meant g.P.PageSource.pages c.args.space.now) (meant g.P.PageSource.pages c.ops.space) (meant g.P.PageSource.pages c.put_one.new.space)
          c.args.root c.args.table c.ops.genid own free (option_copied c.args.key) op others c.ops.rest.now _ c.in-Some.ensures.cases.0
          (c.ops.invariant.becomes own free list stands) c.in-Ok.ensures.put);
      few = omega arith;
      fit = subst (λ (n : ℕ). AllByRecursion (IsPuttable (option_copied c.args.key)) (ops.born c.args.table n others)) (sym next)
          (fit_rest (option_copied c.args.key) c.args.table c.ops.genid op others c.ops.rest.now c.in-Some.ensures.cases.0 c.ops.invariant.fit);
      filled = λ own free list stands.
          (let before = c.ops.invariant.becomes own free list stands in
          filled_after (meant g.P.PageSource.pages c.args.space.now) (meant g.P.PageSource.pages c.ops.space) (meant g.P.PageSource.pages c.put_one.new.space) c.args.root
          (c.ops.invariant.filled own free list stands)
          (c.in-Ok.ensures.filled before.becomes.more before.becomes.spare before.list before.becomes.stands));
      base = c.in-Ok.ensures.base ∙ c.ops.invariant.base;
      losses = omega arith;
    }

pub returns-clause-put : goal.returns-clause-put
returns-clause-put g c = λ own free list stands.
    put_ends (meant g.P.PageSource.pages c.args.space.now) (meant g.P.PageSource.pages c.ops.space) c.args.root c.args.table c.ops.genid own free (option_copied c.args.key)
    c.ops.rest.now _ (nil_from_length c.ops.rest.now c.in_default.ensures.cases) (c.ops.invariant.becomes own free list stands)

pub returns-clause-filled : goal.returns-clause-filled
returns-clause-filled g c = λ own free list stands. c.ops.invariant.filled own free list stands

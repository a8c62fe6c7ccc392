-- One key more, or one where it stops, or none.
use Rattle.std.proofs.Common.{◌≡◌, ◌≤◌, ◌+◌, ◌++◌, suc, List, length, Some, refl, ap, ◌∙◌, subst, arith}
use Rattle.std.proofs.lemmas.List.{nil_from_length}
use Rattle.std.specs.List.{AllByRecursion}
use Rattle.page_workspace.specs.Drafts.{meant}
use Rattle.cdb_values.specs.declared.tables.KeyDef.{KeyDef}
use Rattle.table_store.specs.Operations.{born}
use Rattle.table_store.specs.Plans.{key_trees}
use Rattle.table_changes.specs.Changed.{IsPuttable}
use Rattle.table_edits.proofs.PassLemmas.{keys_begin, keys_more, keys_stop, keys_end}
use Rattle.table_edits.proofs.trees.change_keys.Goals as goal

pub keys-init : goal.keys-init
keys-init g c = record {
  done = λ start rows plan left known half.
      (let same : c.args.root ≡ c.args.root + 0 = omega arith in
      keys_begin start (meant g.P.PageSource.pages c.args.space.now) rows c.args.ops.now plan c.args.next c.args.root (c.args.root + 0) c.args.place c.args.keys.now left same half);
  count = omega arith;
  fit = c.requires.fit;
  base = refl;
  losses = omega arith;
}

pub keys-preserved : goal.keys-preserved
keys-preserved g c =
    let rose : g.P.PageSource.losses c.keys.space.base ≤ g.P.PageSource.losses c.change_key.new.space.base = c.in-Ok.ensures.excused in
    let earlier : g.P.PageSource.losses c.args.space.now.base ≤ g.P.PageSource.losses c.keys.space.base = c.keys.invariant.losses in
    let long : length c.keys.rest.now ≡ suc (length c.in-Some.others.now) = ap length c.in-Some.ensures.cases.0 in
    let count : c.keys.at + length c.keys.rest.now ≡ length c.args.keys.now = c.keys.invariant.count in
    let later : c.keys.at + 1 ≡ suc c.keys.at = omega arith in
    let after : (c.args.root + c.keys.at) + 1 ≡ c.args.root + (c.keys.at + 1) = omega arith in
    record {
      done = λ start rows plan left known half.
          keys_more start (meant g.P.PageSource.pages c.keys.space) (meant g.P.PageSource.pages c.change_key.new.space) rows c.args.ops.now plan c.args.next
          (c.args.root + c.keys.at) (c.args.root + (c.keys.at + 1)) c.args.place c.keys.at (c.keys.at + 1) c.in-Some.key.now c.in-Some.others.now c.keys.rest.now c.args.keys.now left
          c.in-Some.ensures.cases.0 later after (c.keys.invariant.done start rows plan left known half)
          (λ h. c.in-Ok.ensures.changed start rows plan (key_trees c.args.place c.in-Some.others.now ++ left) known h);
      count = omega (arith, long, count);
      fit = (subst (λ (ks : List KeyDef). AllByRecursion (λ key. AllByRecursion (IsPuttable (Some key)) (born c.args.place c.args.next c.args.ops.now)) ks) c.in-Some.ensures.cases.0 c.keys.invariant.fit).1;
      base = c.in-Ok.ensures.base ∙ c.keys.invariant.base;
      losses = omega (arith, rose, earlier);
    }

pub returns-in-Err-clause-changed : goal.returns-in-Err-clause-changed
returns-in-Err-clause-changed g c = λ start rows plan left known half.
    keys_stop start (meant g.P.PageSource.pages c.keys.space) (meant g.P.PageSource.pages c.change_key.new.space) rows c.args.ops.now plan c.args.next
    (c.args.root + c.keys.at) c.args.place c.keys.at c.in-Some.key.now c.in-Some.others.now c.keys.rest.now c.args.keys.now left _ _ c.in-Err.fault
    c.in-Some.ensures.cases.0 (c.keys.invariant.done start rows plan left known half)
    (λ h. c.in-Err.ensures.changed start rows plan (key_trees c.args.place c.in-Some.others.now ++ left) known h)

pub returns-clause-changed : goal.returns-clause-changed
returns-clause-changed g c = λ start rows plan left known half.
    keys_end start (meant g.P.PageSource.pages c.keys.space) rows c.args.ops.now plan c.args.next (c.args.root + c.keys.at) c.args.place c.keys.at c.keys.rest.now c.args.keys.now left
    (nil_from_length c.keys.rest.now c.in_default.ensures.cases) (c.keys.invariant.done start rows plan left known half)

use Rattle.std.proofs.Common.{◌≡◌, ℕ, List, length, refl, sym, ◌∙◌}
use Rattle.std.proofs.lemmas.Option.{slice_get_read}
use Rattle.std.specs.Prelude.{slice_get, Some}
use Rattle.cdb_values.specs.Rows.{takes}
use Rattle.cdb_values.specs.declared.rows.RowOp.{RowOp}
use Rattle.own_writes.proofs.PlaceLemmas.{passed_till, one_more, none_left, past_end}
use Rattle.own_writes.proofs.places.is_taken.Goals as goal

pub places-preserved : goal.places-preserved
places-preserved c =
    let ops : List RowOp = c.args.ops.now in
    let at : ℕ = c.next_place-at.result in
    let op : RowOp = c.in-Some.op.now in
    let there : slice_get ops at ≡ Some op = slice_get_read ops (length ops) at op refl c.in-Some.ensures.lookup.3.0 c.in-Some.ensures.lookup.1 in
    one_more (takes c.args.table c.args.genid) ops at op there (sym c.takes.ensures ∙ c.if-takes.false)
    (passed_till ops c.args.stamps.now c.args.marks.now c.args.table c.args.genid c.genid_mark-mark.result c.places.at at c.requires c.genid_mark-mark.ensures.mark c.places.invariant c.next_place-at.ensures.within c.next_place-at.ensures.behind c.next_place-at.ensures.passed)

pub returns-in_default : goal.returns-in_default
returns-in_default c =
    let ops : List RowOp = c.args.ops.now in
    let at : ℕ = c.next_place-at.result in
    sym (none_left (takes c.args.table c.args.genid) ops at (past_end at (length ops) c.in_default.ensures.lookup.0)
    (passed_till ops c.args.stamps.now c.args.marks.now c.args.table c.args.genid c.genid_mark-mark.result c.places.at at c.requires c.genid_mark-mark.ensures.mark c.places.invariant c.next_place-at.ensures.within c.next_place-at.ensures.behind c.next_place-at.ensures.passed))

pub returns : goal.returns
returns c = sym (none_left (takes c.args.table c.args.genid) c.args.ops.now c.places.at c.places-test.false c.places.invariant)

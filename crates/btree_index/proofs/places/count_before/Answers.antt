use Rattle.std.proofs.Common.{◌≡◌, ◌≤◌, length, arith}
use Rattle.btree_index.specs.Pairs.{place_in}
use Rattle.btree_index.proofs.FitLemmas.{place_within}
use Rattle.btree_index.proofs.PlaceLemmas.{half_above, half_up_to}
use Rattle.btree_index.proofs.places.count_before.Goals as goal

pub halving-init : goal.halving-init
halving-init c =
    let all : c.count-high.result ≡ length c.args.page.now.cells = c.count-high.ensures in
    let within : place_in c.args.key.now c.args.page.now.cells ≤ length c.args.page.now.cells = place_within c.args.key.now c.args.page.now.cells in
    record { ordered = omega arith; most = omega arith; from = λ up. omega arith; to = omega arith }

pub halving-preserved-then-is_cell_before : goal.halving-preserved-then-is_cell_before
halving-preserved-then-is_cell_before c = record {
  ordered = omega arith;
  most = c.halving.invariant.most;
  from = half_above c.args.key.now c.args.page.now.cells c.halving.low c.halving.high c.is_cell_before.result (omega arith) c.halving.invariant.most
      c.is_cell_before.ensures c.if-is_cell_before.true;
  to = c.halving.invariant.to;
}

pub halving-preserved : goal.halving-preserved
halving-preserved c = record {
  ordered = omega arith;
  most = omega arith;
  from = c.halving.invariant.from;
  to = half_up_to c.args.key.now c.args.page.now.cells c.halving.low c.halving.high c.is_cell_before.result (omega arith) c.halving.invariant.most
      c.is_cell_before.ensures c.if-is_cell_before.false;
}

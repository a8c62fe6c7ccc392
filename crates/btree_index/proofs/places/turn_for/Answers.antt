use Rattle.std.proofs.Common.{◌≡◌, ◌-◌, ℕ, true, false, length, drop, sym, ap, ◌∙◌, arith}
use Rattle.std.specs.List.{slice_get}
use Rattle.btree_index.specs.Pairs.{is_above, middle}
use Rattle.btree_index.proofs.ChoiceLemmas.{behind_length, get_behind, halving_begins, halving_down, halving_up, halving_ends}
use Rattle.btree_index.proofs.places.turn_for.Goals as goal

pub halving-init : goal.halving-init
halving-init c =
    let all : c.saturating_sub-high.result ≡ length (drop 1 c.args.page.now.cells) =
    c.saturating_sub-high.ensures ∙ ap (λ (n : ℕ). n - 1) c.count.ensures ∙ sym (behind_length c.args.page.now.cells) in
    record { ordered = omega arith; most = omega arith; sought = halving_begins c.args.key.now (drop 1 c.args.page.now.cells) c.saturating_sub-high.result all }

pub halving-preserved-then-is_cell_above : goal.halving-preserved-then-is_cell_above
halving-preserved-then-is_cell_above c =
    let above : is_above c.args.key.now (slice_get (drop 1 c.args.page.now.cells) (middle c.halving.low c.halving.high)) ≡ true =
    ap (is_above c.args.key.now) (get_behind c.args.page.now.cells (middle c.halving.low c.halving.high)) ∙ sym c.is_cell_above.ensures ∙ c.if-is_cell_above.true in
    record {
      ordered = omega arith;
      most = omega arith;
      sought = halving_down c.args.key.now (drop 1 c.args.page.now.cells) c.halving.low c.halving.high c.halving-test.true above c.halving.invariant.sought;
    }

pub halving-preserved : goal.halving-preserved
halving-preserved c =
    let above : is_above c.args.key.now (slice_get (drop 1 c.args.page.now.cells) (middle c.halving.low c.halving.high)) ≡ false =
    ap (is_above c.args.key.now) (get_behind c.args.page.now.cells (middle c.halving.low c.halving.high)) ∙ sym c.is_cell_above.ensures ∙ c.if-is_cell_above.false in
    record {
      ordered = omega arith;
      most = c.halving.invariant.most;
      sought = halving_up c.args.key.now (drop 1 c.args.page.now.cells) c.halving.low c.halving.high c.halving-test.true above c.halving.invariant.sought;
    }

pub returns : goal.returns
returns c = halving_ends c.args.key.now (drop 1 c.args.page.now.cells) c.halving.low c.halving.high c.halving-test.false c.halving.invariant.sought

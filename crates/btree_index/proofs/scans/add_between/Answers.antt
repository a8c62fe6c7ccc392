use Rattle.std.proofs.Common.{◌≡◌, ◌≤◌, ℕ, List, ◌++◌, map, drop, true, false, sym, ap, ◌∙◌, arith}
use Rattle.std.specs.Prelude.{option_copied}
use Rattle.btree_index.specs.Keys.{Key}
use Rattle.btree_index.specs.Cells.{key_of_cell}
use Rattle.btree_index.specs.Pairs.{between, is_below, place_in}
use Rattle.btree_index.specs.Trees.{pair_of}
use Rattle.btree_index.proofs.RowLemmas.{beyond_here}
use Rattle.btree_index.proofs.PlaceLemmas.{between_from, between_next, between_none, between_end}
use Rattle.btree_index.proofs.scans.add_between.Goals as goal

pub adding-init : goal.adding-init
adding-init c = record {
  from = λ up. (let at : c.count_before-at.result ≡ place_in c.args.low.now c.args.page.now.cells = c.count_before-at.ensures.place up in omega arith);
  pairs = λ up.
      ap (λ (l : List (Key × List ℕ)). c.args.found.now.items ++ l)
      (ap (λ (n : ℕ). between c.args.low.now (option_copied c.args.high) (map pair_of (drop n c.args.page.now.cells))) (c.count_before-at.ensures.place up)
      ∙ sym (between_from c.args.low.now (option_copied c.args.high) c.args.page.now.cells));
}

pub returns-in_default-clause-pairs : goal.returns-in_default-clause-pairs
returns-in_default-clause-pairs c = λ up.
    between_none c.args.low.now (option_copied c.args.high) c.args.page.now.cells c.adding.at c.adding.found.items _ c.in_default.ensures (c.adding.invariant.pairs up)

pub returns-then-not-is_key_below-clause-pairs : goal.returns-then-not-is_key_below-clause-pairs
returns-then-not-is_key_below-clause-pairs c = λ up.
    let past : is_below (option_copied c.args.high) (key_of_cell c.in-Some.cell.now) ≡ false =
    ap (is_below (option_copied c.args.high)) (sym c.key_in.ensures) ∙ sym c.is_key_below.ensures ∙ c.if-not-is_key_below.true in
    between_end c.args.low.now (option_copied c.args.high) c.args.page.now.cells c.adding.at c.in-Some.cell.now c.adding.found.items _ up c.in-Some.ensures past
    (c.adding.invariant.pairs up)

pub returns-then-not-is_key_below-clause-beyond : goal.returns-then-not-is_key_below-clause-beyond
returns-then-not-is_key_below-clause-beyond c = λ stops.
    let past : is_below (option_copied c.args.high) (key_of_cell c.in-Some.cell.now) ≡ false =
    ap (is_below (option_copied c.args.high)) (sym c.key_in.ensures) ∙ sym c.is_key_below.ensures ∙ c.if-not-is_key_below.true in
    beyond_here (option_copied c.args.high) c.args.page.now.cells c.adding.at c.in-Some.cell.now c.in-Some.ensures past

pub adding-preserved : goal.adding-preserved
adding-preserved c =
    let below : is_below (option_copied c.args.high) (key_of_cell c.in-Some.cell.now) ≡ true =
    ap (is_below (option_copied c.args.high)) (sym c.key_in.ensures) ∙ sym c.is_key_below.ensures ∙ c.if-not-is_key_below.false in
    record {
      from = λ up. (let so_far : place_in c.args.low.now c.args.page.now.cells ≤ c.adding.at = c.adding.invariant.from up in omega arith);
      pairs = λ up.
          between_next c.args.low.now (option_copied c.args.high) c.args.page.now.cells c.adding.at c.in-Some.cell.now c.adding.found.items c.add_cell.new.found.items _ up
          c.in-Some.ensures (c.adding.invariant.from up) below c.in_ok-add_cell.ensures (c.adding.invariant.pairs up);
    }

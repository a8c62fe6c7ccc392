-- In order, each genid stands once, and none is lost.
use Rattle.std.proofs.lemmas.List.Filters.{dedup_is}
use Rattle.std.proofs.lemmas.List.Kept.{Contains-dedup_nat}
use Rattle.std.proofs.lemmas.List.Sorted.{Contains-permutation}
use Rattle.std.proofs.lemmas.Map.Keys.{IsStrictlyIncreasing-dedup}
use Rattle.page_rows.proofs.GenidLemmas.{increasing_rise, in_contains, contains_in}
use Rattle.page_rows.proofs.genids.genids_in.Goals as goal

pub returns : goal.returns
returns c =
    let is = dedup_is _ _ _ c.dedup.ensures.filtered in
    record {
      rising = rw is (increasing_rise _ (IsStrictlyIncreasing-dedup _ c.sort_unstable.ensures.sorted));
      has = λ genid code small i.
          rw is (contains_in genid _ (Contains-dedup_nat _ genid (Contains-permutation _ _ genid c.sort_unstable.ensures.permutation
          (in_contains genid _ (c.in_ok-genids.ensures genid code small i)))));
    }

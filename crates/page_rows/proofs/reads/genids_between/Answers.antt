-- The pair of each version in the interval is among those that are scanned.
use Rattle.std.proofs.Common.{◌≡◌, ℕ, List, Some, ap, ◌∙◌, subst, sym}
use Rattle.byteorder.specs.Endian.{big_bytes}
use Rattle.btree_index.specs.Pairs.{between}
use Rattle.query_plan.specs.Views.{interval_in}
use Rattle.table_store.specs.Forests.{Pair}
use Rattle.table_store.specs.Listings.{IsAmong, keyed}
use Rattle.page_rows.proofs.ReadLemmas.{between_covers}
use Rattle.page_rows.proofs.reads.genids_between.Goals as goal

pub returns-in-Ok-genids_in-clause-covers : goal.returns-in-Ok-genids_in-clause-covers
returns-in-Ok-genids_in-clause-covers g c = λ versions t r.
    let pairs : c.as_slice-3.result.now ≡ between c.in-Ok.ends.low.items (Some c.in-Ok.ends.high.items) t.list =
    c.as_slice-3.ensures.value ∙ c.in_ok-pairs.ensures.found t.list t.tree
    ∙ ap (λ (k : List ℕ). between k (Some c.as_slice-2.result.now) t.list) c.as_slice.ensures.value
    ∙ ap (λ (k : List ℕ). between c.in-Ok.ends.low.items (Some k) t.list) c.as_slice-2.ensures.value in
    between_covers c.args.key.now (interval_in c.args.interval.now) c.in-Ok.ends.low.items c.in-Ok.ends.high.items versions t.list c.in-Ok-genids_in.genids.items
    c.in-Ok.ensures t.lists r.each (λ genid code small i.
    c.in-Ok-genids_in.ensures.has genid code small
    (subst (λ (l : List Pair). IsAmong (keyed c.args.key.now.unique code (big_bytes 8 genid)) l) (sym pairs) i))

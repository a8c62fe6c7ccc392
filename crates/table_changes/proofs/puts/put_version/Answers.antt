-- What `insert` answers is what putting one version comes to.
use Rattle.std.proofs.Common.{◌≡◌, ap, ◌∙◌}
use Rattle.std.specs.Option.{option_copied}
use Rattle.page_workspace.specs.Drafts.{meant}
use Rattle.btree_index.proofs.FindLemmas.{ok_before, if_ok}
use Rattle.cdb_values.specs.Rows.{version}
use Rattle.table_store.specs.Forests.{Pair}
use Rattle.table_store.specs.Listings.{pair_of_version}
use Rattle.table_changes.proofs.ChangedLemmas.{one_put}
use Rattle.table_changes.proofs.puts.put_version.Goals as goal

pub returns-clause-put : goal.returns-clause-put
returns-clause-put g c = λ own free list stands.
    let pair : Pair = pair_of_version (option_copied c.args.key) (version c.args.genid c.args.row.now) in
    let is : ◌≡◌ {A = Pair} (c.in_ok-key.key, c.in_ok-key.value) pair =
    if_ok c.pair_for.result _ (λ p. p ≡ pair) c.pair_for.ensures (ok_before c.pair_for.result c.map_err.result _ _ c.map_err.ensures.cases c.in_ok-key.was) in
    one_put (meant g.P.PageSource.pages c.args.space.now) (meant g.P.PageSource.pages c.insert.new.space) c.args.root own free c.as_bytes.result.now c.as_bytes-2.result.now pair list c.insert.result
    (c.as_bytes.ensures ∙ ap (λ (p : Pair). p.0) is) (c.as_bytes-2.ensures ∙ ap (λ (p : Pair). p.1) is) (c.insert.ensures.inserted own free list stands)

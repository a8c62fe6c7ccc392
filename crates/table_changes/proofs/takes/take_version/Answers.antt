-- What `remove_and_free` leaves is what taking one version comes to.
use Rattle.std.proofs.Common.{◌≡◌, List, ℕ, ◌∙◌}
use Rattle.std.specs.Option.{option_copied}
use Rattle.page_workspace.specs.Drafts.{meant}
use Rattle.btree_index.proofs.FindLemmas.{ok_before, if_ok}
use Rattle.cdb_values.specs.Rows.{version}
use Rattle.table_store.specs.Listings.{pair_of_version}
use Rattle.table_changes.proofs.FreedLemmas.{pair_taken}
use Rattle.table_changes.proofs.takes.take_version.Goals as goal

pub returns-clause-freed : goal.returns-clause-freed
returns-clause-freed g c =
    let v = version c.args.genid c.args.row.now in
    let is : c.in_ok-key.key ≡ (pair_of_version (option_copied c.args.key) v).0 =
    if_ok c.key_for.result _ (λ (k : List ℕ). k ≡ (pair_of_version (option_copied c.args.key) v).0) c.key_for.ensures
    (ok_before c.key_for.result c.map_err.result _ _ c.map_err.ensures.cases c.in_ok-key.was) in
    pair_taken (meant g.P.PageSource.pages c.args.space.now) _ c.args.root (option_copied c.args.key) v
    c.as_bytes.result.now (c.as_bytes.ensures ∙ is) (λ own free list stands. (c.in_ok-_was.ensures.removed own free list stands).1)
    (λ own free list stands there. c.in_ok-_was.ensures.gone own free list stands ((c.in_ok-_was.ensures.removed own free list stands).0 ∙ there))

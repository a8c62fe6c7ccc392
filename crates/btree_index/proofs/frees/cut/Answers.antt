use Rattle.std.proofs.Common.{rules}
use Rattle.page_workspace.specs.Drafts.{meant}
use Rattle.btree_index.proofs.PruneLemmas.{ok_when, on_ok}
use Rattle.btree_index.proofs.frees.cut.Goals as goal

pub returns-clause-cut : goal.returns-clause-cut
returns-clause-cut g c =
    ok_when c.free_from.result (λ x e. (
      meant g.P.PageSource.pages c.unlink.new.space,
      c.in_ok-unlink.ensures.unlinked,
      λ height root own free list stands lone stray. on_ok c.free_from.result x e (c.free_from.ensures.freed height root own free list stands lone stray),
    ))

pub returns-in_err-unlink-clause-fit : goal.returns-in_err-unlink-clause-fit
returns-in_err-unlink-clause-fit g c = λ able free. search (rules, c.in_err-unlink.ensures.fit able)

pub returns-clause-fit : goal.returns-clause-fit
returns-clause-fit g c = λ able free. c.free_from.ensures.fit (free (meant g.P.PageSource.pages c.unlink.new.space) c.in_ok-unlink.ensures.unlinked)

use Rattle.std.proofs.Common.{ℕ, subst}
use Rattle.page_store.specs.Image.{Image}
use Rattle.page_workspace.specs.Drafts.{meant}
use Rattle.page_workspace.specs.Metas.{SetsMeta}
use Rattle.table_edits.proofs.GenidLemmas.{sets, after_ok}
use Rattle.table_edits.proofs.genids.swap_genid.Goals as goal

pub returns-clause-set : goal.returns-clause-set
returns-clause-set g c =
    let pages = g.P.PageSource.pages in
    let m = c.in_ok-meta.meta in
    let now = meant pages c.set_meta.new.self in
    after_ok c.set_meta.result _ _
    (λ (set : SetsMeta (meant pages c.meta.new.self) now (record { next = c.args.genid; count = m.count; free = m.free })).
    sets (meant pages c.args.space.now) now m c.args.genid c.in_ok-meta.ensures.told
    (subst (λ (p : ℕ → Image). SetsMeta p now (record { next = c.args.genid; count = m.count; free = m.free })) c.in_ok-meta.ensures.pages set))
    c.set_meta.ensures.set

-- The pair was put, or its key was there.
use Rattle.std.proofs.Common.{Bool, subst}
use Rattle.page_workspace.specs.Drafts.{meant}
use Rattle.btree_index.specs.Changes.{IsPutAbsent}
use Rattle.btree_index.proofs.inserts.insert.Goals as goal

pub returns-then-put-clause-inserted : goal.returns-then-put-clause-inserted
returns-then-put-clause-inserted g c = λ own free list stands.
    let old = meant g.P.PageSource.pages c.args.space.now in
    let new = meant g.P.PageSource.pages c.put_absent.new.space in
    let R : Bool → Type 0 = λ put. IsPutAbsent old new c.args.root own free c.args.key.now c.args.value.now list put in
    subst R c.if-put.true (c.in-Ok.ensures.put own free list stands)

pub returns-else-put-clause-inserted : goal.returns-else-put-clause-inserted
returns-else-put-clause-inserted g c = λ own free list stands.
    let old = meant g.P.PageSource.pages c.args.space.now in
    let new = meant g.P.PageSource.pages c.put_absent.new.space in
    let R : Bool → Type 0 = λ put. IsPutAbsent old new c.args.root own free c.args.key.now c.args.value.now list put in
    subst R c.if-put.false (c.in-Ok.ensures.put own free list stands)

use Rattle.std.proofs.Common.{rules, ◌≡◌, ◌++◌, ◌∷◌, [], length, arith, sym, ap, subst, ◌∙◌}
use Rattle.blkseq_table.specs.Known.{Known, known_at}
use Rattle.phys_log.specs.declared.requests.Decision.{Decision}
use Rattle.std.specs.Prelude.{List}
use Rattle.node_commits.specs.Ledgers.{AreNumbered, Book, IsUntold, settlement, told_of}
use Rattle.node_commits.proofs.LedgerLaws.{below_next, numbered_more, told_more, unnumbered}
use Rattle.node_commits.proofs.ledgers.Ledger.keep.Goals as goal

pub insert-requires-clause-absent : goal.insert-requires-clause-absent
insert-requires-clause-absent c =
    let none : IsUntold (told_of c.self.inside.settled c.self.inside.decisions.items) c.args.id = subst (λ t. IsUntold t c.args.id) (sym (ap (λ (b : Book). b.told) c.self.view_is)) c.requires.untold in
    unnumbered 0 c.self.inside.settled c.self.inside.decisions.items c.args.id c.self.invariant none

pub insert-requires-clause-above : goal.insert-requires-clause-above
insert-requires-clause-above c =
    let n : c.len-number.result ≡ length c.self.inside.decisions.items = search rules in
    below_next 0 c.len-number.result c.self.inside.settled c.self.inside.decisions.items c.self.invariant (omega arith)

pub invariant_of-self-2 : goal.invariant_of-self-2
invariant_of-self-2 c =
    let n : c.len-number.result ≡ length c.self.inside.decisions.items = search rules in
    let put : c.push.new.self.items ≡ c.self.inside.decisions.items ++ c.args.decision ∷ [] = search rules in
    subst (λ (ks : List Known). AreNumbered 0 ks c.push.new.self.items) (sym c.in_ok-insert.ensures.last)
    (subst (λ (ds : List Decision). AreNumbered 0 (c.self.inside.settled ++ known_at c.args.id c.len-number.result ∷ []) ds) (sym put)
    (numbered_more 0 c.len-number.result c.self.inside.settled c.self.inside.decisions.items c.args.id c.args.decision c.self.invariant (omega arith)))

pub returns-clause-told : goal.returns-clause-told
returns-clause-told c =
    let put : c.push.new.self.items ≡ c.self.inside.decisions.items ++ c.args.decision ∷ [] = search rules in
    ap (λ (ks : List Known). told_of ks c.push.new.self.items) c.in_ok-insert.ensures.last
    ∙ (ap (λ (ds : List Decision). told_of (c.self.inside.settled ++ known_at c.args.id c.len-number.result ∷ []) ds) put
    ∙ (told_more 0 c.len-number.result c.self.inside.settled c.self.inside.decisions.items c.args.id c.args.decision c.self.invariant
    ∙ ap (λ (b : Book). b.told ++ settlement c.args.id c.args.decision ∷ []) c.self.view_is))

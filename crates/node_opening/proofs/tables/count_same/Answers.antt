use Rattle.std.proofs.Common.{sym, ◌∙◌}
use Rattle.std.proofs.lemmas.Bool.{false≢true}
use Rattle.node_opening.proofs.TableLemmas.{first_more, first_ends}
use Rattle.node_opening.proofs.tables.count_same.Goals as goal

pub tables-preserved : goal.tables-preserved
tables-preserved c =
    first_more c.args.given.now c.args.logged.now c.tables.same (c.is_same_at.ensures.0 c.tables-test.true) c.tables.invariant

pub returns : goal.returns
returns c =
    first_ends c.args.given.now c.args.logged.now c.tables.same
    (λ at. absurd (false≢true (sym c.tables-test.false ∙ c.is_same_at.ensures.1 at))) c.tables.invariant

use Rattle.std.proofs.Common.{◌++◌, ◌∷◌, [], sym, ap, subst, ◌∙◌}
use Rattle.blkseq_table.specs.Known.{known_at, IsAbsent}
use Rattle.phys_log.specs.declared.entries.CommitId.{CommitId}
use Rattle.node_commits.proofs.IndexLaws.{is_absent, is_among}
use Rattle.node_commits.proofs.indexes.put.Goals as goal

pub returns-then-is_some : goal.returns-then-is_some
returns-then-is_some c = λ absent. is_among c.args.known.now c.args.id.now c.lookup.result (sym c.is_some.ensures ∙ c.if-is_some.true) c.lookup.ensures.found absent.0

pub insert-requires-clause-absent : goal.insert-requires-clause-absent
insert-requires-clause-absent c =
    subst (λ (i : CommitId). IsAbsent c.args.known.now i) (sym c.in_ok-its.ensures)
    (is_absent c.args.known.now c.args.id.now c.lookup.result (sym c.is_some.ensures ∙ c.if-is_some.false) c.lookup.ensures.none)

pub returns : goal.returns
returns c = (
  (is_absent c.args.known.now c.args.id.now c.lookup.result (sym c.is_some.ensures ∙ c.if-is_some.false) c.lookup.ensures.none, tt),
  c.in_ok-insert.ensures.last ∙ ap (λ (i : CommitId). c.args.known.now ++ known_at i c.args.position ∷ []) c.in_ok-its.ensures,
)

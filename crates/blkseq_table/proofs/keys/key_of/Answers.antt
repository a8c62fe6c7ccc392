use Rattle.std.proofs.Common.{sym, subst}
use Rattle.blkseq_table.specs.declared.keys.NumberedId.{NumberedId}
use Rattle.blkseq_table.specs.Kept.{IsKeyOf}
use Rattle.blkseq_table.proofs.KeyLemmas.{no_session, key_found}
use Rattle.blkseq_table.proofs.keys.key_of.Goals as goal

pub returns-in_err-session-clause-none : goal.returns-in_err-session-clause-none
returns-in_err-session-clause-none c =
    λ _. no_session c.args.sessions.now.keys c.as_bytes.result.now c.args.id.now.session c.as_bytes.ensures (sym c.in_err-session.ensures.found)

pub returns-clause-named : goal.returns-clause-named
returns-clause-named c =
    subst (λ (key : NumberedId). IsKeyOf c.args.sessions.now.keys key c.args.id.now) (sym c.of.ensures)
    (key_found c.args.sessions.now.keys c.args.id.now c.as_bytes.result.now c.in_ok-session.session c.as_bytes.ensures (sym c.in_ok-session.ensures.index))

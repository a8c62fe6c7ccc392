-- What is read is a part and the end behind it.
use Rattle.std.proofs.Common.{[], sym, subst}
use Rattle.std.proofs.lemmas.Result.{err_from_is_err_and}
use Rattle.grammar_forms.specs.Forms.{only}
use Rattle.sql_grammar.specs.Views.{statement_in}
use Rattle.sql_grammar.specs.Readers.{one_r, statement_r, closed}
use Rattle.sql_reader.specs.Gives.{Gives}
use Rattle.sql_reader.proofs.WholeLemmas.{with_end, part_fails}
use Rattle.sql_reader.proofs.statements.statement.Goals as goal

pub returns-in_err-found : goal.returns-in_err-found
unfolding statement_r
returns-in_err-found c =
    let stop = err_from_is_err_and c.from_residual.result c.from_residual.ensures.1 in
    rw (stop.1, stop.2) (part_fails one_r c.args.tokens.now c.in_err-found.field-0.0 c.in_err-found.ensures)

pub returns : goal.returns
unfolding statement_r
returns c = subst (λ o. Gives statement_in (λ _. []) o (only (closed one_r c.args.tokens.now))) (sym c.and.ensures) (with_end one_r c.args.tokens.now statement_in c.in_ok-found.found c.in_ok-found.rest.now c.in_ok-found.ensures c.end.result c.end.ensures)

-- What is read is a part and the end behind it.
use Rattle.std.proofs.Common.{[], sym, subst}
use Rattle.std.proofs.lemmas.Result.{err_from_is_err_and}
use Rattle.grammar_forms.specs.Forms.{only}
use Rattle.sql_grammar.specs.Views.{definition_in}
use Rattle.sql_grammar.specs.Readers.{table_r, create_r, closed}
use Rattle.sql_reader.specs.Gives.{Gives}
use Rattle.sql_reader.proofs.WholeLemmas.{with_end, part_fails}
use Rattle.sql_reader.proofs.statements.definition.Goals as goal

pub returns-in_err-found : goal.returns-in_err-found
unfolding create_r
returns-in_err-found c =
    let stop = err_from_is_err_and c.from_residual.result c.from_residual.ensures.1 in
    rw (stop.1, stop.2) (part_fails table_r c.args.tokens.now c.in_err-found.field-0.0 c.in_err-found.ensures)

pub returns : goal.returns
unfolding create_r
returns c = subst (λ o. Gives definition_in (λ _. []) o (only (closed table_r c.args.tokens.now))) (sym c.and.ensures) (with_end table_r c.args.tokens.now definition_in c.in_ok-found.found c.in_ok-found.rest.now c.in_ok-found.ensures c.end.result c.end.ensures)

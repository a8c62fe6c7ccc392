use Rattle.std.proofs.Common.{Err, subst}
use Rattle.sql_grammar.specs.Views.{definition_in}
use Rattle.sql_reader.specs.Promise.{ReadsAs}
use Rattle.table_read.proofs.ReadingLemmas.{is_found, none_found}
use Rattle.table_read.proofs.reading.definition.Goals as goal

pub returns-in-Ok : goal.returns-in-Ok
returns-in-Ok c = is_found c.args.text.now (definition_in c.in-Ok.found) c.in-Ok.ensures.found

pub returns-in-Err-Syntax : goal.returns-in-Err-Syntax
returns-in-Err-Syntax c = none_found c.args.text.now (λ x p. subst (λ e. ReadsAs definition_in x (Err e)) c.in-Err-Syntax.field-0-is (c.in-Err-Syntax.ensures.only x p))

-- The four clauses of a text that was cut into tokens, by what the exact reader finds in them.
use Rattle.std.proofs.Common.{sym, ap, subst, ◌∙◌}
use Rattle.grammar_forms.specs.Forms.{only}
use Rattle.sql_grammar.specs.Grammar.{CreateS}
use Rattle.sql_grammar.specs.Readers.{create_r}
use Rattle.sql_grammar.specs.Views.{definition_in}
use Rattle.sql_grammar.proofs.StatementLaws.{exact_create}
use Rattle.sql_reader.specs.Gives.{Fails}
use Rattle.sql_reader.proofs.TopLaws.{one_reading, found, no_refusal, stops_right, answers_ok, answers_stop, refuses_stop}
use Rattle.sql_reader.proofs.read_create.Goals as goal

pub returns-in_default-clause-one_reading : goal.returns-in_default-clause-one_reading
returns-in_default-clause-one_reading c = one_reading CreateS create_r exact_create c.args.text.now

pub returns-in-Ok-definition-clause-found : goal.returns-in-Ok-definition-clause-found
returns-in-Ok-definition-clause-found c =
    found CreateS create_r exact_create c.args.text.now c.in-Ok.spots c.in-Ok.ensures (definition_in c.in-Ok-definition.found)
    (ap (λ l. only (create_r l)) (sym c.tokens-2.ensures) ∙ c.in-Ok-definition.ensures)

pub returns-in-Ok-definition-clause-only : goal.returns-in-Ok-definition-clause-only
returns-in-Ok-definition-clause-only c x =
    answers_ok CreateS create_r exact_create c.args.text.now c.in-Ok.spots c.in-Ok.ensures definition_in c.in-Ok-definition.found x
    (ap (λ l. only (create_r l)) (sym c.tokens-2.ensures) ∙ c.in-Ok-definition.ensures)

pub returns-in-Ok-definition-clause-one_reading : goal.returns-in-Ok-definition-clause-one_reading
returns-in-Ok-definition-clause-one_reading c = one_reading CreateS create_r exact_create c.args.text.now

pub returns-in-Ok-definition-clause-only_refused : goal.returns-in-Ok-definition-clause-only_refused
returns-in-Ok-definition-clause-only_refused c at =
    no_refusal CreateS create_r exact_create c.args.text.now c.in-Ok.spots c.in-Ok.ensures (definition_in c.in-Ok-definition.found) at
    (ap (λ l. only (create_r l)) (sym c.tokens-2.ensures) ∙ c.in-Ok-definition.ensures)

pub returns-clause-only : goal.returns-clause-only
returns-clause-only c x =
    answers_stop CreateS create_r exact_create c.args.text.now c.in-Ok.spots c.in-Ok.ensures definition_in c.in-Err.stop c.stopped.result x
    (subst (λ l. Fails c.in-Err.stop (only (create_r l))) c.tokens-2.ensures c.in-Err.ensures) c.stopped.ensures

pub returns-clause-one_reading : goal.returns-clause-one_reading
returns-clause-one_reading c = one_reading CreateS create_r exact_create c.args.text.now

pub returns-clause-refused : goal.returns-clause-refused
returns-clause-refused c =
    stops_right CreateS create_r exact_create c.args.text.now c.in-Ok.spots c.in-Ok.ensures definition_in c.in-Err.stop c.stopped.result
    (subst (λ l. Fails c.in-Err.stop (only (create_r l))) c.tokens-2.ensures c.in-Err.ensures) c.stopped.ensures

pub returns-clause-only_refused : goal.returns-clause-only_refused
returns-clause-only_refused c at =
    refuses_stop CreateS create_r exact_create c.args.text.now c.in-Ok.spots c.in-Ok.ensures definition_in c.in-Err.stop c.stopped.result at
    (subst (λ l. Fails c.in-Err.stop (only (create_r l))) c.tokens-2.ensures c.in-Err.ensures) c.stopped.ensures

use Rattle.std.proofs.Common.{sym, ap, ◌∙◌}
use Rattle.cdb_values.specs.declared.values.Value.TheVariants as values
use Rattle.sql_grammar.specs.Views.{literal_in}
use Rattle.sql_bind.specs.Meaning.{value_of}
use Rattle.sql_bind.proofs.conditions.value.Goals as goal

pub returns-in-Null : goal.returns-in-Null
returns-in-Null c = ap (λ l. value_of (literal_in l)) (sym c.in-Null.is)

pub returns-in_ok-copied-in-Text : goal.returns-in_ok-copied-in-Text
returns-in_ok-copied-in-Text c = ap values.Text (c.in_ok-copied-in-Text.ensures ∙ c.as_bytes.ensures) ∙ ap (λ l. value_of (literal_in l)) (sym c.in-Text.is)

pub returns-in_ok-copied-in-Blob : goal.returns-in_ok-copied-in-Blob
returns-in_ok-copied-in-Blob c = ap values.Blob (c.in_ok-copied-in-Blob.ensures ∙ c.as_bytes-in-Blob.ensures) ∙ ap (λ l. value_of (literal_in l)) (sym c.in-Blob.is)

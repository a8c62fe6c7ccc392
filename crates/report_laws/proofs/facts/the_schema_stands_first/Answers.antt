use Rattle.report_laws.proofs.LawLemmas.{schema_first, schema_or_none, schema_unhurt}
use Rattle.report_laws.proofs.facts.the_schema_stands_first.Goals as goal

pub returns : goal.returns
returns c = record { first = schema_unhurt; behind = schema_first; none = schema_or_none }

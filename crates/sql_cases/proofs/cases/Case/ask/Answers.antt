use Rattle.std.proofs.lemmas.Str.{is_utf8-from_IsUtf8}
use Rattle.sql_cases.proofs.cases.Case.ask.Goals as goal

pub statement_text-requires-clause-utf8 : goal.statement_text-requires-clause-utf8
statement_text-requires-clause-utf8 c = is_utf8-from_IsUtf8 c.as_bytes.result.now c.as_bytes.ensures.utf8

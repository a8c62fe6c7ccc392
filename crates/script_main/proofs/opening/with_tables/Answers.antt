use Rattle.std.proofs.Common.{map}
use Rattle.log_rows.specs.History.{tables_of}
use Rattle.script_main.proofs.ScriptLemmas.{with_lines}
use Rattle.script_main.specs.Stores.{unsaid}
use Rattle.script_main.proofs.opening.with_tables.Goals as goal

pub returns : goal.returns
returns c =
    with_lines c.args.script.now c.in_ok-whole.whole c.in_ok-tables.tables (map unsaid (tables_of c.args.log.now)) c.in_ok-whole.ensures c.in_ok-tables.ensures

-- the rows that the pages of the log stand for
use Rattle.script_main.proofs.KnownLemmas.{known_rows}
use Rattle.script_main.specs.Steps.{log_before}
use Rattle.script_main.specs.Stores.{start_at}
use Rattle.script_main.proofs.opening.play_begun.Given as goal

abbrev pub ghost-play_from : goal.ghost-play_from
ghost-play_from g a = start_at (log_before a.begun.base a.begun.log) (known_rows a.begun.base a.begun.log a.begun.known)

-- the log begins with the run
use Rattle.log_rows.specs.History.{no_ground}
use Rattle.log_tests.proofs.begun.decided.Given as goal

abbrev pub ghost-decide : goal.ghost-decide
ghost-decide a = no_ground

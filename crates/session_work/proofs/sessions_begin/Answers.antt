use Rattle.session_work.proofs.RunLaws.{begun_runs, may_begin, may_note}
use Rattle.session_work.proofs.SeatLaws.{may_ask}
use Rattle.session_work.proofs.sessions_begin.Goals as goal

pub returns-clause-ask : goal.returns-clause-ask
returns-clause-ask c = may_ask

pub returns-clause-begun : goal.returns-clause-begun
returns-clause-begun c = λ G s ask b g seen t others seat rests asked can. may_begin G s seen seat t others rests ask b g asked can

pub returns-clause-runs : goal.returns-clause-runs
returns-clause-runs c = begun_runs

pub returns-clause-alone : goal.returns-clause-alone
returns-clause-alone c = λ G s seen r others seat rests plain. may_note G s seen seat r others rests plain

use Rattle.log_rows.proofs.HistoryLemmas.{rows_ground, rows_earlier, rows_whole, rows_last}
use Rattle.log_rows.proofs.laws.rows_grow.Goals as goal

pub returns-clause-footing : goal.returns-clause-footing
returns-clause-footing c = rows_ground

pub returns-clause-earlier : goal.returns-clause-earlier
returns-clause-earlier c = rows_earlier

pub returns-clause-whole : goal.returns-clause-whole
returns-clause-whole c = rows_whole

pub returns-clause-last : goal.returns-clause-last
returns-clause-last c = rows_last

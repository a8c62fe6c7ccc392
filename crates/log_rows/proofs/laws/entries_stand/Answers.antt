use Rattle.log_rows.proofs.HistoryLemmas.{stand_begun, stand_more, stand_front, stand_whole}
use Rattle.log_rows.proofs.laws.entries_stand.Goals as goal

pub returns-clause-begun : goal.returns-clause-begun
returns-clause-begun c = stand_begun

pub returns-clause-more : goal.returns-clause-more
returns-clause-more c = stand_more

pub returns-clause-front : goal.returns-clause-front
returns-clause-front c = stand_front

pub returns-clause-whole : goal.returns-clause-whole
returns-clause-whole c = stand_whole

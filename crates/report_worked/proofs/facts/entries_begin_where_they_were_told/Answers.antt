use Rattle.report_worked.proofs.EarlierBeginLemmas.{begun_there, begun_earlier}
use Rattle.report_worked.proofs.WrongEntryLemmas.{begun_elsewhere_is_refused}
use Rattle.report_worked.proofs.facts.entries_begin_where_they_were_told.Goals as goal

pub returns : goal.returns
returns c = record { there = begun_there; earlier = begun_earlier; elsewhere = begun_elsewhere_is_refused }

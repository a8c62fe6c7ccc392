use Rattle.edit_records.proofs.AlikeLemmas.{records_alike, records_others, edits_others}
use Rattle.edit_records.proofs.laws.records_leave_what_edits_leave.Goals as goal

pub returns-clause-alike : goal.returns-clause-alike
returns-clause-alike c = records_alike

pub returns-clause-records : goal.returns-clause-records
returns-clause-records c = records_others

pub returns-clause-edits : goal.returns-clause-edits
returns-clause-edits c = edits_others

use Rattle.undo_snapshot.proofs.UndoLaws.{granted_undone, front_decides}
use Rattle.undo_snapshot.proofs.laws.undoing_gives_the_first_entries.Goals as goal

pub returns-clause-undone : goal.returns-clause-undone
returns-clause-undone c = granted_undone

pub returns-clause-each_log : goal.returns-clause-each_log
returns-clause-each_log c = front_decides

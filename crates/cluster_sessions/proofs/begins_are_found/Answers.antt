use Rattle.cluster_sessions.proofs.FoundLaws.{named_at, rows_at_begin}
use Rattle.cluster_sessions.proofs.begins_are_found.Goals as goal

pub returns-clause-named : goal.returns-clause-named
returns-clause-named c = λ G h s o legal is. named_at G h legal s o is

pub returns-clause-rows : goal.returns-clause-rows
returns-clause-rows c = λ G h s g o d legal is dur within. rows_at_begin G h legal s g o d is dur within

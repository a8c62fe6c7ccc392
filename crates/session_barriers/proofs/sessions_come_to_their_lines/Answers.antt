use Rattle.std.specs.Prelude.{refl}
use Rattle.session_barriers.proofs.LineLaws.{another_line, its_line}
use Rattle.session_barriers.proofs.sessions_come_to_their_lines.Goals as goal

pub returns-clause-first : goal.returns-clause-first
returns-clause-first c = λ language name. refl

pub returns-clause-its : goal.returns-clause-its
returns-clause-its c = its_line

pub returns-clause-another : goal.returns-clause-another
returns-clause-another c = another_line

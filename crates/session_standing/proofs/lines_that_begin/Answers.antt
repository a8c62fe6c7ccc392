use Rattle.session_standing.proofs.LineLaws.{begun_stands, to_begin}
use Rattle.session_standing.proofs.lines_that_begin.Goals as goal

pub returns-clause-about : goal.returns-clause-about
returns-clause-about c = to_begin

pub returns-clause-begun : goal.returns-clause-begun
returns-clause-begun c = begun_stands

use Rattle.cluster_begins.proofs.AfterAFall.{begun_legal, one_before, begin_two}
use Rattle.cluster_begins.proofs.a_begin_after_a_fall.Goals as goal

pub returns-clause-legal : goal.returns-clause-legal
returns-clause-legal c = begun_legal

pub returns-clause-before : goal.returns-clause-before
returns-clause-before c = one_before

pub returns-clause-begin : goal.returns-clause-begin
returns-clause-begin c = begin_two

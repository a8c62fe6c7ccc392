use Rattle.report_laws.proofs.LawLemmas.{has_its_place}
use Rattle.report_laws.proofs.facts.lines_have_their_places.Goals as goal
use Rattle.report_text.specs.declared.reports.Line.TheVariants as line
use Rattle.cdb_values.specs.declared.replies.Reply.TheVariants as reply

pub returns : goal.returns
returns c = record {
  down = λ basis report front back count node fault lawful is. has_its_place basis report front back (line.Down count node fault) lawful is;
  lost = λ basis report front back name txn node down lawful is. has_its_place basis report front back (line.Session name txn (reply.Lost node down)) lawful is;
  majority = λ basis report front back name txn up nodes lawful is. has_its_place basis report front back (line.Session name txn (reply.NoMajority up nodes)) lawful is;
  up = λ basis report node lawful stands. has_its_place basis report stands.0 stands.1 (line.Up node) lawful stands.2;
  barrier = λ basis report lawful stands. has_its_place basis report stands.0 stands.1 line.Barrier lawful stands.2;
  fed = λ basis report position lawful stands. has_its_place basis report stands.0 stands.1 (line.Fed position) lawful stands.2;
}

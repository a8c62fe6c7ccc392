use Rattle.cluster_feeds.proofs.FedLaws.{feeds_right, feeds_repeat}
use Rattle.cluster_feeds.proofs.feed_lines_are_right.Goals as goal

pub returns-clause-answered : goal.returns-clause-answered
returns-clause-answered c = λ G h r m a rows view far nodes legal top first last. feeds_right G far nodes h legal r m a top first rows view last

pub returns-clause-repeats : goal.returns-clause-repeats
returns-clause-repeats c = λ G h base rows view nodes legal none. feeds_repeat G base rows view nodes h legal none

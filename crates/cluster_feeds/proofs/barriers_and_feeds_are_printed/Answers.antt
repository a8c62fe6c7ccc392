use Rattle.cluster_events.specs.Settings.{lines_to_do}
use Rattle.cluster_feeds.proofs.PrintedLaws.{all_printed}
use Rattle.cluster_feeds.proofs.barriers_and_feeds_are_printed.Goals as goal

pub returns : goal.returns
returns c = λ G h all. all_printed G (lines_to_do G) h all

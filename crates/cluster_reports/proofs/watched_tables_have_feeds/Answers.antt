use Rattle.cluster_reports.proofs.FeedsFit.{feeds_fit}
use Rattle.cluster_reports.proofs.watched_tables_have_feeds.Goals as goal

pub returns : goal.returns
returns c = λ basis view position all. feeds_fit basis view position 1 basis.script.watches all

use Rattle.std.proofs.Common.{◌≡◌, ◌++◌, length}
use Rattle.std.specs.List.{AllByRecursion}
use Rattle.report_text.specs.Types.{FitsFeed}
use Rattle.report_text.specs.Text.{feeds_text}
use Rattle.report_text.proofs.printing.put_feeds.Given as goal

abbrev pub invariant-feeds : goal.invariant-feeds
invariant-feeds l = (l.out.items ++ feeds_text l.rest ≡ l.initial.out.items ++ feeds_text l.feeds) × (AllByRecursion FitsFeed l.rest → AllByRecursion FitsFeed l.feeds)

abbrev pub decreases-feeds : goal.decreases-feeds
decreases-feeds l = length l.rest

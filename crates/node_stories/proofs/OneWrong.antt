-- A report that is lawful, and refused by the order of play: since the script has one report in which nothing fails, it is the other.
use Rattle.std.proofs.Common.{refl, ap, codes}
use Rattle.std.proofs.lemmas.Bool.{true≢false}
use Rattle.report_laws.specs.Play.{was_cut}
use Rattle.report_text.specs.declared.reports.Report.{Report}
use Rattle.report_worked.proofs.SmallLaws.{statements_answer}
use Rattle.report_worked.specs.Small.{from_nothing}
use Rattle.node_laws.proofs.OneReport.{one_report}
use Rattle.node_reports.specs.Lawful.{LawfulOfNodes}
use Rattle.node_reports.specs.Order.{InNodesOrder}
use Rattle.node_stories.specs.Stories.{read_while_few, read_while_few_report}
use Rattle.node_stories.specs.StoriesWrong.{short_at_a_read}
use Rattle.node_stories.proofs.LawfulTerms.{read_while_few_is_lawful}
use Rattle.node_stories.proofs.StoryTerms.{read_while_few_is_in_order}

pub short_at_a_read_is_refused : LawfulOfNodes (from_nothing read_while_few) short_at_a_read → InNodesOrder (from_nothing read_while_few) short_at_a_read → ⊥
short_at_a_read_is_refused lawful order =
    true≢false (ap (λ (r : Report). was_cut r.lines (codes "b") 1)
    (one_report (from_nothing read_while_few) statements_answer short_at_a_read read_while_few_report (tt, (tt, (tt, (tt, tt))))
    lawful order (record { lines = (refl, (refl, (refl, (refl, tt)))); feeds = tt })
    read_while_few_is_lawful read_while_few_is_in_order (record { lines = (refl, (refl, (refl, (refl, tt)))); feeds = tt })))

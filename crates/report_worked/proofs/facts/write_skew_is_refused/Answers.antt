use Rattle.report_worked.proofs.SkewLemmas.{skew_is_lawful, skew_is_in_order, strict_skew_is_lawful, strict_skew_is_in_order, strict_committed_is_refused}
use Rattle.report_worked.proofs.facts.write_skew_is_refused.Goals as goal

pub returns : goal.returns
returns c = record { snapshot = skew_is_lawful; snapshot_order = skew_is_in_order; serializable = strict_skew_is_lawful; serializable_order = strict_skew_is_in_order; committed = strict_committed_is_refused }

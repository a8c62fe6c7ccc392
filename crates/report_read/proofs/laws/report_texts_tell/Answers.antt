use Rattle.std.proofs.Common.{sym, ap, ◌∙◌}
use Rattle.std.proofs.lemmas.Option.{same_Some}
use Rattle.report_read.specs.Reading.{report_of}
use Rattle.report_read.proofs.ReportLaws.{report_again}
use Rattle.report_read.proofs.laws.report_texts_tell.Goals as goal

pub returns : goal.returns
returns c = λ r s is has same. same_Some r s (sym (report_again r is) ∙ ap report_of same ∙ report_again s has)

use Rattle.std.proofs.Common.{◌≡◌, ◌∙◌}
use Rattle.std.specs.Str.{IsValidUpTo, valid_up_to}
use Rattle.report_read.proofs.ValueLemmas.{text_test}
use Rattle.report_read.proofs.values.is_text.Goals as goal

pub returns : goal.returns
returns c = c.is_ok.ensures.value ∙ text_test c.from_utf8.result (λ s. s.now ≡ c.args.bytes.now) (λ e. IsValidUpTo c.args.bytes.now (valid_up_to e)) c.args.bytes.now c.from_utf8.ensures.cases

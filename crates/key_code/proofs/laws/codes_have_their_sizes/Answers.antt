use Rattle.key_code.proofs.SizeLemmas.{length-key_code, length-row_code}
use Rattle.key_code.proofs.laws.codes_have_their_sizes.Goals as goal

pub returns : goal.returns
returns c = record { keys = length-key_code; rows = length-row_code }

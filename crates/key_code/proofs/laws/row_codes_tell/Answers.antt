use Rattle.key_code.proofs.JoinedLaws.{row_codes_are_told, row_codes_begin_no_other}
use Rattle.key_code.proofs.laws.row_codes_tell.Goals as goal

pub returns : goal.returns
returns c = record { tells = row_codes_are_told; begins_no_other = row_codes_begin_no_other }

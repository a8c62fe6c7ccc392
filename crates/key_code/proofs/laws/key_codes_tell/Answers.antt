use Rattle.key_code.proofs.JoinedLaws.{key_codes_are_told, key_codes_begin_no_other}
use Rattle.key_code.proofs.laws.key_codes_tell.Goals as goal

pub returns : goal.returns
returns c = record { tells = key_codes_are_told; begins_no_other = key_codes_begin_no_other }

use Rattle.std.proofs.Common.{rules, ◌≡◌, []}
use Rattle.std.proofs.lemmas.List.{nil_from_length}
use Rattle.report_read.proofs.CodedLemmas.{hexadecimal_odd}
use Rattle.report_read.proofs.coded.behind_digit.Goals as goal

pub returns-in-None : goal.returns-in-None
returns-in-None c = let e : c.args.after.now ≡ [] = nil_from_length c.args.after.now (search rules) in rw e (hexadecimal_odd c.args.high c.requires)

use Rattle.std.proofs.Common.{sym}
use Rattle.page_workspace.proofs.MetaLaws.{tells}
use Rattle.log_rows.proofs.meta.genid_in.Goals as goal

pub returns : goal.returns
returns c = (tells (λ _. c.args.page.now) c.in-Some.meta (sym c.in-Some.ensures)).next

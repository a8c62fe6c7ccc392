use Rattle.std.proofs.Common.{sym, ap}
use Rattle.sql_bind.specs.Scope.{is_called}
use Rattle.sql_bind.specs.Seen.{qualifier_in}
use Rattle.sql_bind.proofs.scope.is_called.Goals as goal

pub returns-in-None : goal.returns-in-None
returns-in-None c = ap (λ q. is_called (qualifier_in q) c.args.name.now) (sym c.in-None.is)

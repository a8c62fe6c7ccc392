use Rattle.std.proofs.Common.{sym, ap}
use Rattle.sql_bind.specs.Meaning.{cmp_of}
use Rattle.sql_bind.proofs.conditions.comparison.Goals as goal

pub returns-in-Eq : goal.returns-in-Eq
returns-in-Eq c = ap cmp_of (sym c.in-Eq.is)

pub returns-in-Ne : goal.returns-in-Ne
returns-in-Ne c = ap cmp_of (sym c.in-Ne.is)

pub returns-in-Lt : goal.returns-in-Lt
returns-in-Lt c = ap cmp_of (sym c.in-Lt.is)

pub returns-in-Le : goal.returns-in-Le
returns-in-Le c = ap cmp_of (sym c.in-Le.is)

pub returns-in-Gt : goal.returns-in-Gt
returns-in-Gt c = ap cmp_of (sym c.in-Gt.is)

pub returns-in-Ge : goal.returns-in-Ge
returns-in-Ge c = ap cmp_of (sym c.in-Ge.is)

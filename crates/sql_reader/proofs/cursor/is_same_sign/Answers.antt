-- The code's comparison of two signs is the test of their kinds, and no other token has a sign's kind.
use Rattle.std.proofs.Common.{sym, ap, ◌∙◌}
use Rattle.sql_grammar.specs.Words.{sign_is}
use Rattle.sql_grammar.proofs.SameLaws.{sign_test, no_sign}
use Rattle.sql_reader.proofs.cursor.is_same_sign.Goals as goal

pub returns-in-Sign : goal.returns-in-Sign
returns-in-Sign c = c.eq.ensures ∙ sign_test c.in-Sign.found c.args.expected ∙ ap (sign_is c.args.expected) (sym c.in-Sign.is)

pub returns-in_default : goal.returns-in_default
returns-in_default c = no_sign c.args.token.now c.args.expected c.in_default.not-Sign

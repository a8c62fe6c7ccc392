-- The code's comparison of two words is the test of their kinds, and no other token has a word's kind.
use Rattle.std.proofs.Common.{sym, ap, ◌∙◌}
use Rattle.sql_grammar.specs.Words.{keyword}
use Rattle.sql_grammar.proofs.SameLaws.{keyword_test, no_keyword}
use Rattle.sql_reader.proofs.cursor.is_keyword.Goals as goal

pub returns-in-Keyword : goal.returns-in-Keyword
returns-in-Keyword c = c.eq.ensures ∙ keyword_test c.in-Keyword.found c.args.expected ∙ ap (keyword c.args.expected) (sym c.in-Keyword.is)

pub returns-in_default : goal.returns-in_default
returns-in_default c = no_keyword c.args.token.now c.args.expected c.in_default.not-Keyword

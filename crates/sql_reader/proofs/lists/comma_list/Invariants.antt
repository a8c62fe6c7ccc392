-- What was read so far, before what the reader finds in the rest, is what it finds in all.
use Rattle.std.proofs.Common.{◌≡◌, map, length}
use Rattle.grammar_forms.specs.Forms.{many}
use Rattle.grammar_forms.specs.Parts.{after}
use Rattle.grammar_forms.proofs.Loops.{with_front}
use Rattle.sql_tokens.specs.declared.kinds.Sign.TheVariants as sign
use Rattle.sql_grammar.specs.Words.{sign_is}
use Rattle.sql_grammar.specs.Readers.{listed}
use Rattle.sql_reader.proofs.lists.comma_list.Given as goal

abbrev pub invariant-parts : goal.invariant-parts
invariant-parts g l = listed g.R.Rule.reads l.fn.tokens ≡ with_front (map g.R.Rule.value l.items.items) (many (sign_is sign.Comma) (after (sign_is sign.Comma) g.R.Rule.reads) l.rest)

abbrev pub decreases-parts : goal.decreases-parts
decreases-parts g l = length l.rest

use Rattle.byte_words.proofs.ByteLemmas.{WhileAt}
use Rattle.byte_words.proofs.bytes.split_while.Given as goal

abbrev pub invariant-kinds : goal.invariant-kinds
invariant-kinds g l = WhileAt g.K.Kind.test l.bytes l.i

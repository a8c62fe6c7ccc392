-- The parts so far, before what the reader finds in the rest, are what it finds in all. There is one part only while
-- the separator comes next. Each step down takes a level, or goes from parts to a part of them.
use Rattle.std.proofs.Common.{◌≡◌, ◌+◌, ◌*◌, ◌≤◌, false, map, length}
use Rattle.grammar_forms.specs.Forms.{next_is, many}
use Rattle.grammar_forms.specs.Parts.{after, separated}
use Rattle.grammar_forms.proofs.Loops.{with_front}
use Rattle.sql_tokens.specs.declared.kinds.Keyword.TheVariants as words
use Rattle.sql_grammar.specs.Words.{keyword}
use Rattle.sql_grammar.specs.Readers.{not_r, and_r}
use Rattle.sql_grammar.specs.Views.{condition_in}
use Rattle.sql_reader.proofs.conditions.+conditions.Given as goal

abbrev pub decreases-not : goal.decreases-not
decreases-not l = 3 * l.levels

abbrev pub decreases-all_of : goal.decreases-all_of
decreases-all_of l = 3 * l.levels + 1

abbrev pub decreases-any_of : goal.decreases-any_of
decreases-any_of l = 3 * l.levels + 2

abbrev pub invariant-all_of-parts : goal.invariant-all_of-parts
invariant-all_of-parts l = record {
  reads : separated (keyword words.And) (not_r l.levels) l.fn.tokens ≡ with_front (map condition_in l.parts.items) (many (keyword words.And) (after (keyword words.And) (not_r l.levels)) l.rest);
  some : 1 ≤ length l.parts.items;
  two : next_is (keyword words.And) l.rest ≡ false → 2 ≤ length l.parts.items;
}

abbrev pub decreases-all_of-parts : goal.decreases-all_of-parts
decreases-all_of-parts l = length l.rest

abbrev pub invariant-any_of-parts : goal.invariant-any_of-parts
invariant-any_of-parts l = record {
  reads : separated (keyword words.Or) (and_r l.levels) l.fn.tokens ≡ with_front (map condition_in l.parts.items) (many (keyword words.Or) (after (keyword words.Or) (and_r l.levels)) l.rest);
  some : 1 ≤ length l.parts.items;
  two : next_is (keyword words.Or) l.rest ≡ false → 2 ≤ length l.parts.items;
}

abbrev pub decreases-any_of-parts : goal.decreases-any_of-parts
decreases-any_of-parts l = length l.rest

use Rattle.sql_answer.proofs.ReadingLemmas.{reading_spells, spelled_is_read, reading_refuses, refused_is_read}
use Rattle.sql_answer.proofs.laws.the_reading_is_the_readers.Goals as goal

pub returns : goal.returns
returns c = record {
  spelled = λ text x. (spelled_is_read text x, reading_spells text x);
  refused = λ text at. (refused_is_read text at, reading_refuses text at);
}

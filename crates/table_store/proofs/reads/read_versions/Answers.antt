-- One pair more, or none.
use Rattle.std.proofs.lemmas.List.{nil_from_length}
use Rattle.table_store.proofs.ReadLaws.{reading_more, reading_ends}
use Rattle.table_store.proofs.reads.read_versions.Goals as goal

pub reading-preserved : goal.reading-preserved
reading-preserved c = record {
  reading = λ versions readable pairs.
      reading_more c.reading.rest.now c.in-Some.after.now c.in-Some.pair.now c.reading.found.items c.add_version.new.found.items versions
      c.in-Some.ensures.cases.0 (λ v r is. c.in_ok-add_version.ensures v r is) (c.reading.invariant.reading versions readable pairs);
}

pub returns : goal.returns
returns c = λ versions readable pairs.
    reading_ends c.reading.rest.now c.reading.found.items versions (nil_from_length c.reading.rest.now c.in_default.ensures.cases) (c.reading.invariant.reading versions readable pairs)

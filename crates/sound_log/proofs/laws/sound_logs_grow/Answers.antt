use Rattle.std.proofs.Common.{◌∷◌, []}
use Rattle.cdb_values.specs.Rows.{no_rows}
use Rattle.phys_log.specs.Logs.{pages_of}
use Rattle.sound_log.proofs.GrowthLemmas.{sound_first, sound_more}
use Rattle.sound_log.proofs.laws.sound_logs_grow.Goals as goal

pub returns-clause-first : goal.returns-clause-first
returns-clause-first c = λ accepted generation tables entry.
    sound_first accepted generation tables entry
    (c.pages_that_stand_keep_their_keys.ensures.good (pages_of (entry ∷ [])) tables (no_rows tables))

pub returns-clause-more : goal.returns-clause-more
returns-clause-more c = λ accepted entries entry id rows some.
    sound_more accepted entries entry id rows some (c.logs_keep_their_schema.ensures.tables entries (entry ∷ []) some)
    (c.logs_keep_their_schema.ensures.schema entries (entry ∷ []) some)

-- the identities so far are apart, and with those that are left they are all
use Rattle.std.proofs.Common.{◌≡◌, ◌++◌, length}
use Rattle.sound_log.specs.Identities.{ids_in, ids_by, AreApart}
use Rattle.sound_log.proofs.identities.are_apart.Given as goal

abbrev pub invariant-entries : goal.invariant-entries
invariant-entries l = record {
  apart : AreApart (ids_by l.known.keys);
  whole : ids_by l.known.keys ++ ids_in l.rest ≡ ids_in l.entries;
}

abbrev pub decreases-entries : goal.decreases-entries
decreases-entries l = length l.rest

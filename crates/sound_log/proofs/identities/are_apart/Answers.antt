use Rattle.std.proofs.Common.{true, false}
use Rattle.std.proofs.lemmas.Bool.{false≢true}
use Rattle.sound_log.specs.Identities.{ids_of, ids_in, ids_by, IsPut}
use Rattle.sound_log.proofs.IdentityLemmas.{put_apart, put_whole, put_twice}
use Rattle.sound_log.proofs.identities.are_apart.Goals as goal

pub returns-then-not-new : goal.returns-then-not-new
returns-then-not-new c =
    let told : IsPut (ids_by c.entries.known.keys) (ids_of c.in-Some.entry.now) (ids_by c.add_entry.new.known.keys) false =
    rw c.if-not-new.true at c.in_ok-new.ensures in (
      λ e. absurd (false≢true e),
      λ h. absurd (put_twice (ids_by c.entries.known.keys) (ids_by c.add_entry.new.known.keys) (ids_in c.args.entries.now)
          c.in-Some.entry.now c.in-Some.others.now c.entries.rest.now c.in-Some.ensures.cases.0 told c.entries.invariant.whole h),
    )

pub entries-preserved : goal.entries-preserved
entries-preserved c =
    let told : IsPut (ids_by c.entries.known.keys) (ids_of c.in-Some.entry.now) (ids_by c.add_entry.new.known.keys) true =
    rw c.if-not-new.false at c.in_ok-new.ensures in
    record {
      apart = put_apart (ids_by c.entries.known.keys) (ids_by c.add_entry.new.known.keys) c.in-Some.entry.now c.entries.invariant.apart told;
      whole = put_whole (ids_by c.entries.known.keys) (ids_by c.add_entry.new.known.keys) (ids_in c.args.entries.now) c.in-Some.entry.now c.in-Some.others.now
          c.entries.rest.now c.in-Some.ensures.cases.0 told c.entries.invariant.whole;
    }

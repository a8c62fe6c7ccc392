use Rattle.std.proofs.Common.{◌≡◌, ◌<◌, ◌^◌, ℕ, List, None, length, ap, subst, arith, rules}
use Rattle.frame_code.specs.Codes.{frame_code}
use Rattle.store_log.specs.Held.{header}
use Rattle.store_log.specs.Mends.{IsPart}
use Rattle.store_log.proofs.MendLemmas.{trim_alike, begin_alike}
use Rattle.store_log.proofs.UnmendedLemmas.{trim_unmended, begin_unmended}
use Rattle.store_log.proofs.mends.mend.Goals as goal

pub returns-in-Err-trim-clause-alike : goal.returns-in-Err-trim-clause-alike
returns-in-Err-trim-clause-alike g c =
    let n : c.args.node < 256 = omega (arith, c.ranges.node.fits) in
    let k : c.args.cluster < 2 ^ 128 = omega (arith, c.ranges.cluster.fits) in
    trim_alike c.args.found.now c.args.node c.args.cluster (g.D.LogStore.synced c.args.store.now)
    (g.D.LogStore.synced c.trim.new.store) c.in-Some.closed n k c.requires.found c.in-Some.is c.in-Err-trim.ensures.part

pub returns-in-Err-trim-clause-read : goal.returns-in-Err-trim-clause-read
returns-in-Err-trim-clause-read g c =
    let n : c.args.node < 256 = omega (arith, c.ranges.node.fits) in
    let k : c.args.cluster < 2 ^ 128 = omega (arith, c.ranges.cluster.fits) in
    trim_unmended c.args.found.now c.args.node c.args.cluster (g.D.LogStore.synced c.args.store.now) c.in-Some.closed _ n k
    c.requires.found c.in-Some.is c.in-Err-trim.ensures.more (ap length c.entries.ensures)

pub returns-clause-alike : goal.returns-clause-alike
returns-clause-alike g c =
    let n : c.args.node < 256 = omega (arith, c.ranges.node.fits) in
    let k : c.args.cluster < 2 ^ 128 = omega (arith, c.ranges.cluster.fits) in
    let none : c.args.found.now.closed ≡ None = search rules in
    let whole : c.as_bytes.result.now ≡ frame_code (header c.args.node c.args.cluster) = search rules in
    let part : IsPart (g.D.LogStore.synced c.args.store.now) (frame_code (header c.args.node c.args.cluster)) (g.D.LogStore.synced c.begin.new.store) =
    subst (λ (l : List ℕ). IsPart (g.D.LogStore.synced c.args.store.now) l (g.D.LogStore.synced c.begin.new.store)) whole c.in-Err-begin.ensures.part in
    begin_alike c.args.found.now c.args.node c.args.cluster (g.D.LogStore.synced c.args.store.now)
    (g.D.LogStore.synced c.begin.new.store) n k c.requires.found none part

pub returns-clause-read : goal.returns-clause-read
returns-clause-read g c =
    let none : c.args.found.now.closed ≡ None = search rules in
    begin_unmended c.args.found.now c.args.node c.args.cluster (g.D.LogStore.synced c.args.store.now) _ c.requires.found none
    (ap length c.entries.ensures)

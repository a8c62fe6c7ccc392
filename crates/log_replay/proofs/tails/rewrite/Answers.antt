use Rattle.std.proofs.Common.{◌≡◌, ◌≤◌, List, None, take, drop, length, sym, ap, subst, arith, rules}
use Rattle.phys_log.specs.declared.entries.Entry.{Entry}
use Rattle.log_replay.specs.Chains.{chain_of}
use Rattle.log_replay.specs.Kept.{chain_in, room_in, IsKept}
use Rattle.log_replay.proofs.LogLemmas.{kept_came, kept_pages, kept_chains, kept_first}
use Rattle.log_replay.proofs.TailLemmas.{chain_room}
use Rattle.log_replay.proofs.tails.rewrite.Goals as goal

pub undo_entries-requires : goal.undo_entries-requires
undo_entries-requires c =
    let log = c.args.log.now in
    let tail = c.split_at.result.1.now in
    let is : tail ≡ drop c.args.kept log = search rules in
    kept_came log c.args.pages.now None c.args.kept tail c.requires.kept is

pub write_behind-requires : goal.write_behind-requires
write_behind-requires c =
    let log = c.args.log.now in
    let front = c.split_at.result.0.now in
    let tail = c.split_at.result.1.now in
    let is : tail ≡ drop c.args.kept log = search rules in
    let first : front ≡ take c.args.kept log = search rules in
    let p = c.args.pages.now in
    let q = c.undo_entries.new.pages in
    subst (λ (l : List Entry). IsKept l q None) (sym first)
    (kept_first log p q None c.args.kept c.requires.kept
    (kept_pages log p q None c.args.kept tail c.requires.kept is c.undo_entries.ensures.undone)
    (kept_chains log p q None c.args.kept tail c.requires.kept is c.undo_entries.ensures.unlinked))

pub put_back-requires-clause-room : goal.put_back-requires-clause-room
put_back-requires-clause-room c = λ n.
    let one : length (chain_in c.args.pages.now n) ≤ room_in c.args.pages.now n = chain_room c.args.pages.now n in
    let same : length (chain_in c.args.pages.now n) ≡ length (chain_of c.args.log.now n) = ap length (c.requires.kept.links n) in
    let two : room_in c.args.pages.now n ≤ room_in c.undo_entries.new.pages n = c.undo_entries.ensures.roomy n in
    let three : room_in c.undo_entries.new.pages n ≤ room_in c.write_behind.new.pages n = c.write_behind.ensures.roomy n in
    omega arith

use Rattle.std.proofs.Common.{◌≡◌, List, take, drop, sym, subst, rules}
use Rattle.phys_log.specs.declared.entries.Entry.{Entry}
use Rattle.log_replay.specs.Kept.{IsKept}
use Rattle.log_replay.proofs.LogLemmas.{kept_came, kept_pages, kept_chains, kept_first}
use Rattle.log_replay.proofs.logs.PagedLog.drop_tail.Goals as goal

pub undo_entries-requires : goal.undo_entries-requires
undo_entries-requires c =
    let entries = c.self.inside.entries.items in
    let dropped = c.behind-dropped.result.now in
    let is : dropped ≡ drop c.args.kept entries = search rules in
    kept_came entries c.self.inside.pages c.self.inside.blank c.args.kept dropped c.self.invariant is

pub invariant_of-self : goal.invariant_of-self
invariant_of-self c =
    let entries = c.self.inside.entries.items in
    let dropped = c.behind-dropped.result.now in
    let is : dropped ≡ drop c.args.kept entries = search rules in
    let left : c.truncate.new.self.items ≡ take c.args.kept entries = search rules in
    let p = c.self.inside.pages in
    let q = c.undo_entries.new.pages in
    let blank = c.self.inside.blank in
    subst (λ (l : List Entry). IsKept l q blank) (sym left)
    (kept_first entries p q blank c.args.kept c.self.invariant
    (kept_pages entries p q blank c.args.kept dropped c.self.invariant is c.undo_entries.ensures.undone)
    (kept_chains entries p q blank c.args.kept dropped c.self.invariant is c.undo_entries.ensures.unlinked))

use Rattle.std.proofs.Common.{List, ◌++◌, None, take, sym, subst}
use Rattle.phys_log.specs.declared.entries.Entry.{Entry}
use Rattle.log_replay.specs.Kept.{IsKept}
use Rattle.log_replay.proofs.TailLemmas.{lent_none, tail_came, tail_gone}
use Rattle.log_replay.proofs.exchanges.Exchange.take_back.Goals as goal

pub undo_entries-requires : goal.undo_entries-requires
undo_entries-requires c =
    let front = take c.self.inside.kept c.self.inside.entries.items in
    let pages = c.self.inside.pages in
    let filled : IsKept (front ++ c.as_slice.result.now) pages None =
    subst (λ (l : List Entry). IsKept (front ++ l) pages None) (sym c.as_slice.ensures.value)
    (lent_none (front ++ c.self.inside.made.items) pages c.self.inside.blank c.self.invariant.0.filled) in
    tail_came front c.as_slice.result.now pages filled

pub put_back-requires-clause-first : goal.put_back-requires-clause-first
put_back-requires-clause-first c =
    let front = take c.self.inside.kept c.self.inside.entries.items in
    let pages = c.self.inside.pages in
    let filled : IsKept (front ++ c.as_slice.result.now) pages None =
    subst (λ (l : List Entry). IsKept (front ++ l) pages None) (sym c.as_slice.ensures.value)
    (lent_none (front ++ c.self.inside.made.items) pages c.self.inside.blank c.self.invariant.0.filled) in
    subst (λ (l : List Entry). IsKept (take c.self.inside.kept l) c.undo_entries.new.pages None) (sym c.as_slice-2.ensures.value)
    (tail_gone front c.as_slice.result.now pages c.undo_entries.new.pages filled c.undo_entries.ensures.undone c.undo_entries.ensures.unlinked)

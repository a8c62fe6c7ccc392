use Rattle.std.proofs.Common.{◌≡◌, ℕ, ◌+◌, List, ◌++◌, ◌∷◌, [], length, ap, ◌∙◌, rules}
use Rattle.phys_log.specs.declared.entries.Entry.{Entry}
use Rattle.phys_log.specs.Logs.{last_lsn_of}
use Rattle.log_replay.proofs.LogLemmas.{kept_room}
use Rattle.log_replay.proofs.AppendLemmas.{kept_append}
use Rattle.log_replay.proofs.logs.PagedLog.append.Goals as goal

pub invariant_of-self-2 : goal.invariant_of-self-2
invariant_of-self-2 c =
    let entries = c.self.inside.entries.items in
    let is : c.push.new.self.items ≡ entries ++ c.args.entry ∷ [] =
    c.in-Ok-push.ensures.items ∙ ap (λ (es : List Entry). es ++ c.args.entry ∷ []) c.reserve.ensures.items in
    let at : c.last_lsn-last.result ≡ last_lsn_of entries = search rules in
    let many : c.len.result ≡ length entries = search rules in
    kept_append entries c.push.new.self.items c.args.entry c.records.result.now c.last_lsn-last.result (c.len.result + 1)
    c.self.inside.pages c.write_all.new.pages c.self.inside.blank c.see_to_blank.new.blank
    c.self.invariant is c.records.ensures at (ap (λ (n : ℕ). n + 1) many) c.in-Ok.ensures.next c.in-Ok.ensures.made c.in-Ok.ensures.linked c.see_to_blank.ensures

pub write_all-requires-clause-room : goal.write_all-requires-clause-room
write_all-requires-clause-room c = kept_room c.self.inside.entries.items c.self.inside.pages c.self.inside.blank c.self.invariant

pub see_to_blank-requires : goal.see_to_blank-requires
see_to_blank-requires c = c.self.invariant.lent

use Rattle.std.proofs.Common.{◌≡◌, List, ◌++◌, ◌∷◌, [], length, sym, ap, ◌∙◌, rules}
use Rattle.phys_log.specs.declared.entries.Entry.{Entry}
use Rattle.phys_log.specs.declared.entries.LogRecord.{LogRecord}
use Rattle.phys_log.specs.Logs.{records_of}
use Rattle.phys_log.proofs.LogLaws.{last_lsn_told, last_lsn_before}
use Rattle.phys_log.proofs.entries.last_lsn.Goals as goal

pub returns-in-Some-split_last : goal.returns-in-Some-split_last
returns-in-Some-split_last c =
    let last = c.in-Some.last.now in
    let newest = c.in-Some-split_last.newest.now in
    let others = c.in-Some-split_last.field-0-1.now in
    let is : c.back.rest.now ≡ c.in-Some.before.now ++ last ∷ [] = search rules in
    let there : records_of last ≡ others ++ newest ∷ [] = search rules in
    sym (last_lsn_told c.back.rest.now c.in-Some.before.now last others newest is there) ∙ c.back.invariant

pub back-preserved : goal.back-preserved
back-preserved c =
    let last = c.in-Some.last.now in
    let is : c.back.rest.now ≡ c.in-Some.before.now ++ last ∷ [] = search rules in
    let none : length (records_of last) ≡ 0 = search rules in
    sym (last_lsn_before c.back.rest.now c.in-Some.before.now last is none) ∙ c.back.invariant

-- The key is told where it is broken.
use Rattle.std.proofs.Common.{Bool, if◌then◌else◌, Some, None, ap}
use Rattle.table_edits.specs.Broken.{or_later}
use Rattle.table_edits.proofs.trees.change_key.Goals as goal

pub returns-in-Ok-clause-changed : goal.returns-in-Ok-clause-changed
returns-in-Ok-clause-changed g c = λ start rows plan left known half.
    let done = c.in-Ok.ensures.changed start rows plan left known half in
    (done.0, ap (λ (t : Bool). or_later c.args.place (if t then Some c.args.at else None) None) done.1)

pub returns-in-Err-Duplicate-clause-changed : goal.returns-in-Err-Duplicate-clause-changed
returns-in-Err-Duplicate-clause-changed g c = λ start rows plan left known half.
    let told = rw c.in-Err-Duplicate.field-0-is at (c.in-Err-Duplicate.ensures.changed start rows plan left known half) in
    ap (λ (t : Bool). or_later c.args.place (if t then Some c.args.at else None) None) told

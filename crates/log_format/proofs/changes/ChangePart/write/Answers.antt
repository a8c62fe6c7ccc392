-- Each part is added behind those before it.
use Rattle.std.proofs.Common.{[], ◌∷◌, ◌++◌}
use Rattle.frame_code.specs.Codes.{two_bytes, number, stored_row}
use Rattle.log_format.proofs.PutLemmas.{put_then, three_then}
use Rattle.log_format.proofs.changes.ChangePart.write.Goals as goal

pub returns-in_ok-push-in-Insert : goal.returns-in_ok-push-in-Insert
returns-in_ok-push-in-Insert c =
    rw c.in-Insert.is
    (put_then c.write_row.result c.args.out.now.items c.push.new.self.items c.write_row.new.out.items (1 ∷ [])
    (two_bytes c.in-Insert.table ++ (number c.in-Insert.genid ++ stored_row c.in-Insert.row)) c.in_ok-push-in-Insert.ensures.items
    c.write_row.ensures)

pub returns-in_ok-write_row-in-Update : goal.returns-in_ok-write_row-in-Update
returns-in_ok-write_row-in-Update c =
    rw c.in-Update.is
    (put_then c.write_version.result c.args.out.now.items c.push-in-Update.new.self.items c.write_version.new.out.items (2 ∷ [])
    (two_bytes c.in-Update.table ++ (number c.in-Update.old_genid ++ (stored_row c.in-Update.old ++ (number c.in-Update.genid ++ stored_row c.in-Update.row)))) c.in_ok-push-in-Update.ensures.items
    (three_then c.write_version.result c.push-in-Update.new.self.items c.write_row-in-Update.new.out.items c.write_version.new.out.items
    (two_bytes c.in-Update.table) (number c.in-Update.old_genid) (stored_row c.in-Update.old) (number c.in-Update.genid ++ stored_row c.in-Update.row)
    c.in_ok-write_row-in-Update.ensures c.write_version.ensures))

pub returns-in_ok-push-in-Delete : goal.returns-in_ok-push-in-Delete
returns-in_ok-push-in-Delete c =
    rw c.in-Delete.is
    (put_then c.write_row-in-Delete.result c.args.out.now.items c.push-in-Delete.new.self.items c.write_row-in-Delete.new.out.items (3 ∷ [])
    (two_bytes c.in-Delete.table ++ (number c.in-Delete.old_genid ++ stored_row c.in-Delete.old)) c.in_ok-push-in-Delete.ensures.items
    c.write_row-in-Delete.ensures)

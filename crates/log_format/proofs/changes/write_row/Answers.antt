use Rattle.std.proofs.Common.{◌++◌}
use Rattle.frame_code.specs.Codes.{two_bytes, number, stored_row}
use Rattle.log_format.proofs.PutLemmas.{put_then}
use Rattle.log_format.proofs.changes.write_row.Goals as goal

pub returns : goal.returns
returns c =
    put_then c.write_version.result c.args.out.now.items c.put_u16.new.out.items c.write_version.new.out.items (two_bytes c.args.table)
    (number c.args.genid ++ stored_row c.args.row.now) c.in_ok-put_u16.ensures.put c.write_version.ensures

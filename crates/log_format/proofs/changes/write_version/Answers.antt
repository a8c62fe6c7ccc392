use Rattle.frame_code.specs.Codes.{number, stored_row}
use Rattle.log_format.proofs.PutLemmas.{put_then}
use Rattle.log_format.proofs.changes.write_version.Goals as goal

pub returns : goal.returns
returns c =
    put_then c.write.result c.args.out.now.items c.put_u64.new.out.items c.write.new.out.items (number c.args.genid)
    (stored_row c.args.row.now) c.in_ok-put_u64.ensures.put c.write.ensures

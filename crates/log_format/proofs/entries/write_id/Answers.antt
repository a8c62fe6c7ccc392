-- Each part is added behind those before it.
use Rattle.std.proofs.Common.{◌++◌}
use Rattle.frame_code.specs.Codes.{number, name_code}
use Rattle.log_format.proofs.PutLemmas.{put_then}
use Rattle.log_format.proofs.entries.write_id.Goals as goal

pub returns : goal.returns
returns c =
    put_then c.put_u64-3.result c.args.out.now.items c.put_u64.new.out.items c.put_u64-3.new.out.items (number c.args.id.now.began)
    (name_code c.args.id.now.session ++ (number c.args.id.now.txn ++ number c.args.begin)) c.in_ok-put_u64.ensures.put
    (put_then c.put_u64-3.result c.put_u64.new.out.items c.write.new.out.items c.put_u64-3.new.out.items (name_code c.args.id.now.session)
    (number c.args.id.now.txn ++ number c.args.begin) c.in_ok-write.ensures
    (put_then c.put_u64-3.result c.write.new.out.items c.put_u64-2.new.out.items c.put_u64-3.new.out.items (number c.args.id.now.txn)
    (number c.args.begin) c.in_ok-put_u64-2.ensures.put c.put_u64-3.ensures.put))

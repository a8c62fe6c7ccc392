-- Each part is added behind those before it.
use Rattle.std.proofs.Common.{◌++◌}
use Rattle.frame_code.specs.Codes.{byte, sixteen_bytes}
use Rattle.log_format.proofs.PutLemmas.{put_then}
use Rattle.log_format.proofs.frames.write_payload.Goals as goal

pub returns-in_ok-push-in-Header-2 : goal.returns-in_ok-push-in-Header-2
returns-in_ok-push-in-Header-2 c =
    rw c.in-Header.is
    (put_then c.write.result c.args.out.now.items c.push.new.self.items c.write.new.out.items (byte c.in-Header.version)
    (byte c.in-Header.node ++ sixteen_bytes c.in-Header.cluster) c.in_ok-push-in-Header.ensures.items
    (put_then c.write.result c.push.new.self.items c.push-in-Header.new.self.items c.write.new.out.items (byte c.in-Header.node)
    (sixteen_bytes c.in-Header.cluster) c.in_ok-push-in-Header-2.ensures.items c.write.ensures))

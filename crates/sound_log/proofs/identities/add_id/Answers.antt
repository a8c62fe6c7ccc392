use Rattle.sound_log.proofs.IdentityLemmas.{put}
use Rattle.sound_log.proofs.identities.add_id.Goals as goal

pub returns-in-Ok : goal.returns-in-Ok
returns-in-Ok c =
    let id = c.args.id.now in
    put c.args.known.now.keys c.insert.new.self.keys (record { began = id.began; session = c.as_bytes.result; txn = id.txn }) id c.in-Ok.new
    (λ i. record { began = id.began; session = c.as_bytes.ensures i; txn = id.txn }) c.in-Ok.ensures.keys c.in-Ok.ensures.added

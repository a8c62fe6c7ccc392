use Rattle.live_operations.proofs.LiveLaws.{text_leaves_live, texts_leave_live, transaction_leaves_live}
use Rattle.live_operations.proofs.laws.texts_leave_live_operations.Goals as goal

pub returns : goal.returns
returns c = record { one = text_leaves_live; more = texts_leave_live; alone = transaction_leaves_live }

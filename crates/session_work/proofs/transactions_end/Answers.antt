use Rattle.std.proofs.Common.{refl}
use Rattle.session_work.proofs.OutcomeLaws.{commits_nothing, ended, may_end, rolls_back, to_commit}
use Rattle.session_work.proofs.transactions_end.Goals as goal

pub returns-clause-commits : goal.returns-clause-commits
returns-clause-commits c = λ G s seen t others o runs ends. to_commit G s seen t others o t.texts runs refl ends

pub returns-clause-nothing : goal.returns-clause-nothing
returns-clause-nothing c = λ G s seen t others o runs ends none. commits_nothing G s seen t others o t.texts runs refl ends none

pub returns-clause-rolls_back : goal.returns-clause-rolls_back
returns-clause-rolls_back c = λ G s seen t others o runs ends. rolls_back G s seen t others o t.texts runs refl ends

pub returns-clause-told : goal.returns-clause-told
returns-clause-told c = λ G s seen t others a seat is may. may_end G s seen seat t others a is may

pub returns-clause-over : goal.returns-clause-over
returns-clause-over c = ended

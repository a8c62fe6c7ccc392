use Rattle.std.proofs.Common.{◌≡◌, ap, sym, subst}
use Rattle.page_store.specs.Image.{blank_image}
use Rattle.page_workspace.specs.Spare.{IsIn}
use Rattle.phys_log.specs.Logs.{pages_of}
use Rattle.test_cases.proofs.HeadLemmas.{blank_beside}
use Rattle.test_cases.proofs.heads.state_at_end.Goals as goal

pub state_of-requires : goal.state_of-requires
state_of-requires c n none =
    let log : c.in-Ok-new.pages.entries ≡ c.args.log.now = ap (λ s. s.entries) c.in-Ok-new.ensures in
    let numbers : c.as_slice.result.now ≡ c.in-Ok.edited.items = c.as_slice.ensures.value in
    subst (λ entries. pages_of entries n ≡ blank_image) (sym log)
    (blank_beside (pages_of c.args.log.now) c.in-Ok.edited.items c.in-Ok.ensures.others n (λ i. none (subst (IsIn n) (sym numbers) i)))

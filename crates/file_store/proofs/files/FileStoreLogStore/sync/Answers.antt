use Rattle.std.proofs.Common.{◌≡◌, rules, subst, sym}
use Rattle.cdb_outside.specs.Parts.{IsFront}
use Rattle.cdb_outside.proofs.StopLemmas.{front_whole, on_err}
use Rattle.file_store.proofs.files.FileStoreLogStore.sync.Goals as goal

pub returns-in_err-catch_up-clause-part : goal.returns-in_err-catch_up-clause-part
returns-in_err-catch_up-clause-part g c =
    let kept : c.catch_up.new.self.waiting ≡ c.args.self.now.waiting = search rules in
    on_err _ (subst (λ w. IsFront w c.args.self.now.waiting) (sym kept) (front_whole _))

pub returns-then-is_err-clause-part : goal.returns-then-is_err-clause-part
returns-then-is_err-clause-part g c =
    let kept : c.self-2.inside.kept.waiting ≡ c.args.self.now.waiting = search rules in
    subst (λ w. IsFront w c.args.self.now.waiting) (sym kept) (front_whole _)

use Rattle.std.proofs.Common.{◌≡◌, ◌++◌, rules, subst, sym}
use Rattle.cdb_outside.specs.Parts.{IsFront}
use Rattle.cdb_outside.proofs.StopLemmas.{front_kept, on_err}
use Rattle.file_store.proofs.files.FileStoreLogStore.append.Goals as goal

pub returns-in_err-catch_up-clause-part : goal.returns-in_err-catch_up-clause-part
returns-in_err-catch_up-clause-part g c =
    let kept : c.catch_up.new.self.waiting ≡ c.args.self.now.waiting = search rules in
    on_err _ (subst (λ w. IsFront w (c.args.self.now.waiting ++ c.args.bytes.now)) (sym kept) (front_kept _ _))

pub returns-then-not-add-clause-part : goal.returns-then-not-add-clause-part
returns-then-not-add-clause-part g c =
    let kept : c.add.new.self.waiting ≡ c.args.self.now.waiting = search rules in
    subst (λ w. IsFront w (c.args.self.now.waiting ++ c.args.bytes.now)) (sym kept) (front_kept _ _)

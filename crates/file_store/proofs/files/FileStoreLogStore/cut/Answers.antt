use Rattle.std.proofs.Common.{◌≡◌, rules, subst, sym}
use Rattle.cdb_outside.specs.Parts.{IsFrontFrom}
use Rattle.cdb_outside.proofs.StopLemmas.{front_from_whole, on_err}
use Rattle.file_store.proofs.files.FileStoreLogStore.cut.Goals as goal

pub returns-in_err-catch_up-clause-part : goal.returns-in_err-catch_up-clause-part
returns-in_err-catch_up-clause-part g c =
    let kept : c.catch_up.new.self.durable ≡ c.args.self.now.durable = search rules in
    on_err _ (subst (λ d. IsFrontFrom c.args.at d c.args.self.now.durable) (sym kept) (front_from_whole _ _ c.requires.within))

pub returns-then-is_err-clause-part : goal.returns-then-is_err-clause-part
returns-then-is_err-clause-part g c =
    let kept : c.self-2.inside.kept.durable ≡ c.args.self.now.durable = search rules in
    subst (λ d. IsFrontFrom c.args.at d c.args.self.now.durable) (sym kept) (front_from_whole _ _ c.requires.within)

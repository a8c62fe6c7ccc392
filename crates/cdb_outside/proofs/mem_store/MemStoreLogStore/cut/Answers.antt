use Rattle.std.proofs.Common.{◌≡◌, rules, subst, sym}
use Rattle.cdb_outside.specs.Parts.{IsFrontFrom}
use Rattle.cdb_outside.proofs.StopLemmas.{front_from_whole}
use Rattle.cdb_outside.proofs.mem_store.MemStoreLogStore.cut.Goals as goal

pub returns-then-refuses-clause-part : goal.returns-then-refuses-clause-part
returns-then-refuses-clause-part c =
    let kept : c.self.inside.kept.durable ≡ c.args.self.now.durable = search rules in
    subst (λ d. IsFrontFrom c.args.at d c.args.self.now.durable) (sym kept) (front_from_whole _ _ c.requires.within)

use Rattle.std.proofs.Common.{◌≡◌, rules, subst, sym}
use Rattle.cdb_outside.specs.Parts.{IsFront}
use Rattle.cdb_outside.proofs.StopLemmas.{front_whole}
use Rattle.cdb_outside.proofs.mem_store.MemStoreLogStore.sync.Goals as goal

pub returns-then-refuses-clause-part : goal.returns-then-refuses-clause-part
returns-then-refuses-clause-part c =
    let kept : c.self.inside.kept.waiting ≡ c.args.self.now.waiting = search rules in
    subst (λ w. IsFront w c.args.self.now.waiting) (sym kept) (front_whole _)

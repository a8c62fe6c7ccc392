use Rattle.std.proofs.Common.{◌≡◌, ◌++◌, take, rules, subst, sym}
use Rattle.cdb_outside.specs.Parts.{IsFront}
use Rattle.cdb_outside.proofs.StopLemmas.{front_kept, front_part}
use Rattle.cdb_outside.proofs.mem_store.MemStoreLogStore.append.Goals as goal

pub returns-then-refuses-clause-part : goal.returns-then-refuses-clause-part
returns-then-refuses-clause-part c =
    let kept : c.self.inside.kept.waiting ≡ c.args.self.now.waiting = search rules in
    subst (λ w. IsFront w (c.args.self.now.waiting ++ c.args.bytes.now)) (sym kept) (front_kept _ _)

pub returns-then-not-add-clause-part : goal.returns-then-not-add-clause-part
returns-then-not-add-clause-part c =
    let kept : c.add.new.self.waiting ≡ c.args.self.now.waiting = search rules in
    subst (λ w. IsFront w (c.args.self.now.waiting ++ c.args.bytes.now)) (sym kept) (front_kept _ _)

pub returns-then-not-is_empty-clause-part : goal.returns-then-not-is_empty-clause-part
returns-then-not-is_empty-clause-part c =
    let kept : c.add.new.self.waiting ≡ c.args.self.now.waiting ++ take c.room-room.result c.args.bytes.now = search rules in
    subst (λ w. IsFront w (c.args.self.now.waiting ++ c.args.bytes.now)) (sym kept) (front_part c.room-room.result _ _)

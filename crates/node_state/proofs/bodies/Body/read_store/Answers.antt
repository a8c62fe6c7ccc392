use Rattle.std.proofs.Common.{refl, sym, ap, subst}
use Rattle.std.specs.Prelude.{true}
use Rattle.cdb_outside.specs.Faults.{Rose}
use Rattle.kept_log.specs.Kept.{OverStore, StandsStill}
use Rattle.node_reading.specs.declared.readings.WhyUnread.TheVariants as why
use Rattle.node_state.specs.Calls.{Falls}
use Rattle.node_state.specs.Nodes.{held}
use Rattle.node_state.specs.Stores.{StaysShut}
use Rattle.node_state.proofs.StartLaws.{read_shut, stored_still, unread_as}
use Rattle.node_state.proofs.bodies.Body.read_store.Goals as goal

pub returns-in-Ok-clause-node : goal.returns-in-Ok-clause-node
returns-in-Ok-clause-node g c = stored_still g.J.Plan.setting c.args.self.now.vote c.args.self.now.log.entries c.args.self.now.actor c.args.self.now.log c.read_store.new.log c.args.self.now.under_way c.requires.node c.requires.down refl (read_shut c.args.self.now.log c.read_store.new.log c.read_store.ensures.same c.read_store.ensures.still)

pub returns-in-Ok-clause-read : goal.returns-in-Ok-clause-read
returns-in-Ok-clause-read g c = ap (λ es. held c.args.self.now.vote es c.args.self.now.actor) (ap (λ (x : OverStore). x.entries) c.read_store.ensures.same)

pub returns-in-Ok-clause-shut : goal.returns-in-Ok-clause-shut
returns-in-Ok-clause-shut g c = read_shut c.args.self.now.log c.read_store.new.log c.read_store.ensures.same c.read_store.ensures.still

pub returns-in-Err-Corrupt-clause-node : goal.returns-in-Err-Corrupt-clause-node
returns-in-Err-Corrupt-clause-node g c = stored_still g.J.Plan.setting c.args.self.now.vote c.args.self.now.log.entries c.args.self.now.actor c.args.self.now.log c.read_store.new.log c.args.self.now.under_way c.requires.node c.requires.down refl (read_shut c.args.self.now.log c.read_store.new.log c.read_store.ensures.same c.read_store.ensures.still)

pub returns-in-Err-Corrupt-clause-read : goal.returns-in-Err-Corrupt-clause-read
returns-in-Err-Corrupt-clause-read g c = ap (λ es. held c.args.self.now.vote es c.args.self.now.actor) (ap (λ (x : OverStore). x.entries) c.read_store.ensures.same)

pub returns-in-Err-Corrupt-clause-shut : goal.returns-in-Err-Corrupt-clause-shut
returns-in-Err-Corrupt-clause-shut g c = read_shut c.args.self.now.log c.read_store.new.log c.read_store.ensures.same c.read_store.ensures.still

pub returns-in-Err-Unsound-clause-node : goal.returns-in-Err-Unsound-clause-node
returns-in-Err-Unsound-clause-node g c = stored_still g.J.Plan.setting c.args.self.now.vote c.args.self.now.log.entries c.args.self.now.actor c.args.self.now.log c.read_store.new.log c.args.self.now.under_way c.requires.node c.requires.down refl (read_shut c.args.self.now.log c.read_store.new.log c.read_store.ensures.same c.read_store.ensures.still)

pub returns-in-Err-Unsound-clause-read : goal.returns-in-Err-Unsound-clause-read
returns-in-Err-Unsound-clause-read g c = ap (λ es. held c.args.self.now.vote es c.args.self.now.actor) (ap (λ (x : OverStore). x.entries) c.read_store.ensures.same)

pub returns-in-Err-Unsound-clause-shut : goal.returns-in-Err-Unsound-clause-shut
returns-in-Err-Unsound-clause-shut g c = read_shut c.args.self.now.log c.read_store.new.log c.read_store.ensures.same c.read_store.ensures.still

pub returns-in-Err-NoMemory-clause-node : goal.returns-in-Err-NoMemory-clause-node
returns-in-Err-NoMemory-clause-node g c = stored_still g.J.Plan.setting c.args.self.now.vote c.args.self.now.log.entries c.args.self.now.actor c.args.self.now.log c.read_store.new.log c.args.self.now.under_way c.requires.node c.requires.down refl (read_shut c.args.self.now.log c.read_store.new.log c.read_store.ensures.same c.read_store.ensures.still)

pub returns-in-Err-NoMemory-clause-read : goal.returns-in-Err-NoMemory-clause-read
returns-in-Err-NoMemory-clause-read g c = ap (λ es. held c.args.self.now.vote es c.args.self.now.actor) (ap (λ (x : OverStore). x.entries) c.read_store.ensures.same)

pub returns-in-Err-NoMemory-clause-shut : goal.returns-in-Err-NoMemory-clause-shut
returns-in-Err-NoMemory-clause-shut g c = read_shut c.args.self.now.log c.read_store.new.log c.read_store.ensures.same c.read_store.ensures.still

pub fall_again-requires-clause-node : goal.fall_again-requires-clause-node
fall_again-requires-clause-node g c = stored_still g.J.Plan.setting c.args.self.now.vote c.args.self.now.log.entries c.args.self.now.actor c.args.self.now.log c.read_store.new.log c.args.self.now.under_way c.requires.node c.requires.down refl (read_shut c.args.self.now.log c.read_store.new.log c.read_store.ensures.same c.read_store.ensures.still)

pub returns-in-Err-StoreFault-clause-read : goal.returns-in-Err-StoreFault-clause-read
returns-in-Err-StoreFault-clause-read g c =
    subst (λ (x : OverStore). Falls true (held c.args.self.now.vote x.entries c.args.self.now.actor) (held c.fall_again.new.self.vote c.fall_again.new.self.log.entries c.fall_again.new.self.actor)) c.read_store.ensures.same c.fall_again.ensures.falls

pub returns-in-Err-StoreFault-clause-shut : goal.returns-in-Err-StoreFault-clause-shut
returns-in-Err-StoreFault-clause-shut g c = subst (λ (x : OverStore). StaysShut c.args.self.now.log x) (sym c.fall_again.ensures.log) (read_shut c.args.self.now.log c.read_store.new.log c.read_store.ensures.same c.read_store.ensures.still)

pub returns-in-Err-StoreFault-clause-still : goal.returns-in-Err-StoreFault-clause-still
returns-in-Err-StoreFault-clause-still g c = subst (λ (x : OverStore). StandsStill c.args.self.now.log.node c.args.self.now.log.cluster c.args.self.now.log.synced x.synced) (sym c.fall_again.ensures.log) c.read_store.ensures.still

pub returns-in-Err-Corrupt-clause-why : goal.returns-in-Err-Corrupt-clause-why
returns-in-Err-Corrupt-clause-why g c = unread_as c.in-Err-Corrupt.field-0 (why.Corrupt c.in-Err-Corrupt.at) c.args.self.now.log.node c.args.self.now.log.cluster c.args.self.now.log.synced c.args.self.now.log.faults c.read_store.new.log.faults c.in-Err-Corrupt.field-0-is c.in-Err-Corrupt.ensures.why

pub returns-in-Err-Unsound-clause-why : goal.returns-in-Err-Unsound-clause-why
returns-in-Err-Unsound-clause-why g c = unread_as c.in-Err-Unsound.field-0 why.Unsound c.args.self.now.log.node c.args.self.now.log.cluster c.args.self.now.log.synced c.args.self.now.log.faults c.read_store.new.log.faults c.in-Err-Unsound.field-0-is c.in-Err-Unsound.ensures.why

pub returns-in-Err-NoMemory-clause-why : goal.returns-in-Err-NoMemory-clause-why
returns-in-Err-NoMemory-clause-why g c = unread_as c.in-Err-NoMemory.field-0 why.NoMemory c.args.self.now.log.node c.args.self.now.log.cluster c.args.self.now.log.synced c.args.self.now.log.faults c.read_store.new.log.faults c.in-Err-NoMemory.field-0-is c.in-Err-NoMemory.ensures.why

pub returns-in-Err-StoreFault-clause-why : goal.returns-in-Err-StoreFault-clause-why
returns-in-Err-StoreFault-clause-why g c =
    subst (λ (x : OverStore). Rose c.args.self.now.log.faults x.faults) (sym c.fall_again.ensures.log) (unread_as c.in-Err-StoreFault.field-0 why.StoreFault c.args.self.now.log.node c.args.self.now.log.cluster c.args.self.now.log.synced c.args.self.now.log.faults c.read_store.new.log.faults c.in-Err-StoreFault.field-0-is c.in-Err-StoreFault.ensures.why)

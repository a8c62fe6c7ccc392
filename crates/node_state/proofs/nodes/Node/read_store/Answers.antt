use Rattle.std.proofs.Common.{subst}
use Rattle.std.specs.Prelude.{IfOk}
use Rattle.kept_log.specs.Kept.{StandsStill}
use Rattle.node_reading.specs.Reading.{WasFound, WasRead}
use Rattle.node_state.specs.Nodes.{held}
use Rattle.node_state.specs.Stores.{IsRead, StaysShut, Stored, held_of}
use Rattle.node_state.proofs.nodes.Node.read_store.Goals as goal

pub returns-clause-read : goal.returns-clause-read
returns-clause-read g c =
    subst (λ (n : Stored). IsRead c.read_store.result (held_of n) (held c.read_store.new.self.vote c.read_store.new.self.log.entries c.read_store.new.self.actor)) c.self.view_is c.read_store.ensures.read

pub returns-clause-found : goal.returns-clause-found
returns-clause-found g c = subst (λ (n : Stored). IfOk c.read_store.result (λ f. WasRead n.over c.read_store.new.self.log f.promised f.accepted f.state)) c.self.view_is c.read_store.ensures.found

pub returns-clause-log : goal.returns-clause-log
returns-clause-log g c =
    subst (λ (n : Stored). IfOk c.read_store.result (λ f. WasFound n.over c.read_store.new.self.log f.promised f.accepted f.length f.tables f.state)) c.self.view_is c.read_store.ensures.log

pub returns-clause-shut : goal.returns-clause-shut
returns-clause-shut g c = subst (λ (n : Stored). StaysShut n.over c.read_store.new.self.log) c.self.view_is c.read_store.ensures.shut

pub returns-clause-still : goal.returns-clause-still
returns-clause-still g c = subst (λ (n : Stored). StandsStill n.over.node n.over.cluster n.over.synced c.read_store.new.self.log.synced) c.self.view_is c.read_store.ensures.still

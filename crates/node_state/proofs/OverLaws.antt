-- What a call leaves of a node over its store.
use Rattle.std.proofs.Common.{ℕ, ◌≡◌, List, refl, ap, ◌∙◌, subst}
use Rattle.std.specs.Prelude.{true}
use Rattle.cdb_values.specs.declared.tables.TableDef.{TableDef}
use Rattle.cluster_events.specs.Settings.{Setting}
use Rattle.election_core.specs.Counted.{acted, counted}
use Rattle.election_core.specs.declared.messages.Action.{Action}
use Rattle.election_core.specs.declared.messages.Action.TheVariants as action
use Rattle.election_core.specs.declared.messages.Message.{Message}
use Rattle.election_core.specs.declared.votes.NodeVote.{NodeVote}
use Rattle.kept_log.specs.Kept.{OverStore}
use Rattle.phys_log.specs.declared.entries.Entry.{Entry}
use Rattle.node_state.specs.declared.faults.UnderWay.{UnderWay}
use Rattle.node_state.specs.Calls.{Answers, IsAsBefore, SetsUp, StandsAsCandidate, Probes, through}
use Rattle.node_state.specs.Commits.{Enters}
use Rattle.node_state.specs.Nodes.{Held, IsOwn}
use Rattle.node_state.specs.Packets.{SentPacket}
use Rattle.node_state.specs.Stores.{HasFailed, IsCalm, IsKeptBy, IsStored, StopsShort}
use Rattle.node_state.proofs.CallLaws.{partly_before}
use Rattle.node_state.proofs.NumberLaws.{counted_keeps}
use Rattle.node_state.proofs.StartLaws.{stored_up}

-- it is up still
acted_up : (v : NodeVote) (a : Action) → (acted v a).up ≡ v.up
acted_up v action.Nothing = refl
acted_up v (action.Promise g to) = refl
acted_up v (action.Lead g) = refl
acted_up v (action.Take g l) = refl
acted_up v (action.Know d) = refl
acted_up v (action.Answer m to) = refl

pub stored_stood : (G : Setting) (g : ℕ) (ps : List SentPacket) (old new : Held) (o : OverStore) (u : UnderWay) → IsOwn G new → IsKeptBy new.vote o → old.vote.up ≡ true → StandsAsCandidate g ps old new → IsStored G new o u
stored_stood G g ps old new o u own k up s = stored_up G new o u own k (ap (λ (v : NodeVote). v.up) s.vote ∙ up)

pub stored_probed : (G : Setting) (t : ℕ) (ps : List SentPacket) (old new : Held) (o : OverStore) (u : UnderWay) → IsOwn G new → IsKeptBy new.vote o → old.vote.up ≡ true → Probes t ps old new → IsStored G new o u
stored_probed G t ps old new o u own k up s = stored_up G new o u own k (ap (λ (v : NodeVote). v.up) s.vote ∙ up)

pub stored_set_up : (G : Setting) (tables : List TableDef) (ps : List SentPacket) (old new : Held) (o : OverStore) (u : UnderWay) → IsOwn G new → IsKeptBy new.vote o → old.vote.up ≡ true → SetsUp tables ps old new → IsStored G new o u
stored_set_up G tables ps old new o u own k up s = stored_up G new o u own k (ap (λ (v : NodeVote). v.up) s.vote ∙ up)

pub stored_entered : (G : Setting) (next : Entry) (ps : List SentPacket) (old new : Held) (o : OverStore) (u : UnderWay) → IsOwn G new → IsKeptBy new.vote o → old.vote.up ≡ true → Enters next ps old new → IsStored G new o u
stored_entered G next ps old new o u own k up s = stored_up G new o u own k (ap (λ (v : NodeVote). v.up) s.vote ∙ up)

pub stored_answered : (G : Setting) (m : Message) (es : List Entry) (ps : List SentPacket) (old new : Held) (o : OverStore) (u : UnderWay) → IsOwn G new → IsKeptBy new.vote o → old.vote.up ≡ true → Answers m es ps old new → IsStored G new o u
stored_answered G m es ps old new o u own k up a =
    stored_up G new o u own k (ap (λ (v : NodeVote). v.up) a.acts.vote ∙ (acted_up (counted old.vote m) (through m a.action) ∙ ((counted_keeps old.vote m).up ∙ up)))

-- after a look
pub calm_before : (o p q : OverStore) → p ≡ o → IsCalm p q → IsCalm o q
calm_before o p q e c = subst (λ (x : OverStore). IsCalm x q) e c

pub short_before : (m : Message) (es : List Entry) (old mid new : Held) (o p q : OverStore) → IsAsBefore old mid → p ≡ o → StopsShort m es mid new p q → StopsShort m es old new o q
short_before m es old mid new o p q a e s = record { partly = partly_before m es old mid new a s.partly; calm = calm_before o p q e s.calm }

pub failed_before : (o p q : OverStore) → p ≡ o → HasFailed p q → HasFailed o q
failed_before o p q e r = subst (λ (x : OverStore). HasFailed x q) e r

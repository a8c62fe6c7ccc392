-- What is decided of a request and done about it is what the request is answered.
use Rattle.std.specs.declared.alloc.Global.{Global}
use Rattle.std.specs.Prelude.{Vec}
use Rattle.std.proofs.Common.{ℕ, ◌≡◌, ◌<◌, ◌∙◌, List, [], ◌∷◌, ◌++◌, inr, refl, sym, subst}
use Rattle.block_processor.specs.Decided.{Decides}
use Rattle.cluster_events.specs.Settings.{Setting}
use Rattle.cluster_requests.specs.Requests.{Sent}
use Rattle.log_rows.specs.History.{Ground}
use Rattle.node_state.specs.Commits.{Settles}
use Rattle.node_state.specs.Nodes.{Held}
use Rattle.node_state.specs.Packets.{SentPacket}
use Rattle.phys_log.specs.declared.entries.CommitId.{CommitId}
use Rattle.phys_log.specs.declared.entries.Entry.{Entry}
use Rattle.phys_log.specs.declared.requests.CommitRequest.{CommitRequest}
use Rattle.phys_log.specs.declared.requests.Decision.{Decision}
use Rattle.phys_log.specs.declared.requests.Decision.TheVariants as decision
use Rattle.node_commits.specs.declared.steps.CommitStep.{CommitStep}
use Rattle.node_commits.specs.declared.steps.CommitStep.TheVariants as step
use Rattle.node_commits.specs.Asked.{IsOver, IsSentTo, IsToAnswer, LeadsIn, log_at}
use Rattle.node_commits.specs.Commits.{DoesCommit, IsAnswered, IsDecided, IsDone, IsFallen, IsFault, IsGiven, IsTelling}
use Rattle.node_commits.specs.Ledgers.{Book, IsBookOf, IsUntold, settlement}

-- a leader of the generation in which the request was sent may answer it
pub to_answer : (G : Setting) (h : Held) (b : Book) (sent : Sent) (request : CommitRequest) (g : ℕ) → 0 < h.actor.room → IsBookOf b h → LeadsIn h.vote g
    → IsSentTo G h.actor.seen h.vote.node g sent request → IsOver G (log_at G h.actor.seen h.vote.node) sent request → IsUntold b.told request.id → IsToAnswer G h b sent request
to_answer G h b sent request g room book leads asked over untold = record {
  room = room;
  book = book;
  leads = record { up = leads.up; leading = leads.leading; accepted = refl };
  asked = record { mem = asked.mem; to = asked.to; gen = asked.gen ∙ sym leads.accepted; says = asked.says };
  over = over;
  untold = untold;
}

-- a decision that is no entry is told in place of one
pub tells : (d : Decision) → ((next : Entry) → d ≡ decision.Commit next → ⊥) → IsTelling d
tells (decision.Repeat position) other = tt
tells (decision.Conflict position item) other = tt
tells (decision.Duplicate position table key) other = tt
tells (decision.Commit next) other = other next refl

pub done_by_telling : (id : CommitId) (d : Decision) (ps : List SentPacket) (b c : Book) (old new : Held) → IsTelling d → Settles id d old new → ps ≡ []
    → c.told ≡ b.told ++ settlement id d ∷ [] → IsDone id d ps b c old new
done_by_telling id (decision.Repeat position) ps b c old new telling settles none told = (settles, none, told)
done_by_telling id (decision.Conflict position item) ps b c old new telling settles none told = (settles, none, told)
done_by_telling id (decision.Duplicate position table key) ps b c old new telling settles none told = (settles, none, told)
done_by_telling id (decision.Commit next) ps b c old new telling settles none told = absurd telling

fallen : (footing : Ground) (request : CommitRequest) (d : Decision) (b c : Book) (old new : Held) → IsUntold b.told request.id
    → Decides footing request old.entries old.vote.accepted d → IsFault d b c old new → IsFallen footing request b c old new
fallen footing request (decision.Repeat position) b c old new untold decides is = absurd is
fallen footing request (decision.Conflict position item) b c old new untold decides is = absurd is
fallen footing request (decision.Duplicate position table key) b c old new untold decides is = absurd is
fallen footing request (decision.Commit next) b c old new untold decides is = record { untold = untold; next = next; decides = decides; falls = is.0; book = is.1 }

pub given : (footing : Ground) (request : CommitRequest) (id : CommitId) (d : Decision) (b c : Book) (old new : Held) → id ≡ request.id → IsUntold b.told request.id
    → Decides footing request old.entries old.vote.accepted d → (s : CommitStep (Vec SentPacket Global)) → DoesCommit id d s b c old new → IsGiven footing request s b c old new
given footing request id d b c old new same untold decides step.Down does = does
given footing request id d b c old new same untold decides (step.NotMaster h) does = does
given footing request id d b c old new same untold decides step.Fault does = fallen footing request d b c old new untold decides does
given footing request id d b c old new same untold decides (step.Decided told ps) does =
    subst (λ (x : Decision). IsDecided footing request x ps.items b c old new) (sym does.0)
    (record { untold = untold; decides = decides; done = subst (λ (i : CommitId). IsDone i d ps.items b c old new) same does.1 })

pub answered : (footing : Ground) (request : CommitRequest) (g : ℕ) (b c : Book) (old new : Held) → LeadsIn old.vote g
    → (s : CommitStep (Vec SentPacket Global)) → IsGiven footing request s b c old new → IsAnswered footing request g s b c old new
answered footing request g b c old new leads step.Down is = absurd is
answered footing request g b c old new leads (step.NotMaster h) is = absurd is
answered footing request g b c old new leads step.Fault is = (leads, is)
answered footing request g b c old new leads (step.Decided d ps) is = (leads, inr is)

-- What a node answers to a request, and what it does about it.
use Rattle.std.specs.declared.alloc.Global.{Global}
use Rattle.std.specs.Prelude.{Vec, ℕ, ◌≡◌, ◌⊎◌, true, false, List, [], ◌∷◌, ◌++◌}
use Rattle.block_processor.specs.Decided.{Decides}
use Rattle.log_rows.specs.History.{Ground}
use Rattle.kept_log.specs.Kept.{OverStore}
use Rattle.node_state.specs.Calls.{Falls, IsAsBefore}
use Rattle.node_state.specs.Commits.{Enters, Settles}
use Rattle.node_state.specs.Nodes.{Held}
use Rattle.node_state.specs.Packets.{SentPacket}
use Rattle.node_state.specs.Stores.{HasFailed, IsCalm}
use Rattle.phys_log.specs.declared.entries.CommitId.{CommitId}
use Rattle.phys_log.specs.declared.entries.Entry.{Entry}
use Rattle.phys_log.specs.declared.requests.CommitRequest.{CommitRequest}
use Rattle.phys_log.specs.declared.requests.Decision.{Decision}
use Rattle.phys_log.specs.declared.requests.Decision.TheVariants as decision
use Rattle.node_commits.specs.declared.steps.CommitStep.{CommitStep}
use Rattle.node_commits.specs.declared.steps.CommitStep.TheVariants as step
use Rattle.node_commits.specs.Asked.{LeadsIn}
use Rattle.node_commits.specs.Ledgers.{Book, IsTold, IsUntold, settlement}

-- nothing is done
pub record IsIdle (b c : Book) (old new : Held) : Type 0 where
  pub same : IsAsBefore old new
  pub book : c ≡ b

-- it told that decision before, in the generation that it leads: it gives it again
pub record IsToldAgain (request : CommitRequest) (d : Decision) (ps : List SentPacket) (b c : Book) (old new : Held) : Type 0 where
  pub told : IsTold b.told request.id d
  pub none : ps ≡ []
  pub idle : IsIdle b c old new

-- a decision is told in place of an entry
abbrev pub IsTelling : Decision → Type 0
IsTelling (decision.Commit next) = ⊥
IsTelling d = Unit {0}

-- an entry is appended and shipped; another decision is told, and kept
abbrev pub IsDone : CommitId → Decision → List SentPacket → Book → Book → Held → Held → Type 0
IsDone id (decision.Commit next) ps b c old new = Enters next ps old new × (c.told ≡ b.told)
IsDone id d ps b c old new = Settles id d old new × (ps ≡ []) × (c.told ≡ b.told ++ settlement id d ∷ [])

-- the store failed at an entry: the node goes down by a fault, without it
abbrev pub IsFault : Decision → Book → Book → Held → Held → Type 0
IsFault (decision.Commit next) b c old new = Falls true old new × (c ≡ b)
IsFault d b c old new = ⊥

-- it gives this decision, and does that
abbrev pub DoesCommit : CommitId → Decision → CommitStep (Vec SentPacket Global) → Book → Book → Held → Held → Type 0
DoesCommit id d step.Down b c old new = ⊥
DoesCommit id d (step.NotMaster h) b c old new = ⊥
DoesCommit id d step.Fault b c old new = IsFault d b c old new
DoesCommit id d (step.Decided told ps) b c old new = (told ≡ d) × IsDone id d ps.items b c old new

-- it told nothing of the request; it decides, and does that
pub record IsDecided (footing : Ground) (request : CommitRequest) (d : Decision) (ps : List SentPacket) (b c : Book) (old new : Held) : Type 0 where
  pub untold : IsUntold b.told request.id
  pub decides : Decides footing request old.entries old.vote.accepted d
  pub done : IsDone request.id d ps b c old new

-- it told nothing of the request, and decides on an entry, at which its store fails
pub record IsFallen (footing : Ground) (request : CommitRequest) (b c : Book) (old new : Held) : Type 0 where
  pub untold : IsUntold b.told request.id
  pub next : Entry
  pub decides : Decides footing request old.entries old.vote.accepted (decision.Commit next)
  pub falls : Falls true old new
  pub book : c ≡ b

abbrev pub IsGiven : Ground → CommitRequest → CommitStep (Vec SentPacket Global) → Book → Book → Held → Held → Type 0
IsGiven footing request step.Down b c old new = ⊥
IsGiven footing request (step.NotMaster h) b c old new = ⊥
IsGiven footing request step.Fault b c old new = IsFallen footing request b c old new
IsGiven footing request (step.Decided d ps) b c old new = IsDecided footing request d ps.items b c old new

-- each answer exactly where it is so
abbrev pub IsAnswered : Ground → CommitRequest → ℕ → CommitStep (Vec SentPacket Global) → Book → Book → Held → Held
    → Type 0
IsAnswered footing request g step.Down b c old new = (old.vote.up ≡ false) × IsIdle b c old new
IsAnswered footing request g (step.NotMaster h) b c old new = (old.vote.up ≡ true) × (LeadsIn old.vote g → ⊥) × (h ≡ old.vote.promised) × IsIdle b c old new
IsAnswered footing request g step.Fault b c old new = LeadsIn old.vote g × IsFallen footing request b c old new
IsAnswered footing request g (step.Decided d ps) b c old new = LeadsIn old.vote g × (IsToldAgain request d ps.items b c old new ⊎ IsDecided footing request d ps.items b c old new)

-- what the call did to the store: no call of it failed where there is a decision, it was not asked where there is none, and where
-- the node tells a fault, its count of faults rose
abbrev pub AsksAtCommit : CommitStep (Vec SentPacket Global) → OverStore → OverStore → Type 0
AsksAtCommit step.Down old new = new ≡ old
AsksAtCommit (step.NotMaster h) old new = new ≡ old
AsksAtCommit step.Fault old new = HasFailed old new
AsksAtCommit (step.Decided d ps) old new = IsCalm old new

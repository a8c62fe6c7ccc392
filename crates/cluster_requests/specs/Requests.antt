-- Requests to commit, and refusals, over a legal history: what is sent, what is settled, and what may be appended.
use Rattle.std.specs.Prelude.{ℕ, ◌≡◌, ◌≢◌, ◌==◌, ◌≤◌, true, cond, List, [], ◌∷◌, Some}
use Rattle.cdb_values.specs.declared.rows.Level.{Level}
use Rattle.cdb_values.specs.declared.rows.RowOp.{RowOp}
use Rattle.cluster_consensus.specs.Enabled.{Enabled}
use Rattle.cluster_consensus.specs.Events.{NodeEvent}
use Rattle.cluster_consensus.specs.Events.NodeEvent.{Append, BackAppend, Lead}
use Rattle.cluster_consensus.specs.Facts.{World, blank}
use Rattle.cluster_consensus.specs.Histories.{happens}
use Rattle.core_lists.specs.Lists.{Each, Has}
use Rattle.phys_log.specs.declared.entries.CommitId.{CommitId}
use Rattle.cluster_requests.specs.KeptEntries.{KeptEntry}
use Rattle.cluster_requests.specs.KeptEntries.KeptEntry.{SetupKept, CommitKept}
use Rattle.cdb_values.specs.declared.replies.Reply.{Reply}
use Rattle.session_language.specs.Touched.{Used}
use Rattle.cluster_requests.specs.Identities.{generation_of, identity_of, HasAt, Lacks}

-- a commit is sent, by this session's actor
pub record Sent : Type 0 where
  pub by : ℕ
  pub id : CommitId
  pub to : ℕ
  pub gen : ℕ
  pub begin : ℕ
  pub level : Level
  pub ops : List RowOp
  pub used : List Used

-- a refusal, with the log over which it was decided, as it is told
pub record Settled : Type 0 where
  pub id : CommitId
  pub gen : ℕ
  pub by : ℕ
  pub log : List KeptEntry
  pub why : Reply

-- an event of the nodes, a commit that is sent, or a commit that its leader settles: by a refusal, or by the position at which
-- its entry stands already
pub data FieldAct : Type 0 where
  Core : NodeEvent KeptEntry → FieldAct
  ToSend : Sent → FieldAct
  ToSettle : CommitId → Reply → FieldAct
  ToRepeat : CommitId → ℕ → FieldAct

-- the nodes with the requests: all that was sent, what each node settled in the generation that it leads, and all refusals
pub record Field : Type 0 where
  pub core : World KeptEntry
  pub sends : List Sent
  pub settled : ℕ → List CommitId
  pub settles : List Settled

-- a commit was asked for, of this leader in its generation; the setup is the first entry of a log
abbrev pub IsAskedFor : List Sent → ℕ → ℕ → List KeptEntry → KeptEntry → Type 0
IsAskedFor sends i g log (SetupKept generation schema records reached) = log ≡ []
IsAskedFor sends i g log (CommitKept generation id begin level changes records reached) = Has (λ s. (s.id ≡ id) × (s.to ≡ i) × (s.gen ≡ g)) sends

-- an entry may be appended: in the generation of its leader, asked for, not settled, and not there yet
pub record MayAppend (f : Field) (i : ℕ) (e : KeptEntry) : Type 0 where
  pub made : generation_of e ≡ (f.core.nodes i).accepted
  pub asked : IsAskedFor f.sends i (f.core.nodes i).accepted (f.core.nodes i).log e
  pub unsettled : Each (λ t. identity_of e ≢ Some t) (f.settled i)
  pub new : (id : CommitId) → identity_of e ≡ Some id → Lacks id (f.core.nodes i).log

-- a commit was sent to this leader in its generation
abbrev pub IsSentTo : Field → ℕ → CommitId → Type 0
IsSentTo f i id = Has (λ s. (s.id ≡ id) × (s.to ≡ i) × (s.gen ≡ (f.core.nodes i).accepted)) f.sends

abbrev pub MayEnter : Field → ℕ → NodeEvent KeptEntry → Type 0
MayEnter f i (Append e) = MayAppend f i e
MayEnter f i (BackAppend e) = MayAppend f i e
MayEnter f i _ = Unit {0}

abbrev pub May : ℕ → Field → ℕ → FieldAct → Type 0
May n f i (Core e) = Enabled n f.core i (f.core.nodes i) e × MayEnter f i e
May n f i (ToSend x) = Each (λ s. s.id ≡ x.id → s.gen ≤ x.gen) f.sends
May n f i (ToSettle id why) = ((f.core.nodes i).up ≡ true) × ((f.core.nodes i).leading ≡ true) × Lacks id (f.core.nodes i).log
May n f i (ToRepeat id k) = ((f.core.nodes i).up ≡ true) × ((f.core.nodes i).leading ≡ true) × HasAt id k (f.core.nodes i).log × IsSentTo f i id

-- a node's settled identities are those since its Lead
abbrev pub settled_with : List CommitId → NodeEvent KeptEntry → List CommitId
settled_with xs Lead = []
settled_with xs _ = xs

abbrev pub does : Field → ℕ → FieldAct → Field
does f i (Core e) = record { core = happens f.core i e; sends = f.sends; settled = λ k. cond (k == i) (settled_with (f.settled k) e) (f.settled k); settles = f.settles }
does f i (ToSend x) = record { core = f.core; sends = x ∷ f.sends; settled = f.settled; settles = f.settles }
does f i (ToSettle id why) = record { core = f.core; sends = f.sends; settled = λ k. cond (k == i) (id ∷ f.settled k) (f.settled k); settles = record { id = id; gen = (f.core.nodes i).accepted; by = i; log = (f.core.nodes i).log; why = why } ∷ f.settles }
does f i (ToRepeat id position) = record { core = f.core; sends = f.sends; settled = λ k. cond (k == i) (id ∷ f.settled k) (f.settled k); settles = f.settles }

-- the field after a list of acts, whose newest comes first
abbrev pub field_after : List (ℕ × FieldAct) → Field
field_after [] = record { core = record { nodes = λ k. blank; admits = []; asks = [] }; sends = []; settled = λ k. []; settles = [] }
field_after (x ∷ h) = does (field_after h) x.0 x.1

abbrev pub AllMay : ℕ → List (ℕ × FieldAct) → Type 0
AllMay n [] = Unit {0}
AllMay n (x ∷ h) = May n (field_after h) x.0 x.1 × AllMay n h

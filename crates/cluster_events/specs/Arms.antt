-- Arms: a session lets a node be stopped during one of its lines.
--
-- It lets an arm fire once the barriers before its line are told and its moment has come: a row was just given at its own node,
-- its commit was appended by the master, or is durable. By that the node may be stopped while it is up since. The session does
-- nothing more before the node was down.
use Rattle.std.specs.Prelude.{ℕ, ◌≡◌, ◌≢◌, ◌==◌, cond, true, false, List, [], ◌∷◌, ◌++◌, Option, Some, None}
use Rattle.cluster_events.specs.Guards.{Commits, HasWaited, IsKept, commit_id_of}
use Rattle.cluster_events.specs.Operator.{act_at, count_of}
use Rattle.cluster_events.specs.Parts.{ActorEvent, part, field, lines}
use Rattle.cluster_events.specs.Parts.ActorEvent.{Fire}
use Rattle.cluster_events.specs.Settings.{Setting}
use Rattle.cluster_events.specs.Sites.{site}
use Rattle.cluster_requests.specs.Identities.{identity_of}
use Rattle.cluster_requests.specs.KeptEntries.{KeptEntry}
use Rattle.cluster_requests.specs.Requests.{Field}
use Rattle.core_lists.specs.Fronts.{Front}
use Rattle.core_lists.specs.Lists.{Each, Has}
use Rattle.phys_log.specs.declared.entries.CommitId.{CommitId}
use Rattle.report_laws.specs.Nodes.{is_up}
use Rattle.script_form.specs.declared.scripts.Act.TheVariants as act
use Rattle.script_form.specs.declared.scripts.BodyLine.{BodyLine}
use Rattle.script_form.specs.declared.scripts.Moment.{Moment}
use Rattle.script_form.specs.declared.scripts.Moment.TheVariants as moment

-- an arm that fired: its session, its line of the script, and the node with how often it had come up
pub record Fired : Type 0 where
  pub by : ℕ
  pub line : ℕ
  pub node : ℕ
  pub ups : ℕ

abbrev pub new_fires : List (ℕ × ActorEvent) → ℕ → ActorEvent → List Fired
new_fires h i (Fire line node) = record { by = i; line = line; node = node; ups = (count_of node h).ups } ∷ []
new_fires h i _ = []

abbrev pub fires : List (ℕ × ActorEvent) → List Fired
fires [] = []
fires (x ∷ h) = new_fires h x.0 x.1 ++ fires h

-- the arm that a session's last event let fire, if it did
abbrev pub fired_by : List (ℕ × ActorEvent) → ℕ → ActorEvent → Option Fired
fired_by h i (Fire line node) = Some (record { by = i; line = line; node = node; ups = (count_of node h).ups })
fired_by h i _ = None

abbrev pub last_fired : ℕ → List (ℕ × ActorEvent) → Option Fired
last_fired s [] = None
last_fired s (x ∷ h) = cond (s == x.0) (fired_by h x.0 x.1) (last_fired s h)

-- the node of that arm was down at some place since
pub record FellSince (G : Setting) (h : List (ℕ × ActorEvent)) (s : ℕ) (f : Fired) : Type 0 where
  pub later : List (ℕ × ActorEvent)
  pub before : List (ℕ × ActorEvent)
  pub split : h ≡ later ++ before
  pub since : last_fired s before ≡ Some f
  pub down : is_up f.node (lines G before) ≡ false

abbrev pub HasFallen : Setting → List (ℕ × ActorEvent) → ℕ → Option Fired → Type 0
HasFallen G h s None = Unit {0}
HasFallen G h s (Some f) = FellSince G h s f

-- a node shipped a log that has an entry of this identity
abbrev pub IsAppended : Field → CommitId → ℕ → Type 0
IsAppended f id node = Has (λ c. (before : List KeptEntry) × (entry : KeptEntry) × Front (before ++ entry ∷ []) c.log × (identity_of entry ≡ Some id)) (f.core.nodes node).ships

-- the moment of an arm has come
abbrev pub IsDue : Setting → List (ℕ × ActorEvent) → ℕ → ℕ → Moment → Type 0
IsDue G h s node (moment.Row row) = node ≡ (site G s h).node
IsDue G h s node moment.Append = (c : Commits G h s) × IsAppended (field h) (commit_id_of G s c.txn c.start) node
IsDue G h s node moment.Ship = (c : Commits G h s) × IsAppended (field h) (commit_id_of G s c.txn c.start) node × (k : ℕ) × IsKept (field h) (commit_id_of G s c.txn c.start) k

-- a session may let the arm at this line fire at this node
pub record MayFire (G : Setting) (body : List BodyLine) (h : List (ℕ × ActorEvent)) (s line node : ℕ) : Type 0 where
  pub when : Moment
  pub stands : act_at body line ≡ Some (act.Arm (G.names s) when)
  pub armed : G.armed s (part G s h).told line ≡ true
  pub waited : HasWaited G h s
  pub once : Each (λ f. f.by ≡ s → f.line ≢ line) (fires h)
  pub due : IsDue G h s node when

-- a node may be stopped by an arm that fired while it is up since
abbrev pub IsStopArmed : List (ℕ × ActorEvent) → ℕ → Type 0
IsStopArmed h i = Has (λ f. (f.node ≡ i) × (f.ups ≡ (count_of i h).ups)) (fires h)

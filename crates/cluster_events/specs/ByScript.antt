-- Histories that are by the script: its operator's lines, its arms, its feeds.
use Rattle.std.specs.Prelude.{ℕ, ◌≡◌, ◌⊎◌, true, false, List, [], ◌∷◌, length}
use Rattle.cluster_consensus.specs.Events.NodeEvent.{Boot, Back, BackLead, BackTake, BackGrow, BackAppend}
use Rattle.cluster_events.specs.Arms.{HasFallen, last_fired, MayFire, IsStopArmed}
use Rattle.cluster_events.specs.Guards.{AllBeyond}
use Rattle.cluster_events.specs.Operator.{count_of, duty, IsStopOrdered, IsStartOrdered, IsObeyed, IsOfNode}
use Rattle.cluster_events.specs.Parts.{ActorEvent, lines}
use Rattle.cluster_events.specs.Parts.ActorEvent.{Node, Stop, Ask, Order, Obeyed, Fire, Barrier, Fed, FedAgain}
use Rattle.cluster_events.specs.Settings.{Setting}
use Rattle.report_laws.specs.Nodes.{is_up}
use Rattle.script_form.specs.declared.scripts.Act.{Act}
use Rattle.script_form.specs.declared.scripts.Act.TheVariants as act
use Rattle.script_form.specs.declared.scripts.BodyLine.{BodyLine}

-- what the script asks of each event
-- the operator's next line is a stop or a start, and it is not ordered yet
pub record IsOrderDue (body : List BodyLine) (h : List (ℕ × ActorEvent)) : Type 0 where
  pub unordered : (duty body h).ordered ≡ false
  pub line : ℕ
  pub act : Act
  pub rest : List (ℕ × Act)
  pub next : (duty body h).left ≡ (line, act) ∷ rest
  pub of_node : IsOfNode act

-- its next line is a feed; and the feed at the end comes behind all lines of the sessions
abbrev pub IsFeedNext : List BodyLine → List (ℕ × ActorEvent) → Type 0
IsFeedNext body h = (line : ℕ) × (rest : List (ℕ × Act)) × ((duty body h).left ≡ (line, act.Feed) ∷ rest)

abbrev pub IsFeedDue : Setting → List BodyLine → List (ℕ × ActorEvent) → Type 0
IsFeedDue G body h = (line : ℕ) × (rest : List (ℕ × Act)) × ((duty body h).left ≡ (line, act.Feed) ∷ rest) × (line ≡ length G.script.body → AllBeyond G h)

abbrev pub Heeds : Setting → List BodyLine → List (ℕ × ActorEvent) → ℕ → ActorEvent → Type 0
Heeds G body h i (Node (Boot p a l)) = ((count_of i h).up ≡ false) × ((is_up i (lines G h) ≡ true) ⊎ IsStartOrdered body h i)
Heeds G body h i (Node (Back p)) = ((count_of i h).up ≡ false) × IsStartOrdered body h i
Heeds G body h i (Node BackLead) = ((count_of i h).up ≡ false) × IsStartOrdered body h i
Heeds G body h i (Node (BackTake g l)) = ((count_of i h).up ≡ false) × IsStartOrdered body h i
Heeds G body h i (Node (BackGrow l)) = ((count_of i h).up ≡ false) × IsStartOrdered body h i
Heeds G body h i (Node (BackAppend e)) = ((count_of i h).up ≡ false) × IsStartOrdered body h i
Heeds G body h i Stop = ((count_of i h).up ≡ true) × (IsStopOrdered body h i ⊎ IsStopArmed h i)
Heeds G body h i Order = IsOrderDue body h
Heeds G body h i Obeyed = IsObeyed G body h
Heeds G body h i Barrier = (line : ℕ) × (rest : List (ℕ × Act)) × ((duty body h).left ≡ (line, act.Barrier) ∷ rest)
Heeds G body h i (Ask t) = i ≡ 0 → IsFeedDue G body h
Heeds G body h i (Fed d g) = IsFeedNext body h
Heeds G body h i (FedAgain d) = IsFeedNext body h
Heeds G body h i (Fire line node) = MayFire G body h i line node
Heeds G body h i _ = Unit {0}

-- an event is by the script, and behind an arm that its actor let fire
pub record IsByScript (G : Setting) (body : List BodyLine) (h : List (ℕ × ActorEvent)) (i : ℕ)
    (e : ActorEvent) : Type 0 where
  pub heeds : Heeds G body h i e
  pub goes_on : HasFallen G h i (last_fired i h)

abbrev pub AllHeed : Setting → List BodyLine → List (ℕ × ActorEvent) → Type 0
AllHeed G body [] = Unit {0}
AllHeed G body (x ∷ h) = IsByScript G body h x.0 x.1 × AllHeed G body h

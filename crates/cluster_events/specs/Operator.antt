-- The operator's lines of a script: when each is ordered, obeyed or printed, and the places that they have in a report. And
-- how often a node came up and went down, of which orders and arms speak.
use Rattle.std.specs.Prelude.{ℕ, ◌≡◌, ◌+◌, ◌==◌, ◌++◌, ◌∷◌, [], List, Bool, true, false, cond, Option, slice_get, option_map, map, ◌⊎◌}
use Rattle.cluster_consensus.specs.Events.NodeEvent.{Down, Boot, Back, BackLead, BackTake, BackGrow, BackAppend}
use Rattle.core_lists.specs.Lists.{Has}
use Rattle.report_laws.specs.Nodes.{is_up}
use Rattle.report_text.specs.declared.reports.Line.{Line}
use Rattle.report_text.specs.declared.reports.Line.TheVariants as line
use Rattle.script_form.specs.declared.scripts.Act.{Act}
use Rattle.script_form.specs.declared.scripts.Act.TheVariants as act
use Rattle.script_form.specs.declared.scripts.BodyLine.{BodyLine}
use Rattle.cluster_events.specs.Settings.{Setting}
use Rattle.cluster_events.specs.Parts.{ActorEvent, lines}
use Rattle.cluster_events.specs.Parts.ActorEvent.{Node, Stop, Order, Obeyed, Barrier, Fed, FedAgain}

-- the line of the script at a place
abbrev pub act_at : List BodyLine → ℕ → Option Act
act_at body k = option_map (λ l. l.act) (slice_get body k)

-- there are places for the operator's lines, in their order
pub record JustFell (node : ℕ) (ls : List Line) : Type 0 where
  pub count : ℕ
  pub front : List Line
  pub stands : ls ≡ front ++ line.Down count node true ∷ []

abbrev pub IsHeeded : Act → List Line → Type 0
IsHeeded (act.Stop node) ls = is_up node ls ≡ false
IsHeeded (act.Start node) ls = (is_up node ls ≡ true) ⊎ JustFell node ls
IsHeeded _ ls = Unit {0}

abbrev pub HavePlaces : List Act → List Line → List Line → Type 0
HavePlaces [] before rest = Unit {0}
HavePlaces (a ∷ as') before rest = (mid : List Line) × (later : List Line) × (rest ≡ mid ++ later) × IsHeeded a (before ++ mid) × HavePlaces as' (before ++ mid) later

-- a history: how often a node came up and went down, and whether it is up

pub data Turn : Type 0 where
  Rise : Turn
  Fall : Turn
  Keep : Turn

abbrev pub turn : ActorEvent → Turn
turn (Node (Boot p a l)) = Rise
turn (Node (Back p)) = Rise
turn (Node BackLead) = Rise
turn (Node (BackTake g l)) = Rise
turn (Node (BackGrow l)) = Rise
turn (Node (BackAppend e)) = Rise
turn (Node Down) = Fall
turn Stop = Fall
turn _ = Keep

pub record Count : Type 0 where
  pub up : Bool
  pub ups : ℕ
  pub falls : ℕ

abbrev pub turn_counted : Count → Turn → Count
turn_counted t Rise = record { up = true; ups = t.ups + 1; falls = t.falls }
turn_counted t Fall = record { up = false; ups = t.ups; falls = t.falls + 1 }
turn_counted t Keep = t

abbrev pub count_of : ℕ → List (ℕ × ActorEvent) → Count
count_of k [] = record { up = false; ups = 0; falls = 0 }
count_of k (x ∷ h) = cond (k == x.0) (turn_counted (count_of k h) (turn x.1)) (count_of k h)

-- the operator: its lines that are left, with their places in the script, and whether the next is ordered
abbrev pub operators_if : ℕ → Act → List (ℕ × Act) → List (ℕ × Act)
operators_if k (act.Say session text) rest = rest
operators_if k (act.Arm session moment) rest = rest
operators_if k a rest = (k, a) ∷ rest

abbrev pub operators_from : ℕ → List BodyLine → List (ℕ × Act)
operators_from k [] = []
operators_from k (l ∷ ls) = operators_if k l.act (operators_from (k + 1) ls)

abbrev pub acts_of : List (ℕ × Act) → List Act
acts_of xs = map (λ x. x.1) xs

pub record Duty : Type 0 where
  pub left : List (ℕ × Act)
  pub ordered : Bool

abbrev pub next_left : List (ℕ × Act) → List (ℕ × Act)
next_left [] = []
next_left (x ∷ xs) = xs

abbrev pub over : Duty → Duty
over d = record { left = next_left d.left; ordered = false }

abbrev pub fed_over : List (ℕ × Act) → Duty → Duty
fed_over ((k, act.Feed) ∷ rest) d = over d
fed_over _ d = d

abbrev pub heed : Duty → ActorEvent → Duty
heed d Order = record { left = d.left; ordered = true }
heed d Obeyed = over d
heed d Barrier = over d
heed d (Fed p g) = fed_over d.left d
heed d (FedAgain p) = fed_over d.left d
heed d _ = d

abbrev pub duty : List BodyLine → List (ℕ × ActorEvent) → Duty
duty body [] = record { left = operators_from 0 body; ordered = false }
duty body (x ∷ h) = heed (duty body h) x.1

-- an order, with the numbers that its node had
pub record Ordered : Type 0 where
  pub line : ℕ
  pub act : Act
  pub ups : ℕ
  pub falls : ℕ

abbrev pub node_in : Act → ℕ
node_in (act.Stop node) = node
node_in (act.Start node) = node
node_in _ = 0

abbrev pub new_orders : List (ℕ × ActorEvent) → ActorEvent → List (ℕ × Act) → List Ordered
new_orders h Order (x ∷ rest) = record { line = x.0; act = x.1; ups = (count_of (node_in x.1) h).ups; falls = (count_of (node_in x.1) h).falls } ∷ []
new_orders h _ _ = []

abbrev pub orders : List BodyLine → List (ℕ × ActorEvent) → List Ordered
orders body [] = []
orders body (x ∷ h) = new_orders h x.1 (duty body h).left ++ orders body h

-- a node is stopped by an order of a stop with its number of ups, and comes up by one of a start with its number of downs
abbrev pub IsStopOrdered : List BodyLine → List (ℕ × ActorEvent) → ℕ → Type 0
IsStopOrdered body h i = Has (λ o. (o.act ≡ act.Stop i) × (o.ups ≡ (count_of i h).ups)) (orders body h)

abbrev pub IsStartOrdered : List BodyLine → List (ℕ × ActorEvent) → ℕ → Type 0
IsStartOrdered body h i = Has (λ o. (o.act ≡ act.Start i) × (o.falls ≡ (count_of i h).falls)) (orders body h)

-- a stop or a start
abbrev pub IsOfNode : Act → Type 0
IsOfNode (act.Stop node) = Unit {0}
IsOfNode (act.Start node) = Unit {0}
IsOfNode _ = ⊥

-- a node just went down by a fault, and the operator had ordered its line before that
pub record FellOrdered (body : List BodyLine) (h : List (ℕ × ActorEvent)) (node : ℕ) : Type 0 where
  pub before : List (ℕ × ActorEvent)
  pub fell : h ≡ (node, Node Down) ∷ before
  pub ordered : (duty body before).ordered ≡ true

-- a stop or a start is heeded at a place
abbrev pub IsHeededAt : Setting → List BodyLine → List (ℕ × ActorEvent) → Act → Type 0
IsHeededAt G body h (act.Stop node) = is_up node (lines G h) ≡ false
IsHeededAt G body h (act.Start node) = (is_up node (lines G h) ≡ true) ⊎ FellOrdered body h node
IsHeededAt G body h _ = Unit {0}

-- at some place since its order a line of the operator was heeded
pub record IsObeyed (G : Setting) (body : List BodyLine) (h : List (ℕ × ActorEvent)) : Type 0 where
  pub later : List (ℕ × ActorEvent)
  pub before : List (ℕ × ActorEvent)
  pub split : h ≡ later ++ before
  pub same : (duty body before).left ≡ (duty body h).left
  pub ordered : (duty body h).ordered ≡ true
  pub line : ℕ
  pub act : Act
  pub rest : List (ℕ × Act)
  pub next : (duty body h).left ≡ (line, act) ∷ rest
  pub of_node : IsOfNode act
  pub since : (duty body before).ordered ≡ true
  pub heeded : IsHeededAt G body before act

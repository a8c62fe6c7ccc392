-- All events: of nodes, of sessions, of the operator; what each changes in its actor's part, and the lines that they print.
use Rattle.std.specs.Prelude.{ℕ, ◌+◌, ◌==◌, Bool, true, false, cond, List, [], ◌∷◌, ◌++◌, Option, Some, None}
use Rattle.cluster_consensus.specs.Events.{NodeEvent}
use Rattle.cluster_consensus.specs.Events.NodeEvent.{Down, Boot, Back, BackLead, BackTake, BackGrow, BackAppend, Asks}
use Rattle.cluster_requests.specs.Requests.{Sent, FieldAct, Field, field_after}
use Rattle.cluster_requests.specs.Requests.FieldAct.{Core, ToSend, ToSettle, ToRepeat}
use Rattle.phys_log.specs.declared.entries.CommitId.{CommitId}
use Rattle.cluster_requests.specs.KeptEntries.{KeptEntry}
use Rattle.report_laws.specs.Nodes.{downs, is_up}
use Rattle.report_laws.specs.Told.{Numbered}
use Rattle.report_laws.specs.Work.{WorkItem, Lone, number_of}
use Rattle.report_text.specs.declared.reports.Line.{Line}
use Rattle.report_text.specs.declared.reports.Line.TheVariants as line
use Rattle.cdb_values.specs.declared.replies.Reply.{Reply}
use Rattle.cdb_values.specs.declared.replies.Reply.TheVariants as reply
use Rattle.cluster_events.specs.Settings.{Setting, work_of}

-- what an actor does. A node: an event of the core, a stop, what it tells of a request. A session: it asks for a begin, is told
-- one, a reply inside a transaction or outside one, sends its commit, is told an outcome, moves, lets an arm fire. The operator: it
-- asks for a begin, orders a stop or a start and sees it obeyed, prints a barrier, and a feed that is answered or repeats
pub data ActorEvent : Type 0 where
  Node : NodeEvent KeptEntry → ActorEvent
  Stop : ActorEvent
  Settle : CommitId → Reply → ActorEvent
  Repeat : CommitId → ℕ → ActorEvent
  Ask : ℕ → ActorEvent
  Begun : (begin gen : ℕ) → ActorEvent
  Say : Reply → ActorEvent
  Note : ActorEvent
  Send : Sent → ActorEvent
  Finish : Reply → ActorEvent
  Move : ℕ → ActorEvent
  Order : ActorEvent
  Obeyed : ActorEvent
  Fire : (line node : ℕ) → ActorEvent
  Barrier : ActorEvent
  Fed : (position gen : ℕ) → ActorEvent
  FedAgain : ℕ → ActorEvent

pub record Opened : Type 0 where
  pub begin : ℕ
  pub gen : ℕ

pub record Began : Type 0 where
  pub txn : ℕ
  pub begin : ℕ
  pub gen : ℕ

-- an actor's part: what is over of its work, what is left, what it was told of the first that is left and in all, its ask, its
-- open begin and all its begins
pub record Part : Type 0 where
  pub over : List WorkItem
  pub left : List WorkItem
  pub mine : List Reply
  pub told : List Numbered
  pub asked : Option ℕ
  pub opened : Option Opened
  pub begins : List Began

abbrev pub head_number : List WorkItem → ℕ
head_number [] = 0
head_number (i ∷ is) = number_of i

abbrev pub head_of : List WorkItem → List WorkItem
head_of [] = []
head_of (i ∷ is) = i ∷ []

abbrev pub rest_of : List WorkItem → List WorkItem
rest_of [] = []
rest_of (i ∷ is) = is

abbrev pub lone_of : List WorkItem → Reply
lone_of (Lone r ∷ is) = r
lone_of _ = reply.NoMemory

-- a line more, and the item is over
abbrev pub with_told : Part → Reply → Part
with_told p a = record p { mine = p.mine ++ a ∷ []; told = p.told ++ (head_number p.left, a) ∷ []; asked = None }

abbrev pub with_item_over : Part → Part
with_item_over p = record p { over = p.over ++ head_of p.left; left = rest_of p.left; mine = []; opened = None }

abbrev pub moves : Part → ActorEvent → Part
moves p (Ask t) = record p { asked = Some t }
moves p (Begun b g) = record (with_told p (reply.Begin b)) { opened = Some (record { begin = b; gen = g }); begins = record { txn = head_number p.left; begin = b; gen = g } ∷ p.begins }
moves p (Say r) = with_told p r
moves p Note = with_item_over (with_told p (lone_of p.left))
moves p (Finish a) = with_item_over (with_told p a)
moves p Barrier = record p { asked = None }
moves p (Fed d g) = record p { asked = None }
moves p (FedAgain d) = record p { asked = None }
moves p _ = p

abbrev pub part : Setting → ℕ → List (ℕ × ActorEvent) → Part
part G s [] = record { over = []; left = work_of G s; mine = []; told = []; asked = None; opened = None; begins = [] }
part G s (x ∷ h) = cond (s == x.0) (moves (part G s h) x.1) (part G s h)

-- what the core sees
abbrev pub add_act : ℕ → ActorEvent → List (ℕ × FieldAct) → List (ℕ × FieldAct)
add_act i (Node e) more = (i, Core e) ∷ more
add_act i Stop more = (i, Core Down) ∷ more
add_act i (Settle id why) more = (i, ToSettle id why) ∷ more
add_act i (Repeat id k) more = (i, ToRepeat id k) ∷ more
add_act i (Ask t) more = (i, Core (Asks t)) ∷ more
add_act i (Send x) more = (i, ToSend x) ∷ more
add_act i _ more = more

abbrev pub acts : List (ℕ × ActorEvent) → List (ℕ × FieldAct)
acts [] = []
acts (x ∷ h) = add_act x.0 x.1 (acts h)

abbrev pub field : List (ℕ × ActorEvent) → Field
field h = field_after (acts h)

abbrev pub barriers_printed : List (ℕ × ActorEvent) → ℕ
barriers_printed [] = 0
barriers_printed ((i, Barrier) ∷ h) = barriers_printed h + 1
barriers_printed (x ∷ h) = barriers_printed h

-- the lines. A node's first time up is told only where the lines have it down
abbrev pub up_line : Bool → ℕ → List Line
up_line true i = []
up_line false i = line.Up i ∷ []

abbrev pub lines_by : Setting → List Line → Part → ℕ → ActorEvent → List Line
lines_by G before p i (Node Down) = line.Down (downs before + 1) i true ∷ []
lines_by G before p i (Node (Boot q a l)) = up_line (is_up i before) i
lines_by G before p i (Node (Back q)) = line.Up i ∷ []
lines_by G before p i (Node BackLead) = line.Up i ∷ []
lines_by G before p i (Node (BackTake g l)) = line.Up i ∷ []
lines_by G before p i (Node (BackGrow l)) = line.Up i ∷ []
lines_by G before p i (Node (BackAppend e)) = line.Up i ∷ []
lines_by G before p i Stop = line.Down (downs before + 1) i false ∷ []
lines_by G before p i (Begun b g) = line.Session (G.names i) (head_number p.left) (reply.Begin b) ∷ []
lines_by G before p i (Say r) = line.Session (G.names i) (head_number p.left) r ∷ []
lines_by G before p i Note = line.Session (G.names i) (head_number p.left) (lone_of p.left) ∷ []
lines_by G before p i (Finish a) = line.Session (G.names i) (head_number p.left) a ∷ []
lines_by G before p i Barrier = line.Barrier ∷ []
lines_by G before p i (Fed d g) = line.Fed d ∷ []
lines_by G before p i (FedAgain d) = line.Fed d ∷ []
lines_by G before p i _ = []

abbrev pub lines : Setting → List (ℕ × ActorEvent) → List Line
lines G [] = []
lines G (x ∷ h) = lines G h ++ lines_by G (lines G h) (part G x.0 h) x.0 x.1
